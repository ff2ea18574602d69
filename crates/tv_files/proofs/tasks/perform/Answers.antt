use Rattle.std.proofs.Common.{refl}
use Rattle.tv_files.proofs.tasks.perform.Goals as goal

pub returns-in-Check : goal.returns-in-Check
returns-in-Check g c = rw c.in-Check.is (refl, c.whole.ensures.done, rw c.whole.ensures.end c.check_file.ensures)

pub returns-in-Accept : goal.returns-in-Accept
returns-in-Accept g c = rw c.in-Accept.is (refl, c.whole-in-Accept.ensures.done, rw c.whole-in-Accept.ensures.end c.accept_file.ensures)

pub returns-in-Run : goal.returns-in-Run
returns-in-Run g c = rw c.in-Run.is (refl, c.whole-in-Run.ensures.done, rw c.whole-in-Run.ensures.end c.run_file.ensures)

pub returns-in-Play : goal.returns-in-Play
returns-in-Play g c = rw c.in-Play.is c.play_file.ensures

pub returns-in-Record : goal.returns-in-Record
returns-in-Record g c = rw c.in-Record.is c.record_file.ensures

pub returns-in-Picture : goal.returns-in-Picture
returns-in-Picture g c = rw c.in-Picture.is (refl, c.whole-in-Picture.ensures.done, rw c.whole-in-Picture.ensures.end c.picture_file.ensures)

pub returns-in-PictureAll : goal.returns-in-PictureAll
returns-in-PictureAll g c = rw c.in-PictureAll.is (refl, c.whole-in-PictureAll.ensures.done, rw c.whole-in-PictureAll.ensures.end c.picture_all.ensures)

pub returns-in-Fill : goal.returns-in-Fill
returns-in-Fill g c = rw c.in-Fill.is (refl, c.whole-in-Fill.ensures.done, rw c.whole-in-Fill.ensures.end c.fill_file.ensures)

pub returns-in-Answer : goal.returns-in-Answer
returns-in-Answer g c = rw c.in-Answer.is (refl, c.whole-in-Answer.ensures.done, rw c.whole-in-Answer.ensures.end c.answer_file.ensures)

pub returns-in-Box : goal.returns-in-Box
returns-in-Box g c = rw c.in-Box.is (refl, c.whole-in-Box.ensures.done, rw c.whole-in-Box.ensures.end c.write_box.ensures)

pub returns-in-Explain : goal.returns-in-Explain
returns-in-Explain g c = rw c.in-Explain.is (refl, c.explain_file.ensures)

pub returns-in-ExplainBoth : goal.returns-in-ExplainBoth
returns-in-ExplainBoth g c = rw c.in-ExplainBoth.is (refl, c.explain_files.ensures)

pub returns-in-Version : goal.returns-in-Version
returns-in-Version g c = rw c.in-Version.is (refl, c.whole-in-Version.ensures.done, rw c.whole-in-Version.ensures.end c.tell_version.ensures)

pub returns-in-Ways : goal.returns-in-Ways
returns-in-Ways g c = rw c.in-Ways.is (refl, c.ways_file.ensures)

pub returns-in-Way : goal.returns-in-Way
returns-in-Way g c = rw c.in-Way.is (refl, c.way_file.ensures)

pub returns-in-Warn : goal.returns-in-Warn
returns-in-Warn g c = rw c.in-Warn.is (refl, c.warn_file.ensures)
