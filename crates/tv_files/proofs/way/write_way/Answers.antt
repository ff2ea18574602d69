use Rattle.std.proofs.Common.{List, ap, subst}
use Rattle.tv_event.specs.declared.event.Event.{Event}
use Rattle.tv_files.specs.Ends.{done_in, end_of, end_of_failure}
use Rattle.tv_files.specs.Way.{WritesScript, is_way}
use Rattle.tv_files.specs.Way.EndsAt.{reached}
use Rattle.tv_files.proofs.WaysLemmas.{unreached-by}
use Rattle.tv_reach.specs.declared.answer.Answer.{Answer}
use Rattle.tv_reach.specs.declared.goal.Goal.TheVariants.{Ends}
use Rattle.tv_reach.specs.Answers.{IsAnswer}
use Rattle.tv_ways.specs.Asking.{HasSayableWay}
use Rattle.tv_files.proofs.way.write_way.Goals as goal

pub returns-in-Way : goal.returns-in-Way
returns-in-Way g c =
    reached c.in-Way.events (
      subst (λ (answer : Answer). IsAnswer c.args.sound.desc.now c.args.place (Ends c.args.end) answer) c.in-Way.is c.in-Ok.ensures.answer,
      subst (λ (answer : Answer). HasSayableWay c.args.sound.desc.now answer) c.in-Way.is c.in-Ok.ensures.sayable,
    )
    (subst (λ (events : List Event). WritesScript c.args.sound.file.now events (g.W.Writer.seen c.args.out.now) (g.W.Writer.seen c.write_script.new.out) (done_in c.write_script.result) (end_of c.write_script.result)) c.as_slice.ensures c.write_script.ensures)

pub returns-in-Never : goal.returns-in-Never
returns-in-Never g c =
    unreached-by c.args.sound.file.now c.args.sound.desc.now c.args.place c.args.end (g.W.Writer.seen c.args.out.now) c.in-Ok.answer c.unreached.result (end_of_failure c.without.result)
    c.in-Ok.ensures.answer (ap is_way c.in-Never.is) c.unreached.ensures c.without.ensures

pub returns : goal.returns
returns g c =
    unreached-by c.args.sound.file.now c.args.sound.desc.now c.args.place c.args.end (g.W.Writer.seen c.args.out.now) c.in-Ok.answer c.unreached-in-Unknown.result (end_of_failure c.without-in-Unknown.result)
    c.in-Ok.ensures.answer (ap is_way c.in-Unknown.is) c.unreached-in-Unknown.ensures c.without-in-Unknown.ensures
