use Rattle.std.proofs.Common.{map, refl, string_bytes, subst}
use Rattle.tv_boxes.specs.Asked.{RefusesWords}
use Rattle.tv_io.specs.Writer.{Cuts, Takes}
use Rattle.tv_files.specs.Boxes.WritesBox.{written, cut, refused}
use Rattle.tv_files.proofs.boxes.write_box.Goals as goal

pub returns-in-Ok-write_all : goal.returns-in-Ok-write_all
returns-in-Ok-write_all g c =
    written _ c.in-Ok.ensures.text (subst (Takes (g.W.Writer.seen c.args.out.now) (g.W.Writer.seen c.write_all.new.out)) c.as_bytes.ensures.value c.in-Ok-write_all.ensures) refl

pub returns-in-Ok : goal.returns-in-Ok
returns-in-Ok g c =
    cut _ c.in-Ok.ensures.text (subst (Cuts (g.W.Writer.seen c.args.out.now) (g.W.Writer.seen c.write_all.new.out)) c.as_bytes.ensures.value c.in-Err.ensures) c.outside.ensures

pub returns : goal.returns
returns g c = refused _ (subst (RefusesWords (map string_bytes c.args.words.now)) c.in-Err-Told.field-0-is c.in-Err-Told.ensures.fault) refl refl
