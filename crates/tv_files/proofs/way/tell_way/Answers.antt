use Rattle.std.proofs.Common.{Ok, Err, None, refl, subst}
use Rattle.tv_advice.specs.declared.manner.Manner.TheVariants.{Plain}
use Rattle.tv_files.specs.Ends.{done_in, end_of}
use Rattle.tv_files.specs.Explaining.{ExplainsTo}
use Rattle.tv_files.specs.Way.{EndsWay}
use Rattle.tv_files.specs.Way.WayAs.{faulty, sound}
use Rattle.tv_files.proofs.way.tell_way.Goals as goal

pub returns-in-Ok-Some : goal.returns-in-Ok-Some
returns-in-Ok-Some g c =
    let told = subst (λ found. ExplainsTo Plain c.args.file.now c.args.text.now (g.W.Writer.seen c.args.out.now) (g.W.Writer.seen c.explain.new.out) (Ok found)) c.in-Ok-Some.field-0-is c.in-Ok-Some.ensures in
    sound c.in-Ok-Some.desc told.0
    (subst (λ seen. EndsWay c.args.file.now c.in-Ok-Some.desc c.args.wanted.dialog.now c.args.wanted.end seen (g.W.Writer.seen c.find_way.new.out) (done_in c.find_way.result) (end_of c.find_way.result)) told.1 c.find_way.ensures)

pub returns-in-Ok-None : goal.returns-in-Ok-None
returns-in-Ok-None g c =
    let told = subst (λ found. ExplainsTo Plain c.args.file.now c.args.text.now (g.W.Writer.seen c.args.out.now) (g.W.Writer.seen c.explain.new.out) (Ok found)) c.in-Ok-None.field-0-is c.in-Ok-None.ensures in
    faulty (Ok None) told tt refl refl

pub returns-in-Err : goal.returns-in-Err
returns-in-Err g c = faulty (Err c.in-Err.fault) c.in-Err.ensures tt refl c.new.ensures
