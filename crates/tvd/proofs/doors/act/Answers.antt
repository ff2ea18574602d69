use Rattle.std.proofs.Common.{Option, refl, subst}
use Rattle.tv_held.specs.declared.asked.Asked.{Asked}
use Rattle.tvd.specs.Doors.{IsToldBy}
use Rattle.tvd.proofs.doors.act.Goals as goal

pub returns : goal.returns
returns c = λ h held.
    let d = c.told_by-told.ensures h held in
    let told = c.told_by-told.result in (
      d.0,
      d.1,
      record {
        told = told;
        is = subst (λ (a : Option Asked). IsToldBy a c.args.input.now h d.0 c.args.room.now c.told_by-told.new.room told) c.of.ensures d.2;
        count = refl;
        answers = c.number.ensures;
      },
    )
