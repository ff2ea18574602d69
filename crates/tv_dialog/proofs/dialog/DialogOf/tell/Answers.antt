use Rattle.std.proofs.Common.{refl}
use Rattle.tv_dialog.specs.declared.dialog.DialogOf.{DialogOf}
use Rattle.tv_dialog.proofs.DamageLemmas.{body-called, body-then}
use Rattle.tv_dialog.proofs.SettleLemmas.{posted-by}
use Rattle.tv_dialog.proofs.TurnEventLemmas.{comes-told}
use Rattle.tv_dialog.proofs.dialog.DialogOf.tell.Goals as goal

pub returns-clause-stands : goal.returns-clause-stands
returns-clause-stands g c d m lawful lentby ready s =
    let mid : DialogOf g.row.V.Denot = record c.args.self.now { body = c.handle-reaction.new.self; damage = c.handle-reaction.new.damage } in
    comes-told g.V.View.meaning d lawful m c.args.env.now lentby c.args.self.now mid c.react.new.self c.handle-reaction.result s refl
    c.react.ensures.pending (λ ruled n few going keeps there. c.react.ensures.stands d ruled n lawful few going keeps there)
    c.args.event.now ready c.handle-reaction.ensures.reaction c.handle-reaction.ensures.after

pub returns-clause-pending : goal.returns-clause-pending
returns-clause-pending g c = posted-by c.handle-reaction.result c.react.new.self.pending c.react.ensures.pending

pub returns-clause-drawn : goal.returns-clause-drawn
returns-clause-drawn g c =
    let look = g.V.View.meaning in
    let old = c.args.self.now in
    let mid : DialogOf g.row.V.Denot = record old { body = c.handle-reaction.new.self; damage = c.handle-reaction.new.damage } in
    body-then look old mid c.react.new.self (body-called look old mid refl refl refl refl c.handle-reaction.ensures.damage) c.react.ensures.drawn
