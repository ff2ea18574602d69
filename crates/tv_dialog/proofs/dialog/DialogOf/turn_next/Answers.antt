use Rattle.std.proofs.Common.{sym, subst, refl, ◌∙◌}
use Rattle.tv_dialog.specs.Settling.{SettlesTo, IsReadyFor, turned}
use Rattle.tv_dialog.proofs.SettleLemmas.{first-is, rest-none}
use Rattle.tv_dialog.proofs.TurnCodeLemmas.{stands-alike}
use Rattle.tv_dialog.proofs.dialog.DialogOf.turn_next.Goals as goal

pub turn-requires : goal.turn-requires
turn-requires g c = c.next.ensures.rest ∙ rest-none c.args.self.now.pending c.requires

pub returns-in-Some-clause-stands : goal.returns-in-Some-clause-stands
returns-in-Some-clause-stands g c d m e lawful views ready waits s =
    let look = g.V.View.meaning in
    let is = first-is c.args.self.now.pending e c.in-Some.event waits (sym c.in-Some.is ∙ c.next.ensures.first) in
    let kept = stands-alike look d m.leaves m c.args.self.now _ (record { head = refl; plan = refl; «open» = refl; ended = refl; ruled = refl; marks = refl }) refl refl refl s in
    subst (λ x. SettlesTo look d (turned d x m) c.turn.new.self) is (c.turn.ensures.stands d m lawful views (subst (IsReadyFor d m) (sym is) ready) kept)
