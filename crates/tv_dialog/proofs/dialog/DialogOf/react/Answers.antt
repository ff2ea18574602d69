use Rattle.std.proofs.Common.{arith, ◌≡◌, ◌<◌, true, false, None, length, ap, sym, subst, refl, ◌∙◌}
use Rattle.tv_view.specs.declared.reaction.Reaction.TheVariants as reactions
use Rattle.tv_machine.specs.Dialog.Focus.{is_granted, request, requested}
use Rattle.tv_machine.specs.Dialog.Modal.{Modal, leaf_at}
use Rattle.tv_dialog.specs.declared.dialog.DialogOf.{DialogOf}
use Rattle.tv_dialog.specs.Settling.{reacted_first}
use Rattle.tv_dialog.specs.Standing.{Stands}
use Rattle.tv_group.specs.TreeTurns.{pressed_at}
use Rattle.tv_group.proofs.Tree.RuledLemmas.{pressed-keeps}
use Rattle.tv_dialog.proofs.DamageLemmas.{body-called, body-then}
use Rattle.tv_dialog.proofs.StandsLemmas.{restands}
use Rattle.tv_dialog.proofs.TurnCodeLemmas.{ended-request, granted-then, keeps-as, refused-then, stands-item, stands-pressed}
use Rattle.tv_dialog.proofs.dialog.DialogOf.react.Goals as goal

pub returns-in-Focus-clause-stands : goal.returns-in-Focus-clause-stands
returns-in-Focus-clause-stands g c d ruled m lawful few going keeps s =
    let look = g.V.View.meaning in
    let old = restands look d ruled m.leaves m c.args.self.now (keeps (keeps-as c.args.reaction (reactions.Focus c.in-Focus.id) c.in-Focus.is (λ j e. cc))) s in
    subst (λ r. Stands look d (reacted_first d r m).leaves (reacted_first d r m) c.request.new.self) (sym c.in-Focus.is)
    (c.request.ensures.stands d m lawful (omega (arith, few)) old)

pub returns-then-request-clause-stands : goal.returns-then-request-clause-stands
returns-then-request-clause-stands g c d ruled m lawful few going keeps s =
    let look = g.V.View.meaning in
    let i = c.in-FocusPress.id in
    let item = c.in-FocusPress.item in
    let is = c.in-FocusPress.is in
    let asked = c.request-in-FocusPress in
    let old = restands look d ruled m.leaves m c.args.self.now (keeps (keeps-as c.args.reaction (reactions.FocusPress i item) is (λ j e. cc))) s in
    let granted : is_granted (requested d m i) ≡ true = sym (asked.ensures.granted d m lawful old) ∙ c.if-request.true in
    let n : Modal = request d i m in
    let there = asked.ensures.stands d m lawful (omega (arith, few)) old in
    let pressed : DialogOf g.row.V.Denot = record asked.new.self { body = c.press_item.new.self; damage = c.press_item.new.damage } in
    let stands = stands-item look d lawful n i item asked.new.self pressed
    (record { head = refl; plan = refl; «open» = refl; ended = refl; ruled = refl; marks = refl }) refl refl c.press_item.ensures.leaves there in
    let goes : (pressed_at d i item n).ended ≡ None
    = pressed-keeps (λ x. x.ended ≡ None) d (λ j k x p. p) (leaf_at d i) item n (ended-request d m i ∙ going) in
    subst (λ r. Stands look d (reacted_first d r m).leaves (reacted_first d r m) c.reapply_rules.new.self) (sym is)
    (subst (λ t. Stands look d t.leaves t c.reapply_rules.new.self) (sym (granted-then d i (pressed_at d i item) m granted))
    (c.reapply_rules.ensures.stands d n.leaves (pressed_at d i item n) lawful goes stands))

pub returns-then-request-clause-drawn : goal.returns-then-request-clause-drawn
returns-then-request-clause-drawn g c =
    let look = g.V.View.meaning in
    let asked : DialogOf g.row.V.Denot = c.request-in-FocusPress.new.self in
    let pressed : DialogOf g.row.V.Denot = record asked { body = c.press_item.new.self; damage = c.press_item.new.damage } in
    body-then look c.args.self.now asked c.reapply_rules.new.self c.request-in-FocusPress.ensures.drawn
    (body-then look asked pressed c.reapply_rules.new.self (body-called look asked pressed refl refl refl refl c.press_item.ensures.damage) c.reapply_rules.ensures.drawn)

pub returns-else-request-clause-stands : goal.returns-else-request-clause-stands
returns-else-request-clause-stands g c d ruled m lawful few going keeps s =
    let look = g.V.View.meaning in
    let i = c.in-FocusPress.id in
    let item = c.in-FocusPress.item in
    let is = c.in-FocusPress.is in
    let asked = c.request-in-FocusPress in
    let old = restands look d ruled m.leaves m c.args.self.now (keeps (keeps-as c.args.reaction (reactions.FocusPress i item) is (λ j e. cc))) s in
    let refused : is_granted (requested d m i) ≡ false = sym (asked.ensures.granted d m lawful old) ∙ c.if-request.false in
    subst (λ r. Stands look d (reacted_first d r m).leaves (reacted_first d r m) asked.new.self) (sym is)
    (subst (λ t. Stands look d t.leaves t asked.new.self) (sym (refused-then d i (pressed_at d i item) m refused))
    (asked.ensures.stands d m lawful (omega (arith, few)) old))

pub returns-in-Post-clause-stands : goal.returns-in-Post-clause-stands
returns-in-Post-clause-stands g c d ruled m lawful few going keeps s =
    let look = g.V.View.meaning in
    let i = c.in-Post.id in
    let is = c.in-Post.is in
    let old = restands look d ruled m.leaves m c.args.self.now (keeps (keeps-as c.args.reaction (reactions.Post i c.in-Post.command) is (λ j e. cc))) s in
    let room : length c.args.self.now.log.items < 66 = omega (arith, few, ap length s.log) in
    let new : DialogOf g.row.V.Denot = record c.args.self.now { pending = c.post.new.self; log = c.note.new.log } in
    subst (λ r. Stands look d (reacted_first d r m).leaves (reacted_first d r m) new) (sym is)
    (stands-pressed look d lawful m.leaves m i c.args.self.now new (record { head = refl; plan = refl; «open» = refl; ended = refl; ruled = refl; marks = refl }) refl refl
    (c.note.ensures room) old)

pub returns-in-Pass-clause-stands : goal.returns-in-Pass-clause-stands
returns-in-Pass-clause-stands g c d ruled m lawful few going keeps s =
    subst (λ r. Stands g.V.View.meaning d (reacted_first d r m).leaves (reacted_first d r m) c.args.self.now) (sym c.in-Pass.is)
    (restands g.V.View.meaning d ruled m.leaves m c.args.self.now (keeps (keeps-as c.args.reaction reactions.Pass c.in-Pass.is (λ j e. cc))) s)

pub returns-in-Done-clause-stands : goal.returns-in-Done-clause-stands
returns-in-Done-clause-stands g c d ruled m lawful few going keeps s =
    subst (λ r. Stands g.V.View.meaning d (reacted_first d r m).leaves (reacted_first d r m) c.args.self.now) (sym c.in-Done.is)
    (restands g.V.View.meaning d ruled m.leaves m c.args.self.now (keeps (keeps-as c.args.reaction reactions.Done c.in-Done.is (λ j e. cc))) s)

pub returns-in-Capture-clause-stands : goal.returns-in-Capture-clause-stands
returns-in-Capture-clause-stands g c d ruled m lawful few going keeps s =
    subst (λ r. Stands g.V.View.meaning d (reacted_first d r m).leaves (reacted_first d r m) c.args.self.now) (sym c.in-Capture.is)
    (restands g.V.View.meaning d ruled m.leaves m c.args.self.now
    (keeps (keeps-as c.args.reaction (reactions.Capture c.in-Capture.field-0) c.in-Capture.is (λ j e. cc))) s)

pub returns-in-Release-clause-stands : goal.returns-in-Release-clause-stands
returns-in-Release-clause-stands g c d ruled m lawful few going keeps s =
    subst (λ r. Stands g.V.View.meaning d (reacted_first d r m).leaves (reacted_first d r m) c.args.self.now) (sym c.in-Release.is)
    (restands g.V.View.meaning d ruled m.leaves m c.args.self.now (keeps (keeps-as c.args.reaction reactions.Release c.in-Release.is (λ j e. cc))) s)
