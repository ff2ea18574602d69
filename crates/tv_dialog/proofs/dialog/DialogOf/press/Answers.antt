use Rattle.std.proofs.Common.{arith, inl, ◌≡◌, ◌<◌, true, false, length, ap, sym, subst, refl, ◌∙◌}
use Rattle.tv_event.specs.declared.event.Phase.TheVariants as phases
use Rattle.tv_view.specs.declared.reaction.Reaction.TheVariants.{Focus}
use Rattle.tv_machine.specs.Dialog.Focus.{is_granted, requested}
use Rattle.tv_group.specs.Handling.{group_after, group_answer}
use Rattle.tv_group.specs.Opened.{opened}
use Rattle.tv_dialog.specs.declared.dialog.DialogOf.{DialogOf}
use Rattle.tv_dialog.specs.Settling.{SettlesTo, turned}
use Rattle.tv_group.proofs.Tree.FlagLemmas.{flags-same}
use Rattle.tv_dialog.proofs.DamageLemmas.{body-called, body-then}
use Rattle.tv_dialog.proofs.PressCodeLemmas.{answer_down, leaves_down, over-comes, press-over, pressed, stands-again, stands-asking, stands-refused}
use Rattle.tv_dialog.proofs.SettleLemmas.{posted-by}
use Rattle.tv_dialog.proofs.TurnCodeLemmas.{comes-handled}
use Rattle.tv_dialog.proofs.dialog.DialogOf.press.Goals as goal

pub returns-then-request-clause-stands : goal.returns-then-request-clause-stands
returns-then-request-clause-stands g c d m lawful lentby p is ready s =
    let look = g.V.View.meaning in
    let old = c.args.self.now in
    let env = c.args.env.now in
    let i = c.in-Focus.id in
    let mid : DialogOf g.row.V.Denot = record old { body = c.handle.new.self; damage = c.handle.new.damage } in
    let asked : DialogOf g.row.V.Denot = c.request.new.self in
    let new : DialogOf g.row.V.Denot = record asked { body = c.handle-then-request.new.self; damage = c.handle-then-request.new.damage } in
    let answers : answer_down env p (opened look old.body) ≡ Focus i
    = sym (ap (λ e. group_answer e phases.Focused env (opened look old.body)) is) ∙ sym c.handle.ensures.reaction ∙ c.in-Focus.is in
    let leaves : opened look mid.body ≡ leaves_down env p (opened look old.body)
    = c.handle.ensures.after ∙ ap (λ e. group_after e phases.Focused env (opened look old.body)) is in
    let again : opened look new.body ≡ leaves_down env p (opened look asked.body)
    = c.handle-then-request.ensures.after ∙ ap (λ e. group_after e phases.Focused env (opened look asked.body)) is in
    let asking = stands-asking look d lawful m env p ready lentby old mid asked s i answers refl leaves in
    let few : length m.log < 66 = omega (arith, ap length ready.fresh.log) in
    let granted : is_granted (requested d m i) ≡ true = sym (c.request.ensures.granted d m lawful asking) ∙ c.if-request.true in
    subst (λ e. SettlesTo look d (turned d e m) new) (sym is)
    (inl (
      c.request.ensures.pending ∙ c.requires,
      stands-again look d lawful m env p ready lentby old mid asked s i answers refl leaves granted
          (c.request.ensures.stands d m lawful few asking) new refl again,
    ))

pub returns-then-request-clause-drawn : goal.returns-then-request-clause-drawn
returns-then-request-clause-drawn g c =
    let look = g.V.View.meaning in
    let old = c.args.self.now in
    let mid : DialogOf g.row.V.Denot = record old { body = c.handle.new.self; damage = c.handle.new.damage } in
    let asked : DialogOf g.row.V.Denot = c.request.new.self in
    let new : DialogOf g.row.V.Denot = record asked { body = c.handle-then-request.new.self; damage = c.handle-then-request.new.damage } in
    body-then look old mid new (body-called look old mid refl refl refl refl c.handle.ensures.damage)
    (body-then look mid asked new c.request.ensures.drawn (body-called look asked new refl refl refl refl c.handle-then-request.ensures.damage))

pub returns-else-request-clause-stands : goal.returns-else-request-clause-stands
returns-else-request-clause-stands g c d m lawful lentby p is ready s =
    let look = g.V.View.meaning in
    let old = c.args.self.now in
    let env = c.args.env.now in
    let i = c.in-Focus.id in
    let mid : DialogOf g.row.V.Denot = record old { body = c.handle.new.self; damage = c.handle.new.damage } in
    let asked : DialogOf g.row.V.Denot = c.request.new.self in
    let answers : answer_down env p (opened look old.body) ≡ Focus i
    = sym (ap (λ e. group_answer e phases.Focused env (opened look old.body)) is) ∙ sym c.handle.ensures.reaction ∙ c.in-Focus.is in
    let leaves : opened look mid.body ≡ leaves_down env p (opened look old.body)
    = c.handle.ensures.after ∙ ap (λ e. group_after e phases.Focused env (opened look old.body)) is in
    let asking = stands-asking look d lawful m env p ready lentby old mid asked s i answers refl leaves in
    let few : length m.log < 66 = omega (arith, ap length ready.fresh.log) in
    let refused : is_granted (requested d m i) ≡ false = sym (c.request.ensures.granted d m lawful asking) ∙ c.if-request.false in
    subst (λ e. SettlesTo look d (turned d e m) asked) (sym is)
    (inl (
      c.request.ensures.pending ∙ c.requires,
      stands-refused look d lawful m env p ready lentby old mid asked s i answers refl leaves refused
          (c.request.ensures.stands d m lawful few asking),
    ))

pub returns-else-request-clause-drawn : goal.returns-else-request-clause-drawn
returns-else-request-clause-drawn g c =
    let look = g.V.View.meaning in
    let old = c.args.self.now in
    let mid : DialogOf g.row.V.Denot = record old { body = c.handle.new.self; damage = c.handle.new.damage } in
    body-then look old mid c.request.new.self (body-called look old mid refl refl refl refl c.handle.ensures.damage) c.request.ensures.drawn

pub returns-in_default : goal.returns-in_default
returns-in_default g c = record {
  stands = λ d m lawful lentby p is ready s.
      let look = g.V.View.meaning in
      let old = c.args.self.now in
      let env = c.args.env.now in
      let mid : DialogOf g.row.V.Denot = record old { body = c.handle.new.self; damage = c.handle.new.damage } in
      let answers : c.handle.result ≡ answer_down env p (opened look old.body)
      = c.handle.ensures.reaction ∙ ap (λ e. group_answer e phases.Focused env (opened look old.body)) is in
      let leaves : opened look mid.body ≡ leaves_down env p (opened look old.body)
      = c.handle.ensures.after ∙ ap (λ e. group_after e phases.Focused env (opened look old.body)) is in
      let over = press-over d lawful m env p ready lentby s.steady (λ i e. c.in_default.not-Focus i (answers ∙ ap (answer_down env p) s.tree ∙ e)) in
      let n = pressed d lawful m env p ready lentby s.steady in
      subst (λ e. SettlesTo look d (turned d e m) c.react.new.self) (sym is)
      (comes-handled look d m n n (answer_down env p _) ready.fresh over.like over.steady
      (λ keeps. over.holds) (over-comes d lawful m env p ready lentby s.steady over) old mid c.react.new.self c.handle.result s refl
      (answers ∙ ap (answer_down env p) s.tree)
      (leaves ∙ ap (leaves_down env p) s.tree ∙ over.tree ∙ sym (flags-same d m.leaves n.leaves over.holds n))
      (λ few going keeps there. c.react.ensures.stands d m.leaves n lawful few going keeps there)
      c.react.ensures.pending);
  pending = posted-by c.handle.result c.react.new.self.pending c.react.ensures.pending;
  drawn =
      let look = g.V.View.meaning in
      let old = c.args.self.now in
      let mid : DialogOf g.row.V.Denot = record old { body = c.handle.new.self; damage = c.handle.new.damage } in
      body-then look old mid c.react.new.self (body-called look old mid refl refl refl refl c.handle.ensures.damage) c.react.ensures.drawn;
}
