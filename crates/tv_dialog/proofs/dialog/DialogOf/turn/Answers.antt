use Rattle.std.proofs.Common.{inl, ◌≡◌, ap, sym, subst, refl, ◌∙◌}
use Rattle.tv_event.specs.declared.event.Event.TheVariants as events
use Rattle.tv_group.specs.Opened.{opened}
use Rattle.tv_dialog.specs.declared.dialog.DialogOf.{DialogOf}
use Rattle.tv_dialog.specs.Settling.{SettlesTo, IsReadyFor, IsReadyForAll, turned}
use Rattle.tv_group.specs.TreeTurns.{phases_after, phases_answer}
use Rattle.tv_group.proofs.Tree.Keys.QuietLemmas.{phases_after-command, phases_answer-command}
use Rattle.tv_dialog.proofs.DamageLemmas.{body-then}
use Rattle.tv_dialog.proofs.TurnCodeLemmas.{lent-by, stands-body}
use Rattle.tv_dialog.proofs.TurnEventLemmas.{comes-key}
use Rattle.tv_dialog.proofs.dialog.DialogOf.turn.Goals as goal

pub returns-in-Key-clause-stands : goal.returns-in-Key-clause-stands
returns-in-Key-clause-stands g c d m lawful views ready s =
    let look = g.V.View.meaning in
    let k = c.in-Key.field-0 in
    let is = c.in-Key.is in
    let env = c.lent-env.result in
    let xs = opened look c.args.self.now.body in
    let mid : DialogOf g.row.V.Denot = record c.args.self.now { body = c.offer_in_phases-reaction.new.body; damage = c.offer_in_phases-reaction.new.damage } in
    let both = c.offer_in_phases-reaction.ensures.handled (λ p e. let f : events.Key k ≡ events.Down p = sym is ∙ e in cc) in
    let lentby = lent-by d m c.args.self.now.plan c.args.self.now.focus c.args.env.now env s.plan s.focus views c.lent-env.ensures in
    subst (λ e. SettlesTo look d (turned d e m) c.react.new.self) (sym is)
    (comes-key look d lawful m env lentby c.args.self.now mid c.react.new.self c.offer_in_phases-reaction.result s refl c.react.ensures.pending
    (λ ruled n few going keeps there. c.react.ensures.stands d ruled n lawful few going keeps there)
    k (subst (IsReadyFor d m) is ready)
    (both.0 ∙ ap (λ e. phases_answer e env xs) is) (both.1 ∙ ap (λ e. phases_after e env xs) is))

pub returns-in-Key-clause-drawn : goal.returns-in-Key-clause-drawn
returns-in-Key-clause-drawn g c =
    let look = g.V.View.meaning in
    let old = c.args.self.now in
    let mid : DialogOf g.row.V.Denot = record old { body = c.offer_in_phases-reaction.new.body; damage = c.offer_in_phases-reaction.new.damage } in
    body-then look old mid c.react.new.self (record { head = refl; corner = refl; sheet = refl; plan = refl; body = c.offer_in_phases-reaction.ensures.drawn }) c.react.ensures.drawn

pub returns-in-Pass-clause-stands : goal.returns-in-Pass-clause-stands
returns-in-Pass-clause-stands g c d m lawful views ready s =
    let look = g.V.View.meaning in
    let k = c.in-Command.command in
    let is = c.in-Command.is in
    let env = c.lent-env.result in
    let old = c.args.self.now in
    let xs = opened look old.body in
    let mid : DialogOf g.row.V.Denot = record old { body = c.offer_in_phases.new.body; damage = c.offer_in_phases.new.damage } in
    let both = c.offer_in_phases.ensures.handled (λ p e. let f : events.Command k ≡ events.Down p = sym is ∙ e in cc) in
    let there = stands-body look d m.leaves m m old mid (record { focus = refl; log = refl; ended = refl }) s.steady s refl
    (both.1 ∙ ap (λ e. phases_after e env xs) is ∙ phases_after-command k env xs ∙ s.tree) in
    subst (λ e. SettlesTo look d (turned d e m) c.command.new.self) (sym is)
    (inl (c.command.ensures.pending ∙ c.requires, c.command.ensures.stands d m lawful (subst (IsReadyFor d m) is ready) there))

pub returns-in-Pass-clause-drawn : goal.returns-in-Pass-clause-drawn
returns-in-Pass-clause-drawn g c =
    let look = g.V.View.meaning in
    let old = c.args.self.now in
    let mid : DialogOf g.row.V.Denot = record old { body = c.offer_in_phases.new.body; damage = c.offer_in_phases.new.damage } in
    body-then look old mid c.command.new.self (record { head = refl; corner = refl; sheet = refl; plan = refl; body = c.offer_in_phases.ensures.drawn }) c.command.ensures.drawn

-- no view takes a command
pub returns-in_default : goal.returns-in_default
returns-in_default g c =
    let k = c.in-Command.command in
    let is = c.in-Command.is in
    let env = c.lent-env.result in
    let xs = opened g.V.View.meaning c.args.self.now.body in
    let both = c.offer_in_phases.ensures.handled (λ p e. let f : events.Command k ≡ events.Down p = sym is ∙ e in cc) in
    absurd (c.in_default.not-Pass (both.0 ∙ ap (λ e. phases_answer e env xs) is ∙ phases_answer-command k env xs))

pub returns-in-Down-clause-stands : goal.returns-in-Down-clause-stands
returns-in-Down-clause-stands g c d m lawful views ready s =
    let is = c.in-Down.is in
    let lentby = lent-by d m c.args.self.now.plan c.args.self.now.focus c.args.env.now c.lent-env.result s.plan s.focus views c.lent-env.ensures in
    c.press.ensures.stands d m lawful lentby c.in-Down.field-0 is (subst (IsReadyFor d m) is ready) s

pub returns-in-Up-clause-stands : goal.returns-in-Up-clause-stands
returns-in-Up-clause-stands g c d m lawful views ready s =
    let is = c.in-Up.is in
    let lentby = lent-by d m c.args.self.now.plan c.args.self.now.focus c.args.env.now c.lent-env.result s.plan s.focus views c.lent-env.ensures in
    c.tell.ensures.stands d m lawful lentby (subst (IsReadyForAll d m) (sym is) (subst (IsReadyFor d m) is ready)) s

pub returns-in-Move-clause-stands : goal.returns-in-Move-clause-stands
returns-in-Move-clause-stands g c d m lawful views ready s =
    let is = c.in-Move.is in
    let lentby = lent-by d m c.args.self.now.plan c.args.self.now.focus c.args.env.now c.lent-env.result s.plan s.focus views c.lent-env.ensures in
    c.tell-in-Move.ensures.stands d m lawful lentby (subst (IsReadyForAll d m) (sym is) (subst (IsReadyFor d m) is ready)) s

pub returns-in-Broadcast-clause-stands : goal.returns-in-Broadcast-clause-stands
returns-in-Broadcast-clause-stands g c d m lawful views ready s =
    let is = c.in-Broadcast.is in
    let lentby = lent-by d m c.args.self.now.plan c.args.self.now.focus c.args.env.now c.lent-env.result s.plan s.focus views c.lent-env.ensures in
    c.tell-in-Broadcast.ensures.stands d m lawful lentby (subst (IsReadyForAll d m) (sym is) (subst (IsReadyFor d m) is ready)) s
