-- What a dialog comes to where its views were handed a key, a broadcast, a move or an up, and it did what they asked for.
use Rattle.std.proofs.Common.{◌≡◌, ◌≤◌, true, false, List, None, is_some, length, refl, sym, ap, ◌∙◌}
use Rattle.tv_cells.specs.declared.rect.Point.{Point}
use Rattle.tv_event.specs.declared.event.Command.{Command}
use Rattle.tv_event.specs.declared.event.Event.{Event}
use Rattle.tv_event.specs.declared.event.Event.TheVariants as events
use Rattle.tv_event.specs.declared.event.Key.{Key}
use Rattle.tv_event.specs.declared.event.Phase.TheVariants as phases
use Rattle.tv_model.specs.declared.desc.Dialog.{Dialog}
use Rattle.tv_view.specs.Meaning.{Leaf}
use Rattle.tv_machine.specs.State.{LeafState}
use Rattle.tv_machine.specs.Dialog.Keys.{enter_target, key, press_enabled}
use Rattle.tv_machine.specs.Dialog.Lawful.{IsLawfulDialog}
use Rattle.tv_machine.specs.Dialog.Modal.{Modal, leaf_at}
use Rattle.tv_machine.specs.Dialog.Mouse.{held_moved, held_up}
use Rattle.tv_machine.specs.Dialog.Step.{dialog_step, step_by}
use Rattle.tv_view.specs.declared.env.Env.{Env}
use Rattle.tv_view.specs.declared.reaction.Reaction.{Reaction}
use Rattle.tv_group.specs.Handling.{group_after, group_answer}
use Rattle.tv_group.specs.Opened.{opened}
use Rattle.tv_machine.specs.Dialog.Alike.{HoldSame}
use Rattle.tv_group.specs.Ready.{KeepsMarks}
use Rattle.tv_dialog.specs.Settling.{SettlesTo, IsFresh, IsReadyForAll, IsReadyForHeld, IsReadyForKey, posted_by, reacted_first, turned}
use Rattle.tv_dialog.specs.Standing.{Stands}
use Rattle.tv_group.specs.Tree.{tree_of}
use Rattle.tv_group.specs.TreeTurns.{IsLentBy, phases_after, phases_answer, reacted}
use Rattle.tv_dialog.specs.declared.dialog.DialogOf.{DialogOf}
use Rattle.tv_group.proofs.Tree.Keys.EnterLemmas.{enter_turn, group_after-broadcast}
use Rattle.tv_group.proofs.Tree.Mouse.HeldLemmas.{move-turn}
use Rattle.tv_group.proofs.Tree.Keys.KeyLemmas.{key_turn}
use Rattle.tv_machine.proofs.ListLemmas.{option_cases}
use Rattle.tv_group.proofs.Tree.FlagLemmas.{flags-same}
use Rattle.tv_machine.proofs.MarkLemmas.{hold-itself}
use Rattle.tv_group.proofs.Tree.Mouse.ReleaseLemmas.{up-holds, up-turn}
use Rattle.tv_dialog.proofs.TurnCodeLemmas.{comes-handled}

module _ {V : Type 0} (look : V → Leaf) (d : Dialog) (lawful : IsLawfulDialog d) (m : Modal) (env : Env) (lentby : IsLentBy d m env)
    (old mid new : DialogOf V) (r : Reaction) (s : Stands look d m.leaves m old) (same : mid ≡ record old { body = mid.body; damage = mid.damage })
    (waits : new.pending ≡ posted_by r)
    (reacts : (ruled : List LeafState) (n : Modal) → length n.log ≤ 1 → n.ended ≡ None → (KeepsMarks r → HoldSame d ruled n.leaves)
    → Stands look d ruled n mid → Stands look d (reacted_first d r n).leaves (reacted_first d r n) new) where
  pub comes-key : (k : Key) → IsReadyForKey d m k → r ≡ phases_answer (events.Key k) env (opened look old.body)
      → opened look mid.body ≡ phases_after (events.Key k) env (opened look old.body) → SettlesTo look d (key d k m) new
  comes-key k ready is leaves =
      let turn = key_turn d lawful m env lentby s.steady ready.markers k ready.other ready.free ready.capital in
      comes-handled look d m turn.after (key d k m) (phases_answer (events.Key k) env (tree_of d m)) ready.fresh
      (record { focus = turn.focus; log = turn.log; ended = turn.ended }) turn.steady turn.holds turn.comes old mid new r s same
      (is ∙ ap (phases_answer (events.Key k) env) s.tree) (leaves ∙ ap (phases_after (events.Key k) env) s.tree ∙ turn.leaves)
      (reacts m.leaves turn.after) waits

  -- the event is handed to the views once
  abbrev answered : Event → Reaction
  answered e = group_answer e phases.Focused env (tree_of d m)

  answers : (e : Event) → r ≡ group_answer e phases.Focused env (opened look old.body) → r ≡ answered e
  answers e is = is ∙ ap (group_answer e phases.Focused env) s.tree

  after : (e : Event) → opened look mid.body ≡ group_after e phases.Focused env (opened look old.body)
      → opened look mid.body ≡ group_after e phases.Focused env (tree_of d m)
  after e leaves = leaves ∙ ap (group_after e phases.Focused env) s.tree

  pub comes-broadcast : (c : Command) → c.0 ≡ 14 → IsFresh m → r ≡ group_answer (events.Broadcast c) phases.Focused env (opened look old.body)
      → opened look mid.body ≡ group_after (events.Broadcast c) phases.Focused env (opened look old.body)
      → SettlesTo look d (press_enabled d (enter_target d m) m) new
  comes-broadcast c default fresh is leaves =
      let own : c ≡ record { 0 = 14 } = ap (λ n. record { 0 = n }) default in
      comes-handled look d m m (press_enabled d (enter_target d m) m) (answered (events.Broadcast c)) fresh
      (record { focus = refl; log = refl; ended = refl }) s.steady (λ keeps. hold-itself d m.leaves)
      (ap (λ (x : Command). reacted d (answered (events.Broadcast x)) m) own ∙ enter_turn d lawful m env lentby) old mid new r s same
      (answers (events.Broadcast c) is)
      (after (events.Broadcast c) leaves ∙ group_after-broadcast c phases.Focused env (tree_of d m)) (reacts m.leaves m) waits

  pub comes-move : (p : Point) → IsReadyForHeld d m p → r ≡ group_answer (events.Move p) phases.Focused env (opened look old.body)
      → opened look mid.body ≡ group_after (events.Move p) phases.Focused env (opened look old.body)
      → SettlesTo look d (dialog_step d (events.Move p) m) new
  comes-move p ready is leaves = option_cases m.held (λ o. m.held ≡ o → SettlesTo look d (dialog_step d (events.Move p) m) new)
      (λ none e. (let f : false ≡ true = ap is_some (sym none) ∙ ready.held in absurd cc))
      (λ held some e.
      let moved = move-turn d lawful p ready.at m s.steady phases.Focused env held some (ready.leaf held some) in
      let n : Modal = held_moved d (leaf_at d held.id) p m in
      comes-handled look d m n (dialog_step d (events.Move p) m) (answered (events.Move p)) ready.fresh moved.like moved.steady
      (λ keeps. moved.holds) (ap (λ x. reacted d x n) moved.answer ∙ sym (ap (λ o. step_by d o (events.Move p) m) some)) old mid new r s same
      (answers (events.Move p) is)
      (after (events.Move p) leaves ∙ moved.tree ∙ sym (flags-same d m.leaves n.leaves moved.holds n)) (reacts m.leaves n) waits) refl

  pub comes-up : (p : Point) → IsReadyForHeld d m p → r ≡ group_answer (events.Up p) phases.Focused env (opened look old.body)
      → opened look mid.body ≡ group_after (events.Up p) phases.Focused env (opened look old.body)
      → SettlesTo look d (dialog_step d (events.Up p) m) new
  comes-up p ready is leaves = option_cases m.held (λ o. m.held ≡ o → SettlesTo look d (dialog_step d (events.Up p) m) new)
      (λ none e. (let f : false ≡ true = ap is_some (sym none) ∙ ready.held in absurd cc))
      (λ held some e.
      let up : Modal = held_up d (leaf_at d held.id) held.item p m in
      let released = up-turn d lawful p ready.at m s.steady phases.Focused env held some (ready.leaf held some) in
      let n : Modal = released.0 in
      let turn = released.1 in
      comes-handled look d m n (dialog_step d (events.Up p) m) (answered (events.Up p)) ready.fresh turn.like turn.steady
      (λ keeps. up-holds d m phases.Focused env p up n turn keeps)
      (turn.reacts ∙ sym (ap (λ o. step_by d o (events.Up p) m) some)) old mid new r s same (answers (events.Up p) is)
      (after (events.Up p) leaves ∙ turn.tree) (reacts m.leaves n) waits) refl

  pub comes-told : (e : Event) → IsReadyForAll d m e → r ≡ group_answer e phases.Focused env (opened look old.body)
      → opened look mid.body ≡ group_after e phases.Focused env (opened look old.body) → SettlesTo look d (turned d e m) new
  comes-told (events.Up p) ready is leaves = comes-up p ready is leaves
  comes-told (events.Move p) ready is leaves = comes-move p ready is leaves
  comes-told (events.Broadcast c) ready is leaves = comes-broadcast c ready.1 ready.0 is leaves
  comes-told (events.Key k) ready is leaves = absurd ready
  comes-told (events.Down p) ready is leaves = absurd ready
  comes-told (events.Command c) ready is leaves = absurd ready
