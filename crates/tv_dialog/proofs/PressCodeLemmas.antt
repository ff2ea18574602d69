-- A mouse down on a dialog: where a view asks for the focus and gets it, it is handed the same down again.
use Rattle.std.proofs.Common.{◌≡◌, ◌⊎◌, inl, inr, true, false, List, refl, sym, ap, subst, ◌∙◌}
use Rattle.tv_cells.specs.declared.rect.Point.{Point}
use Rattle.tv_event.specs.declared.event.Event.TheVariants as events
use Rattle.tv_event.specs.declared.event.Phase.TheVariants as phases
use Rattle.tv_model.specs.declared.node.Id.{Id}
use Rattle.tv_model.specs.declared.desc.Dialog.{Dialog}
use Rattle.tv_view.specs.Meaning.{Leaf, Placed}
use Rattle.tv_machine.specs.Dialog.Focus.{is_granted, request, requested}
use Rattle.tv_machine.specs.Dialog.Lawful.{IsLawfulDialog}
use Rattle.tv_machine.specs.Dialog.Modal.{Modal}
use Rattle.tv_machine.specs.Dialog.Mouse.{down_at, topmost_leaf}
use Rattle.tv_view.specs.declared.env.Env.{Env}
use Rattle.tv_view.specs.declared.reaction.Reaction.{Reaction}
use Rattle.tv_view.specs.declared.reaction.Reaction.TheVariants.{Focus, Pass, Capture}
use Rattle.tv_group.specs.Handling.{group_after, group_answer}
use Rattle.tv_group.specs.Opened.{opened}
use Rattle.tv_dialog.specs.Settling.{IsReadyForDown}
use Rattle.tv_dialog.specs.Standing.{Stands}
use Rattle.tv_group.specs.Tree.{IsSteady, tree_of}
use Rattle.tv_group.specs.TreeTurns.{IsLentBy, reacted}
use Rattle.tv_dialog.specs.declared.dialog.DialogOf.{DialogOf}
use Rattle.tv_group.proofs.Tree.Mouse.DownLemmas.{AsksFocus, IsOver, Turn, down-turn, turn-asks, turn-over}
use Rattle.tv_machine.proofs.MarkLemmas.{hold-itself}
use Rattle.tv_group.proofs.Tree.RequestLemmas.{hold-request}
use Rattle.tv_dialog.proofs.TurnCodeLemmas.{stands-handled}

-- what the views answer, and what their leaves become
abbrev pub answer_down : Env → Point → List Placed → Reaction
answer_down env p xs = group_answer (events.Down p) phases.Focused env xs

abbrev pub leaves_down : Env → Point → List Placed → List Placed
leaves_down env p xs = group_after (events.Down p) phases.Focused env xs

module _ (d : Dialog) (lawful : IsLawfulDialog d) (m : Modal) (env : Env) (p : Point) (ready : IsReadyForDown m p) (lentby : IsLentBy d m env)
    (steady : IsSteady d m) where
  -- what the machine makes of it
  abbrev pub pressed : Modal
  pressed = down_at d (topmost_leaf d m p) p m

  pub press-turn : Turn d m env p pressed
  press-turn = down-turn d lawful p ready.at m steady ready.free env lentby

  pub press-asks : (i : Id) → answer_down env p (tree_of d m) ≡ Focus i → AsksFocus d m env p i pressed
  press-asks i e = turn-asks d m env p pressed i press-turn e

  pub press-over : ((i : Id) → answer_down env p (tree_of d m) ≡ Focus i → ⊥) → IsOver d m env p pressed
  press-over none = turn-over d m env p pressed press-turn none

  -- then nothing is left to do
  pub over-comes : (over : IsOver d m env p pressed) → reacted d (answer_down env p (tree_of d m)) pressed ≡ pressed
  over-comes over = of over.answer
    where
      of : (answer_down env p (tree_of d m) ≡ Pass) ⊎ ((i : Id) × (answer_down env p (tree_of d m) ≡ Capture i))
          → reacted d (answer_down env p (tree_of d m)) pressed ≡ pressed
      of (inl pass) = ap (λ r. reacted d r pressed) pass
      of (inr held) = ap (λ r. reacted d r pressed) held.1

module _ {V : Type 0} (look : V → Leaf) (d : Dialog) (lawful : IsLawfulDialog d) (m : Modal) (env : Env) (p : Point) (ready : IsReadyForDown m p)
    (lentby : IsLentBy d m env) (old mid asked : DialogOf V) (s : Stands look d m.leaves m old) (i : Id)
    (answers : answer_down env p (opened look old.body) ≡ Focus i) (same : mid ≡ record old { body = mid.body; damage = mid.damage })
    (leaves : opened look mid.body ≡ leaves_down env p (opened look old.body)) where
  abbrev pub asks : AsksFocus d m env p i (down_at d (topmost_leaf d m p) p m)
  asks = press-asks d lawful m env p ready lentby s.steady i (ap (answer_down env p) (sym s.tree) ∙ answers)

  -- the view that asks stays as it is
  pub stands-asking : Stands look d m.leaves m mid
  stands-asking =
      stands-handled look d m m old mid (record { focus = refl; log = refl; ended = refl }) s.steady (hold-itself d m.leaves) s same
      (leaves ∙ ap (leaves_down env p) s.tree ∙ asks.tree)

  pub stands-refused : is_granted (requested d m i) ≡ false → Stands look d (request d i m).leaves (request d i m) asked
      → Stands look d (down_at d (topmost_leaf d m p) p m).leaves (down_at d (topmost_leaf d m p) p m) asked
  stands-refused refused there = subst (λ t. Stands look d t.leaves t asked) (asks.refused refused) there

  pub stands-again : is_granted (requested d m i) ≡ true → Stands look d (request d i m).leaves (request d i m) asked
      → (new : DialogOf V) → new ≡ record asked { body = new.body; damage = new.damage } → opened look new.body ≡ leaves_down env p (opened look asked.body)
      → Stands look d (down_at d (topmost_leaf d m p) p m).leaves (down_at d (topmost_leaf d m p) p m) new
  stands-again granted there new rest changed =
      stands-handled look d (request d i m) (down_at d (topmost_leaf d m p) p m) asked new asks.like asks.steady
      (λ k e h. sym (hold-request d lawful m i s.steady.leaves k e h) ∙ asks.holds k e h) there rest
      (changed ∙ ap (leaves_down env p) there.tree ∙ asks.again granted)
