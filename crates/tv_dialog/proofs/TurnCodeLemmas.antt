-- How a dialog stands after its views have handled an event, and after what they asked for.
use Rattle.std.proofs.Common.{arith, inl, inr, ◌≡◌, ◌≤◌, ◌==◌, true, false, ℕ, List, [], ◌∷◌, ◌++◌, Option, Some, None, option_map, length, refl, sym, ap, subst, ◌∙◌, if◌then◌else◌}
use Rattle.std.proofs.lemmas.List.{length-append}
use Rattle.tv_model.specs.declared.node.Id.{Id}
use Rattle.tv_model.specs.declared.desc.Dialog.{Dialog}
use Rattle.tv_model.specs.declared.log.LogLine.TheVariants as lines
use Rattle.tv_view.specs.Meaning.{Leaf}
use Rattle.tv_machine.specs.State.{LeafState}
use Rattle.tv_machine.specs.Leaves.{PlacedNode, leaf_list}
use Rattle.tv_machine.specs.Dialog.Focus.{Request, Same, NotFree, Refused, Moved, after_request, is_granted, request, request_then, requested}
use Rattle.tv_machine.specs.Dialog.Keys.{enter_target}
use Rattle.tv_machine.specs.Dialog.Lawful.{IsLawfulDialog}
use Rattle.tv_machine.specs.Dialog.Modal.{Modal, leaf_at, with_line}
use Rattle.tv_view.specs.declared.env.Env.{Env}
use Rattle.tv_view.specs.declared.reaction.Reaction.{Reaction}
use Rattle.tv_view.specs.declared.reaction.Reaction.TheVariants as reactions
use Rattle.tv_group.specs.Calls.{all_pressed}
use Rattle.tv_group.specs.Opened.{opened}
use Rattle.tv_dialog.specs.Drawn.{default_now, lent}
use Rattle.tv_dialog.specs.Plan.{is_button_plan, leaf_plan, plan_of}
use Rattle.tv_machine.specs.Dialog.Alike.{HoldSame}
use Rattle.tv_group.specs.Ready.{IsLike, KeepsMarks}
use Rattle.tv_dialog.specs.Settling.{SettlesTo, IsFresh, posted_by, reacted_first}
use Rattle.tv_dialog.specs.Standing.{Stands}
use Rattle.tv_group.specs.Tree.{IsSteady, tree_as, tree_of}
use Rattle.tv_group.specs.TreeTurns.{IsLentBy, pressed_at, reacted}
use Rattle.tv_dialog.specs.declared.dialog.DialogOf.{DialogOf}
use Rattle.tv_dialog.specs.declared.plan.Plan.{Plan}
use Rattle.tv_group.proofs.Tree.Keys.EnterLemmas.{enter_target-id, id_of_leaf, is_button_leaf}
use Rattle.tv_group.proofs.Tree.FocusTreeLemmas.{steady-line}
use Rattle.tv_machine.proofs.ListLemmas.{find-map}
use Rattle.tv_group.proofs.Tree.FlagLemmas.{flags-same}
use Rattle.tv_group.proofs.Tree.RuledLemmas.{focus-pressed, pressed-keeps, pressed-tree, steady-pressed}
use Rattle.tv_dialog.proofs.StandsLemmas.{IsKept, ended-moved, restands, stands-on}

-- ---- what views are lent

button_plan : (d : Dialog) (o : Option PlacedNode) → is_button_plan (option_map (leaf_plan d.views d.rules) o) ≡ is_button_leaf o
button_plan d None = refl
button_plan d (Some leaf) = refl

-- what Enter presses, by what the dialog keeps of its description
default-lent : (d : Dialog) (m : Modal) → default_now (plan_of d.views d.rules) m.focus ≡ id_of_leaf (enter_target d m)
default-lent d m =
    ap (λ b. if b then Some m.focus else (plan_of d.views d.rules).default_button)
    (ap is_button_plan (find-map (leaf_plan d.views d.rules) (λ leaf. leaf.id.0 == m.focus.0) (leaf_list d.views)) ∙ button_plan d (leaf_at d m.focus))
    ∙ sym (enter_target-id d m)

pub lent-by : (d : Dialog) (m : Modal) (plan : Plan) (focus : Id) (env given : Env) → plan ≡ plan_of d.views d.rules → focus ≡ m.focus
    → env.views.now ≡ d.views → given ≡ lent plan focus env → IsLentBy d m given
lent-by d m plan focus env given plans at views e = record {
  views = ap (λ (x : Env). x.views.now) e ∙ views;
  focus = ap (λ (x : Env). x.focus) e ∙ ap (λ (i : Id). Some i) at;
  default_now = ap (λ (x : Env). x.default_now) e ∙ ap (λ p. default_now p focus) plans ∙ ap (default_now (plan_of d.views d.rules)) at ∙ default-lent d m;
}

-- ---- what requests leave

pub ended-request : (d : Dialog) (m : Modal) (i : Id) → (request d i m).ended ≡ m.ended
ended-request d m i = of (requested d m i)
  where
    of : (r : Request) → (after_request d i r m).ended ≡ m.ended
    of Same = refl
    of NotFree = refl
    of Refused = refl
    of Moved = ended-moved d m i

pub granted-then : (d : Dialog) (i : Id) (follow : Modal → Modal) (m : Modal) → is_granted (requested d m i) ≡ true
    → request_then d i follow m ≡ follow (request d i m)
granted-then d i follow m e = ap (λ b. if b then follow (request d i m) else request d i m) e

pub refused-then : (d : Dialog) (i : Id) (follow : Modal → Modal) (m : Modal) → is_granted (requested d m i) ≡ false
    → request_then d i follow m ≡ request d i m
refused-then d i follow m e = ap (λ b. if b then follow (request d i m) else request d i m) e

module _ {V : Type 0} (look : V → Leaf) (d : Dialog) where
  -- ---- calls that change little

  -- the body, the focus and the log are the same
  pub stands-alike : (ruled : List LeafState) (m : Modal) (old new : DialogOf V) → IsKept old new → new.body ≡ old.body → new.focus ≡ old.focus
      → new.log ≡ old.log → Stands look d ruled m old → Stands look d ruled m new
  stands-alike ruled m old new kept body focus log s =
      stands-on look d ruled m m old new kept refl s (ap (opened look) body ∙ s.tree) s.steady (focus ∙ s.focus) (ap (λ l. l.items) log ∙ s.log)

  -- only the body differs, as it does on the machine's dialog
  pub stands-body : (ruled : List LeafState) (m n : Modal) (old new : DialogOf V) → IsLike m n → IsSteady d n → Stands look d ruled m old
      → new ≡ record old { body = new.body; damage = new.damage } → opened look new.body ≡ tree_as d ruled n → Stands look d ruled n new
  stands-body ruled m n old new like steady s same tree =
      let kept : IsKept old new = record {
        head = ap (λ (x : DialogOf V). x.head) same;
        plan = ap (λ (x : DialogOf V). x.plan) same;
        «open» = ap (λ (x : DialogOf V). x.is_open) same;
        ended = ap (λ (x : DialogOf V). x.ended) same;
        ruled = ap (λ (x : DialogOf V). x.ruled) same;
        marks = ap (λ (x : DialogOf V). x.marks) same;
      } in
      stands-on look d ruled m n old new kept like.ended s tree steady (ap (λ (x : DialogOf V). x.focus) same ∙ s.focus ∙ sym like.focus)
      (ap (λ (x : DialogOf V). x.log.items) same ∙ s.log ∙ sym like.log)

  -- the same where rules hold as they did
  pub stands-handled : (m n : Modal) (old new : DialogOf V) → IsLike m n → IsSteady d n → HoldSame d m.leaves n.leaves → Stands look d m.leaves m old
      → new ≡ record old { body = new.body; damage = new.damage } → opened look new.body ≡ tree_of d n → Stands look d n.leaves n new
  stands-handled m n old new like steady hold s same tree =
      restands look d m.leaves n.leaves n new hold
      (stands-body m.leaves m n old new like steady s same (tree ∙ sym (flags-same d m.leaves n.leaves hold n)))

  -- a press was logged
  pub stands-pressed : IsLawfulDialog d → (ruled : List LeafState) (m : Modal) (i : Id) (old new : DialogOf V) → IsKept old new → new.body ≡ old.body
      → new.focus ≡ old.focus → new.log.items ≡ old.log.items ++ lines.Press i ∷ [] → Stands look d ruled m old
      → Stands look d ruled (with_line (lines.Press i) m) new
  stands-pressed lawful ruled m i old new kept body focus log s =
      stands-on look d ruled m (with_line (lines.Press i) m) old new kept refl s (ap (opened look) body ∙ s.tree)
      (steady-line d lawful (lines.Press i) m s.steady) (focus ∙ s.focus) (log ∙ ap (λ l. l ++ lines.Press i ∷ []) s.log)

  -- an item was pressed
  pub stands-item : IsLawfulDialog d → (m : Modal) (i : Id) (item : ℕ) (old new : DialogOf V) → IsKept old new → new.focus ≡ old.focus
      → new.log ≡ old.log → opened look new.body ≡ all_pressed i item (opened look old.body) → Stands look d m.leaves m old
      → Stands look d m.leaves (pressed_at d i item m) new
  stands-item lawful m i item old new kept focus log body s =
      stands-on look d m.leaves m (pressed_at d i item m) old new kept
      (pressed-keeps (λ n. n.ended ≡ m.ended) d (λ j c n p. p) (leaf_at d i) item m refl) s
      (body ∙ ap (all_pressed i item) s.tree ∙ pressed-tree d lawful item m m.leaves i s.steady.leaves)
      (steady-pressed d lawful item m i s.steady)
      (focus ∙ s.focus ∙ sym (focus-pressed d lawful item m i))
      (ap (λ l. l.items) log ∙ s.log ∙ sym (pressed-keeps (λ n. n.log ≡ m.log) d (λ j c n p. p) (leaf_at d i) item m refl))

  -- ---- what comes of an answer

  pub comes-by : (r : Reaction) (n target : Modal) (dialog : DialogOf V) → n.log ≡ [] → reacted d r n ≡ target
      → Stands look d (reacted_first d r n).leaves (reacted_first d r n) dialog → dialog.pending ≡ posted_by r → SettlesTo look d target dialog
  comes-by (reactions.Post i c) n target dialog empty comes s waits =
      inr (
        c,
        (
          waits,
          record {
            now = with_line (lines.Press i) n;
            stands = s;
            short = omega (arith, length-append n.log (lines.Press i ∷ []), ap length empty);
            comes = comes;
          },
        ),
      )
  comes-by reactions.Pass n target dialog empty comes s waits = inl (waits, subst (λ t. Stands look d t.leaves t dialog) comes s)
  comes-by reactions.Done n target dialog empty comes s waits = inl (waits, subst (λ t. Stands look d t.leaves t dialog) comes s)
  comes-by (reactions.Focus i) n target dialog empty comes s waits = inl (waits, subst (λ t. Stands look d t.leaves t dialog) comes s)
  comes-by (reactions.FocusPress i item) n target dialog empty comes s waits = inl (waits, subst (λ t. Stands look d t.leaves t dialog) comes s)
  comes-by (reactions.Changed i) n target dialog empty comes s waits = inl (waits, subst (λ t. Stands look d t.leaves t dialog) comes s)
  comes-by (reactions.Capture i) n target dialog empty comes s waits = inl (waits, subst (λ t. Stands look d t.leaves t dialog) comes s)
  comes-by reactions.Release n target dialog empty comes s waits = inl (waits, subst (λ t. Stands look d t.leaves t dialog) comes s)

  -- the views handled an event as the machine's leaves do, and then the dialog did what they asked for
  pub comes-handled : (m n target : Modal) (asked : Reaction) → IsFresh m → IsLike m n → IsSteady d n → (KeepsMarks asked → HoldSame d m.leaves n.leaves)
      → reacted d asked n ≡ target → (old mid new : DialogOf V) (r : Reaction) → Stands look d m.leaves m old → mid ≡ record old { body = mid.body; damage = mid.damage }
      → r ≡ asked → opened look mid.body ≡ tree_as d m.leaves n
      → (length n.log ≤ 1 → n.ended ≡ None → (KeepsMarks r → HoldSame d m.leaves n.leaves) → Stands look d m.leaves n mid
      → Stands look d (reacted_first d r n).leaves (reacted_first d r n) new)
      → new.pending ≡ posted_by r → SettlesTo look d target new
  comes-handled m n target asked fresh like steady hold comes old mid new r s same is tree reacts waits =
      let empty : n.log ≡ [] = like.log ∙ fresh.log in
      comes-by r n target new empty (ap (λ x. reacted d x n) is ∙ comes)
      (reacts (omega (arith, ap length empty)) (like.ended ∙ fresh.ended) (λ keeps. hold (subst KeepsMarks is keeps))
      (stands-body m.leaves m n old mid like steady s same tree)) waits

-- no mark may have changed, where the answer says so
pub keeps-as : (r asked : Reaction) → r ≡ asked → KeepsMarks asked → KeepsMarks r
keeps-as r asked is keeps j e = keeps j (sym is ∙ e)
