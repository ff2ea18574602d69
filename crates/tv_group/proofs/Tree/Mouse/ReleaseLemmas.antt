-- An up on the tree of a dialog does what it does on the machine's dialog while a leaf holds the mouse.
use Rattle.std.proofs.Common.{◌≡◌, ℕ, Bool, true, false, ◌==◌, if◌then◌else◌, map, Some, None, is_some, IsTrue, refl, sym, ap, subst, ◌∙◌}
use Rattle.tv_cells.specs.declared.rect.Point.{Point}
use Rattle.tv_event.specs.declared.event.Event.TheVariants as events
use Rattle.tv_event.specs.declared.event.Phase.{Phase}
use Rattle.tv_model.specs.declared.kind.Kind.{Kind}
use Rattle.tv_model.specs.declared.kind.Kind.TheVariants as kinds
use Rattle.tv_model.specs.declared.node.Id.{Id}
use Rattle.tv_model.specs.declared.desc.Dialog.{Dialog}
use Rattle.tv_view.specs.Meaning.{Leaf, Placed}
use Rattle.tv_model.specs.Controls.Shortcut.{ClusterKind, Boxes, Radios}
use Rattle.tv_machine.specs.State.{Held}
use Rattle.tv_machine.specs.Leaves.{PlacedNode}
use Rattle.tv_model.specs.Controls.Contents.{Content}
use Rattle.tv_model.specs.Controls.Behaviour.{Answer, Passed, Becomes, Presses}
use Rattle.tv_model.specs.Kinds.Cluster.{cluster_item_pressed, item_of_row}
use Rattle.tv_machine.specs.Controls.Tables.{up_answer}
use Rattle.tv_machine.specs.Dialog.Modal.{Modal, content_at, leaf_at, content_put}
use Rattle.tv_machine.specs.Dialog.Mouse as mouse
use Rattle.tv_machine.specs.Dialog.Mouse.{held_up, released}
use Rattle.tv_machine.specs.Dialog.Rules.{is_enabled, is_visible}
use Rattle.tv_view.specs.declared.env.Env.{Env}
use Rattle.tv_view.specs.declared.reaction.Reaction.{Reaction}
use Rattle.tv_view.specs.declared.reaction.Reaction.TheVariants.{Changed, Release}
use Rattle.tv_view.specs.Effects.{handled, lifted, with_answer}
use Rattle.tv_view.specs.Fields as fields
use Rattle.tv_view.specs.Points as points
use Rattle.tv_view.specs.Reactions.{lifted_answer, press_of, release_answer}
use Rattle.tv_group.specs.Handling.{group_after, group_answer, placed_after}
use Rattle.tv_machine.specs.Dialog.Lawful.{IsLawfulDialog}
use Rattle.tv_group.specs.Ready.{IsLike, IsPointOf}
use Rattle.tv_machine.specs.Dialog.Alike.{HoldSame}
use Rattle.tv_group.specs.Tree.{IsSteady, IsSteadyContent, around_of, held_at, leaf_as, placed_as, tree_as, tree_of}
use Rattle.tv_group.specs.TreeTurns.{reacted}
use Rattle.tv_machine.proofs.ListLemmas.{bool_cases, option_cases}
use Rattle.tv_machine.proofs.LeafLemmas.{IsIn, content_at-other, content_at-same, leaf_at-in}
use Rattle.tv_group.proofs.Tree.Keys.EnterLemmas.{press-acts}
use Rattle.tv_group.proofs.Tree.TreeLemmas.{steady-changed, where_id}
use Rattle.tv_machine.proofs.MarkLemmas.{hold-itself}
use Rattle.tv_group.proofs.Tree.Mouse.HoldLemmas.{placed-same, steady-held, tree-at}
use Rattle.tv_group.proofs.Tree.Mouse.PlaceLemmas.{seen_point, up-seen}
use Rattle.tv_group.proofs.Tree.Mouse.ReachLemmas.{IsPlacedWell, inside-seen, row-seen}
use Rattle.tv_group.proofs.Tree.Mouse.TopmostLemmas.{well-in}
use Rattle.tv_group.proofs.Tree.Mouse.TakenLemmas.{held-nothing, held-remembered, scan-held, scan_after-held, takes-up, up-answer}

-- ---- what a release makes of what a leaf holds

released_steady : (f : Bool) (kind : ClusterKind) (k : Kind) (c : Content)
    → ((x : Content) → IsTrue (is_some x.value) → IsSteadyContent f k x)
    → (item : ℕ) (b : Bool) (content : Content) → (if b then Becomes (cluster_item_pressed kind item c) else Passed) ≡ Becomes content
    → IsSteadyContent f k content
released_steady f Boxes k c fits item true content e = let same : cluster_item_pressed Boxes item c ≡ content = cc in
    subst (IsSteadyContent f k) same (fits (cluster_item_pressed Boxes item c) refl)
released_steady f Radios k c fits item true content e = let same : cluster_item_pressed Radios item c ≡ content = cc in
    subst (IsSteadyContent f k) same (fits (cluster_item_pressed Radios item c) refl)
released_steady f kind k c fits item false content e = absurd cc

pub up-steady : (f : Bool) (kind : Kind) (item row : ℕ) (c content : Content) → up_answer kind item row c ≡ Becomes content
    → IsSteadyContent f kind content
up-steady f (kinds.CheckBoxes boxes) item row c content e = released_steady f Boxes (kinds.CheckBoxes boxes) c (λ x s. s) item
    (item_of_row row == item) content e
up-steady f (kinds.RadioButtons radios) item row c content e = released_steady f Radios (kinds.RadioButtons radios) c (λ x s. s) item
    (item_of_row row == item) content e
up-steady f _ item row c content e = absurd cc

-- ---- what an up comes to

-- nothing holds the mouse any longer: the tree is that of this dialog, in which the rules are to be applied where a leaf has
-- changed, and what was asked for makes of it what an up makes of the machine's dialog
pub record IsReleased (d : Dialog) (m : Modal) (ph : Phase) (env : Env) (p : Point) (up after : Modal) : Type 0 where
  pub tree : group_after (events.Up p) ph env (tree_of d m) ≡ tree_as d m.leaves after
  pub reacts : reacted d (group_answer (events.Up p) ph env (tree_of d m)) after ≡ up
  pub free : after.held ≡ None
  pub steady : IsSteady d after
  pub like : IsLike m after
  -- where no leaf has changed
  pub unchanged : ((i : Id) → group_answer (events.Up p) ph env (tree_of d m) ≡ Changed i → ⊥) → after ≡ record m { held = None }

abbrev pub let_go : Modal → Modal
let_go m = record m { held = None }

module _ (d : Dialog) (lawful : IsLawfulDialog d) (p : Point) (at : IsPointOf p) (m : Modal) (steady : IsSteady d m) (ph : Phase)
    (env : Env)
    (held : Held) (holding : m.held ≡ Some held) (leaf : PlacedNode) (found : leaf_at d held.id ≡ Some leaf) where
  abbrev here : Leaf
  here = leaf_as d m.leaves m leaf

  abbrev there : Point
  there = seen_point (around_of d leaf) p

  abbrev placed : Placed
  placed = placed_as d m.leaves m leaf

  abbrev own : Content
  own = content_at m leaf.node.id

  abbrev change : Placed → Placed
  change = placed_after (events.Up p) ph env

  abbrev answered : Answer
  answered = up_answer leaf.node.kind held.item (mouse.row_on leaf p) own

  in-d : IsIn d leaf
  in-d = leaf_at-in d lawful held.id leaf found

  well : IsPlacedWell leaf
  well = well-in d lawful p at leaf in-d

  inside : points.leaf_has_point here there ≡ mouse.is_inside leaf p
  inside = inside-seen d leaf p well at

  row : points.row_of here there ≡ mouse.row_on leaf p
  row = row-seen d leaf p well at

  -- ---- the answer

  asked_by : Bool → ℕ → Reaction
  asked_by b n = if b then release_answer here (up_answer leaf.node.kind held.item n own) else Release

  up_asks : group_answer (events.Up p) ph env (tree_of d m) ≡ (if mouse.is_inside leaf p then release_answer here answered else Release)
  unfolding group_answer asked_by
  up_asks =
      scan-held d lawful m (events.Up p) ph env (λ other. takes-up d m.leaves m p ph env other) held holding leaf found
      ∙ up-answer d m.leaves m p ph env leaf
      ∙ ap (lifted_answer here there) (held-remembered d m held holding leaf found)
      ∙ ap (λ b. asked_by b (points.row_of here there)) inside
      ∙ ap (asked_by (mouse.is_inside leaf p)) row

  -- ---- the tree

  lifted_by : Bool → ℕ → Placed
  lifted_by b n = record placed {
    leaf = record
        (if b then with_answer (up_answer leaf.node.kind held.item n own) here else here) { held = None };
  }

  up_placed : change placed ≡ record placed {
    leaf = record
        (if mouse.is_inside leaf p then with_answer answered here else here) { held = None };
  }
  unfolding handled lifted_by
  up_placed =
      ap (λ e. record placed { leaf = handled e ph env here }) (up-seen (around_of d leaf) p)
      ∙ ap (λ o. record placed { leaf = lifted there o here }) (held-remembered d m held holding leaf found)
      ∙ ap (λ b. lifted_by b (points.row_of here there)) inside
      ∙ ap (lifted_by (mouse.is_inside leaf p)) row

  up_tree : group_after (events.Up p) ph env (tree_of d m) ≡ map (where_id d lawful leaf.node.id change) (tree_of d m)
  unfolding group_after
  up_tree = scan_after-held d lawful m (events.Up p) ph env (λ other. takes-up d m.leaves m p ph env other) held holding leaf found

  -- the leaf lets go
  tree_let_go : change placed ≡ record placed { leaf = record here { held = None } }
      → group_after (events.Up p) ph env (tree_of d m) ≡ tree_as d m.leaves (let_go m)
  tree_let_go e =
      up_tree
      ∙ tree-at d lawful leaf change m.leaves m.leaves m (let_go m) in-d e
      (λ other is apart. placed-same d other (content_at m other.node.id) (content_at m other.node.id) (other.node.id.0 == m.focus.0)
      (held_at m.held other.node.id) None (is_visible d m.leaves other) (is_visible d m.leaves other)
      (is_enabled d m.leaves other.node) (is_enabled d m.leaves other.node)
      refl (held-nothing d m held holding leaf other found apart) refl refl)

  -- and holds something else
  tree_changed : (c : Content) → change placed ≡ record placed { leaf = record (fields.with_content c here) { held = None } }
      → group_after (events.Up p) ph env (tree_of d m) ≡ tree_as d m.leaves (content_put d leaf.node.id c (let_go m))
  tree_changed c e =
      let after : Modal = content_put d leaf.node.id c (let_go m) in
      up_tree
      ∙ tree-at d lawful leaf change m.leaves m.leaves m after in-d
      (e ∙ placed-same d leaf c (content_at after leaf.node.id) (leaf.node.id.0 == m.focus.0) None None
      (is_visible d m.leaves leaf) (is_visible d m.leaves leaf) (is_enabled d m.leaves leaf.node) (is_enabled d m.leaves leaf.node)
      (sym (content_at-same d lawful (let_go m) steady.leaves leaf.node.id c leaf in-d)) refl refl refl)
      (λ other is apart. placed-same d other (content_at m other.node.id) (content_at after other.node.id) (other.node.id.0 == m.focus.0)
      (held_at m.held other.node.id) None (is_visible d m.leaves other) (is_visible d m.leaves other)
      (is_enabled d m.leaves other.node) (is_enabled d m.leaves other.node)
      (sym (content_at-other d lawful (let_go m) steady.leaves leaf.node.id c other is apart))
      (held-nothing d m held holding leaf other found apart) refl refl)

  -- ---- by what the leaf answers

  abbrev Comes : Modal → Type 0
  Comes up = (after : Modal) × IsReleased d m ph env p up after

  -- it does nothing else, or is pressed
  plainly : (r : Reaction) (up : Modal) → group_answer (events.Up p) ph env (tree_of d m) ≡ r → reacted d r (let_go m) ≡ up
      → change placed ≡ record placed { leaf = record here { held = None } } → Comes up
  plainly r up asks reacts e = (
    let_go m,
    record {
      tree = tree_let_go e;
      reacts = ap (λ x. reacted d x (let_go m)) asks ∙ reacts;
      free = refl;
      steady = steady-held d lawful m None steady;
      like = record { focus = refl; log = refl; ended = refl };
      unchanged = λ kept. refl;
    },
  )

  becoming : (c : Content) → answered ≡ Becomes c → group_answer (events.Up p) ph env (tree_of d m) ≡ Changed leaf.node.id
      → change placed ≡ record placed { leaf = record (fields.with_content c here) { held = None } }
      → Comes (content_put d leaf.node.id c (let_go m))
  becoming c is asks e = (
    content_put d leaf.node.id c (let_go m),
    record {
      tree = tree_changed c e;
      reacts = ap (λ x. reacted d x (content_put d leaf.node.id c (let_go m))) asks;
      free = refl;
      steady = steady-changed d lawful (let_go m) leaf.node.id c (steady-held d lawful m None steady)
          (λ other f. let both : Some leaf ≡ Some other = sym in-d ∙ f in let one : leaf ≡ other = cc in
          subst (λ (y : PlacedNode). IsSteadyContent (y.node.id.0 == m.focus.0) y.node.kind c) one
          (up-steady (leaf.node.id.0 == m.focus.0) leaf.node.kind held.item (mouse.row_on leaf p) own c is));
      like = record { focus = refl; log = refl; ended = refl };
      unchanged = λ kept. absurd (kept leaf.node.id asks);
    },
  )

  by_answer : (a : Answer) → answered ≡ a → group_answer (events.Up p) ph env (tree_of d m) ≡ release_answer here a
      → change placed ≡ record placed { leaf = record (with_answer a here) { held = None } } → Comes (released d leaf a (let_go m))
  by_answer Passed is asks e = plainly Release (let_go m) asks refl e
  by_answer (Becomes content) is asks e = becoming content is asks e
  by_answer Presses is asks e = plainly (press_of here leaf.node.kind) (mouse.released d leaf Presses (let_go m)) asks
      (press-acts d (let_go m) here leaf.node.kind) e

  leaf_released : Comes (mouse.up_on d leaf held.item p m)
  leaf_released =
      bool_cases (mouse.is_inside leaf p)
      (λ b. group_answer (events.Up p) ph env (tree_of d m) ≡ (if b then release_answer here answered else Release)
      → change placed ≡ record placed { leaf = record (if b then with_answer answered here else here) { held = None } }
      → Comes (if b then released d leaf answered (let_go m) else let_go m))
      (λ is asks e. by_answer answered refl asks e)
      (λ is asks e. plainly Release (let_go m) asks refl e)
      up_asks up_placed

-- the leaf that holds the mouse lets go of it
pub up-turn : (d : Dialog) → IsLawfulDialog d → (p : Point) → IsPointOf p → (m : Modal) → IsSteady d m → (ph : Phase) (env : Env)
    → (held : Held) → m.held ≡ Some held → IsTrue (is_some (leaf_at d held.id))
    → (after : Modal) × IsReleased d m ph env p (held_up d (leaf_at d held.id) held.item p m) after
up-turn d lawful p at m steady ph env held holding is_leaf =
    option_cases (leaf_at d held.id)
    (λ o. leaf_at d held.id ≡ o → (after : Modal) × IsReleased d m ph env p (held_up d o held.item p m) after)
    (λ none e. (let f : false ≡ true = ap is_some (sym none) ∙ is_leaf in absurd cc))
    (λ leaf some e. leaf_released d lawful p at m steady ph env held holding leaf e) refl

-- where no leaf has changed the rules need not be applied
module _ (d : Dialog) (m : Modal) (ph : Phase) (env : Env) (p : Point) (up after : Modal) (turn : IsReleased d m ph env p up after)
    (kept : (i : Id) → group_answer (events.Up p) ph env (tree_of d m) ≡ Changed i → ⊥) where
  pub up-holds : HoldSame d m.leaves after.leaves
  up-holds = subst (λ (n : Modal). HoldSame d m.leaves n.leaves) (sym (turn.unchanged kept)) (hold-itself d m.leaves)
