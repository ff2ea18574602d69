-- One leaf of a dialog's tree changes, and what becomes of the tree where a leaf comes to hold the mouse.
use Rattle.std.proofs.Common.{◌≡◌, ℕ, Bool, true, false, ◌==◌, if◌then◌else◌, List, map, Option, Some, None, is_some, refl, sym, ap, ◌∙◌}
use Rattle.tv_model.specs.declared.node.Id.{Id}
use Rattle.tv_model.specs.declared.desc.Dialog.{Dialog}
use Rattle.tv_view.specs.Meaning.{Placed}
use Rattle.tv_model.specs.Description.Nodes.{is_cluster}
use Rattle.tv_machine.specs.State.{LeafState, Held}
use Rattle.tv_machine.specs.Leaves.{PlacedNode, leaf_list}
use Rattle.tv_model.specs.Controls.Contents.{Content}
use Rattle.tv_machine.specs.Dialog.Modal.{Modal, content_at, leaf_at, content_put}
use Rattle.tv_machine.specs.Dialog.Rules.{is_enabled, is_visible}
use Rattle.tv_model.specs.Kinds.Cluster.{is_marked}
use Rattle.tv_view.specs.Fields as fields
use Rattle.tv_machine.specs.Dialog.Lawful.{IsLawfulDialog}
use Rattle.tv_machine.specs.Dialog.Alike.{HoldSame}
use Rattle.tv_group.specs.Ready.{HoldsLeaf}
use Rattle.tv_group.specs.Tree.{IsSteady, around_of, held_at, placed_as, tree_as, tree_of}
use Rattle.tv_machine.proofs.ListLemmas.{bool_cases, id-itself, id-swap, map-map, same-id}
use Rattle.tv_machine.proofs.LeafLemmas.{IsIn, content_at-other, content_at-same, leaf_at-same, leaves-same}
use Rattle.tv_group.proofs.Tree.TreeLemmas.{where_id}
use Rattle.tv_machine.proofs.MarkLemmas.{enabled-same, hold-changed, hold-unclustered, visible-same}

-- ---- one leaf changes

-- a leaf in its place, by all that a state says of it
abbrev pub placed_by : Dialog → PlacedNode → Content → Bool → Option ℕ → Bool → Bool → Placed
placed_by d leaf c is_focused held is_shown is_enabled = record {
  leaf = record {
    node = leaf.node;
    value = c.value;
    private = c.private;
    overwrites = c.overwrites;
    is_focused = is_focused;
    held = held;
    is_shown = is_shown;
    is_enabled = is_enabled;
  };
  around = around_of d leaf;
  is_current = is_focused;
}

pub placed-same : (d : Dialog) (leaf : PlacedNode) (c c' : Content) (f : Bool) (h h' : Option ℕ) (s s' e e' : Bool) → c ≡ c' → h ≡ h'
    → s ≡ s' → e ≡ e'
    → placed_by d leaf c f h s e ≡ placed_by d leaf c' f h' s' e'
placed-same d leaf c c' f h h' s s' e e' same-c same-h same-s same-e =
    ap (λ x. placed_by d leaf x f h s e) same-c
    ∙ ap (λ x. placed_by d leaf c' f x s e) same-h
    ∙ ap (λ x. placed_by d leaf c' f h' x e) same-s
    ∙ ap (λ x. placed_by d leaf c' f h' s' x) same-e

module _ (d : Dialog) (lawful : IsLawfulDialog d) where
  -- two leaves of one id are the same
  pub leaf-same : (one other : PlacedNode) → IsIn d one → IsIn d other → one.node.id ≡ other.node.id → one ≡ other
  leaf-same one other e f is =
      let both : Some one ≡ Some other = sym (leaf_at-same d other.node.id one e is) ∙ f in
      cc

  -- the leaf becomes what it is in another state, and so have all others
  pub tree-at : (leaf : PlacedNode) (change : Placed → Placed) (ruled ruled' : List LeafState) (m m' : Modal) → IsIn d leaf
      → change (placed_as d ruled m leaf) ≡ placed_as d ruled' m' leaf
      → ((other : PlacedNode) → IsIn d other → (other.node.id.0 == leaf.node.id.0) ≡ false
      → placed_as d ruled m other ≡ placed_as d ruled' m' other)
      → map (where_id d lawful leaf.node.id change) (tree_as d ruled m) ≡ tree_as d ruled' m'
  tree-at leaf change ruled ruled' m m' in-d here others =
      map-map (placed_as d ruled m) (where_id d lawful leaf.node.id change) (leaf_list d.views)
      ∙ leaves-same d lawful (λ other. where_id d lawful leaf.node.id change (placed_as d ruled m other)) (placed_as d ruled' m')
      (λ other e. bool_cases (other.node.id.0 == leaf.node.id.0)
      (λ b. (if b then change (placed_as d ruled m other) else placed_as d ruled m other) ≡ placed_as d ruled' m' other)
      (λ is. (let same : other ≡ leaf = leaf-same other leaf e in-d (same-id other.node.id leaf.node.id is) in
      ap (λ y. change (placed_as d ruled m y)) same ∙ here ∙ ap (placed_as d ruled' m') (sym same)))
      (λ is. others other e is))

  -- ---- a leaf holds the mouse

  -- the leaf of the id holds this and, where it is told so, the mouse
  abbrev pub with_hold : Id → Content → Option Held → Modal → Modal
  with_hold i c held m = record (content_put d i c m) { held = held }

  pub held-other : (i j : Id) (item : ℕ) → (j.0 == i.0) ≡ false → held_at (Some (record { id = i; item = item })) j ≡ None
  held-other i j item other = ap (λ b. if b then Some item else None) (id-swap i j ∙ other)

  pub held-here : (i : Id) (item : ℕ) → held_at (Some (record { id = i; item = item })) i ≡ Some item
  held-here i item = ap (λ b. if b then Some item else None) (id-itself i)

  module _ (m : Modal) (steady : IsSteady d m) (leaf : PlacedNode) (in-d : IsIn d leaf) (c : Content)
      (kept : is_cluster leaf.node.kind ≡ true → c.value ≡ (content_at m leaf.node.id).value) where
    -- every rule holds as it did
    pub hold-kept : HoldSame d m.leaves (content_put d leaf.node.id c m).leaves
    hold-kept =
        bool_cases (is_cluster leaf.node.kind)
        (λ b. is_cluster leaf.node.kind ≡ b → HoldSame d m.leaves (content_put d leaf.node.id c m).leaves)
        (λ is e. hold-changed d lawful m steady.leaves leaf.node.id c (λ item. ap (λ v. is_marked v item) (sym (kept e))))
        (λ is e. hold-unclustered d lawful m steady.leaves leaf.node.id c leaf in-d e) refl

    -- the leaf alone changes
    pub tree-with_hold : (held : Option Held) (change : Placed → Placed)
        → change (placed_as d m.leaves m leaf)
        ≡ record (placed_as d m.leaves m leaf) {
          leaf = record
              (fields.with_content c (placed_as d m.leaves m leaf).leaf) { held = held_at held leaf.node.id };
        }
        → ((other : PlacedNode) → (other.node.id.0 == leaf.node.id.0) ≡ false → held_at m.held other.node.id ≡ held_at held other.node.id)
        → map (where_id d lawful leaf.node.id change) (tree_of d m) ≡ tree_of d (with_hold leaf.node.id c held m)
    tree-with_hold held change here others =
        let after : Modal = with_hold leaf.node.id c held m in
        tree-at leaf change m.leaves after.leaves m after in-d
        (here ∙ placed-same d leaf c (content_at after leaf.node.id) (leaf.node.id.0 == m.focus.0) (held_at held leaf.node.id)
        (held_at held leaf.node.id)
        (is_visible d m.leaves leaf) (is_visible d after.leaves leaf) (is_enabled d m.leaves leaf.node)
        (is_enabled d after.leaves leaf.node)
        (sym (content_at-same d lawful m steady.leaves leaf.node.id c leaf in-d)) refl
        (visible-same d m.leaves after.leaves hold-kept leaf) (enabled-same d m.leaves after.leaves hold-kept leaf.node))
        (λ other e apart. placed-same d other (content_at m other.node.id) (content_at after other.node.id) (other.node.id.0 == m.focus.0)
        (held_at m.held other.node.id) (held_at held other.node.id)
        (is_visible d m.leaves other) (is_visible d after.leaves other) (is_enabled d m.leaves other.node)
        (is_enabled d after.leaves other.node)
        (sym (content_at-other d lawful m steady.leaves leaf.node.id c other e apart)) (others other apart)
        (visible-same d m.leaves after.leaves hold-kept other) (enabled-same d m.leaves after.leaves hold-kept other.node))

  -- a dialog stays steady whatever holds the mouse
  pub steady-held : (m : Modal) (held : Option Held) → IsSteady d m → IsSteady d (record m { held = held })
  steady-held m held steady = record { leaves = steady.leaves; contents = steady.contents }

-- ---- what holds the mouse

pub nothing-held : (d : Dialog) (m : Modal) → m.held ≡ None → HoldsLeaf d m
nothing-held d m free held is = let f : None ≡ Some held = sym free ∙ is in absurd cc

pub leaf-held : (d : Dialog) (leaf : PlacedNode) → IsIn d leaf → (item : ℕ) (m : Modal)
    → m.held ≡ Some (record { id = leaf.node.id; item = item }) → HoldsLeaf d m
leaf-held d leaf in-d item m holding held is =
    let one : Held = record { id = leaf.node.id; item = item } in
    let both : Some one ≡ Some held = sym holding ∙ is in
    let same : one ≡ held = cc in
    ap (λ (h : Held). is_some (leaf_at d h.id)) (sym same) ∙ ap is_some in-d
