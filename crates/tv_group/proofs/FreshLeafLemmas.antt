-- The leaves of a group whose nodes are no panes.
use Rattle.std.proofs.Common.{◌≡◌, ℕ, true, false, List, [], ◌∷◌, ◌++◌, ◌+◌, All, map, refl, sym, ap, ◌∙◌, Option}
use Rattle.std.proofs.lemmas.List.Elements.{All-head, All-tail}
use Rattle.tv_cells.specs.Canvas.{sub}
use Rattle.tv_cells.specs.Layers.{Layer}
use Rattle.tv_cells.specs.declared.canvas.Canvas.{Canvas}
use Rattle.tv_model.specs.declared.node.Node.{Node}
use Rattle.tv_view.specs.Meaning.{Leaf, LeafAt, PaneAt, Outlined, Placed, alone, fresh, kept}
use Rattle.tv_model.specs.Description.Nodes.{is_pane}
use Rattle.tv_view.specs.declared.env.Env.{Env}
use Rattle.tv_view.specs.Drawing.{is_near, leaf_layers, leaves_layers}
use Rattle.tv_view.proofs.LayingLemmas.{layers-append, layers-inside, layers-kept}
use Rattle.tv_group.specs.Current.{is_at}
use Rattle.tv_group.specs.Opened.{opened, opened_member, joined, member_step, group_step}
use Rattle.tv_group.specs.Outline.{Outline, all_at, declared, members_outline, outline, outline_member, outlined, part_step, whole_step}
use Rattle.tv_group.specs.declared.group.MemberOf.{MemberOf, out-MemberOf}
use Rattle.tv_group.specs.declared.group.GroupOf.{GroupOf}
use Rattle.tv_group.specs.declared.group.MemberOf.TheOpen.{MemberOf-F, Leaf as LeafHere, Pane as PaneHere}
use Rattle.tv_group.specs.declared.group.MemberOf.TheFolds.{fold_out-MemberOf, map-MemberOf, fold-MemberOf, fold-GroupOf}
use Rattle.tv_group.proofs.OutlineLemmas.{outline-members}
use Rattle.tv_group.proofs.OpenedLemmas.{opened-members}

abbrev pub IsLeafNode : Node → Type 0
IsLeafNode n = is_pane n.kind ≡ false

-- leaves one after the other, as their nodes declare them: the last is on top
abbrev pub fresh_layers : Env → Canvas → List Node → List Layer
fresh_layers env c [] = []
fresh_layers env c (n ∷ ns) = fresh_layers env c ns ++ leaf_layers env c (fresh n)

declared_leaf_is : (n : Node) → is_pane n.kind ≡ false → declared n ≡ outlined (n.depth + 1) (LeafAt (fresh n))
declared_leaf_is n e = rw e refl

module _ {V : Type 0} (look : V → Leaf) where
  abbrev outline_at : MemberOf-F V (MemberOf V) (GroupOf V) → Outline
  outline_at o = part_step look (map-MemberOf V (MemberOf V) (GroupOf V) Outline Outline (fold-MemberOf V Outline Outline (part_step look) whole_step) (fold-GroupOf V Outline Outline (part_step look) whole_step) o)

  abbrev opened_at : MemberOf-F V (MemberOf V) (GroupOf V) → List Placed
  opened_at o = member_step look (map-MemberOf V (MemberOf V) (GroupOf V) (List Placed) (List Placed) (fold-MemberOf V (List Placed) (List Placed) (member_step look) group_step) (fold-GroupOf V (List Placed) (List Placed) (member_step look) group_step) o)

  outline_is : (m : MemberOf V) (depth : ℕ) → outline_member look m depth ≡ outline_at (out-MemberOf V m) depth
  unfolding outline_member
  outline_is m depth = ap (λ f. f depth) (fold_out-MemberOf V Outline Outline (part_step look) whole_step m)

  opened_is : (m : MemberOf V) → opened_member look m ≡ opened_at (out-MemberOf V m)
  unfolding opened_member
  opened_is m = fold_out-MemberOf V (List Placed) (List Placed) (member_step look) group_step m

  pane_at : (g : GroupOf V) (depth : ℕ) → outline_at (PaneHere g) depth ≡ outlined depth (PaneAt g.bounds) ∷ members_outline look g (depth + 1)
  unfolding outline
  pane_at g depth = outline-members look g depth

  layer_at : (o : MemberOf-F V (MemberOf V) (GroupOf V)) (depth : ℕ) (rest : List Outlined) (n : Node) (ns : List Node) → is_pane n.kind ≡ false
      → outline_at o depth ++ rest ≡ declared n ∷ map declared ns → (opened_at o ≡ alone (fresh n) ∷ []) × (rest ≡ map declared ns)
  layer_at (LeafHere v) depth rest n ns leaf e =
      let same : outlined depth (LeafAt (look v)) ∷ rest ≡ outlined (n.depth + 1) (LeafAt (fresh n)) ∷ map declared ns = e ∙ ap (λ x. x ∷ map declared ns) (declared_leaf_is n leaf) in
      let heads : outlined depth (LeafAt (look v)) ≡ outlined (n.depth + 1) (LeafAt (fresh n)) = cc in
      let part : LeafAt (look v) ≡ LeafAt (fresh n) = ap (λ x. x.part) heads in
      let is : look v ≡ fresh n = cc in
      let left : rest ≡ map declared ns = cc in
      (ap (λ x. alone x ∷ []) is, left)
  layer_at (PaneHere g) depth rest n ns leaf e =
      let same : outlined depth (PaneAt g.bounds) ∷ (members_outline look g (depth + 1) ++ rest) ≡ outlined (n.depth + 1) (LeafAt (fresh n)) ∷ map declared ns =
      ap (λ xs. xs ++ rest) (sym (pane_at g depth)) ∙ e ∙ ap (λ x. x ∷ map declared ns) (declared_leaf_is n leaf) in
      let heads : outlined depth (PaneAt g.bounds) ≡ outlined (n.depth + 1) (LeafAt (fresh n)) = cc in
      let part : PaneAt g.bounds ≡ LeafAt (fresh n) = ap (λ x. x.part) heads in
      absurd cc

  module _ (env : Env) where
    not_empty : (o : MemberOf-F V (MemberOf V) (GroupOf V)) (depth : ℕ) (rest : List Outlined) → outline_at o depth ++ rest ≡ [] → ⊥
    not_empty (LeafHere v) depth rest e = absurd cc
    not_empty (PaneHere g) depth rest e = let f : outlined depth (PaneAt g.bounds) ∷ (members_outline look g (depth + 1) ++ rest) ≡ [] = ap (λ xs. xs ++ rest) (sym (pane_at g depth)) ∙ e in absurd cc

    member_drawn : (c : Canvas) (current : Option ℕ) (i depth : ℕ) (m : MemberOf V) (ms : List (MemberOf V)) (nodes : List Node) → All IsLeafNode nodes
        → all_at depth (map (outline_member look) (m ∷ ms)) ≡ map declared nodes
        → ((ns : List Node) → All IsLeafNode ns → all_at depth (map (outline_member look) ms) ≡ map declared ns → leaves_layers env c (joined current (i + 1) (map (opened_member look) ms)) ≡ fresh_layers env c ns)
        → leaves_layers env c (joined current i (map (opened_member look) (m ∷ ms))) ≡ fresh_layers env c nodes
    member_drawn c current i depth m ms [] plain e later =
        absurd (not_empty (out-MemberOf V m) depth (all_at depth (map (outline_member look) ms)) (ap (λ xs. xs ++ all_at depth (map (outline_member look) ms)) (sym (outline_is m depth)) ∙ e))
    member_drawn c current i depth m ms (n ∷ ns) plain e later =
        let rest = all_at depth (map (outline_member look) ms) in
        let h = layer_at (out-MemberOf V m) depth rest n ns (All-head IsLeafNode n ns plain) (ap (λ xs. xs ++ rest) (sym (outline_is m depth)) ∙ e) in
        layers-append env c (kept (is_at current i) (opened_member look m)) (joined current (i + 1) (map (opened_member look) ms))
        ∙ ap (λ t. t ++ leaves_layers env c (kept (is_at current i) (opened_member look m))) (later ns (All-tail IsLeafNode n ns plain) h.1)
        ∙ ap (λ t. fresh_layers env c ns ++ t) (layers-kept env c (is_at current i) (opened_member look m) ∙ ap (leaves_layers env c) (opened_is m ∙ h.0))

    members_drawn : (c : Canvas) (current : Option ℕ) (i depth : ℕ) (ms : List (MemberOf V)) (nodes : List Node) → All IsLeafNode nodes
        → all_at depth (map (outline_member look) ms) ≡ map declared nodes
        → leaves_layers env c (joined current i (map (opened_member look) ms)) ≡ fresh_layers env c nodes
    members_drawn c current i depth [] [] plain e = refl
    members_drawn c current i depth [] (n ∷ ns) plain e = absurd cc
    members_drawn c current i depth (m ∷ ms) nodes plain e = member_drawn c current i depth m ms nodes plain e (λ ns p f. members_drawn c current (i + 1) depth ms ns p f)

    -- what a fresh group of leaves shows
    pub group_drawn : (c : Canvas) (g : GroupOf V) (nodes : List Node) → All IsLeafNode nodes → is_near (sub c g.bounds).origin ≡ true → members_outline look g 1 ≡ map declared nodes
        → leaves_layers env c (opened look g) ≡ fresh_layers env (sub c g.bounds) nodes
    group_drawn c g nodes plain near e =
        ap (leaves_layers env c) (opened-members look g)
        ∙ layers-inside env c g.bounds (joined g.current 0 (map (opened_member look) g.members.items)) near
        ∙ members_drawn (sub c g.bounds) g.current 0 1 g.members.items nodes plain e
