-- The leaves of a fresh group: those that one pass over its nodes finds, with the panes that are open.
use Rattle.std.proofs.Common.{◌≡◌, ℕ, Bool, true, false, cond, nat_lt, ◌||◌, List, [], ◌∷◌, ◌++◌, ◌+◌, ◌≤◌, All, map, reverse, refl, sym, ap, subst, ◌∙◌, arith, append_assoc, Option}
use Rattle.std.specs.Prelude.{if◌then◌else◌}
use Rattle.std.specs.List.{filter}
use Rattle.std.proofs.lemmas.Bool.Decides.{nat_tests}
use Rattle.std.proofs.lemmas.List.{append-nil, map-append}
use Rattle.std.proofs.lemmas.List.Elements.{All-nil, All-cons, All-head, All-tail}
use Rattle.tv_cells.specs.declared.rect.Rect.{Rect}
use Rattle.tv_model.specs.declared.node.Node.{Node}
use Rattle.tv_view.specs.Meaning.{Leaf, LeafAt, Part, PaneAt, Outlined, Placed, alone, fresh, has_current, inside, kept, uncurrent}
use Rattle.tv_model.specs.Description.Nodes.{is_pane}
use Rattle.tv_model.specs.Description.Rectangles.{place_of_node}
use Rattle.tv_machine.specs.Leaves.{PlacedNode, leaf_list, leaves_in, open_at}
use Rattle.tv_group.specs.Current.{is_at}
use Rattle.tv_group.specs.Opened.{opened, opened_member, joined, member_step, group_step}
use Rattle.tv_group.specs.Outline.{IsFreshBody, Outline, all_at, body_bounds, declared, members_outline, outline, outline_member, outlined, part_step, whole_step}
use Rattle.tv_group.specs.declared.group.MemberOf.{MemberOf, roll-MemberOf}
use Rattle.tv_group.specs.declared.group.GroupOf.{GroupOf, roll-GroupOf}
use Rattle.tv_group.specs.declared.group.MemberOf.TheOpen.{MemberOf-F, GroupOf-F, Leaf as LeafHere, Pane as PaneHere}
use Rattle.tv_group.specs.declared.group.MemberOf.TheFolds.{ind-MemberOf, map-MemberOf, fold-roll-MemberOf, fold-roll-GroupOf}
use Rattle.tv_group.proofs.ListLemmas.{filter-weaker, filter-stronger, filter-map, map-snoc, reverse-step, map-reverse, map-same, map-then}
use Rattle.tv_group.proofs.OpenedLemmas.{opened-members, opened-rolled}

-- ---- one pass over an outline

-- a pane that is open, and how many groups are around it
record OpenPane : Type 0 where
  pub depth : ℕ
  pub bounds : Rect

abbrev pane_at : ℕ → Rect → OpenPane
pane_at depth bounds = record { depth = depth; bounds = bounds }

-- the panes around what stands at a depth: those less deep
abbrev around_at : ℕ → List OpenPane → List OpenPane
around_at depth panes = filter (λ p. nat_lt p.depth depth) panes

-- the panes that are open after a part
abbrev after_part : List OpenPane → ℕ → Part → List OpenPane
after_part panes depth (LeafAt leaf) = around_at depth panes
after_part panes depth (PaneAt bounds) = pane_at depth bounds ∷ around_at depth panes

abbrev bounds_from : List OpenPane → List Rect
bounds_from panes = map (λ p. p.bounds) (reverse panes)

-- a leaf in panes
abbrev leaf_in : List OpenPane → Leaf → Placed
leaf_in panes leaf = record { leaf = leaf; around = bounds_from panes; is_current = false }

abbrev before_part : List OpenPane → ℕ → Part → List Placed → List Placed
before_part panes depth (LeafAt leaf) xs = leaf_in (around_at depth panes) leaf ∷ xs
before_part panes depth (PaneAt bounds) xs = xs

abbrev placed_in : List OpenPane → List Outlined → List Placed
placed_in panes [] = []
placed_in panes (x ∷ xs) = before_part panes x.depth x.part (placed_in (after_part panes x.depth x.part) xs)

-- the panes that are open after all parts
abbrev after_parts : List OpenPane → List Outlined → List OpenPane
after_parts panes [] = panes
after_parts panes (x ∷ xs) = after_parts (after_part panes x.depth x.part) xs

-- a leaf in its place, in more panes around it
abbrev put_in : List OpenPane → Placed → Placed
put_in panes x = record { leaf = x.leaf; around = bounds_from panes ++ x.around; is_current = false }

-- ---- the panes around a depth

lt_weaker : (d k n : ℕ) → k ≤ n → nat_lt d k ≡ true → nat_lt d n ≡ true
lt_weaker d k n h e = grind (arith, nat_tests)

lt_next : (k : ℕ) → nat_lt k (k + 1) ≡ true
lt_next k = grind (arith, nat_tests)

lt_itself : (k : ℕ) → nat_lt k k ≡ false
lt_itself k = grind (arith, nat_tests)

lt_both : (a b : ℕ) → nat_lt (a + 1) (b + 1) ≡ nat_lt a b
lt_both a b = grind (arith, nat_tests)

around-weaker : (k n : ℕ) (panes : List OpenPane) → k ≤ n → around_at k (around_at n panes) ≡ around_at k panes
around-weaker k n panes h = filter-weaker (λ p. nat_lt p.depth k) (λ p. nat_lt p.depth n) (λ p e. lt_weaker p.depth k n h e) panes

around-stronger : (k n : ℕ) (panes : List OpenPane) → k ≤ n → around_at n (around_at k panes) ≡ around_at k panes
around-stronger k n panes h = filter-stronger (λ p. nat_lt p.depth k) (λ p. nat_lt p.depth n) (λ p e. lt_weaker p.depth k n h e) panes

-- inside a pane, it is one of them
around-in : (k : ℕ) (bounds : Rect) (panes : List OpenPane)
    → around_at (k + 1) (pane_at k bounds ∷ around_at k panes) ≡ pane_at k bounds ∷ around_at k panes
around-in k bounds panes =
    ap (λ b. cond b (pane_at k bounds ∷ around_at (k + 1) (around_at k panes)) (around_at (k + 1) (around_at k panes))) (lt_next k)
    ∙ ap (λ t. pane_at k bounds ∷ t) (around-stronger k (k + 1) panes (omega arith))

-- at its own depth it isn't
around-beside : (k : ℕ) (bounds : Rect) (panes : List OpenPane) → around_at k (pane_at k bounds ∷ around_at k panes) ≡ around_at k panes
around-beside k bounds panes =
    ap (λ b. cond b (pane_at k bounds ∷ around_at k (around_at k panes)) (around_at k (around_at k panes))) (lt_itself k)
    ∙ around-stronger k k panes (omega arith)

-- ---- the pass over parts behind parts

before-append : (panes : List OpenPane) (depth : ℕ) (part : Part) (xs ys : List Placed)
    → before_part panes depth part (xs ++ ys) ≡ before_part panes depth part xs ++ ys
before-append panes depth (LeafAt leaf) xs ys = refl
before-append panes depth (PaneAt bounds) xs ys = refl

placed-append : (panes : List OpenPane) (xs ys : List Outlined)
    → placed_in panes (xs ++ ys) ≡ placed_in panes xs ++ placed_in (after_parts panes xs) ys
placed-append panes [] ys = refl
placed-append panes (x ∷ xs) ys =
    ap (before_part panes x.depth x.part) (placed-append (after_part panes x.depth x.part) xs ys)
    ∙ before-append panes x.depth x.part (placed_in (after_part panes x.depth x.part) xs)
    (placed_in (after_parts (after_part panes x.depth x.part) xs) ys)

after-append : (panes : List OpenPane) (xs ys : List Outlined) → after_parts panes (xs ++ ys) ≡ after_parts (after_parts panes xs) ys
after-append panes [] ys = refl
after-append panes (x ∷ xs) ys = after-append (after_part panes x.depth x.part) xs ys

-- ---- parts that give leaves

-- the pass over these parts at a depth finds the leaves, and leaves the panes open that are around the depth
record Finds (depth : ℕ) (panes : List OpenPane) (parts : List Outlined) (xs : List Placed) : Type 0 where
  pub placed : placed_in panes parts ≡ map (put_in (around_at depth panes)) xs
  pub around : around_at depth (after_parts panes parts) ≡ around_at depth panes

finds_none : (depth : ℕ) (panes : List OpenPane) → Finds depth panes [] []
finds_none depth panes = record { placed = refl; around = refl }

finds_leaf : (depth : ℕ) (panes : List OpenPane) (leaf : Leaf) → Finds depth panes (outlined depth (LeafAt leaf) ∷ []) (alone leaf ∷ [])
finds_leaf depth panes leaf = record {
  placed = ap (λ rs. record { leaf = leaf; around = rs; is_current = false } ∷ []) (sym (append-nil (bounds_from (around_at depth panes))));
  around = around-stronger depth depth panes (omega arith);
}

finds_then : (depth : ℕ) (panes : List OpenPane) (parts more : List Outlined) (xs ys : List Placed)
    → Finds depth panes parts xs → Finds depth (after_parts panes parts) more ys → Finds depth panes (parts ++ more) (xs ++ ys)
finds_then depth panes parts more xs ys first second = record {
  placed = placed-append panes parts more ∙ ap (λ t. t ++ placed_in (after_parts panes parts) more) first.placed
      ∙ ap (λ t. map (put_in (around_at depth panes)) xs ++ t) (second.placed ∙ ap (λ a. map (put_in a) ys) first.around)
      ∙ sym (map-append (put_in (around_at depth panes)) xs ys);
  around = ap (around_at depth) (after-append panes parts more) ∙ second.around ∙ first.around;
}

put-kept : (panes : List OpenPane) (b : Bool) (xs : List Placed) → map (put_in panes) (kept b xs) ≡ map (put_in panes) xs
put-kept panes true xs = refl
put-kept panes false xs = map-then uncurrent (put_in panes) xs

finds_kept : (depth : ℕ) (panes : List OpenPane) (parts : List Outlined) (b : Bool) (xs : List Placed) → Finds depth panes parts xs
    → Finds depth panes parts (kept b xs)
finds_kept depth panes parts b xs found =
    record { placed = found.placed ∙ sym (put-kept (around_at depth panes) b xs); around = found.around }

put_inside : (depth : ℕ) (bounds : Rect) (panes : List OpenPane) (x : Placed)
    → put_in (pane_at depth bounds ∷ panes) x ≡ put_in panes (inside bounds x)
put_inside depth bounds panes x =
    ap (λ rs. record { leaf = x.leaf; around = rs; is_current = false })
    (ap (λ ps. map (λ p. p.bounds) ps ++ x.around) (reverse-step (pane_at depth bounds) panes)
    ∙ ap (λ rs. rs ++ x.around) (map-snoc (λ p. p.bounds) (reverse panes) (pane_at depth bounds))
    ∙ append_assoc (bounds_from panes) (bounds ∷ []) x.around)

finds_pane : (depth : ℕ) (panes : List OpenPane) (bounds : Rect) (parts : List Outlined) (xs : List Placed)
    → Finds (depth + 1) (pane_at depth bounds ∷ around_at depth panes) parts xs
    → Finds depth panes (outlined depth (PaneAt bounds) ∷ parts) (map (inside bounds) xs)
finds_pane depth panes bounds parts xs found =
    let here : List OpenPane = pane_at depth bounds ∷ around_at depth panes in
    record {
      placed = found.placed ∙ ap (λ a. map (put_in a) xs) (around-in depth bounds panes)
          ∙ map-same (put_in here) (λ x. put_in (around_at depth panes) (inside bounds x))
          (put_inside depth bounds (around_at depth panes)) xs
          ∙ sym (map-then (inside bounds) (put_in (around_at depth panes)) xs);
      around = sym (around-weaker depth (depth + 1) (after_parts here parts) (omega arith))
          ∙ ap (around_at depth) (found.around ∙ around-in depth bounds panes)
          ∙ around-beside depth bounds panes;
    }

-- ---- trees

-- at any depth, whatever panes are open
abbrev AlwaysFinds : Outline → List Placed → Type 0
AlwaysFinds parts leaves = (depth : ℕ) (panes : List OpenPane) → Finds depth panes (parts depth) leaves

module _ {V : Type 0} (look : V → Leaf) where
  abbrev IsFound : MemberOf V → Type 0
  IsFound m = AlwaysFinds (outline_member look m) (opened_member look m)

  abbrev IsGroupFound : GroupOf V → Type 0
  IsGroupFound g = AlwaysFinds (outline look g) (opened look g)

  members_found : (ms : List (MemberOf V)) → All IsFound ms → (current : Option ℕ) (i depth : ℕ) (panes : List OpenPane)
      → Finds depth panes (all_at depth (map (outline_member look) ms)) (joined current i (map (opened_member look) ms))
  members_found [] all current i depth panes = finds_none depth panes
  members_found (m ∷ ms) all current i depth panes =
      let here = outline_member look m depth in
      finds_then depth panes here (all_at depth (map (outline_member look) ms)) (kept (is_at current i) (opened_member look m))
      (joined current (i + 1) (map (opened_member look) ms))
      (finds_kept depth panes here (is_at current i) (opened_member look m) (All-head IsFound m ms all depth panes))
      (members_found ms (All-tail IsFound m ms all) current (i + 1) depth (after_parts panes here))

  outline-rolled : (x : GroupOf-F V (MemberOf V) (GroupOf V)) (depth : ℕ)
      → outline look (roll-GroupOf V x) depth
      ≡ outlined depth (PaneAt x.bounds) ∷ all_at (depth + 1) (map (outline_member look) x.members.items)
  unfolding outline outline_member
  outline-rolled x depth = ap (λ f. f depth) (fold-roll-GroupOf V Outline Outline (part_step look) whole_step x)

  group_found : (x : GroupOf-F V (MemberOf V) (GroupOf V)) → All IsFound x.members.items → IsGroupFound (roll-GroupOf V x)
  group_found x all depth panes =
      rw (outline-rolled x depth, opened-rolled look x)
      (finds_pane depth panes x.bounds (all_at (depth + 1) (map (outline_member look) x.members.items))
      (joined x.current 0 (map (opened_member look) x.members.items))
      (members_found x.members.items all x.current 0 (depth + 1) (pane_at depth x.bounds ∷ around_at depth panes)))

  leaf_found : (v : V) → IsFound (roll-MemberOf V (LeafHere v))
  unfolding outline_member opened_member
  leaf_found v depth panes =
      rw (
        fold-roll-MemberOf V Outline Outline (part_step look) whole_step (LeafHere v),
        fold-roll-MemberOf V (List Placed) (List Placed) (member_step look) group_step (LeafHere v),
      )
      (finds_leaf depth panes (look v))

  pane_found : (g : GroupOf V) → IsGroupFound g → IsFound (roll-MemberOf V (PaneHere g))
  unfolding outline_member opened_member outline opened
  pane_found g found depth panes =
      rw (
        fold-roll-MemberOf V Outline Outline (part_step look) whole_step (PaneHere g),
        fold-roll-MemberOf V (List Placed) (List Placed) (member_step look) group_step (PaneHere g),
      )
      (found depth panes)

  all_found : (ms : List ((m : MemberOf V) × IsFound m)) → All IsFound (map (λ e. e.0) ms)
  all_found [] = All-nil IsFound
  all_found (e ∷ ms) = All-cons IsFound e.0 (map (λ e. e.0) ms) e.1 (all_found ms)

  layer_found : (y : MemberOf-F V ((m : MemberOf V) × IsFound m) ((g : GroupOf V) × IsGroupFound g))
      → IsFound (roll-MemberOf V (map-MemberOf V ((m : MemberOf V) × IsFound m) ((g : GroupOf V) × IsGroupFound g) (MemberOf V) (GroupOf V)
      (λ e. e.0) (λ e. e.0) y))
  layer_found (LeafHere v) = leaf_found v
  layer_found (PaneHere e) = pane_found e.0 e.1

  every_found : (m : MemberOf V) → IsFound m
  every_found = ind-MemberOf V IsFound IsGroupFound
      (λ x y is. subst (λ z. IsFound (roll-MemberOf V z)) is (layer_found y))
      (λ x y is. group_found x (subst (λ z. All IsFound z.members.items) is (all_found y.members.items)))

  every_all : (ms : List (MemberOf V)) → All IsFound ms
  every_all [] = All-nil IsFound
  every_all (m ∷ ms) = All-cons IsFound m ms (every_found m) (every_all ms)

  -- the members' leaves, without marks, are what the pass over their outline finds
  pass-members : (g : GroupOf V)
      → placed_in [] (members_outline look g 1) ≡ map uncurrent (joined g.current 0 (map (opened_member look) g.members.items))
  pass-members g = (members_found g.members.items (every_all g.members.items) g.current 0 1 []).placed

-- ---- what nodes declare

abbrev pane_of : Node → OpenPane
pane_of pane = pane_at (pane.depth + 1) (place_of_node pane)

-- a fresh leaf in its place, without the body around it
abbrev fresh_in : PlacedNode → Placed
fresh_in leaf = record { leaf = fresh leaf.node; around = map place_of_node (reverse leaf.panes); is_current = false }

around-panes : (depth : ℕ) (panes : List Node) → around_at (depth + 1) (map pane_of panes) ≡ map pane_of (open_at depth panes)
around-panes depth panes =
    filter-map pane_of (λ p. nat_lt p.depth (depth + 1)) (λ pane. nat_lt pane.depth depth) (λ pane. lt_both pane.depth depth) panes

bounds-panes : (panes : List Node) → bounds_from (map pane_of panes) ≡ map place_of_node (reverse panes)
bounds-panes panes = ap (map (λ p. p.bounds)) (sym (map-reverse pane_of panes)) ∙ map-then pane_of (λ p. p.bounds) (reverse panes)

node_found : (b : Bool) (panes : List Node) (view : Node) (views : List Node)
    → ((later : List Node) → placed_in (map pane_of later) (map declared views) ≡ map fresh_in (leaves_in later views))
    → before_part (map pane_of panes) (view.depth + 1) (if b then PaneAt (place_of_node view) else LeafAt (fresh view))
    (placed_in (after_part (map pane_of panes) (view.depth + 1) (if b then PaneAt (place_of_node view) else LeafAt (fresh view)))
    (map declared views))
    ≡ map fresh_in (if b then leaves_in (if b then view ∷ open_at view.depth panes else open_at view.depth panes) views
    else record { node = view; panes = open_at view.depth panes }
    ∷ leaves_in (if b then view ∷ open_at view.depth panes else open_at view.depth panes) views)
node_found true panes view views later =
    ap (λ ps. placed_in (pane_of view ∷ ps) (map declared views)) (around-panes view.depth panes)
    ∙ later (view ∷ open_at view.depth panes)
node_found false panes view views later =
    ap (λ ps. leaf_in ps (fresh view) ∷ placed_in ps (map declared views)) (around-panes view.depth panes)
    ∙ ap (λ rs. record { leaf = fresh view; around = rs; is_current = false }
    ∷ placed_in (map pane_of (open_at view.depth panes)) (map declared views)) (bounds-panes (open_at view.depth panes))
    ∙ ap (λ t. fresh_in (record { node = view; panes = open_at view.depth panes }) ∷ t) (later (open_at view.depth panes))

-- the pass over what nodes declare finds their leaves
pass-declared : (panes views : List Node) → placed_in (map pane_of panes) (map declared views) ≡ map fresh_in (leaves_in panes views)
pass-declared panes [] = refl
pass-declared panes (view ∷ views) = node_found (is_pane view.kind) panes view views (λ later. pass-declared later views)

-- ---- fresh bodies

or_left : (a b : Bool) → (a || b) ≡ false → a ≡ false
or_left false b e = refl
or_left true b e = absurd cc

or_right : (a b : Bool) → (a || b) ≡ false → b ≡ false
or_right false b e = e
or_right true b e = absurd cc

-- leaves of which none is current have no marks
unmarked-none : (xs : List Placed) → has_current xs ≡ false → map uncurrent xs ≡ xs
unmarked-none [] e = refl
unmarked-none (x ∷ xs) e =
    ap (λ b. record { leaf = x.leaf; around = x.around; is_current = b } ∷ map uncurrent xs) (sym (or_left x.is_current (has_current xs) e))
    ∙ ap (λ t. x ∷ t) (unmarked-none xs (or_right x.is_current (has_current xs) e))

-- a leaf of a fresh body in its place: the panes around it from the outermost in, inside the body's bounds
abbrev pub fresh_placed : Rect → PlacedNode → Placed
fresh_placed bounds leaf = record { leaf = fresh leaf.node; around = bounds ∷ map place_of_node (reverse leaf.panes); is_current = false }

pub opened-fresh : {V : Type 0} (look : V → Leaf) (owner : Node) (views : List Node) (g : GroupOf V) → IsFreshBody look owner views g
    → opened look g ≡ map (fresh_placed (body_bounds owner)) (leaf_list views)
opened-fresh look owner views g is =
    let members = joined g.current 0 (map (opened_member look) g.members.items) in
    let found : map uncurrent members ≡ map fresh_in (leaf_list views) =
    sym (pass-members look g) ∙ ap (placed_in []) is.parts ∙ pass-declared [] views in
    sym (unmarked-none (opened look g) is.no_current)
    ∙ ap (map uncurrent) (opened-members look g)
    ∙ map-then (inside g.bounds) uncurrent members
    ∙ sym (map-then uncurrent (inside g.bounds) members)
    ∙ ap (map (inside g.bounds)) found
    ∙ map-then fresh_in (inside g.bounds) (leaf_list views)
    ∙ ap (λ bounds. map (fresh_placed bounds) (leaf_list views)) (sym is.bounds)
