-- Members that are made one after the other: what they outline, and how high they stand.
use Rattle.std.proofs.Common.{◌≡◌, ℕ, Bool, true, false, ◌||◌, List, [], ◌∷◌, ◌++◌, ◌+◌, ◌-◌, ◌≤◌, append_assoc, cond, map, refl, sym, ap, ◌∙◌, arith, None, IsTrue}
use Rattle.std.proofs.lemmas.List.{append-nil}
use Rattle.tv_cells.specs.declared.rect.Rect.{Rect}
use Rattle.tv_group.specs.Opened.{group_bounds, joined, level_here, level_of, member_level, members_level, opened, opened_member}
use Rattle.tv_group.specs.Outline.{IsFreshBody, Outline, all_at, body_bounds, declared, has_body, joined_outline, members_outline, outline_member, outlined, part_of}
use Rattle.tv_group.specs.declared.group.GroupOf.{GroupOf}
use Rattle.tv_group.specs.declared.group.MemberOf.{MemberOf}
use Rattle.tv_group.specs.declared.group.MemberOf.TheVariants.{Leaf as LeafM, Pane as PaneM, outs-Leaf, outs-Pane}
use Rattle.tv_group.proofs.OutlineLemmas.{outline-leaf, outline-pane}
use Rattle.tv_model.specs.declared.node.Node.{Node}
use Rattle.tv_model.specs.Description.Nodes.{is_pane}
use Rattle.tv_model.specs.Description.Rectangles.{place_of_node}
use Rattle.tv_view.specs.Meaning.{Leaf, LeafAt, PaneAt, Part, Outlined, Placed, fresh, has_current, inside, uncurrent}

-- ---- outlines

all_behind : (depth : ℕ) (fs : List Outline) (f : Outline) → all_at depth (fs ++ f ∷ []) ≡ all_at depth fs ++ f depth
all_behind depth [] f = append-nil (f depth)
all_behind depth (g ∷ fs) f = ap (λ xs. g depth ++ xs) (all_behind depth fs f) ∙ sym (append_assoc (g depth) (all_at depth fs) (f depth))

map_behind : {A B : Type 0} (f : A → B) (xs : List A) (x : A) → map f (xs ++ x ∷ []) ≡ map f xs ++ f x ∷ []
map_behind f [] x = refl
map_behind f (y ∷ xs) x = ap (λ t. f y ∷ t) (map_behind f xs x)

part_here : (node : Node) (b : Bool) (part : Part) → is_pane node.kind ≡ b → part ≡ cond b (PaneAt (place_of_node node)) (LeafAt (fresh node)) → part ≡ part_of node
part_here node b part is e = e ∙ ap (λ c. cond c (PaneAt (place_of_node node)) (LeafAt (fresh node))) (sym is)

module _ {V : Type 0} (look : V → Leaf) where
  outline_behind : (depth : ℕ) (ms : List (MemberOf V)) (m : MemberOf V)
      → joined_outline look (ms ++ m ∷ []) depth ≡ joined_outline look ms depth ++ outline_member look m depth
  outline_behind depth ms m =
      ap (all_at depth) (map_behind (outline_member look) ms m) ∙ all_behind depth (map (outline_member look) ms) (outline_member look m)

  -- one more member, before parts that follow
  with_member : (depth : ℕ) (ms : List (MemberOf V)) (m : MemberOf V) (own rest : List Outlined) → outline_member look m depth ≡ own
      → joined_outline look (ms ++ m ∷ []) depth ++ rest ≡ joined_outline look ms depth ++ (own ++ rest)
  with_member depth ms m own rest is =
      ap (λ xs. xs ++ rest) (outline_behind depth ms m)
      ∙ append_assoc (joined_outline look ms depth) (outline_member look m depth) rest
      ∙ ap (λ xs. joined_outline look ms depth ++ (xs ++ rest)) is

  -- a leaf was made for the next view
  pub leaf_added : (old new : List (MemberOf V)) (m : MemberOf V) (v : V) (view : Node) (rest : List Node) (panes : ℕ)
      → m ≡ LeafM v → new ≡ old ++ m ∷ [] → look v ≡ fresh view → is_pane view.kind ≡ false → view.depth ≡ panes
      → joined_outline look new (panes + 1) ++ map declared rest ≡ joined_outline look old (panes + 1) ++ map declared (view ∷ rest)
  leaf_added old new m v view rest panes leaf added is kind depth =
      let part : LeafAt (look v) ≡ part_of view = part_here view false (LeafAt (look v)) kind (ap (λ l. LeafAt l) is) in
      let own : outline_member look m (panes + 1) ≡ declared view ∷ [] =
      outline-leaf look m v (panes + 1) leaf ∙ ap (λ n. outlined (n + 1) (LeafAt (look v)) ∷ []) (sym depth) ∙ ap (λ p. outlined (view.depth + 1) p ∷ []) part in
      ap (λ ms. joined_outline look ms (panes + 1) ++ map declared rest) added
      ∙ with_member (panes + 1) old m (declared view ∷ []) (map declared rest) own

  -- a pane was made for the next view, of the views behind it up to these
  pub pane_added : (old new inner : List (MemberOf V)) (m : MemberOf V) (g : GroupOf V) (view : Node) (behind after : List Node) (panes : ℕ)
      → m ≡ PaneM g → new ≡ old ++ m ∷ [] → group_bounds g ≡ place_of_node view → is_pane view.kind ≡ true → view.depth ≡ panes
      → ((depth : ℕ) → members_outline look g depth ≡ joined_outline look inner depth)
      → joined_outline look inner (panes + 1 + 1) ++ map declared after ≡ map declared behind
      → joined_outline look new (panes + 1) ++ map declared after ≡ joined_outline look old (panes + 1) ++ map declared (view ∷ behind)
  pane_added old new inner m g view behind after panes pane added bounds kind depth outline made =
      let part : PaneAt (group_bounds g) ≡ part_of view = part_here view true (PaneAt (group_bounds g)) kind (ap (λ r. PaneAt r) bounds) in
      let first : outlined (panes + 1) (PaneAt (group_bounds g)) ≡ declared view = ap (λ n. outlined (n + 1) (PaneAt (group_bounds g))) (sym depth) ∙ ap (outlined (view.depth + 1)) part in
      let own : outline_member look m (panes + 1) ≡ declared view ∷ joined_outline look inner (panes + 1 + 1) =
      outline-pane look m g (panes + 1) pane
      ∙ ap (λ x. x ∷ members_outline look g (panes + 1 + 1)) first
      ∙ ap (λ xs. declared view ∷ xs) (outline (panes + 1 + 1)) in
      ap (λ ms. joined_outline look ms (panes + 1) ++ map declared after) added
      ∙ with_member (panes + 1) old m (declared view ∷ joined_outline look inner (panes + 1 + 1)) (map declared after) own
      ∙ ap (λ xs. joined_outline look old (panes + 1) ++ declared view ∷ xs) made

-- ---- levels

module _ {V : Type 0} where
  leaf_level : (m : MemberOf V) (v : V) → m ≡ LeafM v → member_level m ≡ 0
  leaf_level m v is = ap member_level is ∙ ap level_here (outs-Leaf v)

  pane_level : (m : MemberOf V) (g : GroupOf V) → m ≡ PaneM g → member_level m ≡ level_of g
  pane_level m g is = ap member_level is ∙ ap level_here (outs-Pane g)

  level_behind : (ms : List (MemberOf V)) (m : MemberOf V) (most : ℕ) → members_level ms ≤ most → member_level m ≤ most → members_level (ms ++ m ∷ []) ≤ most
  level_behind [] m most low own = omega arith
  level_behind (x ∷ ms) m most low own =
      let behind : members_level (ms ++ m ∷ []) ≤ most = level_behind ms m most (omega arith) own in
      omega arith

  -- a leaf stands on no level
  pub leaf_low : (old new : List (MemberOf V)) (m : MemberOf V) (v : V) (panes : ℕ) → m ≡ LeafM v → new ≡ old ++ m ∷ []
      → members_level old + panes ≤ 4 → members_level new + panes ≤ 4
  leaf_low old new m v panes leaf added low =
      let own : member_level m ≡ 0 = leaf_level m v leaf in
      let most : members_level (old ++ m ∷ []) + panes ≤ 4 =
      (let all : members_level (old ++ m ∷ []) ≤ 4 - panes = level_behind old m (4 - panes) (omega arith) (omega arith) in omega arith) in
      rw added most

  -- a pane stands one above its members, which stand in one more pane
  pub pane_low : (old new inner : List (MemberOf V)) (m : MemberOf V) (g : GroupOf V) (panes : ℕ) → m ≡ PaneM g → new ≡ old ++ m ∷ []
      → level_of g ≡ members_level inner + 1 → members_level inner + (panes + 1) ≤ 4
      → members_level old + panes ≤ 4 → members_level new + panes ≤ 4
  pane_low old new inner m g panes pane added level low_inner low =
      let own : member_level m ≡ level_of g = pane_level m g pane in
      let most : members_level (old ++ m ∷ []) + panes ≤ 4 =
      (let all : members_level (old ++ m ∷ []) ≤ 4 - panes = level_behind old m (4 - panes) (omega arith) (omega arith) in omega arith) in
      rw added most

-- ---- no member is current

or_assoc : (a b c : Bool) → ((a || b) || c) ≡ (a || (b || c))
or_assoc true b c = refl
or_assoc false b c = refl

has_append : (xs ys : List Placed) → has_current (xs ++ ys) ≡ (has_current xs || has_current ys)
has_append [] ys = refl
has_append (x ∷ xs) ys = ap (λ b. x.is_current || b) (has_append xs ys) ∙ sym (or_assoc x.is_current (has_current xs) (has_current ys))

has_none : (xs : List Placed) → has_current (map uncurrent xs) ≡ false
has_none [] = refl
has_none (x ∷ xs) = has_none xs

none_joined : (i : ℕ) (xss : List (List Placed)) → has_current (joined None i xss) ≡ false
none_joined i [] = refl
none_joined i (xs ∷ rest) =
    has_append (map uncurrent xs) (joined None (i + 1) rest)
    ∙ ap (λ b. b || has_current (joined None (i + 1) rest)) (has_none xs)
    ∙ none_joined (i + 1) rest

has_inside : (r : Rect) (xs : List Placed) → has_current (map (inside r) xs) ≡ has_current xs
has_inside r [] = refl
has_inside r (x ∷ xs) = ap (λ b. x.is_current || b) (has_inside r xs)

-- ---- the whole

-- the group of all members that views declare is a fresh body
pub body_fresh : {V : Type 0} (look : V → Leaf) (owner : Node) (views left : List Node) (members : List (MemberOf V)) (bounds : Rect) (g : GroupOf V)
    → IsTrue (has_body owner.kind) → bounds ≡ body_bounds owner → group_bounds g ≡ bounds
    → opened look g ≡ map (inside bounds) (joined None 0 (map (opened_member look) members))
    → ((depth : ℕ) → members_outline look g depth ≡ joined_outline look members depth)
    → joined_outline look members 1 ++ map declared left ≡ map declared views → left ≡ []
    → IsFreshBody look owner views g
body_fresh look owner views left members bounds g body own is leaves outline made none = record {
  body = body;
  bounds = sym own ∙ sym is;
  parts = outline 1 ∙ sym (append-nil (joined_outline look members 1)) ∙ ap (λ ns. joined_outline look members 1 ++ map declared ns) (sym none) ∙ made;
  no_current = ap has_current leaves ∙ has_inside bounds (joined None 0 (map (opened_member look) members)) ∙ none_joined 0 (map (opened_member look) members);
}
