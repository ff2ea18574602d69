-- Outlines, and the nodes that declare them.
use Rattle.std.proofs.Common.{◌≡◌, ℕ, suc, Bool, false, List, [], ◌∷◌, ◌++◌, ◌+◌, ◌<◌, ◌≤◌, length, get_or, drop, map, refl, sym, ap, ◌∙◌, arith, add-one, drop-cons, Option, Some, None, IfSome, IfNone, IsTrue, ◌↔◌, ◌==◌}
use Rattle.std.proofs.lemmas.Bool.Decides.{nat_tests}
use Rattle.std.proofs.lemmas.List.{drop_all}
use Rattle.tv_model.specs.declared.node.Node.{Node}
use Rattle.tv_view.specs.Meaning.{Leaf, Outlined, LeafAt, PaneAt}
use Rattle.tv_group.specs.Outline.{Outline, Follows, all_at, declared, members_outline, outline, outline_member, outlined, part_step, whole_step}
use Rattle.tv_group.specs.declared.group.MemberOf.{MemberOf}
use Rattle.tv_group.specs.declared.group.GroupOf.{GroupOf}
use Rattle.tv_group.specs.declared.group.MemberOf.TheVariants.{Leaf as LeafM, Pane as PaneM, outs-Leaf, outs-Pane}
use Rattle.tv_group.specs.declared.group.MemberOf.TheOpen.{MemberOf-F}
use Rattle.tv_group.specs.declared.group.MemberOf.TheFolds.{fold_out-MemberOf, fold_out-GroupOf, map-MemberOf, fold-MemberOf, fold-GroupOf}

-- ---- parts that follow one another

pub follows-join : (xs ys : List Outlined) (a b c : List Node) → Follows xs a b → Follows ys b c → Follows (xs ++ ys) a c
follows-join [] ys a b c p q = rw p q
follows-join (x ∷ xs) ys [] b c p q = p
follows-join (x ∷ xs) ys (n ∷ ns) b c p q = (p.0, follows-join xs ys ns b c p.1 q)

pub follows-split : (xs ys : List Outlined) (a c : List Node) → Follows (xs ++ ys) a c → (b : List Node) × Follows xs a b × Follows ys b c
follows-split [] ys a c p = (a, refl, p)
follows-split (x ∷ xs) ys [] c p = absurd p
follows-split (x ∷ xs) ys (n ∷ ns) c p = let r = follows-split xs ys ns c p.1 in (r.0, (p.0, r.1), r.2)

pub follows-only : (xs : List Outlined) (a b c : List Node) → Follows xs a b → Follows xs a c → b ≡ c
follows-only [] a b c p q = sym p ∙ q
follows-only (x ∷ xs) [] b c p q = absurd p
follows-only (x ∷ xs) (n ∷ ns) b c p q = follows-only xs ns b c p.1 q.1

pub follows-all : (xs : List Outlined) (views : List Node) → Follows xs views [] → xs ≡ map declared views
follows-all [] views p = sym (ap (map declared) p)
follows-all (x ∷ xs) [] p = absurd p
follows-all (x ∷ xs) (n ∷ ns) p = ap (λ y. y ∷ xs) p.0 ∙ ap (λ t. declared n ∷ t) (follows-all xs ns p.1)

map-follows : (views : List Node) → Follows (map declared views) views []
map-follows [] = refl
map-follows (n ∷ ns) = (refl, map-follows ns)

pub all-follows : (xs : List Outlined) (views : List Node) → xs ≡ map declared views → Follows xs views []
all-follows xs views e = rw e (map-follows views)

-- nodes that are all used up, or that the parts don't follow
empty-test : (rest : List Node) (b : Bool) → b ≡ (length rest == 0) → IsTrue b ↔ (rest ≡ [])
empty-test [] b e = (λ t. refl, λ same. e)
empty-test (n ∷ ns) b e = (λ t. absurd (let f : suc (length ns) == 0 ≡ false = grind (arith, nat_tests) in let g : b ≡ false = e ∙ f in cc), λ same. absurd cc)

pub used-up : (xs : List Outlined) (views rest : List Node) (b : Bool) → Follows xs views rest → b ≡ (length rest == 0) → IsTrue b ↔ (xs ≡ map declared views)
used-up xs views rest b p e =
    (λ t. follows-all xs views (rw (← (empty-test rest b e).0 t) p), λ same. (empty-test rest b e).1 (follows-only xs views rest [] p (all-follows xs views same)))

pub not-followed : (xs : List Outlined) (views : List Node) → ((rest : List Node) → Follows xs views rest → ⊥) → xs ≡ map declared views → ⊥
not-followed xs views none same = none [] (all-follows xs views same)

-- ---- the equations of outlines

module _ {V : Type 0} (look : V → Leaf) where
  pub outline-members : (g : GroupOf V) (depth : ℕ) → outline look g depth ≡ outlined depth (PaneAt g.bounds) ∷ members_outline look g (depth + 1)
  unfolding outline outline_member
  outline-members g depth = ap (λ f. f depth) (fold_out-GroupOf V Outline Outline (part_step look) whole_step g)

  abbrev step_at : MemberOf-F V (MemberOf V) (GroupOf V) → Outline
  step_at o = part_step look (map-MemberOf V (MemberOf V) (GroupOf V) Outline Outline (fold-MemberOf V Outline Outline (part_step look) whole_step) (fold-GroupOf V Outline Outline (part_step look) whole_step) o)

  pub outline-leaf : (m : MemberOf V) (v : V) (depth : ℕ) → m ≡ LeafM v → outline_member look m depth ≡ outlined depth (LeafAt (look v)) ∷ []
  unfolding outline_member
  outline-leaf m v depth is =
      ap (λ x. outline_member look x depth) is
      ∙ ap (λ f. f depth) (fold_out-MemberOf V Outline Outline (part_step look) whole_step (LeafM v) ∙ ap step_at (outs-Leaf v))

  outline-own : (g : GroupOf V) (depth : ℕ) → outline_member look (PaneM g) depth ≡ outline look g depth
  unfolding outline outline_member
  outline-own g depth = ap (λ f. f depth) (fold_out-MemberOf V Outline Outline (part_step look) whole_step (PaneM g) ∙ ap step_at (outs-Pane g))

  pub outline-pane : (m : MemberOf V) (g : GroupOf V) (depth : ℕ) → m ≡ PaneM g → outline_member look m depth ≡ (outlined depth (PaneAt g.bounds) ∷ []) ++ members_outline look g (depth + 1)
  outline-pane m g depth is = ap (λ x. outline_member look x depth) is ∙ outline-own g depth ∙ outline-members g depth

  -- the outline of the members from the i-th on
  unfoldable pub outline_from : ℕ → ℕ → List (MemberOf V) → List Outlined
  outline_from depth i ms = all_at depth (map (outline_member look) (drop i ms))

  outline_from-end : (depth i : ℕ) (ms : List (MemberOf V)) → length ms ≤ i → outline_from depth i ms ≡ []
  unfolding outline_from
  outline_from-end depth i ms h = ap (λ xs. all_at depth (map (outline_member look) xs)) (drop_all i ms h)

  outline_from-step : (depth i : ℕ) (ms : List (MemberOf V)) (m : MemberOf V) → i < length ms → m ≡ get_or ms i m
      → outline_from depth i ms ≡ outline_member look m depth ++ outline_from depth (i + 1) ms
  unfolding outline_from
  outline_from-step depth i ms m h is =
      ap (λ xs. all_at depth (map (outline_member look) xs)) (drop-cons ms i m h)
      ∙ ap (λ x. outline_member look x depth ++ all_at depth (map (outline_member look) (drop (suc i) ms))) (sym is)
      ∙ ap (λ k. outline_member look m depth ++ all_at depth (map (outline_member look) (drop k ms))) (sym (add-one i))

  -- what is left of the walk: the members from the i-th on, and the nodes that are left
  pub record Left (depth i : ℕ) (g : GroupOf V) (nodes left : List Node) : Type 0 where
    pub on : (r : List Node) → Follows (outline_from depth i g.members.items) left r → Follows (members_outline look g depth) nodes r
    pub back : (r : List Node) → Follows (members_outline look g depth) nodes r → Follows (outline_from depth i g.members.items) left r

  pub left-all : (depth : ℕ) (g : GroupOf V) (nodes : List Node) → Left depth 0 g nodes nodes
  unfolding outline_from
  left-all depth g nodes = record { on = λ r p. p; back = λ r p. p }

  pub left-next : (depth i : ℕ) (g : GroupOf V) (nodes left rest : List Node) (m : MemberOf V) → i < length g.members.items → m ≡ get_or g.members.items i m
      → Left depth i g nodes left → Follows (outline_member look m depth) left rest → Left depth (i + 1) g nodes rest
  left-next depth i g nodes left rest m h is before told =
      let ms = g.members.items in
      let step = outline_from-step depth i ms m h is in
      record {
        on = λ r p. before.on r (rw step (follows-join (outline_member look m depth) (outline_from depth (i + 1) ms) left rest r told p));
        back = λ r p.
            let whole : Follows (outline_member look m depth ++ outline_from depth (i + 1) ms) left r = rw (← step) (before.back r p) in
            let s = follows-split (outline_member look m depth) (outline_from depth (i + 1) ms) left r whole in
            let same : rest ≡ s.0 = follows-only (outline_member look m depth) left rest s.0 told s.1 in
            rw same s.2;
      }

  pub left-none : (depth i : ℕ) (g : GroupOf V) (nodes left : List Node) (m : MemberOf V) → i < length g.members.items → m ≡ get_or g.members.items i m
      → Left depth i g nodes left → ((rest : List Node) → Follows (outline_member look m depth) left rest → ⊥) → (r : List Node) → Follows (members_outline look g depth) nodes r → ⊥
  left-none depth i g nodes left m h is before told r p =
      let ms = g.members.items in
      let whole : Follows (outline_member look m depth ++ outline_from depth (i + 1) ms) left r = rw (← outline_from-step depth i ms m h is) (before.back r p) in
      let s = follows-split (outline_member look m depth) (outline_from depth (i + 1) ms) left r whole in
      told s.0 s.1

  pub left-end : (depth i : ℕ) (g : GroupOf V) (nodes left : List Node) → length g.members.items ≤ i → Left depth i g nodes left → Follows (members_outline look g depth) nodes left
  left-end depth i g nodes left h before = before.on left (rw (outline_from-end depth i g.members.items h) refl)

-- ---- parts behind parts, as results

pub some-join : {A : Type 0} (now : A → List Node) (o : Option A) (xs ys : List Outlined) (a b : List Node) → Follows xs a b
    → IfSome o (λ r. Follows ys b (now r)) → IfSome o (λ r. Follows (xs ++ ys) a (now r))
some-join now None xs ys a b p q = q
some-join now (Some r) xs ys a b p q = follows-join xs ys a b (now r) p q

pub none-join : {A : Type 0} (o : Option A) (xs ys : List Outlined) (a b : List Node) → Follows xs a b
    → IfNone o ((r : List Node) → Follows ys b r → ⊥) → IfNone o ((r : List Node) → Follows (xs ++ ys) a r → ⊥)
none-join None xs ys a b p q = λ r whole. let s = follows-split xs ys a r whole in q r (rw (follows-only xs a b s.0 p s.1) s.2)
none-join (Some x) xs ys a b p q = q
