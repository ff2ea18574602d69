-- Whether the current members lead to a leaf.
use Rattle.std.proofs.Common.{◌≡◌, ℕ, zero, suc, Bool, true, false, ◌&&◌, ◌||◌, ◌==◌, nat_lt, List, [], ◌∷◌, ◌++◌, ◌+◌, ◌<◌, ◌≤◌, length, get_or, map, refl, sym, ap, ◌∙◌, arith, Option, Some, None}
use Rattle.std.proofs.lemmas.Bool.Decides.{nat_tests}
use Rattle.tv_cells.specs.declared.rect.Rect.{Rect}
use Rattle.tv_view.specs.Meaning.{Leaf, Placed, has_current, inside, kept, uncurrent}
use Rattle.tv_group.specs.Current.{is_at}
use Rattle.tv_group.specs.Opened.{opened, opened_member, joined}
use Rattle.tv_group.specs.declared.group.MemberOf.{MemberOf}
use Rattle.tv_group.specs.declared.group.GroupOf.{GroupOf}
use Rattle.tv_group.proofs.OpenedLemmas.{opened-members}

eq_false : (a b : ℕ) → a < b → a == b ≡ false
eq_false a b h = grind (arith, nat_tests)

eq_after : (a b : ℕ) → b < a → a == b ≡ false
eq_after a b h = grind (arith, nat_tests)

eq_true : (a b : ℕ) → a ≡ b → a == b ≡ true
eq_true a b h = grind (arith, nat_tests)

pub lt_false : (a b : ℕ) → b ≤ a → nat_lt a b ≡ false
lt_false a b h = grind (arith, nat_tests)

or_false : (b : Bool) → (b || false) ≡ b
or_false true = refl
or_false false = refl

or_assoc : (a b c : Bool) → ((a || b) || c) ≡ (a || (b || c))
or_assoc true b c = refl
or_assoc false b c = refl

has-append : (xs ys : List Placed) → has_current (xs ++ ys) ≡ (has_current xs || has_current ys)
has-append [] ys = refl
has-append (x ∷ xs) ys = ap (λ b. x.is_current || b) (has-append xs ys) ∙ sym (or_assoc x.is_current (has_current xs) (has_current ys))

has-unmarked : (xs : List Placed) → has_current (map uncurrent xs) ≡ false
has-unmarked [] = refl
has-unmarked (x ∷ xs) = has-unmarked xs

has-kept : (b : Bool) (xs : List Placed) → has_current (kept b xs) ≡ (b && has_current xs)
has-kept true xs = refl
has-kept false xs = has-unmarked xs

has-inside : (r : Rect) (xs : List Placed) → has_current (map (inside r) xs) ≡ has_current xs
has-inside r [] = refl
has-inside r (x ∷ xs) = ap (λ b. x.is_current || b) (has-inside r xs)

has-step : (current : Option ℕ) (i : ℕ) (xs : List Placed) (rest : List (List Placed)) → has_current (joined current i (xs ∷ rest)) ≡ ((is_at current i && has_current xs) || has_current (joined current (i + 1) rest))
has-step current i xs rest = has-append (kept (is_at current i) xs) (joined current (i + 1) rest) ∙ ap (λ b. b || has_current (joined current (i + 1) rest)) (has-kept (is_at current i) xs)

none-none : (i : ℕ) (xss : List (List Placed)) → has_current (joined None i xss) ≡ false
none-none i [] = refl
none-none i (xs ∷ rest) = has-step None i xs rest ∙ none-none (i + 1) rest

none-later : (k i : ℕ) (xss : List (List Placed)) → k < i → has_current (joined (Some k) i xss) ≡ false
none-later k i [] h = refl
none-later k i (xs ∷ rest) h = has-step (Some k) i xs rest ∙ ap (λ b. (b && has_current xs) || has_current (joined (Some k) (i + 1) rest)) (eq_false k i h) ∙ none-later k (i + 1) rest (omega arith)

has-here : (k i : ℕ) (xs : List Placed) (rest : List (List Placed)) → k ≡ i → has_current (joined (Some k) i (xs ∷ rest)) ≡ has_current xs
has-here k i xs rest e =
    has-step (Some k) i xs rest ∙ ap (λ b. (b && has_current xs) || has_current (joined (Some k) (i + 1) rest)) (eq_true k i e)
    ∙ ap (λ b. has_current xs || b) (none-later k (i + 1) rest (omega arith)) ∙ or_false (has_current xs)

has-next : (k i : ℕ) (xs : List Placed) (rest : List (List Placed)) → i < k → has_current (joined (Some k) i (xs ∷ rest)) ≡ has_current (joined (Some k) (i + 1) rest)
has-next k i xs rest h = has-step (Some k) i xs rest ∙ ap (λ b. (b && has_current xs) || has_current (joined (Some k) (i + 1) rest)) (eq_after k i h)

module _ {V : Type 0} (look : V → Leaf) where
  has-from : (k i j : ℕ) (ms : List (MemberOf V)) (m : MemberOf V) → k ≡ i + j → j < length ms
      → has_current (joined (Some k) i (map (opened_member look) ms)) ≡ has_current (opened_member look (get_or ms j m))
  has-from k i j [] m e h = absurd (omega arith)
  has-from k i zero (x ∷ ms) m e h = has-here k i (opened_member look x) (map (opened_member look) ms) (omega arith)
  has-from k i (suc j) (x ∷ ms) m e h =
      has-next k i (opened_member look x) (map (opened_member look) ms) (omega arith) ∙ has-from k (i + 1) j ms m (omega arith) (omega arith)

  has-past : (k i j : ℕ) (ms : List (MemberOf V)) → k ≡ i + j → length ms ≤ j → has_current (joined (Some k) i (map (opened_member look) ms)) ≡ false
  has-past k i j [] e h = refl
  has-past k i zero (x ∷ ms) e h = absurd (omega arith)
  has-past k i (suc j) (x ∷ ms) e h =
      has-next k i (opened_member look x) (map (opened_member look) ms) (omega arith) ∙ has-past k (i + 1) j ms (omega arith) (omega arith)

  has-group : (g : GroupOf V) → has_current (opened look g) ≡ has_current (joined g.current 0 (map (opened_member look) g.members.items))
  has-group g = ap has_current (opened-members look g) ∙ has-inside g.bounds (joined g.current 0 (map (opened_member look) g.members.items))

  pub current-none : (g : GroupOf V) → g.current ≡ None → false ≡ has_current (opened look g)
  current-none g e = sym (has-group g ∙ ap (λ c. has_current (joined c 0 (map (opened_member look) g.members.items))) e ∙ none-none 0 (map (opened_member look) g.members.items))

  pub current-at : (g : GroupOf V) (k : ℕ) (m : MemberOf V) → g.current ≡ Some k → k < length g.members.items → m ≡ get_or g.members.items k m → has_current (opened_member look m) ≡ has_current (opened look g)
  current-at g k m e h is =
      ap (λ x. has_current (opened_member look x)) is
      ∙ sym (has-group g ∙ ap (λ c. has_current (joined c 0 (map (opened_member look) g.members.items))) e ∙ has-from k 0 k g.members.items m (omega arith) h)

  pub current-past : (g : GroupOf V) (k : ℕ) → g.current ≡ Some k → length g.members.items ≤ k → false ≡ has_current (opened look g)
  current-past g k e h =
      sym (has-group g ∙ ap (λ c. has_current (joined c 0 (map (opened_member look) g.members.items))) e ∙ has-past k 0 k g.members.items (omega arith) h)
