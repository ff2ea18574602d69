-- Questions to all leaves: whether a test holds of one, and the first answer.
use Rattle.std.proofs.Common.{◌≡◌, ℕ, Bool, true, false, ◌||◌, List, [], ◌∷◌, ◌++◌, ◌+◌, ◌<◌, ◌≤◌, length, get_or, map, refl, sym, ap, ◌∙◌, Option, Some, None}
use Rattle.std.specs.List.{list_any}
use Rattle.std.specs.Option.{option_or}
use Rattle.std.proofs.lemmas.List.Folds.{list_any-append}
use Rattle.tv_cells.specs.declared.rect.Rect.{Rect}
use Rattle.tv_model.specs.declared.node.Id.{Id}
use Rattle.tv_view.specs.Meaning.{Leaf, Placed, inside, kept, uncurrent}
use Rattle.tv_group.specs.Calls.{first_some}
use Rattle.tv_group.specs.Current.{is_at}
use Rattle.tv_group.specs.Opened.{opened, opened_member}
use Rattle.tv_group.specs.declared.group.MemberOf.{MemberOf}
use Rattle.tv_group.specs.declared.group.GroupOf.{GroupOf}
use Rattle.tv_group.specs.declared.group.MemberOf.TheVariants.{Leaf as LeafM, Pane as PaneM}
use Rattle.tv_group.proofs.OpenedLemmas.{member-leaf, member-pane}
use Rattle.tv_group.proofs.RestLemmas.{opened_from, opened_from-all, opened_from-step, opened_from-end}

or_false : (b : Bool) → (b || false) ≡ b
or_false true = refl
or_false false = refl

pub or_none : {A : Type 0} (o : Option A) → option_or o None ≡ o
or_none (Some x) = refl
or_none None = refl

or_or : {A : Type 0} (a b c : Option A) → option_or (option_or a b) c ≡ option_or a (option_or b c)
or_or (Some x) b c = refl
or_or None b c = refl

pub first_some-append : {A B : Type 0} (ask : A → Option B) (xs ys : List A) → first_some ask (xs ++ ys) ≡ option_or (first_some ask xs) (first_some ask ys)
first_some-append ask [] ys = refl
first_some-append ask (x ∷ xs) ys = ap (option_or (ask x)) (first_some-append ask xs ys) ∙ sym (or_or (ask x) (first_some ask xs) (first_some ask ys))

pub first_some-map : {A B : Type 0} (ask : A → Option B) (q : A → A) → ((x : A) → ask (q x) ≡ ask x) → (xs : List A) → first_some ask (map q xs) ≡ first_some ask xs
first_some-map ask q same [] = refl
first_some-map ask q same (x ∷ xs) = ap (λ o. option_or o (first_some ask (map q xs))) (same x) ∙ ap (option_or (ask x)) (first_some-map ask q same xs)

any-map : {A : Type 0} (test : A → Bool) (q : A → A) → ((x : A) → test (q x) ≡ test x) → (xs : List A) → list_any test (map q xs) ≡ list_any test xs
any-map test q same [] = refl
any-map test q same (x ∷ xs) = ap (λ b. b || list_any test (map q xs)) (same x) ∙ ap (λ b. test x || b) (any-map test q same xs)

-- a question whose answer for all leaves is joined of those for each member, and which sees the leaves alone
module _ {B : Type 0} (ask : List Placed → B) (join : B → B → B)
    (append : (xs ys : List Placed) → ask (xs ++ ys) ≡ join (ask xs) (ask ys))
    (within : (r : Rect) (xs : List Placed) → ask (map (inside r) xs) ≡ ask xs)
    (marked : (xs : List Placed) → ask (map uncurrent xs) ≡ ask xs) where
  asked-kept : (b : Bool) (xs : List Placed) → ask (kept b xs) ≡ ask xs
  asked-kept true xs = refl
  asked-kept false xs = marked xs

  module _ {V : Type 0} (look : V → Leaf) where
    asked-all : (g : GroupOf V) → ask (opened look g) ≡ ask (opened_from look g.current 0 g.members.items)
    asked-all g = ap ask (opened_from-all look g) ∙ within g.bounds (opened_from look g.current 0 g.members.items)

    asked-next : (current : Option ℕ) (i : ℕ) (ms : List (MemberOf V)) (m : MemberOf V) (whole answer : B) → i < length ms → m ≡ get_or ms i m
        → whole ≡ ask (opened_from look current i ms) → answer ≡ ask (opened_member look m) → whole ≡ join answer (ask (opened_from look current (i + 1) ms))
    asked-next current i ms m whole answer h is was told =
        was ∙ ap ask (opened_from-step look current i ms m h is)
        ∙ append (kept (is_at current i) (opened_member look m)) (opened_from look current (i + 1) ms)
        ∙ ap (λ b. join b (ask (opened_from look current (i + 1) ms))) (asked-kept (is_at current i) (opened_member look m) ∙ sym told)

    asked-end : (current : Option ℕ) (i : ℕ) (ms : List (MemberOf V)) (whole : B) → length ms ≤ i → whole ≡ ask (opened_from look current i ms) → whole ≡ ask []
    asked-end current i ms whole h was = was ∙ ap ask (opened_from-end look current i ms h)

-- ---- whether a test holds of a leaf

module _ (test : Leaf → Bool) where
  abbrev pub any_leaf : List Placed → Bool
  any_leaf xs = list_any (λ x. test x.leaf) xs

  any-append : (xs ys : List Placed) → any_leaf (xs ++ ys) ≡ (any_leaf xs || any_leaf ys)
  any-append xs ys = list_any-append (λ x. test x.leaf) xs ys

  any-inside : (r : Rect) (xs : List Placed) → any_leaf (map (inside r) xs) ≡ any_leaf xs
  any-inside r xs = any-map (λ x. test x.leaf) (inside r) (λ x. refl) xs

  any-unmarked : (xs : List Placed) → any_leaf (map uncurrent xs) ≡ any_leaf xs
  any-unmarked xs = any-map (λ x. test x.leaf) uncurrent (λ x. refl) xs

  module _ {V : Type 0} (look : V → Leaf) where
    pub any-all : (g : GroupOf V) → any_leaf (opened look g) ≡ any_leaf (opened_from look g.current 0 g.members.items)
    any-all g = asked-all any_leaf (◌||◌) any-append any-inside any-unmarked look g

    any-next : (current : Option ℕ) (i : ℕ) (ms : List (MemberOf V)) (m : MemberOf V) (whole answer : Bool) → i < length ms → m ≡ get_or ms i m
        → whole ≡ any_leaf (opened_from look current i ms) → answer ≡ any_leaf (opened_member look m) → whole ≡ (answer || any_leaf (opened_from look current (i + 1) ms))
    any-next = asked-next any_leaf (◌||◌) any-append any-inside any-unmarked look

    pub any-found : (current : Option ℕ) (i : ℕ) (ms : List (MemberOf V)) (m : MemberOf V) (whole answer : Bool) → i < length ms → m ≡ get_or ms i m
        → whole ≡ any_leaf (opened_from look current i ms) → answer ≡ any_leaf (opened_member look m) → answer ≡ true → true ≡ whole
    any-found current i ms m whole answer h is was told found =
        sym (any-next current i ms m whole answer h is was told ∙ ap (λ b. b || any_leaf (opened_from look current (i + 1) ms)) found)

    pub any-passed : (current : Option ℕ) (i : ℕ) (ms : List (MemberOf V)) (m : MemberOf V) (whole answer : Bool) → i < length ms → m ≡ get_or ms i m
        → whole ≡ any_leaf (opened_from look current i ms) → answer ≡ any_leaf (opened_member look m) → answer ≡ false → whole ≡ any_leaf (opened_from look current (i + 1) ms)
    any-passed current i ms m whole answer h is was told passed =
        any-next current i ms m whole answer h is was told ∙ ap (λ b. b || any_leaf (opened_from look current (i + 1) ms)) passed

    pub any-none : (current : Option ℕ) (i : ℕ) (ms : List (MemberOf V)) (whole : Bool) → length ms ≤ i → whole ≡ any_leaf (opened_from look current i ms) → false ≡ whole
    any-none current i ms whole h was = sym (asked-end any_leaf (◌||◌) any-append any-inside any-unmarked look current i ms whole h was)

    pub any-leaf : (m : MemberOf V) (v : V) → m ≡ LeafM v → test (look v) ≡ any_leaf (opened_member look m)
    any-leaf m v is = sym (ap any_leaf (member-leaf look m v is) ∙ or_false (test (look v)))

    pub any-pane : (m : MemberOf V) (g : GroupOf V) → m ≡ PaneM g → any_leaf (opened look g) ≡ any_leaf (opened_member look m)
    any-pane m g is = sym (ap any_leaf (member-pane look m g is))

-- ---- the first answer of a leaf

module _ (answer_of : Leaf → Option Id) where
  abbrev pub first_leaf : List Placed → Option Id
  first_leaf xs = first_some (λ x. answer_of x.leaf) xs

  first-append : (xs ys : List Placed) → first_leaf (xs ++ ys) ≡ option_or (first_leaf xs) (first_leaf ys)
  first-append xs ys = first_some-append (λ x. answer_of x.leaf) xs ys

  first-inside : (r : Rect) (xs : List Placed) → first_leaf (map (inside r) xs) ≡ first_leaf xs
  first-inside r xs = first_some-map (λ x. answer_of x.leaf) (inside r) (λ x. refl) xs

  first-unmarked : (xs : List Placed) → first_leaf (map uncurrent xs) ≡ first_leaf xs
  first-unmarked xs = first_some-map (λ x. answer_of x.leaf) uncurrent (λ x. refl) xs

  module _ {V : Type 0} (look : V → Leaf) where
    pub first-all : (g : GroupOf V) → first_leaf (opened look g) ≡ first_leaf (opened_from look g.current 0 g.members.items)
    first-all g = asked-all first_leaf option_or first-append first-inside first-unmarked look g

    first-next : (current : Option ℕ) (i : ℕ) (ms : List (MemberOf V)) (m : MemberOf V) (whole answer : Option Id) → i < length ms → m ≡ get_or ms i m
        → whole ≡ first_leaf (opened_from look current i ms) → answer ≡ first_leaf (opened_member look m) → whole ≡ option_or answer (first_leaf (opened_from look current (i + 1) ms))
    first-next = asked-next first_leaf option_or first-append first-inside first-unmarked look

    pub first-found : (current : Option ℕ) (i : ℕ) (ms : List (MemberOf V)) (m : MemberOf V) (whole answer : Option Id) (id : Id) → i < length ms → m ≡ get_or ms i m
        → whole ≡ first_leaf (opened_from look current i ms) → answer ≡ first_leaf (opened_member look m) → answer ≡ Some id → Some id ≡ whole
    first-found current i ms m whole answer id h is was told found =
        sym (first-next current i ms m whole answer h is was told ∙ ap (λ o. option_or o (first_leaf (opened_from look current (i + 1) ms))) found)

    pub first-passed : (current : Option ℕ) (i : ℕ) (ms : List (MemberOf V)) (m : MemberOf V) (whole answer : Option Id) → i < length ms → m ≡ get_or ms i m
        → whole ≡ first_leaf (opened_from look current i ms) → answer ≡ first_leaf (opened_member look m) → answer ≡ None → whole ≡ first_leaf (opened_from look current (i + 1) ms)
    first-passed current i ms m whole answer h is was told none =
        first-next current i ms m whole answer h is was told ∙ ap (λ o. option_or o (first_leaf (opened_from look current (i + 1) ms))) none

    pub first-none : (current : Option ℕ) (i : ℕ) (ms : List (MemberOf V)) (whole : Option Id) → length ms ≤ i → whole ≡ first_leaf (opened_from look current i ms) → None ≡ whole
    first-none current i ms whole h was = sym (asked-end first_leaf option_or first-append first-inside first-unmarked look current i ms whole h was)

    pub first-leaf : (m : MemberOf V) (v : V) → m ≡ LeafM v → answer_of (look v) ≡ first_leaf (opened_member look m)
    first-leaf m v is = sym (ap first_leaf (member-leaf look m v is) ∙ or_none (answer_of (look v)))

    pub first-pane : (m : MemberOf V) (g : GroupOf V) → m ≡ PaneM g → first_leaf (opened look g) ≡ first_leaf (opened_member look m)
    first-pane m g is = sym (ap first_leaf (member-pane look m g is))
