-- The leaf that refuses to lose the focus stands in the current member.
use Rattle.std.proofs.Common.{◌≡◌, ℕ, zero, suc, Bool, true, false, ◌&&◌, ◌==◌, if◌then◌else◌, List, [], ◌∷◌, ◌+◌, ◌<◌, ◌≤◌, length, get_or, map, refl, sym, ap, ◌∙◌, arith, Option, Some, None}
use Rattle.std.specs.Option.{option_or}
use Rattle.std.proofs.lemmas.Bool.Decides.{nat_tests}
use Rattle.tv_model.specs.declared.node.Id.{Id}
use Rattle.tv_view.specs.Meaning.{Leaf, Placed, inside, kept, uncurrent}
use Rattle.tv_machine.specs.Dialog.Focus.{validates}
use Rattle.tv_view.specs.Calls.{invalid_id}
use Rattle.tv_group.specs.Calls.{first_some, refusing}
use Rattle.tv_group.specs.Current.{is_at}
use Rattle.tv_group.specs.Opened.{opened, opened_member, joined}
use Rattle.tv_group.specs.declared.group.MemberOf.{MemberOf}
use Rattle.tv_group.specs.declared.group.GroupOf.{GroupOf}
use Rattle.tv_group.specs.declared.group.MemberOf.TheVariants.{Leaf as LeafM, Pane as PaneM}
use Rattle.tv_group.proofs.OpenedLemmas.{opened-members, member-leaf, member-pane}
use Rattle.tv_group.proofs.AskedLemmas.{or_none, first_some-append, first_some-map}

eq_before : (a b : ℕ) → a < b → a == b ≡ false
eq_before a b h = grind (arith, nat_tests)

eq_behind : (a b : ℕ) → b < a → a == b ≡ false
eq_behind a b h = grind (arith, nat_tests)

eq_here : (a b : ℕ) → a ≡ b → a == b ≡ true
eq_here a b h = grind (arith, nat_tests)

-- the first answer of a member that isn't current, or is
refused-unmarked : (xs : List Placed) → first_some refusing (map uncurrent xs) ≡ None
refused-unmarked [] = refl
refused-unmarked (x ∷ xs) = refused-unmarked xs

refused-step : (current : Option ℕ) (i : ℕ) (xs : List Placed) (rest : List (List Placed))
    → first_some refusing (joined current i (xs ∷ rest)) ≡ option_or (first_some refusing (kept (is_at current i) xs)) (first_some refusing (joined current (i + 1) rest))
refused-step current i xs rest = first_some-append refusing (kept (is_at current i) xs) (joined current (i + 1) rest)

refused-passed : (current : Option ℕ) (i : ℕ) (xs : List Placed) (rest : List (List Placed)) → is_at current i ≡ false
    → first_some refusing (joined current i (xs ∷ rest)) ≡ first_some refusing (joined current (i + 1) rest)
refused-passed current i xs rest away =
    refused-step current i xs rest ∙ ap (λ b. option_or (first_some refusing (kept b xs)) (first_some refusing (joined current (i + 1) rest))) away
    ∙ ap (λ o. option_or o (first_some refusing (joined current (i + 1) rest))) (refused-unmarked xs)

-- members one after the other, where none is current, or one before them
refused-joined_none : (i : ℕ) (xss : List (List Placed)) → first_some refusing (joined None i xss) ≡ None
refused-joined_none i [] = refl
refused-joined_none i (xs ∷ rest) = refused-passed None i xs rest refl ∙ refused-joined_none (i + 1) rest

refused-joined_behind : (k i : ℕ) (xss : List (List Placed)) → k < i → first_some refusing (joined (Some k) i xss) ≡ None
refused-joined_behind k i [] h = refl
refused-joined_behind k i (xs ∷ rest) h = refused-passed (Some k) i xs rest (eq_before k i h) ∙ refused-joined_behind k (i + 1) rest (omega arith)

refused-joined_here : (k i : ℕ) (xs : List Placed) (rest : List (List Placed)) → k ≡ i → first_some refusing (joined (Some k) i (xs ∷ rest)) ≡ first_some refusing xs
refused-joined_here k i xs rest e =
    refused-step (Some k) i xs rest ∙ ap (λ b. option_or (first_some refusing (kept b xs)) (first_some refusing (joined (Some k) (i + 1) rest))) (eq_here k i e)
    ∙ ap (option_or (first_some refusing xs)) (refused-joined_behind k (i + 1) rest (omega arith)) ∙ or_none (first_some refusing xs)

refused-choice : (b : Bool) (o : Option Id) → option_or (if true && b then o else None) None ≡ (if b then o else None)
refused-choice true o = or_none o
refused-choice false o = refl

module _ {V : Type 0} (look : V → Leaf) where
  refused-joined_at : (k i j : ℕ) (ms : List (MemberOf V)) (m : MemberOf V) → k ≡ i + j → j < length ms
      → first_some refusing (joined (Some k) i (map (opened_member look) ms)) ≡ first_some refusing (opened_member look (get_or ms j m))
  refused-joined_at k i j [] m e h = absurd (omega arith)
  refused-joined_at k i zero (x ∷ ms) m e h = refused-joined_here k i (opened_member look x) (map (opened_member look) ms) (omega arith)
  refused-joined_at k i (suc j) (x ∷ ms) m e h =
      refused-passed (Some k) i (opened_member look x) (map (opened_member look) ms) (eq_behind k i (omega arith)) ∙ refused-joined_at k (i + 1) j ms m (omega arith) (omega arith)

  refused-joined_past : (k i j : ℕ) (ms : List (MemberOf V)) → k ≡ i + j → length ms ≤ j → first_some refusing (joined (Some k) i (map (opened_member look) ms)) ≡ None
  refused-joined_past k i j [] e h = refl
  refused-joined_past k i zero (x ∷ ms) e h = absurd (omega arith)
  refused-joined_past k i (suc j) (x ∷ ms) e h =
      refused-passed (Some k) i (opened_member look x) (map (opened_member look) ms) (eq_behind k i (omega arith)) ∙ refused-joined_past k (i + 1) j ms (omega arith) (omega arith)

  refused-group : (g : GroupOf V) (current : Option ℕ) → g.current ≡ current → first_some refusing (opened look g) ≡ first_some refusing (joined current 0 (map (opened_member look) g.members.items))
  refused-group g current e =
      ap (first_some refusing) (opened-members look g)
      ∙ first_some-map refusing (inside g.bounds) (λ x. refl) (joined g.current 0 (map (opened_member look) g.members.items))
      ∙ ap (λ o. first_some refusing (joined o 0 (map (opened_member look) g.members.items))) e

  pub refused-none : (g : GroupOf V) → g.current ≡ None → None ≡ first_some refusing (opened look g)
  refused-none g e = sym (refused-group g None e ∙ refused-joined_none 0 (map (opened_member look) g.members.items))

  pub refused-at : (g : GroupOf V) (k : ℕ) (m : MemberOf V) → g.current ≡ Some k → k < length g.members.items → m ≡ get_or g.members.items k m
      → first_some refusing (opened_member look m) ≡ first_some refusing (opened look g)
  refused-at g k m e h is =
      ap (λ x. first_some refusing (opened_member look x)) is ∙ sym (refused-group g (Some k) e ∙ refused-joined_at k 0 k g.members.items m (omega arith) h)

  pub refused-past : (g : GroupOf V) (k : ℕ) → g.current ≡ Some k → length g.members.items ≤ k → None ≡ first_some refusing (opened look g)
  refused-past g k e h = sym (refused-group g (Some k) e ∙ refused-joined_past k 0 k g.members.items (omega arith) h)

  pub refused-leaf : (m : MemberOf V) (v : V) (b : Bool) → m ≡ LeafM v → b ≡ validates (look v).node.kind → (if b then invalid_id (look v) else None) ≡ first_some refusing (opened_member look m)
  refused-leaf m v b is told =
      sym (ap (first_some refusing) (member-leaf look m v is)
      ∙ refused-choice (validates (look v).node.kind) (invalid_id (look v)) ∙ ap (λ d. if d then invalid_id (look v) else None) (sym told))

  pub refused-pane : (m : MemberOf V) (g : GroupOf V) → m ≡ PaneM g → first_some refusing (opened look g) ≡ first_some refusing (opened_member look m)
  refused-pane m g is = sym (ap (first_some refusing) (member-pane look m g is))
