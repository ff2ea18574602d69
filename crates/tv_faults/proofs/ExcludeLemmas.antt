-- Tests that fail exactly where a condition holds.
use Rattle.std.proofs.Common.{◌≡◌, ◌↔◌, Bool, true, false, not, ◌&&◌, ◌||◌, Decides, List, [], ◌∷◌, refl, sym, ◌∙◌}
use Rattle.std.specs.List.{All, AllPairs, Any, list_any}
use Rattle.std.proofs.lemmas.Bool.{false≢true, or_parts, or_from, not-false, not_from_true, false_from_ne_true}
use Rattle.std.proofs.lemmas.List.Elements.{All-nil, All-cons, All-head, All-tail}
use Rattle.std.proofs.lemmas.List.Folds.{Any-from_list_any, list_any-from_Any}
use Rattle.tv_model.specs.Faults.Lines.{after_seen}
use Rattle.tv_faults.proofs.PairLemmas.{after_each, chain, each}

-- the test fails exactly where the condition holds
abbrev pub Excludes : Bool → Type 0 → Type 0
Excludes b P = (b ≡ false) ↔ P

pub not_excludes : {P : Type 0} (b : Bool) → Decides b P → Excludes (not b) P
not_excludes b d = (λ e. d.0 (not-false b e), λ p. not_from_true b (d.1 p))

pub test_excludes : {P : Type 0} (b : Bool) → Decides b P → Excludes b (P → ⊥)
test_excludes b d = (λ e p. false≢true (sym e ∙ d.1 p), λ n. false_from_ne_true b (λ t. n (d.0 t)))

pub or_excludes : {P Q : Type 0} (a b : Bool) → Excludes a P → Excludes b Q → Excludes (a || b) (P × Q)
or_excludes a b f g = (λ e. let h : (a ≡ false) × (b ≡ false) = or_parts a b e in (f.0 h.0, g.0 h.1), λ h. or_from a b (f.1 h.0) (g.1 h.1))

pub and_excludes : {Q : Type 0} (a b : Bool) → Excludes b Q → Excludes (a && b) (a ≡ true → Q)
and_excludes true b f = (λ e t. f.0 e, λ g. f.1 (g refl))
and_excludes false b f = (λ e t. absurd (false≢true t), λ g. refl)

pub any_excludes : {A : Type 0} (p : A → Bool) (P : A → Type 0) → ((x : A) → Excludes (p x) (P x)) → (xs : List A) → Excludes (list_any p xs) (All P xs)
any_excludes p P f [] = (λ e. All-nil P, λ h. refl)
any_excludes p P f (x ∷ xs) = let more : Excludes (p x || list_any p xs) (P x × All P xs) = or_excludes (p x) (list_any p xs) (f x) (any_excludes p P f xs) in
    (λ e. let h : P x × All P xs = more.0 e in All-cons P x xs h.0 h.1, λ h. more.1 (All-head P x xs h, All-tail P x xs h))

-- no item passes a test with one before it
pub again_excludes : {A : Type 0} (p : A → A → Bool) (R : A → A → Type 0) → ((x other : A) → Excludes (p x other) (R other x)) → (xs : List A)
    → All (λ pair. list_any (p pair.1) pair.0 ≡ false) (after_seen [] xs) ↔ AllPairs R xs
again_excludes p R f xs = chain
    (each (λ pair. list_any (p pair.1) pair.0 ≡ false) (λ pair. All (λ other. R other pair.1) pair.0) (λ pair. any_excludes (p pair.1) (λ other. R other pair.1) (f pair.1) pair.0) (after_seen [] xs))
    (after_each R xs)

-- ---- tests that find one

pub any_decides : {A : Type 0} (p : A → Bool) (P : A → Type 0) → ((x : A) → Decides (p x) (P x)) → (xs : List A) → Decides (list_any p xs) (Any P xs)
any_decides p P f xs = (
  λ e. let h : Any (λ x. p x ≡ true) xs = Any-from_list_any p xs e in (h.0, h.1, h.2, h.3, (f h.1).0 h.4),
  λ h. list_any-from_Any p xs (h.0, h.1, h.2, h.3, (f h.1).1 h.4),
)
