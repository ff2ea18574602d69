-- Code with one more operation.
use Rattle.std.proofs.Common.{◌≡◌, ℕ, List, [], ◌∷◌, ◌++◌, refl, ◌∙◌, ap}
use Rattle.std.specs.Prelude.{Option, Some, None}
use Rattle.std.specs.Option.{option_and_then}
use Rattle.tv_picture.specs.declared.code.Op.{Op}
use Rattle.tv_picture.specs.Pattern.{Pattern}
use Rattle.tv_picture.specs.Code.{patterns_after, run, run-append, height_after, height_from}
use Rattle.tv_picture.specs.Parsing.{Built, built_by, with_op}

height_push : (xs : List Op) (op : Op) (h : ℕ) → height_from h (xs ++ op ∷ []) ≡ option_and_then (λ k. height_after k op) (height_from h xs)
height_push [] op h = ends (height_after h op)
  where
    ends : (o : Option ℕ) → option_and_then (λ k. Some k) o ≡ o
    ends None = refl
    ends (Some k) = refl
height_push (x ∷ xs) op h = later (height_after h x) (λ k. height_push xs op k)
  where
    later : (o : Option ℕ) → ((k : ℕ) → height_from k (xs ++ op ∷ []) ≡ option_and_then (λ j. height_after j op) (height_from k xs)) → option_and_then (λ k. height_from k (xs ++ op ∷ [])) o ≡ option_and_then (λ k. height_after k op) (option_and_then (λ k. height_from k xs) o)
    later None rest = refl
    later (Some k) rest = rest k

abbrev built : List Pattern → Option ℕ → Built
built s h = record { stack = s; height = h }

pub built_push : (xs : List Op) (op : Op) → built_by (xs ++ op ∷ []) ≡ with_op (built_by xs) op
built_push xs op = ap_pair (run [] (xs ++ op ∷ [])) (patterns_after (run [] xs) op) (height_from 0 (xs ++ op ∷ [])) (option_and_then (λ k. height_after k op) (height_from 0 xs)) (run-append xs (op ∷ []) []) (height_push xs op 0)
  where
    ap_pair : (s t : List Pattern) (h k : Option ℕ) → s ≡ t → h ≡ k → built s h ≡ built t k
    ap_pair s t h k e f = ap (λ x. built x h) e ∙ ap (λ y. built t y) f
