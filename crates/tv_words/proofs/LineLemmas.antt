-- The first line of a text, and how many there are.
use Rattle.std.proofs.Common.{◌≡◌, ℕ, suc, ◌+◌, ◌-◌, ◌<◌, ◌≤◌, ◌==◌, nat_lt, length-drop, Bool, true, false, not, cond, List, [], ◌∷◌, length, take, drop, Some, None, refl, add-one, add_comm, arith}
use Rattle.std.specs.Prelude.{position}
use Rattle.std.specs.List.{position_or_len}
use Rattle.std.proofs.lemmas.List.{take_all, nil_from_length}
use Rattle.std.proofs.lemmas.Bool.Decides.{nat_tests}
use Rattle.tv_words.specs.Lines.{lines_of, onto_first}

abbrev end_of : List ℕ → ℕ
end_of cs = position_or_len (λ b. b == 10) cs

-- its first line and the rest
abbrev Splits : List ℕ → ℕ → Type 0
Splits cs k = lines_of cs ≡ take k cs ∷ lines_of (drop (suc k) cs)

split_at : (c : ℕ) (cs : List ℕ) (b : Bool) → c == 10 ≡ b → (0 < length cs → Splits cs (end_of cs)) → Splits (c ∷ cs) (cond (not b) (1 + end_of cs) 0)
split_at c cs true e h = rw e refl
split_at c [] false e h = rw e refl
split_at c (d ∷ ds) false e h = let below = h (omega arith) in rw (add_comm 1 (end_of (d ∷ ds)), add-one, e, below) refl

splits : (cs : List ℕ) → 0 < length cs → Splits cs (end_of cs)
splits [] h = absurd (omega arith)
splits (c ∷ cs) h = split_at c cs (c == 10) refl (splits cs)

at_end : (b : Bool) (k n i : ℕ) → cond b (Some k) None ≡ Some i → b ≡ nat_lt k n → (i ≡ k) × (k < n)
at_end true k n i e h = (cc, grind (arith, nat_tests))
at_end false k n i e h = absurd cc

past_end : (b : Bool) (k n : ℕ) → cond b (Some k) None ≡ None → b ≡ nat_lt k n → n ≤ k
past_end true k n e h = absurd cc
past_end false k n e h = grind (arith, nat_tests)

pub first_of_more : (cs : List ℕ) (k : ℕ) → position (λ b. b == 10) cs ≡ Some k → 0 < length cs → lines_of cs ≡ take k cs ∷ lines_of (take (length cs - (k + 1)) (drop (k + 1) cs))
first_of_more cs k e h =
    let ends = at_end (nat_lt (end_of cs) (length cs)) (end_of cs) (length cs) k e refl in
    let all : take (length cs - (k + 1)) (drop (k + 1) cs) ≡ drop (k + 1) cs = take_all (length cs - (k + 1)) (drop (k + 1) cs) (omega (arith, length-drop (k + 1) cs)) in
    rw (all, add-one, ends.0) (splits cs h)

pub first_of_one : (cs : List ℕ) → position (λ b. b == 10) cs ≡ None → 0 < length cs → lines_of cs ≡ cs ∷ []
first_of_one cs e h =
    let le = past_end (nat_lt (end_of cs) (length cs)) (end_of cs) (length cs) e refl in
    let whole : take (end_of cs) cs ≡ cs = take_all (end_of cs) cs (omega arith) in
    let nothing : drop (suc (end_of cs)) cs ≡ [] = nil_from_length (drop (suc (end_of cs)) cs) (omega (arith, length-drop (suc (end_of cs)) cs)) in
    rw (whole, nothing) at (splits cs h)

first_le : (c n : ℕ) (ls : List (List ℕ)) → length ls ≤ n → length (onto_first c ls) ≤ n + 1
first_le c n [] h = omega arith
first_le c n (l ∷ ls) h = omega arith

line_le : (b : Bool) (c n : ℕ) (ls : List (List ℕ)) → length ls ≤ n → length (cond b ([] ∷ ls) (onto_first c ls)) ≤ n + 1
line_le true c n ls h = omega arith
line_le false c n ls h = first_le c n ls h

-- a text has no more lines than bytes
pub lines_le : (cs : List ℕ) → length (lines_of cs) ≤ length cs
lines_le [] = omega arith
lines_le (c ∷ cs) = omega (arith, line_le (c == 10) c (length cs) (lines_of cs) (lines_le cs))
