-- An answer at a place, changed in a list.
use Rattle.std.proofs.Common.{◌≡◌, ℕ, zero, suc, ◌<◌, ◌≤◌, List, [], ◌∷◌, length, slice_set, get_or, refl, ap, ◌∙◌, arith}
use Rattle.tv_answers.specs.declared.answers.Answer.{Answer}
use Rattle.tv_answers.specs.ReadLogs.{changed_at}

changed_there : (change : Answer → Answer) (answers : List Answer) (place : ℕ) (d : Answer) → place < length answers → slice_set answers place (change (get_or answers place d)) ≡ changed_at place change answers
changed_there change [] place d within = absurd (omega (arith, within))
changed_there change (a ∷ rest) zero d within = refl
changed_there change (a ∷ rest) (suc place) d within = ap (λ xs. a ∷ xs) (changed_there change rest place d (omega (arith, within)))

nothing_there : (change : Answer → Answer) (answers : List Answer) (place : ℕ) → length answers ≤ place → answers ≡ changed_at place change answers
nothing_there change [] place past = refl
nothing_there change (a ∷ rest) zero past = absurd (omega (arith, past))
nothing_there change (a ∷ rest) (suc place) past = ap (λ xs. a ∷ xs) (nothing_there change rest place (omega (arith, past)))

-- where there is one
pub changed_item : (change : Answer → Answer) (items answers : List Answer) (place : ℕ) (a : Answer) → items ≡ answers → a ≡ get_or items place a → place < length items → slice_set items place (change a) ≡ changed_at place change answers
changed_item change items answers place a same is within =
    ap (λ x. slice_set items place (change x)) is ∙ changed_there change items place a within ∙ ap (changed_at place change) same

-- where there is none
pub unchanged : (change : Answer → Answer) (items answers : List Answer) (place : ℕ) → items ≡ answers → length items ≤ place → items ≡ changed_at place change answers
unchanged change items answers place same past = nothing_there change items place past ∙ ap (changed_at place change) same
