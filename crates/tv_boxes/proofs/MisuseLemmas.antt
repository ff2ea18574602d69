-- The letters of an option, one by one.
use Rattle.std.proofs.Common.{◌≡◌, ◌∙◌, ℕ, suc, ◌+◌, ◌<◌, ◌≤◌, List, ◌∷◌, ◌++◌, length, get_or, drop, sym, ap, add-one, drop-cons, append_assoc}
use Rattle.std.proofs.lemmas.List.{append-nil, drop_all}
use Rattle.std.specs.Prelude.{encode_utf8, encode_utf8_all}

next_of : (word : List ℕ) (i letter : ℕ) → i < length word → letter ≡ get_or word i letter → drop i word ≡ letter ∷ drop (i + 1) word
next_of word i letter less is = rw add-one (drop-cons word i letter less ∙ ap (λ l. l ∷ drop (suc i) word) (sym is))

-- one letter more
pub next_letter : (word : List ℕ) (i letter : ℕ) (so_far more whole : List ℕ) → i < length word → letter ≡ get_or word i letter → more ≡ so_far ++ encode_utf8 letter
    → so_far ++ encode_utf8_all (drop i word) ≡ whole → more ++ encode_utf8_all (drop (i + 1) word) ≡ whole
next_letter word i letter so_far more whole less is grown all =
    let rest : List ℕ = encode_utf8_all (drop (i + 1) word) in
    ap (λ bytes. bytes ++ rest) grown
    ∙ (append_assoc so_far (encode_utf8 letter) rest
    ∙ (ap (λ letters. so_far ++ encode_utf8_all letters) (sym (next_of word i letter less is)) ∙ all))

-- all of them
pub all_letters : (word : List ℕ) (i : ℕ) (so_far whole : List ℕ) → length word ≤ i → so_far ++ encode_utf8_all (drop i word) ≡ whole → so_far ≡ whole
all_letters word i so_far whole past all =
    sym (ap (λ letters. so_far ++ encode_utf8_all letters) (drop_all i word past) ∙ append-nil so_far) ∙ all
