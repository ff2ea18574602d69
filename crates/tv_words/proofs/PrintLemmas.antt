-- What is written of a line, word by word.
use Rattle.std.proofs.Common.{◌≡◌, ℕ, suc, ◌+◌, ◌-◌, ◌<◌, ◌≤◌, List, [], ◌∷◌, ◌++◌, length, get_or, take, drop, drop-cons, flat_map, encode_utf8_all, sym, ap, ◌∙◌, append_assoc, add-one, arith, Result, Ok, Err, OnOk}
use Rattle.std.proofs.lemmas.List.{take_all}
use Rattle.std.proofs.lemmas.Str.{encodes-append}
use Rattle.tv_words.specs.declared.word.Word.{Word}
use Rattle.tv_words.specs.Words.{word_text}
use Rattle.tv_words.specs.Canonical.{canonical_line}

pub ok_map : {T E P Q : Type 0} (r : Result T E) → (P → Q) → OnOk r P → OnOk r Q
ok_map (Ok v) f h = f h
ok_map (Err e) f h = tt

-- with a space before each
abbrev after_spaces : List Word → List ℕ
after_spaces ws = flat_map (λ w. 32 ∷ word_text w) ws

-- one word more
pub word_written : (old new all : List ℕ) (ws : List Word) (i : ℕ) (w : Word) → i < length ws → w ≡ get_or ws i w → new ≡ old ++ encode_utf8_all (32 ∷ word_text w) → old ++ encode_utf8_all (after_spaces (drop i ws)) ≡ all → new ++ encode_utf8_all (after_spaces (drop (i + 1) ws)) ≡ all
word_written old new all ws i w within is more sofar =
    let rest = after_spaces (drop (suc i) ws) in
    let first : drop i ws ≡ w ∷ drop (suc i) ws = drop-cons ws i w within ∙ ap (λ x. x ∷ drop (suc i) ws) (sym is) in
    let joined : old ++ encode_utf8_all ((32 ∷ word_text w) ++ rest) ≡ all = ap (λ x. old ++ encode_utf8_all (after_spaces x)) (sym first) ∙ sofar in
    rw (more, add-one) (append_assoc old (encode_utf8_all (32 ∷ word_text w)) (encode_utf8_all rest) ∙ ap (λ x. old ++ x) (sym (encodes-append (32 ∷ word_text w) rest)) ∙ joined)

-- the first word, and those after it
pub line_written : (old text new : List ℕ) (ws : List Word) (w : Word) → 1 ≤ length ws → w ≡ get_or ws 0 w → text ≡ old ++ encode_utf8_all (word_text w) → new ≡ text ++ encode_utf8_all (after_spaces (take (length ws - 1) (drop 1 ws))) → new ≡ old ++ encode_utf8_all (canonical_line ws)
line_written old text new [] w some is first rest = absurd (omega arith)
line_written old text new (x ∷ xs) w some is first rest =
    let all : take (length (x ∷ xs) - 1) (drop 1 (x ∷ xs)) ≡ xs = take_all (length (x ∷ xs) - 1) xs (omega arith) in
    rw (rest, first, all, is) (append_assoc old (encode_utf8_all (word_text x)) (encode_utf8_all (after_spaces xs)) ∙ ap (λ y. old ++ y) (sym (encodes-append (word_text x) (after_spaces xs))))
