-- The canonical text of declarations that some lines spell, spells them too.
use Rattle.std.proofs.Common.{◌≡◌, ℕ, suc, ◌<◌, ◌==◌, Bool, true, false, ◌||◌, List, [], ◌∷◌, ◌++◌, length, get_or, encode_utf8_all, refl, ap, ◌∙◌, append_assoc, arith}
use Rattle.std.specs.List.{AllByRecursion, list_any}
use Rattle.std.specs.Str.{NonePass}
use Rattle.std.specs.Char.{is_control}
use Rattle.std.proofs.lemmas.Bool.{eqb-true}
use Rattle.std.proofs.lemmas.Str.{NoCharPasses-byte}
use Rattle.tv_words.specs.declared.word.Word.{Word}
use Rattle.tv_words.specs.Lines.{lines_of}
use Rattle.tv_words.specs.Words.{is_comment, SpellsWords}
use Rattle.tv_words.specs.Texts.{EachSpells, declarations, SpellsBy}
use Rattle.tv_words.specs.Canonical.{canonical_line, ended_line, canonical_text}
use Rattle.tv_words.proofs.CanonicalLineLemmas.{Stands, canonical_spells, line_of_words, words_stand, plain_line, clean_from_plain}
use Rattle.tv_words.proofs.WordLemmas.{or_false}

abbrev is_end : ℕ → Bool
is_end b = b == 10

-- ---- a line without line ends is the first of the text

onto : (b : Bool) (c : ℕ) (l rest : List ℕ) → c == 10 ≡ b → (b || list_any is_end l) ≡ false → (list_any is_end l ≡ false → lines_of (l ++ 10 ∷ rest) ≡ l ∷ lines_of rest) → lines_of (c ∷ l ++ 10 ∷ rest) ≡ (c ∷ l) ∷ lines_of rest
onto true c l rest e none later = absurd cc
onto false c l rest e none later = rw (e, later none) refl

first_line : (l rest : List ℕ) → list_any is_end l ≡ false → lines_of (l ++ 10 ∷ rest) ≡ l ∷ lines_of rest
first_line [] rest none = refl
first_line (c ∷ l) rest none = onto (c == 10) c l rest refl none (first_line l rest)

-- ---- the UTF-8 of characters that are no line ends has none

no_end_if : (b : Bool) (c : ℕ) → c == 10 ≡ b → is_control c ≡ false → b ≡ false
no_end_if false c e f = refl
no_end_if true c e f = (let clash : is_control 10 ≡ false = rw (eqb-true c 10 e) at f in absurd cc)

none_end : (cs : List ℕ) → list_any is_control cs ≡ false → NonePass is_end cs
none_end [] e = tt
none_end (c ∷ cs) e =
    let both = or_false (is_control c) (list_any is_control cs) e in
    (no_end_if (c == 10) c refl both.0, none_end cs both.1)

end_if : (b : Bool) (x : ℕ) → x == 10 ≡ b → (x < 128 → b ≡ false) → b ≡ false
end_if false x e h = refl
end_if true x e h = h (rw (eqb-true x 10 e) (omega arith))

none_at : (bs : List ℕ) → ((i : ℕ) → i < length bs → get_or bs i 0 < 128 → is_end (get_or bs i 0) ≡ false) → list_any is_end bs ≡ false
none_at [] h = refl
none_at (b ∷ bs) h = rw (end_if (b == 10) b refl (h 0 (omega arith))) (none_at bs (λ i below low. h (suc i) (omega arith) low))

no_ends : (cs : List ℕ) → list_any is_control cs ≡ false → list_any is_end (encode_utf8_all cs) ≡ false
no_ends cs clean = none_at (encode_utf8_all cs) (λ i. NoCharPasses-byte is_end (encode_utf8_all cs) i (cs, refl, none_end cs clean))

-- ---- the lines

first_ended : (line : List ℕ) (w : Word) (ws : List Word) (wss : List (List Word)) → SpellsWords line (w ∷ ws) → lines_of (canonical_text ((w ∷ ws) ∷ wss)) ≡ encode_utf8_all (canonical_line (w ∷ ws)) ∷ lines_of (canonical_text wss)
unfolding ended_line
first_ended line w ws wss h =
    let stand = words_stand line w ws h in
    let clean = clean_from_plain (canonical_line (w ∷ ws)) (plain_line (w ∷ ws) stand.0) in
    let bytes = encode_utf8_all (canonical_line (w ∷ ws)) in
    ap lines_of (append_assoc bytes (10 ∷ []) (canonical_text wss)) ∙ first_line bytes (canonical_text wss) (no_ends (canonical_line (w ∷ ws)) clean)

-- the canonical text of words that some lines spell, has a line for each that has any
pub each_spelled : (lines : List (List ℕ)) (wss : List (List Word)) → EachSpells lines wss → EachSpells (lines_of (canonical_text (declarations wss))) (declarations wss)
each_spelled [] [] h = tt
each_spelled [] (ws ∷ wss) h = absurd h
each_spelled (l ∷ ls) [] h = absurd h
each_spelled (l ∷ ls) ([] ∷ wss) h = each_spelled ls wss h.1
each_spelled (l ∷ ls) ((w ∷ ws) ∷ wss) h = rw (first_ended l w ws (declarations wss) h.0) (canonical_spells l w ws h.0, each_spelled ls wss h.1)

declared_once : (wss : List (List Word)) → declarations (declarations wss) ≡ declarations wss
declared_once [] = refl
declared_once ([] ∷ wss) = declared_once wss
declared_once ((w ∷ ws) ∷ wss) = ap (λ x. (w ∷ ws) ∷ x) (declared_once wss)

-- where some lines spell a value, the lines of its canonical text do
pub respelled : {V : Type 0} (spelling : V → List (List Word)) (Can : V → Type 0) (lines : List (List ℕ)) (v : V) → SpellsBy spelling Can lines v → SpellsBy spelling Can (lines_of (canonical_text (spelling v))) v
respelled spelling Can lines v h =
    let wss = h.words in
    let each : EachSpells (lines_of (canonical_text (spelling v))) (spelling v) = rw (← h.declared) (each_spelled lines wss h.each) in
    record { words = spelling v; each = each; declared = rw (← h.declared) (declared_once wss); can = h.can }

-- words that can stand in a line, whose first begins no comment
abbrev pub StandInLine : List Word → Type 0
StandInLine [] = ⊥
StandInLine (w ∷ ws) = AllByRecursion Stands (w ∷ ws) × (is_comment (canonical_line (w ∷ ws)) ≡ false)

-- the lines of the canonical text of such words spell just them
pub stand_spelled : (wss : List (List Word)) → AllByRecursion StandInLine wss → EachSpells (lines_of (canonical_text wss)) wss
stand_spelled [] h = tt
stand_spelled ([] ∷ wss) h = absurd h.0
stand_spelled ((w ∷ ws) ∷ wss) h =
    let spelled = line_of_words w ws h.0.0 h.0.1 in
    rw (first_ended (encode_utf8_all (canonical_line (w ∷ ws))) w ws wss spelled) (spelled, stand_spelled wss h.1)
