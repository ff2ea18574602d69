-- The canonical line of words that some line spells, spells them too.
use Rattle.std.proofs.Common.{◌≡◌, ℕ, zero, suc, ◌==◌, Bool, true, false, not, ◌&&◌, ◌||◌, List, [], ◌∷◌, ◌++◌, replicate, chars, encode_utf8_all, flat_map, refl, sym, ap, ◌∙◌}
use Rattle.std.specs.Prelude.{MatchBool}
use Rattle.std.specs.List.{AllByRecursion, list_all, list_any}
use Rattle.std.specs.Char.{is_control}
use Rattle.std.proofs.lemmas.List.Folds.{list_all-append}
use Rattle.std.proofs.lemmas.Str.{chars-encodes, scalars-chars}
use lib.Utf8.{scalar, scalars}
use Rattle.tv_words.specs.declared.word.Word.{Word}
use Rattle.tv_words.specs.declared.word.Word.TheVariants.{Bare, Quoted}
use Rattle.tv_words.specs.Words.{is_bare, is_comment, word_text, IsWord, Spaced, SpellsWords}
use Rattle.tv_words.specs.Canonical.{canonical_line}

-- a character that may stand in a line
abbrev pub is_plain : ℕ → Bool
is_plain c = not (is_control c) && scalar c

both_true : (a b : Bool) → (a && b) ≡ true → (a ≡ true) × (b ≡ true)
both_true true b e = (refl, e)
both_true false b e = absurd cc

plain_cons : (k s a b r : Bool) → (k || a) ≡ false → (s && b) ≡ true → ((a ≡ false) → (b ≡ true) → r ≡ true) → ((not k && s) && r) ≡ true
plain_cons true s a b r clean all later = absurd cc
plain_cons false true a b r clean all later = later clean all
plain_cons false false a b r clean all later = absurd cc

-- the characters of a text without control characters
plain_from : (cs : List ℕ) → list_any is_control cs ≡ false → scalars cs ≡ true → list_all is_plain cs ≡ true
plain_from [] clean all = refl
plain_from (c ∷ cs) clean all = plain_cons (is_control c) (scalar c) (list_any is_control cs) (scalars cs) (list_all is_plain cs) clean all (plain_from cs)

clean_cons : (k s a r : Bool) → ((not k && s) && r) ≡ true → (r ≡ true → a ≡ false) → (k || a) ≡ false
clean_cons true s a r e later = absurd cc
clean_cons false true a r e later = later e
clean_cons false false a r e later = absurd cc

pub clean_from_plain : (cs : List ℕ) → list_all is_plain cs ≡ true → list_any is_control cs ≡ false
clean_from_plain [] e = refl
clean_from_plain (c ∷ cs) e = clean_cons (is_control c) (scalar c) (list_any is_control cs) (list_all is_plain cs) e (clean_from_plain cs)

scalar_cons : (k s b r : Bool) → ((not k && s) && r) ≡ true → (r ≡ true → b ≡ true) → (s && b) ≡ true
scalar_cons true s b r e later = absurd cc
scalar_cons false true b r e later = later e
scalar_cons false false b r e later = absurd cc

pub scalars_from_plain : (cs : List ℕ) → list_all is_plain cs ≡ true → scalars cs ≡ true
scalars_from_plain [] e = refl
scalars_from_plain (c ∷ cs) e = scalar_cons (is_control c) (scalar c) (scalars cs) (list_all is_plain cs) e (scalars_from_plain cs)

-- ---- words that can stand in a line

abbrev pub Stands : Word → Type 0
Stands w = IsWord w × (list_all is_plain (word_text w) ≡ true)

all_parts : (xs ys : List ℕ) → list_all is_plain (xs ++ ys) ≡ true → (list_all is_plain xs ≡ true) × (list_all is_plain ys ≡ true)
all_parts xs ys e = both_true (list_all is_plain xs) (list_all is_plain ys) (sym (list_all-append is_plain xs ys) ∙ e)

all_joined : (xs ys : List ℕ) → list_all is_plain xs ≡ true → list_all is_plain ys ≡ true → list_all is_plain (xs ++ ys) ≡ true
all_joined xs ys e f = list_all-append is_plain xs ys ∙ ap (λ b. b && list_all is_plain ys) e ∙ f

-- the words of a line can stand in one
spaced_stand : (cs : List ℕ) (ws : List Word) → list_all is_plain cs ≡ true → Spaced cs ws → AllByRecursion Stands ws
spaced_stand cs [] all h = tt
spaced_stand cs (w ∷ ws) all h =
    let after : list_all is_plain (32 ∷ replicate h.0 32 ++ (word_text w ++ h.1)) ≡ true = ap (list_all is_plain) (sym h.2) ∙ all in
    let parts = all_parts (32 ∷ replicate h.0 32) (word_text w ++ h.1) after in
    let word = all_parts (word_text w) h.1 parts.1 in
    ((h.3, word.0), spaced_stand h.1 ws word.1 h.4)

-- with a space before each
abbrev after_spaces : List Word → List ℕ
after_spaces ws = flat_map (λ w. 32 ∷ word_text w) ws

plain_after_spaces : (ws : List Word) → AllByRecursion Stands ws → list_all is_plain (after_spaces ws) ≡ true
plain_after_spaces [] h = refl
plain_after_spaces (w ∷ ws) h = all_joined (word_text w) (after_spaces ws) h.0.1 (plain_after_spaces ws h.1)

pub plain_line : (ws : List Word) → AllByRecursion Stands ws → list_all is_plain (canonical_line ws) ≡ true
plain_line [] h = refl
plain_line (w ∷ ws) h = all_joined (word_text w) (after_spaces ws) h.0.1 (plain_after_spaces ws h.1)

spaced_after_spaces : (ws : List Word) → AllByRecursion Stands ws → Spaced (after_spaces ws) ws
spaced_after_spaces [] h = (0, refl)
spaced_after_spaces (w ∷ ws) h = (0, after_spaces ws, refl, h.0.0, spaced_after_spaces ws h.1)

-- ---- comments

spaces_before : (n : ℕ) (cs : List ℕ) → is_comment (replicate n 32 ++ cs) ≡ is_comment cs
spaces_before zero cs = refl
spaces_before (suc n) cs = spaces_before n cs

by_first : (c : ℕ) (p q : Bool) (xs ys : List ℕ) → c == 32 ≡ p → c == 34 ≡ q → not (p || q) ≡ true → is_comment (c ∷ xs) ≡ is_comment (c ∷ ys)
by_first c true q xs ys a b e = absurd cc
by_first c false true xs ys a b e = absurd cc
by_first c false false xs ys a b e = rw a refl

-- a word decides whether the line that it begins is a comment
by_word : (w : Word) (xs ys : List ℕ) → IsWord w → is_comment (word_text w ++ xs) ≡ is_comment (word_text w ++ ys)
by_word (Bare []) xs ys is = absurd (is.0 refl)
by_word (Bare (c ∷ cs)) xs ys is = by_first c (c == 32) (c == 34) (cs ++ xs) (cs ++ ys) refl refl (both_true (is_bare c) (list_all is_bare cs) is.1).0
by_word (Quoted text) xs ys is = refl

comment_same : (cs : List ℕ) (w : Word) (ws : List Word) → Spaced (32 ∷ cs) (w ∷ ws) → is_comment (canonical_line (w ∷ ws)) ≡ is_comment cs
comment_same cs w ws h =
    let parts : cs ≡ replicate h.0 32 ++ (word_text w ++ h.1) = cc h.2 in
    by_word w (after_spaces ws) h.1 h.3 ∙ sym (spaces_before h.0 (word_text w ++ h.1)) ∙ ap is_comment (sym parts)

-- ---- the line

-- words that can stand in a line, whose first begins no comment, are spelled by their canonical line
pub line_of_words : (w : Word) (ws : List Word) → AllByRecursion Stands (w ∷ ws) → is_comment (canonical_line (w ∷ ws)) ≡ false → SpellsWords (encode_utf8_all (canonical_line (w ∷ ws))) (w ∷ ws)
line_of_words w ws stand shown =
    let cs = canonical_line (w ∷ ws) in
    let plain = plain_line (w ∷ ws) stand in
    let all = scalars_from_plain cs plain in
    let same : chars (encode_utf8_all cs) ≡ cs = chars-encodes cs all in
    record { utf8 = (cs, (all, refl)); clean = rw same (clean_from_plain cs plain); words = rw (same, shown) (spaced_after_spaces (w ∷ ws) stand) }

spaced_if : (k : Bool) (cs : List ℕ) (w : Word) (ws : List Word) → is_comment cs ≡ k → MatchBool k (w ∷ ws ≡ []) (Spaced (32 ∷ cs) (w ∷ ws)) → (is_comment cs ≡ false) × Spaced (32 ∷ cs) (w ∷ ws)
spaced_if true cs w ws e h = absurd cc
spaced_if false cs w ws e h = (e, h)

-- words of a line: they can stand in it, and the first begins no comment
pub words_stand : (line : List ℕ) (w : Word) (ws : List Word) → SpellsWords line (w ∷ ws) → AllByRecursion Stands (w ∷ ws) × (is_comment (canonical_line (w ∷ ws)) ≡ false)
words_stand line w ws h =
    let cs = chars line in
    let spaced = spaced_if (is_comment cs) cs w ws refl h.words in
    let plain : list_all is_plain (32 ∷ cs) ≡ true = plain_from cs h.clean (scalars-chars line h.utf8) in
    (spaced_stand (32 ∷ cs) (w ∷ ws) plain spaced.1, comment_same cs w ws spaced.1 ∙ spaced.0)

pub canonical_spells : (line : List ℕ) (w : Word) (ws : List Word) → SpellsWords line (w ∷ ws) → SpellsWords (encode_utf8_all (canonical_line (w ∷ ws))) (w ∷ ws)
canonical_spells line w ws h = let s = words_stand line w ws h in line_of_words w ws s.0 s.1
