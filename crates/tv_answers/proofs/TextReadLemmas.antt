-- Texts that are read line by line, with what follows them.
use lib.Utf8.{encode}
use Rattle.std.proofs.Common.{◌≡◌, ◌≢◌, ℕ, ◌+◌, ◌/◌, ◌%◌, ◌≤◌, ◌==◌, ◌&&◌, Bool, true, false, List, [], ◌∷◌, ◌++◌, flat_map, Some, None, cond, pos, refl, sym, ap, subst, ◌∙◌, append_assoc, arith}
use Rattle.std.specs.Prelude.{ℤ, negsuc, ◌≤ℤ◌, codes, decimal, encode_utf8, encode_utf8_all, nat_lt, option_and_then, if◌then◌else◌}
use Rattle.std.specs.List.{AllByRecursion, range_with_len}
use Rattle.std.proofs.lemmas.Bool.Decides.{nat_tests}
use Rattle.std.proofs.lemmas.Int.{ints}
use Rattle.std.proofs.lemmas.List.{append-nil}
use lib.Dec.{ltb}
use Rattle.tv_cells.specs.Glyph.{Glyph}
use Rattle.tv_machine.proofs.ListLemmas.{bool_cases, option_cases}
use Rattle.tv_machine.specs.Output.{cells_text, colors_text, hex_byte, hex_digit, row_text, screen_cell, shot_text}
use Rattle.tv_machine.specs.Run.{Session}
use Rattle.tv_machine.specs.State.{State}
use Rattle.tv_model.specs.declared.desc.Desc.{Desc}
use Rattle.tv_model.specs.declared.log.LogLine.{LogLine}
use Rattle.tv_model.specs.Description.Numbers.{IsBetween, natural}
use Rattle.tv_model.specs.Log.LogText.{line_of, log_text}
use Rattle.tv_words.specs.declared.word.Word.{Word}
use Rattle.tv_words.specs.declared.word.Word.TheVariants.{Bare}
use Rattle.tv_words.specs.Canonical.{canonical_line, canonical_text, ended_line}
use Rattle.tv_words.specs.Fields.{IsNumber, number_word}
use Rattle.tv_words.specs.Lines.{lines_of, onto_first}
use Rattle.tv_answers.specs.declared.progress.Progress.{Progress}
use Rattle.tv_answers.specs.LogLines.{is_number}
use Rattle.tv_laws.specs.Sheets.{HasNoSheets}
use Rattle.tv_answers.specs.ReadLogs.{line_answered, lines_answered}
use Rattle.tv_answers.proofs.LogReadLemmas.{AreLines, text_read}
use Rattle.tv_answers.proofs.LogTextLemmas.{spaced_bytes}
use Rattle.tv_answers.proofs.ScreenLemmas.{screen_clear}
use Rattle.tv_answers.proofs.StandLemmas.{common_stands, number_stands}
use Rattle.tv_answers.proofs.ToldReadLemmas.{IsRead, number_bytes, number_passed, words_text}

-- ---- texts, and what follows

-- the lines of the text stand before those of what follows it, and take the one state to the other
pub record TextIsRead (d : Desc) (p : Progress) (text : List ℕ) (q : Progress) : Type 0 where
  pub lines : List (List ℕ)
  pub split : (rest : List ℕ) → lines_of (text ++ rest) ≡ lines ++ lines_of rest
  pub answered : (n : ℕ) → lines_answered d n p lines ≡ Some q

answered_append : (d : Desc) (xs ys : List (List ℕ)) (n : ℕ) (p m q : Progress) → lines_answered d n p xs ≡ Some m → ((k : ℕ) → lines_answered d k m ys ≡ Some q) → lines_answered d n p (xs ++ ys) ≡ Some q
answered_append d [] ys n p m q first later = (let same : p ≡ m = cc in ap (λ x. lines_answered d n x ys) same ∙ later n)
answered_append d (x ∷ xs) ys n p m q first later =
    option_cases (line_answered d n p x) (λ o. option_and_then (λ further. lines_answered d (n + 1) further xs) o ≡ Some m → option_and_then (λ further. lines_answered d (n + 1) further (xs ++ ys)) o ≡ Some q)
    (λ none e. absurd cc) (λ further some e. answered_append d xs ys (n + 1) further m q e later) first

pub text_append : (d : Desc) (p m q : Progress) (xs ys : List ℕ) → TextIsRead d p xs m → TextIsRead d m ys q → TextIsRead d p (xs ++ ys) q
text_append d p m q xs ys first later = record {
  lines = first.lines ++ later.lines;
  split = λ rest. ap lines_of (append_assoc xs ys rest) ∙ first.split (ys ++ rest) ∙ ap (λ ls. first.lines ++ ls) (later.split rest) ∙ sym (append_assoc first.lines later.lines (lines_of rest));
  answered = λ n. answered_append d first.lines later.lines n p m q (first.answered n) later.answered;
}

pub text_nothing : (d : Desc) (p : Progress) → TextIsRead d p [] p
text_nothing d p = record { lines = []; split = λ rest. refl; answered = λ n. refl }

-- ---- texts of which each line ends

some_lines : (xs : List ℕ) → lines_of (xs ++ 10 ∷ []) ≢ []
some_lines [] e = absurd cc
some_lines (c ∷ cs) e = by_first (c == 10) c (lines_of (cs ++ 10 ∷ [])) e
  where
    by_first : (b : Bool) (x : ℕ) (ls : List (List ℕ)) → (if b then [] ∷ ls else onto_first x ls) ≢ []
    by_first true x ls e = absurd cc
    by_first false x [] e = absurd cc
    by_first false x (l ∷ ls) e = absurd cc

onto_some : (c : ℕ) (ls ms : List (List ℕ)) → ls ≢ [] → onto_first c (ls ++ ms) ≡ onto_first c ls ++ ms
onto_some c [] ms some = absurd (some refl)
onto_some c (l ∷ ls) ms some = refl

ended_split : (xs rest : List ℕ) → lines_of ((xs ++ 10 ∷ []) ++ rest) ≡ lines_of (xs ++ 10 ∷ []) ++ lines_of rest
ended_split [] rest = refl
ended_split (c ∷ cs) rest =
    bool_cases (c == 10)
    (λ b. (if b then [] ∷ lines_of ((cs ++ 10 ∷ []) ++ rest) else onto_first c (lines_of ((cs ++ 10 ∷ []) ++ rest))) ≡ (if b then [] ∷ lines_of (cs ++ 10 ∷ []) else onto_first c (lines_of (cs ++ 10 ∷ []))) ++ lines_of rest)
    (λ is. ap (λ ls. [] ∷ ls) (ended_split cs rest))
    (λ other. ap (onto_first c) (ended_split cs rest) ∙ onto_some c (lines_of (cs ++ 10 ∷ [])) (lines_of rest) (some_lines cs))

line_split : (ws : List Word) (rest : List ℕ) → lines_of (ended_line ws ++ rest) ≡ lines_of (ended_line ws) ++ lines_of rest
unfolding ended_line
line_split ws rest = ended_split (encode_utf8_all (canonical_line ws)) rest

words_split : (wss : List (List Word)) (rest : List ℕ) → lines_of (canonical_text wss ++ rest) ≡ lines_of (canonical_text wss) ++ lines_of rest
words_split [] rest = refl
words_split (ws ∷ wss) rest =
    ap lines_of (append_assoc (ended_line ws) (canonical_text wss) rest)
    ∙ line_split ws (canonical_text wss ++ rest)
    ∙ ap (λ ls. lines_of (ended_line ws) ++ ls) (words_split wss rest)
    ∙ sym (append_assoc (lines_of (ended_line ws)) (lines_of (canonical_text wss)) (lines_of rest))
    ∙ ap (λ ls. ls ++ lines_of rest) (sym (line_split ws (canonical_text wss)))

pub words_read : (d : Desc) (p q : Progress) (wss : List (List Word)) → ((n : ℕ) → AreLines d n p wss q) → TextIsRead d p (canonical_text wss) q
words_read d p q wss are = record { lines = lines_of (canonical_text wss); split = words_split wss; answered = λ n. text_read d n p q wss (are n) }

-- a log
pub log_text_read : (d : Desc) (p q : Progress) (log : List LogLine) → IsRead d p log q → TextIsRead d p (log_text d log) q
log_text_read d p q log x = subst (λ text. TextIsRead d p text q) (sym x.text) (words_read d p q x.words x.lines)

-- ---- rows of a screen

abbrev NoFeed : List ℕ → Type 0
NoFeed bs = AllByRecursion (λ b. (b == 10) ≡ false) bs

no_feed_append : (xs ys : List ℕ) → NoFeed xs → NoFeed ys → NoFeed (xs ++ ys)
no_feed_append [] ys first later = later
no_feed_append (x ∷ xs) ys first later = (first.0, no_feed_append xs ys first.1 later)

first_line : (l rest : List ℕ) → NoFeed l → lines_of (l ++ 10 ∷ rest) ≡ l ∷ lines_of rest
first_line [] rest none = refl
first_line (c ∷ l) rest none =
    ap (λ b. if b then [] ∷ lines_of (l ++ 10 ∷ rest) else onto_first c (lines_of (l ++ 10 ∷ rest))) none.0 ∙ ap (onto_first c) (first_line l rest none.1)

large : (k x : ℕ) → 11 ≤ k → ((k + x) == 10) ≡ false
large k x h = grind (arith, nat_tests, h)

character_clear : (c : ℕ) → (c == 10) ≡ false → NoFeed (encode_utf8 c)
unfolding encode
character_clear c other =
    bool_cases (ltb c 128) (λ b. NoFeed (cond b (c ∷ []) (cond (ltb c 2048) ((192 + c / 64) ∷ (128 + c % 64) ∷ []) (cond (ltb c 65536) ((224 + c / 4096) ∷ (128 + c / 64 % 64) ∷ (128 + c % 64) ∷ []) ((240 + c / 262144) ∷ (128 + c / 4096 % 64) ∷ (128 + c / 64 % 64) ∷ (128 + c % 64) ∷ [])))))
    (λ one. (other, tt))
    (λ more. bool_cases (ltb c 2048) (λ b. NoFeed (cond b ((192 + c / 64) ∷ (128 + c % 64) ∷ []) (cond (ltb c 65536) ((224 + c / 4096) ∷ (128 + c / 64 % 64) ∷ (128 + c % 64) ∷ []) ((240 + c / 262144) ∷ (128 + c / 4096 % 64) ∷ (128 + c / 64 % 64) ∷ (128 + c % 64) ∷ []))))
    (λ two. (large 192 (c / 64) (omega arith), (large 128 (c % 64) (omega arith), tt)))
    (λ most. bool_cases (ltb c 65536) (λ b. NoFeed (cond b ((224 + c / 4096) ∷ (128 + c / 64 % 64) ∷ (128 + c % 64) ∷ []) ((240 + c / 262144) ∷ (128 + c / 4096 % 64) ∷ (128 + c / 64 % 64) ∷ (128 + c % 64) ∷ [])))
    (λ three. (large 224 (c / 4096) (omega arith), (large 128 (c / 64 % 64) (omega arith), (large 128 (c % 64) (omega arith), tt))))
    (λ four. (large 240 (c / 262144) (omega arith), (large 128 (c / 4096 % 64) (omega arith), (large 128 (c / 64 % 64) (omega arith), (large 128 (c % 64) (omega arith), tt)))))))

digit_clear : (n : ℕ) → (hex_digit n == 10) ≡ false
digit_clear n = bool_cases (nat_lt n 10) (λ b. ((if b then 48 + n else 87 + n) == 10) ≡ false) (λ low. large 48 n (omega arith)) (λ high. large 87 n (omega arith))

cells_clear : (cell : Glyph → List ℕ) (at : ℕ → Glyph) → ((x : ℕ) → NoFeed (cell (at x))) → (columns : List ℕ) → NoFeed (flat_map (λ x. cell (at x)) columns)
cells_clear cell at each [] = tt
cells_clear cell at each (x ∷ columns) = no_feed_append (cell (at x)) (flat_map (λ y. cell (at y)) columns) (each x) (cells_clear cell at each columns)

-- a row of cells without line feeds
row_read : (d : Desc) (p : Progress) (cell : Glyph → List ℕ) (width : ℕ) (at : ℕ → ℕ → Glyph) (row : ℕ) → ((x : ℕ) → NoFeed (cell (at x row))) → TextIsRead d p (row_text cell width at row) p
unfolding line_of
row_read d p cell width at row each =
    let line : List ℕ = codes ":" ++ (cells_text cell width at row ++ codes ":") in
    let clear : NoFeed line = (refl, no_feed_append (cells_text cell width at row) (codes ":") (cells_clear cell (λ x. at x row) each (range_with_len 0 width)) (refl, tt)) in
    record {
      lines = line ∷ [];
      split = λ rest. ap lines_of (append_assoc line (10 ∷ []) rest) ∙ first_line line rest clear;
      answered = λ n. refl;
    }

rows_read : (d : Desc) (p : Progress) (cell : Glyph → List ℕ) (width : ℕ) (at : ℕ → ℕ → Glyph) → ((x y : ℕ) → NoFeed (cell (at x y))) → (rows : List ℕ) → TextIsRead d p (flat_map (row_text cell width at) rows) p
rows_read d p cell width at each [] = text_nothing d p
rows_read d p cell width at each (y ∷ rows) =
    text_append d p p p (row_text cell width at y) (flat_map (row_text cell width at) rows) (row_read d p cell width at y (λ x. each x y)) (rows_read d p cell width at each rows)

-- ---- screens

size_bytes : (w h : ℕ) → IsNumber (pos w) → IsNumber (pos h) → spaced_bytes (number_word (pos w) ∷ number_word (pos h) ∷ []) ≡ 32 ∷ (decimal w ++ codes " " ++ decimal h)
size_bytes w h fw fh =
    ap (λ bs. 32 ∷ (bs ++ spaced_bytes (number_word (pos h) ∷ []))) (number_bytes (pos w) fw)
    ∙ ap (λ bs. 32 ∷ (decimal w ++ 32 ∷ bs)) (append-nil _ ∙ number_bytes (pos h) fh)
    ∙ ap (λ bs. 32 ∷ bs) (sym (append_assoc (decimal w) (32 ∷ []) (decimal h)))

goes_on : (p : Progress) (b : Bool) → b ≡ true → (if b then Some p else None) ≡ Some p
goes_on p true e = refl
goes_on p false e = absurd cc

sizes : (w h : ℕ) → IsNumber (pos w) → IsNumber (pos h) → (is_number (number_word (pos w)) && is_number (number_word (pos h))) ≡ true
sizes w h fw fh = ap (λ b. b && is_number (number_word (pos h))) (number_passed (pos w) fw) ∙ number_passed (pos h) fh

shot_line : (d : Desc) (p : Progress) (w h : ℕ) → IsNumber (pos w) → IsNumber (pos h) → TextIsRead d p (line_of (codes "shot ") (decimal w ++ codes " " ++ decimal h)) p
unfolding encode
shot_line d p w h fw fh =
    let ws : List Word = Bare (codes "shot") ∷ number_word (pos w) ∷ number_word (pos h) ∷ [] in
    subst (λ text. TextIsRead d p text p)
    (append-nil (ended_line ws) ∙ sym (words_text (codes "shot") (number_word (pos w) ∷ number_word (pos h) ∷ []) (decimal w ++ codes " " ++ decimal h) refl (size_bytes w h fw fh)))
    (words_read d p p (ws ∷ [])
    (λ n. (
      p,
      record {
        stands = ((common_stands (codes "shot") (λ e. cc) refl, (number_stands (pos w) fw, (number_stands (pos h) fh, tt))), refl);
        begins = λ xs. refl;
        read = goes_on p _ (sizes w h fw fh);
      },
      refl,
    )))

colors_line : (d : Desc) (p : Progress) (w h : ℕ) → IsNumber (pos w) → IsNumber (pos h) → TextIsRead d p (line_of (codes "colors ") (decimal w ++ codes " " ++ decimal h)) p
unfolding encode
colors_line d p w h fw fh =
    let ws : List Word = Bare (codes "colors") ∷ number_word (pos w) ∷ number_word (pos h) ∷ [] in
    subst (λ text. TextIsRead d p text p)
    (append-nil (ended_line ws) ∙ sym (words_text (codes "colors") (number_word (pos w) ∷ number_word (pos h) ∷ []) (decimal w ++ codes " " ++ decimal h) refl (size_bytes w h fw fh)))
    (words_read d p p (ws ∷ [])
    (λ n. (
      p,
      record {
        stands = ((common_stands (codes "colors") (λ e. cc) refl, (number_stands (pos w) fw, (number_stands (pos h) fh, tt))), refl);
        begins = λ xs. refl;
        read = goes_on p _ (sizes w h fw fh);
      },
      refl,
    )))

pub natural_number : (z least : ℤ) → IsBetween least (pos 132) z → IsNumber (pos (natural z))
natural_number (pos n) least is = record { sfits = omega (arith, high n is.1) }
  where
    high : (n : ℕ) → pos n ≤ℤ pos 132 → n ≤ 132
    high n h = omega (arith, ints)
natural_number (negsuc n) least is = record { sfits = omega arith }

module _ (d : Desc) (width : IsNumber (pos (natural d.width))) (height : IsNumber (pos (natural d.height))) (p : Progress) (s : State) where
  abbrev session : Session
  session = record { desc = d; state = s }

  pub shot_read : HasNoSheets s → TextIsRead d p (shot_text session) p
  shot_read bare =
      text_append d p p p (line_of (codes "shot ") (decimal (natural d.width) ++ codes " " ++ decimal (natural d.height))) _
      (shot_line d p (natural d.width) (natural d.height) width height)
      (rows_read d p (λ cell. encode_utf8 cell.ch) (natural d.width) (screen_cell session) (λ x y. character_clear (screen_cell session x y).ch (screen_clear d s x y bare)) (range_with_len 0 (natural d.height)))

  pub colors_read : TextIsRead d p (colors_text session) p
  colors_read =
      text_append d p p p (line_of (codes "colors ") (decimal (natural d.width) ++ codes " " ++ decimal (natural d.height))) _
      (colors_line d p (natural d.width) (natural d.height) width height)
      (rows_read d p (λ cell. hex_byte cell.attr) (natural d.width) (screen_cell session)
      (λ x y. let attr = (screen_cell session x y).attr in (digit_clear (attr / 16), (digit_clear (attr % 16), tt))) (range_with_len 0 (natural d.height)))
