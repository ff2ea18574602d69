-- Lines of a log that answer nothing are read, and whole logs are put together.
use lib.Utf8.{encode}
use Rattle.std.proofs.Common.{◌≡◌, ℕ, suc, ◌+◌, ◌&&◌, ◌||◌, Bool, true, false, List, [], ◌∷◌, ◌++◌, encode_utf8_all, Some, None, is_some, pos, refl, sym, ap, ◌∙◌, append_assoc, All, arith}
use Rattle.std.specs.Prelude.{ℤ, negsuc, codes, decimal, if◌then◌else◌}
use Rattle.std.specs.Fmt.{signed_decimal}
use Rattle.std.proofs.lemmas.Fmt.{IsAscii-decimal}
use Rattle.std.proofs.lemmas.Grind.{flat_map-append}
use Rattle.std.proofs.lemmas.List.{append-nil}
use Rattle.std.proofs.lemmas.List.Elements.{All-head, All-tail}
use Rattle.std.proofs.lemmas.Str.{encodes-IsAscii}
use Rattle.tv_model.specs.declared.desc.Desc.{Desc}
use Rattle.tv_model.specs.declared.log.LogLine.{LogLine}
use Rattle.tv_model.specs.declared.log.LogLine.TheVariants as lines
use Rattle.tv_model.specs.declared.node.Id.{Id}
use Rattle.tv_model.specs.Log.LogText.{bytes_of, line_of, log_line, log_text}
use Rattle.tv_words.specs.declared.word.Word.{Word}
use Rattle.tv_words.specs.declared.word.Word.TheVariants.{Bare}
use Rattle.tv_words.specs.Canonical.{canonical_text, ended_line}
use Rattle.tv_words.specs.Fields.{IsName, IsNumber, number_word}
use Rattle.tv_words.specs.Words.{word_text}
use Rattle.tv_words.proofs.CanonicalTextLemmas.{StandInLine}
use Rattle.tv_words.proofs.FieldLemmas.{read_name, read_number_word}
use Rattle.tv_answers.specs.declared.progress.Progress.{Progress}
use Rattle.tv_answers.specs.LogLines.{is_happening, is_name_word, is_number, is_passed}
use Rattle.tv_answers.specs.ReadLogs.{words_answered}
use Rattle.tv_answers.proofs.EndReadLemmas.{name_stands}
use Rattle.tv_answers.proofs.LogReadLemmas.{AreLines, BeginsNoRow, logged_name}
use Rattle.tv_answers.proofs.LogTextLemmas.{bytes_same, line_bytes, spaced_bytes}
use Rattle.tv_answers.proofs.StandLemmas.{common_stands, number_stands}
use Rattle.tv_answers.proofs.ToldLemmas.{IsNamed, IsTold}

-- ---- bytes

pub number_bytes : (z : ℤ) → IsNumber z → encode_utf8_all (word_text (number_word z)) ≡ signed_decimal z
unfolding encode
number_bytes (pos n) fits = encodes-IsAscii (decimal n) (IsAscii-decimal n (omega (arith, fits.sfits)))
number_bytes (negsuc n) fits = ap (λ bs. 45 ∷ bs) (encodes-IsAscii (decimal (suc n)) (IsAscii-decimal (suc n) (omega (arith, fits.sfits))))

-- a keyword and more words
pub words_text : (k : List ℕ) (ws : List Word) (bs : List ℕ) → encode_utf8_all k ≡ k → spaced_bytes ws ≡ 32 ∷ bs → line_of (k ++ 32 ∷ []) bs ≡ ended_line (Bare k ∷ ws)
unfolding line_of ended_line
words_text k ws bs ascii same =
    ap (λ xs. xs ++ 10 ∷ []) (append_assoc k (32 ∷ []) bs)
    ∙ ap (λ xs. k ++ xs ++ 10 ∷ []) (sym same)
    ∙ ap (λ xs. xs ++ spaced_bytes ws ++ 10 ∷ []) (sym ascii)
    ∙ ap (λ xs. xs ++ 10 ∷ []) (sym (line_bytes (Bare k) ws))

name_bytes : (name : List ℕ) → spaced_bytes (Bare name ∷ []) ≡ 32 ∷ bytes_of name
name_bytes name = ap (λ bs. 32 ∷ bs) (append-nil (encode_utf8_all name) ∙ sym (bytes_same name))

moved_bytes : (name : List ℕ) (x y : ℤ) → IsNumber x → IsNumber y
    → spaced_bytes (Bare name ∷ number_word x ∷ number_word y ∷ []) ≡ 32 ∷ (bytes_of name ++ codes " " ++ signed_decimal x ++ codes " " ++ signed_decimal y)
moved_bytes name x y fx fy =
    let rest : List ℕ = signed_decimal y in
    ap (λ bs. 32 ∷ (bs ++ spaced_bytes (number_word x ∷ number_word y ∷ []))) (sym (bytes_same name))
    ∙ ap (λ bs. 32 ∷ (bytes_of name ++ 32 ∷ (bs ++ spaced_bytes (number_word y ∷ [])))) (number_bytes x fx)
    ∙ ap (λ bs. 32 ∷ (bytes_of name ++ 32 ∷ (signed_decimal x ++ 32 ∷ bs))) (append-nil (encode_utf8_all (word_text (number_word y))) ∙ number_bytes y fy)
    ∙ ap (λ bs. 32 ∷ bs)
    (sym (append_assoc (bytes_of name) (32 ∷ []) (signed_decimal x ++ 32 ∷ rest))
    ∙ sym (append_assoc (bytes_of name ++ 32 ∷ []) (signed_decimal x) (32 ∷ rest))
    ∙ sym (append_assoc ((bytes_of name ++ 32 ∷ []) ++ signed_decimal x) (32 ∷ []) rest))

-- ---- the words of a line

abbrev pub told_words : Desc → LogLine → List Word
told_words d (lines.Open i) = Bare (codes "open") ∷ Bare (logged_name d i) ∷ []
told_words d (lines.Focus i) = Bare (codes "focus") ∷ Bare (logged_name d i) ∷ []
told_words d (lines.Press i) = Bare (codes "press") ∷ Bare (logged_name d i) ∷ []
told_words d (lines.Invalid i) = Bare (codes "invalid") ∷ Bare (logged_name d i) ∷ []
told_words d (lines.Close i) = Bare (codes "close") ∷ Bare (logged_name d i) ∷ []
told_words d lines.Quit = Bare (codes "quit") ∷ []
told_words d (lines.Command number) = Bare (codes "command") ∷ number_word (pos number) ∷ []
told_words d (lines.Moved i p) = Bare (codes "moved") ∷ Bare (logged_name d i) ∷ number_word p.x ∷ number_word p.y ∷ []
told_words d _ = []

told_text : (d : Desc) (line : LogLine) → IsTold d line → log_line d line ≡ ended_line (told_words d line)
unfolding encode line_of ended_line
told_text d (lines.Open i) told = words_text (codes "open") (Bare (logged_name d i) ∷ []) (bytes_of (logged_name d i)) refl (name_bytes (logged_name d i))
told_text d (lines.Focus i) told = words_text (codes "focus") (Bare (logged_name d i) ∷ []) (bytes_of (logged_name d i)) refl (name_bytes (logged_name d i))
told_text d (lines.Press i) told = words_text (codes "press") (Bare (logged_name d i) ∷ []) (bytes_of (logged_name d i)) refl (name_bytes (logged_name d i))
told_text d (lines.Invalid i) told = words_text (codes "invalid") (Bare (logged_name d i) ∷ []) (bytes_of (logged_name d i)) refl (name_bytes (logged_name d i))
told_text d (lines.Close i) told = words_text (codes "close") (Bare (logged_name d i) ∷ []) (bytes_of (logged_name d i)) refl (name_bytes (logged_name d i))
told_text d lines.Quit told = refl
told_text d (lines.Command number) told =
    words_text (codes "command") (number_word (pos number) ∷ []) (decimal number) refl (ap (λ bs. 32 ∷ bs) (append-nil (encode_utf8_all (word_text (number_word (pos number)))) ∙ number_bytes (pos number) told))
told_text d (lines.Moved i p) told =
    words_text (codes "moved") (Bare (logged_name d i) ∷ number_word p.x ∷ number_word p.y ∷ []) (bytes_of (logged_name d i) ++ codes " " ++ signed_decimal p.x ++ codes " " ++ signed_decimal p.y) refl
    (moved_bytes (logged_name d i) p.x p.y told.1 told.2)
told_text d (lines.End i command) told = absurd told
told_text d (lines.Field i value) told = absurd told

-- ---- reading it

name_passed : (w : Word) (name : List ℕ) (c : Bool) → is_happening w ≡ true → IsName name → ((is_happening w && is_name_word (Bare name)) || c) ≡ true
name_passed w name c is named = rw (is, read_name name named) refl

pub number_passed : (z : ℤ) → IsNumber z → is_number (number_word z) ≡ true
number_passed z fits = ap is_some (read_number_word z fits)

module _ (d : Desc) (n : ℕ) (p : Progress) where
  happens : (k : List ℕ) (i : Id) → IsNamed d i → is_happening (Bare k) ≡ true → is_passed (Bare k ∷ Bare (logged_name d i) ∷ []) ≡ true
  happens k i named is = name_passed (Bare k) (logged_name d i) _ is named

  goes_on : (b : Bool) → b ≡ true → (if b then Some p else None) ≡ Some p
  goes_on true e = refl
  goes_on false e = absurd cc

  told_answered : (line : LogLine) → IsTold d line → words_answered d n p (told_words d line) ≡ Some p
  told_answered (lines.Open i) told = goes_on _ (happens (codes "open") i told refl)
  told_answered (lines.Focus i) told = goes_on _ (happens (codes "focus") i told refl)
  told_answered (lines.Press i) told = goes_on _ (happens (codes "press") i told refl)
  told_answered (lines.Invalid i) told = goes_on _ (happens (codes "invalid") i told refl)
  told_answered (lines.Close i) told = goes_on _ (happens (codes "close") i told refl)
  told_answered lines.Quit told = refl
  told_answered (lines.Command number) told = goes_on _ (number_passed (pos number) told)
  told_answered (lines.Moved i q) told =
      goes_on _ (ap (λ o. is_some o && (is_number (number_word q.x) && is_number (number_word q.y))) (read_name (logged_name d i) told.0)
      ∙ ap (λ b. b && is_number (number_word q.y)) (number_passed q.x told.1) ∙ number_passed q.y told.2)
  told_answered (lines.End i command) told = absurd told
  told_answered (lines.Field i value) told = absurd told

told_stands : (d : Desc) (line : LogLine) → IsTold d line → StandInLine (told_words d line)
told_stands d (lines.Open i) told = ((common_stands (codes "open") (λ e. cc) refl, (name_stands (logged_name d i) told, tt)), refl)
told_stands d (lines.Focus i) told = ((common_stands (codes "focus") (λ e. cc) refl, (name_stands (logged_name d i) told, tt)), refl)
told_stands d (lines.Press i) told = ((common_stands (codes "press") (λ e. cc) refl, (name_stands (logged_name d i) told, tt)), refl)
told_stands d (lines.Invalid i) told = ((common_stands (codes "invalid") (λ e. cc) refl, (name_stands (logged_name d i) told, tt)), refl)
told_stands d (lines.Close i) told = ((common_stands (codes "close") (λ e. cc) refl, (name_stands (logged_name d i) told, tt)), refl)
told_stands d lines.Quit told = ((common_stands (codes "quit") (λ e. cc) refl, tt), refl)
told_stands d (lines.Command number) told = ((common_stands (codes "command") (λ e. cc) refl, (number_stands (pos number) told, tt)), refl)
told_stands d (lines.Moved i p) told =
    ((common_stands (codes "moved") (λ e. cc) refl, (name_stands (logged_name d i) told.0, (number_stands p.x told.1, (number_stands p.y told.2, tt)))), refl)
told_stands d (lines.End i command) told = absurd told
told_stands d (lines.Field i value) told = absurd told

told_begins : (d : Desc) (line : LogLine) → IsTold d line → BeginsNoRow (told_words d line)
unfolding encode
told_begins d (lines.Open i) told = λ xs. refl
told_begins d (lines.Focus i) told = λ xs. refl
told_begins d (lines.Press i) told = λ xs. refl
told_begins d (lines.Invalid i) told = λ xs. refl
told_begins d (lines.Close i) told = λ xs. refl
told_begins d lines.Quit told = λ xs. refl
told_begins d (lines.Command number) told = λ xs. refl
told_begins d (lines.Moved i p) told = λ xs. refl
told_begins d (lines.End i command) told = absurd told
told_begins d (lines.Field i value) told = absurd told

-- ---- logs

-- the log is read from the one state to the other, from whatever line on
pub record IsRead (d : Desc) (p : Progress) (log : List LogLine) (q : Progress) : Type 0 where
  pub words : List (List Word)
  pub text : log_text d log ≡ canonical_text words
  pub lines : (n : ℕ) → AreLines d n p words q

lines_append : (d : Desc) (xs ys : List (List Word)) (n : ℕ) (p m q : Progress) → AreLines d n p xs m → ((k : ℕ) → AreLines d k m ys q) → AreLines d n p (xs ++ ys) q
lines_append d [] ys n p m q first later = rw first (later n)
lines_append d (x ∷ xs) ys n p m q first later = (first.0, first.1, lines_append d xs ys (n + 1) first.0 m q first.2 later)

pub read_append : (d : Desc) (p m q : Progress) (xs ys : List LogLine) → IsRead d p xs m → IsRead d m ys q → IsRead d p (xs ++ ys) q
read_append d p m q xs ys first later = record {
  words = first.words ++ later.words;
  text = flat_map-append (log_line d) xs ys ∙ ap (λ bs. bs ++ log_text d ys) first.text ∙ ap (λ bs. canonical_text first.words ++ bs) later.text ∙ sym (flat_map-append ended_line first.words later.words);
  lines = λ n. lines_append d first.words later.words n p m q (first.lines n) later.lines;
}

pub read_nothing : (d : Desc) (p : Progress) → IsRead d p [] p
read_nothing d p = record { words = []; text = refl; lines = λ n. refl }

pub told_read : (d : Desc) (p : Progress) (log : List LogLine) → All (IsTold d) log → IsRead d p log p
told_read d p [] told = read_nothing d p
told_read d p (line ∷ log) told =
    let here : IsTold d line = All-head (IsTold d) line log told in
    read_append d p p p (line ∷ []) log
    (record {
      words = told_words d line ∷ [];
      text = append-nil (log_line d line) ∙ told_text d line here ∙ sym (append-nil (ended_line (told_words d line)));
      lines = λ n. (p, record { stands = told_stands d line here; begins = told_begins d line here; read = told_answered d n p line here }, refl);
    })
    (told_read d p log (All-tail (IsTold d) line log told))
