-- One character of a text, and what reading then gives.
use Rattle.std.proofs.Common.{◌≡◌, ℕ, List, [], ◌++◌, length, Option, Some, None, IsUtf8, chars}
use Rattle.std.specs.Prelude.{encode_utf8}
use Rattle.std.proofs.lemmas.List.{nil_from_length}
use Rattle.std.proofs.lemmas.Str.{chars_past_char, IsUtf8-past_char, chars-nil}
use Rattle.tv_words.specs.declared.word.Word.{Word}
use Rattle.tv_words.specs.declared.scan.Scanner.{Scanner}
use Rattle.tv_words.specs.Reading.Scan.{take_char, finished, read_on}

-- the scanner takes the character
pub read_more : (s t : Scanner) (bs rest : List ℕ) (c : ℕ) (all : Option (List Word)) → IsUtf8 bs → bs ≡ encode_utf8 c ++ rest → take_char s c ≡ Some t → read_on s (chars bs) ≡ all → IsUtf8 rest × (read_on t (chars rest) ≡ all)
read_more s t bs rest c all u e took h =
    let first = chars_past_char bs rest c u e in
    (IsUtf8-past_char bs rest c u e, rw (first, took) at h)

-- it can't
pub read_stop : (s : Scanner) (bs rest : List ℕ) (c : ℕ) (all : Option (List Word)) → IsUtf8 bs → bs ≡ encode_utf8 c ++ rest → take_char s c ≡ None → read_on s (chars bs) ≡ all → None ≡ all
read_stop s bs rest c all u e stops h =
    let first = chars_past_char bs rest c u e in
    rw (first, stops) at h

-- no character is left
pub read_end : (s : Scanner) (bs : List ℕ) (all : Option (List Word)) → length bs ≡ 0 → read_on s (chars bs) ≡ all → finished s ≡ all
read_end s bs all none h =
    let empty : bs ≡ [] = nil_from_length bs none in
    rw (empty, chars-nil) at h
