-- The words of a line of bytes are just those that it spells.
use Rattle.std.proofs.Common.{◌≡◌, ℕ, Bool, true, false, List, [], ◌∷◌, Option, Some, None, IsUtf8, chars, refl, sym, ◌∙◌, ap}
use Rattle.std.specs.Prelude.{IfSome, MatchBool}
use Rattle.std.specs.List.{list_any}
use Rattle.std.specs.Char.{is_control}
use Rattle.std.specs.Str.{is_utf8}
use Rattle.std.proofs.lemmas.Str.{IsUtf8-from_is_utf8, is_utf8-from_IsUtf8}
use Rattle.tv_words.specs.declared.word.Word.{Word}
use Rattle.tv_words.specs.declared.scan.Mode.TheVariants.{Between}
use Rattle.tv_words.specs.Words.{is_comment, Spaced, SpellsWords}
use Rattle.tv_words.specs.Reading.Scan.{at, read_on}
use Rattle.tv_words.specs.Reading.LineWords.{line_words_if, line_words}
use Rattle.tv_words.proofs.WordLemmas.{read_spelled, spelled_read}

spelled_if : (u n k : Bool) (line : List ℕ) (ws : List Word) → is_utf8 line ≡ u → list_any is_control (chars line) ≡ n → is_comment (chars line) ≡ k → line_words_if u n k (chars line) ≡ Some ws → SpellsWords line ws
spelled_if false n k line ws eu en ek e = absurd cc
spelled_if true true k line ws eu en ek e = absurd cc
spelled_if true false true line ws eu en ek e = record { utf8 = IsUtf8-from_is_utf8 line eu; clean = en; words = rw ek (let same : [] ≡ ws = cc in sym same) }
spelled_if true false false line ws eu en ek e = record { utf8 = IsUtf8-from_is_utf8 line eu; clean = en; words = rw ek (read_spelled (chars line) ws en e) }

pub line_spelled : (line : List ℕ) (ws : List Word) → line_words line ≡ Some ws → SpellsWords line ws
line_spelled line ws e = spelled_if (is_utf8 line) (list_any is_control (chars line)) (is_comment (chars line)) line ws refl refl refl e

read_if : (k : Bool) (cs : List ℕ) (ws : List Word) → MatchBool k (ws ≡ []) (Spaced (32 ∷ cs) ws) → line_words_if true false k cs ≡ Some ws
read_if true cs ws h = ap (λ x. Some x) (sym h)
read_if false cs ws h = spelled_read cs ws h

pub spelled_line : (line : List ℕ) (ws : List Word) → SpellsWords line ws → line_words line ≡ Some ws
spelled_line line ws h = rw (is_utf8-from_IsUtf8 line h.utf8, h.clean) (read_if (is_comment (chars line)) (chars line) ws h.words)

not_found : (line : List ℕ) (o : Option (List Word)) → line_words line ≡ o → ((ws : List Word) → SpellsWords line ws → None ≡ Some ws) → None ≡ o
not_found line None e only = refl
not_found line (Some ws) e only = only ws (line_spelled line ws e)

-- what a reader of lines answers, by the two clauses of `words_of`
pub found_words : (line : List ℕ) (found : Option (List Word)) → IfSome found (λ ws. SpellsWords line ws) → ((ws : List Word) → SpellsWords line ws → found ≡ Some ws) → found ≡ line_words line
found_words line (Some ws) spelled only = sym (spelled_line line ws spelled)
found_words line None spelled only = not_found line (line_words line) refl only

-- what was scanned, at a line that is no comment
module _ (line text : List ℕ) (same : text ≡ line) (utf8 : IsUtf8 line) (clean : list_any is_control (chars text) ≡ false) (words : is_comment (chars text) ≡ false) where
  pub scanned : line_words line ≡ read_on (at [] Between) (chars text)
  scanned = rw (← same, is_utf8-from_IsUtf8 text (rw same utf8), clean, words) refl

  pub scanned_spelled : (found : Option (List Word)) → found ≡ read_on (at [] Between) (chars text) → IfSome found (λ ws. SpellsWords line ws)
  scanned_spelled None e = tt
  scanned_spelled (Some ws) e = line_spelled line ws (scanned ∙ sym e)

  pub scanned_only : (found : Option (List Word)) → found ≡ read_on (at [] Between) (chars text) → (ws : List Word) → SpellsWords line ws → found ≡ Some ws
  scanned_only found e ws h = e ∙ sym scanned ∙ spelled_line line ws h
