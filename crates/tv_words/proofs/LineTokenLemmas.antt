-- The tokens of a line are its words.
use Rattle.std.proofs.Common.{◌≡◌, ℕ, ◌≤◌, Bool, true, false, cond, List, [], ◌∷◌, ◌++◌, length, nat_le, Option, Some, None, option_and_then, option_to_list, IfSome, IsUtf8, chars, refl, sym, ap, ◌∙◌, inl, inr, append_assoc, arith}
use Rattle.std.specs.Option.{option_map}
use Rattle.std.specs.List.{list_any}
use Rattle.std.specs.Char.{is_control}
use Rattle.std.specs.Str.{is_utf8}
use Rattle.std.proofs.lemmas.Str.{is_utf8-from_IsUtf8, IsUtf8-from_is_utf8}
use Rattle.std.proofs.lemmas.Bool.Decides.{nat_tests}
use Rattle.std.proofs.lemmas.List.{append-nil}
use Rattle.tv_words.specs.declared.scan.Mode.{Mode}
use Rattle.tv_words.specs.declared.scan.Mode.TheVariants.{Between, InBare, InQuoted, InEscape, Closed}
use Rattle.tv_words.specs.declared.tokens.Place.{Place}
use Rattle.tv_words.specs.declared.tokens.Place.TheVariants as places
use Rattle.tv_words.specs.declared.word.Word.{Word}
use Rattle.tv_words.specs.declared.word.Word.TheVariants.{Bare, Quoted}
use Rattle.tv_words.specs.TokenTexts.{bare_text, text_from}
use Rattle.tv_words.specs.declared.tokens.Tokens.{Tokens}
use Rattle.tv_words.specs.Words.{is_comment, SpellsWords}
use Rattle.tv_words.specs.Tokens.{at_most_three, words_in}
use Rattle.tv_words.specs.Reading.LineWords.{line_words}
use Rattle.tv_words.specs.Reading.LineTokens.{next_place, word_begun, words_from, few_after}
use Rattle.tv_words.specs.Reading.Scan.{at, read_on, take_char}
use Rattle.tv_words.proofs.LineWordLemmas.{line_spelled, spelled_line, scanned}
use Rattle.tv_words.proofs.WordLemmas.{is_or_not}

-- ---- reading on by the places gives what reading on by the modes does

-- the place of a mode
abbrev place_of : Mode → Place
place_of Between = places.Between
place_of (InBare t) = places.InBare
place_of (InQuoted t) = places.InQuoted
place_of (InEscape t) = places.InEscape
place_of Closed = places.Closed

-- the word that a mode leaves open, whole
abbrev left_open : Mode → List ℕ → List Word
left_open Between cs = []
left_open (InBare t) cs = Bare (t ++ bare_text cs) ∷ []
left_open (InQuoted t) cs = Quoted (t ++ text_from false cs) ∷ []
left_open (InEscape t) cs = Quoted (t ++ text_from true cs) ∷ []
left_open Closed cs = []

-- the words before the ones that begin from here on
abbrev begun : List Word → Mode → List ℕ → List Word
begun ws m cs = ws ++ left_open m cs

abbrev after : List Word → Place → List ℕ → Option (List Word)
after ws p cs = option_map (λ more. ws ++ more) (words_from p cs)

joined : (ws us : List Word) (o : Option (List Word)) → option_map (λ more. (ws ++ us) ++ more) o ≡ option_map (λ more. ws ++ more) (option_map (λ more. us ++ more) o)
joined ws us None = refl
joined ws us (Some more) = ap (λ x. Some x) (append_assoc ws us more)

-- one character further
further : (ws ws' : List Word) (p q : Place) (c : ℕ) (cs : List ℕ) → next_place p c ≡ Some q → ws' ≡ ws ++ option_to_list (word_begun p c cs) → after ws' q cs ≡ after ws p (c ∷ cs)
further ws ws' p q c cs next same = rw (next, same) (joined ws (option_to_list (word_begun p c cs)) (words_from q cs))

module _ (c : ℕ) (cs : List ℕ) (later : (m : Mode) (ws : List Word) → read_on (at ws m) cs ≡ after (begun ws m cs) (place_of m) cs) (ws : List Word) where
  goes : (m n : Mode) (vs : List Word) → take_char (at ws m) c ≡ Some (at vs n) → next_place (place_of m) c ≡ Some (place_of n) → begun vs n cs ≡ begun ws m (c ∷ cs) ++ option_to_list (word_begun (place_of m) c cs) → read_on (at ws m) (c ∷ cs) ≡ after (begun ws m (c ∷ cs)) (place_of m) (c ∷ cs)
  goes m n vs took next same =
      let first : read_on (at ws m) (c ∷ cs) ≡ read_on (at vs n) cs = rw took refl in
      first ∙ later n vs ∙ further (begun ws m (c ∷ cs)) (begun vs n cs) (place_of m) (place_of n) c cs next same

  stops : (m : Mode) → take_char (at ws m) c ≡ None → next_place (place_of m) c ≡ None → read_on (at ws m) (c ∷ cs) ≡ after (begun ws m (c ∷ cs)) (place_of m) (c ∷ cs)
  stops m took next = rw (took, next) refl

  -- a text gets one character more
  quoted_more : (t : List ℕ) (d : ℕ) → begun ws (InQuoted (t ++ d ∷ [])) cs ≡ (ws ++ Quoted (t ++ d ∷ text_from false cs) ∷ []) ++ []
  quoted_more t d = ap (λ x. ws ++ Quoted x ∷ []) (append_assoc t (d ∷ []) (text_from false cs)) ∙ sym (append-nil (ws ++ Quoted (t ++ d ∷ text_from false cs) ∷ []))

  one_more : (m : Mode) → read_on (at ws m) (c ∷ cs) ≡ after (begun ws m (c ∷ cs)) (place_of m) (c ∷ cs)
  one_more Between = elim (is_or_not c 32) [
    | inl same ↦ goes Between Between ws (rw same refl) (rw same refl) (rw same (sym (append-nil (ws ++ []))))
    | inr a ↦ elim (is_or_not c 34) [
      | inl same ↦ goes Between (InQuoted []) ws (rw same refl) (rw same refl) (rw same (sym (append_assoc ws [] (Quoted (text_from false cs) ∷ []))))
      | inr b ↦ goes Between (InBare (c ∷ [])) ws (rw (a, b) refl) (rw (a, b) refl) (rw (a, b) (sym (append_assoc ws [] (Bare (c ∷ bare_text cs) ∷ []))))
    ]
  ]
  one_more (InBare t) = elim (is_or_not c 32) [
    | inl same ↦ goes (InBare t) Between (ws ++ Bare t ∷ []) (rw same refl) (rw same refl) (rw same (ap (λ x. (ws ++ Bare x ∷ []) ++ []) (sym (append-nil t))))
    | inr a ↦ elim (is_or_not c 34) [
      | inl same ↦ stops (InBare t) (rw same refl) (rw same refl)
      | inr b ↦ goes (InBare t) (InBare (t ++ c ∷ [])) ws (rw (a, b) refl) (rw (a, b) refl) (rw (a, b) (ap (λ x. ws ++ Bare x ∷ []) (append_assoc t (c ∷ []) (bare_text cs)) ∙ sym (append-nil (ws ++ Bare (t ++ c ∷ bare_text cs) ∷ []))))
    ]
  ]
  one_more (InQuoted t) = elim (is_or_not c 34) [
    | inl same ↦ goes (InQuoted t) Closed (ws ++ Quoted t ∷ []) (rw same refl) (rw same refl) (rw same (ap (λ x. (ws ++ Quoted x ∷ []) ++ []) (sym (append-nil t))))
    | inr a ↦ elim (is_or_not c 92) [
      | inl same ↦ goes (InQuoted t) (InEscape t) ws (rw same refl) (rw same refl) (rw same (sym (append-nil (ws ++ Quoted (t ++ text_from true cs) ∷ []))))
      | inr b ↦ goes (InQuoted t) (InQuoted (t ++ c ∷ [])) ws (rw (a, b) refl) (rw (a, b) refl) (rw (a, b) (quoted_more t c))
    ]
  ]
  one_more (InEscape t) = elim (is_or_not c 34) [
    | inl same ↦ goes (InEscape t) (InQuoted (t ++ 34 ∷ [])) ws (rw same refl) (rw same refl) (rw same (quoted_more t 34))
    | inr a ↦ elim (is_or_not c 92) [
      | inl same ↦ goes (InEscape t) (InQuoted (t ++ 92 ∷ [])) ws (rw same refl) (rw same refl) (rw same (quoted_more t 92))
      | inr b ↦ elim (is_or_not c 110) [
        | inl same ↦ goes (InEscape t) (InQuoted (t ++ 10 ∷ [])) ws (rw same refl) (rw same refl) (rw same (quoted_more t 10))
        | inr d ↦ stops (InEscape t) (rw (a, b, d) refl) (rw (a, b, d) refl)
      ]
    ]
  ]
  one_more Closed = elim (is_or_not c 32) [
    | inl same ↦ goes Closed Between ws (rw same refl) (rw same refl) (sym (append-nil (ws ++ [])))
    | inr a ↦ stops Closed (rw a refl) (rw a refl)
  ]

same_words : (cs : List ℕ) (m : Mode) (ws : List Word) → read_on (at ws m) cs ≡ after (begun ws m cs) (place_of m) cs
same_words [] Between ws = ap (λ x. Some x) (sym (append-nil (ws ++ []) ∙ append-nil ws))
same_words [] (InBare t) ws = ap (λ x. Some x) (ap (λ x. ws ++ Bare x ∷ []) (sym (append-nil t)) ∙ sym (append-nil (ws ++ Bare (t ++ []) ∷ [])))
same_words [] (InQuoted t) ws = refl
same_words [] (InEscape t) ws = refl
same_words [] Closed ws = ap (λ x. Some x) (sym (append-nil (ws ++ []) ∙ append-nil ws))
same_words (c ∷ cs) m ws = one_more c cs (same_words cs) ws m

few_same : (cs : List ℕ) → few_after [] places.Between cs ≡ option_and_then at_most_three (read_on (at [] Between) cs)
few_same cs = ap (option_and_then at_most_three) (sym (same_words cs Between []))

-- ---- the words of the line

kept : (b : Bool) (vs ws : List Word) → cond b (Some vs) None ≡ Some ws → Some vs ≡ Some ws
kept true vs ws e = e
kept false vs ws e = absurd cc

-- what is left by the bound is what there was
pub few_is : (o : Option (List Word)) (ws : List Word) → option_and_then at_most_three o ≡ Some ws → o ≡ Some ws
few_is None ws e = absurd cc
few_is (Some vs) ws e = kept (nat_le (length vs) 3) vs ws e

-- no more than three words that the line spells
pub tokens_spelled : (line : List ℕ) (found : Option Tokens) → option_map words_in found ≡ option_and_then at_most_three (line_words line) → IfSome found (λ tokens. SpellsWords line (words_in tokens))
tokens_spelled line None e = tt
tokens_spelled line (Some tokens) e = line_spelled line (words_in tokens) (few_is (line_words line) (words_in tokens) (sym e))

pub tokens_only : (line : List ℕ) (found : Option Tokens) → option_map words_in found ≡ option_and_then at_most_three (line_words line) → (ws : List Word) → SpellsWords line ws → length ws ≤ 3 → option_map words_in found ≡ Some ws
tokens_only line found e ws h few =
    let fits : nat_le (length ws) 3 ≡ true = grind (arith, nat_tests, few) in
    e ∙ ap (option_and_then at_most_three) (spelled_line line ws h) ∙ rw fits refl

-- what was scanned, at a line that is no comment
pub scanned_few : (line text : List ℕ) → text ≡ line → IsUtf8 line → list_any is_control (chars text) ≡ false → is_comment (chars text) ≡ false → few_after [] places.Between (chars text) ≡ option_and_then at_most_three (line_words line)
scanned_few line text same utf8 clean words = few_same (chars text) ∙ ap (option_and_then at_most_three) (sym (scanned line text same utf8 clean words))

-- a comment
pub comment_few : (line text : List ℕ) → text ≡ line → IsUtf8 line → list_any is_control (chars text) ≡ false → is_comment (chars text) ≡ true → Some [] ≡ option_and_then at_most_three (line_words line)
comment_few line text same utf8 clean words = rw (← same, is_utf8-from_IsUtf8 text (rw same utf8), clean, words) refl

few_if : (b : Bool) (line : List ℕ) → is_utf8 line ≡ b → (IsUtf8 line → ⊥) → None ≡ option_and_then at_most_three (line_words line)
few_if true line e none = absurd (none (IsUtf8-from_is_utf8 line e))
few_if false line e none = rw e refl

-- bytes that are no UTF-8
pub no_text_few : (line : List ℕ) → (IsUtf8 line → ⊥) → None ≡ option_and_then at_most_three (line_words line)
no_text_few line none = few_if (is_utf8 line) line refl none
