-- The place of a line is where the text spells it.
use Rattle.std.proofs.Common.{◌≡◌, ℕ, zero, suc, ◌+◌, ◌<◌, ◌≤◌, List, [], ◌∷◌, ◌++◌, length, Option, Some, refl, sym, ap, ◌∙◌, arith}
use Rattle.std.specs.Prelude.{Bool, IfSome, slice_get, slice_index, if◌then◌else◌}
use Rattle.tv_model.specs.declared.desc.Desc.{Desc}
use Rattle.tv_words.specs.Lines.{lines_of}
use Rattle.tv_words.specs.Texts.{EachSpells, declarations}
use Rattle.tv_words.specs.Words.{SpellsWords}
use Rattle.tv_words.specs.declared.word.Word.{Word}
use Rattle.tv_words.proofs.LineWordLemmas.{found_words, spelled_line}
use Rattle.tv_declarations.specs.Spelling.{word_lines}
use Rattle.tv_lang.specs.Faults.{Spells}
use Rattle.tv_explain.specs.Places.{SpellsAt, are_words, place, said, said_from, says_something}

-- what is found in a line says whether it says something
pub says_found : (line : List ℕ) (found : Option (List Word)) → IfSome found (λ ws. SpellsWords line ws) → ((ws : List Word) → SpellsWords line ws → found ≡ Some ws) → are_words found ≡ says_something line
says_found line found spelled only = ap are_words (found_words line found spelled only)

-- the k-th of the declarations is spelled by one of the lines, whose number is the k-th of those that say something
record IsSaid (n k : ℕ) (lines : List (List ℕ)) (wss : List (List Word)) : Type 0 where
  index : ℕ
  own : List ℕ
  words : List Word
  number : slice_index (said_from n lines) k ≡ n + index
  stands : slice_get lines index ≡ Some own
  declared : slice_get (declarations wss) k ≡ Some words
  spelled : SpellsWords own words

said_none : (n : ℕ) (line : List ℕ) → SpellsWords line [] → said n line ≡ []
said_none n line spelled = ap (λ (b : Bool). if b then n ∷ [] else []) (ap are_words (spelled_line line [] spelled))

said_some : (n : ℕ) (line : List ℕ) (w : Word) (ws : List Word) → SpellsWords line (w ∷ ws) → said n line ≡ n ∷ []
said_some n line w ws spelled = ap (λ (b : Bool). if b then n ∷ [] else []) (ap are_words (spelled_line line (w ∷ ws) spelled))

said_at : (n k : ℕ) (lines : List (List ℕ)) (wss : List (List Word)) → EachSpells lines wss → k < length (declarations wss) → IsSaid n k lines wss
said_at n k [] [] each less = absurd (omega arith)
said_at n k [] (ws ∷ wss) each less = absurd each
said_at n k (line ∷ lines) [] each less = absurd each
said_at n k (line ∷ lines) ([] ∷ wss) each less =
    let rest = said_at (n + 1) k lines wss each.1 less in
    let later : n + 1 + rest.index ≡ n + suc rest.index = omega arith in
    record {
      index = suc rest.index;
      own = rest.own;
      words = rest.words;
      number = ap (λ (numbers : List ℕ). slice_index (numbers ++ said_from (n + 1) lines) k) (said_none n line each.0) ∙ rest.number ∙ later;
      stands = rest.stands;
      declared = rest.declared;
      spelled = rest.spelled;
    }
said_at n zero (line ∷ lines) ((w ∷ ws) ∷ wss) each less =
    let here : n ≡ n + 0 = omega arith in
    record {
      index = 0;
      own = line;
      words = w ∷ ws;
      number = ap (λ (numbers : List ℕ). slice_index (numbers ++ said_from (n + 1) lines) zero) (said_some n line w ws each.0) ∙ here;
      stands = refl;
      declared = refl;
      spelled = each.0;
    }
said_at n (suc k) (line ∷ lines) ((w ∷ ws) ∷ wss) each less =
    let less_than : k < length (declarations wss) = omega arith in
    let rest = said_at (n + 1) k lines wss each.1 less_than in
    let later : n + 1 + rest.index ≡ n + suc rest.index = omega arith in
    record {
      index = suc rest.index;
      own = rest.own;
      words = rest.words;
      number = ap (λ (numbers : List ℕ). slice_index (numbers ++ said_from (n + 1) lines) (suc k)) (said_some n line w ws each.0) ∙ rest.number ∙ later;
      stands = rest.stands;
      declared = rest.declared;
      spelled = rest.spelled;
    }

-- each line of the canonical text is spelled where its place says
pub is_placed : (text : List ℕ) (d : Desc) → Spells text d → (line : ℕ) → 0 < line → line ≤ length (word_lines d) → SpellsAt text d line (place text line)
unfolding place
is_placed text d spelled zero low high = absurd (omega arith)
is_placed text d spelled (suc k) low high =
    let lines = lines_of text in
    let less : k < length (declarations spelled.lines.words) = omega (arith, ap (λ (wss : List (List Word)). length wss) spelled.lines.declared) in
    let found = said_at 1 k lines spelled.lines.words spelled.lines.each less in
    let index : 1 + found.index ≡ suc found.index = omega arith in
    record {
      own = found.own;
      words = found.words;
      stands = ap (slice_get ([] ∷ lines)) (found.number ∙ index) ∙ found.stands;
      declared = ap (λ (wss : List (List Word)). slice_get wss k) (sym spelled.lines.declared) ∙ found.declared;
      spelled = found.spelled;
    }
