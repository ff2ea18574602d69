-- A text of a description with a dialog open spells the same, but for the numbers of lines.
use Rattle.std.proofs.Common.{◌≡◌, ℕ, Option, Some, None, List, [], ◌∷◌, ◌++◌, map, ap, sym, subst, refl, ◌∙◌, codes}
use Rattle.std.specs.List.{AllByRecursion}
use Rattle.tv_model.specs.declared.desc.Desc.{Desc}
use Rattle.tv_words.specs.declared.word.Word.{Word}
use Rattle.tv_words.specs.declared.word.Word.TheVariants.{Bare}
use Rattle.tv_words.specs.Canonical.{canonical_text}
use Rattle.tv_words.specs.Fields.{IsName}
use Rattle.tv_words.specs.Lines.{lines_of}
use Rattle.tv_words.specs.Texts.{EachSpells, declarations}
use Rattle.tv_words.specs.Words.{SpellsWords}
use Rattle.tv_words.proofs.CanonicalLineLemmas.{words_stand}
use Rattle.tv_words.proofs.CanonicalTextLemmas.{StandInLine, stand_spelled}
use Rattle.tv_words.proofs.LineWordLemmas.{spelled_line}
use Rattle.tv_declarations.specs.declared.declaration.Declaration.{Declaration}
use Rattle.tv_declarations.specs.CanonicalDescription.{description_text}
use Rattle.tv_declarations.specs.Spelling.{start_declarations, word_lines}
use Rattle.tv_declarations.specs.Spelling.Declarations.{declaration_words}
use Rattle.tv_lang.specs.CanonicalDescription.{CanBeSpelled}
use Rattle.tv_lang.specs.Faults.{SpellsLines}
use Rattle.tv_answers.proofs.EndReadLemmas.{name_stands}

-- a line spells some words once
words_once : (line : List ℕ) (ws others : List Word) → SpellsWords line ws → SpellsWords line others → ws ≡ others
words_once line ws others h k = (let same : Some ws ≡ Some others = sym (spelled_line line ws h) ∙ spelled_line line others k in cc)

each_once : (lines : List (List ℕ)) (wss others : List (List Word)) → EachSpells lines wss → EachSpells lines others → wss ≡ others
each_once [] [] [] h k = refl
each_once [] [] (o ∷ others) h k = absurd k
each_once [] (ws ∷ wss) others h k = absurd h
each_once (l ∷ ls) [] others h k = absurd h
each_once (l ∷ ls) (ws ∷ wss) [] h k = absurd k
each_once (l ∷ ls) (ws ∷ wss) (o ∷ others) h k = rw (words_once l ws o h.0 k.0, each_once ls wss others h.1 k.1) refl

-- what lines spell can stand in lines
each_stands : (lines : List (List ℕ)) (wss : List (List Word)) → EachSpells lines wss → AllByRecursion StandInLine (declarations wss)
each_stands [] [] h = tt
each_stands [] (ws ∷ wss) h = absurd h
each_stands (l ∷ ls) [] h = absurd h
each_stands (l ∷ ls) ([] ∷ wss) h = each_stands ls wss h.1
each_stands (l ∷ ls) ((w ∷ ws) ∷ wss) h = (words_stand l w ws h.0, each_stands ls wss h.1)

-- each of such lines declares something
all_declared : (wss : List (List Word)) → AllByRecursion StandInLine wss → declarations wss ≡ wss
all_declared [] h = refl
all_declared ([] ∷ wss) h = absurd h.0
all_declared ((w ∷ ws) ∷ wss) h = ap (λ x. (w ∷ ws) ∷ x) (all_declared wss h.1)

-- without the line that opens a dialog, the others stand as well
stands_after : (start : Option (List ℕ)) (ds : List Declaration) → AllByRecursion StandInLine (map declaration_words (start_declarations start ++ ds)) → AllByRecursion StandInLine (map declaration_words ds)
stands_after None ds h = h
stands_after (Some name) ds h = h.1

-- the line that opens the dialog of a name
start_stands : (name : List ℕ) → IsName name → StandInLine (Bare (codes "start") ∷ Bare name ∷ [])
start_stands name is = ((name_stands (codes "start") refl, (name_stands name is, tt)), refl)

pub begun_alike : (d : Desc) (name : List ℕ) (e : Desc) → CanBeSpelled d → IsName name
    → SpellsLines (lines_of (description_text (record d { start = Some name }))) e → description_text e ≡ description_text (record d { start = Some name })
begun_alike d name e can is h =
    let begun = record d { start = Some name } in
    let old : AllByRecursion StandInLine (word_lines d) = subst (AllByRecursion StandInLine) can.1.declared (each_stands (lines_of can.0) can.1.words can.1.each) in
    let stand : AllByRecursion StandInLine (word_lines begun) = (old.0, (old.1.0, (start_stands name is, stands_after d.start _ old.1.1))) in
    let words : h.words ≡ word_lines begun = each_once (lines_of (description_text begun)) h.words (word_lines begun) h.each (stand_spelled (word_lines begun) stand) in
    let same : word_lines e ≡ word_lines begun = sym h.declared ∙ ap declarations words ∙ all_declared (word_lines begun) stand in
    ap canonical_text same
