-- What is read of a script types characters.
use Rattle.std.proofs.Common.{◌≡◌, ℕ, ◌+◌, if◌then◌else◌, List, [], ◌∷◌, ◌++◌, length, Option, Some, None, Ok, Err, IfOk, sym, subst, All}
use Rattle.std.specs.Prelude.{ℤ, nat_le}
use Rattle.std.specs.List.{AllByRecursion}
use Rattle.std.proofs.lemmas.List.Elements.{All-append, All-cons, All-map, All-nil}
use Rattle.tv_declarations.specs.Spelling.Keys.{IsKey}
use Rattle.tv_event.specs.declared.event.Event.TheVariants as events
use Rattle.tv_event.specs.declared.event.Key.{Key}
use Rattle.tv_event.specs.declared.event.Key.TheVariants as keys
use Rattle.tv_machine.proofs.ListLemmas.{bool_cases, option_cases}
use Rattle.tv_machine.specs.declared.script.Item.{Item}
use Rattle.tv_machine.specs.declared.script.Item.TheVariants as items
use Rattle.tv_script.proofs.LineLemmas.{line_read}
use Rattle.tv_script.specs.declared.script_text.ScriptFault.TheVariants.{OffScreen, TooLong}
use Rattle.tv_script.specs.Judging.{Judgement, judged_from, judged_part, judgement}
use Rattle.tv_script.specs.Line.{Line}
use Rattle.tv_script.specs.Line as lines
use Rattle.tv_script.specs.Lines.{IsLine, is_on_screen, item_typed, items_of_line, words_of_line}
use Rattle.tv_script.specs.Reading.Lines.{script_line_in}
use Rattle.tv_script.specs.Reading.Scripts.{ScriptOutcome, bounded, with_bytes, with_found, with_words}
use Rattle.tv_words.specs.declared.word.Word.{Word}
use Rattle.tv_words.specs.Lines.{lines_of}
use Rattle.tv_words.specs.Reading.LineWords.{line_words}
use Rattle.tv_words.proofs.CanonicalLineLemmas.{Stands}
use Rattle.tv_answers.specs.Laws.{IsTyped, KeyTypes}
use Rattle.tv_answers.specs.Scripts.{ReadsTyped}
use Rattle.tv_answers.proofs.CharacterLemmas.{AreChars}
use Rattle.tv_answers.proofs.KeptLemmas.{read_stand}
use Rattle.tv_answers.proofs.SpelledCharLemmas.{quoted_chars}

-- a line of a script types characters, if it types
abbrev LineTypes : Line → Type 0
LineTypes (lines.Key key) = KeyTypes key
LineTypes (lines.Typed text) = AreChars text
LineTypes _ = Unit {0}

key_types : (k : Key) → IsKey k → KeyTypes k
key_types (keys.Char ch) is = absurd is
key_types _ is = tt

line_types : (l : Line) → IsLine l → AllByRecursion Stands (words_of_line l) → LineTypes l
line_types (lines.Key key) is stand = key_types key is
line_types (lines.Typed text) is stand = quoted_chars text stand.1.0
line_types _ is stand = tt

one_item : (item : Item) → IsTyped item → All IsTyped (item ∷ [])
one_item item types = All-cons IsTyped item [] types (All-nil IsTyped)

items_typed : (l : Line) → LineTypes l → All IsTyped (items_of_line l)
items_typed (lines.Key key) types = one_item (items.Event (events.Key key)) types
items_typed (lines.Typed text) types = All-map IsTyped item_typed text types
items_typed (lines.Down p) types = one_item (items.Event (events.Down p)) tt
items_typed (lines.Move p) types = one_item (items.Event (events.Move p)) tt
items_typed (lines.Up p) types = one_item (items.Event (events.Up p)) tt
items_typed lines.Shot types = one_item items.Shot tt
items_typed lines.Colors types = one_item items.Colors tt

module _ (width height : ℤ) where
  abbrev Types : ScriptOutcome → Type 0
  Types r = IfOk r (All IsTyped)

  words_typed : (n : ℕ) (done : List Item) (w : Word) (ws : List Word) → All IsTyped done → AllByRecursion Stands (w ∷ ws) → Types (with_found width height n done (script_line_in (w ∷ ws)))
  words_typed n done w ws all stand =
      option_cases (script_line_in (w ∷ ws)) (λ o. Types (with_found width height n done o)) (λ none. tt)
      (λ l is.
      let read = line_read (w ∷ ws) l is in
      let types : LineTypes l = line_types l read.1 (subst (AllByRecursion Stands) (sym read.0) stand) in
      let longer = done ++ items_of_line l in
      bool_cases (is_on_screen width height l) (λ b. Types (if b then bounded longer else Err (OffScreen n)))
      (λ on. bool_cases (nat_le (length longer) 100000) (λ b. Types (if b then Ok longer else Err TooLong)) (λ few. All-append IsTyped done (items_of_line l) all (items_typed l types)) (λ many. tt))
      (λ off. tt))

  by_words : (n : ℕ) (done : List Item) (ws : List Word) → All IsTyped done → AllByRecursion Stands ws → Types (with_words width height n done (Some ws))
  by_words n done [] all stand = all
  by_words n done (w ∷ ws) all stand = words_typed n done w ws all stand

  bytes_typed : (n : ℕ) (done : List Item) (line : List ℕ) → All IsTyped done → Types (with_bytes width height n done line)
  bytes_typed n done line all =
      option_cases (line_words line) (λ o. Types (with_words width height n done o)) (λ none. tt) (λ ws is. by_words n done ws all (read_stand line (Some ws) is))

  -- a line, before others
  judged_on : (ls : List (List ℕ)) (n : ℕ) (done : List Item) → All IsTyped done → ((longer : List Item) → All IsTyped longer → All IsTyped (judged_from width height (n + 1) longer ls).items)
      → (r : ScriptOutcome) → Types r → All IsTyped (elim r as (λ _. Judgement) [ Err fault ↦ judgement done (Err fault) | Ok longer ↦ judged_from width height (n + 1) longer ls ]).items
  judged_on ls n done all later (Err fault) types = all
  judged_on ls n done all later (Ok longer) types = later longer types

  judged_typed : (ls : List (List ℕ)) (n : ℕ) (done : List Item) → All IsTyped done → All IsTyped (judged_from width height n done ls).items
  judged_typed [] n done all = all
  judged_typed (line ∷ ls) n done all = judged_on ls n done all (judged_typed ls (n + 1)) (with_bytes width height n done line) (bytes_typed n done line all)

pub reads_typed : (text : List ℕ) → ReadsTyped text
reads_typed text width height = judged_typed width height (lines_of (judged_part text)) 1 [] (All-nil IsTyped)
