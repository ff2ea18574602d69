-- The lines of an end are read as that end and its fields.
use lib.Utf8.{encode}
use Rattle.std.proofs.Common.{◌≡◌, ℕ, zero, suc, ◌+◌, ◌==◌, ◌&&◌, ◌||◌, Bool, true, false, List, [], ◌∷◌, ◌++◌, map, replicate, find, chars, encode_utf8_all, Some, None, refl, sym, ap, ◌∙◌, All}
use Rattle.std.specs.Prelude.{MatchBool, codes, option_and_then, position, slice_get, if◌then◌else◌}
use Rattle.std.specs.Option.{option_map_or}
use Rattle.std.specs.List.{AllByRecursion}
use Rattle.std.proofs.lemmas.Bool.{eqb-true, false≢true}
use Rattle.std.proofs.lemmas.List.Elements.{All-head, All-tail}
use Rattle.std.proofs.lemmas.Str.{encodes-chars}
use Rattle.tv_event.specs.declared.event.Command.{Command}
use Rattle.tv_machine.proofs.ListLemmas.{bool_cases}
use Rattle.tv_machine.specs.Dialog.Ending.{field_line}
use Rattle.tv_model.specs.declared.command.Ends.{Ends}
use Rattle.tv_model.specs.declared.desc.Desc.{Desc}
use Rattle.tv_model.specs.declared.desc.Dialog.{Dialog}
use Rattle.tv_model.specs.declared.node.Id.{Id}
use Rattle.tv_model.specs.declared.node.Node.{Node}
use Rattle.tv_model.specs.declared.record.Entry.{Entry}
use Rattle.tv_model.specs.Description.Commands.{is_end}
use Rattle.tv_model.specs.Description.Heads.{all_nodes, dialog_head, is_named}
use Rattle.tv_model.specs.Description.Nodes.{node_of}
use Rattle.tv_model.specs.Log.LogText.{end_word, log_text, name_of_node}
use Rattle.tv_model.specs.Log.Record.{Entries}
use Rattle.tv_laws.specs.Records.{end_lines}
use Rattle.tv_words.specs.declared.word.Word.{Word}
use Rattle.tv_words.specs.declared.word.Word.TheVariants.{Bare, Quoted}
use Rattle.tv_words.specs.Canonical.{canonical_text, ended_line}
use Rattle.tv_words.specs.Fields.{IsName, name_in}
use Rattle.tv_words.specs.Lines.{lines_of}
use Rattle.tv_words.specs.Reading.LineWords.{line_taken, words_taken}
use Rattle.tv_words.specs.Texts.{EachSpells}
use Rattle.tv_words.specs.Words.{Spaced, SpellsWords, is_comment}
use Rattle.tv_words.proofs.CanonicalTextLemmas.{StandInLine, stand_spelled}
use Rattle.tv_words.proofs.FieldLemmas.{read_name}
use Rattle.tv_words.proofs.LineWordLemmas.{spelled_line}
use Rattle.tv_answers.specs.declared.answers.Answers.{Answers}
use Rattle.tv_answers.specs.declared.misfit.MisfitKind.TheVariants.{NoDialog, NoEnd, NoField, NoValue}
use Rattle.tv_answers.specs.declared.progress.Progress.{Progress}
use Rattle.tv_answers.specs.declared.progress.Block.TheVariants.{Saved}
use Rattle.tv_answers.specs.FieldValues.{value_for}
use Rattle.tv_answers.specs.LogLines.{command_in, is_row, is_value}
use Rattle.tv_answers.specs.ReadLogs.{end_taken, ended_at, ended_by, field_in_block, field_taken, is_field_named, line_answered, lines_answered, named_valued, passed, valued, with_entry, with_misfit, words_answered}
use Rattle.tv_answers.proofs.LogTextLemmas.{CanBeLogged, end_bytes, field_bytes, value_words}
use Rattle.tv_answers.proofs.PutLemmas.{entered}

-- ---- lines of words that begin with a letter

-- a line that begins so is no row of a screen
abbrev pub BeginsNoRow : List Word → Type 0
BeginsNoRow (Bare (c ∷ cs) ∷ ws) = (xs : List ℕ) → is_row (encode_utf8_all (c ∷ xs)) ≡ false
BeginsNoRow _ = ⊥

spaced_if : (k : Bool) (cs : List ℕ) (w : Word) (ws : List Word) → MatchBool k (w ∷ ws ≡ []) (Spaced (32 ∷ cs) (w ∷ ws)) → Spaced (32 ∷ cs) (w ∷ ws)
spaced_if true cs w ws h = absurd cc
spaced_if false cs w ws h = h

row_after : (n : ℕ) (c : ℕ) (xs : List ℕ) → ((ys : List ℕ) → is_row (encode_utf8_all (c ∷ ys)) ≡ false) → is_row (encode_utf8_all (replicate n 32 ++ c ∷ xs)) ≡ false
unfolding encode
row_after zero c xs begins = begins xs
row_after (suc n) c xs begins = refl

no_row : (line : List ℕ) (ws : List Word) → SpellsWords line ws → BeginsNoRow ws → is_row line ≡ false
no_row line [] spells begins = absurd begins
no_row line (Quoted text ∷ ws) spells begins = absurd begins
no_row line (Bare [] ∷ ws) spells begins = absurd begins
no_row line (Bare (c ∷ cs) ∷ ws) spells begins =
    let spaced = spaced_if (is_comment (chars line)) (chars line) (Bare (c ∷ cs)) ws spells.words in
    let are : chars line ≡ replicate spaced.0 32 ++ ((c ∷ cs) ++ spaced.1) = cc spaced.2 in
    ap is_row (sym (encodes-chars line spells.utf8) ∙ ap encode_utf8_all are) ∙ row_after spaced.0 c (cs ++ spaced.1) begins

line_read : (d : Desc) (n : ℕ) (p : Progress) (line : List ℕ) (ws : List Word) → SpellsWords line ws → BeginsNoRow ws → line_answered d n p line ≡ words_answered d n p ws
line_read d n p line [] spells begins = absurd begins
line_read d n p line (w ∷ ws) spells begins =
    ap (λ b. if b then Some p else line_taken (words_answered d n) p line) (no_row line (w ∷ ws) spells begins)
    ∙ ap (words_taken (words_answered d n) p) (spelled_line line (w ∷ ws) spells)

-- ---- lines, one after the other

-- the words can stand in a line that is no row, and take the one state to the other
pub record IsLine (d : Desc) (n : ℕ) (p q : Progress) (ws : List Word) : Type 0 where
  pub stands : StandInLine ws
  pub begins : BeginsNoRow ws
  pub read : words_answered d n p ws ≡ Some q

-- lines of words from the number n on
abbrev pub AreLines : Desc → ℕ → Progress → List (List Word) → Progress → Type 0
AreLines d n p [] q = p ≡ q
AreLines d n p (ws ∷ wss) q = (next : Progress) × IsLine d n p next ws × AreLines d (n + 1) next wss q

all_stand : (d : Desc) (n : ℕ) (p q : Progress) (wss : List (List Word)) → AreLines d n p wss q → AllByRecursion StandInLine wss
all_stand d n p q [] are = tt
all_stand d n p q (ws ∷ wss) are = (are.1.stands, all_stand d (n + 1) are.0 q wss are.2)

lines_read : (d : Desc) (n : ℕ) (p q : Progress) (lines : List (List ℕ)) (wss : List (List Word)) → EachSpells lines wss → AreLines d n p wss q → lines_answered d n p lines ≡ Some q
lines_read d n p q [] [] spells are = ap (λ x. Some x) are
lines_read d n p q [] (ws ∷ wss) spells are = absurd spells
lines_read d n p q (line ∷ lines) [] spells are = absurd spells
lines_read d n p q (line ∷ lines) (ws ∷ wss) spells are =
    ap (option_and_then (λ further. lines_answered d (n + 1) further lines)) (line_read d n p line ws spells.0 are.1.begins ∙ are.1.read)
    ∙ lines_read d (n + 1) are.0 q lines wss spells.1 are.2

pub text_read : (d : Desc) (n : ℕ) (p q : Progress) (wss : List (List Word)) → AreLines d n p wss q → lines_answered d n p (lines_of (canonical_text wss)) ≡ Some q
text_read d n p q wss are = lines_read d n p q (lines_of (canonical_text wss)) wss (stand_spelled wss (all_stand d n p q wss are)) are

-- ---- the words of an end and of fields

-- the name that a log has of the node of an id
abbrev pub logged_name : Desc → Id → List ℕ
logged_name d i = name_of_node (node_of (all_nodes d) i)

abbrev pub end_words : Desc → Id → ℕ → List Word
end_words d i number = Bare (codes "end") ∷ Bare (logged_name d i) ∷ Bare (end_word number) ∷ []

abbrev pub field_words : Desc → Entry → List Word
field_words d e = Bare (codes "field") ∷ Bare (logged_name d e.id) ∷ value_words e.value

fields_text : (d : Desc) (es : Entries) → All (λ e. CanBeLogged e.value) es → log_text d (map field_line es) ≡ canonical_text (map (field_words d) es)
fields_text d [] can = refl
fields_text d (e ∷ es) can =
    ap (λ bs. bs ++ log_text d (map field_line es)) (field_bytes (logged_name d e.id) e.value (All-head (λ (x : Entry). CanBeLogged x.value) e es can))
    ∙ ap (λ bs. ended_line (field_words d e) ++ bs) (fields_text d es (All-tail (λ (x : Entry). CanBeLogged x.value) e es can))

pub end_text : (d : Desc) (dialog : Dialog) (number : ℕ) (es : Entries) → All (λ e. CanBeLogged e.value) es
    → log_text d (end_lines dialog number es) ≡ canonical_text (end_words d dialog.node.id number ∷ map (field_words d) es)
end_text d dialog number es can =
    ap (λ bs. bs ++ log_text d (map field_line es)) (end_bytes (logged_name d dialog.node.id) number)
    ∙ ap (λ bs. ended_line (end_words d dialog.node.id number) ++ bs) (fields_text d es can)

-- ---- an end

command_read : (ends : Ends) (number : ℕ) → is_end ends number ≡ true → command_in (Bare (end_word number) ∷ []) ≡ Some (record { 0 = number })
command_read ends number is =
    bool_cases (number == 10) (λ b. number == 10 ≡ b → command_in (Bare (end_word number) ∷ []) ≡ Some (record { 0 = number })) (λ t e. rw (eqb-true number 10 e) refl)
    (λ f no_ok. bool_cases (number == 11) (λ b. number == 11 ≡ b → command_in (Bare (end_word number) ∷ []) ≡ Some (record { 0 = number })) (λ t e. rw (eqb-true number 11 e) refl)
    (λ g no_cancel. bool_cases (number == 12) (λ b. number == 12 ≡ b → command_in (Bare (end_word number) ∷ []) ≡ Some (record { 0 = number })) (λ t e. rw (eqb-true number 12 e) refl)
    (λ h no_yes. bool_cases (number == 13) (λ b. number == 13 ≡ b → command_in (Bare (end_word number) ∷ []) ≡ Some (record { 0 = number })) (λ t e. rw (eqb-true number 13 e) refl)
    (λ i not_no. absurd (false≢true (sym (none (number == 10) (number == 11) (number == 12) (number == 13) no_ok no_cancel no_yes not_no) ∙ is))) refl) refl) refl) refl
  where
    none : (a b c d : Bool) → a ≡ false → b ≡ false → c ≡ false → d ≡ false → ((b && ends.cancel) || ((a && ends.ok) || ((c && ends.yes) || (d && ends.no)))) ≡ false
    none a b c d ea eb ec ed = rw (ea, eb, ec, ed) refl

module _ (d : Desc) (n : ℕ) (a : Answers) (place : ℕ) (dialog : Dialog) (there : slice_get d.dialogs place ≡ Some dialog) where
  -- the dialog of the name ended by a command that it has
  pub end_read : (name : List ℕ) (number : ℕ) → IsName name → position (is_named name) d.dialogs ≡ Some place → is_end (dialog_head dialog).ends number ≡ true
      → end_taken d n a (name_in (Bare name)) (command_in (Bare (end_word number) ∷ [])) ≡ Some (ended_by place (record { 0 = number }) a)
  end_read name number is found has =
      let command : Command = record { 0 = number } in
      ap (λ o. end_taken d n a o (command_in (Bare (end_word number) ∷ []))) (read_name name is)
      ∙ ap (end_taken d n a (Some name)) (command_read (dialog_head dialog).ends number has)
      ∙ ap (λ o. Some (elim o as (λ _. Progress) [ None ↦ passed (with_misfit n (NoDialog name) a) | Some at ↦ ended_at d n a name command at ])) found
      ∙ ap (λ b. Some (if b then ended_by place command a else passed (with_misfit n (NoEnd name command) a)))
      (ap (λ o. option_map_or (λ (x : Dialog). is_end (dialog_head x).ends number) o false) there ∙ has)

-- ---- a field

-- an entry that is read of its line
pub record IsReadEntry (d : Desc) (dialog : Dialog) (e : Entry) : Type 0 where
  pub view : Node
  pub id : view.id ≡ e.id
  pub name : IsName (logged_name d e.id)
  pub found : find (is_field_named (logged_name d e.id)) dialog.views ≡ Some view
  pub read : value_for view.kind (value_words e.value) ≡ Some e.value
  pub value : is_value (value_words e.value) ≡ true
  pub stands : StandInLine (field_words d e)

module _ (d : Desc) (n : ℕ) (place : ℕ) (dialog : Dialog) (there : slice_get d.dialogs place ≡ Some dialog) (e : Entry) (x : IsReadEntry d dialog e) where
  -- in any block
  taken : (p : Progress) → words_answered d n p (field_words d e) ≡ field_in_block d n p p.block (logged_name d e.id) (value_words e.value)
  taken p =
      ap (λ o. field_taken d n p o (value_words e.value)) (read_name (logged_name d e.id) x.name)
      ∙ ap (λ b. if b then field_in_block d n p p.block (logged_name d e.id) (value_words e.value) else None) x.value

  pub saved_read : (a : Answers) → words_answered d n (record { answers = a; block = Saved place }) (field_words d e) ≡ Some (record { answers = with_entry place e.id e.value a; block = Saved place })
  saved_read a =
      let name = logged_name d e.id in
      let ws = value_words e.value in
      let saved : Answers → Progress = λ answers. record { answers = answers; block = Saved place } in
      taken (saved a)
      ∙ ap (λ o. Some (saved (elim o as (λ _. Answers) [ None ↦ a | Some own ↦ named_valued n place own name ws a ]))) there
      ∙ ap (λ o. Some (saved (elim o as (λ _. Answers) [ None ↦ with_misfit n (NoField (dialog_head dialog).name name) a | Some view ↦ valued n place dialog view name ws a ]))) x.found
      ∙ ap (λ o. Some (saved (elim o as (λ _. Answers) [ None ↦ with_misfit n (NoValue (dialog_head dialog).name name) a | Some value ↦ with_entry place x.view.id value a ]))) x.read
      ∙ ap (λ i. Some (saved (with_entry place i e.value a))) x.id

  pub passed_read : (a : Answers) → words_answered d n (passed a) (field_words d e) ≡ Some (passed a)
  passed_read a = taken (passed a)

-- ---- all fields

module _ (d : Desc) (place : ℕ) (dialog : Dialog) (there : slice_get d.dialogs place ≡ Some dialog) where
  begins_field : (e : Entry) → BeginsNoRow (field_words d e)
  unfolding encode
  begins_field e = λ xs. refl

  pub fields_saved : (n : ℕ) (es : Entries) (a : Answers) → All (IsReadEntry d dialog) es
      → AreLines d n (record { answers = a; block = Saved place }) (map (field_words d) es) (record { answers = entered place es a; block = Saved place })
  fields_saved n [] a all = refl
  fields_saved n (e ∷ es) a all =
      let x = All-head (IsReadEntry d dialog) e es all in (
        record { answers = with_entry place e.id e.value a; block = Saved place },
        record { stands = x.stands; begins = begins_field e; read = saved_read d n place dialog there e x a },
        fields_saved (n + 1) es (with_entry place e.id e.value a) (All-tail (IsReadEntry d dialog) e es all),
      )

  pub fields_passed : (n : ℕ) (es : Entries) (a : Answers) → All (IsReadEntry d dialog) es → AreLines d n (passed a) (map (field_words d) es) (passed a)
  fields_passed n [] a all = refl
  fields_passed n (e ∷ es) a all =
      let x = All-head (IsReadEntry d dialog) e es all in (
        passed a,
        record { stands = x.stands; begins = begins_field e; read = passed_read d n place dialog there e x a },
        fields_passed (n + 1) es a (All-tail (IsReadEntry d dialog) e es all),
      )
