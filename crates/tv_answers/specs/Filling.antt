-- A description whose fields begin with answers.
use Rattle.std.specs.Prelude.{ℕ, pos, List, [], ◌∷◌, map, filter, Option, Some, None}
use Rattle.std.specs.List.{AllByRecursion, range_with_len}
use Rattle.tv_model.specs.declared.desc.Desc.{Desc}
use Rattle.tv_model.specs.declared.desc.Dialog.{Dialog}
use Rattle.tv_model.specs.declared.kind.Kind.{Kind}
use Rattle.tv_model.specs.declared.kind.Kind.TheVariants as kinds
use Rattle.tv_model.specs.declared.node.Node.{Node}
use Rattle.tv_model.specs.declared.record.Value.{Value}
use Rattle.tv_model.specs.declared.record.Value.TheVariants as values
use Rattle.tv_model.specs.Log.LogText.{has_bit}
use Rattle.tv_model.specs.Log.Record.{Entries, value_of}
use Rattle.tv_words.specs.declared.word.Word.TheVariants.{Quoted}
use Rattle.tv_words.specs.Fields.{IsNumber}
use Rattle.tv_words.specs.Words.{SpellsWords}
use Rattle.tv_answers.specs.declared.answers.Answers.{Answers}
use Rattle.tv_answers.specs.declared.answers.Answer.{Answer}

-- the kind, with a field that begins with the value; a kind that has no value of this sort stays as it is
abbrev pub with_start : Kind → Value → Kind
with_start (kinds.Input input) (values.Text text) = kinds.Input (record input { start = text })
with_start (kinds.CheckBoxes boxes) (values.Marks marks) =
    kinds.CheckBoxes (record boxes { start = map pos (filter (has_bit marks) (range_with_len 1 16)) })
with_start (kinds.RadioButtons radios) (values.Item item) =
    kinds.RadioButtons (record radios { start = pos item })
with_start (kinds.List list) (values.Item item) = kinds.List (record list { start = pos item })
with_start kind value = kind

-- the view, where there is a value for it
abbrev pub with_value_found : Node → Option Value → Node
with_value_found view None = view
with_value_found view (Some value) = record view { kind = with_start view.kind value }

-- the view, with the value that the entries have for it
abbrev pub with_value_of : Entries → Node → Node
with_value_of entries view = with_value_found view (value_of entries view.id.0)

-- the dialog, each view with its value
abbrev pub with_values_of : Entries → Dialog → Dialog
with_values_of entries dialog = record dialog { views = map (with_value_of entries) dialog.views }

-- each dialog with the answer at its place, where there is one
abbrev pub filled_dialogs : List Dialog → List Answer → List Dialog
filled_dialogs [] answers = []
filled_dialogs (dialog ∷ dialogs) [] = dialog ∷ dialogs
filled_dialogs (dialog ∷ dialogs) (answer ∷ answers) =
    with_values_of answer.entries dialog ∷ filled_dialogs dialogs answers

-- the description, whose answered fields begin so
abbrev pub filled : Desc → Answers → Desc
filled d a = record d { dialogs = filled_dialogs d.dialogs a.dialogs }

-- ---- what can be spelled

-- the text can stand between quotes: some line spells it
abbrev pub IsSpelledText : List ℕ → Type 0
IsSpelledText text = (line : List ℕ) × SpellsWords line (Quoted text ∷ [])

-- a value that a field can be declared to begin with: a text that can stand between quotes, or an item that
-- has a number
abbrev pub IsSpelledValue : Value → Type 0
IsSpelledValue (values.Text text) = IsSpelledText text
IsSpelledValue (values.Marks marks) = Unit {0}
IsSpelledValue (values.Item item) = IsNumber (pos item)

-- all answers are such values
abbrev pub HaveSpelledValues : Answers → Type 0
HaveSpelledValues a =
    AllByRecursion (λ answer. AllByRecursion (λ entry. IsSpelledValue entry.value) answer.entries) a.dialogs
