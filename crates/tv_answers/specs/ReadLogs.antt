-- What a log answers of a description, line by line, and why a text is refused.
use Rattle.std.specs.Prelude.{◌≡◌, ℕ, ◌+◌, ◌≤◌, ◌<◌, zero, suc, List, [], ◌∷◌, ◌++◌, length, map, take, find, position}
use Rattle.std.specs.Prelude.{Bool, false, ◌&&◌, ◌==◌, Option, Some, None, IsSome, option_map, option_and_then}
use Rattle.std.specs.Prelude.{slice_get, codes, if◌then◌else◌}
use Rattle.std.specs.Option.{option_map_or}
use Rattle.tv_event.specs.Commands.{cm_cancel}
use Rattle.tv_event.specs.declared.event.Command.{Command}
use Rattle.tv_machine.specs.Safe.{is_field}
use Rattle.tv_model.specs.declared.desc.Desc.{Desc}
use Rattle.tv_model.specs.declared.desc.Dialog.{Dialog}
use Rattle.tv_model.specs.declared.node.Id.{Id}
use Rattle.tv_model.specs.declared.node.Node.{Node}
use Rattle.tv_model.specs.declared.record.Value.{Value}
use Rattle.tv_model.specs.Description.Commands.{is_end}
use Rattle.tv_model.specs.Description.Heads.{dialog_head, is_named}
use Rattle.tv_model.specs.Description.Names.{gives_name}
use Rattle.tv_model.specs.Log.Record.{with_value}
use Rattle.tv_words.specs.declared.word.Word.{Word}
use Rattle.tv_words.specs.Fields.{is_bare_word, name_in}
use Rattle.tv_words.specs.Lines.{lines_of}
use Rattle.tv_words.specs.Reading.LineWords.{line_taken}
use Rattle.tv_answers.specs.declared.answers.Answers.{Answers}
use Rattle.tv_answers.specs.declared.answers.Answer.{Answer}
use Rattle.tv_answers.specs.declared.misfit.MisfitKind.{MisfitKind}
use Rattle.tv_answers.specs.declared.misfit.MisfitKind.TheVariants.{NoDialog, NoEnd, NoField, NoValue}
use Rattle.tv_answers.specs.declared.progress.Progress.{Progress}
use Rattle.tv_answers.specs.declared.progress.Block.{Block}
use Rattle.tv_answers.specs.declared.progress.Block.TheVariants.{Missing, Passed, Saved}
use Rattle.tv_answers.specs.declared.reading.AnswersFault.{AnswersFault}
use Rattle.tv_answers.specs.declared.reading.AnswersFault.TheVariants.{NoMemory, Syntax, TooLong}
use Rattle.tv_answers.specs.LogLines.{command_in, is_passed, is_row, is_value}
use Rattle.tv_answers.specs.FieldValues.{value_for}

-- ---- answers

-- a dialog of which nothing is answered
abbrev pub no_answer : Answer
no_answer = record { command = None; entries = [] }

-- nothing is answered
abbrev pub no_answers : Desc → Answers
no_answers d = record { dialogs = map (λ dialog. no_answer) d.dialogs; misfits = [] }

-- something doesn't fit, in the line of this number
abbrev pub with_misfit : ℕ → MisfitKind → Answers → Answers
with_misfit n kind a = record a { misfits = a.misfits ++ record { line = n; kind = kind } ∷ [] }

-- the answer at a place, changed
abbrev pub changed_at : ℕ → (Answer → Answer) → List Answer → List Answer
changed_at place change [] = []
changed_at zero change (answer ∷ answers) = change answer ∷ answers
changed_at (suc place) change (answer ∷ answers) = answer ∷ changed_at place change answers

-- the dialog at a place ends by the command, whatever it ended by before
abbrev pub with_command : ℕ → Command → Answers → Answers
with_command place command a =
    record a { dialogs = changed_at place (λ answer. record answer { command = Some command }) a.dialogs }

-- a field of it has the value, whatever it had before
abbrev pub with_entry : ℕ → Id → Value → Answers → Answers
with_entry place id value a =
    record a {
      dialogs = changed_at place (λ answer. record answer { entries = with_value answer.entries id value }) a.dialogs;
    }

-- ---- ends

-- whether the dialog at a place can end by the command
abbrev pub has_end : Desc → ℕ → Command → Bool
has_end d place command =
    option_map_or (λ dialog. is_end (dialog_head dialog).ends command.0) (slice_get d.dialogs place) false

-- the block after an `end` line is passed over
abbrev pub passed : Answers → Progress
passed a = record { answers = a; block = Passed }

-- the dialog at a place ended by a command that it has: by any but `cancel` it saved what follows
abbrev pub ended_by : ℕ → Command → Answers → Progress
ended_by place command a =
    if command.0 == cm_cancel then passed a
    else record { answers = with_command place command a; block = Saved place }

-- the dialog at a place, of this name, ended by a command
abbrev pub ended_at : Desc → ℕ → Answers → List ℕ → Command → ℕ → Progress
ended_at d n a name command place =
    if has_end d place command then ended_by place command a
    else passed (with_misfit n (NoEnd name command) a)

-- a dialog of this name ended by a command; a name means the first dialog that has it
abbrev pub ended : Desc → ℕ → Answers → List ℕ → Command → Progress
ended d n a name command =
    elim (position (is_named name) d.dialogs) as (λ _. Progress) [
      | None ↦ passed (with_misfit n (NoDialog name) a)
      | Some place ↦ ended_at d n a name command place
    ]

-- an `end` line
abbrev pub end_taken : Desc → ℕ → Answers → Option (List ℕ) → Option Command → Option Progress
end_taken d n a (Some name) (Some command) = Some (ended d n a name command)
end_taken d n a _ _ = None

-- ---- fields

-- the view is a field of the name
abbrev pub is_field_named : List ℕ → Node → Bool
is_field_named name view = is_field view.kind && gives_name name view

-- a field of the dialog at a place has these words as its value
abbrev pub valued : ℕ → ℕ → Dialog → Node → List ℕ → List Word → Answers → Answers
valued n place dialog view name words a =
    elim (value_for view.kind words) as (λ _. Answers) [
      | None ↦ with_misfit n (NoValue (dialog_head dialog).name name) a
      | Some value ↦ with_entry place view.id value a
    ]

-- a field by its name
abbrev pub named_valued : ℕ → ℕ → Dialog → List ℕ → List Word → Answers → Answers
named_valued n place dialog name words a =
    elim (find (is_field_named name) dialog.views) as (λ _. Answers) [
      | None ↦ with_misfit n (NoField (dialog_head dialog).name name) a
      | Some view ↦ valued n place dialog view name words a
    ]

-- a field of the dialog at a place
abbrev pub field_answered : Desc → ℕ → ℕ → List ℕ → List Word → Answers → Answers
field_answered d n place name words a =
    elim (slice_get d.dialogs place) as (λ _. Answers) [
      | None ↦ a
      | Some dialog ↦ named_valued n place dialog name words a
    ]

-- a `field` line in a block: no block, no field
abbrev pub field_in_block : Desc → ℕ → Progress → Block → List ℕ → List Word → Option Progress
field_in_block d n p Missing name words = None
field_in_block d n p Passed name words = Some p
field_in_block d n p (Saved place) name words =
    Some (record p { answers = field_answered d n place name words p.answers })

-- a `field` line
abbrev pub field_taken : Desc → ℕ → Progress → Option (List ℕ) → List Word → Option Progress
field_taken d n p None words = None
field_taken d n p (Some name) words = if is_value words then field_in_block d n p p.block name words else None

-- ---- lines

-- a line that answers nothing
abbrev pub other_taken : Progress → List Word → Option Progress
other_taken p words = if is_passed words then Some p else None

-- the words of the line with the number n
abbrev pub words_answered : Desc → ℕ → Progress → List Word → Option Progress
words_answered d n p (word ∷ name ∷ rest) =
    if is_bare_word word (codes "end") then end_taken d n p.answers (name_in name) (command_in rest)
    else if is_bare_word word (codes "field") then field_taken d n p (name_in name) rest
    else other_taken p (word ∷ name ∷ rest)
words_answered d n p words = other_taken p words

-- the line with the number n: rows of screens aren't read
abbrev pub line_answered : Desc → ℕ → Progress → List ℕ → Option Progress
line_answered d n p line = if is_row line then Some p else line_taken (words_answered d n) p line

-- lines from the number n on, or none where one of them is no line of a log
abbrev pub lines_answered : Desc → ℕ → Progress → List (List ℕ) → Option Progress
lines_answered d n p [] = Some p
lines_answered d n p (line ∷ lines) =
    option_and_then (λ further. lines_answered d (n + 1) further lines) (line_answered d n p line)

-- ---- texts

-- nothing is read
abbrev pub nothing_read : Desc → Progress
nothing_read d = record { answers = no_answers d; block = Missing }

-- what lines answer
abbrev pub answers_of : Desc → List (List ℕ) → Option Answers
answers_of d lines = option_map (λ p. p.answers) (lines_answered d 1 (nothing_read d) lines)

-- what a log answers
abbrev pub answers_in : Desc → List ℕ → Option Answers
answers_in d text = answers_of d (lines_of text)

-- a log that isn't too long answers so
pub record IsAnswered (d : Desc) (text : List ℕ) (a : Answers) : Type 0 where
  pub within : length text ≤ 1048576
  pub answered : answers_in d text ≡ Some a

-- the first line that is none of a log where it stands: those before it are
pub record IsFirstUnread (d : Desc) (lines : List (List ℕ)) (line : ℕ) : Type 0 where
  pub before : ℕ
  pub number : line ≡ before + 1
  pub within : before < length lines
  pub reads : IsSome (answers_of d (take before lines))
  pub stops : answers_of d (take line lines) ≡ None

-- what each refusal says of the text: it has too many bytes, or it hasn't, and a line of it is none of a log
abbrev pub RefusesAnswers : Desc → List ℕ → AnswersFault → Type 0
RefusesAnswers d text NoMemory = Unit {0}
RefusesAnswers d text (Syntax line) = (length text ≤ 1048576) × IsFirstUnread d (lines_of text) line
RefusesAnswers d text TooLong = 1048576 < length text
