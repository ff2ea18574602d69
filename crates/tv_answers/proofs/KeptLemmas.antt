-- What each line of a log keeps of answers, whatever it is.
use Rattle.std.proofs.Common.{◌≡◌, ℕ, ◌+◌, ◌==◌, Bool, true, false, List, [], ◌∷◌, Option, Some, None, option_map, refl, subst}
use Rattle.std.specs.Prelude.{IfSome, find, position, slice_get, option_and_then, codes, if◌then◌else◌}
use Rattle.std.specs.List.{AllByRecursion}
use Rattle.tv_event.specs.Commands.{cm_cancel}
use Rattle.tv_event.specs.declared.event.Command.{Command}
use Rattle.tv_machine.proofs.ListLemmas.{option_cases}
use Rattle.tv_model.specs.declared.desc.Desc.{Desc}
use Rattle.tv_model.specs.declared.desc.Dialog.{Dialog}
use Rattle.tv_model.specs.declared.node.Node.{Node}
use Rattle.tv_model.specs.declared.record.Value.{Value}
use Rattle.tv_model.specs.Description.Heads.{dialog_head, is_named}
use Rattle.tv_words.specs.declared.word.Word.{Word}
use Rattle.tv_words.specs.Fields.{is_bare_word, name_in}
use Rattle.tv_words.specs.Lines.{lines_of}
use Rattle.tv_words.specs.Reading.LineWords.{line_words, words_taken}
use Rattle.tv_words.proofs.CanonicalLineLemmas.{Stands, words_stand}
use Rattle.tv_words.proofs.LineWordLemmas.{line_spelled}
use Rattle.tv_answers.specs.declared.answers.Answers.{Answers}
use Rattle.tv_answers.specs.declared.misfit.MisfitKind.{MisfitKind}
use Rattle.tv_answers.specs.declared.misfit.MisfitKind.TheVariants.{NoDialog, NoField, NoValue}
use Rattle.tv_answers.specs.declared.progress.Progress.{Progress}
use Rattle.tv_answers.specs.declared.progress.Block.{Block}
use Rattle.tv_answers.specs.declared.progress.Block.TheVariants.{Missing, Passed, Saved}
use Rattle.tv_answers.specs.LogLines.{command_in, is_passed, is_row, is_value}
use Rattle.tv_answers.specs.FieldValues.{value_for}
use Rattle.tv_answers.specs.ReadLogs.{answers_in, end_taken, ended_at, ended_by, field_in_block, field_taken, has_end, is_field_named, line_answered, lines_answered, named_valued, no_answers, nothing_read, other_taken, passed, valued, with_command, with_entry, with_misfit, words_answered}

-- words that can stand in a line give a field of the dialog at a place its value
pub record IsEntered (d : Desc) (place : ℕ) (view : Node) (value : Value) : Type 0 where
  pub dialog : Dialog
  pub there : slice_get d.dialogs place ≡ Some dialog
  pub name : List ℕ
  pub found : find (is_field_named name) dialog.views ≡ Some view
  pub words : List Word
  pub stand : AllByRecursion Stands words
  pub valued : value_for view.kind words ≡ Some value

-- it is so of answers, whatever doesn't fit, ends and is entered
pub record IsKept (d : Desc) (Has : Answers → Type 0) : Type 0 where
  pub misfits : (n : ℕ) (kind : MisfitKind) (a : Answers) → Has a → Has (with_misfit n kind a)
  pub commands : (place : ℕ) (command : Command) (a : Answers) → Has a → Has (with_command place command a)
  pub entries : (place : ℕ) (view : Node) (value : Value) (a : Answers) → IsEntered d place view value → Has a → Has (with_entry place view.id value a)

pub read_stand : (line : List ℕ) (o : Option (List Word)) → line_words line ≡ o → IfSome o (λ ws. AllByRecursion Stands ws)
read_stand line None e = tt
read_stand line (Some []) e = tt
read_stand line (Some (w ∷ ws)) e = (words_stand line w ws (line_spelled line (w ∷ ws) e)).0

module _ (d : Desc) (Has : Answers → Type 0) (kept : IsKept d Has) where
  abbrev Keeps : Option Progress → Type 0
  Keeps o = IfSome o (λ p. Has p.answers)

  either : (b : Bool) (o u : Option Progress) → Keeps o → Keeps u → Keeps (if b then o else u)
  either true o u first later = first
  either false o u first later = later

  either_way : (b : Bool) (p q : Progress) → Has p.answers → Has q.answers → Has (if b then p else q).answers
  either_way true p q first later = first
  either_way false p q first later = later

  -- ---- ends

  ends : (n : ℕ) (a : Answers) (name : List ℕ) (command : Command) → Has a → (o : Option ℕ) → Has (elim o as (λ _. Progress) [ None ↦ passed (with_misfit n (NoDialog name) a) | Some place ↦ ended_at d n a name command place ]).answers
  ends n a name command has None = kept.misfits n (NoDialog name) a has
  ends n a name command has (Some place) =
      either_way (has_end d place command) (ended_by place command a) _
      (either_way (command.0 == cm_cancel) (passed a) _ has (kept.commands place command a has))
      (kept.misfits n _ a has)

  end_keeps : (n : ℕ) (a : Answers) → Has a → (name : Option (List ℕ)) (command : Option Command) → Keeps (end_taken d n a name command)
  end_keeps n a has (Some name) (Some command) = ends n a name command has (position (is_named name) d.dialogs)
  end_keeps n a has (Some name) None = tt
  end_keeps n a has None command = tt

  -- ---- fields

  module _ (n place : ℕ) (name : List ℕ) (ws : List Word) (stand : AllByRecursion Stands ws) (a : Answers) (has : Has a) where
    value_keeps : (dialog : Dialog) (view : Node) → slice_get d.dialogs place ≡ Some dialog → find (is_field_named name) dialog.views ≡ Some view → Has (valued n place dialog view name ws a)
    value_keeps dialog view there found =
        option_cases (value_for view.kind ws) (λ o. Has (elim o as (λ _. Answers) [ None ↦ with_misfit n (NoValue (dialog_head dialog).name name) a | Some value ↦ with_entry place view.id value a ]))
        (λ none. kept.misfits n (NoValue (dialog_head dialog).name name) a has)
        (λ value is. kept.entries place view value a (record { dialog = dialog; there = there; name = name; found = found; words = ws; stand = stand; valued = is }) has)

    view_keeps : (dialog : Dialog) → slice_get d.dialogs place ≡ Some dialog → Has (named_valued n place dialog name ws a)
    view_keeps dialog there =
        option_cases (find (is_field_named name) dialog.views) (λ o. Has (elim o as (λ _. Answers) [ None ↦ with_misfit n (NoField (dialog_head dialog).name name) a | Some view ↦ valued n place dialog view name ws a ]))
        (λ none. kept.misfits n (NoField (dialog_head dialog).name name) a has) (λ view found. value_keeps dialog view there found)

    dialog_keeps : Has (elim (slice_get d.dialogs place) as (λ _. Answers) [ None ↦ a | Some dialog ↦ named_valued n place dialog name ws a ])
    dialog_keeps =
        option_cases (slice_get d.dialogs place) (λ o. Has (elim o as (λ _. Answers) [ None ↦ a | Some dialog ↦ named_valued n place dialog name ws a ]))
        (λ none. has) (λ dialog there. view_keeps dialog there)

  block_keeps : (n : ℕ) (p : Progress) → Has p.answers → (block : Block) (name : List ℕ) (ws : List Word) → AllByRecursion Stands ws → Keeps (field_in_block d n p block name ws)
  block_keeps n p has Missing name ws stand = tt
  block_keeps n p has Passed name ws stand = has
  block_keeps n p has (Saved place) name ws stand = dialog_keeps n place name ws stand p.answers has

  field_keeps : (n : ℕ) (p : Progress) → Has p.answers → (name : Option (List ℕ)) (ws : List Word) → AllByRecursion Stands ws → Keeps (field_taken d n p name ws)
  field_keeps n p has None ws stand = tt
  field_keeps n p has (Some name) ws stand = either (is_value ws) (field_in_block d n p p.block name ws) None (block_keeps n p has p.block name ws stand) tt

  -- ---- lines

  other_keeps : (p : Progress) → Has p.answers → (ws : List Word) → Keeps (other_taken p ws)
  other_keeps p has ws = either (is_passed ws) (Some p) None has tt

  words_keep : (n : ℕ) (p : Progress) → Has p.answers → (ws : List Word) → AllByRecursion Stands ws → Keeps (words_answered d n p ws)
  words_keep n p has (word ∷ name ∷ rest) stand =
      either (is_bare_word word (codes "end")) (end_taken d n p.answers (name_in name) (command_in rest)) _ (end_keeps n p.answers has (name_in name) (command_in rest))
      (either (is_bare_word word (codes "field")) (field_taken d n p (name_in name) rest) _ (field_keeps n p has (name_in name) rest stand.1.1) (other_keeps p has (word ∷ name ∷ rest)))
  words_keep n p has (word ∷ []) stand = other_keeps p has (word ∷ [])
  words_keep n p has [] stand = other_keeps p has []

  read_keep : (n : ℕ) (p : Progress) → Has p.answers → (o : Option (List Word)) → IfSome o (λ ws. AllByRecursion Stands ws) → Keeps (words_taken (words_answered d n) p o)
  read_keep n p has None stand = tt
  read_keep n p has (Some []) stand = has
  read_keep n p has (Some (w ∷ ws)) stand = words_keep n p has (w ∷ ws) stand

  line_keeps : (n : ℕ) (p : Progress) → Has p.answers → (line : List ℕ) → Keeps (line_answered d n p line)
  line_keeps n p has line = either (is_row line) (Some p) _ has (read_keep n p has (line_words line) (read_stand line (line_words line) refl))

  after_line : (o : Option Progress) (next : Progress → Option Progress) → Keeps o → ((p : Progress) → Has p.answers → Keeps (next p)) → Keeps (option_and_then next o)
  after_line None next keeps later = tt
  after_line (Some p) next keeps later = later p keeps

  lines_keep : (ls : List (List ℕ)) (n : ℕ) (p : Progress) → Has p.answers → Keeps (lines_answered d n p ls)
  lines_keep [] n p has = has
  lines_keep (l ∷ ls) n p has =
      after_line (line_answered d n p l) (λ further. lines_answered d (n + 1) further ls) (line_keeps n p has l) (λ q h. lines_keep ls (n + 1) q h)

  taken : (o : Option Progress) (a : Answers) → Keeps o → option_map (λ p. p.answers) o ≡ Some a → Has a
  taken None a keeps is = absurd cc
  taken (Some p) a keeps is = (let same : p.answers ≡ a = cc in subst Has same keeps)

  -- it is so of what a log answers, where it is so of no answers
  pub answers_keep : (text : List ℕ) (a : Answers) → Has (no_answers d) → answers_in d text ≡ Some a → Has a
  answers_keep text a has is = taken (lines_answered d 1 (nothing_read d) (lines_of text)) a (lines_keep (lines_of text) 1 (nothing_read d) has) is
