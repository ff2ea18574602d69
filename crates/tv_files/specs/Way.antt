-- What asking for the way to one end of a dialog comes to.
use Rattle.std.specs.Prelude.{◌≡◌, ℕ, Bool, true, false, List, ◌++◌, Option, Some, None, Result, Ok, Err, Vec, codes, position, slice_get}
use Rattle.std.specs.declared.alloc.AllocError.{AllocError}
use Rattle.tv_advice.specs.declared.manner.Manner.TheVariants.{Plain}
use Rattle.tv_advice.specs.Told.{SpellsSound}
use Rattle.tv_event.specs.declared.event.Command.{Command}
use Rattle.tv_event.specs.declared.event.Event.{Event}
use Rattle.tv_files.specs.Ends.{End, end_as}
use Rattle.tv_files.specs.Ends.End.{ended, faulted, wayless}
use Rattle.tv_files.specs.Explaining.{EndsThere, ExplainsTo, how_explained}
use Rattle.tv_files.specs.Files.{Known}
use Rattle.tv_files.specs.Tasks.{OnFile}
use Rattle.tv_files.specs.declared.done.Done.{Done}
use Rattle.tv_files.specs.declared.done.Done.TheVariants.{Whole}
use Rattle.tv_io.specs.Writer.{Cuts, Seen, Takes}
use Rattle.tv_model.specs.declared.desc.Desc.{Desc}
use Rattle.tv_model.specs.declared.desc.Dialog.{Dialog}
use Rattle.tv_model.specs.Description.Commands.{is_end}
use Rattle.tv_model.specs.Description.Heads.{dialog_head, is_named}
use Rattle.tv_model.specs.Log.LogText.{end_word}
use Rattle.tv_program.specs.declared.trouble.Trouble.{Trouble}
use Rattle.tv_program.specs.declared.trouble.Trouble.TheVariants.{NoMemory, Write}
use Rattle.tv_reach.specs.declared.answer.Answer.{Answer}
use Rattle.tv_reach.specs.declared.answer.Answer.TheVariants as answers
use Rattle.tv_reach.specs.declared.goal.Goal.TheVariants.{Ends}
use Rattle.tv_reach.specs.Answers.{IsAnswer}
use Rattle.tv_ways.specs.Asking.{IsFoundWay}
use Rattle.tv_ways.specs.Listing.{way_text}
use Rattle.tv_ways.specs.Wording.{script_text}

-- ---- why there is none

abbrev pub no_dialog : (dialog : List ℕ) → List ℕ
no_dialog dialog = codes "no dialog " ++ dialog

abbrev pub no_end : (dialog : List ℕ) → Command → List ℕ
no_end dialog end = dialog ++ codes " doesn't end by " ++ end_word end.0

-- the end where this is told, or there is no memory to
abbrev pub end_without : {A : Type 0} → (file : List ℕ) → Result (Vec ℕ A) AllocError → End
end_without file (Ok message) = wayless file message.items
end_without file (Err fault) = faulted NoMemory file

-- an answer that is no way
abbrev pub is_way : Answer → Bool
is_way (answers.Way events) = true
is_way answer = false

-- ---- what it comes to

-- the script of the events was written, or a proper prefix of it
pub data WritesScript (file : List ℕ) (events : List Event) (old new : Seen) (how : Done) (end : End) : Type 0 where
  written : Takes old new (script_text events) → how ≡ Whole → end ≡ ended → WritesScript file events old new how end
  cut : Cuts old new (script_text events) → how ≡ Whole → end ≡ faulted Write file
      → WritesScript file events old new how end

-- a way to the end of the dialog at the place was written, or why there is none is told
pub data EndsAt (file : List ℕ) (d : Desc) (place : ℕ) (c : Command) (old new : Seen) (how : Done) (end : End)
    : Type 0 where
  reached : (events : List Event) → IsFoundWay d place (Ends c) events → WritesScript file events old new how end
      → EndsAt file d place c old new how end
  unreached : (answer : Answer) → IsAnswer d place (Ends c) answer → is_way answer ≡ false → new ≡ old → how ≡ Whole
      → end ≡ wayless file (way_text d (record { goal = Ends c; answer = answer })) → EndsAt file d place c old new how end
  memory : new ≡ old → how ≡ Whole → end ≡ faulted NoMemory file → EndsAt file d place c old new how end

-- The dialog is the first of the name. That there is none, or that it doesn't end so, is told
pub data EndsWay (file : List ℕ) (d : Desc) (dialog : List ℕ) (c : Command) (old new : Seen) (how : Done) (end : End)
    : Type 0 where
  unnamed : position (is_named dialog) d.dialogs ≡ None → new ≡ old → how ≡ Whole
      → end ≡ wayless file (no_dialog dialog) → EndsWay file d dialog c old new how end
  undeclared : (place : ℕ) (there : Dialog) → position (is_named dialog) d.dialogs ≡ Some place
      → slice_get d.dialogs place ≡ Some there → is_end (dialog_head there).ends c.0 ≡ false → new ≡ old → how ≡ Whole
      → end ≡ wayless file (no_end dialog c) → EndsWay file d dialog c old new how end
  declared : (place : ℕ) (there : Dialog) → position (is_named dialog) d.dialogs ≡ Some place
      → slice_get d.dialogs place ≡ Some there → is_end (dialog_head there).ends c.0 ≡ true
      → EndsAt file d place c old new how end → EndsWay file d dialog c old new how end
  memory : new ≡ old → how ≡ Whole → end ≡ faulted NoMemory file → EndsWay file d dialog c old new how end

-- the faults of the text are told as by `explain`; where it has none, the way is looked for
pub data WayAs (file dialog : List ℕ) (c : Command) (old new : Seen) (how : Done) (end : End) (text : List ℕ) : Type 0
  where
    faulty : (told : Result (Option Desc) Trouble) → ExplainsTo Plain file text old new told → EndsThere told
        → how ≡ how_explained told → end ≡ end_as (λ fault. fault) file file told → WayAs file dialog c old new how end text
    sound : (d : Desc) → SpellsSound text d → EndsWay file d dialog c old new how end
        → WayAs file dialog c old new how end text

-- the file is read, and the way to the end is written
abbrev pub WayFile : (files after : Known) → (file dialog : List ℕ) → Command → (old new : Seen) → Done → End → Type 0
WayFile files after file dialog c old new how end = OnFile (WayAs file dialog c old new how end) files after file old new end
