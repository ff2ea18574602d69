-- What a log answers, shown by logs that another rule would read otherwise. Examples with texts are in tv_examples.
use Prim.Native.String.{String}
use lib.Utf8.{encode}
use Rattle.std.specs.Prelude.{◌≡◌, ℕ, List, [], ◌∷◌, ◌++◌, ◌+◌, Option, Some, None, true, false, pos, codes, flat_map, map}
use Rattle.std.specs.Str.{chars, is_utf8}
use Rattle.std.specs.Fmt.{digits}
use Rattle.std.proofs.Common.{refl}
use Rattle.tv_model.specs.declared.desc.Desc.{Desc}
use Rattle.tv_model.specs.declared.desc.Dialog.{Dialog}
use Rattle.tv_model.specs.declared.desc.Version.TheVariants.{One}
use Rattle.tv_model.specs.declared.kind.Kind.{Kind}
use Rattle.tv_model.specs.declared.kind.Kind.TheVariants as kinds
use Rattle.tv_model.specs.declared.kind.MarkedText.{MarkedText}
use Rattle.tv_model.specs.declared.node.Node.{Node}
use Rattle.tv_model.specs.declared.record.Entry.{Entry}
use Rattle.tv_model.specs.declared.record.Value.{Value}
use Rattle.tv_model.specs.declared.record.Value.TheVariants as values
use Rattle.tv_answers.specs.declared.answers.Answer.{Answer}
use Rattle.tv_answers.specs.declared.answers.Answers.{Answers}
use Rattle.tv_answers.specs.declared.misfit.Misfit.{Misfit}
use Rattle.tv_answers.specs.declared.misfit.MisfitKind.{MisfitKind}
use Rattle.tv_answers.specs.declared.misfit.MisfitKind.TheVariants.{NoDialog, NoEnd, NoField, NoValue}
use Rattle.tv_answers.specs.Filling.{filled}
use Rattle.tv_answers.specs.Misfits.{misfit_text}
use Rattle.tv_answers.specs.ReadLogs.{answers_in}

-- ---- a description

-- a view by its line and its kind
abbrev view : ℕ → Kind → Node
view line kind = record { id = record { 0 = line }; depth = 0; x = pos 1; y = pos 1; w = pos 12; kind = kind }

abbrev an_item : MarkedText
an_item = record { text = codes "Item"; mark = None }

-- check boxes `extras` of three items, of which these are marked at first
abbrev extras : List ℕ → Kind
extras marked = kinds.CheckBoxes (record { name = codes "extras"; items = an_item ∷ an_item ∷ an_item ∷ []; start = map pos marked })

-- a list `theme` of three items, of which one is chosen at first
abbrev theme : ℕ → Kind
theme chosen = kinds.List (record { name = codes "theme"; h = pos 3; items = codes "A" ∷ codes "B" ∷ codes "C" ∷ []; start = pos chosen })

-- a dialog of the name that ends by `ok` and `cancel`, with check boxes and a list
abbrev dialog : ℕ → String → List ℕ → ℕ → Dialog
dialog line name marked chosen = record {
  node = view line (kinds.Dialog (record {
    name = codes name;
    h = pos 8;
    title = [];
    opens = None;
    ends = record { ok = true; cancel = true; yes = false; no = false };
  }));
  views = view (line + 1) (extras marked) ∷ view (line + 2) (theme chosen) ∷ [];
  rules = [];
  own_kind = refl;
}

-- two dialogs, `a` and `b`
abbrev with_dialogs : Dialog → Dialog → Desc
with_dialogs a b = record {
  version = One;
  width = pos 40;
  height = pos 20;
  start = None;
  menus = [];
  status = [];
  windows = [];
  dialogs = a ∷ b ∷ [];
}

-- `a` has its second item marked and its first one chosen, `b` none and its third
abbrev form : Desc
form = with_dialogs (dialog 4 "a" (2 ∷ []) 1) (dialog 8 "b" [] 3)

-- ---- logs

-- the text of lines
abbrev log : List String → List ℕ
log lines = flat_map (λ line. codes line ++ 10 ∷ []) lines

-- the value of a field
abbrev entry : ℕ → Value → Entry
entry line value = record { id = record { 0 = line }; value = value }

-- nothing is answered of a dialog
abbrev nothing : Answer
nothing = record { command = None; entries = [] }

-- it ended by `ok` with these values
abbrev by_ok : List Entry → Answer
by_ok entries = record { command = Some (record { 0 = 10 }); entries = entries }

-- what is answered of both
abbrev both : Answer → Answer → List Misfit → Option Answers
both a b misfits = Some (record { dialogs = a ∷ b ∷ []; misfits = misfits })

-- a line that doesn't fit
abbrev misfit : ℕ → MisfitKind → Misfit
misfit line kind = record { line = line; kind = kind }

-- what an end saved is answered; what happened besides isn't
saved_is_answered :
    answers_in form (log ("open a" ∷ "focus extras" ∷ "end a ok" ∷ "field extras 1 3" ∷ "field theme 2" ∷ "quit" ∷ []))
    ≡ both (by_ok (entry 5 (values.Marks 5) ∷ entry 6 (values.Item 2) ∷ [])) nothing []
unfolding is_utf8 chars encode
saved_is_answered = refl

-- a dialog that was cancelled saved nothing
cancelled_is_passed_over :
    answers_in form (log ("end a cancel" ∷ "field theme 2" ∷ "end b ok" ∷ "field theme 2" ∷ []))
    ≡ both nothing (by_ok (entry 10 (values.Item 2) ∷ [])) []
unfolding is_utf8 chars encode
cancelled_is_passed_over = refl

-- the last line of a field wins, in one block or in two
last_line_wins :
    answers_in form (log ("end a ok" ∷ "field theme 2" ∷ "field theme 3" ∷ "end a ok" ∷ "field extras -" ∷ []))
    ≡ both (by_ok (entry 6 (values.Item 3) ∷ entry 5 (values.Marks 0) ∷ [])) nothing []
unfolding is_utf8 chars encode
last_line_wins = refl

-- rows of a screen aren't read, nor comments and empty lines
rows_are_passed_over :
    answers_in form (log ("# by hand" ∷ "shot 2 1" ∷ ":\":" ∷ "" ∷ "end a ok" ∷ []))
    ≡ both (by_ok []) nothing []
unfolding is_utf8 chars encode
rows_are_passed_over = refl

-- a line of another word is a fault
unknown_line_is_faulty : answers_in form (log ("end a ok" ∷ "feild theme 1" ∷ [])) ≡ None
unfolding is_utf8 chars encode
unknown_line_is_faulty = refl

-- and so is a field before any end
early_field_is_faulty : answers_in form (log ("field theme 1" ∷ "end a ok" ∷ [])) ≡ None
unfolding is_utf8 chars encode
early_field_is_faulty = refl

-- what doesn't fit is told, and the rest is answered
misfits_are_told :
    answers_in form
    (log ("end c ok" ∷ "field theme 1" ∷ "end a yes" ∷ "end a ok" ∷ "field port 1" ∷ "field theme 4" ∷ "field extras 3 1" ∷ []))
    ≡ both (by_ok []) nothing
    (misfit 1 (NoDialog (codes "c"))
    ∷ misfit 3 (NoEnd (codes "a") (record { 0 = 12 }))
    ∷ misfit 5 (NoField (codes "a") (codes "port"))
    ∷ misfit 6 (NoValue (codes "a") (codes "theme"))
    ∷ misfit 7 (NoValue (codes "a") (codes "extras"))
    ∷ [])
unfolding is_utf8 chars encode
misfits_are_told = refl

-- the words of what doesn't fit
no_value_is_told : misfit_text (misfit 6 (NoValue (codes "a") (codes "theme"))) ≡ codes "theme of a can't be so at line 6"
unfolding digits encode
no_value_is_told = refl

no_end_is_told : misfit_text (misfit 3 (NoEnd (codes "a") (record { 0 = 12 }))) ≡ codes "yes of a can't be so at line 3"
unfolding digits encode
no_end_is_told = refl

-- ---- filling

-- the answered fields begin with their answers, the others as they are declared
answered_fields_begin_so :
    filled form
    (record {
      dialogs = by_ok (entry 5 (values.Marks 5) ∷ []) ∷ by_ok (entry 10 (values.Item 2) ∷ []) ∷ [];
      misfits = [];
    })
    ≡ with_dialogs (dialog 4 "a" (1 ∷ 3 ∷ []) 1) (dialog 8 "b" [] 2)
answered_fields_begin_so = refl
