-- What the laws say of every run of a sound description: of each fit state, and so of each that events,
-- commands that the program gives and records that it hands in lead to.
use Rattle.std.specs.Prelude.{◌≡◌, ℕ, Bool, true, false, List, filter_map, slice_get, Option, Some, None, All}
use Rattle.std.specs.Prelude.{AllPairs}
use Rattle.tv_event.specs.declared.event.Event.{Event}
use Rattle.tv_event.specs.declared.event.Event.TheVariants as events
use Rattle.tv_event.specs.declared.event.Key.{Key}
use Rattle.tv_event.specs.declared.event.Key.TheVariants as keys
use Rattle.tv_model.specs.declared.desc.Desc.{Desc}
use Rattle.tv_model.specs.declared.desc.Dialog.{Dialog}
use Rattle.tv_model.specs.declared.desc.Version.{Version}
use Rattle.tv_model.specs.declared.desc.Version.TheVariants as versions
use Rattle.tv_machine.specs.declared.script.Item.{Item}
use Rattle.tv_machine.specs.declared.script.Item.TheVariants as items
use Rattle.tv_model.specs.Faults.Letters.{is_same_key}
use Rattle.tv_machine.specs.State.{OpenDialog, State}
use Rattle.tv_machine.specs.Dialog.Modal.{Modal}
use Rattle.tv_machine.specs.Dialog.Lawful.{Marks}
use Rattle.tv_machine.specs.Dialog.Step.{dialog_step}
use Rattle.tv_machine.specs.Output.{after}
use Rattle.tv_machine.specs.Run.{quiet, started}
use Rattle.tv_machine.specs.Safe.{IsAlwaysSafe}
use Rattle.tv_machine.specs.Session.Commands.{after_work, modal_of}
use Rattle.tv_machine.specs.Session.Step.{step, with_empty_log}
use Rattle.tv_faults.specs.Sound.Letters.{MarkOtherLetters, marked_texts}
use Rattle.tv_check.specs.Certificates.{IsSoundCertificate, certificate_of}
use Rattle.tv_laws.specs.Leaving.{EscCancels, TabAsksNext, TabGoesOn, UpLetsGo}
use Rattle.tv_laws.specs.Runs.{FitIsSafe, IsFitState, ReachesFit, RecordsFit, RunsFit, StartsFit, state_after}
use Rattle.tv_laws.specs.Steps.{OpensFit, StaysFit}
use Rattle.tv_laws.specs.Letters.{CertificateNamesMarker, HasLines, HasOwnNames, KeysActAsNamed}
use Rattle.tv_laws.specs.Letters.{LettersAlwaysHaveOneMarker, LettersHaveOneMarker, NamedActOnControls}
use Rattle.tv_laws.specs.Letters.{OneLineInFirstVersion, RefusedFocusChangesNothing, UnableNamedDoNothing}
use Rattle.tv_laws.specs.Letters.{VisibleIsMarker}
use Rattle.tv_laws.specs.Order.{FreeAreControls, RefusalStays, ShiftTabAsksPrevious, StopsAreTabs}
use Rattle.tv_laws.specs.Order.{TabGoesRound, TabKeepsValues}
use Rattle.tv_laws.specs.Escape.{EscCancelsOpen, UpEscCancels, UpEscLeaves, UpFreesFrame, UpFreesMouse}
use Rattle.tv_laws.specs.Records.{DeclareCancel, EndsAsDeclared, OpensAsSaved, ReopensAsSaved}
use Rattle.tv_laws.specs.Records.{SavesWhatItLogs, StartsAsDeclared, StaysOver}

-- ---- the states that are spoken of

-- a run starts fit, and whatever comes next of it is fit; so each state that events lead to is. A fit state is
-- safe: an open dialog's focus is free and its top row can be seen, a frame that is dragged is there, and
-- values, saved records and ends are such as are declared
pub record FitByLaws (d : Desc) : Type 0 where
  pub starts : StartsFit d
  pub runs : RunsFit d
  pub records : RecordsFit d
  pub reaches : ReachesFit d
  pub safe : FitIsSafe d
  pub always_safe : IsAlwaysSafe d

-- the event of an item, if it is one
abbrev pub event_in : Item → Option Event
event_in (items.Event e) = Some e
event_in items.Shot = None
event_in items.Colors = None

-- a script leaves a run where its events lead from the start, with the log taken
abbrev pub ScriptsReach : Desc → Type 0
ScriptsReach d =
    (script : List Item)
    → after (started d) script
    ≡ quiet (record { desc = d; state = state_after d (filter_map event_in script) })

-- ---- which keys an open dialog gets

-- no status item has the key
abbrev pub IsNoStatusKey : Desc → Key → Type 0
IsNoStatusKey d k = All (λ item. is_same_key item.key k ≡ false) d.status

-- the state after the work of the open dialog, its log taken before: it stands as its work left it, or it
-- ended
abbrev pub worked_on : State → OpenDialog → Modal → State
worked_on s o m = after_work (with_empty_log s) o m m.ended

-- so it is after a key
abbrev pub worked_by_key : State → OpenDialog → Dialog → Key → State
worked_by_key s o dialog k = worked_on s o (dialog_step dialog (events.Key k) (modal_of s o))

-- while the mouse holds neither a leaf of the open dialog nor a frame, a key that no status item has is the
-- dialog's
abbrev pub KeysReachDialog : Desc → Type 0
KeysReachDialog d =
    (s : State) (o : OpenDialog) (dialog : Dialog) (k : Key) → IsFitState d s → s.dialog ≡ Some o
    → slice_get d.dialogs o.place ≡ Some dialog → o.held ≡ None → s.frame ≡ None → IsNoStatusKey d k
    → step d s (events.Key k) ≡ worked_by_key s o dialog k

-- a function key, or Ctrl or Alt with a character
abbrev pub may_be_status_key : Key → Bool
may_be_status_key (keys.Function n) = true
may_be_status_key (keys.Ctrl ch) = true
may_be_status_key (keys.Alt ch) = true
may_be_status_key _ = false

-- Tab, Esc, characters and the like are never those of status items
abbrev pub PlainKeysAreFree : Desc → Type 0
PlainKeysAreFree d = (k : Key) → may_be_status_key k ≡ false → IsNoStatusKey d k

-- nor is Alt with a letter that a view of the dialog marks
abbrev pub AltLettersAreFree : Desc → Dialog → Type 0
AltLettersAreFree d dialog =
    All (λ view. (letter : ℕ) → Marks letter view → IsNoStatusKey d (keys.Alt letter)) dialog.views

-- ---- what is so of each dialog

-- Tab and Shift-Tab go round in the order of the certificate's `tab` lines; an input that may not be left
-- keeps the focus
pub record TabsByLaws (dialog : Dialog) : Type 0 where
  pub stops : StopsAreTabs dialog
  pub controls : FreeAreControls dialog
  pub asks_next : TabAsksNext dialog
  pub asks_previous : ShiftTabAsksPrevious dialog
  pub goes_on : TabGoesOn dialog
  pub stays : RefusalStays dialog
  pub keeps : TabKeepsValues dialog
  pub round : TabGoesRound dialog

-- in version 1 no two texts of a dialog mark one letter, whatever its rules show
abbrev pub MarksApartInFirstVersion : Version → Dialog → Type 0
MarksApartInFirstVersion versions.One dialog = AllPairs MarkOtherLetters (marked_texts dialog.views)
MarksApartInFirstVersion versions.Two dialog = Unit {0}

-- what the certificate has of letters. One that isn't shared has one line at most, without a `when`, which
-- always holds; of one that is, each marker has its own line, with a `when`, and no two hold at once. One marker
-- at most is visible
pub record LinesByLaws (version : Version) (dialog : Dialog) : Type 0 where
  pub lines : HasLines version dialog
  pub first : OneLineInFirstVersion dialog
  pub apart : MarksApartInFirstVersion version dialog
  pub marker : CertificateNamesMarker version dialog
  pub once : LettersHaveOneMarker dialog
  pub visible : VisibleIsMarker dialog

-- a shortcut is the act of what the certificate names for its letter by the `key` line that holds
-- (`named_by`), or nothing; and the act changes the value of no other control than the line names, nor what the
-- mouse holds, nor lines that were logged
pub record LettersByLaws (version : Version) (dialog : Dialog) : Type 0 where
  pub certificate : LinesByLaws version dialog
  pub keys : KeysActAsNamed version dialog
  pub unable : UnableNamedDoNothing dialog
  pub refused : RefusedFocusChangesNothing dialog
  pub acts : NamedActOnControls version dialog

-- it opens with its focus on a free control and with what was saved of it, and stays so that it can be used,
-- until it ends by a
-- command that it declares; a mouse up lets the mouse go, and Esc cancels
pub record WorksByLaws (dialog : Dialog) : Type 0 where
  pub opens : OpensFit dialog
  pub shows : OpensAsSaved dialog
  pub stays : StaysFit dialog
  pub lets_go : UpLetsGo dialog
  pub cancels : EscCancels dialog

-- ---- what is so of each run

-- dialogs end by declared ends alone; the record that an end logs is the one that is saved, unless it
-- cancels, with each value in
-- its domain; and a dialog that opens again shows it
pub record RecordsByLaws (d : Desc) : Type 0 where
  pub ends : EndsAsDeclared d
  pub cancel : DeclareCancel d
  pub saves : SavesWhatItLogs d
  pub reopens : ReopensAsSaved d
  pub starts : StartsAsDeclared d

-- the open dialog can be left, and nothing happens after the end of a run
pub record LeavesByLaws (d : Desc) : Type 0 where
  pub cancels : EscCancelsOpen d
  pub frees : UpFreesMouse d
  pub frees_frame : UpFreesFrame d
  pub leaves : UpEscLeaves d
  pub cancels_left : UpEscCancels d
  pub over : StaysOver d

-- which keys the open dialog gets, whatever status items there are
pub record KeysByLaws (d : Desc) : Type 0 where
  pub reach : KeysReachDialog d
  pub plain : PlainKeysAreFree d
  pub alt : All (AltLettersAreFree d) d.dialogs

-- every run of the description, whatever events, commands of the program and records come: the focus, the
-- order of Tab, shortcuts, ends and records are what its certificate says
pub record RunsByLaws (d : Desc) : Type 0 where
  -- the certificate that is made of it names its order of Tab and the owners of its letters
  pub certified : IsSoundCertificate d (certificate_of d)
  -- and each control by a name that no other view of its dialog has
  pub names : All HasOwnNames d.dialogs
  -- each state that a script makes is one that its events lead to
  pub scripts : ScriptsReach d
  -- each state is fit, and so it is safe
  pub fit : FitByLaws d
  -- no letter has two visible markers then
  pub once : LettersAlwaysHaveOneMarker d
  pub keys : KeysByLaws d
  pub tabs : All TabsByLaws d.dialogs
  pub letters : All (LettersByLaws d.version) d.dialogs
  pub dialogs : All WorksByLaws d.dialogs
  pub records : RecordsByLaws d
  pub leaves : LeavesByLaws d
