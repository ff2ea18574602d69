-- Every run of a sound description goes by the laws.
use Rattle.std.proofs.Common.{◌≡◌, Bool, true, false, ◌&&◌, ◌||◌, ◌==◌, ℕ, zero, suc, ◌<◌, if◌then◌else◌, List, [], ◌∷◌, filter_map, get_or, length, Decides, Some, None, is_some, refl, ap, ◌∙◌, arith}
use Rattle.std.specs.Prelude.{All, AllPairs}
use Rattle.std.specs.List.{Any, list_any}
use Rattle.std.proofs.lemmas.Bool.{eqb-true}
use Rattle.std.proofs.lemmas.List.Elements.{All-from_recursion, All-head, All-weaker}
use Rattle.tv_event.specs.declared.event.Event.TheVariants as events
use Rattle.tv_event.specs.declared.event.Key.{Key}
use Rattle.tv_event.specs.declared.event.Key.TheVariants as keys
use Rattle.tv_model.specs.declared.desc.Desc.{Desc}
use Rattle.tv_model.specs.declared.desc.Dialog.{Dialog}
use Rattle.tv_model.specs.declared.desc.Version.{Version}
use Rattle.tv_model.specs.declared.desc.Version.TheVariants as versions
use Rattle.tv_model.specs.declared.node.Node.{Node}
use Rattle.tv_machine.specs.declared.script.Item.{Item}
use Rattle.tv_machine.specs.declared.script.Item.TheVariants as items
use Rattle.tv_model.specs.Description.LawfulNodes.{IsLimited}
use Rattle.tv_model.specs.Description.Letters.{is_shortcut, marked_of}
use Rattle.tv_model.specs.Description.Marks.{marks}
use Rattle.tv_model.specs.Faults.{IsSound}
use Rattle.tv_model.specs.Faults.Letters.{is_same_key}
use Rattle.tv_machine.specs.State.{OpenDialog, State}
use Rattle.tv_machine.specs.Dialog.Sound.{HasSoundDialogs, IsSoundDialog}
use Rattle.tv_machine.specs.Dialog.Step.{dialog_step}
use Rattle.tv_machine.specs.Output.{session_after, states}
use Rattle.tv_machine.specs.Run.{Session, quiet}
use Rattle.tv_machine.specs.Safe.{StandOnDesktop}
use Rattle.tv_machine.specs.Session.Commands.{works}
use Rattle.tv_machine.specs.Session.Start.{start}
use Rattle.tv_machine.specs.Session.Step.{dialog_with_hold, event_from, is_item_enabled, status_item_of, step, to_dialog, with_empty_log}
use Rattle.tv_machine.specs.Dialog.Lawful.{Marks}
use Rattle.tv_machine.proofs.ListLemmas.{bool_cases, find-none}
use Rattle.tv_machine.proofs.StepLemmas.{key_by_dialog, key_by_item, key_by_menu, step_by_frame, step_by_hold}
use Rattle.tv_declarations.specs.Spelling.{IsDescription, IsDialog}
use Rattle.tv_faults.specs.Sound.Bodies.{dialog_body}
use Rattle.tv_faults.specs.Sound.Letters.{HasOwnLetters, IsShortcut, MarksLetter}
use Rattle.tv_faults.specs.Sound.Names.{HaveOtherNames}
use Rattle.tv_faults.specs.Usable.{IsUsableDialog}
use Rattle.tv_faults.proofs.ExcludeLemmas.{any_decides}
use Rattle.tv_faults.proofs.LackLemmas.{bodies}
use Rattle.tv_faults.proofs.LawfulPartLemmas.{marks_some}
use Rattle.tv_faults.proofs.LetterLemmas.{marks_decides}
use Rattle.tv_faults.proofs.RisingLemmas.{views_rise}
use Rattle.tv_faults.proofs.SoundLemmas.{sound_says}
use Rattle.tv_faults.proofs.UsableLemmas.{sound_usable}
use Rattle.tv_check.proofs.MadeLemmas.{sound_made}
use Rattle.tv_laws.proofs.DeclaredLemmas.{declared-top}
use Rattle.tv_laws.proofs.LeavingLemmas.{esc-cancels, tab-next, up-lets-go}
use Rattle.tv_laws.proofs.OpenLemmas.{opens-fit}
use Rattle.tv_laws.proofs.MarkerLemmas.{marks-once, visible-is-marker}
use Rattle.tv_laws.proofs.RunLemmas.{always-marks-once, always-safe, fit-safe, reached-fit, records-fit, runs-fit, start-fit}
use Rattle.tv_laws.proofs.StepLemmas.{stays-fit}
use Rattle.tv_laws.proofs.TabLemmas.{tab-goes-on}
use Rattle.tv_laws.proofs.KeyLaws.CycleLemmas.{tab-goes-round}
use Rattle.tv_laws.proofs.KeyLaws.LetterLemmas.{marks-alike, one-line-in-first-version}
use Rattle.tv_laws.proofs.KeyLaws.NamedLemmas.{keys-act, named-acts, unable-named}
use Rattle.tv_laws.proofs.KeyLaws.NoneLemmas.{refused-acts-on-none}
use Rattle.tv_laws.proofs.KeyLaws.OrderLemmas.{free-are-controls, refusal-stays, shift-tab-previous, stops-are-tabs}
use Rattle.tv_laws.proofs.KeyLaws.ValueLemmas.{tab-keeps-values}
use Rattle.tv_laws.specs.Letters.{HasLines, HasOwnNames}
use Rattle.tv_laws.proofs.RecordLaws.EscapeLemmas.{esc-cancels-open, stays-over, up-esc-cancels, up-esc-leaves, up-frees-frame, up-frees-mouse}
use Rattle.tv_laws.proofs.RecordLaws.SavedLemmas.{declare-cancel, ends-as-declared, reopens-as-saved, saves-what-it-logs, starts-as-declared}
use Rattle.tv_laws.proofs.RecordLaws.ShowLemmas.{fields-opened}
use Rattle.tv_lawful.proofs.LineLemmas.{has-lines}
use Rattle.tv_lawful.specs.Laws.{AltLettersAreFree, FitByLaws, IsNoStatusKey, KeysReachDialog, LeavesByLaws, LettersByLaws, MarksApartInFirstVersion, PlainKeysAreFree, RecordsByLaws, RunsByLaws, ScriptsReach, TabsByLaws, WorksByLaws, event_in, may_be_status_key}

-- ---- scripts

-- a run of the description that has come to a state
abbrev session : Desc → State → Session
session d s = record { desc = d; state = s }

-- the log that was taken makes no difference to what comes next
follows : (d : Desc) (s : State) (script : List Item)
    → states session_after (quiet (session d s)) script ≡ quiet (session d (states (step d) s (filter_map event_in script)))
follows d s [] = refl
follows d s (items.Event e ∷ script) = follows d (step d s e) script
follows d s (items.Shot ∷ script) = follows d s script
follows d s (items.Colors ∷ script) = follows d s script

scripts-reach : (d : Desc) → ScriptsReach d
scripts-reach d script = follows d (start d) script

-- ---- Alt with a letter that a dialog marks

or-true : (b : Bool) → (b || true) ≡ true
or-true true = refl
or-true false = refl

any-at : {A : Type 0} (p : A → Bool) (xs : List A) (i : ℕ) (d : A) → i < length xs → p (get_or xs i d) ≡ true → list_any p xs ≡ true
any-at p [] i d less is = absurd (omega (arith, less))
any-at p (x ∷ xs) zero d less is = ap (λ b. b || list_any p xs) is
any-at p (x ∷ xs) (suc i) d less is = ap (λ b. p x || b) (any-at p xs i d (omega (arith, less)) is) ∙ or-true (p x)

shortcut-is : (letter : ℕ) (dialog : Dialog) → Decides (is_shortcut letter dialog) (IsShortcut letter dialog)
shortcut-is letter dialog =
    any_decides (λ node. list_any (marks letter) (marked_of node.kind)) (λ node. Any (λ text. MarksLetter text letter) (marked_of node.kind))
    (λ node. any_decides (marks letter) (λ text. MarksLetter text letter) (marks_decides letter) (marked_of node.kind)) dialog.views

shortcut-of : (letter : ℕ) (dialog : Dialog) (k : ℕ) (view : Node) → k < length dialog.views → Marks letter (get_or dialog.views k view) → IsShortcut letter dialog
shortcut-of letter dialog k view less marked =
    (shortcut-is letter dialog).0
    (any-at (λ node. list_any (marks letter) (marked_of node.kind)) dialog.views k view less (marks_some letter (get_or dialog.views k view).kind marked))

differs : (own : Key) (letter : ℕ) → (own ≡ keys.Alt letter → ⊥) → is_same_key own (keys.Alt letter) ≡ false
differs (keys.Alt ch) letter other = bool_cases (ch == letter) (λ b. b ≡ false) (λ is. absurd (other (ap keys.Alt (eqb-true ch letter is)))) (λ is. refl)
differs _ letter other = refl

alt-letters : (d : Desc) → IsSound d → All (AltLettersAreFree d) d.dialogs
alt-letters d sound i dialog less k view within letter marked j item fewer =
    let here = get_or d.dialogs i dialog in
    differs (get_or d.status j item).key letter
    (λ same. ((sound_says d sound).keys.free j item fewer letter same).dialogs i dialog less (shortcut-of letter here k view within marked))

-- ---- keys

same-plain : (own k : Key) → may_be_status_key k ≡ false → is_same_key own k ≡ false
same-plain own (keys.Function n) plain = absurd cc
same-plain own (keys.Ctrl ch) plain = absurd cc
same-plain own (keys.Alt ch) plain = absurd cc
same-plain (keys.Function n) _ plain = refl
same-plain (keys.Ctrl ch) _ plain = refl
same-plain (keys.Alt ch) _ plain = refl
same-plain _ _ plain = refl

plain-keys : (d : Desc) → PlainKeysAreFree d
plain-keys d k plain i item less = same-plain _ k plain

no-item : (d : Desc) (s : State) (k : Key) → IsNoStatusKey d k → status_item_of d s k ≡ None
no-item d s k free =
    find-none (λ item. is_same_key item.key k && is_item_enabled d s item) d.status
    (λ i item less. ap (λ b. b && is_item_enabled d s (get_or d.status i item)) (free i item less))

-- a key that no status item has comes to the open dialog
key-step : (d : Desc) (s : State) (o : OpenDialog) (k : Key) → s.dialog ≡ Some o → o.held ≡ None → s.frame ≡ None → s.menu ≡ None → s.is_over ≡ false
    → IsNoStatusKey d k → step d s (events.Key k) ≡ to_dialog d o (events.Key k) (with_empty_log s)
key-step d s o k some idle loose menu over free =
    ap (λ b. if b then with_empty_log s else step_by_frame d s.frame (events.Key k) (with_empty_log s)) over
    ∙ ap (λ frame. step_by_frame d frame (events.Key k) (with_empty_log s)) loose
    ∙ ap (λ x. step_by_hold d (dialog_with_hold x) (events.Key k) (with_empty_log s)) some
    ∙ ap (λ h. step_by_hold d (if is_some h then Some o else None) (events.Key k) (with_empty_log s)) idle
    ∙ ap (λ m. key_by_menu d m k (with_empty_log s)) menu
    ∙ ap (λ item. key_by_item d item k (with_empty_log s)) (no-item d (with_empty_log s) k free)
    ∙ ap (λ x. key_by_dialog d x k (with_empty_log s)) some

keys-reach : (d : Desc) → HasSoundDialogs d → KeysReachDialog d
keys-reach d dialogs s o dialog k f some there idle loose free =
    let x = f.«open» o some in
    key-step d s o k some idle loose x.menu x.over free
    ∙ ap (works (with_empty_log s) o (λ y m. dialog_step y (event_from o.origin (events.Key k)) m)) there

-- ---- dialogs

names-of : (d : Desc) → IsSound d → All HasOwnNames d.dialogs
names-of d sound = ((bodies d (λ body. AllPairs HaveOtherNames body.views)).0 (sound_says d sound).names.views).1

stand-on-desktop : (d : Desc) → IsSound d → StandOnDesktop d
stand-on-desktop d sound k dialog less =
    let own : Dialog = get_or d.dialogs k dialog in
    let use_of : IsUsableDialog d own = (sound_usable d sound).dialogs k dialog less in
    declared-top d own (All-head IsLimited own.node own.views use_of.nodes) use_of.within

tabs-of : (d : Dialog) → IsSoundDialog d → TabsByLaws d
tabs-of d sound = record {
  stops = stops-are-tabs d sound;
  controls = free-are-controls d sound;
  asks_next = tab-next d;
  asks_previous = shift-tab-previous d;
  goes_on = tab-goes-on d sound;
  stays = refusal-stays d sound;
  keeps = tab-keeps-values d sound;
  round = tab-goes-round d sound;
}

own-of : (d : Desc) → IsSound d → All (λ own. HasOwnLetters (dialog_body d.version own)) d.dialogs
own-of d sound = ((bodies d HasOwnLetters).0 (sound_says d sound).letters).1

lines-of : (d : Desc) → IsDescription d → IsSound d → All (HasLines d.version) d.dialogs
lines-of d is sound k dialog less =
    let s = sound_says d sound in
    let stands : IsDialog (get_or d.dialogs k dialog) = All-from_recursion IsDialog d.dialogs is.dialogs k dialog less in
    has-lines (get_or d.dialogs k dialog) (views_rise d is k dialog less) stands.views (s.rules k dialog less) d.version (own-of d sound k dialog less)

apart-in-first : (version : Version) (d : Dialog) → HasOwnLetters (dialog_body version d) → MarksApartInFirstVersion version d
apart-in-first versions.One d own = λ i j text less below letter has other. own i j text less below letter refl has other
apart-in-first versions.Two d own = tt

letters-of : (version : Version) (d : Dialog) → IsSoundDialog d → HasOwnLetters (dialog_body version d) → HasLines version d → LettersByLaws version d
letters-of version d sound own lines = record {
  certificate = record {
    lines = lines;
    first = one-line-in-first-version d;
    apart = apart-in-first version d own;
    marker = marks-alike version d lines;
    once = marks-once d sound;
    visible = visible-is-marker d sound;
  };
  keys = keys-act d sound version lines;
  unable = unable-named d;
  refused = refused-acts-on-none d;
  acts = named-acts d sound version lines;
}

works-of : (d : Dialog) → IsSoundDialog d → WorksByLaws d
works-of d sound = record {
  opens = opens-fit d sound;
  shows = fields-opened d sound;
  stays = stays-fit d sound;
  lets_go = up-lets-go d sound;
  cancels = esc-cancels d;
}

-- ---- runs

records-of : (d : Desc) → HasSoundDialogs d → RecordsByLaws d
records-of d dialogs = record {
  ends = ends-as-declared d dialogs;
  cancel = declare-cancel d dialogs;
  saves = saves-what-it-logs d dialogs;
  reopens = reopens-as-saved d dialogs;
  starts = starts-as-declared d dialogs;
}

leaves-of : (d : Desc) → HasSoundDialogs d → LeavesByLaws d
leaves-of d dialogs = record {
  cancels = esc-cancels-open d dialogs;
  frees = up-frees-mouse d dialogs;
  frees_frame = up-frees-frame d dialogs;
  leaves = up-esc-leaves d dialogs;
  cancels_left = up-esc-cancels d dialogs;
  over = stays-over d;
}

fit-of : (d : Desc) → HasSoundDialogs d → StandOnDesktop d → FitByLaws d
fit-of d dialogs stand = record {
  starts = start-fit d dialogs;
  runs = runs-fit d dialogs;
  records = records-fit d;
  reaches = reached-fit d dialogs;
  safe = fit-safe d dialogs stand;
  always_safe = always-safe d dialogs stand;
}

pub RunsByLaws-of : (d : Desc) → IsDescription d → HasSoundDialogs d → IsSound d → RunsByLaws d
RunsByLaws-of d is dialogs sound = record {
  certified = sound_made d sound;
  names = names-of d sound;
  scripts = scripts-reach d;
  fit = fit-of d dialogs (stand-on-desktop d sound);
  once = always-marks-once d dialogs;
  keys = record { reach = keys-reach d dialogs; plain = plain-keys d; alt = alt-letters d sound };
  tabs = All-weaker IsSoundDialog TabsByLaws tabs-of d.dialogs dialogs;
  letters = λ k dialog less. letters-of d.version (get_or d.dialogs k dialog) (dialogs k dialog less) (own-of d sound k dialog less) (lines-of d is sound k dialog less);
  dialogs = All-weaker IsSoundDialog WorksByLaws works-of d.dialogs dialogs;
  records = records-of d dialogs;
  leaves = leaves-of d dialogs;
}
