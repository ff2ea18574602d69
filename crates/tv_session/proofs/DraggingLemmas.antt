-- What the machine makes of a frame that is dragged, and how far off its corner may come.
use Rattle.std.proofs.Common.{◌≡◌, ℤ, pos, ◌≤ℤ◌, Bool, true, false, if◌then◌else◌, List, [], ◌∷◌, Option, Some, None, arith, refl, sym, ap, subst, ◌∙◌}
use Rattle.std.specs.Int.{int_max, int_min}
use Rattle.std.specs.Option.{option_map}
use Rattle.std.specs.Prelude.{slice_get}
use Rattle.std.proofs.lemmas.Int.{clamps, ints}
use Rattle.std.proofs.lemmas.List.Elements.{All-head}
use Rattle.tv_cells.specs.declared.rect.Point.{Point}
use Rattle.tv_view.specs.Meaning.{Leaf}
use Rattle.tv_model.specs.declared.desc.Desc.{Desc}
use Rattle.tv_model.specs.declared.desc.Dialog.{Dialog}
use Rattle.tv_model.specs.Description.LawfulNodes.{IsLimited}
use Rattle.tv_model.specs.Description.Numbers.{IsBetween}
use Rattle.tv_machine.specs.State.{OpenDialog, OpenWindow, State}
use Rattle.tv_machine.specs.Dialog.Sound.{HasSoundDialogs}
use Rattle.tv_machine.specs.Safe.{dragged_width, front_width}
use Rattle.tv_machine.specs.Screen.Bodies.{window_of}
use Rattle.tv_machine.specs.Session.Dragging.{clamped, let_go, moved_frame, moved_front, moved_dialog, placed}
use Rattle.tv_machine.proofs.ListLemmas.{option_cases}
use Rattle.tv_laws.specs.Runs.{IsFitState}
use Rattle.tv_laws.proofs.WorkLemmas.{sound-at}
use Rattle.tv_window.specs.DeclaredWindows.{AreDeclared, IsDeclared}
use Rattle.tv_window.specs.Desk.{front_id}
use Rattle.tv_window.specs.declared.window.WindowOf.{WindowOf}
use Rattle.tv_window.proofs.StackLemmas.{head_is}
use Rattle.tv_session.specs.Running.{IsAwake, IsDragged, seen_frame, with_moved_line}
use Rattle.tv_session.specs.declared.dragging.HeldFrame.{HeldFrame as Held}
use Rattle.tv_session.specs.declared.run.RunOf.{RunOf}
use Rattle.tv_session.proofs.CommandLemmas.{none_some, same_some}
use Rattle.tv_session.proofs.RunningLemmas.{run_windows}

-- ---- the corner

clamped-is : (low high n : ℤ) → low ≤ℤ high → int_max low (int_min n high) ≡ clamped low high n
clamped-is low high n h = grind (arith, ints, clamps)

-- what `clamp` makes of a number, where the code reads it and its limit otherwise
pub clamped-from : (low high n result read limit : ℤ) → low ≤ℤ high → read ≡ n → limit ≡ high → result ≡ int_max low (int_min read limit) → result ≡ clamped low high n
clamped-from low high n result read limit order same top is =
    is ∙ ap (λ x. int_max low (int_min x limit)) same ∙ ap (λ x. int_max low (int_min n x)) top ∙ clamped-is low high n order

-- a point by its column and its row
abbrev pub point : ℤ → ℤ → Point
point x y = record { x = x; y = y }

pub point-is : (x y column row : ℤ) → x ≡ column → y ≡ row → point x y ≡ point column row
point-is x y column row e f = ap (λ n. point n y) e ∙ ap (point column) f

-- ---- how wide frames are

small_from : (w width : ℤ) → w ≤ℤ pos 132 → Some w ≡ Some width → width ≤ℤ pos 132
small_from w width small same = subst (λ n. n ≤ℤ pos 132) (same_some w width same) small

module _ {V : Type 0} (look : V → Leaf) (d : Desc) (width : ℤ) where
  window_small : (o : OpenWindow) (window : WindowOf V) → IsDeclared look d o window → option_map (λ declared. declared.node.w) (window_of d o.id) ≡ Some width → width ≤ℤ pos 132
  window_small o window is there =
      let kept = head_is is.declared window.head is.of.head in
      small_from is.declared.node.w width (subst (λ w. w ≤ℤ pos 132) (ap (λ head. head.w) kept.is) is.limited.size.across.1)
      (ap (option_map (λ declared. declared.node.w)) (sym is.named) ∙ there)

  front_small : (stack : List OpenWindow) (windows : List (WindowOf V)) → AreDeclared look d stack windows → front_width d stack ≡ Some width → width ≤ℤ pos 132
  front_small [] windows are there = absurd (none_some width there)
  front_small (o ∷ behind) [] are there = absurd are
  front_small (o ∷ behind) (window ∷ windows) are there = window_small o window are.0 there

  dialog_small : HasSoundDialogs d → (o : OpenDialog) → option_map (λ dialog. dialog.node.w) (slice_get d.dialogs o.place) ≡ Some width → width ≤ℤ pos 132
  dialog_small sound o =
      option_cases (slice_get d.dialogs o.place) (λ found. option_map (λ dialog. dialog.node.w) found ≡ Some width → width ≤ℤ pos 132)
      (λ none there. absurd (none_some width there))
      (λ dialog found there. let limited = All-head IsLimited dialog.node dialog.views (sound-at d sound o.place dialog found).lawful.limits in
      small_from dialog.node.w width limited.w.1 there)

  dragged_small : HasSoundDialogs d → (stack : List OpenWindow) (windows : List (WindowOf V)) → AreDeclared look d stack windows
      → (o : Option OpenDialog) → dragged_width d o stack ≡ Some width → width ≤ℤ pos 132
  dragged_small sound stack windows are None there = front_small stack windows are there
  dragged_small sound stack windows are (Some o) there = dialog_small sound o there

-- so the column that is held lies in the first 132
pub held-column : {V : Type 0} (look : V → Leaf) (d : Desc) (frame : Held) (s : State) (run : RunOf V) → IsDragged look d frame s run → IsBetween (pos 0) (pos 131) frame.off
held-column look d frame s run a =
    let is = a.fit.frame (seen_frame frame) a.held in
    let small : is.width ≤ℤ pos 132 = dragged_small look d is.width a.sound s.windows run.desk.windows.items.items a.stands.desk.windows s.dialog is.there in
    let off = is.column in
    (off.0, omega (arith, ints))

-- ---- what is held

-- the open dialog told whether the point is on its top row
pub gripped : (grip : Bool) (origin corner : Point) → Some corner ≡ (if grip then Some origin else None) → (grip ≡ true) × (origin ≡ corner)
gripped true origin corner e = (refl, same_some origin corner (sym e))
gripped false origin corner e = absurd (none_some corner (sym e))

pub not-gripped : (grip : Bool) (origin : Point) → None ≡ (if grip then Some origin else None) → grip ≡ false
not-gripped true origin e = absurd (none_some origin e)
not-gripped false origin e = refl

-- ---- what is logged

front_line : (stack : List OpenWindow) (corner : Point) (s : State) → moved_front stack corner s ≡ with_moved_line (front_id stack) corner s
front_line [] corner s = refl
front_line (o ∷ behind) corner s = refl

dialog_line : (found : Option Dialog) (corner : Point) (s : State) → moved_dialog found corner s ≡ with_moved_line (option_map (λ dialog. dialog.node.id) found) corner s
dialog_line None corner s = refl
dialog_line (Some dialog) corner s = refl

-- the line of the front window, or of the open dialog
pub front-moved : (d : Desc) (corner : Point) (s : State) → s.dialog ≡ None
    → moved_frame d s.dialog corner s ≡ with_moved_line (front_id s.windows) corner s
front-moved d corner s none = ap (λ o. moved_frame d o corner s) none ∙ front_line s.windows corner s

pub dialog-moved : (d : Desc) (o : OpenDialog) (corner : Point) (s : State) → s.dialog ≡ Some o
    → moved_frame d s.dialog corner s ≡ with_moved_line (option_map (λ dialog. dialog.node.id) (slice_get d.dialogs o.place)) corner s
dialog-moved d o corner s some = ap (λ x. moved_frame d x corner s) some ∙ dialog_line (slice_get d.dialogs o.place) corner s

pub placed-log : (o : Option OpenDialog) (corner : Point) (s : State) → (placed o corner s).log ≡ s.log
placed-log None corner s = refl
placed-log (Some o) corner s = refl

-- ---- the release

-- nothing is held any longer
pub let_go_fit : (d : Desc) (s : State) → IsFitState d s → IsFitState d (let_go s)
let_go_fit d s f = record {
  kept = record { saved = f.kept.saved; records = f.kept.records; places = f.kept.places; ordered = f.kept.ordered; ends = f.kept.ends };
  «open» = λ o e. let x = f.«open» o e in record { dialog = x.dialog; there = x.there; fit = x.fit; menu = x.menu; over = x.over; top = x.top };
  frame = λ held e. absurd (none_some held e);
}

pub let-go : {V : Type 0} (look : V → Leaf) (d : Desc) (frame : Held) (s : State) (run : RunOf V) → IsDragged look d frame s run
    → IsAwake look d (let_go s) (record run { frame = None })
let-go look d frame s run a = record {
  stands = run_windows look d s (let_go s) run (record run { frame = None }) a.stands a.stands.desk refl refl refl refl refl refl a.stands.over refl a.stands.log;
  held = refl;
  fit = let_go_fit d s a.fit;
  sound = a.sound;
  size = a.size;
  over = a.over;
  empty = a.empty;
}
