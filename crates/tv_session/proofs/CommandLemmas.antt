-- What commands come to, by what is open.
use Rattle.std.proofs.Common.{arith, ◌≡◌, ◌≤◌, ℕ, Bool, true, false, nat_le, if◌then◌else◌, List, [], ◌∷◌, Option, Some, None, is_some, refl, sym, ap, subst, ◌∙◌}
use Rattle.std.specs.Prelude.{slice_get}
use Rattle.std.proofs.lemmas.Bool.{true≢false}
use Rattle.std.proofs.lemmas.Bool.Decides.{nat_tests}
use Rattle.tv_event.specs.declared.event.Command.{Command}
use Rattle.tv_event.specs.declared.event.Event.TheVariants as events
use Rattle.tv_model.specs.declared.desc.Desc.{Desc}
use Rattle.tv_model.specs.declared.desc.Dialog.{Dialog}
use Rattle.tv_model.specs.declared.desc.Menu.{Menu}
use Rattle.tv_model.specs.declared.log.LogLine.TheVariants as lines
use Rattle.tv_machine.specs.State.{Held, OpenDialog, State}
use Rattle.tv_machine.specs.Dialog.Ending.{command}
use Rattle.tv_machine.specs.Dialog.Modal.{Modal}
use Rattle.tv_machine.specs.Dialog.Step.{dialog_step, step_by}
use Rattle.tv_machine.specs.Session.Commands.{after_work, command_by_dialog, do_command, idle_command, in_dialog, modal_of, open_first, own_command, with_line_logged, works}
use Rattle.tv_machine.specs.Session.Step.{dialog_with_hold, to_dialog}
use Rattle.tv_laws.specs.Steps.{RespectsHold}
use Rattle.tv_machine.proofs.ListLemmas.{bool_cases, option_cases}

-- ---- what is open

pub none_is : {A : Type 0} (o : Option A) → is_some o ≡ false → o ≡ None
none_is None e = refl
none_is (Some x) e = absurd (true≢false e)

pub some_is : {A : Type 0} (o : Option A) → is_some o ≡ true → (x : A) × (o ≡ Some x)
some_is None e = absurd (true≢false (sym e))
some_is (Some x) e = (x, refl)

pub none_some : {A : Type 0} (x : A) → None ≡ Some x → ⊥
none_some x e = true≢false (sym (ap is_some e))

pub same_some : {A : Type 0} (x y : A) → Some x ≡ Some y → x ≡ y
same_some x y e = cc

-- nothing holds the mouse in the open dialog
pub unheld : (o : OpenDialog) → dialog_with_hold (Some o) ≡ None → o.held ≡ None
unheld o e =
    none_is o.held (bool_cases (is_some o.held) (λ b. (if b then Some o else None) ≡ None → b ≡ false)
    (λ is none. absurd (none_some o (sym none))) (λ is none. refl) e)

-- ---- the first menu

pub record IsAsideOfMenu (s t : State) : Type 0 where
  pub windows : t.windows ≡ s.windows
  pub dialog : t.dialog ≡ s.dialog
  pub saved : t.saved ≡ s.saved
  pub overwriting : t.overwriting ≡ s.overwriting
  pub over : t.is_over ≡ s.is_over
  pub frame : t.frame ≡ s.frame
  pub log : t.log ≡ s.log

pub first_aside : (menus : List Menu) (s : State) → IsAsideOfMenu s (open_first menus s)
first_aside [] s = record { windows = refl; dialog = refl; saved = refl; overwriting = refl; over = refl; frame = refl; log = refl }
first_aside (menu ∷ menus) s = record { windows = refl; dialog = refl; saved = refl; overwriting = refl; over = refl; frame = refl; log = refl }

-- ---- commands

-- a command that opens nothing is logged
pub own_logged : (d : Desc) (number : ℕ) (o : Option ℕ) (s : State) → o ≡ None → 100 ≤ number → own_command d number o s ≡ with_line_logged (lines.Command number) s
own_logged d number o s none high =
    let is_own : nat_le 100 number ≡ true = grind (arith, nat_tests) in
    ap (λ x. own_command d number x s) none ∙ ap (λ (b : Bool). if b then with_line_logged (lines.Command number) s else s) is_own

step_command : (dialog : Dialog) (held : Option Held) (c : Command) (m : Modal) → held ≡ None → step_by dialog held (events.Command c) m ≡ command dialog c.0 m
step_command dialog held c m none = ap (λ h. step_by dialog h (events.Command c) m) none

-- the open dialog gets a command as an event
pub command_handed : (d : Desc) (s : State) (o : OpenDialog) (c : Command) → o.held ≡ None
    → to_dialog d o (events.Command c) s ≡ in_dialog d s o (λ dialog m. command dialog c.0 m)
command_handed d s o c none =
    option_cases (slice_get d.dialogs o.place)
    (λ found. works s o (λ dialog m. dialog_step dialog (events.Command c) m) found ≡ works s o (λ dialog m. command dialog c.0 m) found)
    (λ is. refl) (λ dialog is. ap (λ x. after_work s o x x.ended) (step_command dialog o.held c (modal_of s o) none))

pub given_command : (held : Option Held) (c : Command) → held ≡ None → RespectsHold held (events.Command c)
given_command held c none = subst (λ h. RespectsHold h (events.Command c)) (sym none) tt

-- a command with a dialog open, and without one
pub in_open : (d : Desc) (number : ℕ) (s : State) (o : OpenDialog) → s.dialog ≡ Some o
    → do_command d number s ≡ in_dialog d s o (λ dialog m. command dialog number m)
in_open d number s o is = ap (λ x. command_by_dialog d number x s) is

pub in_idle : (d : Desc) (number : ℕ) (s : State) → s.dialog ≡ None → do_command d number s ≡ idle_command d number s
in_idle d number s is = ap (λ x. command_by_dialog d number x s) is

-- what holds the mouse is in the open dialog
pub held_in : (o : Option OpenDialog) → is_some (dialog_with_hold o) ≡ true → (x : OpenDialog) × (o ≡ Some x) × (dialog_with_hold o ≡ Some x)
held_in None e = absurd (true≢false (sym e))
held_in (Some o) e = (
  o,
  refl,
  bool_cases (is_some o.held) (λ b. is_some (if b then Some o else None) ≡ true → (if b then Some o else None) ≡ Some o)
      (λ is some. refl) (λ is some. absurd (true≢false (sym some))) e,
)
