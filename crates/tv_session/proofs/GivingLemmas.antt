-- A run to which the program gives a command.
use Rattle.std.proofs.Common.{◌≡◌, ℕ, Bool, true, false, not, ◌&&◌, if◌then◌else◌, Option, Some, None, is_none, refl, sym, ap}
use Rattle.std.proofs.lemmas.Bool.{true≢false}
use Rattle.tv_laws.proofs.RunLemmas.{shut-fit}
use Rattle.tv_machine.specs.Session.Commands.{do_command}
use Rattle.tv_machine.specs.Session.Enabled.{is_enabled_now}
use Rattle.tv_machine.specs.Session.Menu.{close_menu}
use Rattle.tv_machine.specs.Session.Step.{dialog_with_hold, give_command, takes_command, with_empty_log}
use Rattle.tv_machine.specs.State.{State}
use Rattle.tv_menu.specs.Bar.{IsBarOf, open_of}
use Rattle.tv_menu.specs.declared.bars.MenuBar.{MenuBar}
use Rattle.tv_model.specs.declared.desc.Desc.{Desc}
use Rattle.tv_session.specs.Running.{IsAwake}
use Rattle.tv_session.specs.declared.run.RunOf.{RunOf}
use Rattle.tv_session.proofs.EventLemmas.{not_true}
use Rattle.tv_session.proofs.RunningLemmas.{run_menu}
use Rattle.tv_view.specs.Meaning.{Leaf}

-- ---- whether it is done

both_true : (a b : Bool) → (a && b) ≡ true → (a ≡ true) × (b ≡ true)
both_true true b e = (refl, e)
both_true false b e = absurd (true≢false (sym e))

is_there_not : {A : Type 0} (o : Option A) → is_none o ≡ true → o ≡ None
is_there_not None e = refl
is_there_not (Some x) e = absurd (true≢false (sym e))

-- then the run goes on, and nothing holds the mouse
pub record IsTaken (s : State) : Type 0 where
  pub over : s.is_over ≡ false
  pub free : s.frame ≡ None
  pub loose : dialog_with_hold s.dialog ≡ None

pub is-taken : (d : Desc) (s : State) (number : ℕ) → takes_command d s number ≡ true → IsTaken s
is-taken d s number takes =
    let first = both_true (not s.is_over && is_none s.frame && is_none (dialog_with_hold s.dialog)) (is_enabled_now d s number) takes in
    let second = both_true (not s.is_over && is_none s.frame) (is_none (dialog_with_hold s.dialog)) first.0 in
    let third = both_true (not s.is_over) (is_none s.frame) second.0 in
    record { over = not_true s.is_over third.0; free = is_there_not s.frame third.1; loose = is_there_not (dialog_with_hold s.dialog) second.1 }

pub given-taken : (d : Desc) (s : State) (number : ℕ) → takes_command d s number ≡ true → give_command d s number ≡ do_command d number (close_menu (with_empty_log s))
given-taken d s number takes = ap (λ (b : Bool). if b then do_command d number (close_menu (with_empty_log s)) else with_empty_log s) takes

pub given-refused : (d : Desc) (s : State) (number : ℕ) → takes_command d s number ≡ false → give_command d s number ≡ with_empty_log s
given-refused d s number refused = ap (λ (b : Bool). if b then do_command d number (close_menu (with_empty_log s)) else with_empty_log s) refused

-- ---- how it is done

module _ {V : Type 0} (look : V → Leaf) (d : Desc) where
  -- the menu closes
  pub shut-awake : (s : State) (run : RunOf V) (bar : MenuBar) → IsAwake look d s run → IsBarOf d bar → open_of bar ≡ None
      → IsAwake look d (close_menu s) (record run { bar = bar })
  shut-awake s run bar a is shut = record {
    stands = run_menu look d s (close_menu s) run (record run { bar = bar }) a.stands refl refl is (sym shut) refl refl refl refl a.stands.over a.stands.frame a.stands.log;
    held = a.held;
    fit = shut-fit d a.sound s a.fit;
    sound = a.sound;
    size = a.size;
    over = a.over;
    empty = a.empty;
  }
