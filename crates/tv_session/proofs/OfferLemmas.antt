-- A run whose menu bar took an event.
use Rattle.std.proofs.Common.{◌≡◌, None, refl}
use Rattle.tv_view.specs.Meaning.{Leaf}
use Rattle.tv_model.specs.declared.desc.Desc.{Desc}
use Rattle.tv_machine.specs.State.{State}
use Rattle.tv_menu.specs.Bar.{IsBarOf, open_of}
use Rattle.tv_menu.specs.declared.bars.MenuBar.{MenuBar}
use Rattle.tv_session.specs.Running.{IsAwake, IsRun}
use Rattle.tv_session.specs.declared.run.RunOf.{RunOf}
use Rattle.tv_session.proofs.FitLemmas.{menu_fit}
use Rattle.tv_session.proofs.RunningLemmas.{run_menu}

module _ {V : Type 0} (look : V → Leaf) (d : Desc) where
  pub offered_run : (s : State) (run : RunOf V) (bar : MenuBar) → IsAwake look d s run → IsBarOf d bar
      → IsRun look d (record s { menu = open_of bar }) (record run { bar = bar })
  offered_run s run bar a is =
      run_menu look d s (record s { menu = open_of bar }) run (record run { bar = bar }) a.stands refl refl is refl refl refl refl refl a.stands.over a.stands.frame a.stands.log

  pub offered_awake : (s : State) (run : RunOf V) (bar : MenuBar) → IsAwake look d s run → s.dialog ≡ None → IsBarOf d bar
      → IsAwake look d (record s { menu = open_of bar }) (record run { bar = bar })
  offered_awake s run bar a none is = record {
    stands = offered_run s run bar a is;
    held = a.held;
    fit = menu_fit d s (open_of bar) none a.held a.fit;
    sound = a.sound;
    size = a.size;
    over = a.over;
    empty = a.empty;
  }
