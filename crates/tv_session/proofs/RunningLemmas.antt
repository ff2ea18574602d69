-- What a run's dialogs are where other parts of the state change.
use Rattle.std.proofs.Common.{false, arith, refl, ◌≡◌, ◌≤◌, List, [], length, Option, Some, None, sym, ap, subst, ◌∙◌}
use Rattle.tv_cells.specs.declared.rect.Rect.{Rect}
use Rattle.tv_view.specs.Meaning.{Leaf}
use Rattle.tv_model.specs.declared.desc.Desc.{Desc}
use Rattle.tv_model.specs.declared.log.LogLine.{LogLine}
use Rattle.tv_window.specs.Desk.{IsDesk}
use Rattle.tv_window.specs.declared.desk.DeskOf.{DeskOf}
use Rattle.tv_menu.specs.Bar.{IsBarOf, open_of}
use Rattle.tv_machine.specs.State.{HeldFrame, OpenWindow, State}
use Rattle.tv_machine.specs.Session.Desktop.{raise_found}
use Rattle.tv_machine.specs.Session.Step.{with_empty_log}
use Rattle.tv_machine.specs.Dialog.Sound.{HasSoundDialogs}
use Rattle.tv_laws.specs.Runs.{IsFitState}
use Rattle.tv_menu.specs.Lawful.{IsLawfulScreen}
use Rattle.tv_session.proofs.FitLemmas.{emptied_fit}
use Rattle.std.specs.Option.{option_map}
use Rattle.tv_dialogs.proofs.SessionLemmas.{same-dialogs}
use Rattle.tv_dialogs.specs.Dialogs.{AreDialogs, AreOfRun}
use Rattle.tv_session.specs.Running.{IsAwake, IsAwakeSince, IsAwakeWith, IsRun, seen_frame}
use Rattle.tv_session.specs.declared.run.RunOf.{RunOf}

module _ {V : Type 0} (look : V → Leaf) (d : Desc) where
  -- what its calls rely on
  pub of_run : (s : State) (run : RunOf V) → IsAwake look d s run → AreOfRun look d s run.dialogs
  of_run s run a = record { sound = a.sound; fit = a.fit; are = a.stands.dialogs }

  -- another state, whose dialogs are the same
  pub run_windows : (s t : State) (old new : RunOf V) → IsRun look d s old → IsDesk look d t.windows new.desk → new.dialogs ≡ old.dialogs
      → new.bar ≡ old.bar → t.menu ≡ s.menu → t.dialog ≡ s.dialog → t.saved ≡ s.saved → t.overwriting ≡ s.overwriting
      → new.is_over ≡ t.is_over → t.frame ≡ option_map seen_frame new.frame → new.log.items ≡ t.log → IsRun look d t new
  run_windows s t old new r desk dialogs bar menu dialog saved overwriting over frame log = record {
    desk = desk;
    dialogs = subst (AreDialogs look d t) (sym dialogs) (same-dialogs look d s t old.dialogs (sym dialog) (sym saved) (sym overwriting) r.dialogs);
    bar = subst (IsBarOf d) (sym bar) r.bar;
    menu = menu ∙ r.menu ∙ ap open_of (sym bar);
    frame = frame;
    over = over;
    log = log;
  }

  -- another state, whose menu alone may be another
  pub run_menu : (s t : State) (old new : RunOf V) → IsRun look d s old → new.desk ≡ old.desk → new.dialogs ≡ old.dialogs
      → IsBarOf d new.bar → t.menu ≡ open_of new.bar → t.windows ≡ s.windows → t.dialog ≡ s.dialog → t.saved ≡ s.saved → t.overwriting ≡ s.overwriting
      → new.is_over ≡ t.is_over → t.frame ≡ option_map seen_frame new.frame → new.log.items ≡ t.log → IsRun look d t new
  run_menu s t old new r desk dialogs bar menu windows dialog saved overwriting over frame log = record {
    desk = subst (IsDesk look d t.windows) (sym desk) (subst (λ w. IsDesk look d w old.desk) (sym windows) r.desk);
    dialogs = subst (AreDialogs look d t) (sym dialogs) (same-dialogs look d s t old.dialogs (sym dialog) (sym saved) (sym overwriting) r.dialogs);
    bar = bar;
    menu = menu;
    frame = frame;
    over = over;
    log = log;
  }

  -- another state, whose dialogs may be others
  pub run_dialogs : (s t : State) (old new : RunOf V) → IsRun look d s old → AreDialogs look d t new.dialogs → new.desk ≡ old.desk
      → new.bar ≡ old.bar → t.menu ≡ s.menu → t.windows ≡ s.windows → new.is_over ≡ t.is_over → t.frame ≡ option_map seen_frame new.frame → new.log.items ≡ t.log → IsRun look d t new
  run_dialogs s t old new r dialogs desk bar menu windows over frame log = record {
    desk = subst (IsDesk look d t.windows) (sym desk) (subst (λ w. IsDesk look d w old.desk) (sym windows) r.desk);
    dialogs = dialogs;
    bar = subst (IsBarOf d) (sym bar) r.bar;
    menu = menu ∙ r.menu ∙ ap open_of (sym bar);
    frame = frame;
    over = over;
    log = log;
  }

  -- nothing is logged yet
  pub empty_log : (s : State) (run : RunOf V) → IsAwake look d s run → run.log.items ≡ []
  empty_log s run a = a.stands.log ∙ a.empty

  pub short_log : (s : State) (run : RunOf V) → IsAwake look d s run → length run.log.items ≤ 66
  short_log s run a = subst (λ (ls : List LogLine). length ls ≤ 66) (sym (empty_log s run a)) (omega arith)

  pub no_lines : (s : State) (run : RunOf V) → IsAwake look d s run → length run.log.items ≡ 0
  no_lines s run a = ap (λ (ls : List LogLine). length ls) (empty_log s run a)

  -- a window that was found comes to the front
  pub run_raised : (s : State) (found : Option OpenWindow) (old mid : RunOf V) (desk : DeskOf V) (damage : List Rect) → IsRun look d s old → mid ≡ old
      → IsDesk look d (raise_found found s).windows desk → IsRun look d (raise_found found s) (record mid { desk = desk; damage = damage })
  run_raised s None old mid desk damage r same is = run_windows s s old (record mid { desk = desk; damage = damage }) r is (ap (λ x. x.dialogs) same) (ap (λ x. x.bar) same) refl refl refl refl
      (ap (λ x. x.is_over) same ∙ r.over) (r.frame ∙ sym (ap (λ x. option_map seen_frame x.frame) same)) (ap (λ x. x.log.items) same ∙ r.log)
  run_raised s (Some w) old mid desk damage r same is = run_windows s (raise_found (Some w) s) old (record mid { desk = desk; damage = damage }) r is (ap (λ x. x.dialogs) same) (ap (λ x. x.bar) same) refl refl refl refl
      (ap (λ x. x.is_over) same ∙ r.over) (r.frame ∙ sym (ap (λ x. option_map seen_frame x.frame) same)) (ap (λ x. x.log.items) same ∙ r.log)

  -- nothing was done with the windows
  pub still : (since s : State) (run : RunOf V) (desk : DeskOf V) (damage : List Rect) → desk ≡ run.desk → damage ≡ run.damage
      → IsAwakeSince look d since s run → IsAwakeSince look d since s (record run { desk = desk; damage = damage })
  still since s run desk damage same undamaged w =
      subst (λ x. IsAwakeSince look d since s (record run { desk = x; damage = damage })) (sym same)
      (subst (λ x. IsAwakeSince look d since s (record run { damage = x })) (sym undamaged) w)

  -- the log is taken
  pub cleared : (s : State) (old new : RunOf V) → IsRun look d s old → new.desk ≡ old.desk → new.dialogs ≡ old.dialogs → new.bar ≡ old.bar
      → new.is_over ≡ old.is_over → new.frame ≡ old.frame → new.log.items ≡ [] → IsRun look d (with_empty_log s) new
  cleared s old new r desk dialogs bar over frame log =
      run_windows s (with_empty_log s) old new r (subst (IsDesk look d s.windows) (sym desk) r.desk) dialogs bar refl refl refl refl (over ∙ r.over)
      (r.frame ∙ sym (ap (option_map seen_frame) frame)) log

  -- and the run isn't over
  pub woken : (s : State) (old new : RunOf V) → IsRun look d s old → new.desk ≡ old.desk → new.dialogs ≡ old.dialogs → new.bar ≡ old.bar
      → new.is_over ≡ old.is_over → new.frame ≡ old.frame → new.log.items ≡ [] → IsFitState d s → HasSoundDialogs d → IsLawfulScreen d.width d.height → s.is_over ≡ false
      → (held : Option HeldFrame) → s.frame ≡ held → IsAwakeWith look d held (with_empty_log s) new
  woken s old new r desk dialogs bar over frame log fit sound size going held is = record {
    stands = cleared s old new r desk dialogs bar over frame log;
    held = is;
    fit = emptied_fit d s fit;
    sound = sound;
    size = size;
    over = going;
    empty = refl;
  }
