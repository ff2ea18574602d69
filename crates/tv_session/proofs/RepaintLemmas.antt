-- A session that is painted again after an event, or after a command that the program gives.
use Rattle.std.proofs.Common.{◌≡◌, ℤ, List, refl, ap, subst, sym, ◌∙◌}
use Rattle.tv_cells.specs.Damage.{HasWithin}
use Rattle.tv_cells.specs.Layers.{Shows}
use Rattle.tv_cells.specs.Picture.{IsAlike, Picture}
use Rattle.tv_cells.specs.Repainting.{AreAlike}
use Rattle.tv_cells.specs.declared.rect.Rect.{Rect}
use Rattle.tv_laws.specs.Runs.{IsFitState}
use Rattle.tv_machine.specs.Dialog.Sound.{HasSoundDialogs}
use Rattle.tv_machine.specs.Run.{Session}
use Rattle.tv_machine.specs.Screen.Bodies.{whole_screen}
use Rattle.tv_machine.specs.Screen.Layers.{layers_of}
use Rattle.tv_machine.specs.State.{State}
use Rattle.tv_menu.specs.Lawful.{IsLawfulScreen}
use Rattle.tv_menu.specs.Line.{IsStatusLineOf}
use Rattle.tv_model.specs.declared.desc.Desc.{Desc}
use Rattle.tv_model.specs.Description.Numbers.{natural}
use Rattle.tv_session.specs.Running.{CanPaint, IsRun}
use Rattle.tv_session.specs.Session.{StandsFor}
use Rattle.tv_session.specs.Showing.{AreShownAlike}
use Rattle.tv_session.specs.declared.run.RunOf.{RunOf}
use Rattle.tv_session.specs.declared.session.SessionOf.{SessionOf}
use Rattle.tv_session.proofs.ChangedLemmas.{alike-within}
use Rattle.tv_session.proofs.ScreenLemmas.{shown_again}
use Rattle.tv_view.specs.Meaning.{Leaf}

-- what the screen lacks before, it lacks after
pub shown-alike : (d : Desc) (s t : State) (inner damage : List Rect) (p : Picture) → IsLawfulScreen d.width d.height → p.width ≡ natural d.width → p.height ≡ natural d.height
    → HasWithin (whole_screen d) inner damage → AreShownAlike d s t inner → AreAlike p damage (layers_of d s) (layers_of d t)
shown-alike d s t inner damage p size width height added alike = alike-within d s t inner damage p size width height added (layers_of d s) (layers_of d t) (alike p)

-- its description's screen is as large as that of its status line
pub screen-size : {V : Type 0} (look : V → Leaf) (session : SessionOf V) (s : Session) (d : Desc) → d ≡ session.checked → StandsFor look session s → IsLawfulScreen d.width d.height
screen-size look session s d lent r =
    let same = lent ∙ r.desc in
    subst (λ (n : ℤ). IsLawfulScreen n d.height) (r.line.width ∙ ap (λ x. x.width) (sym same))
    (subst (λ (n : ℤ). IsLawfulScreen session.line.width n) (r.line.height ∙ ap (λ x. x.height) (sym same)) session.line.screen)

-- what an event, or a command that the program gives, makes of each state
module _ {V : Type 0} (look : V → Leaf) (session : SessionOf V) (s : Session) (d : Desc) (after : Desc → State → State) (run : RunOf V) (lent : d ≡ session.checked) (r : StandsFor look session s) where
  same : d ≡ s.desc
  same = lent ∙ r.desc

  -- the state is one that the run's calls ask for
  pub run-before : IsRun look d s.state session.run
  run-before = subst (λ x. IsRun look x s.state session.run) (sym same) r.run

  pub fit-before : IsFitState d s.state
  fit-before = subst (λ x. IsFitState x s.state) (sym same) r.fit

  -- the run and what it damages, by what its call ensures of each state
  pub ran-after : ((t : State) → IsRun look d t session.run → IsFitState d t → IsStatusLineOf d session.line → IsRun look d (after d t) run × AreShownAlike d t (after d t) run.damage)
      → IsRun look d (after d s.state) run × AreShownAlike d s.state (after d s.state) run.damage
  ran-after ensures = ensures s.state run-before fit-before (subst (λ x. IsStatusLineOf x session.line) (sym same) r.line)

  pub can-repaint : HasSoundDialogs d → IsLawfulScreen d.width d.height → IsRun look d (after d s.state) run → CanPaint look d (after d s.state) run session.line session.screen
  can-repaint sound size ran = record {
    stands = ran;
    sound = sound;
    size = size;
    is_line = subst (λ x. IsStatusLineOf x session.line) (sym same) r.line;
    width = r.screen.width ∙ ap (λ x. natural x.width) (sym same);
    height = r.screen.height ∙ ap (λ x. natural x.height) (sym same);
  }

  -- the screen shows what it did
  pub shown-before : Shows (layers_of d s.state) session.screen
  shown-before = subst (λ x. Shows (layers_of x s.state) session.screen) (sym same) r.screen.cells

  -- painted again it stands for the state afterwards, which is fit too
  pub stands-again : (screen : Picture) (repainted : List Rect) → IsFitState d (after d s.state) → IsRun look d (after d s.state) run → IsAlike session.screen screen → Shows (layers_of d (after d s.state)) screen
      → StandsFor look (record session { run = run; screen = screen; repainted = repainted }) (record { desc = s.desc; state = after s.desc s.state })
  stands-again screen repainted fit ran size shows = record {
    desc = r.desc;
    run = subst (λ x. IsRun look x (after x s.state) run) same ran;
    line = r.line;
    fit = subst (λ x. IsFitState x (after x s.state)) same fit;
    screen = shown_again s.desc s.desc s.state (after s.desc s.state) session.screen screen refl r.screen
        (size, subst (λ x. Shows (layers_of x (after x s.state)) screen) same shows);
  }
