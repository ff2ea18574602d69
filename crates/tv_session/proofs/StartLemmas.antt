-- The views that are handed in, and the run before its start.
use Rattle.std.proofs.Common.{◌≡◌, inl, inr, refl, ℕ, zero, suc, ◌+◌, List, [], ◌∷◌, length, Option, Some, None, ap, subst, sym, false, ◌∙◌}
use Rattle.std.specs.Prelude.{slice_get}
use Rattle.std.specs.List.{AllZip}
use Rattle.std.specs.Option.{option_map}
use Rattle.tv_view.specs.Meaning.{Leaf}
use Rattle.tv_model.specs.declared.desc.Desc.{Desc}
use Rattle.tv_group.specs.declared.group.GroupOf.{GroupOf}
use Rattle.tv_window.specs.declared.window.WindowOf.{WindowOf}
use Rattle.tv_window.specs.Desk.{AreFreshWindows, IsDesk}
use Rattle.tv_dialogs.specs.Bodies.{AreFreshBodies}
use Rattle.tv_dialogs.specs.Dialogs.{AreDialogs}
use Rattle.tv_dialogs.specs.declared.dialogs.DialogsOf.{DialogsOf}
use Rattle.tv_laws.proofs.RunLemmas.{closed_kept}
use Rattle.tv_laws.proofs.CommandLemmas.{idle-fit}
use Rattle.tv_machine.specs.Dialog.Sound.{HasSoundDialogs}
use Rattle.tv_machine.specs.Session.Start.{closed, start, started_at, started_by}
use Rattle.tv_machine.specs.Session.Commands.{open_dialog}
use Rattle.tv_menu.specs.Bar.{IsBarOf, open_of}
use Rattle.tv_menu.specs.Lawful.{IsLawfulScreen}
use Rattle.tv_menu.specs.Line.{IsStatusLineOf}
use Rattle.tv_model.specs.Description.Numbers.{natural}
use Rattle.tv_session.specs.Freshness.{IsFirstMismatch, IsFirstStale, IsFreshBodyFor, IsFreshFor}
use Rattle.tv_session.specs.Running.{CanPaint, IsAwake, IsRun, seen_frame}
use Rattle.tv_session.specs.Starting.{CanStart, place_named}
use Rattle.tv_session.specs.declared.making.Parts.{Parts}
use Rattle.tv_session.specs.declared.run.RunOf.{RunOf}
use Rattle.tv_session.proofs.CommandLemmas.{none_some, same_some}

-- none is stale: all are fresh, one for one
none_stale : {D X : Type 0} (Fresh : D → X → Type 0) (place : ℕ) (ds : List D) (xs : List X) → IsFirstStale Fresh place ds xs None → AllZip Fresh ds xs
none_stale Fresh place [] [] is = tt
none_stale Fresh place [] (x ∷ xs) is = absurd (none_some place is)
none_stale Fresh place (d ∷ ds) [] is = absurd (none_some place is)
none_stale Fresh place (d ∷ ds) (x ∷ xs) (inl both) = (both.0, none_stale Fresh (place + 1) ds xs both.1)
none_stale Fresh place (d ∷ ds) (x ∷ xs) (inr no_more) = absurd (none_some place no_more.1)

zip_length : {D X : Type 0} (Fresh : D → X → Type 0) (ds : List D) (xs : List X) → AllZip Fresh ds xs → length xs ≡ length ds
zip_length Fresh [] [] all = refl
zip_length Fresh [] (x ∷ xs) all = absurd all
zip_length Fresh (d ∷ ds) [] all = absurd all
zip_length Fresh (d ∷ ds) (x ∷ xs) all = ap (λ (n : ℕ). suc n) (zip_length Fresh ds xs all.1)

zip_at : {D X : Type 0} (Fresh : D → X → Type 0) (ds : List D) (xs : List X) → AllZip Fresh ds xs
    → (place : ℕ) (d : D) (x : X) → slice_get ds place ≡ Some d → slice_get xs place ≡ Some x → Fresh d x
zip_at Fresh [] xs all place d x e f = absurd (none_some d e)
zip_at Fresh (d' ∷ ds) [] all place d x e f = absurd all
zip_at Fresh (d' ∷ ds) (x' ∷ xs) all zero d x e f =
    subst (λ z. Fresh d z) (same_some x' x f) (subst (λ z. Fresh z x') (same_some d' d e) all.0)
zip_at Fresh (d' ∷ ds) (x' ∷ xs) all (suc place) d x e f = zip_at Fresh ds xs all.1 place d x e f

module _ {V : Type 0} (look : V → Leaf) (d : Desc) where
  pub fresh_windows : (windows : List (WindowOf V)) (bodies : List (GroupOf V)) → IsFirstMismatch look d windows bodies None → AreFreshWindows look d.windows windows
  fresh_windows windows bodies (inl found) = absurd (none_some found.0 found.2)
  fresh_windows windows bodies (inr both) = none_stale (IsFreshFor look) 1 d.windows windows both.0

  pub fresh_bodies : (windows : List (WindowOf V)) (bodies : List (GroupOf V)) → IsFirstMismatch look d windows bodies None → AreFreshBodies look d.dialogs bodies
  fresh_bodies windows bodies (inl found) = absurd (none_some found.0 found.2)
  fresh_bodies windows bodies (inr both) =
      let all = none_stale (IsFreshBodyFor look) (length d.windows + 1) d.dialogs bodies both.1 in
      record { count = zip_length (IsFreshBodyFor look) d.dialogs bodies all; fresh = zip_at (IsFreshBodyFor look) d.dialogs bodies all }

  -- before the start nothing is logged
  pub first_awake : (run : RunOf V) → HasSoundDialogs d → IsLawfulScreen d.width d.height → IsDesk look d (closed d).windows run.desk
      → AreDialogs look d (closed d) run.dialogs → IsBarOf d run.bar → open_of run.bar ≡ None → run.frame ≡ None → run.is_over ≡ false → run.log.items ≡ []
      → IsAwake look d (closed d) run
  first_awake run sound size desk dialogs bar none loose over log = record {
    stands = record { desk = desk; dialogs = dialogs; bar = bar; menu = sym none; frame = sym (ap (option_map seen_frame) loose); over = over; log = log };
    held = refl;
    fit = idle-fit d sound (closed d) (closed_kept d sound) refl refl;
    sound = sound;
    size = size;
    over = refl;
    empty = refl;
  }

-- the start dialog is the one of that name
pub started-there : (d : Desc) (place : ℕ) (o : Option (List ℕ)) → Some place ≡ place_named d o → started_by d o ≡ open_dialog d place (closed d)
started-there d place None is = absurd (none_some place (sym is))
started-there d place (Some name) is = ap (started_at d) (sym is)

-- the run that has begun may be painted
pub can-start : {V : Type 0} (look : V → Leaf) (d lent : Desc) (parts : Parts) (windows : List (WindowOf V)) (dialogs : DialogsOf V) (run : RunOf V) → lent ≡ d
    → CanStart look d parts windows dialogs → IsRun look lent (start lent) run → CanPaint look lent (start lent) run parts.line parts.screen
can-start look d lent parts windows dialogs run same r ran = record {
  stands = ran;
  sound = subst HasSoundDialogs (sym same) r.sound;
  size = subst (λ x. IsLawfulScreen x.width x.height) (sym same) r.size;
  is_line = subst (λ x. IsStatusLineOf x parts.line) (sym same) r.line;
  width = r.width ∙ ap (λ x. natural x.width) (sym same);
  height = r.height ∙ ap (λ x. natural x.height) (sym same);
}
