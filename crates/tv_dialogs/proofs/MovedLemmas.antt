-- The dialogs of a run after the open one was moved: it stands elsewhere, and all else is as it was.
use Rattle.std.proofs.Common.{◌≡◌, Some, is_some, option_map, refl, sym, ap, subst, ◌∙◌}
use Rattle.std.specs.Prelude.{slice_set}
use Rattle.tv_cells.specs.declared.rect.Point.{Point}
use Rattle.tv_faces.specs.Corners.{IsCorner}
use Rattle.tv_model.specs.declared.desc.Desc.{Desc}
use Rattle.tv_machine.specs.State.{OpenDialog, State}
use Rattle.tv_machine.specs.Session.Commands.{modal_of}
use Rattle.tv_machine.specs.Session.Dragging.{placed}
use Rattle.tv_machine.specs.Session.Step.{dialog_with_hold}
use Rattle.tv_view.specs.Meaning.{Leaf}
use Rattle.tv_dialog.proofs.StandsLemmas.{some-kept}
use Rattle.tv_dialogs.specs.Dialogs.{AreDialogs, IsOpenAmong, at_work}
use Rattle.tv_dialogs.specs.declared.kept.Kept.{Kept}
use Rattle.tv_dialogs.specs.declared.dialogs.DialogsOf.{DialogsOf}
use Rattle.tv_dialogs.proofs.CornerLemmas.{rests-at, stands-at}
use Rattle.tv_dialogs.proofs.KeptLemmas.{written-commands, written-count, written-found, written-kept}
use Rattle.tv_dialogs.proofs.PlaceLemmas.{same-some}

-- what is kept of a dialog that stands elsewhere
abbrev pub moved_kept : {V : Type 0} → Kept V → Point → Kept V
moved_kept kept corner = record kept { dialog = record kept.dialog { corner = corner } }

module _ {V : Type 0} (look : V → Leaf) (d : Desc) (s : State) (old new : DialogsOf V) (are : AreDialogs look d s old)
    (o : OpenDialog) (is : s.dialog ≡ Some o) (corner : Point) (near : IsCorner corner) where
  abbrev among : IsOpenAmong look d s o old.kept.items
  among = are.at o is

  abbrev after : Kept V
  after = moved_kept among.kept corner

  abbrev moved : OpenDialog
  moved = record o { origin = corner }

  module _ (written : new.kept.items ≡ slice_set old.kept.items o.place after) (lent : new.commands ≡ old.commands) where
    pub moved-dialogs : new.open ≡ old.open → new.is_held ≡ old.is_held → AreDialogs look d (placed (Some o) corner s) new
    moved-dialogs opens held =
        let t : State = placed (Some o) corner s in
        let m = modal_of s o in
        let was = are.kept o.place among.dialog among.kept among.there among.found in
        record {
          count = written-count look d s old new are o.place among.dialog among.there among.kept after among.found written lent m;
          saved = are.saved;
          overwriting = are.overwriting;
          kept = written-kept look d s old new are o.place among.dialog among.there among.kept after among.found written lent m t
              (record {
                values = was.values;
                modal = was.modal;
                overwrites = was.overwrites;
                rests = rests-at look among.dialog was.modal among.kept.dialog corner among.kept.dialog.sheet was.rests;
              })
              (λ j apart. (refl, refl));
          place = opens ∙ are.place ∙ ap (λ x. option_map (λ y. y.place) x) is;
          held = held ∙ are.held ∙ ap (λ x. is_some (dialog_with_hold x)) is ∙ some-kept (is_some o.held) o ∙ sym (some-kept (is_some o.held) moved);
          at = λ q e. subst (λ x. IsOpenAmong look d t x new.kept.items) (same-some moved q e)
              (record {
                dialog = among.dialog;
                there = among.there;
                kept = after;
                found = written-found look d s old new are o.place among.dialog among.there among.kept after among.found written lent m;
                stands = stands-at look among.dialog (at_work s o among.kept.dialog.log.items) among.kept.dialog corner among.kept.dialog.sheet o.leaves among.stands;
                corner = refl;
                sheet = among.sheet;
                near = near;
              });
          commands = written-commands look d s old new are o.place among.dialog among.there among.kept after among.found written lent m;
        }
