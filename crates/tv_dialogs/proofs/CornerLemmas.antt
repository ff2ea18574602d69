-- Where dialogs stand, which is no part of what they do.
use Rattle.std.proofs.Common.{◌≡◌, ◌∙◌, ap, arith, subst, sym, List, Option, Some}
use Rattle.std.specs.Prelude.{IfSome}
use Rattle.std.proofs.lemmas.Int.{ints}
use Rattle.std.proofs.lemmas.List.Elements.{All-head}
use Rattle.tv_cells.specs.Picture.{Picture}
use Rattle.tv_cells.specs.declared.rect.Point.{Point}
use Rattle.tv_model.specs.declared.desc.Dialog.{Dialog}
use Rattle.tv_model.specs.Description.LawfulNodes.{IsLimited}
use Rattle.tv_model.specs.Description.Rectangles.{IsSmall, IsSmallRect, corner_of, rect}
use Rattle.tv_machine.specs.State.{LeafState}
use Rattle.tv_machine.specs.Dialog.Lawful.{IsLawfulDialog}
use Rattle.tv_machine.specs.Dialog.Modal.{Modal}
use Rattle.tv_view.specs.Meaning.{Leaf}
use Rattle.tv_faces.specs.Corners.{IsCorner}
use Rattle.tv_dialog.specs.Bounds.{dialog_bounds}
use Rattle.tv_dialog.specs.Head.{IsLimitedDialogHead, KeptDialogHead, declared_dialog_head}
use Rattle.tv_dialog.specs.Resting.{Rests}
use Rattle.tv_dialog.specs.Standing.{Stands}
use Rattle.tv_dialog.specs.declared.dialog.DialogOf.{DialogOf}
use Rattle.tv_dialogs.proofs.ValueLemmas.{lawful-limited}

-- a lawful dialog is declared near the screen
pub lawful-corner : (d : Dialog) → IsLawfulDialog d → IsCorner (corner_of d.node)
lawful-corner d lawful =
    let limits = All-head IsLimited d.node d.views lawful.limits in
    record { x = limits.x; y = limits.y }

-- a corner near the screen is one that views may have
pub corner-small : (p : Point) → IsCorner p → IsSmall p.x × IsSmall p.y
corner-small p near =
    let x = near.x in
    let y = near.y in (
      record { low = omega (arith, ints, x.0, x.1); high = omega (arith, ints, x.0, x.1) },
      record { low = omega (arith, ints, y.0, y.1); high = omega (arith, ints, y.0, y.1) },
    )

-- what a lawful dialog shows has a rectangle that views may have
pub bounds-small : (d : Dialog) → IsLawfulDialog d → (head : KeptDialogHead) (p : Point) → Some head ≡ declared_dialog_head d.node → IsCorner p
    → IsSmallRect (rect p.x p.y head.w head.h)
bounds-small d lawful head p is near =
    let small = corner-small p near in
    let limited : IsLimitedDialogHead head = subst (λ o. IfSome o IsLimitedDialogHead) (sym is) (lawful-limited d lawful) in
    let x = near.x in
    let y = near.y in
    let w = limited.size.across in
    let h = limited.size.down in
    record {
      left = small.0;
      top = small.1;
      right = record { low = omega (arith, ints, x.0, x.1, w.0, w.1); high = omega (arith, ints, x.0, x.1, w.0, w.1) };
      bottom = record { low = omega (arith, ints, y.0, y.1, h.0, h.1); high = omega (arith, ints, y.0, y.1, h.0, h.1) };
    }

-- dialogs as large as each other that stand at one corner have one rectangle
pub same-bounds : {V : Type 0} (old new : DialogOf V) → new.head ≡ old.head → new.corner ≡ old.corner → dialog_bounds new ≡ dialog_bounds old
same-bounds old new head corner =
    ap (λ h. rect new.corner.x new.corner.y h.w h.h) head ∙ ap (λ p. rect p.x p.y old.head.w old.head.h) corner

pub bounds-at : {V : Type 0} (dialog : DialogOf V) (p : Point) → dialog.corner ≡ p → dialog_bounds dialog ≡ rect p.x p.y dialog.head.w dialog.head.h
bounds-at dialog p at = ap (λ q. rect q.x q.y dialog.head.w dialog.head.h) at

module _ {V : Type 0} (look : V → Leaf) (d : Dialog) (m : Modal) (dialog : DialogOf V) (p : Point) (sheet : Option Picture) where
  -- a dialog rests the same wherever it stands, whatever sheet lies in it
  pub rests-at : Rests look d m dialog → Rests look d m (record dialog { corner = p; sheet = sheet })
  rests-at is = record { head = is.head; plan = is.plan; tree = is.tree; steady = is.steady; marks = is.marks }

  -- and works the same
  pub stands-at : (ruled : List LeafState) → Stands look d ruled m dialog → Stands look d ruled m (record dialog { corner = p; sheet = sheet })
  stands-at ruled is = record {
    head = is.head;
    plan = is.plan;
    tree = is.tree;
    steady = is.steady;
    focus = is.focus;
    log = is.log;
    «open» = is.«open»;
    ended = is.ended;
    marks = is.marks;
    commands = is.commands;
  }
