-- A dialog that may be open or not, and the rules of which may not have been applied yet: all that opening it
-- needs.
use Rattle.std.specs.Prelude.{◌≡◌, true, List, map, Some}
use Rattle.tv_view.specs.Meaning.{Leaf, Placed}
use Rattle.tv_model.specs.declared.desc.Dialog.{Dialog}
use Rattle.tv_machine.specs.Dialog.Modal.{Modal}
use Rattle.tv_group.specs.Opened.{opened}
use Rattle.tv_dialog.specs.Head.{declared_dialog_head}
use Rattle.tv_dialog.specs.Plan.{plan_of}
use Rattle.tv_dialog.specs.Standing.{AreFields}
use Rattle.tv_group.specs.Tree.{IsSteady, tree_of}
use Rattle.tv_dialog.specs.declared.dialog.DialogOf.{DialogOf}

-- a leaf as if it were shown and enabled
abbrev pub unflagged : Placed → Placed
unflagged x = record x { leaf = record x.leaf { is_shown = true; is_enabled = true } }

-- leaves that are the same but for whether they are shown and enabled
abbrev pub AreAlike : List Placed → List Placed → Type 0
AreAlike xs ys = map unflagged xs ≡ map unflagged ys

-- the dialog's leaves hold what the machine's do
pub record Rests {V : Type 0} (look : V → Leaf) (d : Dialog) (m : Modal) (dialog : DialogOf V) : Type 0 where
  pub head : Some dialog.head ≡ declared_dialog_head d.node
  pub plan : dialog.plan ≡ plan_of d.views d.rules
  pub tree : AreAlike (opened look dialog.body) (tree_of d m)
  pub steady : IsSteady d m
  pub marks : AreFields d dialog.marks
