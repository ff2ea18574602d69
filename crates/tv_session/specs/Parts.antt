-- What a session asks of the dialogs and windows of a description, beside what the laws of its runs ask.
use Rattle.std.specs.Prelude.{All, IfSome}
use Rattle.tv_model.specs.declared.desc.Desc.{Desc}
use Rattle.tv_model.specs.declared.desc.Dialog.{Dialog}
use Rattle.tv_model.specs.Description.Rectangles.{corner_of}
use Rattle.tv_machine.specs.Controls.Declared.{declared_value}
use Rattle.tv_machine.specs.Leaves.{leaf_list}
use Rattle.tv_machine.specs.Safe.{HasValueOf}
use Rattle.tv_faces.specs.Corners.{IsCorner}
use Rattle.tv_dialog.specs.Head.{IsLimitedDialogHead, declared_dialog_head}

-- a size that a screen has, and a title that fits
abbrev pub HasLimitedHead : Dialog → Type 0
HasLimitedHead dialog = IfSome (declared_dialog_head dialog.node) IsLimitedDialogHead

-- each leaf has at first a value that its kind may have, or none where its kind has none
abbrev pub StartsLawfully : Dialog → Type 0
StartsLawfully dialog =
    All (λ leaf. HasValueOf leaf.node.kind (declared_value leaf.node.kind)) (leaf_list dialog.views)

-- where windows and dialogs stand before they are moved
pub record HaveNearCorners (d : Desc) : Type 0 where
  pub windows : All (λ window. IsCorner (corner_of window.node)) d.windows
  pub dialogs : All (λ dialog. IsCorner (corner_of dialog.node)) d.dialogs
