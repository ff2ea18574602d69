-- What a dialog keeps of its node: all but its name, the command that opens it, and its corner.
use Rattle.std.specs.Prelude.{ℕ, ℤ, List, length, ◌≤◌, Option, Some, None}
use Rattle.tv_faces.specs.Corners.{IsFrameSize}
use Rattle.tv_model.specs.declared.command.Ends.{Ends}
use Rattle.tv_model.specs.declared.node.Id.{Id}
use Rattle.tv_model.specs.declared.node.Node.{Node}
use Rattle.tv_model.specs.declared.kind.Kind.{Kind}
use Rattle.tv_model.specs.declared.kind.Kind.TheVariants as kinds
use Rattle.tv_model.specs.declared.kind.DialogHead.{DialogHead}

-- a dialog's size, title and ends
pub record KeptDialogHead : Type 0 where
  pub id : Id
  pub w : ℤ
  pub h : ℤ
  pub title : List ℕ
  pub ends : Ends

-- what a dialog keeps of a node with this head
abbrev pub kept_dialog_head : Node → DialogHead → KeptDialogHead
kept_dialog_head node head = record {
  id = node.id;
  w = node.w;
  h = head.h;
  title = head.title;
  ends = head.ends;
}

-- that of a dialog's node, and none of another's
abbrev pub declared_dialog_head : Node → Option KeptDialogHead
declared_dialog_head node = head node.kind
  where
    head : Kind → Option KeptDialogHead
    head (kinds.Dialog own) = Some (kept_dialog_head node own)
    head _ = None

-- a size that a dialog may have, and a title that fits
pub record IsLimitedDialogHead (head : KeptDialogHead) : Type 0 where
  pub size : IsFrameSize head.w head.h
  pub title : length head.title ≤ 120
