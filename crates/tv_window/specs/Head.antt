-- What a window keeps of its node: all but its name and where it stands.
use Rattle.std.specs.Prelude.{ℕ, ℤ, pos, List, length, ◌≤◌, ◌≤ℤ◌, Option, Some, None}
use Rattle.tv_faces.specs.Corners.{IsFrameSize}
use Rattle.tv_model.specs.declared.node.Id.{Id}
use Rattle.tv_model.specs.declared.node.Node.{Node}
use Rattle.tv_model.specs.declared.kind.Kind.{Kind}
use Rattle.tv_model.specs.declared.kind.Kind.TheVariants as kinds
use Rattle.tv_model.specs.declared.kind.WindowHead.{WindowHead}

-- a window's size, number and title
pub record KeptWindowHead : Type 0 where
  pub id : Id
  pub w : ℤ
  pub h : ℤ
  pub number : ℤ
  pub title : List ℕ

-- what a window keeps of a node with this head
abbrev pub kept_window_head : Node → WindowHead → KeptWindowHead
kept_window_head node head = record {
  id = node.id;
  w = node.w;
  h = head.h;
  number = head.number;
  title = head.title;
}

-- that of a window's node, and none of another's
abbrev pub declared_window_head : Node → Option KeptWindowHead
declared_window_head node = head node.kind
  where
    head : Kind → Option KeptWindowHead
    head (kinds.Window own) = Some (kept_window_head node own)
    head _ = None

-- a size that a screen has, one digit, and a title that fits
pub record IsLimitedWindowHead (head : KeptWindowHead) : Type 0 where
  pub size : IsFrameSize head.w head.h
  pub from : pos 0 ≤ℤ head.number
  pub to : head.number ≤ℤ pos 9
  pub title : length head.title ≤ 120
