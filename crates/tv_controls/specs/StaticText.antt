-- What a static text means.
use Rattle.std.specs.Prelude.{ℕ, Bool, true, false, List, ℤ, None}
use Rattle.tv_model.specs.declared.node.Id.{Id}
use Rattle.tv_model.specs.declared.kind.Kind.{Kind}
use Rattle.tv_model.specs.declared.kind.Kind.TheVariants as kinds
use Rattle.tv_model.specs.Controls.Private.{Plain}
use Rattle.tv_view.specs.Meaning.{Leaf}

-- the kind of a static text
abbrev pub is_text_kind : Kind → Bool
is_text_kind (kinds.Text shown) = true
is_text_kind _ = false

-- what a static text keeps of its node, and whether it is shown
pub record TextState : Type 0 where
  pub id : Id
  pub depth : ℕ
  pub x : ℤ
  pub y : ℤ
  pub w : ℤ
  pub h : ℤ
  pub text : List ℕ
  pub is_shown : Bool

-- a leaf without a value, which never has the focus or the mouse and is always enabled
abbrev pub text_leaf : TextState → Leaf
text_leaf s = record {
  node = record {
    id = s.id;
    depth = s.depth;
    x = s.x;
    y = s.y;
    w = s.w;
    kind = kinds.Text (record { h = s.h; text = s.text });
  };
  value = None;
  private = Plain;
  overwrites = false;
  is_focused = false;
  held = None;
  is_shown = s.is_shown;
  is_enabled = true;
}
