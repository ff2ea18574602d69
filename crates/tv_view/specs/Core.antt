-- What every control keeps, and the leaf that it is with a value.
use Rattle.std.specs.Prelude.{ℕ, Bool, true, false, Option, None}
use Rattle.tv_model.specs.declared.node.Node.{Node}
use Rattle.tv_view.specs.Meaning.{Leaf}
use Rattle.tv_model.specs.Controls.Private.{Plain}
use Rattle.tv_model.specs.Controls.Contents.{Content}
use Rattle.tv_machine.specs.Dialog.Rules.{is_among}
use Rattle.tv_view.specs.declared.env.Rules.{Rules}
use Rattle.tv_view.specs.Calls.{is_kind_enabled_among}

-- a leaf but for what it holds
pub record Core : Type 0 where
  pub node : Node
  pub is_focused : Bool
  pub held : Option ℕ
  pub is_shown : Bool
  pub is_enabled : Bool

-- before any event
abbrev pub fresh_core : Node → Core
fresh_core node = record { node = node; is_focused = false; held = None; is_shown = true; is_enabled = true }

-- the leaf that holds this
abbrev pub leaf_with : Core → Content → Leaf
leaf_with core c = record {
  node = core.node;
  value = c.value;
  private = c.private;
  overwrites = c.overwrites;
  is_focused = core.is_focused;
  held = core.held;
  is_shown = core.is_shown;
  is_enabled = core.is_enabled;
}

-- what a leaf holds that is no field
abbrev pub no_content : Content
no_content = record { value = None; private = Plain; overwrites = false }

-- a leaf that holds nothing
abbrev pub plain_leaf : Core → Leaf
plain_leaf core = leaf_with core no_content

-- what rules make of it
abbrev pub with_rules : Rules → Core → Core
with_rules rules core = record core {
  is_shown = is_among rules.shown.now core.node.id;
  is_enabled = is_kind_enabled_among rules.commands.now core.node.kind;
}
