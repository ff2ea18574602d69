-- What a view is told of its owners: attributes, and how its leaf stands.
use Rattle.std.specs.Prelude.{ℕ, Bool, false, not, List, Option, Some, None, option_map, option_and_then}
use Rattle.std.specs.Prelude.{◌==◌}
use Rattle.tv_model.specs.declared.node.Id.{Id}
use Rattle.tv_model.specs.declared.node.Node.{Node}
use Rattle.tv_model.specs.declared.kind.Kind.{Kind}
use Rattle.tv_model.specs.Kinds.{behaviour}
use Rattle.tv_view.specs.Meaning.{Leaf}
use Rattle.tv_model.specs.Description.Names.{meant}
use Rattle.tv_palette.specs.declared.role.Role.{Role}
use Rattle.tv_palette.specs.Palettes.{colour_in}
use Rattle.tv_model.specs.Controls.Look.{Look}
use Rattle.tv_view.specs.declared.env.Env.{Env}

-- the attribute of a role, by the view's palette and those of its owners
abbrev pub colour : Env → Role → ℕ
colour env role = colour_in env.chain.now role

-- whether it is the one of the id
abbrev pub is_id : Option Id → Id → Bool
is_id None id = false
is_id (Some other) id = other.0 == id.0

-- whether the control of the id has the focus
abbrev pub has_focus : Env → Id → Bool
has_focus env id = is_id env.focus id

-- whether Enter presses the button of the id
abbrev pub is_lent_default : Env → Id → Bool
is_lent_default env id = is_id env.default_now id

-- the first view of a name, which a label links
abbrev pub link_of : List Node → List ℕ → Option Id
link_of views name = option_map (λ node. node.id) (meant views name)

-- whether what a leaf links has the focus
abbrev pub is_link_focus : Env → Option Id → Bool
is_link_focus env None = false
is_link_focus env (Some id) = has_focus env id

-- what a leaf links: a label has a link, no other kind has one
abbrev pub linked_by : Env → Kind → Option Id
linked_by env kind = option_and_then (link_of env.views.now) (behaviour kind).link

-- how a leaf stands
abbrev pub lent_look : Env → Leaf → Look
lent_look env leaf = record {
  is_focused = has_focus env leaf.node.id;
  is_default_now = is_lent_default env leaf.node.id;
  is_disabled = not leaf.is_enabled;
  is_linked = is_link_focus env (linked_by env leaf.node.kind);
}
