-- An open dialog at work: how its leaves stand, what was logged, and the command by which it ended.
use Rattle.std.specs.Prelude.{[], ℕ, Bool, List, ◌∷◌, ◌++◌, map, filter, find, Option, ◌==◌, if◌then◌else◌}
use Rattle.tv_model.specs.declared.node.Id.{Id}
use Rattle.tv_model.specs.declared.desc.Dialog.{Dialog}
use Rattle.tv_model.specs.declared.log.LogLine.{LogLine}
use Rattle.tv_machine.specs.State.{LeafState, Held}
use Rattle.tv_machine.specs.Leaves.{PlacedNode, leaf_list}
use Rattle.tv_model.specs.Controls.Contents.{Content}
use Rattle.tv_machine.specs.Dialog.Rules.{content_held, is_among}

-- a dialog while an event is handled
pub record Modal : Type 0 where
  -- its leaves in description order
  pub leaves : List LeafState
  pub focus : Id
  pub held : Option Held
  -- its inputs in which typing overwrites, in description order
  pub overwriting : List Id
  -- the lines of the event
  pub log : List LogLine
  -- the command by which it ended
  pub ended : Option ℕ

-- one line more in the log
abbrev pub with_line : LogLine → Modal → Modal
with_line line m = record m { log = m.log ++ line ∷ [] }

-- ---- what its leaves hold

-- what the leaf of an id holds
abbrev pub content_at : Modal → Id → Content
content_at m i = content_held m.leaves m.overwriting i

-- the leaf holds this, if it is the one of the id
abbrev pub holding : Id → Content → LeafState → LeafState
holding i c leaf = if leaf.id.0 == i.0 then record leaf { value = c.value; private = c.private } else leaf

-- whether typing overwrites in a view, where it does in the one of the id as told
abbrev pub overwrites_after : List Id → Id → Bool → Id → Bool
overwrites_after overwriting i overwrites other =
    if other.0 == i.0 then overwrites else is_among overwriting other

-- the views in which typing overwrites, in description order
abbrev pub overwriting_after : Dialog → List Id → Id → Bool → List Id
overwriting_after d overwriting i overwrites =
    filter (overwrites_after overwriting i overwrites) (map (λ view. view.id) d.views)

-- the leaf of the id holds this
abbrev pub content_put : Dialog → Id → Content → Modal → Modal
content_put d i c m = record m {
  leaves = map (holding i c) m.leaves;
  overwriting = overwriting_after d m.overwriting i c.overwrites;
}

-- ---- its leaves

-- the leaf of an id
abbrev pub leaf_at : Dialog → Id → Option PlacedNode
leaf_at d i = find (λ leaf. leaf.node.id.0 == i.0) (leaf_list d.views)
