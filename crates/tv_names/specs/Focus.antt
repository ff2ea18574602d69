-- Controls that nothing reaches.
use Rattle.std.specs.Prelude.{◌≡◌, ℕ, ◌<◌, Bool, false, not, ◌&&◌, List, [], ◌∷◌, length, map, take}
use Rattle.std.specs.Prelude.{slice_index_or, Option, Some, None, ◌==◌}
use Rattle.std.specs.List.{list_any}
use Rattle.tv_model.specs.declared.node.Id.{Id}
use Rattle.tv_model.specs.declared.node.Node.{Node}
use Rattle.tv_model.specs.declared.kind.Kind.{Kind}
use Rattle.tv_model.specs.declared.kind.Kind.TheVariants as kinds
use Rattle.tv_model.specs.declared.command.CommandSpec.{CommandSpec}
use Rattle.tv_model.specs.contracts.command.CommandSpecPartialEq.TheImpl as command_eq
use Rattle.tv_model.specs.Description.Nodes.{is_control}
use Rattle.tv_model.specs.Faults.Lines.{after_seen}
use Rattle.tv_model.specs.Description.Panes.{panes_around}
use Rattle.tv_model.specs.Description.Commands.{is_same_command}
use Rattle.tv_names.specs.Reach.{holds_at}
use Rattle.tv_names.specs.declared.focus.Reach.{Reach}
use Rattle.tv_names.specs.declared.focus.Reach.TheVariants as reaches

-- ---- one after the other

-- what a view stands in, itself the first
abbrev pub standing : List Node → Node → List Id
standing before node = map (λ view. view.id) (node ∷ panes_around before node)

-- a control that nothing of this reaches
abbrev pub is_unreached : List Reach → List Node → Node → Bool
is_unreached list before node =
    is_control node.kind && not (list_any (holds_at (standing before node) node.kind) list)

-- each control is reached
abbrev pub has_nothing_free : List Reach → List Node → Bool
has_nothing_free list views = not (list_any (λ pair. is_unreached list pair.0 pair.1) (after_seen [] views))

-- ---- by sets

-- what `==` returns
abbrev pub is_same_id : Id → Id → Bool
is_same_id i other = i.0 == other.0

-- what `==` returns
abbrev pub equals_command : CommandSpec → CommandSpec → Bool
equals_command = (command_eq.ghosts).eq

-- it shows the view of this id
abbrev pub reach_shows : Id → Reach → Bool
reach_shows i (reaches.View target) = i.0 == target.0
reach_shows i _ = false

-- it enables this command
abbrev pub is_of_command : CommandSpec → Reach → Bool
is_of_command command (reaches.Buttons other) = is_same_command command other
is_of_command command _ = false

-- a button whose command passes
abbrev pub is_button_where : (CommandSpec → Bool) → Kind → Bool
is_button_where passes (kinds.Button button) = passes button.command
is_button_where passes _ = false

-- the view or a pane around it is shown
abbrev pub is_shown : List Reach → List Node → Node → Bool
is_shown list before node =
    list_any (λ view. list_any (reach_shows view.id) list) (node ∷ panes_around before node)

-- whether that is so for each of the first views
abbrev pub AreFirstShown : List Reach → List Node → List Bool → Type 0
AreFirstShown list views shown =
    (k : ℕ) (view : Node) → k < length shown
    → slice_index_or shown k false ≡ is_shown list (take k views) (slice_index_or views k view)

-- whether the owner is shown or stands in what is
abbrev pub is_owner_shown : List Bool → Option ℕ → Bool
is_owner_shown shown None = false
is_owner_shown shown (Some pane) = slice_index_or shown pane false
