-- Letters that several views may mark: each of these, or a pane around it, is shown by another item of the
-- same radio buttons.
use Rattle.std.specs.Prelude.{[], ℕ, Bool, true, false, not, ◌&&◌, List, ◌∷◌, filter, find, length, map}
use Rattle.std.specs.Prelude.{Option, Some, None, option_map, is_some, ℤ, ◌==◌, nat_lt, if◌then◌else◌}
use Rattle.std.specs.List.{list_all, list_any}
use Rattle.std.specs.Ordering.{int_eq}
use Rattle.tv_model.specs.declared.node.Node.{Node}
use Rattle.tv_model.specs.declared.kind.Kind.{Kind}
use Rattle.tv_model.specs.declared.kind.Kind.TheVariants as kinds
use Rattle.tv_model.specs.declared.desc.Rule.{Rule}
use Rattle.tv_model.specs.declared.desc.Effect.{Effect}
use Rattle.tv_model.specs.declared.desc.Effect.TheVariants as effects
use Rattle.tv_model.specs.declared.desc.Version.{Version}
use Rattle.tv_model.specs.declared.desc.Version.TheVariants as versions
use Rattle.tv_model.specs.Description.Letters.{marked_of}
use Rattle.tv_model.specs.Description.Marks.{marks}
use Rattle.tv_model.specs.Description.Names.{meant}
use Rattle.tv_model.specs.Description.Nodes.{has_id}
use Rattle.tv_model.specs.Description.Rules.{option_stands_over}
use Rattle.tv_model.specs.Faults.Lines.{after_seen}

-- ---- markers

-- a view that marks a letter, and the views before it, which tell the panes around it
pub record Marker : Type 0 where
  pub before : List Node
  pub node : Node

-- how often the view marks the letter
abbrev pub marked_times : ℕ → Node → ℕ
marked_times letter node = length (filter (marks letter) (marked_of node.kind))

-- the views that mark the letter, in description order
abbrev pub markers_of : List Node → ℕ → List Marker
markers_of views letter =
    map (λ pair. record { before = pair.0; node = pair.1 })
    (filter (λ pair. nat_lt 0 (marked_times letter pair.1)) (after_seen [] views))

-- ---- the item that shows a marker

-- the name means this view
abbrev pub is_option_view : Node → Option Node → Bool
is_option_view node None = false
is_option_view node (Some other) = has_id node.id other

-- what is shown is the marker or a pane around it
abbrev pub is_shown_by : List Node → Marker → Effect → Bool
is_shown_by views marker (effects.Show name) = option_stands_over (meant views name) marker.before marker.node
is_shown_by views marker (effects.Enable command) = false

-- a show rule of these radio buttons over the marker or a pane around it
abbrev pub shows_marker : List Node → Node → Marker → Rule → Bool
shows_marker views radios marker rule =
    is_option_view radios (meant views rule.cluster) && is_shown_by views marker rule.effect

-- the marker's item at these radio buttons: that of the first such rule. That it exists isn't asked here
abbrev pub item_shown_by : List Node → List Rule → Node → Marker → Option ℤ
item_shown_by views rules radios marker =
    option_map (λ rule. rule.item) (find (shows_marker views radios marker) rules)

-- ---- sharing

-- whether it is this item
abbrev pub is_option_item : ℤ → Option ℤ → Bool
is_option_item item None = false
is_option_item item (Some other) = int_eq other item

-- each is there, and no two are the same
abbrev pub are_apart : List (Option ℤ) → Bool
are_apart [] = true
are_apart (None ∷ items) = false
are_apart (Some item ∷ items) = not (list_any (is_option_item item) items) && are_apart items

-- radio buttons
abbrev pub is_radios : Kind → Bool
is_radios (kinds.RadioButtons radios) = true
is_radios _ = false

-- the radio buttons have another item for each of the markers
abbrev pub separates : List Node → List Rule → List Marker → Node → Bool
separates views rules markers radios =
    is_radios radios.kind && are_apart (map (item_shown_by views rules radios) markers)

-- two or more views mark the letter, none of them twice
abbrev pub may_share : ℕ → List Marker → Bool
may_share letter markers =
    nat_lt 1 (length markers) && list_all (λ marker. marked_times letter marker.node == 1) markers

-- the first radio buttons, in description order, by which the letter is shared lawfully
abbrev pub sharer_of : List Node → List Rule → ℕ → Option Node
sharer_of views rules letter =
    if may_share letter (markers_of views letter)
    then find (separates views rules (markers_of views letter)) views
    else None

-- the letter is shared lawfully
abbrev pub is_shared : List Node → List Rule → ℕ → Bool
is_shared views rules letter = is_some (sharer_of views rules letter)

-- ---- versions of the language

-- the rules by which letters of a dialog may be shared: in version 1 there are none
abbrev pub sharing_rules : Version → List Rule → Option (List Rule)
sharing_rules versions.One rules = None
sharing_rules versions.Two rules = Some rules

-- the radio buttons by which the letter is shared lawfully by these rules, where there are rules
abbrev pub sharer_by : Option (List Rule) → List Node → ℕ → Option Node
sharer_by None views letter = None
sharer_by (Some rules) views letter = sharer_of views rules letter

-- the letter is shared lawfully by these rules
abbrev pub is_shared_by : Option (List Rule) → List Node → ℕ → Bool
is_shared_by rules views letter = is_some (sharer_by rules views letter)
