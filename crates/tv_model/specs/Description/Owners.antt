-- What the shortcut letters of a dialog act on.
use Rattle.std.specs.Prelude.{ℕ, List, Option, Some, None, option_and_then, option_map, is_some}
use Rattle.std.specs.Prelude.{option_to_list, find, map, filter_map, ℤ}
use Rattle.tv_model.specs.declared.node.Node.{Node}
use Rattle.tv_model.specs.declared.kind.Kind.{Kind}
use Rattle.tv_model.specs.declared.desc.Dialog.{Dialog}
use Rattle.tv_model.specs.declared.desc.When.{When}
use Rattle.tv_model.specs.declared.desc.Version.{Version}
use Rattle.tv_model.specs.Controls.Shortcut.{owner_in}
use Rattle.tv_model.specs.Kinds.{behaviour}
use Rattle.tv_model.specs.Controls.Owner.{LetterOwner}
use Rattle.tv_model.specs.Description.Nodes.{name_of}
use Rattle.tv_model.specs.Description.Sharing.{Marker, item_shown_by, markers_of, sharer_by, sharing_rules}

-- what the letter acts on, where a declaration of the kind marks it: a label's letter on the control that the
-- label names
abbrev pub owner_by : ℕ → Kind → Option LetterOwner
owner_by letter kind = owner_in letter (behaviour kind).shortcut

-- ---- letters with one owner

-- the first leaf of the dialog that marks the letter. In a sound description there is at most one, but where
-- the letter is shared
abbrev pub marker_of : Dialog → ℕ → Option Node
marker_of dialog letter = find (λ node. is_some (owner_by letter node.kind)) dialog.views

-- what the letter acts on by that leaf, or nothing
abbrev pub owner_of : Dialog → ℕ → Option LetterOwner
owner_of dialog letter = option_and_then (λ node. owner_by letter node.kind) (marker_of dialog letter)

-- ---- letters with several

-- an owner of a letter, and the item of radio buttons that is marked while it is the owner. Without one it
-- always is
pub record KeyOwner : Type 0 where
  pub owner : LetterOwner
  pub when : Option When

-- an owner at any time
abbrev pub always : LetterOwner → KeyOwner
always owner = record { owner = owner; when = None }

-- the item of radio buttons, of these parts
abbrev pub when_from : Option (List ℕ) → Option ℤ → Option When
when_from (Some radios) (Some item) = Some (record { radios = radios; item = item })
when_from _ _ = None

-- the owner that a marker gives to its letter, while its item at the radio buttons is marked
abbrev pub owner_shown : Dialog → ℕ → Node → Marker → Option KeyOwner
owner_shown dialog letter radios marker =
    option_map (λ owner. record {
      owner = owner;
      when = when_from (name_of radios.kind) (item_shown_by dialog.views dialog.rules radios marker);
    }) (owner_by letter marker.node.kind)

-- one owner for each marker, in description order, where radio buttons separate them
abbrev pub owners_at : Dialog → ℕ → Option Node → List KeyOwner
owners_at dialog letter None = option_to_list (option_map always (owner_of dialog letter))
owners_at dialog letter (Some radios) =
    filter_map (owner_shown dialog letter radios) (markers_of dialog.views letter)

-- what the letter acts on in the dialog of a description of this version
abbrev pub owners_of : Version → Dialog → ℕ → List KeyOwner
owners_of version dialog letter =
    owners_at dialog letter (sharer_by (sharing_rules version dialog.rules) dialog.views letter)
