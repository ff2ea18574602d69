-- Owners of letters, kept by the letter.
use Rattle.std.specs.Prelude.{◌≡◌, ℕ, ℤ, List, Option, find, is_some, nat_eq, option_and_then, option_map}
use Rattle.indexmap.specs.IndexMap.{IndexMap, get}
use Rattle.tv_model.specs.declared.node.Node.{Node}
use Rattle.tv_model.specs.declared.kind.Kind.{Kind}
use Rattle.tv_model.specs.declared.desc.Dialog.{Dialog}
use Rattle.tv_model.specs.declared.desc.Rule.{Rule}
use Rattle.tv_model.specs.declared.desc.Version.{Version}
use Rattle.tv_model.specs.declared.desc.When.{When}
use Rattle.tv_model.specs.Controls.Owner as owners
use Rattle.tv_model.specs.Description.Nodes.{name_of}
use Rattle.tv_model.specs.Description.Owners.{KeyOwner, owner_by, when_from}
use Rattle.tv_model.specs.Description.Sharing.{sharing_rules}
use Rattle.tv_names.specs.Sharing.{RuledViews}
use Rattle.tv_check.specs.declared.owner.Owner.{Owner}
use Rattle.tv_check.specs.Lent.{lent_owner}

-- the owner that the map has for the letter
abbrev pub owner_for : {S : Type 0} → IndexMap ℕ Owner S → ℕ → Option owners.LetterOwner
owner_for owners letter = option_map lent_owner (get nat_eq owners letter)

-- the owner that the first of the views that mark the letter gives it
abbrev pub first_owner : List Node → ℕ → Option owners.LetterOwner
first_owner views letter =
    option_and_then (λ node. owner_by letter node.kind)
    (find (λ node. is_some (owner_by letter node.kind)) views)

-- the map has the owner of each letter that the views mark
abbrev pub AreOwnersOf : {S : Type 0} → List Node → IndexMap ℕ Owner S → Type 0
AreOwnersOf views owners = (letter : ℕ) → owner_for owners letter ≡ first_owner views letter

-- a dialog, and the version of its description
pub record VersionedDialog : Type 0 where
  pub version : Version
  pub dialog : Dialog

-- views with the rules over them
abbrev pub ruled : List Node → List Rule → RuledViews
ruled views rules = record { views = views; rules = rules }

-- the views with the rules by which their letters may be shared, where there are such rules
abbrev pub shared_views : Version → Dialog → Option RuledViews
shared_views version dialog = option_map (ruled dialog.views) (sharing_rules version dialog.rules)

-- an owner while that item of the radio buttons is marked
abbrev pub owner_while : Option When → owners.LetterOwner → KeyOwner
owner_while when owner = record { owner = owner; when = when }

-- the owner that a view of the kind gives to the letter, while an item of the radio buttons is marked
abbrev pub owner_at_item : ℕ → Kind → Option ℤ → Kind → Option KeyOwner
owner_at_item letter radios item kind =
    option_map (owner_while (when_from (name_of radios) item)) (owner_by letter kind)
