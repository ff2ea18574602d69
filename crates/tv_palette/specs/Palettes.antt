-- The toolkit's palettes.
use Rattle.std.specs.Prelude.{◌≡◌, ℕ, List, [], ◌∷◌, Option, Some, None}
use Rattle.tv_palette.specs.Chain.{attr_of}
use Rattle.tv_palette.specs.declared.role.Owner.{Owner}
use Rattle.tv_palette.specs.declared.role.Owner.TheVariants as owners
use Rattle.tv_palette.specs.declared.role.Role.{Role}
use Rattle.tv_palette.specs.declared.role.Role.TheVariants as roles
use Rattle.tv_palette.specs.declared.role.BarRole.TheVariants as bar
use Rattle.tv_palette.specs.declared.role.StatusRole.TheVariants as status
use Rattle.tv_palette.specs.declared.role.FrameRole.TheVariants as frame
use Rattle.tv_palette.specs.declared.role.LabelRole.TheVariants as label
use Rattle.tv_palette.specs.declared.role.ButtonRole.TheVariants as button
use Rattle.tv_palette.specs.declared.role.ClusterRole.TheVariants as cluster
use Rattle.tv_palette.specs.declared.role.InputRole.TheVariants as input
use Rattle.tv_palette.specs.declared.role.ListRole.TheVariants as list

-- attributes, to which all other palettes lead
abbrev pub application : List ℕ
application =
    0x71 ∷ 0x70 ∷ 0x74 ∷ 0x20 ∷ 0x24 ∷ 0x17 ∷ 0x1f ∷ 0x1e ∷ 0x7f ∷ 0x70 ∷ 0x70 ∷ 0x7f ∷ 0x7e ∷ 0x20 ∷ 0x2b
    ∷ 0x2f ∷ 0x78 ∷ 0x2e ∷ 0x30 ∷ 0x3f ∷ 0x3e ∷ 0x1f ∷ 0x2f ∷ 0x1a ∷ 0x4f ∷ 0x30 ∷ 0x2f ∷ 0x3e ∷ 0x78 ∷ []

-- a window's, and a dialog's
abbrev pub window : List ℕ
window = 6 ∷ 7 ∷ 8 ∷ []

abbrev pub dialog : List ℕ
dialog = 9 ∷ 10 ∷ 11 ∷ 12 ∷ 13 ∷ 14 ∷ 15 ∷ 16 ∷ 17 ∷ 18 ∷ 19 ∷ 20 ∷ 21 ∷ 22 ∷ 23 ∷ 24 ∷ 25 ∷ 26 ∷ 27 ∷ 28 ∷ []

-- that of a view with the role
abbrev pub palette_of : Role → List ℕ
palette_of roles.Background = 1 ∷ []
palette_of (roles.Bar role) = 2 ∷ 3 ∷ 4 ∷ 5 ∷ []
palette_of (roles.Status role) = 2 ∷ 29 ∷ []
palette_of (roles.Frame owners.Window role) = 1 ∷ 2 ∷ 3 ∷ []
palette_of (roles.Frame owners.Dialog role) = 1 ∷ 1 ∷ 2 ∷ []
palette_of (roles.StaticText owners.Window) = 3 ∷ []
palette_of (roles.StaticText owners.Dialog) = 2 ∷ []
palette_of (roles.Label role) = 3 ∷ 4 ∷ 5 ∷ []
palette_of (roles.Button role) = 6 ∷ 7 ∷ 8 ∷ 9 ∷ 10 ∷ []
palette_of (roles.Cluster role) = 11 ∷ 12 ∷ 13 ∷ []
palette_of (roles.Input role) = 14 ∷ 15 ∷ 16 ∷ 17 ∷ []
palette_of (roles.List role) = 18 ∷ 19 ∷ 20 ∷ []

-- the place of a role in that palette, from 1
abbrev pub place_of : Role → ℕ
place_of roles.Background = 1
place_of (roles.Bar bar.Normal) = 1
place_of (roles.Bar bar.Letter) = 2
place_of (roles.Bar bar.Selected) = 3
place_of (roles.Bar bar.SelectedLetter) = 4
place_of (roles.Status status.Normal) = 1
place_of (roles.Status status.Disabled) = 2
place_of (roles.Frame owner frame.Passive) = 1
place_of (roles.Frame owner frame.Active) = 2
place_of (roles.Frame owner frame.Body) = 3
place_of (roles.StaticText owner) = 1
place_of (roles.Label label.Normal) = 1
place_of (roles.Label label.Focused) = 2
place_of (roles.Label label.Letter) = 3
place_of (roles.Button button.Normal) = 1
place_of (roles.Button button.Default) = 2
place_of (roles.Button button.Focused) = 3
place_of (roles.Button button.Disabled) = 4
place_of (roles.Button button.Letter) = 5
place_of (roles.Cluster cluster.Normal) = 1
place_of (roles.Cluster cluster.Selected) = 2
place_of (roles.Cluster cluster.Letter) = 3
place_of (roles.Input input.Normal) = 1
place_of (roles.Input input.SelectedText) = 2
place_of (roles.Input input.Arrow) = 3
place_of (roles.Input input.Cursor) = 4
place_of (roles.List list.Normal) = 1
place_of (roles.List list.Focused) = 2
place_of (roles.List list.Chosen) = 3

-- the palettes of what owns a view: the application alone, a window or a dialog
abbrev pub owners_of_part : Owner → List (List ℕ)
owners_of_part owners.Window = window ∷ application ∷ []
owners_of_part owners.Dialog = dialog ∷ application ∷ []

abbrev pub owner_palettes : Role → List (List ℕ)
owner_palettes roles.Background = application ∷ []
owner_palettes (roles.Bar role) = application ∷ []
owner_palettes (roles.Status role) = application ∷ []
owner_palettes (roles.Frame owner role) = owners_of_part owner
owner_palettes (roles.StaticText owner) = owners_of_part owner
owner_palettes (roles.Label role) = dialog ∷ application ∷ []
owner_palettes (roles.Button role) = dialog ∷ application ∷ []
owner_palettes (roles.Cluster role) = dialog ∷ application ∷ []
owner_palettes (roles.Input role) = dialog ∷ application ∷ []
owner_palettes (roles.List role) = dialog ∷ application ∷ []

-- the attribute of a role, for a view whose owners have these palettes
abbrev pub colour_in : List (List ℕ) → Role → ℕ
colour_in owners role = attr_of (palette_of role ∷ owners) (place_of role)

-- the chain of what a window or a dialog owns, where it is known whose it is
abbrev pub IsOwned : Option Owner → List (List ℕ) → Type 0
IsOwned None chain = Unit {0}
IsOwned (Some owner) chain = chain ≡ owners_of_part owner
