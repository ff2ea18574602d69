-- Which colour a chain gives to a role.
use Rattle.std.proofs.Common.{◌≡◌, ℕ, List, [], ◌∷◌, refl, sym, ap, ◌∙◌}
use Rattle.tv_palette.specs.Chain.{entry, attr_of, coloured}
use Rattle.tv_palette.specs.Palettes.{colour_in, palette_of, place_of, owner_palettes}
use Rattle.tv_palette.specs.Attributes.{attribute_of}
use Rattle.tv_palette.specs.declared.role.Owner.TheVariants as owners
use Rattle.tv_palette.specs.declared.role.Role.{Role}
use Rattle.tv_palette.specs.declared.role.Role.TheVariants as roles
use Rattle.tv_palette.specs.declared.role.BarRole.TheVariants as bar
use Rattle.tv_palette.specs.declared.role.StatusRole.TheVariants as status
use Rattle.tv_palette.specs.declared.role.FrameRole.TheVariants as frame
use Rattle.tv_palette.specs.declared.role.LabelRole.TheVariants as label
use Rattle.tv_palette.specs.declared.role.ButtonRole.TheVariants as button
use Rattle.tv_palette.specs.declared.role.ClusterRole.TheVariants as cluster
use Rattle.tv_palette.specs.declared.role.InputRole.TheVariants as input
use Rattle.tv_palette.specs.declared.role.ListRole.TheVariants as list

-- empty palettes change nothing
attr_of-coloured : (chain : List (List ℕ)) (index : ℕ) → attr_of (coloured chain) index ≡ attr_of chain index
attr_of-coloured [] index = refl
attr_of-coloured ([] ∷ owners) index = attr_of-coloured owners index
attr_of-coloured ((first ∷ rest) ∷ owners) index = attr_of-coloured owners (entry (first ∷ rest) index)

-- the palettes lead to the table
leads : (role : Role) → colour_in (owner_palettes role) role ≡ attribute_of role
leads roles.Background = refl
leads (roles.Bar bar.Normal) = refl
leads (roles.Bar bar.Letter) = refl
leads (roles.Bar bar.Selected) = refl
leads (roles.Bar bar.SelectedLetter) = refl
leads (roles.Status status.Normal) = refl
leads (roles.Status status.Disabled) = refl
leads (roles.Frame owners.Window frame.Passive) = refl
leads (roles.Frame owners.Window frame.Active) = refl
leads (roles.Frame owners.Window frame.Body) = refl
leads (roles.Frame owners.Dialog frame.Passive) = refl
leads (roles.Frame owners.Dialog frame.Active) = refl
leads (roles.Frame owners.Dialog frame.Body) = refl
leads (roles.StaticText owners.Window) = refl
leads (roles.StaticText owners.Dialog) = refl
leads (roles.Label label.Normal) = refl
leads (roles.Label label.Focused) = refl
leads (roles.Label label.Letter) = refl
leads (roles.Button button.Normal) = refl
leads (roles.Button button.Default) = refl
leads (roles.Button button.Focused) = refl
leads (roles.Button button.Disabled) = refl
leads (roles.Button button.Letter) = refl
leads (roles.Cluster cluster.Normal) = refl
leads (roles.Cluster cluster.Selected) = refl
leads (roles.Cluster cluster.Letter) = refl
leads (roles.Input input.Normal) = refl
leads (roles.Input input.SelectedText) = refl
leads (roles.Input input.Arrow) = refl
leads (roles.Input input.Cursor) = refl
leads (roles.List list.Normal) = refl
leads (roles.List list.Focused) = refl
leads (roles.List list.Chosen) = refl

pub leads_through : (role : Role) (chain : List (List ℕ)) → coloured chain ≡ owner_palettes role → colour_in chain role ≡ attribute_of role
leads_through role chain same =
    sym (attr_of-coloured chain (entry (palette_of role) (place_of role)))
    ∙ (ap (λ owners. colour_in owners role) same ∙ leads role)
