-- The attribute of each role: the foreground in the low four bits, the background in the next three.
use Rattle.std.specs.Prelude.{ℕ}
use Rattle.tv_palette.specs.declared.role.Owner.TheVariants as owners
use Rattle.tv_palette.specs.declared.role.Role.{Role}
use Rattle.tv_palette.specs.declared.role.Role.TheVariants as roles
use Rattle.tv_palette.specs.declared.role.BarRole.TheVariants as bar
use Rattle.tv_palette.specs.declared.role.StatusRole.TheVariants as status
use Rattle.tv_palette.specs.declared.role.FrameRole.TheVariants as frame
use Rattle.tv_palette.specs.declared.role.LabelRole.TheVariants as label
use Rattle.tv_palette.specs.declared.role.ButtonRole.TheVariants as button
use Rattle.tv_palette.specs.declared.role.ClusterRole.TheVariants as cluster
use Rattle.tv_palette.specs.declared.role.InputRole.TheVariants as input
use Rattle.tv_palette.specs.declared.role.ListRole.TheVariants as list

abbrev pub attribute_of : Role → ℕ
attribute_of roles.Background = 0x71
attribute_of (roles.Bar bar.Normal) = 0x70
attribute_of (roles.Bar bar.Letter) = 0x74
attribute_of (roles.Bar bar.Selected) = 0x20
attribute_of (roles.Bar bar.SelectedLetter) = 0x24
attribute_of (roles.Status status.Normal) = 0x70
attribute_of (roles.Status status.Disabled) = 0x78
attribute_of (roles.Frame owners.Window frame.Passive) = 0x17
attribute_of (roles.Frame owners.Window frame.Active) = 0x1f
attribute_of (roles.Frame owners.Window frame.Body) = 0x1e
attribute_of (roles.Frame owners.Dialog frame.Passive) = 0x7f
attribute_of (roles.Frame owners.Dialog frame.Active) = 0x7f
attribute_of (roles.Frame owners.Dialog frame.Body) = 0x70
attribute_of (roles.StaticText owners.Window) = 0x1e
attribute_of (roles.StaticText owners.Dialog) = 0x70
attribute_of (roles.Label label.Normal) = 0x70
attribute_of (roles.Label label.Focused) = 0x7f
attribute_of (roles.Label label.Letter) = 0x7e
attribute_of (roles.Button button.Normal) = 0x20
attribute_of (roles.Button button.Default) = 0x2b
attribute_of (roles.Button button.Focused) = 0x2f
attribute_of (roles.Button button.Disabled) = 0x78
attribute_of (roles.Button button.Letter) = 0x2e
attribute_of (roles.Cluster cluster.Normal) = 0x30
attribute_of (roles.Cluster cluster.Selected) = 0x3f
attribute_of (roles.Cluster cluster.Letter) = 0x3e
attribute_of (roles.Input input.Normal) = 0x1f
attribute_of (roles.Input input.SelectedText) = 0x2f
attribute_of (roles.Input input.Arrow) = 0x1a
attribute_of (roles.Input input.Cursor) = 0x4f
attribute_of (roles.List list.Normal) = 0x30
attribute_of (roles.List list.Focused) = 0x2f
attribute_of (roles.List list.Chosen) = 0x3e
