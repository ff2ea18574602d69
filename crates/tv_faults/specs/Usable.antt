-- What a sound description has that can be used.
use Rattle.std.specs.Prelude.{◌≡◌, ℕ, ◌≤◌, true, List, length, All, Some, pos}
use Rattle.std.specs.List.{list_any}
use Rattle.tv_model.specs.declared.desc.Desc.{Desc}
use Rattle.tv_model.specs.declared.desc.Dialog.{Dialog}
use Rattle.tv_model.specs.Description.Nodes.{is_control}
use Rattle.tv_model.specs.Description.Heads.{dialog_head, dialog_nodes, is_named}
use Rattle.tv_model.specs.Description.LawfulNodes.{IsLimited, IsNarrowNode}
use Rattle.tv_model.specs.Description.Numbers.{IsBetween}
use Rattle.tv_model.specs.Description.Rectangles.{desktop, place_of_node}
use Rattle.tv_model.specs.Faults.Limits.{is_lawful_count}
use Rattle.tv_faults.specs.Sound.Places.{AreApart, AreInside, IsPartOf}

-- no cluster or list of the dialog has too many items, or none
abbrev pub HasLawfulCounts : Dialog → Type 0
HasLawfulCounts dialog = All (λ view. is_lawful_count view.kind ≡ true) dialog.views

-- a dialog that can be shown, focused and cancelled
pub record IsUsableDialog (d : Desc) (dialog : Dialog) : Type 0 where
  pub nodes : All IsLimited (dialog_nodes dialog)
  pub few : length dialog.views ≤ 64
  pub narrow : All IsNarrowNode (dialog_nodes dialog)
  pub within : IsPartOf (place_of_node dialog.node) (desktop d)
  pub inside : AreInside dialog.node dialog.views
  pub apart : AreApart dialog.views
  pub control : list_any (λ node. is_control node.kind) dialog.views ≡ true
  pub cancel : (dialog_head dialog).ends.cancel ≡ true

pub record IsUsable (d : Desc) : Type 0 where
  pub width : IsBetween (pos 20) (pos 132) d.width
  pub height : IsBetween (pos 10) (pos 60) d.height
  pub dialogs : All (IsUsableDialog d) d.dialogs
  pub start : (name : List ℕ) → d.start ≡ Some name → list_any (is_named name) d.dialogs ≡ true
