-- Declarations in the order of their lines: none has a lower line than the one before in its list.
use Rattle.std.specs.List.{All}
use Rattle.std.specs.List.Sorted.{IsNonDecreasingBy}
use Rattle.tv_model.specs.declared.desc.Desc.{Desc}
use Rattle.tv_model.specs.declared.desc.Menu.{Menu}

abbrev pub IsMenuInOrder : Menu → Type 0
IsMenuInOrder menu = IsNonDecreasingBy (λ item. item.id.0) menu.items

-- what a description declares outside windows and dialogs, and these themselves
pub record IsInOrder (d : Desc) : Type 0 where
  pub menus : IsNonDecreasingBy (λ menu. menu.id.0) d.menus
  pub items : All IsMenuInOrder d.menus
  pub status : IsNonDecreasingBy (λ item. item.id.0) d.status
  pub windows : IsNonDecreasingBy (λ window. window.node.id.0) d.windows
  pub dialogs : IsNonDecreasingBy (λ dialog. dialog.node.id.0) d.dialogs
