-- Widths of characters, and how many there are of each thing.
use Rattle.std.specs.Prelude.{◌≢◌, ◌≤◌, length, All, Some, pos, IsTrue}
use Rattle.tv_model.specs.declared.desc.Desc.{Desc}
use Rattle.tv_model.specs.declared.desc.Effect.{Effect}
use Rattle.tv_model.specs.declared.desc.Effect.TheVariants as effects
use Rattle.tv_model.specs.Description.Heads.{all_nodes}
use Rattle.tv_model.specs.Description.LawfulNodes.{IsLawfulCommand, IsLimited, IsNarrowNode, IsNarrowText}
use Rattle.tv_model.specs.Description.LawfulNodes.{IsShort}
use Rattle.tv_model.specs.Description.Limits.{most_dialogs, most_menu_items, most_menus, most_nested}
use Rattle.tv_model.specs.Description.Limits.{most_rules, most_status_items, most_views, most_windows}
use Rattle.tv_model.specs.Description.Nodes.{is_pane}
use Rattle.tv_model.specs.Description.Numbers.{IsBetween}
use Rattle.tv_faults.specs.Sound.Bodies.{EachBody}

-- ---- widths

-- every character that shows takes one column
pub record AreNarrow (d : Desc) : Type 0 where
  pub titles : All (λ menu. IsNarrowText menu.title.text) d.menus
  pub items : All (λ menu. All (λ item. IsNarrowText item.text.text) menu.items) d.menus
  pub status : All (λ item. IsNarrowText item.text) d.status
  pub nodes : All IsNarrowNode (all_nodes d)

-- ---- limits

-- what a rule enables is a lawful command
abbrev pub EnablesLawfulCommand : Effect → Type 0
EnablesLawfulCommand (effects.Enable command) = IsLawfulCommand (Some command)
EnablesLawfulCommand (effects.Show name) = Unit {0}

-- texts are short and commands lawful
pub record HasLimitedTexts (d : Desc) : Type 0 where
  pub titles : All (λ menu. IsShort menu.title.text) d.menus
  pub items : All (λ menu.
      All (λ item. IsLawfulCommand (Some item.command) × IsShort item.text.text) menu.items) d.menus
  pub status : All (λ item. IsLawfulCommand (Some item.command) × IsShort item.text) d.status
  pub rules : All (λ dialog. All (λ rule. EnablesLawfulCommand rule.effect) dialog.rules) d.dialogs

-- there are not too many of a thing
pub record HasLimitedCounts (d : Desc) : Type 0 where
  pub menus : length d.menus ≤ most_menus
  pub items : All (λ menu. length menu.items ≤ most_menu_items) d.menus
  pub status : length d.status ≤ most_status_items
  pub windows : length d.windows ≤ most_windows
  pub dialogs : length d.dialogs ≤ most_dialogs
  pub views : EachBody d (λ body. length body.views ≤ most_views)
  pub rules : All (λ dialog. length dialog.rules ≤ most_rules) d.dialogs

-- numbers, sizes, counts and lengths lie within the limits. No pane has so many panes around it as may be
-- nested
pub record IsWithinLimits (d : Desc) : Type 0 where
  pub width : IsBetween (pos 20) (pos 132) d.width
  pub height : IsBetween (pos 10) (pos 60) d.height
  pub nodes : All IsLimited (all_nodes d)
  pub texts : HasLimitedTexts d
  pub counts : HasLimitedCounts d
  pub nested : EachBody d (λ body.
      All (λ view. IsTrue (is_pane view.kind) → view.depth ≢ most_nested) body.views)
