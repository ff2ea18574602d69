-- Sound descriptions by conditions: what holds where a description has none of the seventeen faults.
use Rattle.std.specs.Prelude.{All}
use Rattle.tv_model.specs.declared.desc.Desc.{Desc}
use Rattle.tv_model.specs.Description.Heads.{all_nodes}
use Rattle.tv_model.specs.Description.LawfulNodes.{HasLawfulDomain, HasLawfulStart}
use Rattle.tv_faults.specs.Sound.Ends.{HaveEnds, HaveOneDefault, HaveOpenings}
use Rattle.tv_faults.specs.Sound.Letters.{HaveOwnKeys, HaveOwnLetters, HaveOwnMenuLetters}
use Rattle.tv_faults.specs.Sound.Limits.{AreNarrow, IsWithinLimits}
use Rattle.tv_faults.specs.Sound.Names.{AreLabelsLinked, HaveOwnNames}
use Rattle.tv_faults.specs.Sound.Places.{ArePlacedWell, AreViewsApart}
use Rattle.tv_faults.specs.Sound.Rules.{RulesNameThings, RulesShowOthers, HaveFreeControls}
-- windows and dialogs as what has views
pub mod Bodies
-- names, and what they mean: F1 and F6
pub mod Names
-- places, as sets of points: F2 and F3
pub mod Places
-- letters that are marked, and keys: F4, F5 and F17
pub mod Letters
-- what rules name and reach: F7, F8 and F9
pub mod Rules
-- ends, default buttons and openings: F10, F11 and F16
pub mod Ends
-- widths and limits: F14 and F15
pub mod Limits

-- each field says of points, names, letters and existence that there is no fault of its number
pub record Sound (d : Desc) : Type 0 where
  -- F1: no two windows or dialogs have a name in common, nor do two controls or panes of one of them
  pub names : HaveOwnNames d
  -- F2: each dialog lies in the desktop, and each view in its pane or inside its frame
  pub places : ArePlacedWell d
  -- F3: no point lies in two controls of one owner, nor in a pane and another view
  pub siblings : AreViewsApart d
  -- F4: no letter is marked twice in a window or dialog, but one that views share lawfully
  pub letters : HaveOwnLetters d
  -- F5: each status item has a key that it may have, that means nothing else and that no other has
  pub keys : HaveOwnKeys d
  -- F6: each label names a control
  pub links : AreLabelsLinked d
  -- F7: each rule names a cluster, an item of it and, to show it, a control or pane
  pub rules : RulesNameThings d
  -- F8: no rule shows its own cluster or a pane around it
  pub shown : RulesShowOthers d
  -- F9: each dialog has a control that no rule reaches
  pub focus : HaveFreeControls d
  -- F10: each dialog can be cancelled, and each `ok`, `yes` or `no` of a button is among its dialog's ends
  pub ends : HaveEnds d
  -- F11: no window or dialog has two default buttons
  pub defaults : HaveOneDefault d
  -- F12: each input has a domain with a text
  pub domains : All (λ node. HasLawfulDomain node.kind) (all_nodes d)
  -- F13: each input starts with a text that may stand in it, each cluster and list with items that it has
  pub starts : All (λ node. HasLawfulStart node.kind) (all_nodes d)
  -- F14: each character that shows takes one column
  pub widths : AreNarrow d
  -- F15: numbers, sizes, counts and lengths lie within the limits
  pub limits : IsWithinLimits d
  -- F16: dialogs open by commands from 100 to 255, each by its own, and a start names a dialog
  pub openings : HaveOpenings d
  -- F17: no letter opens two menus or chooses two items of one, no digit chooses two windows, no rule stops
  -- `cancel` or `close`
  pub menus : HaveOwnMenuLetters d
