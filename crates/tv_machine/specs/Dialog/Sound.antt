-- What a dialog of a sound description has, of which the laws of its runs follow.
use Rattle.std.specs.Prelude.{◌≡◌, false, IsTrue, All}
use Rattle.tv_model.specs.declared.desc.Desc.{Desc}
use Rattle.tv_model.specs.declared.desc.Dialog.{Dialog}
use Rattle.tv_model.specs.declared.desc.Rule.{Rule}
use Rattle.tv_model.specs.Description.Heads.{dialog_head}
use Rattle.tv_model.specs.Description.LawfulNodes.{IsNarrowNode, HasLawfulStart}
use Rattle.tv_model.specs.Description.Names.{gives_name}
use Rattle.tv_machine.specs.Leaves.{leaf_list}
use Rattle.tv_machine.specs.Dialog.Lawful.{IsLawfulDialog}
use Rattle.tv_machine.specs.Dialog.Rules.{shows}

-- the rule shows neither its own cluster nor a pane around it
abbrev pub ShowsOthers : Dialog → Rule → Type 0
ShowsOthers d rule =
    All (λ leaf. IsTrue (gives_name rule.cluster leaf.node) → shows d.views leaf rule.effect ≡ false)
    (leaf_list d.views)

pub record IsSoundDialog (d : Dialog) : Type 0 where
  pub lawful : IsLawfulDialog d
  -- every character that a view shows, or that a picture may fill in, takes one column
  pub narrow : All IsNarrowNode d.views
  -- each input starts with a text that may stand in it, each cluster and list with items that it has
  pub starts : All (λ view. HasLawfulStart view.kind) d.views
  -- no cluster hides itself
  pub shown : All (ShowsOthers d) d.rules
  -- the dialog can be cancelled
  pub cancel : IsTrue (dialog_head d).ends.cancel

-- every dialog of the description is sound
abbrev pub HasSoundDialogs : Desc → Type 0
HasSoundDialogs d = All IsSoundDialog d.dialogs
