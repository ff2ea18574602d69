-- Where panes stand.
use Rattle.std.proofs.Common.{◌≡◌, ℕ, ◌++◌, List, [], ◌∷◌, All, subst}
use Rattle.std.specs.Prelude.{find, Some}
use Rattle.std.proofs.lemmas.List.Elements.{All-head}
use Rattle.tv_faults.specs.Sound.Bodies.{dialog_body}
use Rattle.tv_faults.proofs.LackLemmas.{bodies}
use Rattle.tv_faults.proofs.LimitLemmas.{OfBody, nodes_iff}
use Rattle.tv_faults.proofs.PairLemmas.{all_append}
use Rattle.tv_faults.proofs.SharedLetterLemmas.{found_holds}
use Rattle.tv_faults.proofs.SoundLemmas.{lawful_nodes, sound_says}
use Rattle.tv_model.specs.Faults.{IsSound}
use Rattle.tv_model.specs.Description.Heads.{is_named}
use Rattle.tv_model.specs.declared.desc.Desc.{Desc}
use Rattle.tv_model.specs.declared.desc.Dialog.{Dialog}
use Rattle.tv_model.specs.Description.LawfulNodes.{IsLawfulNode, IsLimited}
use Rattle.tv_model.specs.declared.node.Node.{Node}

-- views of which the last is split off
module _ (before earlier : List Node) (view : Node) (is : before ≡ earlier ++ view ∷ []) (lawful : All IsLawfulNode before) where
  parts : All IsLawfulNode earlier × All IsLawfulNode (view ∷ [])
  parts = (all_append IsLawfulNode earlier (view ∷ [])).0 (subst (All IsLawfulNode) is lawful)

  pub earlier-lawful : All IsLawfulNode earlier
  earlier-lawful = parts.0

  pub last-limited : IsLimited view
  last-limited = (All-head IsLawfulNode view [] parts.1).limited

-- views of a dialog that is found in a sound description
pub found-lawful : (d : Desc) (name : List ℕ) (dialog : Dialog) → IsSound d → find (is_named name) d.dialogs ≡ Some dialog → All IsLawfulNode dialog.views
found-lawful d name dialog sound found =
    let each = ((bodies d (OfBody IsLawfulNode)).0 ((nodes_iff IsLawfulNode d).0 (lawful_nodes d (sound_says d sound)))).1 in
    (found_holds (λ x. OfBody IsLawfulNode (dialog_body d.version x)) (is_named name) d.dialogs dialog each found).0.1
