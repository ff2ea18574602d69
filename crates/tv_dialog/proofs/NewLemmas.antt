-- A new dialog round a fresh body.
use Rattle.std.proofs.Common.{◌≡◌, ◌∙◌, List, [], map, Some, None, ap, sym}
use Rattle.tv_model.specs.declared.node.Node.{Node}
use Rattle.tv_model.specs.declared.desc.Dialog.{Dialog}
use Rattle.tv_model.specs.declared.desc.Rule.{Rule}
use Rattle.tv_view.specs.Meaning.{Leaf}
use Rattle.tv_machine.specs.Leaves.{leaf_list}
use Rattle.tv_machine.specs.Dialog.Lawful.{IsLawfulDialog}
use Rattle.tv_machine.specs.Dialog.Opening.{unfocused}
use Rattle.tv_group.specs.Opened.{opened}
use Rattle.tv_group.specs.Outline.{IsFreshBody, body_bounds}
use Rattle.tv_group.specs.declared.group.GroupOf.{GroupOf}
use Rattle.tv_group.proofs.TreeLemmas.{fresh_placed, opened-fresh}
use Rattle.tv_dialog.specs.Head.{declared_dialog_head}
use Rattle.tv_dialog.specs.Plan.{plan_of}
use Rattle.tv_dialog.specs.Resting.{Rests}
use Rattle.tv_dialog.specs.declared.dialog.DialogOf.{DialogOf}
use Rattle.tv_dialog.proofs.ReopenLemmas.{fresh-rests}

-- it rests as the machine's dialog does before any event
pub new-rests : {V : Type 0} (look : V → Leaf) (d : Dialog) (node : Node) (views : List Node) (rules : List Rule) (body : GroupOf V) (dialog : DialogOf V)
    → d.node ≡ node → d.views ≡ views → d.rules ≡ rules → IsLawfulDialog d → IsFreshBody look node views body
    → Some dialog.head ≡ declared_dialog_head node → dialog.plan ≡ plan_of views rules → dialog.body ≡ body → dialog.marks ≡ []
    → Rests look d (unfocused d None []) dialog
new-rests look d node views rules body dialog own seen ruled lawful fresh head plan is marks =
    fresh-rests look d lawful dialog (head ∙ ap declared_dialog_head (sym own))
    (plan ∙ ap (λ v. plan_of v rules) (sym seen) ∙ ap (plan_of d.views) (sym ruled))
    (ap (opened look) is ∙ opened-fresh look node views body fresh
    ∙ ap (λ n. map (fresh_placed (body_bounds n)) (leaf_list views)) (sym own)
    ∙ ap (λ v. map (fresh_placed (body_bounds d.node)) (leaf_list v)) (sym seen))
    marks
