use Rattle.std.proofs.Common.{◌≡◌, filter_map, map, All, sym, ap, subst, ◌∙◌}
use Rattle.std.proofs.lemmas.Result.{IfOk-weaker}
use Rattle.tv_model.specs.Description.Heads.{all_nodes}
use Rattle.tv_model.specs.Description.LawfulNodes.{IsLawfulNode}
use Rattle.tv_faults.proofs.SoundLemmas.{lawful_nodes, sound_says}
use Rattle.tv_check.specs.Plan.{IsLawfulStep, lent_step, planned_node, build_plan_of}
use Rattle.tv_check.proofs.PlanLemmas.{plan_names, steps_lawful}
use Rattle.tv_check.proofs.acceptance.Checked.build_plan.Goals as goal

pub returns-clause-nodes : goal.returns-clause-nodes
returns-clause-nodes c =
    IfOk-weaker c.plan_of.result (λ plan. map lent_step plan.items ≡ build_plan_of c.desc.result.now) (λ plan. filter_map planned_node (map lent_step plan.items) ≡ all_nodes c.args.self.now)
    (λ plan same. ap (filter_map planned_node) same ∙ plan_names c.desc.result.now ∙ ap all_nodes c.desc.ensures.value) c.plan_of.ensures

pub returns-clause-lawful : goal.returns-clause-lawful
returns-clause-lawful c =
    let lawful : All IsLawfulNode (all_nodes c.desc.result.now) = lawful_nodes c.desc.result.now (sound_says c.desc.result.now c.desc.ensures.sound) in
    IfOk-weaker c.plan_of.result (λ plan. map lent_step plan.items ≡ build_plan_of c.desc.result.now) (λ plan. All IsLawfulNode (filter_map planned_node (map lent_step plan.items)))
    (λ plan same. subst (All IsLawfulNode) (sym (ap (filter_map planned_node) same ∙ plan_names c.desc.result.now)) lawful) c.plan_of.ensures

pub returns-clause-steps : goal.returns-clause-steps
returns-clause-steps c =
    let lawful : All IsLawfulNode (all_nodes c.desc.result.now) = lawful_nodes c.desc.result.now (sound_says c.desc.result.now c.desc.ensures.sound) in
    IfOk-weaker c.plan_of.result (λ plan. map lent_step plan.items ≡ build_plan_of c.desc.result.now) (λ plan. All IsLawfulStep plan.items)
    (λ plan same. steps_lawful plan.items (subst (All IsLawfulNode) (sym (ap (filter_map planned_node) same ∙ plan_names c.desc.result.now)) lawful)) c.plan_of.ensures
