use Rattle.std.proofs.Common.{ℕ, ◌↔◌, List, refl, subst, ◌∙◌, sym}
use Rattle.tv_model.specs.declared.desc.Rule.{Rule}
use Rattle.tv_model.specs.Description.Commands.{command_of}
use Rattle.tv_reach.specs.Found.{HasRuleFor}
use Rattle.tv_reach.specs.Masks.{HasRule}
use Rattle.tv_reach.proofs.FoundLemmas.{never_free, no_control, none_free}
use Rattle.tv_reach.proofs.case.is_never_free.Goals as goal

pub returns-then-is_control : goal.returns-then-is_control
returns-then-is_control c = λ placed is.
    let case = c.args.case.now in
    let shown = c.args.leaf.now in
    let enabled = c.own_enabling_rules-enabled_by.result in
    let enables : (k : ℕ) → HasRule enabled k ↔ HasRuleFor case.dialog.now.rules (command_of shown.node.now.kind) k
    = subst (λ (rs : List Rule). (k : ℕ) → HasRule enabled k ↔ HasRuleFor rs (command_of shown.node.now.kind) k) c.as_slice.ensures
    c.own_enabling_rules-enabled_by.ensures in (
      (λ e. never_free case placed shown is enabled c.union.result c.union.ensures (λ k. (enables k).0) (c.is_in_none.ensures.0 e)),
      (λ never.
          c.is_in_none.ensures.1
          (none_free case placed shown is enabled c.union.result c.union.ensures enables (sym c.is_control.ensures ∙ c.if-is_control.true) never)),
    )

pub returns-else-is_control : goal.returns-else-is_control
returns-else-is_control c = λ placed is. (
  (λ e. no_control c.args.case.now placed c.args.leaf.now is (sym c.is_control.ensures ∙ c.if-is_control.false)),
  (λ never. refl),
)
