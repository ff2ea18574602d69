use Rattle.std.proofs.Common.{◌↔◌, IfOk, IsTrue, subst, sym}
use Rattle.tv_machine.specs.Safe.{IsValueOf}
use Rattle.tv_model.specs.declared.kind.Kind.TheVariants as kinds
use Rattle.tv_valid.specs.Domain.{InDomain}
use Rattle.tv_app.proofs.setting.may_save.Goals as goal

pub returns-in-Input-Text : goal.returns-in-Input-Text
returns-in-Input-Text c =
    subst (λ k. IfOk c.is_in_domain.result (λ may. IsTrue may ↔ IsValueOf InDomain k c.args.value.now)) (sym c.in-Input-Text.is-0)
    (subst (λ v. IfOk c.is_in_domain.result (λ may. IsTrue may ↔ IsValueOf InDomain (kinds.Input c.in-Input-Text.input) v)) (sym c.in-Input-Text.is-1)
    c.is_in_domain.ensures)
