use Rattle.std.proofs.Common.{IfOk, sym, ◌∙◌, subst}
use Rattle.tv_advice.specs.Beside.{IsToldByKind}
use Rattle.tv_advice.proofs.beside.tell_beside.Goals as goal

pub returns-else-branch : goal.returns-else-branch
returns-else-branch c =
    subst (λ kind. IfOk c.tell_script.result (λ told. IsToldByKind kind c.args.manner c.args.name.now c.args.desc c.args.text.now told)) (sym c.if-branch.false ∙ c.in_ok-is_certificate.ensures) c.tell_script.ensures
