use Rattle.std.proofs.Common.{◌↔◌, IfOk, IsTrue, ap, subst, sym}
use Rattle.std.specs.Prelude.{option_copied}
use Rattle.tv_app.specs.Setting.{IsSafeFor}
use Rattle.tv_app.proofs.setting.may_save_found.Goals as goal

pub returns-in-Some : goal.returns-in-Some
returns-in-Some c =
    subst (λ o. IfOk c.may_save.result (λ may. IsTrue may ↔ IsSafeFor c.args.kind.now o)) (sym (ap option_copied c.in-Some.is)) c.may_save.ensures
