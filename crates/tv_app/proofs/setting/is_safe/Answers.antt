use Rattle.std.proofs.Common.{◌≡◌, ◌↔◌, ◌∙◌, IfOk, IsTrue, subst, sym, true}
use Rattle.tv_machine.specs.Safe.{is_field}
use Rattle.tv_app.specs.Setting.{IsSafeFor}
use Rattle.tv_app.proofs.SettingLemmas.{if_field}
use Rattle.tv_app.proofs.setting.is_safe.Goals as goal

pub returns : goal.returns
returns c =
    let kind = c.args.view.now.kind in
    subst (λ o. IfOk c.may_save_found.result (λ is. IsTrue is ↔ (is_field kind ≡ true → IsSafeFor kind o))) c.value.ensures
    (if_field c.may_save_found.result kind _ (sym c.is_field.ensures ∙ c.if-not-is_field.false) c.may_save_found.ensures)
