use Rattle.std.proofs.Common.{◌≡◌, ◌↔◌, ◌∙◌, All, IfOk, IsTrue, ap, arith, length, subst, sym}
use Rattle.tv_app.specs.Setting.{HasSafeValue}
use Rattle.tv_app.proofs.SettingLemmas.{if_fits}
use Rattle.tv_app.proofs.setting.fits.Goals as goal

pub returns : goal.returns
returns c =
    let same : c.len.result ≡ c.len-2.result = omega arith in
    if_fits c.are_safe.result c.args.dialog.now c.args.values.now
    (sym c.len-2.ensures.value ∙ sym same ∙ c.len.ensures.value ∙ ap length c.requires)
    (subst (λ views. IfOk c.are_safe.result (λ b. IsTrue b ↔ All (HasSafeValue c.args.values.now) views)) c.as_slice.ensures c.are_safe.ensures)
