use Rattle.std.proofs.Common.{sym, ap, ◌∙◌}
use Rattle.tv_lang.proofs.OpenedLemmas.{opens_dialog}
use Rattle.tv_lang.proofs.stage.dialog_opened.Goals as goal

pub returns : goal.returns
returns c =
    let dialog = c.in_ok-dialog.dialog in
    let held = c.in_ok-dialog.ensures in
    λ desc. sym (opens_dialog desc c.args.node dialog (ap (λ d. d.node) held) (ap (λ d. d.views) held ∙ c.new-views.ensures) (ap (λ d. d.rules) held ∙ c.new-rules.ensures))
