use Rattle.std.proofs.Common.{◌≡◌, IfOk, None, Some, ap, nat_le, subst, ◌∙◌}
use Rattle.tv_explain.specs.Explaining.{part_at}
use Rattle.tv_explain.specs.Inside.{Ruled, ruled}
use Rattle.tv_explain.specs.Lines.{around_line}
use Rattle.tv_explain.proofs.LineLemmas.{found_image}
use Rattle.tv_explain.proofs.explaining.in_dialog.Goals as goal

pub returns-in-Some : goal.returns-in-Some
returns-in-Some c =
    let line = c.args.line in
    let found = c.in-Some.ensures ∙ ap (around_line (λ (dialog : Ruled). dialog.inside.frame.id.0) line) c.in_dialogs.ensures in
    subst (λ at. IfOk c.part_at.result (λ why. why ≡ at))
    (found_image (λ (dialog : Ruled). part_at c.args.kind dialog line) (ruled c.args.desc.now.version) (λ (dialog : Ruled). nat_le dialog.inside.frame.id.0 line) c.args.desc.now.dialogs (Some c.in-Some.dialog.now) found)
    c.part_at.ensures

pub returns-in-None : goal.returns-in-None
returns-in-None c =
    let line = c.args.line in
    let found = c.in-None.ensures ∙ ap (around_line (λ (dialog : Ruled). dialog.inside.frame.id.0) line) c.in_dialogs.ensures in
    found_image (λ (dialog : Ruled). part_at c.args.kind dialog line) (ruled c.args.desc.now.version) (λ (dialog : Ruled). nat_le dialog.inside.frame.id.0 line) c.args.desc.now.dialogs None found
