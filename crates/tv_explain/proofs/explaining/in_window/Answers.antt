use Rattle.std.proofs.Common.{◌≡◌, IfOk, None, Some, ap, nat_le, subst, ◌∙◌}
use Rattle.tv_explain.specs.Explaining.{view_at}
use Rattle.tv_explain.specs.Inside.{Framed, in_frame}
use Rattle.tv_explain.specs.Lines.{around_line}
use Rattle.tv_explain.proofs.LineLemmas.{found_image}
use Rattle.tv_explain.proofs.explaining.in_window.Goals as goal

pub returns-in-Some : goal.returns-in-Some
returns-in-Some c =
    let line = c.args.line in
    let found = c.in-Some.ensures ∙ ap (around_line (λ (inside : Framed). inside.frame.id.0) line) c.in_windows.ensures in
    subst (λ at. IfOk c.view_at.result (λ why. why ≡ at))
    (found_image (λ (inside : Framed). view_at c.args.kind inside line) in_frame (λ (inside : Framed). nat_le inside.frame.id.0 line) c.args.desc.now.windows (Some c.in-Some.body.now) found)
    c.view_at.ensures

pub returns-in-None : goal.returns-in-None
returns-in-None c =
    let line = c.args.line in
    let found = c.in-None.ensures ∙ ap (around_line (λ (inside : Framed). inside.frame.id.0) line) c.in_windows.ensures in
    found_image (λ (inside : Framed). view_at c.args.kind inside line) in_frame (λ (inside : Framed). nat_le inside.frame.id.0 line) c.args.desc.now.windows None found
