use Rattle.std.proofs.Common.{ℕ, ap, ◌∙◌}
use Rattle.tv_io.proofs.PenLemmas.{Puts-along, Puts-then}
use Rattle.tv_terminal.specs.Svg.{head_text, margin_element}
use Rattle.tv_terminal.proofs.svg.put_svg.Goals as goal

pub returns : goal.returns
returns g c =
    let head = Puts-along (ap (λ (w : ℕ). head_text w c.height.result) c.width.ensures.is ∙ ap (λ (h : ℕ). head_text c.args.screen.now.width h) c.height.ensures.is) c.put_head.ensures in
    let margin = Puts-along (ap (λ (w : ℕ). margin_element w c.height-2.result) c.width-2.ensures.is ∙ ap (λ (h : ℕ). margin_element c.args.screen.now.width h) c.height-2.ensures.is) c.put_margin.ensures in
    Puts-then (Puts-then (Puts-then head margin) c.put_rows.ensures) c.put.ensures
