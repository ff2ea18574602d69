use Rattle.std.proofs.Common.{subst, List, ℕ, MatchResult}
use Rattle.tv_io.specs.Writer.{Cuts, Takes}
use Rattle.tv_machine.specs.Output.{after}
use Rattle.tv_program.proofs.PictureLemmas.{svg_of-session}
use Rattle.tv_program.proofs.drawing.draw.Goals as goal

pub returns-clause-drawn : goal.returns-clause-drawn
returns-clause-drawn g c = λ s stands.
    let there = subst (λ items. g.S.Stage.stands c.advance.new.stage (after s items)) c.items.ensures.items (c.advance.ensures s stands) in
    subst (λ (text : List ℕ). MatchResult c.write_svg.result (λ _. Takes (g.W.Writer.seen c.args.out.now) (g.W.Writer.seen c.write_svg.new.out) text) (λ _. Cuts (g.W.Writer.seen c.args.out.now) (g.W.Writer.seen c.write_svg.new.out) text))
    (svg_of-session (after s c.args.script.now) c.screen.result.now (c.screen.ensures (after s c.args.script.now) there))
    c.write_svg.ensures
