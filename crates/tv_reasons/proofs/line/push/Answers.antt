use Rattle.std.proofs.Common.{◌≡◌, ◌<◌, ◌++◌, ◌∷◌, [], ◌∙◌, ap, arith, length}
use Rattle.std.proofs.lemmas.Grind.{common_steps}
use Rattle.tv_reasons.specs.Reasons.{printed}
use Rattle.tv_reasons.proofs.CutLemmas.{with_room, when_full}
use Rattle.tv_reasons.proofs.line.push.Goals as goal

pub returns-then-not-is_full : goal.returns-then-not-is_full
returns-then-not-is_full c =
    let line = c.args.chars.now.items in
    let less : length line < 132 = grind (arith, common_steps, c.if-not-is_full.ensures.value, c.if-not-is_full.ensures.fits) in
    c.push.ensures.items ∙ ap (λ ch. line ++ ch ∷ []) c.printed.ensures ∙ with_room line (printed c.args.ch) less

pub returns-else-not-is_full : goal.returns-else-not-is_full
returns-else-not-is_full c =
    let full : length c.args.chars.now.items ≡ 132 = grind (arith, common_steps, c.if-not-is_full.ensures.value, c.if-not-is_full.ensures.fits) in
    when_full c.args.chars.now.items (printed c.args.ch) full
