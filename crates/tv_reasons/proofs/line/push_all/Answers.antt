use Rattle.std.proofs.Common.{◌++◌, ◌∷◌, [], ◌∙◌, sym, ap, map, take}
use Rattle.std.proofs.lemmas.List.{take_more}
use Rattle.tv_reasons.specs.Reasons.{printed}
use Rattle.tv_reasons.proofs.CutLemmas.{as_it_was, one_more}
use Rattle.tv_reasons.proofs.line.push_all.Goals as goal

pub loop-ch-init : goal.loop-ch-init
loop-ch-init c = as_it_was c.args.chars.now.items c.requires

pub loop-ch-preserved : goal.loop-ch-preserved
loop-ch-preserved c =
    let line = c.args.chars.now.items in
    let before = take c.loop-ch.ch-index c.args.more.now in
    let more = take_more c.args.more.now c.loop-ch.ch-index c.ch-item.result c.loop-ch-test.true ∙ ap (λ ch. before ++ ch ∷ []) (sym c.ch-item.is) in
    one_more line c.loop-ch.chars.items before c.push.new.chars.items c.ch-item.result c.loop-ch.invariant c.push.ensures
    ∙ ap (λ chars. take 132 (line ++ map printed chars)) (sym more)
