use Rattle.std.proofs.Common.{ap, encode_utf8, flat_map, sym, ◌∙◌, ◌++◌, take}
use Rattle.std.proofs.lemmas.List.{take_all}
use Rattle.tv_io.proofs.PenLemmas.{PutsPart-then, PutsPart-end, Puts-along, flat_map-take_more}
use Rattle.tv_io.proofs.pen.Pen.put_chars.Goals as goal

pub loop-ch-preserved : goal.loop-ch-preserved
loop-ch-preserved g c =
    let before = flat_map encode_utf8 (take c.loop-ch.ch-index c.args.chars.now) in
    let more = flat_map-take_more encode_utf8 c.args.chars.now c.loop-ch.ch-index c.ch-item.result c.loop-ch-test.true ∙ ap (λ ch. before ++ encode_utf8 ch) (sym c.ch-item.is) in
    rw more (PutsPart-then before (encode_utf8 c.ch-item.result) c.loop-ch.invariant c.gather.ensures)

pub returns : goal.returns
returns g c =
    let all = take_all c.loop-ch.ch-index c.args.chars.now c.loop-ch-test.false in
    Puts-along (ap (flat_map encode_utf8) all) (PutsPart-end c.loop-ch.invariant (Puts-along c.as_slice.ensures.value c.put.ensures))
