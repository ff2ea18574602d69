use Rattle.std.proofs.Common.{◌≡◌, ◌++◌, ◌∙◌, ap, map, take, subst}
use Rattle.std.specs.Fmt.{WritesText}
use Rattle.std.proofs.lemmas.Result.{on_ok_weaker}
use Rattle.tv_reasons.specs.Reasons.{IsAdded, printed}
use Rattle.tv_reasons.proofs.AddedLemmas.{shown_apart}
use Rattle.tv_reasons.proofs.line.Line.push_shown.Goals as goal

pub returns-clause-shown : goal.returns-clause-shown
returns-clause-shown g c =
    let line = c.args.self.now in
    let more = c.write-result.new.self in
    let output = g.D.Display.output c.args.value in
    let joined : c.push_all.new.self ≡ take 132 (line ++ map printed more) =
    c.push_all.ensures ∙ ap (λ l. take 132 (line ++ map printed l)) c.as_slice.ensures.value in
    on_ok_weaker c.write-result.result
    (λ wrote. shown_apart line more c.push_all.new.self output (subst (λ l. WritesText IsAdded l output more) c.new-more.ensures wrote) joined)
    c.write-result.ensures.writes
