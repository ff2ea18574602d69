use Rattle.std.proofs.Common.{◌≡◌, Ok, IfOk, IfErr}
use Rattle.std.proofs.lemmas.Result.{IfOk-weaker}
use Rattle.tv_script.specs.Scripts.{SpellsAScript}
use Rattle.tv_script.specs.Judging.{judged_whole, judgement}
use Rattle.tv_script.specs.Reading.Scripts.{IsAnswered}
use Rattle.tv_script.proofs.ScriptLemmas.{whole_spelled, all_refused, gives}
use Rattle.tv_script.proofs.SizeLemmas.{passed}
use Rattle.tv_script.proofs.script_text.parse_items.Goals as goal

pub returns : goal.returns
returns c =
    let text = c.args.text.now in
    let width = c.args.width in
    let height = c.args.height in
    let value = passed (λ width height. IfOk c.read_text.result (λ items. judged_whole width height text ≡ judgement items (Ok tt))) width height c.ranges.width c.ranges.height c.read_text.ensures.value in
    let fault = passed (λ width height. IfErr c.read_text.result (λ fault. IsAnswered fault (judged_whole width height text).answer)) width height c.ranges.width c.ranges.height c.read_text.ensures.fault in
    record {
      spelled = IfOk-weaker c.read_text.result (λ items. judged_whole width height text ≡ judgement items (Ok tt)) (λ items. SpellsAScript width height text items) (λ items e. whole_spelled width height text items e) value;
      only = λ items spelled. gives width height c.read_text.result text items value fault spelled;
      fault = all_refused width height c.read_text.result text fault;
    }
