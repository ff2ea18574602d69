use Rattle.std.proofs.Common.{◌≡◌, Some, IfErr, sym, ap, subst, ◌∙◌}
use Rattle.std.specs.Option.{option_map}
use Rattle.tv_script.specs.Reading.Lines.{line_read}
use Rattle.tv_script.specs.Reading.Scripts.{IsAnswered, with_bytes, with_read, with_script_line}
use Rattle.tv_script.specs.ScriptLines.{line_meant}
use Rattle.tv_script.proofs.SizeLemmas.{passed}
use Rattle.tv_script.proofs.TakeLemmas.{by_line}
use Rattle.tv_script.proofs.script_text.take_line.Goals as goal

pub returns-clause-fault : goal.returns-clause-fault
returns-clause-fault c =
    let width = c.args.width in
    let height = c.args.height in
    let line = line_meant c.in-Some-found.line in
    let read : line_read c.args.line.now ≡ Some (Some line) = sym c.script_line.ensures ∙ ap (option_map (option_map line_meant)) (c.in-Some.is ∙ ap Some c.in-Some-found.is) in
    let taken : with_bytes width height c.args.number c.args.items c.args.line.now ≡ with_script_line width height c.args.number c.args.items line = by_line width height c.args.number c.args.items c.args.line.now ∙ ap (with_read width height c.args.number c.args.items) read in
    subst (λ x. IfErr c.with_line.result (λ fault. IsAnswered fault x)) (sym taken)
    (passed (λ width height. IfErr c.with_line.result (λ fault. IsAnswered fault (with_script_line width height c.args.number c.args.items line))) width height c.ranges.width c.ranges.height c.with_line.ensures.fault)
