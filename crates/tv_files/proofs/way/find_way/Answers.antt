use Rattle.std.proofs.Common.{◌≡◌, ◌∙◌, Some, ap, sym}
use Rattle.std.specs.Prelude.{position}
use Rattle.tv_files.specs.Ends.{end_of_failure}
use Rattle.tv_files.specs.Way.EndsWay.{declared}
use Rattle.tv_files.proofs.WaysLemmas.{named-there, undeclared-by}
use Rattle.tv_model.specs.declared.kind.DialogHead.{DialogHead}
use Rattle.tv_model.specs.Description.Commands.{is_end}
use Rattle.tv_model.specs.Description.Heads.{is_named}
use Rattle.tv_files.proofs.way.find_way.Goals as goal

pub returns-then-not-is_end : goal.returns-then-not-is_end
returns-then-not-is_end g c =
    let place = c.in-Some.place in
    let dialog = c.index-as_slice-place.result in
    let named : position (is_named c.args.wanted.dialog.now) c.args.sound.desc.now.dialogs ≡ Some place = sym c.dialog_place.ensures ∙ c.in-Some.is in
    undeclared-by c.args.sound.file.now c.args.sound.desc.now c.args.wanted.dialog.now c.args.wanted.end (g.W.Writer.seen c.args.out.now) place dialog c.no_end.result
    (end_of_failure c.without-then-not-is_end.result) named
    (named-there c.args.sound.desc.now.dialogs c.as_slice.result.now c.args.wanted.dialog.now place dialog c.as_slice.ensures named c.index-as_slice-place.is)
    (ap (λ (head : DialogHead). is_end head.ends c.args.wanted.end.0) (sym c.head.ensures) ∙ sym c.is_end.ensures ∙ c.if-not-is_end.true) c.no_end.ensures c.without-then-not-is_end.ensures

pub returns : goal.returns
returns g c =
    let place = c.in-Some.place in
    let dialog = c.index-as_slice-place.result in
    let named : position (is_named c.args.wanted.dialog.now) c.args.sound.desc.now.dialogs ≡ Some place = sym c.dialog_place.ensures ∙ c.in-Some.is in
    declared place dialog named
    (named-there c.args.sound.desc.now.dialogs c.as_slice.result.now c.args.wanted.dialog.now place dialog c.as_slice.ensures named c.index-as_slice-place.is)
    (ap (λ (head : DialogHead). is_end head.ends c.args.wanted.end.0) (sym c.head.ensures) ∙ sym c.is_end.ensures ∙ c.if-not-is_end.false) c.write_way.ensures
