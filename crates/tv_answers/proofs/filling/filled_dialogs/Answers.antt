use Rattle.std.proofs.Common.{◌∙◌, sym}
use Rattle.std.proofs.lemmas.List.{nil_from_length}
use Rattle.tv_answers.specs.Filling.{filled_dialogs}
use Rattle.tv_answers.proofs.FillingLemmas.{all_filled, more_answered, more_unanswered}
use Rattle.tv_answers.proofs.filling.filled_dialogs.Goals as goal

pub loop-dialog-preserved-in-Some-split_first : goal.loop-dialog-preserved-in-Some-split_first
loop-dialog-preserved-in-Some-split_first c =
    more_answered c.loop-dialog.begun.items c.push.new.self.items c.loop-dialog.dialog-iterator.rest.items c.next.new.self.rest.items
    (filled_dialogs c.args.dialogs.items c.args.answers.now) c.in-Some.dialog (c.in-Some.ensures {u = tt}).steps.0
    c.loop-dialog.rest.now c.in-Some-split_first.others.now c.in-Some-split_first.answer.now c.in_ok-with_values_of-in-Some-split_first.field-0
    c.in-Some-split_first.ensures.cases.0 (c.in_ok-with_values_of-in-Some-split_first.ensures {u = tt})
    (c.in_ok-push-in-Some-split_first.ensures {u = tt}).items c.loop-dialog.invariant

pub loop-dialog-preserved : goal.loop-dialog-preserved
loop-dialog-preserved c =
    more_unanswered c.loop-dialog.begun.items c.push-in-None-split_first.new.self.items c.loop-dialog.dialog-iterator.rest.items c.next.new.self.rest.items
    (filled_dialogs c.args.dialogs.items c.args.answers.now) c.in-Some.dialog (c.in-Some.ensures {u = tt}).steps.0
    c.loop-dialog.rest.now c.in-None-split_first.ensures.cases (c.in_ok-push-in-None-split_first.ensures {u = tt}).items c.loop-dialog.invariant

pub returns : goal.returns
returns c =
    let rest = c.loop-dialog.dialog-iterator.rest in
    all_filled c.loop-dialog.begun.items rest.items (filled_dialogs c.args.dialogs.items c.args.answers.now) c.loop-dialog.rest.now
    (nil_from_length rest.items (sym rest.ok.0 ∙ (c.in-None.ensures {u = tt}).steps.0)) c.loop-dialog.invariant
