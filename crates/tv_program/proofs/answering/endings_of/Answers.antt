use Rattle.std.specs.Iterator.Adapters.{zip_first, zip_second}
use Rattle.std.specs.Slice.Iter.{iter_rest}
use Rattle.std.proofs.lemmas.Slice.Zip.{either_empty_from_Zip}
use Rattle.tv_program.proofs.AnswerLemmas.{all_ends}
use Rattle.tv_program.proofs.answering.endings_of.Goals as goal

pub returns : goal.returns
returns c =
    all_ends c.loop-dialog.endings.items _ (iter_rest (zip_first c.loop-dialog.dialog-iterator)) (iter_rest (zip_second c.loop-dialog.dialog-iterator))
    (either_empty_from_Zip c.loop-dialog.dialog-iterator c.next.new.self c.next.result c.in-None.is c.next.ensures.steps) c.loop-dialog.invariant
