use Rattle.std.proofs.Common.{◌≡◌, ◌++◌}
use Rattle.tv_answers.specs.Filling.{filled_dialogs}
use Rattle.tv_answers.proofs.filling.filled_dialogs.Given as goal

-- those so far were begun, and the others are left
abbrev pub invariant-loop-dialog : goal.invariant-loop-dialog
invariant-loop-dialog l = l.begun.items ++ filled_dialogs l.dialog-iterator.rest.items l.rest ≡ filled_dialogs l.fn.dialogs.items l.fn.answers
