use Rattle.std.proofs.Common.{◌≡◌, ℤ, take}
use Rattle.std.specs.HashSet as set
use Rattle.std.specs.List.{list_any}
use Rattle.std.specs.Ordering.{int_eq}
use Rattle.tv_model.specs.Faults.Starts.{is_option_number, opens_badly}
use Rattle.tv_model.specs.Description.Heads.{dialog_head}
use Rattle.tv_model.specs.Faults.Each.{each_after}
use Rattle.tv_faults.proofs.openings.opened_badly.Given as goal

abbrev pub invariant-loop-dialog : goal.invariant-loop-dialog
invariant-loop-dialog l = record {
  judged : l.badly.items ≡ each_after opens_badly (take l.dialog-index l.dialogs);
  given : (n : ℤ) → set.contains int_eq l.commands n ≡ list_any (λ dialog. is_option_number n (dialog_head dialog).opens) (take l.dialog-index l.dialogs);
}
