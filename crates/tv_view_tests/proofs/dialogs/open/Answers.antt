use Rattle.tv_group.proofs.GroupFitLemmas.{button_fits, group_fits_all}
use Rattle.tv_view_tests.proofs.dialogs.open.Goals as goal

pub reopen-requires : goal.reopen-requires
reopen-requires c = group_fits_all _ _ (λ probe. button_fits _ _ probe.view.own_kind) _
