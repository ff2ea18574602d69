use Rattle.std.proofs.Common.{◌≡◌, ◌++◌, Some, map, drop}
use Rattle.std.specs.Prelude.{filter_map}
use Rattle.tv_model.specs.Description.Owners.{owner_shown, owners_at}
use Rattle.tv_names.specs.Sharing.{marker_at}
use Rattle.tv_check.specs.Lent.{lent_key_owner}
use Rattle.tv_check.proofs.owners.owners_by.Given as goal

abbrev pub invariant-loop-place : goal.invariant-loop-place
invariant-loop-place l =
    map lent_key_owner l.owners.items ++ filter_map (owner_shown l.dialog l.letter l.radios) (map (marker_at l.dialog.views l.dialog.node) (drop l.place-index l.place-items)) ≡ owners_at l.dialog l.letter (Some l.radios)
