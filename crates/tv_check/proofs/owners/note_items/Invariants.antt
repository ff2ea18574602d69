use Rattle.std.proofs.Common.{◌≡◌, ℕ, option_map, position, take}
use Rattle.std.specs.Option.{option_or}
use Rattle.tv_model.specs.Controls.Owner.{item_at}
use Rattle.tv_model.specs.Description.Marks.{marks}
use Rattle.tv_check.specs.Owners.{owner_for}
use Rattle.tv_check.proofs.owners.note_items.Given as goal

abbrev pub invariant-loop-place : goal.invariant-loop-place
invariant-loop-place l = (letter : ℕ) → owner_for l.owners letter ≡ option_or (owner_for l.fn.owners letter) (option_map (item_at l.name) (position (marks letter) (take l.place l.items)))
