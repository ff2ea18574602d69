use Rattle.std.proofs.Common.{◌≡◌, ◌≤◌, [], length, drop, fold}
use Rattle.tv_app.specs.Setting.{with_view}
use Rattle.tv_app.proofs.setting.ordered.Given as goal

-- what is left to be added, and there is room
abbrev pub invariant-loop-view : goal.invariant-loop-view
invariant-loop-view l =
    (length l.ordered ≤ l.view-index)
    × (fold (with_view l.values) l.ordered (drop l.view-index l.views) ≡ fold (with_view l.values) [] l.views)
