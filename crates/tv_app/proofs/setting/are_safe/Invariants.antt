use Rattle.std.proofs.Common.{All, take}
use Rattle.tv_app.specs.Setting.{HasSafeValue}
use Rattle.tv_app.proofs.setting.are_safe.Given as goal

-- the views so far have values with which they may be saved
abbrev pub invariant-loop-view : goal.invariant-loop-view
invariant-loop-view l = All (HasSafeValue l.values) (take l.view-index l.views)
