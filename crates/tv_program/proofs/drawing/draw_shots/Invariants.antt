use Rattle.std.proofs.Common.{◌≡◌, ◌≤◌, ◌+◌, length, take}
use Rattle.tv_machine.specs.Output.{after}
use Rattle.tv_machine.specs.Run.{Session}
use Rattle.tv_program.specs.Albums.{Gains}
use Rattle.tv_program.specs.Pictures.{named_shots, shot_svgs}
use Rattle.tv_program.proofs.drawing.draw_shots.Given as goal

abbrev pub invariant-loop-item : goal.invariant-loop-item
invariant-loop-item g l = record {
  few : l.number ≤ l.item-index + 1;
  counted : (s : Session) → g.S.Stage.stands l.fn.stage s → l.number ≡ 1 + length (shot_svgs s (take l.item-index l.item-items));
  gains : (s : Session) → g.S.Stage.stands l.fn.stage s → Gains (g.A.Album.hung l.fn.album) (g.A.Album.hung l.album) (named_shots l.fn.name s (take l.item-index l.item-items));
  state : (s : Session) → g.S.Stage.stands l.fn.stage s → g.S.Stage.stands l.stage (after s (take l.item-index l.item-items));
}
