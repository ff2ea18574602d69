use Rattle.std.proofs.Common.{◌≡◌, take}
use Rattle.tv_held.specs.Acting.{IsSilent, left_behind}
use Rattle.tv_held.proofs.held.Held.take.Given as goal

abbrev pub invariant-loop-place : goal.invariant-loop-place
invariant-loop-place l = record {
  same : l.app ≡ l.initial.app;
  silent : IsSilent l.initial.decoder (take l.place l.bytes);
  left : l.decoder ≡ left_behind l.initial.decoder (take l.place l.bytes);
}
