use Rattle.std.proofs.Common.{◌≡◌, take}
use Rattle.std.specs.Prelude.{Some}
use Rattle.tv_picture.specs.Parsing.{reading, text_steps, nothing_parsed}
use Rattle.tv_picture.proofs.picture.Picture.from_chars.Given as goal

abbrev pub invariant-loop-place : goal.invariant-loop-place
invariant-loop-place l = text_steps nothing_parsed (take l.place l.text) ≡ Some (reading l.parser)
