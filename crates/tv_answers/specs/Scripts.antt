-- What scripts that are read type.
use Rattle.std.specs.Prelude.{ℕ, ℤ, List, All}
use Rattle.tv_script.specs.Judging.{judged_as}
use Rattle.tv_answers.specs.Laws.{IsTyped}

-- each item that is read of a script, whatever its screen, types a character, if it types
abbrev pub ReadsTyped : List ℕ → Type 0
ReadsTyped text = (width height : ℤ) → All IsTyped (judged_as width height text).items
