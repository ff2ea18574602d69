-- What an iterator over lines still gives.
use Rattle.std.specs.Prelude.{ℕ, List}
use Rattle.tv_words.specs.declared.lines.Lines.{Lines}
use Rattle.tv_words.specs.Lines.{lines_of}

-- the lines that are left
abbrev pub lines_left : Lines → List (List ℕ)
lines_left s = lines_of s.rest.now
