-- What contracts see of log lines on the heap.
use Rattle.std.specs.Prelude.{List}
use Rattle.tv_model.specs.declared.log.LogLine.{LogLine}

-- the lines, the earliest first
pub record Lines : Type 0 where
  pub items : List LogLine
