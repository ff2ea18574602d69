-- What a reader over a file gave and has left.
use Rattle.std.specs.Prelude.{ℕ, List, Option, None}
use Rattle.tv_io.specs.declared.file_reader.FileReader.{FileReader}
use Rattle.tv_io.specs.Reader.{Given}

-- the reader's bytes, where they are known, are those that it has left
abbrev pub file_given : {R : Type 0} → (R → Option (List ℕ)) → FileReader R → Given
file_given remaining f = record {
  given = None;
  left = remaining f.reader;
  failures = f.failures;
  is_ended = f.is_ended;
}
