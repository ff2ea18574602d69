-- What writing the description of a box comes to.
use Rattle.std.specs.Prelude.{◌≡◌, ℕ, List, []}
use Rattle.tv_boxes.specs.Asked.{AreAmissFor, AsksFor}
use Rattle.tv_io.specs.Writer.{Cuts, Seen, Takes}
use Rattle.tv_program.specs.declared.trouble.Trouble.TheVariants.{NoMemory, Write}
use Rattle.tv_files.specs.Ends.{End}
use Rattle.tv_files.specs.Ends.End.{ended, faulted, unboxed}

-- the text that the words ask for was written, or could not be; or they ask for none, and why is told
pub data WritesBox (words : List (List ℕ)) (old new : Seen) (end : End) : Type 0 where
  written : (text : List ℕ) → AsksFor words text → Takes old new text → end ≡ ended → WritesBox words old new end
  cut : (text : List ℕ) → AsksFor words text → Cuts old new text → end ≡ faulted Write []
      → WritesBox words old new end
  refused : (message : List ℕ) → AreAmissFor words message → new ≡ old → end ≡ unboxed message
      → WritesBox words old new end
  memory : new ≡ old → end ≡ faulted NoMemory [] → WritesBox words old new end
