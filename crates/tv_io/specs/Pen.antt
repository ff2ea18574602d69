-- What a pen writes.
use Rattle.std.specs.Prelude.{◌≡◌, ℕ, Bool, true, false, List, ◌++◌}
use Rattle.tv_io.specs.declared.pen.Pen.{Pen}
use Rattle.tv_io.specs.Writer.{Seen, Takes, Cuts}

-- by whether the writer had failed before and whether it has now: it is left alone, or it took the text, or a
-- part of it
abbrev pub PutsBy : Seen → Bool → Seen → Bool → List ℕ → Type 0
PutsBy old true new stopped text = (new ≡ old) × (stopped ≡ true)
PutsBy old false new false text = Takes old new text
PutsBy old false new true text = Cuts old new text

-- the text was put, through the same writer
pub record Puts {W : Type 0} (seen : W → Seen) (old new : Pen W) (text : List ℕ) : Type 0 where
  pub how : PutsBy (seen old.out.now) old.stopped (seen new.out.now) new.stopped text
  pub same : new.out.ghost_name ≡ old.out.ghost_name

-- of what waited and the text after it, all but what waits now was put
abbrev pub PutsPart : {W : Type 0} → (W → Seen) → Pen W → Pen W → (waited text waits : List ℕ) → Type 0
PutsPart seen old new waited text waits =
    (part : List ℕ) × Puts seen old new part × (part ++ waits ≡ waited ++ text)
