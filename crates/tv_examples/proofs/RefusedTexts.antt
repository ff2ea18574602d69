-- Descriptions that are read and printed, and texts that are refused.
use Rattle.std.specs.Prelude.{◌≡◌, ℕ, List, [], ◌∷◌, Option, Some, None}
use Rattle.std.proofs.Common.{refl}
use Rattle.tv_declarations.specs.CanonicalDescription.{description_text}
use Rattle.tv_lang.specs.Reading.Descriptions as readings
use Rattle.tv_lang.specs.Reading.Descriptions.{DescriptionOutcome, description_outcome}
use Rattle.tv_examples.specs.Descriptions.{inserted, replaced, removed, cancel, order}
use Rattle.tv_examples.specs.Running.{written, text}

-- no line at all
refused_empty : description_outcome [] ≡ readings.Fault 1
unfolding written
refused_empty = refl

-- a number too few
refused_line : description_outcome (text ("tvd 1" ∷ "screen 40" ∷ [])) ≡ readings.Fault 2
unfolding written
refused_line = refl

-- a line too few: the one after the last is missing
refused_end : description_outcome (text (removed 18 order)) ≡ readings.Fault 18
unfolding written
refused_end = refl

other_version : description_outcome (text ("tvd 3" ∷ [])) ≡ readings.Other
unfolding written
other_version = refl

-- ---- texts that are read, and printed as they stand

-- the canonical text of what was read
abbrev printed : DescriptionOutcome → Option (List ℕ)
printed (readings.Value d) = Some (description_text d)
printed (readings.Fault line) = None
printed readings.Other = None

cancel_printed : printed (description_outcome (text cancel)) ≡ Some (text cancel)
unfolding written
cancel_printed = refl

order_printed : printed (description_outcome (text order)) ≡ Some (text order)
unfolding written
order_printed = refl

-- the version is kept
two_printed : printed (description_outcome (text (replaced 1 "tvd 2" cancel))) ≡ Some (text (replaced 1 "tvd 2" cancel))
unfolding written
two_printed = refl

-- comments, empty lines and further spaces are left out
spaces_left_out : printed (description_outcome (text ("# a comment" ∷ inserted 1 "" (replaced 2 "  screen   20 10 " cancel)))) ≡ Some (text cancel)
unfolding written
spaces_left_out = refl
