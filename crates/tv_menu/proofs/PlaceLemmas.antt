-- What stands at a place of a list.
use Rattle.std.proofs.Common.{◌≡◌, ℕ, List, Option, Some, None, Bor, length, option_copied, refl, sym}
use Rattle.std.proofs.lemmas.Option.{slice_get_past, slice_get_read}
use Rattle.std.specs.Prelude.{slice_get}
use Rattle.std.specs.Slice.{IsItemAt}

pub copied_at : {X : Type 0} (xs : List X) (place : ℕ) (at : Option (Bor X)) → IsItemAt xs place at → option_copied at ≡ slice_get xs place
copied_at xs place None lent = sym (slice_get_past xs place lent.3)
copied_at xs place (Some x) lent = sym (slice_get_read xs (length xs) place x.now refl lent.3.0 lent.1)
