-- What is left of an event that was offered.
use Rattle.std.specs.Prelude.{Bool, true, false}
use Rattle.tv_menu.specs.declared.offered.Offered.{Offered}
use Rattle.tv_menu.specs.declared.offered.Offered.TheVariants as offers

-- it isn't left for another
abbrev pub is_taken : Offered → Bool
is_taken offers.Left = false
is_taken offers.Taken = true
is_taken (offers.Turned command) = true
