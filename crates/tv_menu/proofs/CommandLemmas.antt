-- Commands that pass the test of their number.
use Rattle.std.proofs.Common.{◌≡◌, ◌<◌, true, Some, ℤ, pos, negsuc, ◌≤ℤ◌, int_le, Decides, arith}
use Rattle.std.proofs.lemmas.Int.{ints}
use Rattle.std.proofs.lemmas.Bool.Decides.{Decides-and}
use Rattle.tv_model.specs.declared.command.CommandSpec.{CommandSpec}
use Rattle.tv_model.specs.declared.command.CommandSpec.TheVariants as commands
use Rattle.tv_model.specs.Description.Commands.{command_number}
use Rattle.tv_model.specs.Description.LawfulNodes.{IsLawfulCommand}
use Rattle.tv_model.specs.Description.Numbers.{IsBetween, is_between, natural}
use Rattle.tv_model.specs.Faults.Limits.{is_lawful_number}
use Rattle.tv_valid.proofs.DecidingLemmas.{int_le_decides}

between_decides : (least greatest n : ℤ) → Decides (is_between least greatest n) (IsBetween least greatest n)
between_decides least greatest n = Decides-and (int_le least n) (int_le n greatest) (int_le_decides least n) (int_le_decides n greatest)

pub lawful_command : (c : CommandSpec) → is_lawful_number (Some c) ≡ true → IsLawfulCommand (Some c)
lawful_command (commands.Number n) h = (between_decides (pos 100) (pos 255) n).0 h
lawful_command _ h = tt

below : (z : ℤ) → z ≤ℤ pos 255 → natural z < 256
below (pos k) h = omega (arith, ints)
below (negsuc k) h = omega arith

of_lawful : (c : CommandSpec) → IsLawfulCommand (Some c) → command_number c < 256
of_lawful commands.Quit lawful = omega arith
of_lawful commands.Menu lawful = omega arith
of_lawful commands.Close lawful = omega arith
of_lawful commands.Next lawful = omega arith
of_lawful commands.Ok lawful = omega arith
of_lawful commands.Cancel lawful = omega arith
of_lawful commands.Yes lawful = omega arith
of_lawful commands.No lawful = omega arith
of_lawful (commands.Number n) lawful = below n lawful.1

pub small_command : (c : CommandSpec) → is_lawful_number (Some c) ≡ true → command_number c < 256
small_command c h = of_lawful c (lawful_command c h)
