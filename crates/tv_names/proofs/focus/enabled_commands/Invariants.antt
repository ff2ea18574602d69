use Rattle.std.proofs.Common.{◌≡◌, take}
use Rattle.std.specs.HashSet.{contains}
use Rattle.std.specs.List.{list_any}
use Rattle.tv_model.specs.declared.command.CommandSpec.{CommandSpec}
use Rattle.tv_names.specs.Focus.{is_of_command, equals_command}
use Rattle.tv_names.proofs.focus.enabled_commands.Given as goal

abbrev pub invariant-loop-reach : goal.invariant-loop-reach
invariant-loop-reach l = (command : CommandSpec) → contains equals_command l.enabled command ≡ list_any (is_of_command command) (take l.reach-index l.reaches)
