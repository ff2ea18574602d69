-- Marks of leaves by which a dialog shows and enables the same.
use Rattle.std.specs.Prelude.{◌≡◌, List, All}
use Rattle.tv_model.specs.declared.desc.Dialog.{Dialog}
use Rattle.tv_machine.specs.State.{LeafState}
use Rattle.tv_machine.specs.Dialog.Rules.{holds}

-- every rule holds with these leaves as with the others
abbrev pub HoldSame : Dialog → List LeafState → List LeafState → Type 0
HoldSame d leaves other = All (λ rule. holds d leaves rule ≡ holds d other rule) d.rules
