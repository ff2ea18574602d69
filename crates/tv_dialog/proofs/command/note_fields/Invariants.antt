use Rattle.std.proofs.Common.{◌≡◌, ◌≤◌, ◌+◌, ◌++◌, length, drop}
use Rattle.tv_dialog.specs.Fields.{field_lines}
use Rattle.tv_dialog.proofs.command.note_fields.Given as goal

-- the lines so far, and those of the leaves that are left
abbrev pub invariant-loop-leaf : goal.invariant-loop-leaf
invariant-loop-leaf l = length l.initial.log.items + length l.leaves ≤ 66
    → (length l.log.items ≤ length l.initial.log.items + l.leaf-index)
    × (l.log.items ++ field_lines l.fields (drop l.leaf-index l.leaves) ≡ l.initial.log.items ++ field_lines l.fields l.leaves)
