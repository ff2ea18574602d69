-- A record without values has room for that of any leaf.
use Rattle.std.proofs.Common.{arith, inr, ◌≡◌, [], Option, Some, None, subst, sym}
use Rattle.tv_model.specs.declared.node.Id.{Id}
use Rattle.tv_model.specs.declared.record.Value.{Value}
use Rattle.tv_view.specs.Meaning.{Leaf}
use Rattle.tv_model.specs.Log.Record.{Entries}
use Rattle.tv_view.specs.Calls.{HasRoom, HasRoomFor}

room_for : (o : Option Value) (i : Id) → HasRoomFor o i []
room_for None i = tt
room_for (Some value) i = inr (omega arith)

room_in : (leaf : Leaf) → HasRoom leaf []
unfolding HasRoom
room_in leaf = room_for leaf.value leaf.node.id

pub room_new : (leaf : Leaf) (entries : Entries) → entries ≡ [] → HasRoom leaf entries
room_new leaf entries none = subst (HasRoom leaf) (sym none) (room_in leaf)
