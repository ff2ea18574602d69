use Rattle.std.proofs.Common.{◌||◌, nat_lt, length, ap, sym, ◌∙◌}
use Rattle.std.specs.Option.{is_some}
use Rattle.tv_model.specs.Log.Record.{value_of}
use Rattle.tv_group.proofs.GatheredLemmas.{room-leaf}
use Rattle.tv_group.proofs.values.gather_leaf.Goals as goal

pub get-requires : goal.get-requires
get-requires g c =
    let values = c.args.values.now in
    room-leaf (g.V.View.meaning c.args.view.now) values
    (ap (λ id. is_some (value_of values id.0) || nat_lt (length values) 64) (sym c.id.ensures) ∙ sym c.has_room_for.ensures ∙ c.if-has_room_for.true)
