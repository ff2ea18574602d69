use Rattle.std.proofs.Common.{◌⊎◌, ◌<◌, IsSome, length, sym, subst}
use Rattle.tv_model.specs.Log.Record.{value_of}
use Rattle.tv_view.specs.Calls.{HasRoom}
use Rattle.tv_controls.proofs.input_line.InputLineView.get.Goals as goal

pub put-requires : goal.put-requires
unfolding HasRoom
put-requires c = subst (λ i. IsSome (value_of c.args.values.now i.0) ⊎ (length c.args.values.now < 64)) (sym c.id.ensures) c.requires
