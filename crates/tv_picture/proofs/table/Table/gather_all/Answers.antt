use Rattle.std.proofs.Common.{ℕ, ◌<◌, arith}
use Rattle.tv_picture.proofs.Gathered.{gathers_all}
use Rattle.tv_picture.proofs.table.Table.gather_all.Goals as goal

pub returns : goal.returns
returns c = gathers_all c.args.places c.args.self.now c.min.result c.args.stop c.args.first c.gather.result (λ k low has. c.first_from.ensures.below k (omega arith) (lower k low) has) c.gather.ensures
  where
    lower : (k : ℕ) → k < c.min.result → k < c.first_from.result
    lower k low = omega (arith, c.min.ensures)
