use Rattle.std.proofs.Common.{◌≤◌, ◌^◌, arith, le-leb}
use Rattle.std.proofs.Math.Pow.{pow_mono}
use Rattle.tv_app.proofs.setting.are_marks.Goals as goal

pub returns-then-count-ge16 : goal.returns-then-count-ge16
returns-then-count-ge16 c =
    let most : 2 ^ 16 ≤ 2 ^ c.args.count = pow_mono {i = 16} {j = c.args.count} (omega arith) in
    ((λ is. omega (arith, most)), (λ less. le-leb 16 c.args.count (omega arith)))
