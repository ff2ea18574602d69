use Rattle.std.proofs.Common.{sym}
use Rattle.std.proofs.lemmas.Option.{IfSome_then}
use Rattle.tv_warnings.proofs.standing.rules_against.Goals as goal

pub returns-in-Some-2 : goal.returns-in-Some-2
returns-in-Some-2 c =
    IfSome_then c.rules_at.result c.rules_at.ensures (λ rules own. record { dialog = c.in-Some.dialog.now; there = sym c.in-Some.ensures; own = own })
