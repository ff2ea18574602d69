use Rattle.std.proofs.Common.{rules, ◌≡◌, true}
use Rattle.tv_model.proofs.kind.DialogHead.is.Goals as goal

pub returns-then-eq : goal.returns-then-eq
returns-then-eq c =
    let ends : c.eq-then-eq.result ≡ true → c.args.self.now.ends ≡ c.args.other.now.ends = search rules in
    search (rules, ends)
