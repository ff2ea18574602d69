use Rattle.std.proofs.Common.{arith, ◌<◌}
use Rattle.std.proofs.lemmas.Bool.Decides.{nat_tests}
use Rattle.tv_menu.proofs.TitleLemmas.{after_first}
use Rattle.tv_menu.proofs.titles.title_in_bar.Goals as goal

pub returns-else-column-eq0 : goal.returns-else-column-eq0
returns-else-column-eq0 c =
    let positive : 0 < c.args.column = grind (arith, nat_tests, c.if-column-eq0.false) in
    after_first c.args.menus.now c.args.column c.title_in.result positive (λ first. c.title_in.ensures first)
