use Rattle.std.proofs.Common.{sym, ◌∙◌}
use Rattle.tv_menu.proofs.TitleLemmas.{on_screen_is}
use Rattle.tv_menu.proofs.bars.MenuBar.title_under.Goals as goal

pub returns : goal.returns
returns c = λ d of.
    on_screen_is d c.args.column.now c.args.self.now.width c.natural.result c.as_slice.result.now c.title_in_bar.result (c.as_slice.ensures ∙ of.menus) of.width
    c.natural.ensures (sym c.has_column.ensures ∙ c.if-not-has_column.false) c.title_in_bar.ensures
