use Rattle.std.proofs.Common.{arith, option_map, refl}
use Rattle.tv_machine.specs.Screen.Bars.{title_of}
use Rattle.tv_menu.specs.Spots.{menu_place}
use Rattle.tv_menu.proofs.LawfulLemmas.{length_behind, menus_behind}
use Rattle.tv_menu.proofs.SpotLemmas.{spot_behind}
use Rattle.tv_menu.proofs.titles.+title_in.Goals as goal

pub title_in-requires : goal.title_in-requires
title_in-requires t c =
    let behind = length_behind c.args.menus.now c.in_ok-menu.behind.now c.in_ok-menu.menu.now c.in_ok-menu.ensures.cases.0 in (
      omega (arith, c.decreases, c.title_columns-columns.ensures.is, c.if-column-columns.false),
      (
        omega (arith, behind, c.requires.places),
        menus_behind c.args.menus.now c.in_ok-menu.behind.now c.in_ok-menu.menu.now c.in_ok-menu.ensures.cases.0 c.requires.lawful,
      ),
    )

-- the column stands behind the first title
pub returns-else-column-columns : goal.returns-else-column-columns
returns-else-column-columns t c = λ first. spot_behind (option_map menu_place) title_of c.args.place first c.args.column c.in_ok-menu.behind.now c.title_in.result
    c.title_columns-columns.result c.args.menus.now c.in_ok-menu.menu.now (title_of c.in_ok-menu.menu.now)
    c.in_ok-menu.ensures.cases.0 refl c.title_columns-columns.ensures.is c.if-column-columns.false (λ from. c.title_in.ensures from)
