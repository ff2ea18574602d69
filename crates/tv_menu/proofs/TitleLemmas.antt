-- A column of the bar, where titles begin in column 1.
use Rattle.std.proofs.Common.{◌≡◌, ◌+◌, ◌-◌, ◌<◌, ℕ, List, [], ◌∷◌, Option, None, option_map, true, ℤ, pos, int_le, int_lt, ◌&&◌, ap, ◌∙◌, refl, sym, arith}
use Rattle.tv_model.specs.declared.desc.Desc.{Desc}
use Rattle.tv_model.specs.declared.desc.Menu.{Menu}
use Rattle.tv_model.specs.Description.Numbers.{natural}
use Rattle.tv_machine.specs.Screen.Bars.{spot_in, title_of, title_under}
use Rattle.tv_menu.specs.Spots.{menu_place}

abbrev title_place : List Menu → ℕ → Option ℕ
title_place menus column = option_map menu_place (spot_in title_of 0 1 menus column)

none_before : (menus : List Menu) → None ≡ title_place menus 0
none_before [] = refl
none_before (menu ∷ menus) = refl

pub before_titles : (menus : List Menu) (column : ℕ) → column ≡ 0 → None ≡ option_map menu_place (spot_in title_of 0 1 menus column)
before_titles menus column is = none_before menus ∙ ap (title_place menus) (sym is)

pub after_first : (menus : List Menu) (column : ℕ) (found : Option ℕ) → 0 < column
    → ((first : ℕ) → found ≡ option_map menu_place (spot_in title_of 0 first menus (first + (column - 1)))) → found ≡ option_map menu_place (spot_in title_of 0 1 menus column)
after_first menus column found positive is =
    let here : 1 + (column - 1) ≡ column = omega (arith, positive) in
    is 1 ∙ ap (title_place menus) here

pub on_screen_is : (d : Desc) (column width : ℤ) (at : ℕ) (menus : List Menu) (found : Option ℕ) → menus ≡ d.menus → width ≡ d.width → at ≡ natural column
    → (int_le (pos 0) column && int_lt column width) ≡ true → found ≡ option_map menu_place (spot_in title_of 0 1 menus at) → found ≡ title_under d column
on_screen_is d column width at menus found same wide at-is inside is = rw (← wide, inside, ← same, ← at-is) is
