-- What parts of the screen show.
use Rattle.std.specs.Prelude.{[], ◌∷◌}
use Rattle.std.proofs.Common.{refl}
use Rattle.tv_examples.specs.Descriptions.{cancel, colour_form, windows, menus, with_control}
use Rattle.tv_examples.specs.Running.{written, ShowsCharacters, ShowsColours}

-- a dialog's row between its shadow and the desktop, with the focused button
cancel_colours : ShowsColours cancel ("key Tab" ∷ []) 3 0 20 "71717f702f2f2e2f2f2f2f2f2f2f707f08087171"
unfolding written
cancel_colours = refl

-- a disabled default button has one attribute
disabled_default : ShowsCharacters colour_form ("key Up" ∷ []) 5 3 8 "< Yes  >"
unfolding written
disabled_default = refl

disabled_colours : ShowsColours colour_form ("key Up" ∷ []) 5 3 8 "7878787878787878"
unfolding written
disabled_colours = refl

-- a window's shadow beside the other window, and below both
windows_shadow : ShowsColours windows [] 5 0 24 "71717108080808081f1e1e1e1e1e1e1e1e1e1e1e1e1e1e1e"
unfolding written
windows_shadow = refl

windows_last_shadow : ShowsColours windows [] 7 0 24 "717171717171717171710808080808080808080808080808"
unfolding written
windows_last_shadow = refl

-- an open menu
menu_bar : ShowsCharacters menus ("key F10" ∷ []) 0 0 30 "  File  Edit                  "
unfolding written
menu_bar = refl

menu_edge : ShowsCharacters menus ("key F10" ∷ []) 1 0 30 ".+------+....................."
unfolding written
menu_edge = refl

menu_first : ShowsCharacters menus ("key F10" ∷ []) 2 0 30 ".| New  |....................."
unfolding written
menu_first = refl

menu_second : ShowsCharacters menus ("key F10" ∷ []) 3 0 30 ".| Quit |....................."
unfolding written
menu_second = refl

menu_last_edge : ShowsCharacters menus ("key F10" ∷ []) 4 0 30 ".+------+....................."
unfolding written
menu_last_edge = refl

menu_colours : ShowsColours menus ("key F10" ∷ []) 2 0 30 "717020242020202070080871717171717171717171717171717171717171"
unfolding written
menu_colours = refl

-- an input that is narrower than its text, with the focus: the text round the cursor
input_end : ShowsCharacters (with_control "input t 2 1 8 40 any \"abcdefghij\"") [] 2 3 8 "<fghij  "
unfolding written
input_end = refl

-- its whole text is selected, and the cursor stands after it
input_end_colours : ShowsColours (with_control "input t 2 1 8 40 any \"abcdefghij\"") [] 2 3 8 "1a2f2f2f2f2f4f1f"
unfolding written
input_end_colours = refl

input_start : ShowsCharacters (with_control "input t 2 1 8 40 any \"abcdefghij\"") ("key Home" ∷ []) 2 3 8 " abcdef>"
unfolding written
input_start = refl

input_start_colours : ShowsColours (with_control "input t 2 1 8 40 any \"abcdefghij\"") ("key Home" ∷ []) 2 3 8 "1f4f1f1f1f1f1f1a"
unfolding written
input_start_colours = refl
