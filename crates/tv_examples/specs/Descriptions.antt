-- The descriptions of the examples, line by line.
use Prim.Native.String.{String}
use Rattle.std.specs.Prelude.{[], ℕ, List, ◌∷◌, ◌++◌, take, drop, ◌-◌}

-- the lines with another in place of the one with this number, from 1
abbrev pub replaced : ℕ → String → List String → List String
replaced number line lines = take (number - 1) lines ++ line ∷ drop number lines

-- the lines with another after the one with this number
abbrev pub inserted : ℕ → String → List String → List String
inserted number line lines = take number lines ++ line ∷ drop number lines

-- the lines without the one with this number
abbrev pub removed : ℕ → List String → List String
removed number lines = take (number - 1) lines ++ drop number lines

-- a dialog with one button: examples/cancel.tvd
abbrev pub cancel : List String
cancel =
    "tvd 1"
    ∷ "screen 20 10"
    ∷ "start a"
    ∷ "dialog a 2 2 14 4 \"Q\" ends cancel"
    ∷ "button c 2 1 10 \"~C~ancel\" cancel"
    ∷ "end"
    ∷ []

-- a dialog whose check boxes show an input and enable its end: examples/order.tvd
abbrev pub order : List String
order =
    "tvd 1"
    ∷ "screen 40 14"
    ∷ "start b"
    ∷ "status \"F2 OK\" F2 ok"
    ∷ "status \"F3 Order\" F3 100"
    ∷ "dialog b 2 2 34 10 \"Order\" opens 100 ends ok cancel"
    ∷ "label 2 1 8 \"~A~mount\" amount"
    ∷ "input amount 12 1 8 4 range -5 5 \"1\" validate"
    ∷ "checks opts 2 3 14 \"~G~ift\" \"~N~ote\""
    ∷ "pane more 2 5 30 1"
    ∷ "input qty 0 0 8 3 range 1 9 \"\""
    ∷ "end"
    ∷ "button ok 2 7 8 \"~O~K\" ok default"
    ∷ "button no 12 7 10 \"~C~ancel\" cancel"
    ∷ "button log 24 7 8 \"~L~og\" 120"
    ∷ "show more when opts 2"
    ∷ "enable ok when opts 1"
    ∷ "end"
    ∷ []

-- radio buttons that enable a button: examples/colour.tvd
abbrev pub colour_form : List String
colour_form =
    "tvd 1"
    ∷ "screen 30 12"
    ∷ "start d"
    ∷ "dialog d 1 1 24 8 \"\" ends cancel yes"
    ∷ "radios r 2 1 12 \"~R~ed\" \"~B~lue\" start 2"
    ∷ "button y 2 4 8 \"~Y~es\" yes default"
    ∷ "button n 12 4 10 \"~C~ancel\" cancel"
    ∷ "enable yes when r 2"
    ∷ "end"
    ∷ []

-- two windows, one over the other: examples/windows.tvd
abbrev pub windows : List String
windows =
    "tvd 1"
    ∷ "screen 24 10"
    ∷ "window one 1 1 16 4 1 \"One\""
    ∷ "text 1 1 9 1 \"abcdefghij\""
    ∷ "end"
    ∷ "window two 8 3 20 4 2 \"Two\""
    ∷ "text 1 1 18 1 \"second\""
    ∷ "end"
    ∷ []

-- two menus: examples/menus.tvd
abbrev pub menus : List String
menus =
    "tvd 1"
    ∷ "screen 30 12"
    ∷ "menu \"~F~ile\""
    ∷ "item \"~N~ew\" 101"
    ∷ "item \"~Q~uit\" quit"
    ∷ "end"
    ∷ "menu \"~E~dit\""
    ∷ "item \"~C~ut\" 102"
    ∷ "end"
    ∷ "status \"F10 Menu\" F10 menu"
    ∷ []

-- a dialog with one control and its default button `k`
abbrev pub with_control : String → List String
with_control line =
    "tvd 1"
    ∷ "screen 30 12"
    ∷ "start f"
    ∷ "dialog f 1 1 24 8 \"\" ends ok cancel"
    ∷ line
    ∷ "button k 2 5 8 \"~K~\" ok default"
    ∷ "end"
    ∷ []

-- two panes, each with a button
abbrev pub two_panes : List String
two_panes =
    "tvd 1"
    ∷ "screen 20 10"
    ∷ "start a"
    ∷ "dialog a 0 1 20 8 \"\" ends cancel"
    ∷ "pane p 1 1 10 1"
    ∷ "button x 0 0 10 \"~C~ancel\" cancel"
    ∷ "end"
    ∷ "pane q 1 3 10 1"
    ∷ "button y 0 0 10 \"~G~o\" 120"
    ∷ "end"
    ∷ "end"
    ∷ []
