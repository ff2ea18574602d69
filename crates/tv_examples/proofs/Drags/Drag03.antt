-- A dialog that is dragged down keeps its top row on the desktop, and takes keys while its controls can't be seen.
use Prim.Native.String.{String}
use Rattle.std.specs.Prelude.{List, [], ◌∷◌}
use Rattle.std.proofs.Common.{refl}
use Rattle.tv_examples.specs.Running.{written, Writes}

abbrev description : List String
description =
    "tvd 1"
    ∷ "screen 24 10"
    ∷ "start d"
    ∷ "status \"F2 Ok\" F2 ok"
    ∷ "dialog d 3 2 16 5 \"Deep\" ends ok cancel"
    ∷ "input t 1 1 8 6 any \"ab\""
    ∷ "button k 1 3 6 \"~O~k\" ok default"
    ∷ "end"
    ∷ []

abbrev script : List String
script =
    "down 14 2"
    ∷ "move 14 9"
    ∷ "shot"
    ∷ "up 12 9"
    ∷ "type \"x\""
    ∷ "key Tab"
    ∷ "key Shift-Tab"
    ∷ "shot"
    ∷ "down 10 8"
    ∷ "up 10 0"
    ∷ "shot"
    ∷ "down 2 9"
    ∷ []

drag_03 : Writes description script (
    "open d"
    ∷ "focus t"
    ∷ "shot 24 10"
    ∷ ":                        :"
    ∷ ":........................:"
    ∷ ":........................:"
    ∷ ":........................:"
    ∷ ":........................:"
    ∷ ":........................:"
    ∷ ":........................:"
    ∷ ":........................:"
    ∷ ":...+=[x] Deep ====+.....:"
    ∷ ": F2 Ok                  :"
    ∷ "moved d 1 8"
    ∷ "focus k"
    ∷ "focus t"
    ∷ "shot 24 10"
    ∷ ":                        :"
    ∷ ":........................:"
    ∷ ":........................:"
    ∷ ":........................:"
    ∷ ":........................:"
    ∷ ":........................:"
    ∷ ":........................:"
    ∷ ":........................:"
    ∷ ":.+=[x] Deep ====+.......:"
    ∷ ": F2 Ok                  :"
    ∷ "moved d 1 1"
    ∷ "shot 24 10"
    ∷ ":                        :"
    ∷ ":.+=[x] Deep ====+.......:"
    ∷ ":.| x            |.......:"
    ∷ ":.|              |.......:"
    ∷ ":.|< Ok >        |.......:"
    ∷ ":.+==============+.......:"
    ∷ ":........................:"
    ∷ ":........................:"
    ∷ ":........................:"
    ∷ ": F2 Ok                  :"
    ∷ "end d ok"
    ∷ "field t \"x\""
    ∷ [])
unfolding written
drag_03 = refl
