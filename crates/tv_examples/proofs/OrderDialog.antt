-- A dialog whose check boxes show an input and enable its end.
use Rattle.std.specs.Prelude.{[], ◌∷◌}
use Rattle.std.proofs.Common.{refl}
use Rattle.tv_examples.specs.Descriptions.{order}
use Rattle.tv_examples.specs.Running.{written, Writes}

-- cancel asks no input
order_escape : Writes order ("key Esc" ∷ []) (
    "open b" ∷ "focus amount" ∷ "end b cancel" ∷ "field amount \"1\"" ∷ "field opts -" ∷
    "field qty \"\"" ∷ [])
unfolding written
order_escape = refl

-- an end asks hidden inputs too; the focus goes to one that refuses it only where that is free
order_hidden_quantity : Writes order (
    "key F2" ∷ "key Alt-G" ∷ "key F2" ∷ "key Alt-N" ∷ "key F2" ∷ "type \"0\"" ∷ "key F2" ∷
    "key Backspace" ∷ "type \"07\"" ∷ "key F2" ∷ []) (
    "open b" ∷ "focus amount" ∷ "focus opts" ∷ "invalid qty" ∷ "invalid qty" ∷ "focus qty" ∷
    "invalid qty" ∷ "end b ok" ∷ "field amount \"1\"" ∷ "field opts 1 2" ∷ "field qty \"07\"" ∷ [])
unfolding written
order_hidden_quantity = refl

-- an input that validates keeps the focus; a button by the mouse needs none
order_invalid_amount : Writes order ("type \"9\"" ∷ "key Tab" ∷ "key Alt-G" ∷ "down 16 9" ∷ "up 16 9" ∷ []) (
    "open b" ∷ "focus amount" ∷ "invalid amount" ∷ "invalid amount" ∷ "press no" ∷ "end b cancel" ∷
    "field amount \"9\"" ∷ "field opts -" ∷ "field qty \"\"" ∷ [])
unfolding written
order_invalid_amount = refl

-- Enter presses the focused button, else the declared default if it is enabled
order_default_button : Writes order (
    "key Enter" ∷ "key Alt-G" ∷ "key Enter" ∷ "key Tab" ∷ "key Shift-Tab" ∷ "key Shift-Tab" ∷
    "key Shift-Tab" ∷ "key Enter" ∷ "key F3" ∷ []) (
    "open b" ∷ "focus amount" ∷ "focus opts" ∷ "press ok" ∷ "invalid qty" ∷ "focus ok" ∷
    "focus opts" ∷ "focus amount" ∷ "focus log" ∷ "press log" ∷ "command 120" ∷ "command 100" ∷ [])
unfolding written
order_default_button = refl

-- Tab goes through panes in description order, and past what is hidden or disabled
order_tabs : Writes order (
    "key Tab" ∷ "key Tab" ∷ "key Tab" ∷ "key Tab" ∷ "key Alt-G" ∷ "key Alt-N" ∷ "key Tab" ∷
    "key Tab" ∷ "key Tab" ∷ "key Tab" ∷ "key Tab" ∷ "key Tab" ∷ "key Shift-Tab" ∷ "key Shift-Tab" ∷
    "key Shift-Tab" ∷ "key Shift-Tab" ∷ "key Shift-Tab" ∷ "key Shift-Tab" ∷ []) (
    "open b" ∷ "focus amount" ∷ "focus opts" ∷ "focus no" ∷ "focus log" ∷ "focus amount" ∷
    "focus opts" ∷ "focus qty" ∷ "focus ok" ∷ "focus no" ∷ "focus log" ∷ "focus amount" ∷
    "focus opts" ∷ "focus amount" ∷ "focus log" ∷ "focus no" ∷ "focus ok" ∷ "focus qty" ∷
    "focus opts" ∷ [])
unfolding written
order_tabs = refl
