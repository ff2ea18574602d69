-- Commands by their numbers, and which of them a set has.
use Rattle.std.specs.Prelude.{◌≡◌, ℕ, Bool, true, false, List, nat_le, slice_index_or}

-- ---- the numbers, with the names of the Turbo Vision guide

-- `cmQuit`
abbrev pub cm_quit : ℕ
cm_quit = 1

-- `cmMenu`
abbrev pub cm_menu : ℕ
cm_menu = 3

-- `cmClose`
abbrev pub cm_close : ℕ
cm_close = 4

-- `cmNext`
abbrev pub cm_next : ℕ
cm_next = 7

-- `cmOK`
abbrev pub cm_ok : ℕ
cm_ok = 10

-- `cmCancel`
abbrev pub cm_cancel : ℕ
cm_cancel = 11

-- `cmYes`
abbrev pub cm_yes : ℕ
cm_yes = 12

-- `cmNo`
abbrev pub cm_no : ℕ
cm_no = 13

-- `cmDefault`, which Enter broadcasts
abbrev pub cm_default : ℕ
cm_default = 14

-- whether the command is one of a description's own, which are 100 to 255, the greatest that there is
abbrev pub is_own_command : ℕ → Bool
is_own_command number = nat_le 100 number

-- ---- sets

-- the set has the command of this number
abbrev pub HasCommand : List Bool → ℕ → Type 0
HasCommand set number = slice_index_or set number false ≡ true
