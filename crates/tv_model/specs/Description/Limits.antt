-- How many there may be of a thing, and how small a view may be.
use Rattle.std.specs.Prelude.{ℕ, ℤ}
use Rattle.tv_model.specs.declared.kind.Kind.{Kind}
use Rattle.tv_model.specs.Kinds.{behaviour}

-- ---- how many there may be

-- menus of the bar
abbrev pub most_menus : ℕ
most_menus = 8

-- items of a menu
abbrev pub most_menu_items : ℕ
most_menu_items = 16

-- items of the status line
abbrev pub most_status_items : ℕ
most_status_items = 8

-- windows of a description
abbrev pub most_windows : ℕ
most_windows = 9

-- dialogs of a description
abbrev pub most_dialogs : ℕ
most_dialogs = 16

-- views of a window or dialog
abbrev pub most_views : ℕ
most_views = 64

-- rules of a dialog
abbrev pub most_rules : ℕ
most_rules = 64

-- panes in one another
abbrev pub most_nested : ℕ
most_nested = 4

-- characters of a text
abbrev pub most_chars : ℕ
most_chars = 120

-- ---- how small a view may be

-- the least width of a kind
abbrev pub least_width : Kind → ℤ
least_width kind = (behaviour kind).least_width

-- the least height of a kind
abbrev pub least_height : Kind → ℤ
least_height kind = (behaviour kind).least_height
