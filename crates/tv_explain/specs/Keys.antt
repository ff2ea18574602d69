-- Keys of status items, and numbers of windows: F5, and F17 of windows.
use Rattle.std.specs.Prelude.{ℕ, List, [], ◌∷◌, find, Option, Some, None, option_map, if◌then◌else◌}
use Rattle.std.specs.List.{list_any}
use Rattle.std.specs.Option.{option_or}
use Rattle.std.specs.Ordering.{int_eq}
use Rattle.tv_event.specs.declared.event.Key.{Key}
use Rattle.tv_event.specs.declared.event.Key.TheVariants as keys
use Rattle.tv_model.specs.declared.node.Node.{Node}
use Rattle.tv_model.specs.declared.desc.Desc.{Desc}
use Rattle.tv_model.specs.declared.desc.Menu.{Menu}
use Rattle.tv_model.specs.declared.desc.Dialog.{Dialog}
use Rattle.tv_model.specs.declared.desc.StatusItem.{StatusItem}
use Rattle.tv_model.specs.declared.desc.Window.{Window}
use Rattle.tv_model.specs.Description.Heads.{window_head}
use Rattle.tv_model.specs.Description.Letters.{marked_of}
use Rattle.tv_model.specs.Description.Marks.{marks}
use Rattle.tv_model.specs.Faults.Letters.{is_same_key, is_status_key, is_window_digit}
use Rattle.tv_explain.specs.declared.why.Why.{Why}
use Rattle.tv_explain.specs.declared.why.Reason.{Reason}
use Rattle.tv_explain.specs.declared.why.Reason.TheVariants as reasons
use Rattle.tv_explain.specs.Whys.{because}
use Rattle.tv_explain.specs.Lines.{node_line}

-- the first of the views that marks the letter
abbrev pub marker_line : ℕ → List Node → Option ℕ
marker_line letter views = node_line (find (λ node. list_any (marks letter) (marked_of node.kind)) views)

-- the first view of the dialogs that marks the letter
abbrev pub shortcut_line : ℕ → List Dialog → Option ℕ
shortcut_line letter [] = None
shortcut_line letter (dialog ∷ dialogs) =
    option_or (marker_line letter dialog.views) (shortcut_line letter dialogs)

-- the first menu whose title marks the letter
abbrev pub menu_marking : ℕ → List Menu → Option ℕ
menu_marking letter menus = option_map (λ menu. menu.id.0) (find (λ menu. marks letter menu.title) menus)

-- the first window of the digit
abbrev pub digit_line : ℕ → List Window → Option ℕ
digit_line digit windows = option_map (λ window. window.node.id.0) (find (is_window_digit digit) windows)

-- the first of the status items that has the key
abbrev pub key_holder : List StatusItem → Key → Option ℕ
key_holder before key = option_map (λ other. other.id.0) (find (λ other. is_same_key other.key key) before)

-- the reason with the line, where there is one
abbrev pub or_else : Reason → Option ℕ → Why → Why
or_else reason None rest = rest
or_else reason (Some line) rest = because reason (Some line)

-- what Alt with a letter does elsewhere, before what remains
abbrev pub taken_why : Desc → Key → Why → Why
taken_why d (keys.Alt ch) rest =
    or_else reasons.DialogLetter (shortcut_line ch d.dialogs)
    (or_else reasons.TitleLetter (menu_marking ch d.menus)
    (or_else reasons.WindowDigit (digit_line ch d.windows) rest))
taken_why d _ rest = rest

-- F5: a key that no status item can have, or what else it means, or the status item that has it
abbrev pub key_why : Desc → List StatusItem → StatusItem → Why
key_why d before item =
    if is_status_key item.key
    then taken_why d item.key (because reasons.KeyTwice (key_holder before item.key))
    else because reasons.NoStatusKey None

-- F17: the window that has the number
abbrev pub number_line : List Window → Window → Option ℕ
number_line before window =
    option_map (λ other. other.node.id.0)
    (find (λ other. int_eq (window_head other).number (window_head window).number) before)

abbrev pub number_why : List Window → Window → Why
number_why before window = because reasons.NumberTwice (number_line before window)
