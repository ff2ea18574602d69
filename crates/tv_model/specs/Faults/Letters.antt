-- Faults of letters and keys: F4, F5 and F17.
use Rattle.std.specs.Prelude.{[], ℕ, Bool, true, false, not, ◌&&◌, ◌||◌, List, ℤ, pos, ◌-◌, ◌==◌, nat_le}
use Rattle.std.specs.Prelude.{int_le}
use Rattle.std.specs.List.{list_any}
use Rattle.std.specs.Ordering.{int_eq}
use Rattle.tv_event.specs.declared.event.Key.{Key}
use Rattle.tv_event.specs.declared.event.Key.TheVariants as keys
use Rattle.tv_model.specs.declared.node.Node.{Node}
use Rattle.tv_model.specs.declared.command.CommandSpec.TheVariants as commands
use Rattle.tv_model.specs.declared.desc.Desc.{Desc}
use Rattle.tv_model.specs.declared.desc.Menu.{Menu}
use Rattle.tv_model.specs.declared.desc.MenuItem.{MenuItem}
use Rattle.tv_model.specs.declared.desc.StatusItem.{StatusItem}
use Rattle.tv_model.specs.declared.desc.Window.{Window}
use Rattle.tv_model.specs.declared.desc.Rule.{Rule}
use Rattle.tv_model.specs.declared.desc.Effect.{Effect}
use Rattle.tv_model.specs.declared.desc.Effect.TheVariants as effects
use Rattle.tv_model.specs.Faults.Lines.{after_seen}
use Rattle.tv_model.specs.Description.Letters.{marked_of, is_capital, is_digit, is_shortcut}
use Rattle.tv_model.specs.Description.Marks.{marks, marks_any, shares_letter}
use Rattle.tv_model.specs.Description.Heads.{window_head}

-- ---- marks

-- F4: a line that marks a letter marked before in its dialog, on an earlier line or on its own, and not one
-- that views share lawfully
abbrev pub marks_again : (ℕ → Bool) → List Node → Node → Bool
marks_again shared before node =
    list_any (λ pair.
    not (marks_any shared pair.1)
    && (list_any (λ other. list_any (shares_letter pair.1) (marked_of other.kind)) before
    || list_any (shares_letter pair.1) pair.0)) (after_seen [] (marked_of node.kind))

-- ---- menus and windows

-- F17: a menu title's letter given before
abbrev pub titled_again : List Menu → Menu → Bool
titled_again before menu = list_any (λ other. shares_letter menu.title other.title) before

-- F17: an item's letter given before in its menu
abbrev pub item_again : List MenuItem → MenuItem → Bool
item_again before item = list_any (λ other. shares_letter item.text other.text) before

-- F17: a window number from 1 to 9 given before
abbrev pub numbered_again : List Window → Window → Bool
numbered_again before window =
    is_key_number (window_head window).number
    && list_any (λ other. int_eq (window_head other).number (window_head window).number) before
  where
    is_key_number : ℤ → Bool
    is_key_number n = int_le (pos 1) n && int_le n (pos 9)

-- F17: an `enable` rule on `cancel` or `close`
abbrev pub rules_cancel : Rule → Bool
rules_cancel rule = ruled rule.effect
  where
    ruled : Effect → Bool
    ruled (effects.Enable commands.Cancel) = true
    ruled (effects.Enable commands.Close) = true
    ruled _ = false

-- ---- keys of status items

-- F1 to F12, Ctrl with a letter other than Y, or Alt with a letter or digit
abbrev pub is_status_key : Key → Bool
is_status_key (keys.Function n) = nat_le 1 n && nat_le n 12
is_status_key (keys.Ctrl ch) = is_capital ch && not (ch == 89)
is_status_key (keys.Alt ch) = is_capital ch || is_digit ch
is_status_key _ = false

-- the same key, of those that a status item may have
abbrev pub is_same_key : Key → Key → Bool
is_same_key (keys.Function n) (keys.Function other) = n == other
is_same_key (keys.Ctrl ch) (keys.Ctrl other) = ch == other
is_same_key (keys.Alt ch) (keys.Alt other) = ch == other
is_same_key _ _ = false

-- the digit, 1 to 9, of a window's number
abbrev pub is_window_digit : ℕ → Window → Bool
is_window_digit ch window =
    (nat_le 49 ch && nat_le ch 57) && int_eq (window_head window).number (pos (ch - 48))

-- Alt with a shortcut of any dialog, a menu title's letter or a window's number
abbrev pub is_taken : Desc → Key → Bool
is_taken d (keys.Alt ch) =
    list_any (is_shortcut ch) d.dialogs
    || (list_any (λ menu. marks ch menu.title) d.menus || list_any (is_window_digit ch) d.windows)
is_taken d _ = false

-- F5: a status line whose key isn't one that it may have, or is taken, or was given before
abbrev pub has_bad_key : Desc → List StatusItem → StatusItem → Bool
has_bad_key d before item =
    not (is_status_key item.key)
    || (is_taken d item.key || list_any (λ other. is_same_key other.key item.key) before)
