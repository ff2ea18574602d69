-- Marks of a letter that was marked before: F4, and F17 of menus.
use Rattle.std.specs.Prelude.{[], ◌∷◌, ◌++◌, ℕ, Bool, not, ◌&&◌, ◌||◌, List, find, Option, Some, None}
use Rattle.std.specs.Prelude.{option_map, if◌then◌else◌}
use Rattle.std.specs.List.{list_any}
use Rattle.std.specs.Option.{option_map_or}
use Rattle.tv_model.specs.declared.node.Node.{Node}
use Rattle.tv_model.specs.declared.desc.Menu.{Menu}
use Rattle.tv_model.specs.declared.desc.MenuItem.{MenuItem}
use Rattle.tv_model.specs.declared.kind.MarkedText.{MarkedText}
use Rattle.tv_model.specs.Description.Letters.{marked_of}
use Rattle.tv_model.specs.Description.Marks.{marks_any, shares_letter}
use Rattle.tv_explain.specs.declared.why.Why.{Why}
use Rattle.tv_explain.specs.declared.why.Reason.TheVariants as reasons
use Rattle.tv_explain.specs.Whys.{because}

-- the first view that marks the text's letter
abbrev pub first_marker : List Node → MarkedText → Option Node
first_marker views text = find (λ other. list_any (shares_letter text) (marked_of other.kind)) views

-- a view before, or a text before in its own line, marks the text's letter
abbrev pub is_given : List Node → List MarkedText → MarkedText → Bool
is_given before earlier text =
    list_any (λ other. list_any (shares_letter text) (marked_of other.kind)) before
    || list_any (shares_letter text) earlier

-- and the letter isn't shared
abbrev pub is_again : (ℕ → Bool) → List Node → List MarkedText → MarkedText → Bool
is_again shared before earlier text = is_given before earlier text && not (marks_any shared text)

-- the line that marked the text's letter first: one before, or this one
abbrev pub first_marking : List Node → ℕ → MarkedText → ℕ
first_marking before own text = option_map_or (λ other. other.id.0) (first_marker before text) own

-- that of the first text that marks a letter again, the texts of the line before being these
abbrev pub letter_from : (ℕ → Bool) → List Node → ℕ → List MarkedText → List MarkedText → Option ℕ
letter_from shared before own earlier [] = None
letter_from shared before own earlier (text ∷ texts) =
    if is_again shared before earlier text
    then Some (first_marking before own text)
    else letter_from shared before own (earlier ++ text ∷ []) texts

-- F4: the line that marked the letter first, which may be the view's own
abbrev pub letter_line : (ℕ → Bool) → List Node → Node → Option ℕ
letter_line shared before node = letter_from shared before node.id.0 [] (marked_of node.kind)

-- F17: the menu that marked the title's letter
abbrev pub title_line : List Menu → Menu → Option ℕ
title_line before menu =
    option_map (λ other. other.id.0) (find (λ other. shares_letter menu.title other.title) before)

abbrev pub title_why : List Menu → Menu → Why
title_why before menu = because reasons.TitleTwice (title_line before menu)

-- F17: the item that marked the item's letter
abbrev pub item_line : List MenuItem → MenuItem → Option ℕ
item_line before item =
    option_map (λ other. other.id.0) (find (λ other. shares_letter item.text other.text) before)

abbrev pub item_why : List MenuItem → MenuItem → Why
item_why before item = because reasons.ItemTwice (item_line before item)
