-- Reading the lines that declare clusters and lists.
use Rattle.std.specs.Prelude.{ℕ, ℤ, List, [], ◌∷◌, ◌++◌, Option, Some, None, option_and_then, codes}
use Rattle.std.specs.Prelude.{if◌then◌else◌}
use Rattle.std.specs.Option.{option_map}
use Rattle.tv_model.specs.declared.kind.MarkedText.{MarkedText}
use Rattle.tv_model.specs.declared.node.Node.{Node}
use Rattle.tv_model.specs.declared.kind.Kind.TheVariants as kinds
use Rattle.tv_declarations.specs.declared.place.Position.{Position}
use Rattle.tv_declarations.specs.declared.items.Items.{Items}
use Rattle.tv_words.specs.declared.word.Word.{Word}
use Rattle.tv_words.specs.declared.word.Word.TheVariants.{Bare, Quoted}
use Rattle.tv_words.specs.Fields.{is_bare_word, name_in}
use Rattle.tv_declarations.specs.Spelling.Nodes.{is_rising}
use Rattle.tv_declarations.specs.Reading.Options.{with2, with3, with4}
use Rattle.tv_words.specs.Reading.Steps.{steps}
use Rattle.tv_words.specs.Reading.Numbers.{number_in}
use Rattle.tv_declarations.specs.Reading.Marks.{marked_text_in}
use Rattle.tv_declarations.specs.Reading.Places.{place_from, node_at}

-- these texts, and the numbers after `start` where it was there
abbrev pub items_from : List (List ℕ) → Option (List ℤ) → Items
items_from texts start = record { texts = texts; start = start }

-- one word more before `start`
abbrev pub taken_before_start : List (List ℕ) → Word → Option Items
taken_before_start texts (Quoted text) = Some (items_from (texts ++ text ∷ []) None)
taken_before_start texts (Bare text) =
    if is_bare_word (Bare text) (codes "start") then Some (items_from texts (Some [])) else None

-- one word more, before or after `start`
abbrev pub word_taken : List (List ℕ) → Option (List ℤ) → Word → Option Items
word_taken texts None w = taken_before_start texts w
word_taken texts (Some numbers) w =
    option_map (λ n. items_from texts (Some (numbers ++ n ∷ []))) (number_in w)

-- one word more
abbrev pub item_taken : Items → Word → Option Items
item_taken s w = word_taken s.texts s.start w

-- the items and the numbers after `start`
abbrev pub items_in : List Word → Option Items
items_in ws = steps item_taken (items_from [] None) ws

-- one item more
abbrev pub with_item : List MarkedText → List ℕ → Option (List MarkedText)
with_item items text = option_map (λ item. items ++ item ∷ []) (marked_text_in text)

-- the marked texts of items, of which there is one at least
abbrev pub marks_in : List (List ℕ) → Option (List MarkedText)
marks_in [] = None
marks_in (text ∷ texts) = steps with_item [] (text ∷ texts)

-- the items that are marked at first
abbrev pub marked_first : Option (List ℤ) → Option (List ℤ)
marked_first None = Some []
marked_first (Some []) = None
marked_first (Some (n ∷ ns)) = if is_rising (n ∷ ns) then Some (n ∷ ns) else None

-- the only number
abbrev pub only_number : Option (List ℤ) → Option ℤ
only_number (Some (n ∷ [])) = Some n
only_number _ = None

-- the texts of items, of which there is one at least
abbrev pub texts_in : List (List ℕ) → Option (List (List ℕ))
texts_in [] = None
texts_in (text ∷ texts) = Some (text ∷ texts)

-- the items of check boxes, and those that are marked at first
abbrev pub boxes_of : Items → Option (List MarkedText × List ℤ)
boxes_of s = with2 (λ items start. (items, start)) (marks_in s.texts) (marked_first s.start)

-- the items of radio buttons, and the one that is marked at first
abbrev pub radios_of : Items → Option (List MarkedText × ℤ)
radios_of s = with2 (λ items start. (items, start)) (marks_in s.texts) (only_number s.start)

-- the items of a list, and the one that is chosen at first
abbrev pub rows_of : Items → Option (List (List ℕ) × ℤ)
rows_of s = with2 (λ items start. (items, start)) (texts_in s.texts) (only_number s.start)

-- what follows `checks`
abbrev pub checks_in : Position → List Word → Option Node
checks_in at (name ∷ x ∷ y ∷ w ∷ items) =
    with3 (λ items name p.
    node_at at p (kinds.CheckBoxes (record { name = name; items = items.0; start = items.1 })))
    (option_and_then boxes_of (items_in items)) (name_in name) (place_from x y w)
checks_in at _ = None

-- what follows `radios`
abbrev pub radios_in : Position → List Word → Option Node
radios_in at (name ∷ x ∷ y ∷ w ∷ items) =
    with3 (λ items name p.
    node_at at p (kinds.RadioButtons (record { name = name; items = items.0; start = items.1 })))
    (option_and_then radios_of (items_in items)) (name_in name) (place_from x y w)
radios_in at _ = None

-- what follows `list`
abbrev pub list_in : Position → List Word → Option Node
list_in at (name ∷ x ∷ y ∷ w ∷ h ∷ items) =
    with4 (λ items name p h.
    node_at at p (kinds.List (record { name = name; h = h; items = items.0; start = items.1 })))
    (option_and_then rows_of (items_in items)) (name_in name) (place_from x y w) (number_in h)
list_in at _ = None
