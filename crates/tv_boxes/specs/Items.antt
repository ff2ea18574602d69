-- The rows of items, and which of them are marked or chosen at first.
use Rattle.std.specs.Prelude.{ℕ, ◌+◌, ◌-◌, ℤ, pos, List, [], ◌∷◌, ◌++◌, fold, length, map, max, position}
use Rattle.std.specs.Prelude.{replicate, Option, Some, None, if◌then◌else◌}
use Rattle.tv_model.specs.declared.kind.MarkedText.{MarkedText}
use Rattle.tv_boxes.specs.declared.items.Marks.{Marks}
use Rattle.tv_boxes.specs.declared.request.Item.{Item}
use Rattle.tv_boxes.specs.Sizes.{size}

-- the columns of the longest tag
abbrev pub tag_columns : List Item → ℕ
tag_columns items = fold (λ columns item. max columns (size (length item.tag))) 0 items

-- the tag, and the text behind the columns of tags
abbrev pub item_row : ℕ → Item → List ℕ
item_row columns item = item.tag ++ replicate (columns - size (length item.tag)) 32 ++ (32 ∷ 32 ∷ item.text)

-- the texts one below another
abbrev pub item_rows : List Item → List (List ℕ)
item_rows items = map (item_row (tag_columns items)) items

-- a text without a marked letter
abbrev pub unmarked : List ℕ → MarkedText
unmarked text = record { text = text; mark = None }

-- the number of the item at a place, from 1
abbrev pub item_number : ℕ → ℤ
item_number place = pos (size place + 1)

-- the item found, or else the first
abbrev pub number_found : Option ℕ → ℤ
number_found None = pos 1
number_found (Some place) = item_number place

-- the first item that is on, or else the first of all
abbrev pub first_on : List Item → ℤ
first_on items = number_found (position (λ item. item.is_on) items)

-- no item was looked at
abbrev pub none_marked : Marks
none_marked = record { count = 0; items = [] }

-- one item more
abbrev pub with_mark_of : Marks → Item → Marks
with_mark_of marks item = record {
  count = size (marks.count + 1);
  items = if item.is_on then marks.items ++ item_number marks.count ∷ [] else marks.items;
}

-- the items that are on
abbrev pub items_on : List Item → List ℤ
items_on items = (fold with_mark_of none_marked items).items
