-- The request that the arguments of `dialog` spell.
use Rattle.std.specs.Prelude.{◌≡◌, ℕ, ◌+◌, ◌&&◌, ◌||◌, ℤ, pos, negsuc, List, [], ◌∷◌, Bool, true, false, bytes_eq, codes}
use Rattle.std.specs.Prelude.{length, map, nat_lt, ◌==◌, Option, Some, None, ok_or, option_and_then, option_map}
use Rattle.std.specs.Prelude.{if◌then◌else◌, MatchResult, Result, Ok, Err}
use Rattle.std.specs.Str.{chars}
use Rattle.tv_words.specs.Reading.Numbers.{number_of}
use Rattle.tv_boxes.specs.declared.asking.BoxName.{BoxName}
use Rattle.tv_boxes.specs.declared.asking.BoxName.TheVariants as names
use Rattle.tv_boxes.specs.declared.misuse.Misuse.{Misuse}
use Rattle.tv_boxes.specs.declared.misuse.Misuse.TheVariants.{NoMemory, NoBox, Missing, NoNumber, Extra, NoOption}
use Rattle.tv_boxes.specs.declared.request.BoxKind.{BoxKind}
use Rattle.tv_boxes.specs.declared.request.BoxKind.TheVariants as boxes
use Rattle.tv_boxes.specs.declared.request.Choices.{Choices}
use Rattle.tv_boxes.specs.declared.request.FormField.{FormField}
use Rattle.tv_boxes.specs.declared.request.Item.{Item}
use Rattle.tv_boxes.specs.declared.request.Request.{Request}
use Rattle.tv_boxes.specs.declared.settings.Setting.{Setting}
use Rattle.tv_boxes.specs.declared.settings.Setting.TheVariants as settings
use Rattle.tv_boxes.specs.declared.settings.Settings.{Settings}
use Rattle.tv_boxes.specs.Buttons.{standard_labels}

-- ---- words

-- the characters of words, from their bytes
abbrev pub words_in : List (List ℕ) → List (List ℕ)
words_in words = map chars words

-- a number of rows or columns
abbrev pub byte_in : ℤ → Option ℕ
byte_in (pos n) = if nat_lt n 256 then Some n else None
byte_in (negsuc n) = None

-- the number from 0 to 255 of which this is the text
abbrev pub number_in : List ℕ → Option ℕ
number_in word = option_and_then byte_in (number_of word)

-- what is read next, unless there is a misuse already
abbrev pub and_then : {A B : Type 0} → Result A Misuse → (A → Result B Misuse) → Result B Misuse
and_then (Ok x) next = next x
and_then (Err misuse) next = Err misuse

-- the number of a word with so many words behind it
abbrev pub number_at : List ℕ → (behind : ℕ) → Result ℕ Misuse
number_at word behind = ok_or (number_in word) (NoNumber behind)

-- the text, with a line feed for each `\n` that is written out
abbrev pub with_breaks : List ℕ → List ℕ
with_breaks [] = []
with_breaks (c ∷ []) = c ∷ []
with_breaks (c ∷ d ∷ cs) =
    if (c == 92) && (d == 110) then 10 ∷ with_breaks cs else c ∷ with_breaks (d ∷ cs)

-- ---- options before that of a box

-- those of a box without options
abbrev pub standard_settings : Settings
standard_settings = record { title = []; labels = standard_labels; default_no = false; chosen = None }

-- what an option sets by the word behind it
abbrev pub setting_named : List ℕ → Option Setting
setting_named option =
    if bytes_eq option (codes "--title") then Some settings.Title
    else if bytes_eq option (codes "--yes-label") then Some settings.Yes
    else if bytes_eq option (codes "--no-label") then Some settings.No
    else if bytes_eq option (codes "--ok-label") then Some settings.Ok
    else if bytes_eq option (codes "--cancel-label") then Some settings.Cancel
    else if bytes_eq option (codes "--default-item") then Some settings.Chosen
    else None

abbrev pub with_setting : Setting → List ℕ → Settings → Settings
with_setting settings.Title word s = record s { title = word }
with_setting settings.Yes word s = record s { labels = record s.labels { yes = word } }
with_setting settings.No word s = record s { labels = record s.labels { no = word } }
with_setting settings.Ok word s = record s { labels = record s.labels { ok = word } }
with_setting settings.Cancel word s = record s { labels = record s.labels { cancel = word } }
with_setting settings.Chosen word s = record s { chosen = Some word }

-- ---- items and fields

-- the tag is that of the item that a menu begins with
abbrev pub is_chosen : Option (List ℕ) → List ℕ → Bool
is_chosen None tag = false
is_chosen (Some word) tag = bytes_eq word tag

-- a tag and a text for each item of a menu
abbrev pub menu_items : Option (List ℕ) → List (List ℕ) → Option (List Item)
menu_items chosen [] = Some []
menu_items chosen (tag ∷ []) = None
menu_items chosen (tag ∷ text ∷ words) =
    option_map (λ items. record { tag = tag; text = text; is_on = is_chosen chosen tag } ∷ items)
    (menu_items chosen words)

-- the item is on; any other word than these says that it is off
abbrev pub is_on : List ℕ → Bool
is_on status = bytes_eq status (codes "on") || bytes_eq status (codes "ON")

-- a tag, a text and a status for each item
abbrev pub marked_items : List (List ℕ) → Option (List Item)
marked_items [] = Some []
marked_items (tag ∷ text ∷ status ∷ words) =
    option_map (λ items. record { tag = tag; text = text; is_on = is_on status } ∷ items) (marked_items words)
marked_items _ = None

-- the rows of a list, and its items, of which the last lacks a word if there are none
abbrev pub choices_in : Result ℕ Misuse → Option (List Item) → Result Choices Misuse
choices_in rows items =
    and_then rows (λ rows. and_then (ok_or items Missing) (λ items. Ok (record { rows = rows; items = items })))

-- the field of the first eight words: its label, the row and column of that, its text, and its row, its column, its
-- width and the most characters that it takes
abbrev pub field_in : List (List ℕ) → Result FormField Misuse
field_in (label ∷ label_row ∷ label_column ∷ start ∷ row ∷ column ∷ width ∷ longest ∷ words) =
    and_then (number_at label_row (length words + 6)) (λ label_row.
    and_then (number_at label_column (length words + 5)) (λ label_column.
    and_then (number_at row (length words + 3)) (λ row.
    and_then (number_at column (length words + 2)) (λ column.
    and_then (number_at width (length words + 1)) (λ width.
    and_then (number_at longest (length words)) (λ longest.
    Ok (record {
      label = label;
      label_row = label_row;
      label_column = label_column;
      start = start;
      row = row;
      column = column;
      width = width;
      longest = longest;
    })))))))
field_in _ = Err Missing

-- a field, and those behind it
abbrev pub with_field : Result FormField Misuse → Result (List FormField) Misuse → Result (List FormField) Misuse
with_field field fields = and_then field (λ field. and_then fields (λ fields. Ok (field ∷ fields)))

-- eight words for each field
abbrev pub fields_in : List (List ℕ) → Result (List FormField) Misuse
fields_in [] = Ok []
fields_in (label ∷ label_row ∷ label_column ∷ start ∷ row ∷ column ∷ width ∷ longest ∷ words) =
    with_field
    (field_in (label ∷ label_row ∷ label_column ∷ start ∷ row ∷ column ∷ width ∷ longest ∷ words))
    (fields_in words)
fields_in _ = Err Missing

-- ---- boxes

-- the box that an option asks for
abbrev pub box_named : List ℕ → Option BoxName
box_named option =
    if bytes_eq option (codes "--yesno") then Some names.YesNo
    else if bytes_eq option (codes "--msgbox") then Some names.Message
    else if bytes_eq option (codes "--inputbox") then Some names.Input
    else if bytes_eq option (codes "--menu") then Some names.Menu
    else if bytes_eq option (codes "--checklist") then Some names.CheckList
    else if bytes_eq option (codes "--radiolist") then Some names.RadioList
    else if bytes_eq option (codes "--form") then Some names.Form
    else None

-- what a box asks, by the words behind its width. The rows of a form are passed over
abbrev pub kind_in : BoxName → Option (List ℕ) → List (List ℕ) → Result BoxKind Misuse
kind_in names.YesNo chosen [] = Ok boxes.YesNo
kind_in names.YesNo chosen (extra ∷ words) = Err (Extra (length words))
kind_in names.Message chosen [] = Ok boxes.Message
kind_in names.Message chosen (extra ∷ words) = Err (Extra (length words))
kind_in names.Input chosen [] = Ok (boxes.Input [])
kind_in names.Input chosen (start ∷ []) = Ok (boxes.Input start)
kind_in names.Input chosen (start ∷ extra ∷ words) = Err (Extra (length words))
kind_in names.Menu chosen (rows ∷ words) =
    and_then (choices_in (number_at rows (length words)) (menu_items chosen words)) (λ choices. Ok (boxes.Menu choices))
kind_in names.CheckList chosen (rows ∷ words) =
    and_then (choices_in (number_at rows (length words)) (marked_items words)) (λ choices. Ok (boxes.CheckList choices))
kind_in names.RadioList chosen (rows ∷ words) =
    and_then (choices_in (number_at rows (length words)) (marked_items words)) (λ choices. Ok (boxes.RadioList choices))
kind_in names.Form chosen (rows ∷ words) =
    and_then (number_at rows (length words)) (λ _. and_then (fields_in words) (λ fields. Ok (boxes.Form fields)))
kind_in _ chosen [] = Err Missing

-- a box of these parts
abbrev pub request_of : Settings → (text : List ℕ) → (height width : ℕ) → BoxKind → Request
request_of s text height width kind = record {
  title = s.title;
  text = with_breaks text;
  height = height;
  width = width;
  labels = s.labels;
  default_no = s.default_no;
  kind = kind;
}

-- the words behind the option of a box
abbrev pub box_in : Settings → Option BoxName → List (List ℕ) → Result Request Misuse
box_in s None words = Err (NoOption (length words))
box_in s (Some name) (text ∷ height ∷ width ∷ words) =
    and_then (number_at height (length words + 1)) (λ height.
    and_then (number_at width (length words)) (λ width.
    and_then (kind_in name s.chosen words) (λ kind.
    Ok (request_of s text height width kind))))
box_in s (Some name) _ = Err Missing

abbrev mutual
  -- options, then that of a box
  pub read_from : Settings → List (List ℕ) → Result Request Misuse
  read_from s [] = Err NoBox
  read_from s (option ∷ words) =
      if bytes_eq option (codes "--defaultno") then read_from (record s { default_no = true }) words
      else behind_option s option (setting_named option) words

  -- the words behind an option
  pub behind_option : Settings → List ℕ → Option Setting → List (List ℕ) → Result Request Misuse
  behind_option s option None words = box_in s (box_named option) words
  behind_option s option (Some setting) [] = Err Missing
  behind_option s option (Some setting) (word ∷ words) = read_from (with_setting setting word s) words

-- the request that words spell, or the first misuse
abbrev pub request_in : List (List ℕ) → Result Request Misuse
request_in words = read_from standard_settings words

-- ---- what is answered

-- unless memory ran out, this is the misuse
abbrev pub Refuses : {T : Type 0} → Result T Misuse → Misuse → Type 0
Refuses found misuse = ¬ (misuse ≡ NoMemory) → found ≡ Err misuse

-- what is spelled is answered, or the misuse
abbrev pub Reads : {T : Type 0} → Result T Misuse → Result T Misuse → Type 0
Reads found answer = MatchResult answer (λ value. found ≡ Ok value) (Refuses found)
