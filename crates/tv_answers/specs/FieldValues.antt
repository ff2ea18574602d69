-- The value that words give a field, where it may be so.
use Rattle.std.specs.Prelude.{ℕ, ℤ, ◌+◌, ◌-◌, ◌^◌, min, List, [], ◌∷◌, length, Bool, false, ◌&&◌, nat_lt, Option, Some, None}
use Rattle.std.specs.Prelude.{codes, option_and_then, if◌then◌else◌}
use Rattle.std.specs.Option.{option_map}
use Rattle.tv_model.specs.declared.kind.Kind.{Kind}
use Rattle.tv_model.specs.declared.kind.Kind.TheVariants as kinds
use Rattle.tv_model.specs.declared.record.Value.{Value}
use Rattle.tv_model.specs.declared.record.Value.TheVariants as values
use Rattle.tv_model.specs.Description.Numbers.{natural}
use Rattle.tv_model.specs.Description.Rules.{is_item}
use Rattle.tv_model.specs.Faults.Domains.{any_text, may_stand}
use Rattle.tv_valid.specs.declared.input.InputSpec.{InputSpec}
use Rattle.tv_words.specs.declared.word.Word.{Word}
use Rattle.tv_words.specs.Fields.{is_bare_word, text_in}
use Rattle.tv_words.specs.Reading.Numbers.{number_in}
use Rattle.tv_words.specs.Reading.Steps.{steps}

-- a text that may stand in the input while it is typed, of one with a domain in which a text lies
abbrev pub text_for : InputSpec → List ℕ → Option Value
text_for spec text = if any_text spec && may_stand text spec then Some (values.Text text) else None

-- the number of an item, counted from 1, where there are so many
abbrev pub item_among : ℕ → ℤ → Option ℕ
item_among count n = if is_item n count then Some (natural n) else None

-- the item that a word names among so many
abbrev pub item_in : ℕ → Word → Option ℕ
item_in count word = option_and_then (item_among count) (number_in word)

-- an item is marked too, which comes after all that are: bit 0 of marks is the first item
abbrev pub with_mark : ℕ → ℕ → Option ℕ
with_mark marks item = if nat_lt marks (2 ^ (item - 1)) then Some (marks + 2 ^ (item - 1)) else None

-- the same of the item that a word names among so many
abbrev pub with_marked : ℕ → ℕ → Word → Option ℕ
with_marked count marks word = option_and_then (with_mark marks) (item_in count word)

-- the marks of items, of which each comes after those before it
abbrev pub marks_among : ℕ → List Word → Option ℕ
marks_among count words = steps (with_marked count) 0 words

-- the words mark nothing
abbrev pub is_dash : List Word → Bool
is_dash (word ∷ []) = is_bare_word word (codes "-")
is_dash _ = false

-- the marks that words give check boxes of so many items, of which none has more than 16
abbrev pub marks_in : ℕ → List Word → Option ℕ
marks_in count [] = None
marks_in count (word ∷ words) =
    if is_dash (word ∷ words) then Some 0 else marks_among (min count 16) (word ∷ words)

-- the choice that a word gives radio buttons or a list of so many items, of which none has more than 255
abbrev pub choice_in : ℕ → Word → Option Value
choice_in count word = option_map values.Item (item_in (min count 255) word)

-- the value that words give a field of the kind, where it may stand there
abbrev pub value_for : Kind → List Word → Option Value
value_for (kinds.Input input) (word ∷ []) = option_and_then (text_for input.spec) (text_in word)
value_for (kinds.CheckBoxes boxes) words = option_map values.Marks (marks_in (length boxes.items) words)
value_for (kinds.RadioButtons radios) (word ∷ []) = choice_in (length radios.items) word
value_for (kinds.List list) (word ∷ []) = choice_in (length list.items) word
value_for _ _ = None
