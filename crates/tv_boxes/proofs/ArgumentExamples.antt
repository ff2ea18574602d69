-- What arguments ask for.
use Prim.Native.String.{String}
use Rattle.std.specs.Prelude.{◌≡◌, ℕ, List, [], ◌∷◌, ◌++◌, Bool, true, false, Result, Ok, Err, codes, encode_utf8_all, map}
use Rattle.std.proofs.Common.{refl}
use Rattle.tv_boxes.specs.declared.misuse.Misuse.{Misuse}
use Rattle.tv_boxes.specs.declared.misuse.Misuse.TheVariants.{NoBox, Missing, NoNumber, Extra, NoOption}
use Rattle.tv_boxes.specs.declared.request.BoxKind.{BoxKind}
use Rattle.tv_boxes.specs.declared.request.BoxKind.TheVariants as boxes
use Rattle.tv_boxes.specs.declared.request.Item.{Item}
use Rattle.tv_boxes.specs.declared.request.Request.{Request}
use Rattle.tv_boxes.specs.Arguments.{request_in}
use Rattle.tv_boxes.specs.Buttons.{standard_labels}
use Rattle.tv_boxes.specs.Misuses.{argument_text, misuse_text}

-- what these words ask for
abbrev asked : List String → Result Request Misuse
asked words = request_in (map codes words)

-- a box of the text without options, as large as it needs
abbrev plain : List ℕ → BoxKind → Request
plain text kind = record {
  title = [];
  text = text;
  height = 0;
  width = 0;
  labels = standard_labels;
  default_no = false;
  kind = kind;
}

abbrev item : String → String → Bool → Item
item tag text is_on = record { tag = codes tag; text = codes text; is_on = is_on }

-- ---- what is asked

question : asked ("--yesno" ∷ "Sure?" ∷ "0" ∷ "0" ∷ []) ≡ Ok (plain (codes "Sure?") boxes.YesNo)
question = refl

-- options come in any order, and the last one counts
options : asked ("--title" ∷ "A" ∷ "--defaultno" ∷ "--no-label" ∷ "--yes" ∷ "--title" ∷ "B" ∷ "--yesno" ∷ "Sure?" ∷ "9" ∷ "40" ∷ []) ≡ Ok (record (plain (codes "Sure?") boxes.YesNo) {
  title = codes "B";
  height = 9;
  width = 40;
  labels = record standard_labels { no = codes "--yes" };
  default_no = true;
})
options = refl

-- a `\n` that is written out begins a row
rows : asked ("--msgbox" ∷ "a\\nb\\" ∷ "0" ∷ "0" ∷ []) ≡ Ok (plain (codes "a" ++ 10 ∷ codes "b\\") boxes.Message)
rows = refl

begun : asked ("--inputbox" ∷ "Name?" ∷ "0" ∷ "0" ∷ "Ada" ∷ []) ≡ Ok (plain (codes "Name?") (boxes.Input (codes "Ada")))
begun = refl

empty : asked ("--inputbox" ∷ "Name?" ∷ "0" ∷ "0" ∷ []) ≡ Ok (plain (codes "Name?") (boxes.Input []))
empty = refl

-- a menu begins with the item of this tag
chosen : asked ("--default-item" ∷ "b" ∷ "--menu" ∷ "Which?" ∷ "0" ∷ "0" ∷ "5" ∷ "a" ∷ "One" ∷ "b" ∷ "Two" ∷ []) ≡ Ok (plain (codes "Which?") (boxes.Menu (record {
  rows = 5;
  items = item "a" "One" false ∷ item "b" "Two" true ∷ [];
})))
chosen = refl

-- a status other than `on` is none
marked : asked ("--checklist" ∷ "Which?" ∷ "0" ∷ "0" ∷ "0" ∷ "a" ∷ "One" ∷ "on" ∷ "b" ∷ "Two" ∷ "maybe" ∷ []) ≡ Ok (plain (codes "Which?") (boxes.CheckList (record {
  rows = 0;
  items = item "a" "One" true ∷ item "b" "Two" false ∷ [];
})))
marked = refl

-- rows come before columns
field : asked ("--form" ∷ "Who?" ∷ "0" ∷ "0" ∷ "1" ∷ "Name" ∷ "1" ∷ "2" ∷ "Ada" ∷ "3" ∷ "4" ∷ "5" ∷ "6" ∷ []) ≡ Ok (plain (codes "Who?") (boxes.Form (record {
  label = codes "Name";
  label_row = 1;
  label_column = 2;
  start = codes "Ada";
  row = 3;
  column = 4;
  width = 5;
  longest = 6;
} ∷ [])))
field = refl

-- ---- what asks for nothing, and why

no_box : asked ("--title" ∷ "A" ∷ []) ≡ Err NoBox
no_box = refl

no_word : asked ("--title" ∷ []) ≡ Err Missing
no_word = refl

-- behind a box there are no options
late_option : asked ("--yesno" ∷ "Sure?" ∷ "0" ∷ "0" ∷ "--title" ∷ []) ≡ Err (Extra 0)
late_option = refl

two_starts : asked ("--inputbox" ∷ "Name?" ∷ "0" ∷ "0" ∷ "Ada" ∷ "Bob" ∷ "Eve" ∷ []) ≡ Err (Extra 1)
two_starts = refl

-- that there are too few comes first
no_width : asked ("--yesno" ∷ "Sure?" ∷ "x" ∷ []) ≡ Err Missing
no_width = refl

no_number : asked ("--yesno" ∷ "Sure?" ∷ "0" ∷ "256" ∷ []) ≡ Err (NoNumber 0)
no_number = refl

no_status : asked ("--radiolist" ∷ "Which?" ∷ "0" ∷ "0" ∷ "0" ∷ "a" ∷ "One" ∷ []) ≡ Err Missing
no_status = refl

-- a number before a word that is missing
no_row : asked ("--form" ∷ "Who?" ∷ "0" ∷ "0" ∷ "1" ∷ "Name" ∷ "a" ∷ "b" ∷ "Ada" ∷ "3" ∷ "4" ∷ "5" ∷ "6" ∷ "Town" ∷ []) ≡ Err (NoNumber 7)
no_row = refl

another_box : asked ("--gauge" ∷ "Now" ∷ "0" ∷ "0" ∷ []) ≡ Err (NoOption 3)
another_box = refl

-- ---- in words

abbrev told : List String → Misuse → List ℕ
told words misuse = misuse_text (map codes words) misuse

told_missing : told ("--yesno" ∷ "Sure?" ∷ []) Missing ≡ argument_text 3 (codes " is missing")
told_missing = refl

told_number : told ("--yesno" ∷ "Sure?" ∷ "x" ∷ "0" ∷ []) (NoNumber 1) ≡ argument_text 3 (codes " is no number from 0 to 255")
told_number = refl

told_option : told ("--gauge" ∷ "Now" ∷ []) (NoOption 1) ≡ encode_utf8_all (codes "--gauge") ++ codes " can't be had"
told_option = refl

told_word : told ("gauge" ∷ "Now" ∷ []) (NoOption 1) ≡ argument_text 1 (codes " is no option")
told_word = refl
