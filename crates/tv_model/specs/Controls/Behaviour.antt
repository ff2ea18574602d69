-- What a kind of view is, what it holds, and what keys, the mouse and letters make of it. Items, columns and
-- rows of a control
-- count from its own corner.
use Rattle.std.specs.Prelude.{[], ◌≡◌, ℕ, Bool, false, List, Option, None, ℤ, pos}
use Rattle.tv_event.specs.declared.event.Key.{Key}
use Rattle.tv_palette.specs.declared.role.Owner.{Owner}
use Rattle.tv_palette.specs.declared.role.Role.{Role}
use Rattle.tv_valid.specs.declared.domain.Domain.{Domain}
use Rattle.tv_model.specs.declared.command.CommandSpec.{CommandSpec}
use Rattle.tv_model.specs.declared.record.Value.{Value}
use Rattle.tv_model.specs.Controls.Contents.{Content}
use Rattle.tv_model.specs.Controls.Look.{Look}
use Rattle.tv_model.specs.Controls.Shortcut.{Shortcut, NoMark}
use Rattle.tv_model.specs.Controls.Private.{Private, Plain}
use Rattle.tv_model.specs.Screen.Faces.{FaceOf}

-- what a control does with a key, or with the release of the mouse
pub data Answer : Type 0 where
  -- it isn't one of its own
  Passed : Answer
  -- it was consumed, and the control holds this now
  Becomes : (content : Content) → Answer
  -- the button is pressed
  Presses : Answer

-- what a mouse down on it asks for
pub data Down : Type 0 where
  -- nothing
  Ignores : Down
  -- the focus of the control of the name
  FocusesLink : (name : List ℕ) → Down
  -- a button holds the mouse, and asks for the focus first where it grabs it
  Grips : (grabs : Bool) → Down
  -- it asks for the focus, and holds the mouse
  Holds : Down

-- what a kind is and does
pub record Behaviour : Type 0 where
  -- ---- its declaration
  -- the name that the declaration gives
  pub name : Option (List ℕ)
  pub rows : ℤ
  pub least_width : ℤ
  pub least_height : ℤ
  -- all that the declaration quotes, without marks, and what of these texts has to take one column a
  -- character
  pub texts : List (List ℕ)
  pub shown_texts : List (List ℕ) → List (List ℕ)
  -- the letters that call it from any focus
  pub shortcut : Shortcut
  -- ---- what it is
  -- whether it can have the focus
  pub is_control : Bool
  -- the command that it gives where it is pressed, and whether Enter presses it
  pub command : Option CommandSpec
  pub is_default : Bool
  -- the name of what it stands for
  pub link : Option (List ℕ)
  -- whether it is edited, and the focus may leave it only with a text of its domain
  pub is_edited : Bool
  pub validates : Bool
  -- ---- what it holds
  -- the value that it has by its declaration, if it is a field
  pub value : Option Value
  -- what it keeps beside its value when its dialog opens
  pub opened : Option Value → Private
  -- whether its text lies outside its domain
  pub is_invalid : Content → Bool
  -- ---- keys and the mouse
  -- a key, where it has the focus
  pub key : Key → Content → Answer
  -- a mouse down, what it remembers of its row, and what it holds then, by the first column shown, the column
  -- and the row
  pub down : Down
  pub remembered : ℕ → ℕ
  pub down_content : ℕ → ℕ → ℕ → Content → Content
  -- a move to a row, and an up on a row with the item that it remembered
  pub move_content : ℕ → Content → Content
  pub up : ℕ → ℕ → Content → Answer
  -- ---- what it shows
  -- its faces in the colours of roles, in a window or a dialog, by how it stands and its width
  pub faces : (Role → ℕ) → Owner → Look → ℕ → Content → List FaceOf

-- what has nothing of all that
abbrev pub plain : Behaviour
plain = record {
  name = None;
  rows = pos 1;
  least_width = pos 1;
  least_height = pos 1;
  texts = [];
  shown_texts = λ texts. texts;
  shortcut = NoMark;
  is_control = false;
  command = None;
  is_default = false;
  link = None;
  is_edited = false;
  validates = false;
  value = None;
  opened = λ value. Plain;
  is_invalid = λ c. false;
  key = λ k c. Passed;
  down = Ignores;
  remembered = λ row. 0;
  down_content = λ first column row c. c;
  move_content = λ row c. c;
  up = λ item row c. Passed;
  faces = λ colour owner look width c. [];
}

-- what holds of what a kind declares and holds
pub record Facts : Type 1 where
  -- ---- its declaration
  -- so many items as it may have, and a number or so many characters as it may have
  pub HasLawfulCount : Type 0
  pub HasLawfulAmount : Type 0
  -- it has a domain with a text, and starts with a text that may stand there, or with items that there are
  pub HasLawfulDomain : Type 0
  pub HasLawfulStart : Type 0
  -- ---- what it holds
  -- a text that it may hold, where its domain allows it so; an item; marks
  pub IsText : (Domain → List ℕ → Type 0) → List ℕ → Type 0
  pub IsItem : ℕ → Type 0
  pub AreMarks : ℕ → Type 0
  -- what it keeps beside its value, and how it stands without the focus
  pub IsPrivate : Private → Type 0
  pub IsAtRest : Private → Type 0

-- of what has nothing
abbrev pub plain_facts : Facts
plain_facts = record {
  HasLawfulCount = Unit {0};
  HasLawfulAmount = Unit {0};
  HasLawfulDomain = Unit {0};
  HasLawfulStart = Unit {0};
  IsText = λ Allows text. ⊥;
  IsItem = λ item. ⊥;
  AreMarks = λ marks. ⊥;
  IsPrivate = λ private. private ≡ Plain;
  IsAtRest = λ private. Unit {0};
}
