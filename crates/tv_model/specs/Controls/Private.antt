-- What leaves keep.
use Rattle.std.specs.Prelude.{ℕ, Bool}

-- what a leaf keeps besides its value
pub data Private : Type 0 where
  -- a button, a label or a static text keeps nothing
  Plain : Private
  -- an input: the place of its cursor, and whether its whole text is selected
  Editing : (cursor : ℕ) (is_whole : Bool) → Private
  -- check boxes: their selected item, from 1; of radio buttons it is the marked one, their value
  Selecting : (item : ℕ) → Private
  -- a list: the item of its top row, from 1
  Scrolled : (top : ℕ) → Private
