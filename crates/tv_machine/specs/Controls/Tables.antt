-- What a key or the mouse makes of a control. Items, columns and rows of a control count from its own corner.
use Rattle.std.specs.Prelude.{ℕ}
use Rattle.tv_event.specs.declared.event.Key.{Key}
use Rattle.tv_model.specs.declared.kind.Kind.{Kind}
use Rattle.tv_model.specs.Kinds.{behaviour}
use Rattle.tv_model.specs.Controls.Contents.{Content}
use Rattle.tv_model.specs.Controls.Behaviour.{Answer}

-- a key of the focused control
abbrev pub key_answer : Kind → Key → Content → Answer
key_answer kind k c = (behaviour kind).key k c

-- the item that a control remembers from a mouse down on a row: clusters their row's, others none
abbrev pub remembered : Kind → ℕ → ℕ
remembered kind row = (behaviour kind).remembered row

-- a mouse down on a column and a row of the control, which holds the mouse from then on. In an input the
-- cursor goes to the
-- column, whose first place was the first shown when the mouse came; in a list the item of the row is chosen
abbrev pub down_content : Kind → ℕ → ℕ → ℕ → Content → Content
down_content kind first column row c = (behaviour kind).down_content first column row c

-- the mouse moves to a row inside a control that holds it: a list chooses the item of the row
abbrev pub move_content : Kind → ℕ → Content → Content
move_content kind row c = (behaviour kind).move_content row c

-- the mouse goes up on a row inside the control that holds it and remembers an item
abbrev pub up_answer : Kind → ℕ → ℕ → Content → Answer
up_answer kind item row c = (behaviour kind).up item row c
