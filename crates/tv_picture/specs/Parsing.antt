-- What has been read of a picture's text, and what each character adds to it.
use Rattle.std.specs.Prelude.{◌≡◌, ℕ, ◌+◌, ◌-◌, ◌*◌, List, [], ◌∷◌, length, reverse, Option, Some, None}
use Rattle.std.specs.Prelude.{Bool, true, false, if◌then◌else◌, nat_lt, nat_le, ◌==◌, ◌&&◌, not}
use Rattle.std.specs.Option.{option_and_then}
use Rattle.tv_picture.specs.declared.code.Mark.{Mark}
use Rattle.tv_picture.specs.declared.code.Mark.TheVariants.{Digit, Letter, Capital, Any, NotLower, Literal}
use Rattle.tv_picture.specs.declared.code.Mark.TheVariants.{Quoted}
use Rattle.tv_picture.specs.declared.code.Op.{Op}
use Rattle.tv_picture.specs.declared.code.Op.TheVariants as op
use Rattle.tv_picture.specs.declared.parser.Bracket.{Bracket}
use Rattle.tv_picture.specs.declared.parser.Bracket.TheVariants as bracket
use Rattle.tv_picture.specs.declared.parser.Repeat.{Repeat}
use Rattle.tv_picture.specs.declared.parser.Repeat.TheVariants.{Once, Many, Times}
use Rattle.tv_picture.specs.declared.parser.Open.{Open}
use Rattle.tv_picture.specs.declared.parser.Parser.{Parser}
use Rattle.tv_picture.specs.Pattern.{Pattern}
use Rattle.tv_picture.specs.Code.{patterns_after, run, top, height_after, height_from}

-- what code leaves: the stack of patterns, and its height where each operation finds its parts
pub record Built : Type 0 where
  pub stack : List Pattern
  pub height : Option ℕ

-- what code leaves
abbrev pub built_by : List Op → Built
built_by code = record { stack = run [] code; height = height_from 0 code }

-- and after one operation more
abbrev pub with_op : Built → Op → Built
with_op b op = record {
  stack = patterns_after b.stack op;
  height = option_and_then (λ h. height_after h op) b.height;
}

-- what was built; the open brackets, the innermost first; whether the sequence comes after a comma; how often
-- the next part is repeated; whether it comes after `;`
pub record Reading : Type 0 where
  pub built : Built
  pub brackets : List Open
  pub choice : Bool
  pub repeat : Repeat
  pub quoted : Bool

-- where the parser stands
abbrev pub reading : Parser → Reading
reading p = record {
  built = built_by p.code.items;
  brackets = reverse p.brackets.items;
  choice = p.choice;
  repeat = p.repeat;
  quoted = p.quoted;
}

-- the part on top is repeated so often
abbrev pub repeat_step : Built → Repeat → Built
repeat_step b Once = b
repeat_step b Many = with_op b op.Many
repeat_step b (Times n) = with_op b (op.Times n)

-- what brackets do to the part inside
abbrev pub bracket_op : Bracket → Op
bracket_op bracket.Square = op.Optional
bracket_op bracket.Curly = op.Group

-- the part on top of the stack goes to the end of the sequence below it
abbrev pub part_finished : Reading → Reading
part_finished r = record {
  built = with_op (repeat_step r.built r.repeat) op.Sequence;
  brackets = r.brackets;
  choice = r.choice;
  repeat = Once;
  quoted = false;
}

-- one character of a text is a part
abbrev pub with_single_mark : Reading → Mark → Reading
with_single_mark r mark =
    part_finished
    (record {
      built = with_op r.built (op.One mark);
      brackets = r.brackets;
      choice = r.choice;
      repeat = r.repeat;
      quoted = r.quoted;
    })

-- the next part is not repeated
abbrev pub is_once : Repeat → Bool
is_once Once = true
is_once _ = false

-- the alternatives so far as one pattern
abbrev pub merged : Bool → Built → Built
merged choice b = if choice then with_op b op.Either else b

-- no bracket is open
abbrev pub is_empty_list : List Open → Bool
is_empty_list [] = true
is_empty_list (o ∷ os) = false

-- a bracket opens, where fewer than 8 are open
abbrev pub bracket_opened : Reading → Bracket → Option Reading
bracket_opened r b =
    if nat_lt (length r.brackets) 8
    then Some
    (record {
      built = with_op r.built op.Empty;
      brackets = (record { bracket = b; repeat = r.repeat; choice = r.choice }) ∷ r.brackets;
      choice = false;
      repeat = Once;
      quoted = false;
    })
    else None

-- the brackets are of one kind
abbrev pub is_same : Bracket → Bracket → Bool
is_same bracket.Square bracket.Square = true
is_same bracket.Curly bracket.Curly = true
is_same _ _ = false

-- a bracket closes the innermost one, where that is of its kind
abbrev pub closed_as : Reading → Bracket → List Open → Option Reading
closed_as r b [] = None
closed_as r b (o ∷ os) =
    if is_same b o.bracket
    then Some
    (part_finished
    (record {
      built = with_op (merged r.choice r.built) (bracket_op b);
      brackets = os;
      choice = o.choice;
      repeat = o.repeat;
      quoted = false;
    }))
    else None

-- and where no part is waited for
abbrev pub bracket_closed : Reading → Bracket → Option Reading
bracket_closed r b = if is_once r.repeat then closed_as r b r.brackets else None

-- a comma ends an alternative
abbrev pub divided : Reading → Option Reading
divided r =
    if is_once r.repeat
    then Some
    (record {
      built = with_op (merged r.choice r.built) op.Empty;
      brackets = r.brackets;
      choice = true;
      repeat = Once;
      quoted = false;
    })
    else None

-- a `*` waits for its part or its count
abbrev pub starred : Reading → Option Reading
starred r =
    if is_once r.repeat
    then Some
    (record {
      built = r.built;
      brackets = r.brackets;
      choice = r.choice;
      repeat = Many;
      quoted = false;
    })
    else None

-- a digit stands for itself, or counts after `*`, up to 120
abbrev pub counted_as : Reading → ℕ → Repeat → Option Reading
counted_as r d Once = Some (with_single_mark r (Literal (48 + d)))
counted_as r d Many =
    if nat_lt 0 d
    then Some
    (record {
      built = r.built;
      brackets = r.brackets;
      choice = r.choice;
      repeat = Times d;
      quoted = false;
    })
    else None
counted_as r d (Times n) =
    if nat_le (n * 10 + d) 120
    then Some
    (record {
      built = r.built;
      brackets = r.brackets;
      choice = r.choice;
      repeat = Times (n * 10 + d);
      quoted = false;
    })
    else None

-- after `;` any character stands for itself
abbrev pub quoted_next : Reading → Reading
quoted_next r = record {
  built = r.built;
  brackets = r.brackets;
  choice = r.choice;
  repeat = r.repeat;
  quoted = true;
}

-- what a character that isn't quoted adds
abbrev pub plain_step : Reading → ℕ → Option Reading
plain_step r c =
    if c == 35 then Some (with_single_mark r Digit)
    else if c == 63 then Some (with_single_mark r Letter)
    else if c == 38 then Some (with_single_mark r Capital)
    else if c == 64 then Some (with_single_mark r Any)
    else if c == 33 then Some (with_single_mark r NotLower)
    else if c == 59 then Some (quoted_next r)
    else if c == 42 then starred r
    else if c == 91 then bracket_opened r bracket.Square
    else if c == 123 then bracket_opened r bracket.Curly
    else if c == 93 then bracket_closed r bracket.Square
    else if c == 125 then bracket_closed r bracket.Curly
    else if c == 44 then divided r
    else if nat_le 48 c && nat_le c 57 then counted_as r (c - 48) r.repeat
    else Some (with_single_mark r (Literal c))

-- what a character adds
abbrev pub text_step : Reading → ℕ → Option Reading
text_step r c = if r.quoted then Some (with_single_mark r (Quoted c)) else plain_step r c

-- what characters add, one after the other
abbrev pub text_steps : Reading → List ℕ → Option Reading
text_steps r [] = Some r
text_steps r (c ∷ cs) = option_and_then (λ s. text_steps s cs) (text_step r c)

-- nothing read
abbrev pub nothing_parsed : Reading
nothing_parsed = record {
  built = built_by (op.Empty ∷ []);
  brackets = [];
  choice = false;
  repeat = Once;
  quoted = false;
}

-- how many patterns stand on the stack
abbrev pub tall : Bool → List Open → ℕ
tall choice [] = if choice then 2 else 1
tall choice (o ∷ os) = (if choice then 2 else 1) + tall o.choice os

-- the character was taken, and the parser stands after it, or there was no place for it
abbrev pub Took : Option Reading → Bool → Reading → Type 0
Took next true after = next ≡ Some after
Took next false after = next ≡ None

-- nothing is waited for
abbrev pub is_closed : Reading → Bool
is_closed r = is_empty_list r.brackets && is_once r.repeat && not r.quoted

-- the pattern that was read, where nothing is waited for
abbrev pub pattern_read : Reading → Option Pattern
pattern_read r = elim (is_closed r) [ true ↦ Some (top (merged r.choice r.built).stack) | false ↦ None ]

-- the pattern that a picture's text spells, or none where it is no picture's
abbrev pub picture_of : List ℕ → Option Pattern
picture_of text = option_and_then pattern_read (text_steps nothing_parsed text)
