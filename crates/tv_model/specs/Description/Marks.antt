-- Texts that mark a letter.
use Rattle.std.specs.Prelude.{ℕ, Bool, false, ◌&&◌, slice_get, Option, Some, None, option_and_then}
use Rattle.std.specs.Prelude.{option_map, ◌-◌, ◌==◌, nat_le, if◌then◌else◌}
use Rattle.std.specs.Option.{option_map_or}
use Rattle.tv_model.specs.declared.kind.MarkedText.{MarkedText}

-- an ASCII letter in upper case
abbrev pub upper : ℕ → ℕ
upper ch = if nat_le 97 ch && nat_le ch 122 then ch - 32 else ch

-- the letter that a text marks, in upper case
abbrev pub marked_letter : MarkedText → Option ℕ
marked_letter marked = option_map upper (option_and_then (slice_get marked.text) marked.mark)

-- whether it is this letter
abbrev pub is_option_letter : ℕ → Option ℕ → Bool
is_option_letter letter None = false
is_option_letter letter (Some other) = other == letter

-- whether the text marks the letter
abbrev pub marks : ℕ → MarkedText → Bool
marks letter text = is_option_letter letter (marked_letter text)

-- the text marks a letter, and one that passes the test
abbrev pub marks_any : (ℕ → Bool) → MarkedText → Bool
marks_any test text = option_map_or test (marked_letter text) false

-- the first text marks a letter, and the second marks it too
abbrev pub shares_letter : MarkedText → MarkedText → Bool
shares_letter text other = marked (marked_letter text)
  where
    marked : Option ℕ → Bool
    marked None = false
    marked (Some letter) = marks letter other
