-- What a text is judged as: the items of its lines before the first that is faulty, and why it is left there.
use Rattle.std.specs.Prelude.{ℕ, ℤ, ◌+◌, List, [], ◌∷◌, Bool, true, false, length, nat_le, take}
use Rattle.std.specs.Prelude.{Result, Ok, Err, if◌then◌else◌}
use Rattle.tv_machine.specs.declared.script.Item.{Item}
use Rattle.tv_script.specs.declared.script_text.ScriptFault.{ScriptFault}
use Rattle.tv_script.specs.declared.script_text.ScriptFault.TheVariants.{TooLong}
use Rattle.tv_script.specs.Lines.{ends_line}
use Rattle.tv_script.specs.Reading.Scripts.{with_bytes}
use Rattle.tv_words.specs.Lines.{lines_of}

-- the items that are performed of a text, and why it is left after them, or that it comes to its end
pub record Judgement : Type 0 where
  pub items : List Item
  pub answer : Result (Unit {0}) ScriptFault

abbrev pub judgement : List Item → Result (Unit {0}) ScriptFault → Judgement
judgement items answer = record { items = items; answer = answer }

-- ---- lines

-- lines from the one with the number n on, after these items: each adds its own, up to one that is faulty
abbrev pub judged_from : (width height : ℤ) → (n : ℕ) → List Item → List (List ℕ) → Judgement
judged_from width height n items [] = judgement items (Ok tt)
judged_from width height n items (line ∷ lines) =
    elim (with_bytes width height n items line) as (λ _. Judgement) [
      | Err fault ↦ judgement items (Err fault)
      | Ok longer ↦ judged_from width height (n + 1) longer lines
    ]

abbrev pub judged_lines : (width height : ℤ) → List (List ℕ) → Judgement
judged_lines width height lines = judged_from width height 1 [] lines

-- ---- texts

-- a byte before others: a line end stays, and what stands before one
abbrev pub before_end : ℕ → List ℕ → List ℕ
before_end c [] = if ends_line c then c ∷ [] else []
before_end c (d ∷ ds) = c ∷ d ∷ ds

-- the bytes up to the last line end
abbrev pub up_to_last_end : List ℕ → List ℕ
up_to_last_end [] = []
up_to_last_end (c ∷ cs) = before_end c (up_to_last_end cs)

-- whether a text has no more bytes than a script may have
abbrev pub is_short : List ℕ → Bool
is_short text = nat_le (length text) 1048576

-- the part of a text that is judged line by line: the whole, or of one that is too long the lines that end
-- among the bytes of a script
abbrev pub judged_part : List ℕ → List ℕ
judged_part text = if is_short text then text else up_to_last_end (take 1048576 text)

-- why a text is left whose part has no faulty line: by its length, if at all
abbrev pub answer_by_length : (short : Bool) → Result (Unit {0}) ScriptFault → Result (Unit {0}) ScriptFault
answer_by_length short (Err fault) = Err fault
answer_by_length true (Ok _) = Ok tt
answer_by_length false (Ok _) = Err TooLong

-- the judgement of a text, by its length and that of its part
abbrev pub judged_by_length : (short : Bool) → Judgement → Judgement
judged_by_length short part = judgement part.items (answer_by_length short part.answer)

-- a text, for a screen of so many columns and rows
abbrev pub judged_as : (width height : ℤ) → List ℕ → Judgement
judged_as width height text =
    judged_by_length (is_short text) (judged_lines width height (lines_of (judged_part text)))

-- the same of a text that is read whole before any of it is performed: its length is looked at first
abbrev pub judged_whole : (width height : ℤ) → List ℕ → Judgement
judged_whole width height text =
    if is_short text then judged_lines width height (lines_of text) else judgement [] (Err TooLong)
