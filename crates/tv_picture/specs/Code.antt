-- A pattern as code for a machine with a stack: the parts first, then what joins them.
use Rattle.std.specs.Prelude.{◌≡◌, refl, ℕ, ◌+◌, ◌-◌, List, [], ◌∷◌, ◌++◌, Option, Some, None, if◌then◌else◌}
use Rattle.std.specs.Prelude.{nat_lt}
use Rattle.std.specs.Option.{option_and_then}
use Rattle.std.proofs.Common.{ap, ◌∙◌}
use Rattle.tv_picture.specs.declared.code.Op.{Op}
use Rattle.tv_picture.specs.declared.code.Op.TheVariants.{Empty, One, Sequence, Either, Optional, Group}
use Rattle.tv_picture.specs.declared.code.Op.TheVariants.{Many, Times}
use Rattle.tv_picture.specs.Pattern.{Pattern, empty, one, sequence, either, optional, group, many, times}

-- what an operation leaves of the stack of patterns
abbrev pub patterns_after : List Pattern → Op → List Pattern
patterns_after ps Empty = empty ∷ ps
patterns_after ps (One mark) = one mark ∷ ps
patterns_after (b ∷ a ∷ ps) Sequence = sequence a b ∷ ps
patterns_after (b ∷ a ∷ ps) Either = either a b ∷ ps
patterns_after (a ∷ ps) Optional = optional a ∷ ps
patterns_after (a ∷ ps) Group = group a ∷ ps
patterns_after (a ∷ ps) Many = many a ∷ ps
patterns_after (a ∷ ps) (Times n) = times n a ∷ ps
patterns_after ps _ = ps

-- what code leaves of the stack of patterns
abbrev pub run : List Pattern → List Op → List Pattern
run ps [] = ps
run ps (op ∷ ops) = run (patterns_after ps op) ops

-- the pattern on top of the stack
abbrev pub top : List Pattern → Pattern
top [] = empty
top (p ∷ ps) = p

-- the pattern that the code stands for
abbrev pub pattern_of : List Op → Pattern
pattern_of code = top (run [] code)

-- a pattern's code
abbrev pub code_of : Pattern → List Op
code_of empty = Empty ∷ []
code_of (one mark) = One mark ∷ []
code_of (sequence a b) = code_of a ++ code_of b ++ Sequence ∷ []
code_of (either a b) = code_of a ++ code_of b ++ Either ∷ []
code_of (optional a) = code_of a ++ Optional ∷ []
code_of (group a) = code_of a ++ Group ∷ []
code_of (many a) = code_of a ++ Many ∷ []
code_of (times n a) = code_of a ++ Times n ∷ []

-- the height of the stack after an operation, where it has the parts and there is room; the lowest pattern is
-- never repeated
abbrev pub height_after : ℕ → Op → Option ℕ
height_after h Empty = if nat_lt h 20 then Some (h + 1) else None
height_after h (One mark) = if nat_lt h 20 then Some (h + 1) else None
height_after h Sequence = if nat_lt 1 h then Some (h - 1) else None
height_after h Either = if nat_lt 1 h then Some (h - 1) else None
height_after h Optional = if nat_lt 0 h then Some h else None
height_after h Group = if nat_lt 0 h then Some h else None
height_after h Many = if nat_lt 1 h then Some h else None
height_after h (Times n) = if nat_lt 1 h then Some h else None

-- the height of the stack after code, where each operation finds its parts and room
abbrev pub height_from : ℕ → List Op → Option ℕ
height_from h [] = Some h
height_from h (op ∷ ops) = option_and_then (λ k. height_from k ops) (height_after h op)

-- a pattern's code stands for it
pub run-append : (xs ys : List Op) (ps : List Pattern) → run ps (xs ++ ys) ≡ run (run ps xs) ys
run-append [] ys ps = refl
run-append (x ∷ xs) ys ps = run-append xs ys (patterns_after ps x)

after : (xs ys : List Op) (ps qs : List Pattern) → run ps xs ≡ qs → run ps (xs ++ ys) ≡ run qs ys
after xs ys ps qs e = run-append xs ys ps ∙ ap (λ stack. run stack ys) e

pub run-code_of : (p : Pattern) (ps : List Pattern) → run ps (code_of p) ≡ p ∷ ps
run-code_of empty ps = refl
run-code_of (one mark) ps = refl
run-code_of (sequence a b) ps =
    after (code_of a ++ code_of b) (Sequence ∷ []) ps (b ∷ a ∷ ps)
    (after (code_of a) (code_of b) ps (a ∷ ps) (run-code_of a ps) ∙ run-code_of b (a ∷ ps))
run-code_of (either a b) ps =
    after (code_of a ++ code_of b) (Either ∷ []) ps (b ∷ a ∷ ps)
    (after (code_of a) (code_of b) ps (a ∷ ps) (run-code_of a ps) ∙ run-code_of b (a ∷ ps))
run-code_of (optional a) ps = after (code_of a) (Optional ∷ []) ps (a ∷ ps) (run-code_of a ps)
run-code_of (group a) ps = after (code_of a) (Group ∷ []) ps (a ∷ ps) (run-code_of a ps)
run-code_of (many a) ps = after (code_of a) (Many ∷ []) ps (a ∷ ps) (run-code_of a ps)
run-code_of (times n a) ps = after (code_of a) (Times n ∷ []) ps (a ∷ ps) (run-code_of a ps)

pub pattern_of-code_of : (p : Pattern) → pattern_of (code_of p) ≡ p
pattern_of-code_of p = ap top (run-code_of p [])
