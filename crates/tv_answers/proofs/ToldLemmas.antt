-- Lines of a log that answer nothing, and logs that have no others before an end.
use Rattle.std.proofs.Common.{◌⊎◌, inl, inr, List, [], ◌∷◌, ◌++◌, pos, All}
use Rattle.std.proofs.lemmas.List.Elements.{All-cons, All-head, All-nil, All-tail}
use Rattle.tv_model.specs.declared.desc.Desc.{Desc}
use Rattle.tv_model.specs.declared.log.LogLine.{LogLine}
use Rattle.tv_model.specs.declared.log.LogLine.TheVariants as lines
use Rattle.tv_model.specs.declared.node.Id.{Id}
use Rattle.tv_laws.specs.Records.{IsNoEnd}
use Rattle.tv_words.specs.Fields.{IsName, IsNumber}
use Rattle.tv_answers.proofs.LogReadLemmas.{logged_name}

-- a log has a name of the node of the id
abbrev pub IsNamed : Desc → Id → Type 0
IsNamed d i = IsName (logged_name d i)

-- a line that answers nothing, with names and numbers that can be read
abbrev pub IsTold : Desc → LogLine → Type 0
IsTold d (lines.Open i) = IsNamed d i
IsTold d (lines.Focus i) = IsNamed d i
IsTold d (lines.Press i) = IsNamed d i
IsTold d (lines.Invalid i) = IsNamed d i
IsTold d (lines.Close i) = IsNamed d i
IsTold d lines.Quit = Unit {0}
IsTold d (lines.Command number) = IsNumber (pos number)
IsTold d (lines.Moved i p) = IsNamed d i × IsNumber p.x × IsNumber p.y
IsTold d (lines.End i command) = ⊥
IsTold d (lines.Field i value) = ⊥

abbrev pub IsEndLine : LogLine → Type 0
IsEndLine (lines.End i command) = Unit {0}
IsEndLine _ = ⊥

-- no other line stands before the first end
abbrev pub IsClean : Desc → List LogLine → Type 0
IsClean d [] = Unit {0}
IsClean d (line ∷ rest) = IsEndLine line ⊎ (IsTold d line × IsClean d rest)

pub clean_append : (d : Desc) (xs ys : List LogLine) → IsClean d xs → IsClean d ys → IsClean d (xs ++ ys)
clean_append d [] ys before after = after
clean_append d (x ∷ xs) ys (inl ends) after = inl ends
clean_append d (x ∷ xs) ys (inr told) after = inr (told.0, clean_append d xs ys told.1 after)

pub clean_line : (d : Desc) (log : List LogLine) (line : LogLine) → IsTold d line → IsClean d log → IsClean d (log ++ line ∷ [])
clean_line d log line told before = clean_append d log (line ∷ []) before (inr (told, tt))

no_end : (line : LogLine) → IsNoEnd line → IsEndLine line → ⊥
no_end (lines.End i command) none ends = absurd none
no_end _ none ends = absurd ends

-- what stands before the first end
pub told_before : (d : Desc) (before last : List LogLine) → All IsNoEnd before → IsClean d (before ++ last) → All (IsTold d) before
told_before d [] last endless clean = All-nil (IsTold d)
told_before d (line ∷ before) last endless (inl ends) = absurd (no_end line (All-head IsNoEnd line before endless) ends)
told_before d (line ∷ before) last endless (inr told) = All-cons (IsTold d) line before told.0 (told_before d before last (All-tail IsNoEnd line before endless) told.1)
