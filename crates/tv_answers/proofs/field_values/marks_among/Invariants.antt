use Rattle.std.proofs.Common.{◌≡◌, drop}
use Rattle.tv_words.specs.Reading.Steps.{steps}
use Rattle.tv_answers.specs.FieldValues.{marks_among, with_marked}
use Rattle.tv_answers.proofs.field_values.marks_among.Given as goal

-- the words that are left
abbrev pub invariant-loop-word : goal.invariant-loop-word
invariant-loop-word l = steps (with_marked l.count) l.marks (drop l.word-index l.words) ≡ marks_among l.count l.words
