-- The picture that a tree stands for.
use Rattle.tv_picture.specs.Pattern.{Pattern, empty, one, sequence, either, optional, group, many, times}
use Rattle.tv_picture.specs.declared.code.Mark.{Mark as Meant}
use Rattle.tv_picture.specs.declared.code.Mark.TheVariants as meant
use Rattle.tv_picture_tests.specs.declared.tree.Mark.{Mark}
use Rattle.tv_picture_tests.specs.declared.tree.Mark.TheVariants.{Digit, Letter, Capital, Any, NotLower}
use Rattle.tv_picture_tests.specs.declared.tree.Mark.TheVariants.{Literal, Quoted}
use Rattle.tv_picture_tests.specs.declared.tree.Tree.{Tree}
use Rattle.tv_picture_tests.specs.declared.tree.Tree.TheVariants.{Empty, One, Sequence', Either', Optional'}
use Rattle.tv_picture_tests.specs.declared.tree.Tree.TheVariants.{Group', Many', Times'}

-- what one character may be
abbrev pub mark_of : Mark → Meant
mark_of Digit = meant.Digit
mark_of Letter = meant.Letter
mark_of Capital = meant.Capital
mark_of Any = meant.Any
mark_of NotLower = meant.NotLower
mark_of (Literal c) = meant.Literal c
mark_of (Quoted c) = meant.Quoted c

-- the picture
abbrev pub pattern_of : Tree → Pattern
pattern_of Empty = empty
pattern_of (One mark) = one (mark_of mark)
pattern_of (Sequence' p a q b) = sequence (pattern_of a) (pattern_of b)
pattern_of (Either' p a q b) = either (pattern_of a) (pattern_of b)
pattern_of (Optional' p a) = optional (pattern_of a)
pattern_of (Group' p a) = group (pattern_of a)
pattern_of (Many' p a) = many (pattern_of a)
pattern_of (Times' n p a) = times n (pattern_of a)
