-- How much work a picture's tree is: more than its parts, and a repetition more than one repetition less.
use Rattle.std.proofs.Common.{ℕ, ◌+◌}
use Rattle.tv_picture_tests.specs.declared.tree.Tree.{Tree}
use Rattle.tv_picture_tests.specs.declared.tree.Tree.TheVariants.{Empty, One, Sequence', Either', Optional', Group', Many', Times'}

abbrev pub weight : Tree → ℕ
weight Empty = 0
weight (One mark) = 0
weight (Sequence' p a q b) = weight a + weight b + 2
weight (Either' p a q b) = weight a + weight b + 1
weight (Optional' p a) = weight a + 1
weight (Group' p a) = weight a + 1
weight (Many' p a) = weight a + 2
weight (Times' n p a) = weight a + n + 2
