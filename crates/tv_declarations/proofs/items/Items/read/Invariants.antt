use Rattle.std.proofs.Common.{◌≡◌, drop}
use Rattle.tv_words.specs.Reading.Steps.{steps}
use Rattle.tv_declarations.specs.Reading.Clusters.{item_taken, items_in}
use Rattle.tv_declarations.proofs.items.Items.read.Given as goal

abbrev pub invariant-loop-word : goal.invariant-loop-word
invariant-loop-word l = steps item_taken l.items (drop l.word-index l.words) ≡ items_in l.words
