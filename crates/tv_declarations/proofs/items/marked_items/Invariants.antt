use Rattle.std.proofs.Common.{◌≡◌, [], drop}
use Rattle.tv_words.specs.Reading.Steps.{steps}
use Rattle.tv_declarations.specs.Reading.Clusters.{with_item}
use Rattle.tv_declarations.proofs.items.marked_items.Given as goal

abbrev pub invariant-loop-text : goal.invariant-loop-text
invariant-loop-text l = steps with_item l.items (drop l.text-index l.texts) ≡ steps with_item [] l.texts
