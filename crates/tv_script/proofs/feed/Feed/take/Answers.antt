use Rattle.std.proofs.Common.{◌≡◌, ◌<◌, [], length, rules}
use Rattle.std.proofs.lemmas.List.{nil_from_length}
use Rattle.tv_script.proofs.FeedLemmas.{taken_end, taken_piece}
use Rattle.tv_script.proofs.feed.Feed.take.Goals as goal

pub returns-then-is_empty-clause-taken : goal.returns-then-is_empty-clause-taken
returns-then-is_empty-clause-taken g c = λ s from given fed.
    let none : c.args.piece.now ≡ [] = nil_from_length c.args.piece.now (search rules) in
    taken_end s c.finish.new.self given from _ _ c.args.piece.now none c.finish.result (c.finish.ensures.ended s from given fed)

pub returns-else-is_empty-clause-taken : goal.returns-else-is_empty-clause-taken
returns-else-is_empty-clause-taken g c = λ s from given fed.
    let some : 0 < length c.args.piece.now = search rules in
    taken_piece s c.take_piece.new.self given from _ _ c.args.piece.now some c.take_piece.result (c.take_piece.ensures.fed s from given fed)
