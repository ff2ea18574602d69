use Rattle.std.proofs.Common.{◌≡◌, ◌<◌, ◌≤◌, [], length, true, rules, subst, sym, arith}
use Rattle.std.proofs.lemmas.List.{nil_from_length}
use Rattle.tv_script.proofs.FeedLemmas.{match_map}
use Rattle.tv_script.proofs.StreamLemmas.{breaks_end, ends_ended, ends_last}
use Rattle.tv_script.specs.Reading.Streams.{Breaks}
use Rattle.tv_script.proofs.feed.Feed.finish.Goals as goal

pub returns-then-is_empty-clause-ended : goal.returns-then-is_empty-clause-ended
returns-then-is_empty-clause-ended g c = λ s from given fed.
    let feed = c.args.self.now in
    let none : feed.line.items ≡ [] = nil_from_length feed.line.items (search rules) in
    let few : length given ≤ 1048576 = omega (arith, fed.bytes, feed.few) in
    ends_ended s from _ _ fed.lines feed.line.items feed.items given none fed.parts few fed.whole fed.played

pub returns-else-is_empty-clause-ended : goal.returns-else-is_empty-clause-ended
returns-else-is_empty-clause-ended g c = λ s from given fed.
    let feed = c.args.self.now in
    let some : 0 < length feed.line.items = search rules in
    let few : length given ≤ 1048576 = omega (arith, fed.bytes, feed.few) in
    match_map c.end_line.result c.end_line.ensures.next c.end_line.ensures.kept
    (λ x next played. ends_last s from _ _ fed.lines feed.line.items c.end_line.new.self.items given some fed.parts few fed.whole fed.open_line played)
    (λ fault kept un. subst (λ n. Breaks s given true n from (g.W.Writer.seen c.end_line.new.pen.out.now) (g.S.Stage.stands c.end_line.new.stage) fault) (sym kept)
    (breaks_end s from _ _ fault fed.lines feed.line.items given feed.items some fed.parts few fed.whole fed.open_line un))
    (c.end_line.ensures.played s from fed.lines fed.screen fed.number fed.played)
