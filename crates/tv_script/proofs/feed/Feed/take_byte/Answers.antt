use Rattle.std.proofs.Common.{◌≡◌, ◌<◌, ◌++◌, ◌∷◌, [], length, false, rules, subst, sym, arith}
use Rattle.tv_script.proofs.FeedLemmas.{breaks_end_of_line, fed_end, match_map}
use Rattle.tv_script.proofs.StreamLemmas.{too_many}
use Rattle.tv_script.specs.Reading.Streams.{Breaks}
use Rattle.tv_script.proofs.feed.Feed.take_byte.Goals as goal

pub returns-then-self-eq-MOST_BYTES-clause-fed : goal.returns-then-self-eq-MOST_BYTES-clause-fed
returns-then-self-eq-MOST_BYTES-clause-fed g c = λ s from given fed.
    let full : length given ≡ 1048576 = search rules in
    too_many s from _ _ c.args.self.now given c.args.byte full fed

pub returns-then-byte-eq10-clause-fed : goal.returns-then-byte-eq10-clause-fed
returns-then-byte-eq10-clause-fed g c = λ s from given fed.
    let feed = c.args.self.now in
    let few : length given < 1048576 = search rules in
    let is : c.args.byte ≡ 10 = search rules in
    match_map c.end_line.result c.end_line.ensures.next c.end_line.ensures.kept
    (λ x next played. fed_end s from _ _ _ c.end_line.new.self given c.args.byte fed.lines (record { width = fed.screen.width; height = fed.screen.height }) is fed.parts fed.whole fed.open_line fed.number (omega (arith, fed.bytes)) next played)
    (λ fault kept un. subst (λ n. Breaks s (given ++ c.args.byte ∷ []) false n from (g.W.Writer.seen c.end_line.new.pen.out.now) (g.S.Stage.stands c.end_line.new.stage) fault) (sym kept)
    (breaks_end_of_line s from _ _ feed.line.items given c.args.byte feed.items fed.lines fault is fed.parts few fed.whole fed.open_line un))
    (c.end_line.ensures.played s from fed.lines (record { width = fed.screen.width; height = fed.screen.height }) fed.number fed.played)
