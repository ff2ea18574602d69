use Rattle.std.proofs.Common.{false, ◌≡◌, ◌+◌, ◌++◌, ◌∷◌, [], get_or, take, drop, sym, ap, ◌∙◌, subst, append_assoc}
use Rattle.std.proofs.lemmas.List.{take_more, take-append-drop}
use Rattle.tv_script.proofs.FeedLemmas.{match_given}
use Rattle.tv_script.proofs.StreamLemmas.{breaks_wider}
use Rattle.tv_script.specs.Reading.Streams.{Breaks}
use Rattle.tv_script.proofs.feed.Feed.take_piece.Goals as goal

pub returns-in_err-take_byte-clause-fed : goal.returns-in_err-take_byte-clause-fed
returns-in_err-take_byte-clause-fed g c = λ s from given fed.
    let piece = c.args.piece.now in
    let i = c.loop-byte.byte-index in
    let fault = c.in_err-take_byte.field-0.0 in
    let here = given ++ take i piece in
    let now = g.W.Writer.seen c.take_byte.new.pen.out.now in
    let Left = g.S.Stage.stands c.take_byte.new.stage in
    let byte = get_or piece i 0 in
    let whole : (here ++ byte ∷ []) ++ drop (i + 1) piece ≡ given ++ piece =
    ap (λ x. x ++ drop (i + 1) piece) (append_assoc given (take i piece) (byte ∷ []) ∙ ap (λ x. given ++ x) (sym (take_more piece i 0 c.loop-byte-test.true)))
    ∙ append_assoc given (take (i + 1) piece) (drop (i + 1) piece) ∙ ap (λ x. given ++ x) (take-append-drop (i + 1) piece) in
    let broken = c.in_err-take_byte.ensures.fed s from here (c.loop-byte.invariant.fed s from given fed) in
    match_given _ _ fault
    (subst (λ x. Breaks s x false c.take_byte.new.self.items from now Left fault) whole (breaks_wider s from now Left fault (here ++ byte ∷ []) (drop (i + 1) piece) false c.take_byte.new.self.items broken))
    c.from_residual.result c.from_residual.ensures.1
