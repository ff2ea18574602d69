use Rattle.std.proofs.Common.{ap, arith, length, min, refl, take, ◌-◌, ◌∙◌, ◌≡◌}
use Rattle.std.proofs.lemmas.List.{length-take}
use Rattle.tv_play.proofs.MonitorLemmas.{few-rows, note-written, roomless-unwritten, take-least, untold-unwritten}
use Rattle.tv_play.proofs.monitor.Monitor.write_note.Goals as goal

pub returns-in_default-clause-writes : goal.returns-in_default-clause-writes
returns-in_default-clause-writes g c = λ s stands is. untold-unwritten c.in_default.is

pub note-requires-clause-small : goal.note-requires-clause-small
note-requires-clause-small g c =
    let there = c.requires.there in
    let few = few-rows there.0.desc c.args.self.now.size c.args.self.now.painter.window there.2.window in (
      omega (arith, few, there.2.low, ap (λ w. w.rows) c.window-row.ensures),
      omega (arith, length-take c.min.result c.as_slice-text.result.now, c.as_slice-text.ensures.within, ap length c.as_slice-text.ensures.value),
    )

pub returns-then-row-size-clause-writes : goal.returns-then-row-size-clause-writes
returns-then-row-size-clause-writes g c = λ s stands is.
    let line = c.said_of-line.result in
    let room : c.saturating_sub-room.result ≡ c.in-Some.size.columns - 1 = c.saturating_sub-room.ensures in
    let cut : take c.min.result c.as_slice-text.result.now ≡ take (c.in-Some.size.columns - 1) line =
    ap (λ t. take c.min.result t) c.as_slice-text.ensures.value
    ∙ ap (λ k. take k line) (c.min.ensures ∙ ap (λ t. min (length t) c.saturating_sub-room.result) c.as_slice-text.ensures.value ∙ ap (min (length line)) room)
    ∙ take-least (c.in-Some.size.columns - 1) line in
    note-written s.desc c.args.refusal c.args.self.now _ c.in-Some.size c.window-row.result.rows line (take c.min.result c.as_slice-text.result.now) c.in-Some.is refl is
    (ap (λ w. w.rows) c.window-row.ensures) c.if-row-size.true cut (omega (arith, ap length cut, length-take (c.in-Some.size.columns - 1) line))
    (λ covers. c.said_of-line.ensures s stands (omega (arith, covers.across, is.width)) (omega (arith, covers.down, is.height))) c.note.ensures

pub returns-else-row-size-clause-writes : goal.returns-else-row-size-clause-writes
returns-else-row-size-clause-writes g c = λ s stands is.
    roomless-unwritten c.in-Some.size c.in-Some.is is.window (omega (arith, c.if-row-size.false, ap (λ w. w.rows) c.window-row.ensures))
