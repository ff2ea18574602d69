use Rattle.std.proofs.Common.{◌≡◌, ℕ, List, None, ◌++◌, drop}
use Rattle.tv_io.specs.Pen.{Puts}
use Rattle.tv_ways.specs.Wording.{words_after}
use Rattle.tv_ways.proofs.wording.put_each.Given as goal

-- the words so far, and those of the events that are left
abbrev pub invariant-loop-event : goal.invariant-loop-event
invariant-loop-event g l =
    (done : List ℕ) × Puts g.W.Writer.seen l.fn.pen l.pen done
    × (done ++ words_after l.separator l.before (drop l.event-index l.events) ≡ words_after l.separator None l.events)
