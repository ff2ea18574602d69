-- The words of events, one after the other.
use Rattle.std.proofs.Common.{◌≡◌, ◌<◌, ◌+◌, ℕ, List, ◌++◌, Option, Some, add-one, ap, drop, drop-cons, get_or, length}
use Rattle.tv_event.specs.declared.event.Event.{Event}
use Rattle.tv_ways.specs.Wording.{next_words, words_after}

-- those of the events that are left: the next one's, and those of the rest
pub words_next : (separator : List ℕ) (events : List Event) (at : ℕ) (before : Option Event) (d : Event) → at < length events
    → words_after separator before (drop at events)
    ≡ next_words separator before (get_or events at d) ++ words_after separator (Some (get_or events at d)) (drop (at + 1) events)
words_next separator events at before d less = rw add-one (ap (words_after separator before) (drop-cons events at d less))
