use Rattle.std.proofs.Common.{ap, ◌∙◌}
use Rattle.tv_event.specs.declared.event.Event.TheVariants as events
use Rattle.tv_dialog.specs.Settling.{turned}
use Rattle.tv_dialog.proofs.DamageLemmas.{body-then}
use Rattle.tv_dialog.proofs.SettleLemmas.{posted-few, settled-none, settles}
use Rattle.tv_dialog.proofs.dialog.DialogOf.settle.Goals as goal

pub turn_next-requires-2 : goal.turn_next-requires-2
turn_next-requires-2 g c = posted-few c.turn_next.new.self.pending c.turn_next.ensures.posted

pub returns-clause-pending : goal.returns-clause-pending
returns-clause-pending g c =
    settled-none c.turn_next.new.self.pending c.turn_next-2.new.self.pending c.turn_next.ensures.posted
    (λ none. ap (λ x. x.pending) (c.turn_next-2.ensures.rests none) ∙ none) c.turn_next-2.ensures.last

pub returns-clause-stands : goal.returns-clause-stands
returns-clause-stands g c d m e lawful views ready waits s =
    settles g.V.View.meaning d (turned d e m) c.turn_next.new.self c.turn_next-2.new.self (c.turn_next.ensures.stands d m e lawful views ready waits s)
    (settled-none c.turn_next.new.self.pending c.turn_next-2.new.self.pending c.turn_next.ensures.posted
    (λ none. ap (λ x. x.pending) (c.turn_next-2.ensures.rests none) ∙ none) c.turn_next-2.ensures.last)
    c.turn_next-2.ensures.rests
    (λ n k short is now. c.turn_next-2.ensures.stands d n (events.Command k) lawful views short is now)

pub returns-clause-rests : goal.returns-clause-rests
returns-clause-rests g c none =
    c.turn_next-2.ensures.rests (ap (λ x. x.pending) (c.turn_next.ensures.rests none) ∙ none) ∙ c.turn_next.ensures.rests none

pub returns-clause-drawn : goal.returns-clause-drawn
returns-clause-drawn g c =
    body-then g.V.View.meaning c.args.self.now c.turn_next.new.self c.turn_next-2.new.self c.turn_next.ensures.drawn c.turn_next-2.ensures.drawn
