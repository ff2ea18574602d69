use Rattle.std.proofs.Common.{ap, false, is_some, refl, sym, true, ◌∙◌}
use Rattle.std.proofs.lemmas.Bool.{true≢false}
use Rattle.tv_event.specs.declared.event.Event.TheVariants as events
use Rattle.tv_machine.specs.Session.Desktop.{window_under}
use Rattle.tv_machine.specs.Session.Left.{is_window_down}
use Rattle.tv_menu.specs.Bar.{bar_offer}
use Rattle.tv_session.specs.Leaving.{is_taken}
use Rattle.tv_session.proofs.LeavingLemmas.{down-taken}
use Rattle.tv_session.proofs.run.RunOf.takes_down.Goals as goal
use Rattle.tv_session.proofs.run.RunOf.takes_down.Goals.{else-is_taken, then-is_taken}

pub returns-then-takes : goal.returns-then-takes
returns-then-takes g c = λ d s r shut line.
    let p = c.args.point in
    let by_line = c.is_taken.ensures ∙ ap is_taken (c.offer.ensures d s line (record { each = c.commands.ensures d s r.dialogs })) in
    let windowed = is_window_down d s.windows (window_under d s p) p in
    c.if-takes.true
    ∙ elim c.if-is_taken.branch [
      | then-is_taken w ↦ down-taken d s p true (is_some (bar_offer d (events.Down p) s)) windowed shut (sym w.if-is_taken.true ∙ by_line) refl refl
      | else-is_taken w ↦
          down-taken d s p false true windowed shut (sym w.if-is_taken.false ∙ by_line) (sym c.if-takes.true ∙ w.value-is ∙ w.takes.ensures d s r.bar r.menu) refl
    ]

pub returns-else-takes : goal.returns-else-takes
returns-else-takes g c = λ d s r shut line.
    let p = c.args.point in
    let by_line = c.is_taken.ensures ∙ ap is_taken (c.offer.ensures d s line (record { each = c.commands.ensures d s r.dialogs })) in
    elim c.if-is_taken.branch [
      | then-is_taken w ↦ absurd (true≢false (sym w.if-is_taken.true ∙ sym w.value-is ∙ c.if-takes.false))
      | else-is_taken w ↦
          down-taken d s p false false c.takes_down.result shut (sym w.if-is_taken.false ∙ by_line) (sym c.if-takes.false ∙ w.value-is ∙ w.takes.ensures d s r.bar r.menu)
          (c.takes_down.ensures d s r.desk)
    ]
