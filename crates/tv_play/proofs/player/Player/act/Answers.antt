use Rattle.std.proofs.Common.{◌≡◌, refl, ap, subst, sym, ◌∙◌}
use Rattle.tv_machine.specs.Output.{after}
use Rattle.tv_machine.specs.Run.{quiet, stepped}
use Rattle.tv_model.specs.declared.desc.Desc.{Desc}
use Rattle.tv_play.specs.Edge.{brought}
use Rattle.tv_play.specs.Ends.{IsTakenFor, events_in, reached, script_of}
use Rattle.tv_play.specs.declared.ends.Step.TheVariants as steps
use Rattle.tv_play.specs.Steps.{outside}
use Rattle.tv_play.proofs.EdgeLemmas.{brought-placed}
use Rattle.tv_play.proofs.ActionLemmas.{desc-reached}
use Rattle.tv_play.proofs.SessionLemmas.{logged-event}
use Rattle.tv_play.proofs.StepLemmas.{desc-before, going-both, keeps-loud, size-quiet, size-stepped, stands-before, turns, turns-told}
use Rattle.tv_play.proofs.player.Player.act.Goals as goal
use Rattle.tv_terminal.specs.Points.{IsPlaced}
use Rattle.tv_terminal.specs.declared.action.Action.TheVariants.{Event}

pub react-requires-clause-near : goal.react-requires-clause-near
react-requires-clause-near g c = subst IsPlaced (sym c.brought-event.ensures) (brought-placed c.desc.result.now c.args.told.now c.requires.sent)

pub react-requires-clause-there : goal.react-requires-clause-there
react-requires-clause-there g c = (c.requires.ready.staged.session, c.requires.ready.staged.here)

pub repaint-requires : goal.repaint-requires
repaint-requires g c =
    let staged = c.requires.ready.staged in
    let e = c.brought-event.result in
    record { there = (stepped staged.session e, c.react.ensures.stands staged.session staged.here, size-stepped staged.session e c.args.self.now.monitor.now staged.size) }

pub returns-clause-kept : goal.returns-clause-kept
returns-clause-kept g c =
    let staged = c.requires.ready.staged in
    let e = c.brought-event.result in
    let u = stepped staged.session e in
    record {
      same = record { stage = refl; screen = c.repaint.ensures.same; log = refl; tape = c.put_event_line.ensures.same };
      staged = record {
        session = quiet u;
        here = c.write_log-written.ensures.taken u (c.react.ensures.stands staged.session staged.here);
        size = size-quiet u c.repaint.new.monitor (c.repaint.ensures.size u (size-stepped staged.session e c.args.self.now.monitor.now staged.size));
      };
      going = λ none. (going-both c.is_finished-is_finished.result c.write_log-written.result c.repaint.new.pen.stopped c.put_event_line.new.pen.stopped (sym c.outcome_of.ensures ∙ none)).0;
      whole = λ none. (going-both c.is_finished-is_finished.result c.write_log-written.result c.repaint.new.pen.stopped c.put_event_line.new.pen.stopped (sym c.outcome_of.ensures ∙ none)).1;
    }

pub returns-clause-acts : goal.returns-clause-acts
returns-clause-acts g c = λ s symbols next from playing read means.
    let told = c.args.told.now in
    let e = c.brought-event.result in
    let tape = c.put_event_line.new.pen in
    let now = outside (g.W.Writer.seen c.write_log-written.new.log) (g.T.Writer.seen c.repaint.new.pen.out.now) (g.R.Writer.seen tape.out.now) c.repaint.new.pen.stopped tape.stopped c.repaint.new.monitor in
    let New = g.L.Stage.stands c.write_log-written.new.stage in
    let here = quiet (reached s playing.actions) in
    let so_far = after s (script_of s.desc playing.actions) in
    let comes : e ≡ brought s.desc told = c.brought-event.ensures ∙ ap (λ (d : Desc). brought d told) (desc-before s symbols next from _ _ playing c.desc.result.now c.desc.ensures) in
    let taken : IsTakenFor s.desc (Event told) (steps.Perform told) = subst (λ (d : Desc). IsTakenFor d (Event told) (steps.Perform told)) (desc-reached s playing.actions) (c.requires.taken here (stands-before s symbols next from _ _ playing)) in
    record {
      turns = turns-told s next from now New c.outcome_of.ensures
          (turns s symbols next from _ _ playing now New told e comes taken means
          (λ t stands. c.write_log-written.ensures.taken (stepped t e) (c.react.ensures.stands t stands))
          (λ colours actions first stands shown.
          c.repaint.ensures.shown colours s actions told first taken.2 comes
          (c.react.ensures.stands (quiet (reached s actions)) stands)
          (keeps-loud (reached s actions) e (c.react.ensures.rest (quiet (reached s actions)) stands)) shown)
          c.put_event_line.ensures.how
          c.is_finished-is_finished.result (λ t stands. c.is_finished-is_finished.ensures (stepped t e) (c.react.ensures.stands t stands)) c.write_log-written.result c.repaint.new.pen.stopped tape.stopped refl refl
          (logged-event from.log _ _ s (events_in s.desc playing.actions) e c.write_log-written.result playing.performs.written
          (c.write_log-written.ensures.text (stepped so_far e) (c.react.ensures.stands so_far playing.performs.left))));
      read = λ none. read;
    }
