use Rattle.std.proofs.Common.{refl, subst}
use Rattle.tv_machine.specs.Run.{quiet}
use Rattle.tv_model.specs.declared.desc.Desc.{Desc}
use Rattle.tv_play.specs.Ends.{IsTakenFor, reached}
use Rattle.tv_play.specs.declared.ends.Step.TheVariants as steps
use Rattle.tv_play.proofs.ActionLemmas.{desc-reached}
use Rattle.tv_play.proofs.StepLemmas.{refreshes, stands-before, turns-told}
use Rattle.tv_play.proofs.player.Player.refresh.Goals as goal

pub returns-clause-acts : goal.returns-clause-acts
returns-clause-acts g c = λ s symbols next from playing read means.
    let action = c.args.action in
    let stands = stands-before s symbols next from _ _ playing in
    let taken : IsTakenFor s.desc action steps.Refresh =
    subst (λ (d : Desc). IsTakenFor d action steps.Refresh) (desc-reached s playing.actions) (c.requires.taken (quiet (reached s playing.actions)) stands) in
    record {
      turns = turns-told s next from _ _ c.outcome_of.ensures
          (refreshes s symbols next from _ _ playing action taken means (g.T.Writer.seen c.show_all.new.pen.out.now) c.show_all.new.monitor
          c.show_all.new.pen.stopped (c.show_all.ensures.again from.monitor.painter.colours s playing.actions action from.screen stands taken.1 c.size_in.ensures playing.shown) c.args.self.now.tape.stopped refl);
      read = λ none. read;
    }
