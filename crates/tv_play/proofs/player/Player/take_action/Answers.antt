use Rattle.std.proofs.Common.{◌≡◌, ◌∷◌, [], ◌++◌, true, subst, ap, ◌∙◌}
use Rattle.tv_play.specs.Ends.{is_leaving}
use Rattle.tv_play.proofs.StepLemmas.{desc-before, leaves}
use Rattle.tv_play.proofs.player.Player.take_action.Goals as goal
use Rattle.tv_terminal.specs.Decoding.{decode}

pub returns-in-Leave-clause-acts : goal.returns-in-Leave-clause-acts
returns-in-Leave-clause-acts g c = λ s symbols next from playing read means.
    let same = desc-before s symbols next from _ _ playing c.desc.result.now c.desc.ensures in
    record {
      turns = leaves s symbols next from _ _ playing c.args.action (subst (λ d. is_leaving d c.args.action ≡ true) same c.in-Leave.ensures) means;
      read = λ none. absurd cc;
    }

pub returns-in-Perform-clause-acts : goal.returns-in-Perform-clause-acts
returns-in-Perform-clause-acts g c = λ s symbols next from playing read means.
    c.act.ensures.acts s symbols next from playing read (means ∙ ap (λ a. decode symbols ++ a ∷ []) c.in-Perform.ensures.0)
