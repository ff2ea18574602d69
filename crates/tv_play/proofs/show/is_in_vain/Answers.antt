use Rattle.std.proofs.Common.{ap, not, sym, ◌&&◌, ◌∙◌}
use Rattle.tv_model.specs.Description.Numbers.{natural}
use Rattle.tv_play.specs.Refusals.{has_changed}
use Rattle.tv_play.proofs.RefusalLemmas.{says-changed}
use Rattle.tv_play.proofs.ShownLemmas.{keeps-in}
use Rattle.tv_play.proofs.show.is_in_vain.Goals as goal

pub returns-then-is_typed : goal.returns-then-is_typed
returns-then-is_typed g c = λ old new stands same taken keeps.
    says-changed old new taken (c.screen.ensures new stands) (keeps-in c.repainted.ensures keeps) (ap (λ d. natural d.width) same) (ap (λ d. natural d.height) same) c.shows.result c.shows.ensures
    ∙ sym (ap (λ b. b && not (has_changed old new)) (sym c.is_typed.ensures ∙ c.if-is_typed.true))
