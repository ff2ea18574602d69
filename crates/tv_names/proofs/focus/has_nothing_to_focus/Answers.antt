use Rattle.std.proofs.Common.{◌≡◌, Bool, Ok, Err, Result, ap, ◌∙◌}
use Rattle.std.specs.Result.{IfOk}
use Rattle.tv_model.specs.Faults.Rules.{has_nothing_to_focus}
use Rattle.tv_names.specs.Focus.{has_nothing_free}
use Rattle.tv_names.proofs.ReachLemmas.{nothing_free_is}
use Rattle.tv_names.proofs.focus.has_nothing_to_focus.Goals as goal

same : {E : Type 0} (p q : Bool) (r : Result Bool E) → p ≡ q → IfOk r (λ b. b ≡ p) → IfOk r (λ b. b ≡ q)
same p q (Ok b) e is = is ∙ e
same p q (Err x) e is = tt

pub returns : goal.returns
returns c =
    same _ (has_nothing_to_focus c.args.dialog.now) c.has_nothing_free.result
    (ap (has_nothing_free c.deref.result.now) c.as_slice.ensures ∙ nothing_free_is c.args.dialog.now c.deref.result.now (c.deref.ensures.value ∙ c.in_ok-reaches.ensures)) c.has_nothing_free.ensures
