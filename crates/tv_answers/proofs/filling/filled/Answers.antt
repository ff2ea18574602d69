use Rattle.std.proofs.Common.{◌≡◌, ◌∙◌, sym, ap, subst}
use Rattle.std.proofs.lemmas.Result.{IfOk-weaker}
use Rattle.tv_lang.specs.CanonicalDescription.{CanBeSpelled}
use Rattle.tv_answers.specs.Filling.{HaveSpelledValues, filled, filled_dialogs}
use Rattle.tv_answers.proofs.SpelledLemmas.{spelled_filled}
use Rattle.tv_answers.proofs.filling.filled.Goals as goal

pub returns-clause-spelled : goal.returns-clause-spelled
returns-clause-spelled c =
    let d = c.args.desc in
    let a = c.args.answers.now in
    IfOk-weaker c.begun.result (λ begun. begun ≡ record d { dialogs = filled_dialogs d.dialogs c.as_slice.result.now })
    (λ begun. HaveSpelledValues a → CanBeSpelled d → CanBeSpelled begun)
    (λ begun e has can.
    let same : begun ≡ filled d a = e ∙ ap (λ answers. record d { dialogs = filled_dialogs d.dialogs answers }) c.as_slice.ensures in
    subst CanBeSpelled (sym same) (spelled_filled d a has can))
    c.begun.ensures
