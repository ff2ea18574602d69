use Rattle.std.proofs.Common.{◌≡◌, ◌&&◌, false, rules, sym, ap}
use Rattle.std.proofs.lemmas.Bool.{false_from_ne_true}
use Rattle.tv_model.specs.Kinds.InputLine.{HasAnyText}
use Rattle.tv_model.specs.Faults.Domains.{any_text, may_stand}
use Rattle.tv_model.proofs.DomainLemmas.{any_text_law}
use Rattle.tv_answers.proofs.field_values.may_stand.Goals as goal

pub returns-in-Err-BadPicture : goal.returns-in-Err-BadPicture
returns-in-Err-BadPicture c =
    let none : HasAnyText c.args.spec.now → ⊥ = search rules in
    let not : any_text c.args.spec.now ≡ false = false_from_ne_true (any_text c.args.spec.now) (λ e. none ((any_text_law c.args.spec.now).0 e)) in
    ap (λ b. b && may_stand c.args.text.now c.args.spec.now) (sym not)
