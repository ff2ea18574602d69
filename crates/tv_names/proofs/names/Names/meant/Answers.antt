use Rattle.std.proofs.Common.{sym, ap, subst, ◌∙◌}
use Rattle.std.specs.Option.{option_copied}
use Rattle.std.specs.Slice.{IsItemAt}
use Rattle.tv_names.proofs.FirstPlaceLemmas.{meant_nowhere, meant_there}
use Rattle.tv_names.proofs.names.Names.meant.Goals as goal

pub returns-in_err-place : goal.returns-in_err-place
returns-in_err-place c = ap option_copied c.from_residual.ensures ∙ sym (meant_nowhere c.args.self.now c.args.name.now c.in_err-place.ensures)

pub returns : goal.returns
returns c =
    meant_there c.args.self.now c.args.name.now c.in_ok-place.field-0 c.get.result c.in_ok-place.ensures
    (subst (λ views. IsItemAt views c.in_ok-place.field-0 c.get.result) c.self.view_is c.get.ensures.lookup)
