use Rattle.std.proofs.Common.{sym, subst}
use Rattle.tv_valid.specs.Domain.{RefusesDomain}
use Rattle.tv_reach.proofs.OutsideLemmas.{empty_outside, wrong_outside}
use Rattle.tv_reach.proofs.case.starts_outside.Goals as goal

pub returns-in-Err-BadPicture : goal.returns-in-Err-BadPicture
returns-in-Err-BadPicture c =
    let input = c.args.input.now in
    sym
    (wrong_outside input.spec c.in-Err-BadPicture.field-0-0
    (subst (RefusesDomain input.spec) c.in-Err-BadPicture.field-0-is (c.in-Err-BadPicture.ensures {u = tt}).err) input.start)

pub returns-in-Err-Empty : goal.returns-in-Err-Empty
returns-in-Err-Empty c =
    let input = c.args.input.now in
    sym
    (empty_outside input.spec (subst (RefusesDomain input.spec) c.in-Err-Empty.field-0-is (c.in-Err-Empty.ensures {u = tt}).err) input.start)
