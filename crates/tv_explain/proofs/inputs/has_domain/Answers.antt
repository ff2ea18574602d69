use Rattle.tv_explain.proofs.DomainLemmas.{empty_asks, wrong_asks_none}
use Rattle.tv_explain.proofs.inputs.has_domain.Goals as goal

pub returns-in-Err-Empty : goal.returns-in-Err-Empty
returns-in-Err-Empty c = empty_asks c.args.spec.now _ c.in-Err-Empty.field-0-is c.in-Err-Empty.ensures.err

pub returns-in-Err-BadPicture : goal.returns-in-Err-BadPicture
returns-in-Err-BadPicture c = wrong_asks_none c.args.spec.now _ _ c.in-Err-BadPicture.field-0-is c.in-Err-BadPicture.ensures.err
