use Rattle.tv_model.specs.declared.desc.Desc.{Desc}
use Rattle.tv_check.proofs.FirstLemmas.{sound_accepted}
use Rattle.tv_check.proofs.acceptance.accept.Goals as goal

pub returns-in-Err-clause-only : goal.returns-in-Err-clause-only
returns-in-Err-clause-only c = λ sound certified. sound_accepted Desc c.args.desc c.args.certificate.now c.in-Err.refusal c.args.desc c.in-Err.ensures.no sound certified
