use Rattle.tv_session.proofs.session.SessionOf.is_over.Goals as goal

pub returns : goal.returns
returns g c = λ s r. r.run.over
