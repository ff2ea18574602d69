use Rattle.tv_session.proofs.session.SessionOf.record.Goals as goal

pub returns : goal.returns
returns g c = λ s r. c.record.ensures s.desc s.state r.run.dialogs
