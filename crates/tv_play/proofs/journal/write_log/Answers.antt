use Rattle.std.proofs.Common.{ap, refl, rules, subst}
use Rattle.tv_io.proofs.PenLemmas.{Cuts-from_stopped, Takes-from_went_on}
use Rattle.tv_io.specs.Writer.{Cuts, Seen, Takes}
use Rattle.tv_model.specs.Log.LogText.{log_text}
use Rattle.tv_play.proofs.journal.write_log.Goals as goal

pub returns-then-pen-clause-text : goal.returns-then-pen-clause-text
returns-then-pen-clause-text g c = λ t stands.
    let puts = c.put_waiting_log.ensures.text t stands in
    subst (λ (x : Seen). Cuts (g.W.Writer.seen c.args.log.now) x (log_text t.desc t.state.log)) (ap g.W.Writer.seen (search (rules, puts.same))) (Cuts-from_stopped refl c.if-pen.true puts)

pub returns-clause-text : goal.returns-clause-text
returns-clause-text g c = λ t stands.
    let puts = c.put_waiting_log.ensures.text t stands in
    subst (λ (x : Seen). Takes (g.W.Writer.seen c.args.log.now) x (log_text t.desc t.state.log)) (ap g.W.Writer.seen (search (rules, puts.same))) (Takes-from_went_on c.if-pen.false puts)
