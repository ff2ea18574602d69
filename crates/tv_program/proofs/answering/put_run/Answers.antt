use Rattle.std.proofs.Common.{◌≡◌, subst, sym, ap, ◌∙◌, is_some}
use Rattle.tv_machine.specs.Run.{commanded, quiet, started}
use Rattle.tv_program.proofs.AnswerLemmas.{outcome-EndsBy}
use Rattle.tv_program.proofs.AnsweredLemmas.{is_some-map}
use Rattle.tv_program.specs.AnswerRuns.{EndsBy, run_of}
use Rattle.tv_program.proofs.answering.put_run.Goals as goal

pub put_end-allowed-requires : goal.put_end-allowed-requires
put_end-allowed-requires g c = (started c.args.run.session.checked, c.requires.stands)

pub returns-clause-text : goal.returns-clause-text
returns-clause-text g c = c.put_end-allowed.ensures.text (started c.args.run.session.checked) c.requires.stands

pub returns-clause-comes : goal.returns-clause-comes
returns-clause-comes g c =
    let s = started c.args.run.session.checked in
    let ended = quiet (commanded (quiet s) c.args.run.ending.command) in
    let stands = c.put_end-allowed.ensures.stands s c.requires.stands in
    let focus = ap is_some (c.focus.ensures ended stands) ∙ is_some-map (λ o. o.focus) ended.state.dialog in
    subst (EndsBy (run_of c.args.run) _) (sym c.outcome.ensures)
    (outcome-EndsBy (run_of c.args.run) c.put_end-allowed.result c.is_some-is_open.result _ (sym (c.put_end-allowed.ensures.taken s c.requires.stands)) (sym (c.is_some-is_open.ensures ∙ focus)))
