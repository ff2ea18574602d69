use Rattle.std.proofs.Common.{◌≡◌, ◌∙◌, List, ℕ, inl, inr, subst, sym}
use Rattle.tv_machine.specs.Run.{started}
use Rattle.tv_model.specs.declared.desc.Desc.{Desc}
use Rattle.tv_program.specs.Answering.{RefusesRun, begun_text}
use Rattle.tv_program.specs.Playing.{IsMismade, IsNoStart, Makes, RefusesDesc}
use Rattle.tv_program.specs.Reading.{IsSoundText}
use Rattle.tv_program.specs.declared.run_fault.RunFault.TheVariants.{NoMemory}
use Rattle.tv_program.proofs.AnsweredLemmas.{IfErr-more, IfErr-told, IfOk-more}
use Rattle.tv_session.specs.Session.{StandsFor}
use Rattle.tv_program.proofs.answering.begin_run.Goals as goal

pub returns-in_err-text-clause-fault : goal.returns-in_err-text-clause-fault
returns-in_err-text-clause-fault g c =
    let text = begun_text c.args.desc.now c.args.dialog.now in
    IfErr-told (RefusesRun (IsMismade (Makes g.F.Fn c.args.make.now) g.V.View.meaning) text) NoMemory (inl tt) c.from_residual.result c.from_residual.ensures.1

pub returns-in_err-checked-clause-fault : goal.returns-in_err-checked-clause-fault
returns-in_err-checked-clause-fault g c =
    let text = begun_text c.args.desc.now c.args.dialog.now in
    let whole : c.as_bytes.result.now ≡ text = c.as_bytes.ensures.value ∙ c.in_ok-text.ensures.text in
    IfErr-told (RefusesRun (IsMismade (Makes g.F.Fn c.args.make.now) g.V.View.meaning) text)
    c.in_err-checked.field-0.0 (inl (subst (λ (t : List ℕ). RefusesDesc t c.in_err-checked.field-0.0) whole c.in_err-checked.ensures.fault))
    c.from_residual-in_err-checked.result c.from_residual-in_err-checked.ensures.1

pub returns-clause-sound : goal.returns-clause-sound
returns-clause-sound g c =
    let look = g.V.View.meaning in
    let text = begun_text c.args.desc.now c.args.dialog.now in
    let whole : c.as_bytes.result.now ≡ text = c.as_bytes.ensures.value ∙ c.in_ok-text.ensures.text in
    let sound = subst (λ (t : List ℕ). IsSoundText t c.in_ok-checked.checked) whole c.in_ok-checked.ensures.sound in
    IfOk-more (λ session. StandsFor look session (started c.in_ok-checked.checked)) (λ session. IsSoundText text session.checked) c.begin.result
    (λ session stands. subst (λ (e : Desc). IsSoundText text e) (sym stands.desc) sound) c.begin.ensures.start

pub returns-clause-start : goal.returns-clause-start
returns-clause-start g c =
    let look = g.V.View.meaning in
    IfOk-more (λ session. StandsFor look session (started c.in_ok-checked.checked)) (λ session. StandsFor look session (started session.checked)) c.begin.result
    (λ session stands. subst (λ (e : Desc). StandsFor look session (started e)) (sym stands.desc) stands) c.begin.ensures.start

pub returns-clause-fault : goal.returns-clause-fault
returns-clause-fault g c =
    let Mismade = IsMismade (Makes g.F.Fn c.args.make.now) g.V.View.meaning in
    let text = begun_text c.args.desc.now c.args.dialog.now in
    let whole : c.as_bytes.result.now ≡ text = c.as_bytes.ensures.value ∙ c.in_ok-text.ensures.text in
    let sound = subst (λ (t : List ℕ). IsSoundText t c.in_ok-checked.checked) whole c.in_ok-checked.ensures.sound in
    IfErr-more (IsNoStart Mismade c.in_ok-checked.checked) (RefusesRun Mismade text) c.begin.result
    (λ fault no. inr (c.in_ok-checked.checked, sound, no)) c.begin.ensures.fault
