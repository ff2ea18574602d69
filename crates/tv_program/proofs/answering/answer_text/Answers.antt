use Rattle.std.proofs.Common.{◌≡◌, ◌∙◌, List, ap, refl, sym}
use Rattle.std.specs.List.{filter_map, zip}
use Rattle.tv_answers.specs.declared.answers.Answer.{Answer}
use Rattle.tv_model.specs.declared.desc.Dialog.{Dialog}
use Rattle.tv_program.specs.Answering.{IsFitLog, ending_of, endings_of}
use Rattle.tv_program.specs.AnswerRuns.{runs_of}
use Rattle.tv_program.specs.Playing.{IsMismade, Makes}
use Rattle.tv_program.proofs.AnsweredLemmas.{ends-AnswersTo, none-is, same-some, some-counted, unbegun-AnswersTo}
use Rattle.tv_program.proofs.answering.answer_text.Goals as goal

pub returns-in_err-runs : goal.returns-in_err-runs
returns-in_err-runs g c =
    let Mismade = IsMismade (Makes g.F.Fn c.args.make.now) g.V.View.meaning in
    let d = c.args.desc in
    let a = c.in_ok-read.read in
    let endings = c.in_ok-endings.endings in
    let all : endings.items ≡ endings_of d a =
    c.in_ok-endings.ensures
    ∙ ap (λ (ds : List Dialog). filter_map ending_of (zip ds c.as_slice-2.result.now)) c.as_slice.ensures
    ∙ ap (λ (xs : List Answer). filter_map ending_of (zip d.dialogs xs)) c.as_slice-2.ensures in
    let fit : IsFitLog d c.args.log.text.now a = record {
      answered = c.in_ok-read.ensures.read;
      fit = sym c.as_slice-misfits.ensures ∙ none-is c.as_slice-misfits.result.now c.if-not-is_empty.ensures;
      some = same-some endings.items (endings_of d a) all (some-counted endings.items endings.len endings.ok.0 c.if-is_empty.ensures);
    } in
    unbegun-AnswersTo Mismade c.args.log.name.now d c.args.log.text.now a fit
    (record { out = g.W.Writer.seen c.args.out.now; told = g.E.Writer.seen c.args.told.now }) c.in_ok-full.full endings.items c.in_ok-full.ensures.filled all
    c.in_err-runs.field-0.0 c.in_err-runs.ensures.fault c.from_residual-in_err-runs.result c.from_residual-in_err-runs.ensures.1

pub returns : goal.returns
returns g c =
    let Mismade = IsMismade (Makes g.F.Fn c.args.make.now) g.V.View.meaning in
    let d = c.args.desc in
    let a = c.in_ok-read.read in
    let endings = c.in_ok-endings.endings in
    let all : endings.items ≡ endings_of d a =
    c.in_ok-endings.ensures
    ∙ ap (λ (ds : List Dialog). filter_map ending_of (zip ds c.as_slice-2.result.now)) c.as_slice.ensures
    ∙ ap (λ (xs : List Answer). filter_map ending_of (zip d.dialogs xs)) c.as_slice-2.ensures in
    let fit : IsFitLog d c.args.log.text.now a = record {
      answered = c.in_ok-read.ensures.read;
      fit = sym c.as_slice-misfits.ensures ∙ none-is c.as_slice-misfits.result.now c.if-not-is_empty.ensures;
      some = same-some endings.items (endings_of d a) all (some-counted endings.items endings.len endings.ok.0 c.if-is_empty.ensures);
    } in
    ends-AnswersTo Mismade c.args.log.name.now d c.args.log.text.now a fit
    (record { out = g.W.Writer.seen c.args.out.now; told = g.E.Writer.seen c.args.told.now })
    (record { out = g.W.Writer.seen c.end_dialogs.new.out; told = g.E.Writer.seen c.args.told.now })
    c.in_ok-full.full endings.items c.in_ok-full.ensures.filled all
    (runs_of c.in_ok-runs.runs.items) c.in_ok-runs.ensures.runs refl c.end_dialogs.result c.end_dialogs.ensures
