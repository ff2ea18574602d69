use Rattle.std.proofs.Common.{Ok, Err, refl, subst}
use Rattle.tv_program.specs.Answering.{AnswersTo}
use Rattle.tv_program.specs.Filling.{Written}
use Rattle.tv_program.specs.Playing.{IsMismade, Makes}
use Rattle.tv_files.specs.Ends.{end_of}
use Rattle.tv_files.specs.Files.{longest_log}
use Rattle.tv_files.specs.Filling.{AnswersAs, IsUnsound, SpellsSome}
use Rattle.tv_files.proofs.TaskLemmas.{done-OnFiles, first-OnFiles, unread-OnFiles}
use Rattle.tv_files.proofs.answering.answer_file.Goals as goal

pub returns-in_err-desc : goal.returns-in_err-desc
returns-in_err-desc g c =
    let seen : Written = record { out = g.W.Writer.seen c.args.out.now; told = g.E.Writer.seen c.args.err.now } in
    first-OnFiles longest_log IsUnsound SpellsSome (g.F.FileStore.known c.args.files.now) (g.F.FileStore.known c.sound.new.files) c.args.paths.file.now c.args.paths.answers.now seen c.in_err-desc.field-0.0
    (AnswersAs (IsMismade (Makes g.M.Fn c.args.views.now) g.V.View.meaning) c.args.paths.file.now c.args.paths.answers.now seen seen) c.in_err-desc.ensures c.from_residual.result c.from_residual.ensures.1

pub returns-in_err-text : goal.returns-in_err-text
returns-in_err-text g c =
    let seen : Written = record { out = g.W.Writer.seen c.args.out.now; told = g.E.Writer.seen c.args.err.now } in
    let first = c.in_ok-desc.ensures in
    unread-OnFiles longest_log IsUnsound SpellsSome (g.F.FileStore.known c.args.files.now) (g.F.FileStore.known c.read_up_to.new.files) c.args.paths.file.now c.args.paths.answers.now seen c.in_err-text.field-0.0
    (AnswersAs (IsMismade (Makes g.M.Fn c.args.views.now) g.V.View.meaning) c.args.paths.file.now c.args.paths.answers.now seen seen) (g.F.FileStore.known c.sound.new.files) first.text first.gives (c.in_ok-desc.desc, first.follows_text) c.in_err-text.ensures
    c.from_residual-in_err-text.result c.from_residual-in_err-text.ensures.1

pub returns-in-Ok : goal.returns-in-Ok
returns-in-Ok g c =
    let old : Written = record { out = g.W.Writer.seen c.args.out.now; told = g.E.Writer.seen c.args.err.now } in
    let new : Written = record { out = g.W.Writer.seen c.answer_text.new.out; told = g.E.Writer.seen c.answer_text.new.told } in
    let first = c.in_ok-desc.ensures in
    let end = end_of {T = Unit {0}} (Ok tt) in
    done-OnFiles longest_log IsUnsound SpellsSome (AnswersAs (IsMismade (Makes g.M.Fn c.args.views.now) g.V.View.meaning) c.args.paths.file.now c.args.paths.answers.now old new end)
    (g.F.FileStore.known c.args.files.now) (g.F.FileStore.known c.sound.new.files) (g.F.FileStore.known c.read_up_to.new.files) c.args.paths.file.now c.args.paths.answers.now old new end
    first.text c.in_ok-text.text.items first.gives (c.in_ok-desc.desc, first.follows_text) c.in_ok-text.ensures
    (c.in_ok-desc.desc, Ok tt, first.follows_text, rw c.as_slice.ensures.value at c.in-Ok.ensures, refl)

pub returns : goal.returns
returns g c =
    let old : Written = record { out = g.W.Writer.seen c.args.out.now; told = g.E.Writer.seen c.args.err.now } in
    let new : Written = record { out = g.W.Writer.seen c.answer_text.new.out; told = g.E.Writer.seen c.answer_text.new.told } in
    let first = c.in_ok-desc.ensures in
    let end = end_of {T = Unit {0}} (Err c.new.result) in
    done-OnFiles longest_log IsUnsound SpellsSome (AnswersAs (IsMismade (Makes g.M.Fn c.args.views.now) g.V.View.meaning) c.args.paths.file.now c.args.paths.answers.now old new end)
    (g.F.FileStore.known c.args.files.now) (g.F.FileStore.known c.sound.new.files) (g.F.FileStore.known c.read_up_to.new.files) c.args.paths.file.now c.args.paths.answers.now old new end
    first.text c.in_ok-text.text.items first.gives (c.in_ok-desc.desc, first.follows_text) c.in_ok-text.ensures (
      c.in_ok-desc.desc,
      Err c.in-Err.fault,
      first.follows_text,
      subst (λ written. AnswersTo (IsMismade (Makes g.M.Fn c.args.views.now) g.V.View.meaning) c.args.paths.answers.now c.in_ok-desc.desc written old new (Err c.in-Err.fault)) c.as_slice.ensures.value c.in-Err.ensures,
      rw c.from.ensures at c.new.ensures,
    )
