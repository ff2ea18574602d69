use Rattle.std.proofs.Common.{Ok, Err, refl, subst}
use Rattle.tv_program.specs.CheckRun.{AcceptsTo}
use Rattle.tv_files.specs.Ends.{end_of}
use Rattle.tv_files.specs.Files.{longest}
use Rattle.tv_files.specs.Tasks.{AcceptsAs, IsSpelled, IsUnspelled}
use Rattle.tv_files.proofs.TaskLemmas.{done-OnFiles, first-OnFiles, unread-OnFiles}
use Rattle.tv_files.proofs.tasks.accept_file.Goals as goal

pub returns-in_err-desc : goal.returns-in_err-desc
returns-in_err-desc g c =
    let seen = g.W.Writer.seen c.args.out.now in
    first-OnFiles longest IsUnspelled IsSpelled (g.F.FileStore.known c.args.files.now) (g.F.FileStore.known c.described.new.files) c.args.file.now c.args.certificate.now seen c.in_err-desc.field-0.0
    (AcceptsAs c.args.file.now c.args.certificate.now seen seen) c.in_err-desc.ensures c.from_residual.result c.from_residual.ensures.1

pub returns-in_err-text : goal.returns-in_err-text
returns-in_err-text g c =
    let seen = g.W.Writer.seen c.args.out.now in
    let first = c.in_ok-desc.ensures in
    unread-OnFiles longest IsUnspelled IsSpelled (g.F.FileStore.known c.args.files.now) (g.F.FileStore.known c.read_file.new.files) c.args.file.now c.args.certificate.now seen c.in_err-text.field-0.0
    (AcceptsAs c.args.file.now c.args.certificate.now seen seen) (g.F.FileStore.known c.described.new.files) first.text first.gives (c.in_ok-desc.desc, first.follows_text) c.in_err-text.ensures
    c.from_residual-in_err-text.result c.from_residual-in_err-text.ensures.1

pub returns-in-Ok : goal.returns-in-Ok
returns-in-Ok g c =
    let old = g.W.Writer.seen c.args.out.now in
    let new = g.W.Writer.seen c.accept_text.new.out in
    let first = c.in_ok-desc.ensures in
    let end = end_of {T = Unit {0}} (Ok tt) in
    done-OnFiles longest IsUnspelled IsSpelled (AcceptsAs c.args.file.now c.args.certificate.now old new end)
    (g.F.FileStore.known c.args.files.now) (g.F.FileStore.known c.described.new.files) (g.F.FileStore.known c.read_file.new.files) c.args.file.now c.args.certificate.now old new end
    first.text c.in_ok-text.text.items first.gives (c.in_ok-desc.desc, first.follows_text) c.in_ok-text.ensures
    (Ok tt, rw c.as_slice.ensures.value at (c.in-Ok.ensures first.text first.follows_text), refl)

pub returns : goal.returns
returns g c =
    let old = g.W.Writer.seen c.args.out.now in
    let new = g.W.Writer.seen c.accept_text.new.out in
    let first = c.in_ok-desc.ensures in
    let end = end_of {T = Unit {0}} (Err c.new.result) in
    done-OnFiles longest IsUnspelled IsSpelled (AcceptsAs c.args.file.now c.args.certificate.now old new end)
    (g.F.FileStore.known c.args.files.now) (g.F.FileStore.known c.described.new.files) (g.F.FileStore.known c.read_file.new.files) c.args.file.now c.args.certificate.now old new end
    first.text c.in_ok-text.text.items first.gives (c.in_ok-desc.desc, first.follows_text) c.in_ok-text.ensures (
      Err c.in-Err.fault,
      subst (λ written. AcceptsTo {T = Unit {0}} first.text written old new (Err c.in-Err.fault)) c.as_slice.ensures.value (c.in-Err.ensures first.text first.follows_text),
      rw c.from.ensures at c.new.ensures,
    )

pub accept_text-requires : goal.accept_text-requires
accept_text-requires g c = let first = c.in_ok-desc.ensures in (first.text, first.follows_text.lines)
