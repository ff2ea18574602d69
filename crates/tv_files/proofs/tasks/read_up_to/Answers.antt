use Rattle.std.proofs.lemmas.Result.{MatchResult-weaker}
use Rattle.tv_files.proofs.FileLemmas.{IsRead-Gives, IsUngiven-IsUnread}
use Rattle.tv_files.proofs.tasks.read_up_to.Goals as goal

pub returns : goal.returns
returns g c =
    let reader = g.F.File.Reader.seen c.in_ok-file.file in
    let left = g.F.File.Reader.seen c.read.new.file in
    let opened = c.in_ok-file.ensures in
    MatchResult-weaker c.read.result c.read.ensures
    (λ text read. IsRead-Gives c.args.limit c.args.path.now reader left opened.0 opened.1 text.items read)
    (λ failure ungiven. IsUngiven-IsUnread c.args.limit c.args.path.now reader left opened.0 opened.1 ungiven)
