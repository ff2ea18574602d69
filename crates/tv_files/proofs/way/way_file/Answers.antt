use Rattle.std.proofs.Common.{subst}
use Rattle.tv_files.specs.Ends.{done_in, end_of}
use Rattle.tv_files.specs.Tasks.OnFile.{done}
use Rattle.tv_files.specs.Way.{WayAs}
use Rattle.tv_files.proofs.way.way_file.Goals as goal

pub returns : goal.returns
returns g c =
    done c.in_ok-text.text.items c.in_ok-text.ensures
    (subst (λ text. WayAs c.args.file.now c.args.wanted.dialog.now c.args.wanted.end (g.W.Writer.seen c.args.out.now) (g.W.Writer.seen c.tell_way.new.out) (done_in c.tell_way.result) (end_of c.tell_way.result) text) c.as_slice.ensures.value c.tell_way.ensures)
