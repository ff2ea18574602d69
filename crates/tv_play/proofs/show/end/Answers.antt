use Rattle.std.proofs.Common.{◌++◌}
use Rattle.std.specs.List.{concat}
use Rattle.tv_terminal.specs.Written.{end_bytes}
use Rattle.tv_play.proofs.ShownLemmas.{put-end, put-still, stays-stopped}
use Rattle.tv_play.proofs.show.end.Goals as goal

pub returns-clause-stopped : goal.returns-clause-stopped
returns-clause-stopped g c = λ before.
    stays-stopped _ _ _ _ _ c.pass_on.ensures.puts.how (stays-stopped _ _ _ _ _ c.end.ensures.puts.how before)

pub returns-clause-put : goal.returns-clause-put
returns-clause-put g c = λ from frames put.
    put-still from _ _ _ _ (concat frames ++ end_bytes) (put-end from _ _ _ _ frames put c.end.ensures.puts.how) c.pass_on.ensures.puts.how
