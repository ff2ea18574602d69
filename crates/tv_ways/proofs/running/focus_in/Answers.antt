use Rattle.std.proofs.Common.{◌∙◌, sym, subst}
use Rattle.tv_ways.specs.Running.{IsOnlyIn}
use Rattle.tv_ways.proofs.RunningLemmas.{focused}
use Rattle.tv_ways.proofs.running.focus_in.Goals as goal

pub returns-then-is_only_in : goal.returns-then-is_only_in
returns-then-is_only_in c =
    λ s runs.
    focused s.desc c.args.place c.in_ok-focus.focus s.state runs.sound runs.fit
    (subst (λ d. IsOnlyIn d c.args.place c.in_ok-focus.focus) (c.desc.ensures s runs) (c.is_only_in.ensures c.if-is_only_in.true))
    (sym (c.focus.ensures s runs) ∙ c.in_ok-focus.was)
