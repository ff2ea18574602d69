use Rattle.std.proofs.Common.{subst}
use Rattle.tv_app.specs.Running.{Runs, started}
use Rattle.tv_lang.proofs.PrintLemmas.{spelled_once}
use Rattle.tv_ways.proofs.answering.start.Goals as goal

-- a text spells one description
pub returns-in-Ok : goal.returns-in-Ok
returns-in-Ok c =
    λ d spelled.
    let opened = c.in-Ok.ensures.opened in
    subst (λ e. Runs c.in-Ok.app (started e)) (spelled_once c.args.text.now opened.0 d opened.1.0.lines spelled.0.lines) opened.2
