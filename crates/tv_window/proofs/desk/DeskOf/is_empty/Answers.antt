use Rattle.std.proofs.Common.{◌==◌, ap, ◌∙◌}
use Rattle.tv_window.proofs.DeskLemmas.{count-same}
use Rattle.tv_window.proofs.desk.DeskOf.is_empty.Goals as goal

pub returns : goal.returns
returns g c = λ d stack is. c.is_empty.ensures ∙ ap (λ n. n == 0) (c.args.self.now.windows.items.ok.0 ∙ count-same g.V.View.meaning d stack c.args.self.now is)
