use Rattle.tv_window.proofs.FreshLemmas.{new-desk}
use Rattle.tv_window.proofs.desk.DeskOf.new.Goals as goal

pub returns-clause-desk : goal.returns-clause-desk
returns-clause-desk g c = λ d lawful fresh. new-desk g.V.View.meaning d c.args.windows.items c.reverse.new.self.items _ c.reverse.ensures.items c.new.ensures.items lawful fresh
