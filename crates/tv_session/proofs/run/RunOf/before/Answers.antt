use Rattle.std.proofs.Common.{subst, sym, ◌∙◌}
use Rattle.tv_menu.specs.Line.{AreEnabled}
use Rattle.tv_session.proofs.run.RunOf.before.Goals as goal

pub returns : goal.returns
returns g c = λ d s r.
    let lent : AreEnabled d s c.commands.result.now = record { each = c.commands.ensures d s r.dialogs } in
    record {
      menu = c.opened.ensures ∙ sym r.menu;
      is_open = c.is_open.ensures d s r.dialogs;
      commands = subst (AreEnabled d s) (sym c.copy.ensures) lent;
    }
