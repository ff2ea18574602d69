use Rattle.std.proofs.Common.{sym, ap, ◌∙◌}
use Rattle.tv_lang.proofs.OpenedLemmas.{opens_window}
use Rattle.tv_lang.proofs.stage.window_opened.Goals as goal

pub returns-in_ok-window : goal.returns-in_ok-window
returns-in_ok-window c =
    let held = c.in_ok-window.ensures in
    sym (opens_window c.args.desc.now c.args.node c.in_ok-window.window (ap (λ w. w.node) held) (ap (λ w. w.views) held ∙ c.new-views.ensures) (sym c.if-no_dialogs.ensures))
