use Rattle.std.proofs.Common.{◌≡◌, ◌∙◌, true, false, not, get_or, ap, sym}
use Rattle.std.specs.List.{list_any}
use Rattle.std.proofs.lemmas.Bool.{true≢false}
use Rattle.std.proofs.lemmas.List.Folds.{list_any_none}
use Rattle.tv_model.specs.declared.desc.Menu.{Menu}
use Rattle.tv_model.specs.declared.desc.MenuItem.{MenuItem}
use Rattle.tv_model.specs.declared.desc.StatusItem.{StatusItem}
use Rattle.tv_reach.specs.Never.{opens_by}
use Rattle.tv_reach.proofs.reason.is_never_opened.Goals as goal
use Rattle.tv_reach.proofs.reason.is_never_opened.Goals.{then-not-starts_with, else-not-starts_with}

pub returns-then-not-any_status_opens-clause-exact : goal.returns-then-not-any_status_opens-clause-exact
returns-then-not-any_status_opens-clause-exact c = λ never.
    let dialog = c.args.dialog.now in
    let menus = c.args.desc.now.menus in
    let no : c.any_menu_opens.result ≡ false
    = c.any_menu_opens.ensures
    ∙ ap (list_any (λ (menu : Menu). list_any (λ (item : MenuItem). opens_by dialog item.command) menu.items)) c.as_slice-then-not-any_status_opens.ensures
    ∙ list_any_none (λ (menu : Menu). list_any (λ (item : MenuItem). opens_by dialog item.command) menu.items) menus
    (λ k menu less. list_any_none (λ (item : MenuItem). opens_by dialog item.command) (get_or menus k menu).items (never.menus k menu less)) in
    ap not no

pub returns-else-not-any_status_opens-clause-exact : goal.returns-else-not-any_status_opens-clause-exact
returns-else-not-any_status_opens-clause-exact c = λ never.
    let dialog = c.args.dialog.now in
    elim c.if-not-starts_with.branch [
      | then-not-starts_with w ↦
          let no : w.any_status_opens.result ≡ false
          = w.any_status_opens.ensures ∙ ap (list_any (λ (item : StatusItem). opens_by dialog item.command)) w.as_slice.ensures
          ∙ list_any_none (λ (item : StatusItem). opens_by dialog item.command) c.args.desc.now.status never.status in
          w.value-is ∙ ap not no
      | else-not-starts_with w ↦
          let off : c.starts_with.result ≡ false = c.starts_with.ensures ∙ never.start in
          absurd (true≢false (sym w.if-not-starts_with.false ∙ off))
    ]
