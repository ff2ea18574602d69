use Rattle.std.proofs.Common.{Option, refl, subst, sym, ap, ◌≡◌, ◌∙◌}
use Rattle.std.specs.Prelude.{option_map, slice_get}
use Rattle.std.specs.Option.{option_and_then}
use Rattle.tv_dialogs.specs.Dialogs.{AreDialogs}
use Rattle.tv_machine.specs.State.{OpenDialog}
use Rattle.tv_machine.proofs.ListLemmas.{option_cases}
use Rattle.tv_session.proofs.session.SessionOf.open_id.Goals as goal

pub returns : goal.returns
returns g c = λ s r.
    let lent = c.desc.ensures.value ∙ r.desc in
    let at : Option OpenDialog → Option _ = option_and_then (λ o. option_map (λ dialog. dialog.node.id) (slice_get s.desc.dialogs o.place)) in
    let are = subst (λ d. AreDialogs g.V.View.meaning d s.state c.args.self.now.run.dialogs) (sym lent) r.run.dialogs in
    option_cases s.state.dialog (λ o. s.state.dialog ≡ o → c.open_id.result ≡ at s.state.dialog)
    (λ none is. c.open_id.ensures.none s.state are is ∙ sym (ap at is))
    (λ o some is. c.open_id.ensures.of_open s.state o are is ∙ ap (λ d. option_map (λ dialog. dialog.node.id) (slice_get d.dialogs o.place)) lent ∙ sym (ap at is))
    refl
