use Rattle.std.proofs.Common.{◌≡◌, take, ap, ◌∙◌, subst}
use Rattle.std.specs.Prelude.{slice_index_or}
use Rattle.tv_model.specs.Description.Sharing.{item_shown_by}
use Rattle.tv_names.specs.Sharing.{RuledViews, item_showing, marker_at, show_rules_of}
use Rattle.tv_names.proofs.SharingLemmas.{item_is}
use Rattle.tv_names.proofs.sharing.Sharing.item.Goals as goal

pub returns : goal.returns
returns c = λ view.
    let views = c.self.inside.views.now in
    let rules = c.self.inside.rules.now in
    let place = c.args.place in
    let radios = c.args.radios.now in
    let shown : c.as_slice-shown.result.now ≡ show_rules_of views rules = c.as_slice-shown.ensures.value ∙ c.self.invariant.1 in
    subst (λ (all : RuledViews). c.item_in.result ≡ item_shown_by all.views all.rules radios (marker_at all.views view place)) c.self.view_is
    (c.item_in.ensures view ∙ ap (λ list. item_showing list radios.id (take place views) (slice_index_or views place view)) shown ∙ item_is views radios (marker_at views view place) rules)
