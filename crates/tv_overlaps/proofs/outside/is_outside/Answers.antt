use Rattle.std.proofs.Common.{◌≡◌, get_or, take, option_copied, not, ap, ◌∙◌}
use Rattle.std.proofs.lemmas.List.{get_or_read}
use Rattle.tv_model.specs.Description.Rectangles.{is_within, place_of_node}
use Rattle.tv_model.specs.Description.Panes.{owner_of, room_in}
use Rattle.tv_overlaps.proofs.OwnerLemmas.{owner_is}
use Rattle.tv_overlaps.proofs.outside.is_outside.Goals as goal

pub returns : goal.returns
returns c view =
    let views = c.args.views.now in
    let here : c.index-views-place.result ≡ get_or views c.args.place view = get_or_read views c.args.place _ c.requires.within c.index-views-place.is view in
    let pane : option_copied c.pane_of.result ≡ owner_of (take c.args.place views) (get_or views c.args.place view) =
    c.pane_of.ensures ∙ owner_is views view c.args.place c.args.owner c.requires.within c.requires.owner in
    ap not (c.is_within.ensures.value
    ∙ ap (λ place. is_within place c.room_in-room.result) (c.of_node.ensures ∙ ap place_of_node here)
    ∙ ap (is_within (place_of_node (get_or views c.args.place view))) (c.room_in-room.ensures ∙ ap (room_in c.args.frame.now) pane))
