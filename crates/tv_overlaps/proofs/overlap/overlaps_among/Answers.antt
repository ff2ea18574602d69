use Rattle.std.proofs.Common.{◌≡◌, false, length, [], ◌||◌, get_or, drop, sym, ap, ◌∙◌, arith}
use Rattle.std.specs.List.{zip}
use Rattle.std.proofs.lemmas.List.{take_at, get_or-replicate}
use Rattle.std.proofs.lemmas.List.Elements.{All-same}
use Rattle.std.proofs.lemmas.Slice.Zip.{length-zip}
use Rattle.tv_model.specs.Faults.Places.{overlaps_earlier}
use Rattle.tv_overlaps.specs.Marks.{IsPlacedItem, collide_as_siblings, is_related}
use Rattle.tv_overlaps.specs.Placing.{placed_from}
use Rattle.tv_overlaps.proofs.OwnedLemmas.{all_owned}
use Rattle.tv_overlaps.proofs.PlacedLemmas.{each_is, hit_is, items_placed}
use lib.ListN.{replicate}
use Rattle.tv_overlaps.proofs.overlap.overlaps_among.Goals as goal

pub mark_siblings-requires-clause-items : goal.mark_siblings-requires-clause-items
mark_siblings-requires-clause-items c =
    let pairs = zip c.args.siblings.now c.args.views.now in
    let count : length c.deref_mut.result.now ≡ length c.args.views.now = c.deref_mut.ensures.len ∙ c.in_ok-marks.ensures.len in
    All-same (IsPlacedItem (length c.deref_mut.result.now)) c.deref-2.result.now (placed_from 0 pairs) (c.deref-2.ensures.value ∙ c.in_ok-items.ensures)
    (items_placed (length c.deref_mut.result.now) 0 pairs (omega (arith, length-zip c.args.siblings.now c.args.views.now, count)))

pub mark_siblings-requires-clause-owners : goal.mark_siblings-requires-clause-owners
mark_siblings-requires-clause-owners c = all_owned c.last_owner.result c.deref.result.now c.deref-2.result.now c.last_owner.ensures (c.deref-2.ensures.value ∙ sym c.deref.ensures.value)

pub returns : goal.returns
returns c =
    let unmarked : c.deref_mut.result.now ≡ replicate (length c.args.views.now) false = c.deref_mut.ensures.value ∙ c.in_ok-marks.ensures.items_if_clones_equal (λ _ e. e) in
    let long : length c.mark_siblings.new.marks ≡ length c.args.views.now = c.mark_siblings.ensures.len ∙ c.deref_mut.ensures.len ∙ c.in_ok-marks.ensures.len in
    let new = c.mark_siblings.new.marks in
    take_at new (drop (length new) c.in_ok-marks.marks.items) c.in_ok-marks.marks.len (long ∙ sym c.in_ok-marks.ensures.len)
    ∙ each_is overlaps_earlier c.args.views.now new long (λ i d less.
    c.in_ok-mark_siblings.ensures.marks.marks i (omega arith)
    ∙ ap (λ b. b || is_related collide_as_siblings i [] c.deref-2.result.now) (ap (λ list. get_or list i false) unmarked ∙ get_or-replicate (length c.args.views.now) i false false less)
    ∙ ap (is_related collide_as_siblings i []) (c.deref-2.ensures.value ∙ c.in_ok-items.ensures)
    ∙ hit_is c.args.siblings.now c.args.views.now c.requires i d less)
