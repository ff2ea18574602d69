use Rattle.std.proofs.Common.{◌≡◌, ◌+◌, ◌-◌, ◌<◌, max, Bool, true, false, ◌||◌, ◌&&◌, nat_lt, length, get_or, take, drop, refl, sym, ap, ◌∙◌, arith}
use Rattle.std.proofs.lemmas.Bool.{lt-ltb, le-ltb}
use Rattle.std.specs.List.{list_any}
use Rattle.tv_overlaps.specs.declared.placed.Placed.{Placed}
use Rattle.tv_overlaps.specs.Heaviest.{at_least}
use Rattle.tv_overlaps.specs.Marks.{IsPlacedItem, collide_wide, span_covers, is_related}
use Rattle.tv_overlaps.proofs.PassLemmas.{asked_any, asked_both, asked_filling, asked_wide, blank, fits_beside, heaviest, heaviest_turn, hit_turn, marked_is}
use Rattle.tv_overlaps.proofs.columns.mark_wide.Goals as goal
use Rattle.tv_overlaps.proofs.columns.mark_wide.Goals.{then-beside-item, else-beside-item}

pub loop-item-preserved : goal.loop-item-preserved
loop-item-preserved c =
    let rows = c.args.rows in let columns = c.args.columns in let items = c.args.items.now in let i = c.loop-item.item-index in
    let x = get_or items i blank in
    let within : i < length items = c.loop-item-test.true in
    let is : IsPlacedItem (length c.args.marks.now) x = c.requires i blank within in
    let inv = c.loop-item.invariant in
    let less : x.place < length c.loop-item.marks = omega (arith, is.place, inv.len) in
    let told : nat_lt (3 - x.weight) c.beside.result ≡ list_any (λ other. collide_wide rows columns other x) (take i items) =
    marked_is rows columns x (take i items) c.covers-fills.result c.covers-wide.result c.beside.result c.loop-item.heaviest.any c.loop-item.heaviest.wide c.loop-item.heaviest.filling c.loop-item.heaviest.both
    is.weight c.covers-fills.ensures c.covers-wide.ensures c.beside.ensures inv.any inv.filling inv.wide inv.both in
    let turn : (asked : Placed → Bool) → heaviest asked (take (i + 1) items) ≡ max (at_least (asked x) x.weight) (heaviest asked (take i items)) =
    heaviest_turn (collide_wide rows columns) items c.args.marks.now c.loop-item.marks i blank x within refl in
    let a = span_covers x.rows rows in let b = span_covers x.columns columns in
    record {
      len = cc (inv.len, c.if-beside-item.auto.marks);
      marks = λ place in'.
          elim c.if-beside-item.branch [
            | then-beside-item w ↦
                ap (λ list. get_or list place false || is_related (collide_wide rows columns) place (take (i + 1) items) (drop (i + 1) items)) w.marks-is
                ∙ hit_turn (collide_wide rows columns) items c.args.marks.now c.loop-item.marks i blank x within refl true place less (sym (lt-ltb (3 - x.weight) c.beside.result w.if-beside-item.true) ∙ told) (inv.marks place in')
            | else-beside-item w ↦
                ap (λ list. get_or list place false || is_related (collide_wide rows columns) place (take (i + 1) items) (drop (i + 1) items)) w.marks-is
                ∙ hit_turn (collide_wide rows columns) items c.args.marks.now c.loop-item.marks i blank x within refl false place less (sym (le-ltb (3 - x.weight) c.beside.result w.if-beside-item.false) ∙ told) (inv.marks place in')
          ];
      any = c.pass.ensures.any ∙ ap (λ n. max (at_least true x.weight) n) inv.any ∙ ap (λ t. max (at_least t x.weight) (heaviest (fits_beside rows columns true true) (take i items))) (asked_any a b) ∙ sym (turn (fits_beside rows columns true true));
      filling = c.pass.ensures.filling ∙ ap (λ n. max (at_least c.covers-fills.result x.weight) n) inv.filling ∙ ap (λ t. max (at_least t x.weight) (heaviest (fits_beside rows columns false true) (take i items))) (c.covers-fills.ensures ∙ asked_filling a b) ∙ sym (turn (fits_beside rows columns false true));
      wide = c.pass.ensures.wide ∙ ap (λ n. max (at_least c.covers-wide.result x.weight) n) inv.wide ∙ ap (λ t. max (at_least t x.weight) (heaviest (fits_beside rows columns true false) (take i items))) (c.covers-wide.ensures ∙ asked_wide a b) ∙ sym (turn (fits_beside rows columns true false));
      both = c.pass.ensures.both ∙ ap (λ n. max (at_least (c.covers-fills.result && c.covers-wide.result) x.weight) n) inv.both ∙ ap (λ t. max (at_least t x.weight) (heaviest (fits_beside rows columns false false) (take i items))) (ap (λ t. t && c.covers-wide.result) c.covers-fills.ensures ∙ ap (λ t. a && t) c.covers-wide.ensures ∙ asked_both a b) ∙ sym (turn (fits_beside rows columns false false));
    }
