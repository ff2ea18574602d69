use Rattle.std.proofs.Common.{◌≡◌, ◌+◌, ◌<◌, ◌||◌, true, false, length, get_or, take, drop, refl, sym, ap, ◌∙◌, arith}
use Rattle.std.specs.List.{list_any}
use Rattle.tv_overlaps.specs.Marks.{IsPlacedItem, collide, is_related}
use Rattle.tv_overlaps.proofs.PassLemmas.{blank, hit_turn}
use Rattle.tv_overlaps.proofs.rows.mark_few.Goals as goal
use Rattle.tv_overlaps.proofs.rows.mark_few.Goals.{then-is_hit, else-is_hit}

pub loop-i-preserved : goal.loop-i-preserved
loop-i-preserved c =
    let items = c.args.items.now in let i = c.loop-i.i in
    let x = get_or items i blank in
    let within : i < length items = c.loop-i-test.true in
    let is : IsPlacedItem (length c.args.marks.now) x = c.requires i blank within in
    let inv = c.loop-i.invariant in
    let less : x.place < length c.loop-i.marks = omega (arith, is.place, inv.len) in
    let told : c.is_hit.result ≡ list_any (λ other. collide other x) (take i items) = c.is_hit.ensures in
    record {
      len = cc (inv.len, c.if-is_hit.auto.marks);
      marks = λ place in'.
          elim c.if-is_hit.branch [
            | then-is_hit w ↦
                ap (λ list. get_or list place false || is_related collide place (take (i + 1) items) (drop (i + 1) items)) w.marks-is
                ∙ hit_turn collide items c.args.marks.now c.loop-i.marks i blank x within refl true place less (sym w.if-is_hit.true ∙ told) (inv.marks place in')
            | else-is_hit w ↦
                ap (λ list. get_or list place false || is_related collide place (take (i + 1) items) (drop (i + 1) items)) w.marks-is
                ∙ hit_turn collide items c.args.marks.now c.loop-i.marks i blank x within refl false place less (sym w.if-is_hit.false ∙ told) (inv.marks place in')
          ];
    }
