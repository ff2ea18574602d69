use Rattle.std.proofs.Common.{◌≡◌, ℕ, ◌<◌, ◌||◌, true, false, [], length, get_or, take, drop}
use Rattle.tv_overlaps.proofs.PassLemmas.{fits_beside, heaviest}
use Rattle.tv_overlaps.specs.Marks.{collide_wide, is_related}
use Rattle.tv_overlaps.proofs.columns.mark_wide.Given as goal

abbrev pub invariant-loop-item : goal.invariant-loop-item
invariant-loop-item l = record {
  len : length l.marks ≡ length l.initial.marks;
  marks : (place : ℕ) → place < length l.initial.marks
      → (get_or l.marks place false || is_related (collide_wide l.rows l.columns) place (take l.item-index l.items) (drop l.item-index l.items))
      ≡ (get_or l.initial.marks place false || is_related (collide_wide l.rows l.columns) place [] l.items);
  any : l.heaviest.any ≡ heaviest (fits_beside l.rows l.columns true true) (take l.item-index l.items);
  filling : l.heaviest.filling ≡ heaviest (fits_beside l.rows l.columns false true) (take l.item-index l.items);
  wide : l.heaviest.wide ≡ heaviest (fits_beside l.rows l.columns true false) (take l.item-index l.items);
  both : l.heaviest.both ≡ heaviest (fits_beside l.rows l.columns false false) (take l.item-index l.items);
}
