use Rattle.std.proofs.Common.{◌≡◌, ℕ, ◌<◌, ◌||◌, false, [], length, get_or, take, drop}
use Rattle.tv_overlaps.specs.Marks.{collide, is_related}
use Rattle.tv_overlaps.proofs.rows.mark_few.Given as goal

abbrev pub invariant-loop-i : goal.invariant-loop-i
invariant-loop-i l = record {
  len : length l.marks ≡ length l.initial.marks;
  marks : (place : ℕ) → place < length l.initial.marks
      → (get_or l.marks place false || is_related collide place (take l.i l.items) (drop l.i l.items))
      ≡ (get_or l.initial.marks place false || is_related collide place [] l.items);
}
