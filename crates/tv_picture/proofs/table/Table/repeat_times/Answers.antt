use Rattle.std.proofs.Common.{◌≡◌, ◌+◌, ◌-◌, ◌*◌, ◌/◌, ℕ, arith, sym, subst}
use Rattle.tv_picture.specs.declared.table.Table.{Table}
use Rattle.tv_picture.specs.Pattern.{times}
use Rattle.tv_picture.specs.Table.{HasEachRow}
use Rattle.tv_picture.proofs.Rows.{Covers_zero, Covers_one, Powers, Left, left_odd, left_even, no_more, powers_added, powers_squared, none_left, powers_repeated, all_at_once, Joins}
use Rattle.tv_picture.proofs.table.Table.repeat_times.Goals as goal
use Rattle.tv_picture.proofs.table.Table.repeat_times.Goals.{then-left-eq1, else-left-eq1, else-left-gt0-via-then-left-gt0+else-square, else-left-gt0-via-else-left-gt0}

pub loop-left-init : goal.loop-left-init
loop-left-init c = (0, 1, omega arith, λ a text same ca. (Covers_zero a text c.set_empty.new.self (c.set_empty.ensures text same), Covers_one a text c.args.self.now ca))

pub loop-left-preserved : goal.loop-left-preserved
loop-left-preserved c =
    let h : ℕ = c.loop-left.left / 2 in
    let so_far : Left c.args.self.now c.if-left-eq1.self c.loop-left.power c.args.len h c.args.count = elim c.if-left-eq1.branch [
      | then-left-eq1 w ↦ subst (λ (t : Table). Left c.args.self.now t c.loop-left.power c.args.len h c.args.count) (sym w.self-is)
          (left_odd c.args.self.now c.loop-left.self c.loop-left.power w.then.new.self c.args.len c.loop-left.left h c.args.count c.loop-left.invariant.0 c.loop-left.invariant.1 (omega arith) c.loop-left.invariant.2 w.then.ensures c.loop-left.invariant.3)
      | else-left-eq1 w ↦ subst (λ (t : Table). Left c.args.self.now t c.loop-left.power c.args.len h c.args.count) (sym w.self-is)
          (left_even c.args.self.now c.loop-left.self c.loop-left.power c.args.len c.loop-left.left h c.args.count c.loop-left.invariant.0 c.loop-left.invariant.1 (omega arith) c.loop-left.invariant.2 c.loop-left.invariant.3)
    ] in
    let i : ℕ = so_far.0 in
    let j : ℕ = so_far.1 in
    elim c.else-left-gt0.branch [
      | else-left-gt0-via-then-left-gt0+else-square w ↦ (
        i,
        j + j,
        so_far.2,
        subst (λ (t : Table). Powers c.args.self.now c.if-left-eq1.self t c.args.len i (j + j)) (sym w.power-is)
            (powers_squared c.args.self.now c.if-left-eq1.self c.loop-left.power w.square.new.self c.args.len i j w.square.ensures.joins so_far.3),
      )
      | else-left-gt0-via-else-left-gt0 w ↦ (
        i,
        j,
        no_more i j h c.args.count (omega arith) so_far.2,
        subst (λ (t : Table). Powers c.args.self.now c.if-left-eq1.self t c.args.len i j) (sym w.power-is) so_far.3,
      )
    ]

pub returns : goal.returns
returns c = λ a text same ca.
    subst (λ (n : ℕ). HasEachRow (times n a) text c.loop-left.self) (none_left c.loop-left.invariant.0 c.loop-left.invariant.1 c.loop-left.left c.args.count (omega arith) c.loop-left.invariant.2)
    (c.loop-left.invariant.3 a text same ca).0

pub returns-then-square : goal.returns-then-square
returns-then-square c =
    let h : ℕ = c.loop-left.left / 2 in
    let power : Table = c.loop-left.power in
    let so_far : Left c.args.self.now c.if-left-eq1.self power c.args.len h c.args.count = elim c.if-left-eq1.branch [
      | then-left-eq1 w ↦ subst (λ (t : Table). Left c.args.self.now t power c.args.len h c.args.count) (sym w.self-is)
          (left_odd c.args.self.now c.loop-left.self power w.then.new.self c.args.len c.loop-left.left h c.args.count c.loop-left.invariant.0 c.loop-left.invariant.1 (omega arith) c.loop-left.invariant.2 w.then.ensures c.loop-left.invariant.3)
      | else-left-eq1 w ↦ subst (λ (t : Table). Left c.args.self.now t power c.args.len h c.args.count) (sym w.self-is)
          (left_even c.args.self.now c.loop-left.self power c.args.len c.loop-left.left h c.args.count c.loop-left.invariant.0 c.loop-left.invariant.1 (omega arith) c.loop-left.invariant.2 c.loop-left.invariant.3)
    ] in
    let i : ℕ = so_far.0 in
    let j : ℕ = so_far.1 in
    let result : Table = c.then-then-square.new.self in
    let same : c.square.new.self ≡ power = c.square.ensures.same c.if-square.true in
    let joins : Joins power power c.args.len power = subst (Joins power power c.args.len) same c.square.ensures.joins in
    let joined : Joins c.if-left-eq1.self power c.args.len result = subst (λ (t : Table). Joins c.if-left-eq1.self t c.args.len result) same c.then-then-square.ensures in
    let repeated = powers_repeated (h + h - 1) c.args.self.now c.if-left-eq1.self power c.args.len i j joins so_far.3 in
    let added = powers_added c.args.self.now c.if-left-eq1.self power result c.args.len i (j + j * (h + h - 1)) joined repeated in
    let whole : i + (j + j * (h + h - 1)) ≡ c.args.count = all_at_once i j h c.args.count (omega arith) so_far.2 in
    λ a text len ca. subst (λ (n : ℕ). HasEachRow (times n a) text result) whole (added a text len ca).0
