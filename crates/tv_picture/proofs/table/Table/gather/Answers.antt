use Rattle.std.proofs.Common.{ℕ, ◌≡◌, ◌+◌, ◌-◌, arith, subst, sym, true, false}
use Rattle.tv_picture.specs.Table.{Gathers}
use Rattle.tv_picture.proofs.Gathered.{gathers_none, gathers_skip, gathers_more, gathers_rest, rest_here, rest_more, rest_none}
use Rattle.tv_picture.proofs.table.Table.gather.Goals as goal
use Rattle.tv_picture.proofs.table.Table.gather.Goals.{then-has, else-has}

pub loop-place-init : goal.loop-place-init
loop-place-init c = (gathers_none c.args.places c.args.self.now c.args.start c.args.first, c.past-rest.ensures)

pub loop-place-preserved : goal.loop-place-preserved
loop-place-preserved c =
    let here = rest_here c.args.places c.loop-place.rest c.loop-place.place c.loop-place.invariant.1 in (
      (
          elim c.if-has.branch [
            | then-has w ↦ subst (Gathers c.args.places c.args.self.now c.args.start (c.loop-place.place + 1) c.args.first) (sym w.row-is)
                (gathers_more c.args.places c.args.self.now c.args.start c.loop-place.place c.args.first c.loop-place.row w.join-row.result c.loop-place.auto.place (here.0 (c.has.ensures.0 w.if-has.true)) w.join-row.ensures.ends w.join-row.ensures.next c.loop-place.invariant.0)
            | else-has w ↦ subst (Gathers c.args.places c.args.self.now c.args.start (c.loop-place.place + 1) c.args.first) (sym w.row-is)
                (gathers_skip c.args.places c.args.self.now c.args.start c.loop-place.place c.args.first c.loop-place.row (λ has. let yes : c.has.result ≡ true = c.has.ensures.1 (here.1 has) in let no : c.has.result ≡ false = w.if-has.false in cc) c.loop-place.invariant.0)
          ]
          ),
      rest_more c.args.places c.loop-place.rest c.past-rest-in-loop-place.result c.loop-place.place c.loop-place.invariant.1 c.past-rest-in-loop-place.ensures,
    )

pub returns : goal.returns
returns c =
    let end : c.loop-place.place ≡ c.args.stop = omega arith in
    subst (λ (k : ℕ). Gathers c.args.places c.args.self.now c.args.start k c.args.first c.loop-place.row) end c.loop-place.invariant.0

pub returns-then-is_below : goal.returns-then-is_below
returns-then-is_below c =
    subst (λ (k : ℕ). Gathers c.args.places c.args.self.now c.args.start k c.args.first c.loop-place.row) (omega arith)
    (gathers_rest (c.args.stop - c.loop-place.place) c.loop-place.place c.args.places c.args.self.now c.args.start c.args.first c.loop-place.row (rest_none c.args.places c.loop-place.rest c.loop-place.place c.loop-place.invariant.1 (c.is_below.ensures.0 c.if-is_below.true)) c.loop-place.invariant.0)
