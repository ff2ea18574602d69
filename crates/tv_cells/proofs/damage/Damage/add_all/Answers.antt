use Rattle.std.proofs.Common.{arith, ◌∙◌}
use Rattle.std.proofs.lemmas.List.{take_all}
use Rattle.tv_cells.specs.Rectangle.{shifted}
use Rattle.tv_cells.proofs.DamageLemmas.{grows-none, grows-then, grows-part, moved-none, moved-next, moved-part}
use Rattle.tv_cells.proofs.damage.Damage.add_all.Goals as goal

pub loop-rect-init : goal.loop-rect-init
loop-rect-init c = record { added = moved-none c.args.by c.args.self.now; grown = λ r h. grows-none (shifted r c.args.by) c.args.self.now }

pub loop-rect-preserved : goal.loop-rect-preserved
loop-rect-preserved c =
    let p = c.loop-rect in let m = c.shift in let f = c.args.by in
    record {
      added = moved-next f m.result c.rects-rect-items.result.now p.rect-index _ p.self c.add.new.self (omega arith) m.ensures.points p.invariant.added c.add.ensures.added c.add.ensures.grown;
      grown = λ r h. grows-then (shifted r f) c.args.self.now p.self c.add.new.self (p.invariant.grown r h)
          (grows-part m.result (shifted r f) p.self c.add.new.self (moved-part f m.result r c.rects-rect-items.result.now p.rect-index _ (omega arith) m.ensures.corners h) c.add.ensures.grown);
    }

pub returns : goal.returns
returns c =
    let p = c.loop-rect in
    let all = take_all p.rect-index c.rects-rect-items.result.now (omega arith) ∙ c.rects-rect-items.ensures.rects in
    record { added = rw all at p.invariant.added; grown = λ r h. p.invariant.grown r (rw c.rects-rect-items.ensures.rects h) }
