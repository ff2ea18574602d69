use Rattle.std.proofs.lemmas.List.{length-set}
use Rattle.tv_cells.proofs.DamageLemmas.{hulled-solid, hulled-all, hulled-grows, set-written}
use Rattle.tv_cells.proofs.damage.Damage.grow.Goals as goal

pub invariant_of-self : goal.invariant_of-self
invariant_of-self c =
    let rects = c.self.inside.rects.items in let place = c.args.place in let rect = c.args.rect in
    let is = set-written rects c.deref.result.now c.deref_mut.result.now place _ c.hull.result rect c.deref.ensures.0 c.deref_mut.ensures.value c.hull.ensures in
    rw is (hulled-solid rects place _ rect (rw c.self.view_is c.requires.place) c.self.invariant.0, rw length-set c.self.invariant.1)

pub returns : goal.returns
returns c =
    let rects = c.self.inside.rects.items in let place = c.args.place in let rect = c.args.rect in
    let is = set-written rects c.deref.result.now c.deref_mut.result.now place _ c.hull.result rect c.deref.ensures.0 c.deref_mut.ensures.value c.hull.ensures in
    record {
      added = rw is (hulled-all rects place _ rect (rw c.self.view_is c.requires.place));
      grown = rw (is, ← c.self.view_is) (hulled-grows rects place _ rect (rw c.self.view_is c.requires.place) c.self.invariant.0 c.requires.solid);
    }
