use Rattle.std.proofs.Common.{◌≡◌, ℕ, Bool, List, ◌++◌, map, ap, ◌∙◌}
use Rattle.tv_model.specs.Faults.{fault_at}
use Rattle.tv_model.specs.Faults.Lines.{line_if}
use Rattle.tv_model.proofs.EachAfterLemmas.{where_next}
use Rattle.tv_faults.proofs.line.add_where.Goals as goal

-- the line by its number
by_number : {F : Type 0} (f : ℕ → F) (found now : List F) (b : Bool) (n line : ℕ) → now ≡ found ++ map f (line_if b n) → n ≡ line → now ≡ found ++ map f (line_if b line)
by_number f found now b n line is same = is ∙ ap (λ m. found ++ map f (line_if b m)) same

pub loop-i-preserved : goal.loop-i-preserved
loop-i-preserved g c = λ has same.
    where_next (fault_at c.args.kind) g.L.Line.number has c.args.lines.now c.args.faulty.now c.loop-i.i _ c.index-lines-i.result c.loop-i-test.true same c.index-lines-i.is
    c.loop-i.found c.add_if.new.found _ (by_number (fault_at c.args.kind) c.loop-i.found c.add_if.new.found _ c.number.result _ c.in_ok-add_if.ensures c.number.ensures) (c.loop-i.invariant has same)
