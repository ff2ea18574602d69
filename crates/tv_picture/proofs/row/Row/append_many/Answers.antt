use Rattle.std.proofs.Common.{◌≡◌, inl, inr, true, false, refl}
use Rattle.tv_picture.proofs.Spread.{row_spread}
use Rattle.tv_picture.proofs.row.Row.append_many.Goals as goal

pub returns-then-has : goal.returns-then-has
returns-then-has c = λ a h.
    row_spread a c.args.mark c.args.text.now c.args.self (record { ends = c.spread-ends.result; next = c.join.result }) h c.spread-ends.ensures
    (inl (c.has.ensures.0 c.if-has.true, (c.next.result, c.next.ensures, c.join.ensures)))

pub returns-else-has : goal.returns-else-has
returns-else-has c = λ a h.
    row_spread a c.args.mark c.args.text.now c.args.self (record { ends = c.spread-ends.result; next = c.args.self.next }) h c.spread-ends.ensures
    (inr ((λ has. let yes : c.has.result ≡ true = c.has.ensures.1 has in let no : c.has.result ≡ false = c.if-has.false in cc), refl))
