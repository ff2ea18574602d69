use Rattle.std.proofs.Common.{◌≡◌, ◌∙◌, sym, ap, ℕ, true, false, ◌==◌}
use Rattle.std.proofs.lemmas.Bool.{and_parts, eqb-true}
use Rattle.tv_picture.specs.declared.row.Next.{Next}
use Rattle.tv_picture.specs.declared.row.Next.TheVariants.{Nothing, Only, Several}
use Rattle.tv_picture.specs.declared.row.Row.{Row}
use Rattle.tv_picture.specs.contracts.row.RowPartialEq.TheImpl.{eq-value}
use Rattle.tv_picture.proofs.row.Row.is.Goals as goal

abbrev row : ℕ → Next → Row
row b n = record { ends = record { bits = b }; next = n }

same_row : (b d : ℕ) (n m : Next) → eq-value.it (row b n) (row d m) ≡ true → row b n ≡ row d m
same_row b d Nothing Nothing e = ap (λ (x : ℕ). row x Nothing) (eqb-true b d (and_parts (b == d) true e).0)
same_row b d Several Several e = ap (λ (x : ℕ). row x Several) (eqb-true b d (and_parts (b == d) true e).0)
same_row b d (Only x) (Only y) e = ap (λ (z : ℕ). row z (Only x)) (eqb-true b d (and_parts (b == d) (x == y) e).0) ∙ ap (λ (z : ℕ). row d (Only z)) (eqb-true x y (and_parts (b == d) (x == y) e).1)
same_row b d Nothing (Only y) e = let no : false ≡ true = (and_parts (b == d) false e).1 in cc
same_row b d Nothing Several e = let no : false ≡ true = (and_parts (b == d) false e).1 in cc
same_row b d (Only x) Nothing e = let no : false ≡ true = (and_parts (b == d) false e).1 in cc
same_row b d (Only x) Several e = let no : false ≡ true = (and_parts (b == d) false e).1 in cc
same_row b d Several Nothing e = let no : false ≡ true = (and_parts (b == d) false e).1 in cc
same_row b d Several (Only y) e = let no : false ≡ true = (and_parts (b == d) false e).1 in cc

pub returns : goal.returns
returns c = λ e. same_row c.args.self.ends.bits c.args.other.ends.bits c.args.self.next c.args.other.next (sym c.eq.ensures ∙ e)
