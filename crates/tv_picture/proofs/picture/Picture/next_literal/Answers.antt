use Rattle.std.proofs.Common.{◌≡◌, ℕ, true, false, arith}
use Rattle.std.specs.Prelude.{Some, None}
use Rattle.tv_picture.specs.Pattern.{IsNextLiteral}
use Rattle.tv_picture.proofs.Laws.{next_stands}
use Rattle.tv_picture.proofs.MatchingLemmas.{next_literal_is}
use Rattle.tv_picture.proofs.Statuses.{ended, is_next, no_next}
use Rattle.tv_picture.proofs.picture.Picture.next_literal.Goals as goal
use Rattle.tv_picture.proofs.picture.Picture.next_literal.Goals.{then-text-eq120-via-then-text-eq120, then-text-eq120-via-else-text-eq120+then-has}

pub returns-then-text-eq120-clause-computed : goal.returns-then-text-eq120-clause-computed
returns-then-text-eq120-clause-computed c = next_literal_is c.args.self.now c.args.text.now None tt none
  where
    none : (ch : ℕ) → IsNextLiteral c.args.self.now c.args.text.now ch → ⊥
    none ch l = elim c.then-text-eq120.branch [
      | then-text-eq120-via-then-text-eq120 w ↦ let room = l.room in let full = w.if-text-eq120.true in omega (arith, room, full)
      | then-text-eq120-via-else-text-eq120+then-has w ↦ l.viable.1 (ended c.args.self.now c.args.text.now c.row-row.result c.row-row.ensures (w.has.ensures.0 w.if-has.true))
    ]

pub returns-in-Only : goal.returns-in-Only
returns-in-Only c =
    let next : IsNextLiteral c.args.self.now c.args.text.now c.in-Only.ch =
    is_next c.args.self.now c.args.text.now c.row-row.result c.in-Only.ch c.row-row.ensures
    (λ has. let yes : c.has.result ≡ true = c.has.ensures.1 has in let no : c.has.result ≡ false = c.if-has.false in cc) (omega arith) c.in-Only.is in record {
      some = next;
      none = tt;
      literal = next_stands c.args.self.now c.args.text.now c.in-Only.ch next;
      computed = next_literal_is c.args.self.now c.args.text.now (Some c.in-Only.ch) next tt;
    }

pub returns-in_default : goal.returns-in_default
returns-in_default c =
    let none : (ch : ℕ) → IsNextLiteral c.args.self.now c.args.text.now ch → ⊥ =
    λ ch l. no_next c.args.self.now c.args.text.now c.row-row.result ch c.row-row.ensures c.in_default.not-Only l in record {
      some = tt;
      none = none;
      literal = tt;
      computed = next_literal_is c.args.self.now c.args.text.now None tt none;
    }
