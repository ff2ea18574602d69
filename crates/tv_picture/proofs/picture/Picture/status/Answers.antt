use Rattle.std.proofs.Common.{◌≡◌, true, false}
use Rattle.tv_picture.specs.declared.picture.Status.TheVariants.{Complete, Viable, Error}
use Rattle.tv_picture.specs.Pattern.{Begins, IsViable}
use Rattle.tv_picture.proofs.Laws.{begins_take, begins_whole, completed}
use Rattle.tv_picture.proofs.MatchingLemmas.{status_law}
use Rattle.tv_picture.proofs.Statuses.{ended, is_error, is_viable}
use Rattle.tv_picture.proofs.picture.Picture.status.Goals as goal

pub returns-then-has-clause-beginnings : goal.returns-then-has-clause-beginnings
returns-then-has-clause-beginnings c _ k = begins_take c.args.self.now c.args.text.now k (begins_whole c.args.self.now c.args.text.now (ended c.args.self.now c.args.text.now c.row-row.result c.row-row.ensures (c.has.ensures.0 c.if-has.true)))

pub returns-then-has-clause-computed : goal.returns-then-has-clause-computed
returns-then-has-clause-computed c = status_law c.args.self.now c.args.text.now Complete (ended c.args.self.now c.args.text.now c.row-row.result c.row-row.ensures (c.has.ensures.0 c.if-has.true))

in_nothing : (c : goal.In-Nothing) → Begins c.args.self.now c.args.text.now → ⊥
in_nothing c =
    is_error c.args.self.now c.args.text.now c.row-row.result c.row-row.ensures
    (λ has. let yes : c.has.result ≡ true = c.has.ensures.1 has in let no : c.has.result ≡ false = c.if-has.false in cc) c.in-Nothing.is

pub returns-in-Nothing-clause-status : goal.returns-in-Nothing-clause-status
returns-in-Nothing-clause-status c = in_nothing c

pub returns-in-Nothing-clause-computed : goal.returns-in-Nothing-clause-computed
returns-in-Nothing-clause-computed c = status_law c.args.self.now c.args.text.now Error (in_nothing c)

pub returns-in_default : goal.returns-in_default
returns-in_default c =
    let viable : IsViable c.args.self.now c.args.text.now =
    is_viable c.args.self.now c.args.text.now c.row-row.result c.row-row.ensures
    (λ has. let yes : c.has.result ≡ true = c.has.ensures.1 has in let no : c.has.result ≡ false = c.if-has.false in cc) c.in_default.not-Nothing in record {
      status = viable;
      completed = λ _. completed c.args.self.now c.args.text.now viable;
      beginnings = λ _ k. begins_take c.args.self.now c.args.text.now k viable.0;
      computed = status_law c.args.self.now c.args.text.now Viable viable;
    }
