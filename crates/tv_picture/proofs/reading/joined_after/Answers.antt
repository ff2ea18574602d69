use Rattle.std.proofs.Common.{refl, ◌∷◌, ap, subst, sym}
use Rattle.tv_picture.specs.declared.code.Op.{Op}
use Rattle.tv_picture.specs.declared.code.Op.TheVariants.{Sequence}
use Rattle.tv_picture.specs.Pattern.{many, times}
use Rattle.tv_picture.specs.Code.{patterns_after}
use Rattle.tv_picture.specs.Machine.{StandsOn}
use Rattle.tv_picture.proofs.Lowest.{joined_mark, joined_repeated}
use Rattle.tv_picture.proofs.reading.joined_after.Goals as goal

pub returns-in-One-clause-stack : goal.returns-in-One-clause-stack
returns-in-One-clause-stack c = λ ps s.
    subst (λ (op : Op). StandsOn c.args.text.now c.append.result c.args.tables.now 1 (patterns_after (patterns_after ps op) Sequence)) (sym c.in-One.is)
    (joined_mark c.args.text.now c.args.first c.append.result c.args.tables.now c.args.height c.in-One.mark c.if-height-eq1.true c.append.ensures ps s)

pub returns-in-Many-clause-stack : goal.returns-in-Many-clause-stack
returns-in-Many-clause-stack c = λ ps s.
    joined_repeated c.args.text.now c.args.first c.many_after.result c.args.tables.now _ c.args.height c.args.op many c.if-height-eq2.true (λ a qs. ap (patterns_after (a ∷ qs)) c.in-Many.is) (λ a b p q. c.many_after.ensures a b c.args.text.now refl p q) ps s

pub returns-in-Times-clause-stack : goal.returns-in-Times-clause-stack
returns-in-Times-clause-stack c = λ ps s.
    joined_repeated c.args.text.now c.args.first c.times_after.result c.args.tables.now _ c.args.height c.args.op (times c.in-Times.count) c.if-height-eq2-2.true (λ a qs. ap (patterns_after (a ∷ qs)) c.in-Times.is) (λ a b p q. c.times_after.ensures a b c.args.text.now refl p q) ps s
