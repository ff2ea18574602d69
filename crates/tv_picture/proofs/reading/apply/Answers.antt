use Rattle.std.proofs.Common.{ℕ, ◌∷◌, ◌≡◌, ◌≤◌, refl, ap, length, subst}
use Rattle.std.specs.Prelude.{Option, Some, IfSome}
use Rattle.tv_picture.specs.declared.code.Op.{Op}
use Rattle.tv_picture.specs.declared.table.Table.{Table}
use Rattle.tv_picture.specs.Code.{patterns_after}
use Rattle.tv_picture.specs.Machine.{over_after}
use Rattle.tv_picture.specs.Pattern.{Pattern, empty, one, sequence, either, optional, many, times}
use Rattle.tv_picture.specs.Table.{HasEachRow}
use Rattle.tv_picture.proofs.Stacks.{stands_pushed, stands_changed, stands_joined}
use Rattle.tv_picture.proofs.reading.apply.Goals as goal

pub returns-in-Empty-clause-tables : goal.returns-in-Empty-clause-tables
returns-in-Empty-clause-tables c = λ ps h e s.
    stands_pushed (λ (p : Pattern) (t : Table). HasEachRow p c.args.text.now t) c.args.tables.now c.args.height h c.set_empty.new.self empty ps (patterns_after ps c.args.op) (subst (λ (op : Op). over_after c.args.height op ≡ Some h) c.in-Empty.is e) (subst (λ (o : Option ℕ). IfSome o (λ k. k ≤ length c.args.tables.now)) e c.requires.room) s (c.set_empty.ensures c.args.text.now refl) (ap (patterns_after ps) c.in-Empty.is)

pub returns-in-One-clause-tables : goal.returns-in-One-clause-tables
returns-in-One-clause-tables c = λ ps h e s.
    stands_pushed (λ (p : Pattern) (t : Table). HasEachRow p c.args.text.now t) c.args.tables.now c.args.height h c.set_one.new.self (one c.in-One.mark) ps (patterns_after ps c.args.op) (subst (λ (op : Op). over_after c.args.height op ≡ Some h) c.in-One.is e) (subst (λ (o : Option ℕ). IfSome o (λ k. k ≤ length c.args.tables.now)) e c.requires.room) s c.set_one.ensures (ap (patterns_after ps) c.in-One.is)

pub returns-in-Sequence-clause-tables : goal.returns-in-Sequence-clause-tables
returns-in-Sequence-clause-tables c = λ ps h e s.
    stands_joined (λ (p : Pattern) (t : Table). HasEachRow p c.args.text.now t) c.args.tables.now c.split_at_mut-before.result.0.now c.split_at_mut-before.result.1.now c.args.height h c.then.new.self _ _ ps c.args.op sequence (subst (λ (op : Op). over_after c.args.height op ≡ Some h) c.in-Sequence.is e) c.requires.within c.split_at_mut-before.ensures.value c.split_at_mut-before.ensures.front_len s (λ a b qs. ap (patterns_after (b ∷ a ∷ qs)) c.in-Sequence.is)
    (λ a b p q. c.then.ensures a b c.args.text.now refl p q)

pub returns-in-Either-clause-tables : goal.returns-in-Either-clause-tables
returns-in-Either-clause-tables c = λ ps h e s.
    stands_joined (λ (p : Pattern) (t : Table). HasEachRow p c.args.text.now t) c.args.tables.now c.split_at_mut-before-in-Either.result.0.now c.split_at_mut-before-in-Either.result.1.now c.args.height h c.or.new.self _ _ ps c.args.op either (subst (λ (op : Op). over_after c.args.height op ≡ Some h) c.in-Either.is e) c.requires.within c.split_at_mut-before-in-Either.ensures.value c.split_at_mut-before-in-Either.ensures.front_len s (λ a b qs. ap (patterns_after (b ∷ a ∷ qs)) c.in-Either.is)
    (λ a b p q. c.or.ensures a b c.args.text.now refl p q)

pub returns-in-Optional-clause-tables : goal.returns-in-Optional-clause-tables
returns-in-Optional-clause-tables c = λ ps h e s.
    stands_changed (λ (p : Pattern) (t : Table). HasEachRow p c.args.text.now t) c.args.tables.now c.args.height h c.set_optional.new.self _ ps c.args.op optional (subst (λ (op : Op). over_after c.args.height op ≡ Some h) c.in-Optional.is e) c.requires.within s (λ a qs. ap (patterns_after (a ∷ qs)) c.in-Optional.is) (λ a p. c.set_optional.ensures a c.args.text.now refl p)

pub returns-in-Many-clause-tables : goal.returns-in-Many-clause-tables
returns-in-Many-clause-tables c = λ ps h e s.
    stands_changed (λ (p : Pattern) (t : Table). HasEachRow p c.args.text.now t) c.args.tables.now c.args.height h c.repeat.new.self _ ps c.args.op many (subst (λ (op : Op). over_after c.args.height op ≡ Some h) c.in-Many.is e) c.requires.within s (λ a qs. ap (patterns_after (a ∷ qs)) c.in-Many.is) (λ a p. c.repeat.ensures a c.args.text.now refl p)

pub returns-in-Times-clause-tables : goal.returns-in-Times-clause-tables
returns-in-Times-clause-tables c = λ ps h e s.
    stands_changed (λ (p : Pattern) (t : Table). HasEachRow p c.args.text.now t) c.args.tables.now c.args.height h c.repeat_times.new.self _ ps c.args.op (times c.in-Times.count) (subst (λ (op : Op). over_after c.args.height op ≡ Some h) c.in-Times.is e) c.requires.within s (λ a qs. ap (patterns_after (a ∷ qs)) c.in-Times.is) (λ a p. c.repeat_times.ensures a c.args.text.now refl p)
