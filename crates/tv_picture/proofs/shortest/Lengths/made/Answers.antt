use Rattle.std.proofs.Common.{ℕ, List, ◌+◌, ◌-◌, ◌*◌, min, refl, sym, subst, get_or}
use Rattle.std.specs.Prelude.{IsSome}
use Rattle.tv_picture.specs.declared.code.Op.{Op}
use Rattle.tv_picture.specs.declared.code.Op.TheVariants.{Sequence, Either, Times}
use Rattle.tv_picture.specs.Pattern.{IsShortest, sequence, either, times}
use Rattle.tv_picture.specs.Code.{patterns_after, height_after}
use Rattle.tv_picture.specs.Machine.{Made}
use Rattle.tv_picture.proofs.Stacks.{made_of_two, made_of_one, joins_two, either_two, times_one_up}
use Rattle.tv_picture.proofs.LengthLemmas.{shortest_sequence, shortest_either, shortest_times}
use Rattle.tv_picture.proofs.shortest.Lengths.made.Goals as goal

pub returns-in-Sequence-clause-length : goal.returns-in-Sequence-clause-length
returns-in-Sequence-clause-length c = λ ps s.
    let h : ℕ = c.args.self.now.height in
    let xs : List ℕ = c.args.self.now.lengths in
    subst (λ (op : Op). Made IsShortest xs (h - 2) c.sum.result (patterns_after ps op)) (sym c.in-Sequence.is)
    (subst (λ (n : ℕ). Made IsShortest xs (h - 2) n (patterns_after ps Sequence)) (sym c.sum.ensures)
    (made_of_two IsShortest xs h (min (get_or xs (h - 2) 0 + get_or xs (h - 1) 0) 121) 0 ps Sequence sequence (joins_two h (subst (λ (op : Op). IsSome (height_after h op)) c.in-Sequence.is c.requires.fits)) s (λ a b qs. refl)
    (λ a b p q. shortest_sequence a b (get_or xs (h - 2) 0) (get_or xs (h - 1) 0) p q)))

pub returns-in-Either-clause-length : goal.returns-in-Either-clause-length
returns-in-Either-clause-length c = λ ps s.
    let h : ℕ = c.args.self.now.height in
    let xs : List ℕ = c.args.self.now.lengths in
    subst (λ (op : Op). Made IsShortest xs (h - 2) c.min.result (patterns_after ps op)) (sym c.in-Either.is)
    (subst (λ (n : ℕ). Made IsShortest xs (h - 2) n (patterns_after ps Either)) (sym c.min.ensures)
    (made_of_two IsShortest xs h (min (get_or xs (h - 2) 0) (get_or xs (h - 1) 0)) 0 ps Either either (either_two h (subst (λ (op : Op). IsSome (height_after h op)) c.in-Either.is c.requires.fits)) s (λ a b qs. refl)
    (λ a b p q. shortest_either a b (get_or xs (h - 2) 0) (get_or xs (h - 1) 0) p q)))

pub returns-in-Times-clause-length : goal.returns-in-Times-clause-length
returns-in-Times-clause-length c = λ ps s.
    let h : ℕ = c.args.self.now.height in
    let xs : List ℕ = c.args.self.now.lengths in
    subst (λ (op : Op). Made IsShortest xs (h - 1) c.product.result (patterns_after ps op)) (sym c.in-Times.is)
    (subst (λ (n : ℕ). Made IsShortest xs (h - 1) n (patterns_after ps (Times c.in-Times.count))) (sym c.product.ensures)
    (made_of_one IsShortest xs h (min (c.in-Times.count * get_or xs (h - 1) 0) 121) 0 ps (Times c.in-Times.count) (times c.in-Times.count) (times_one_up h c.in-Times.count (subst (λ (op : Op). IsSome (height_after h op)) c.in-Times.is c.requires.fits)) s (λ a qs. refl)
    (λ a p. shortest_times a c.in-Times.count (get_or xs (h - 1) 0) p)))
