-- The lowest pattern of the stack, of which the first row is known, and those above it.
use Rattle.std.proofs.Common.{suc, inl, inr, ◌≡◌, ◌+◌, ◌-◌, ◌≤◌, ℕ, List, [], ◌∷◌, ◌++◌, length, length-drop, drop, get_or, true, false, arith, refl, sym, ◌∙◌, ap, subst}
use Rattle.std.specs.Prelude.{Option, Some, None}
use Rattle.std.specs.Option.{option_and_then}
use Rattle.std.proofs.lemmas.Bool.Decides.{nat_tests}
use Rattle.std.proofs.lemmas.List.{drop_all}
use Rattle.tv_picture.specs.declared.code.Mark.{Mark}
use Rattle.tv_picture.specs.declared.code.Op.{Op}
use Rattle.tv_picture.specs.declared.code.Op.TheVariants.{Empty, One, Sequence, Either, Optional, Group, Many, Times}
use Rattle.tv_picture.specs.declared.row.Row.{Row}
use Rattle.tv_picture.specs.declared.table.Table.{Table}
use Rattle.tv_picture.specs.Pattern.{Pattern, one, sequence, many}
use Rattle.tv_picture.specs.Code.{patterns_after, run, top, pattern_of, height_after, height_from}
use Rattle.tv_picture.specs.Machine.{StandsBelow, StandsOn, IsWithin, over_after, leaves_lowest, height_joined}
use Rattle.tv_picture.specs.Table.{IsTableRow, HasEachRow}
use Rattle.tv_picture.proofs.Stacks.{one_up, within_next, after_one, after_two}

-- ---- what stands

stands_none : {X : Type 0} (R : Pattern → X → Type 0) (xs : List X) (h : ℕ) (ps : List Pattern) → h ≡ 0 → StandsBelow R xs h ps → ps ≡ []
stands_none R xs h [] zero s = refl
stands_none R xs h (p ∷ ps) zero (below, e, here, rest) = absurd (omega arith)

pub stands_alone : (text : List ℕ) (first : Row) (tables : List Table) (p : Pattern) (ps : List Pattern) (h : ℕ) → h ≡ 1 → ps ≡ p ∷ [] → IsTableRow p text 0 first → StandsOn text first tables h ps
stands_alone text first tables p ps h up e row = inr ([], p, 0, e, up, row, refl)

abbrev pub Alone : List ℕ → Row → List Pattern → Type 0
Alone text first ps = (p : Pattern) × (ps ≡ p ∷ []) × IsTableRow p text 0 first

pub alone : (text : List ℕ) (first : Row) (tables : List Table) (h : ℕ) (ps : List Pattern) → h ≡ 1 → StandsOn text first tables h ps → Alone text first ps
alone text first tables h ps up (inl (zero, e)) = absurd (omega arith)
alone text first tables h ps up (inr (over, lowest, above, e, f, row, s)) =
    (lowest, e ∙ ap (λ qs. qs ++ lowest ∷ []) (stands_none (λ p t. HasEachRow p text t) tables above over (omega arith) s), row)

-- the lowest and one above it
abbrev pub Pair : List ℕ → Row → List Table → List Pattern → Type 0
Pair text first tables ps = (a : Pattern) × (b : Pattern) × (ps ≡ b ∷ a ∷ []) × IsTableRow a text 0 first × ((d : Table) → HasEachRow b text (get_or tables 0 d))

pub pair : (text : List ℕ) (first : Row) (tables : List Table) (h : ℕ) (ps : List Pattern) → h ≡ 2 → StandsOn text first tables h ps → Pair text first tables ps
pair text first tables h ps two (inl (zero, e)) = absurd (omega arith)
pair text first tables h ps two (inr (over, lowest, above, e, f, row, s)) =
    let b = one_up (λ p t. HasEachRow p text t) tables above over (omega arith) s in
    let bottom : above - 1 ≡ 0 = omega arith in
    let none : b.1 ≡ [] = stands_none (λ p t. HasEachRow p text t) tables (above - 1) b.1 bottom b.4 in
    (lowest, b.0, (e ∙ ap (λ qs. qs ++ lowest ∷ []) (b.2 ∙ ap (λ qs. b.0 ∷ qs) none)), row, subst (λ (j : ℕ). (d : Table) → HasEachRow b.0 text (get_or tables j d)) bottom b.3)

-- ---- operations on the lowest

no_pattern : (text : List ℕ) (first : Row) (tables : List Table) (h : ℕ) (ps : List Pattern) → h ≡ 0 → StandsOn text first tables h ps → ps ≡ []
no_pattern text first tables h ps zero (inl (same, e)) = e
no_pattern text first tables h ps zero (inr (over, lowest, above, e, f, row, s)) = absurd (omega arith)

-- an operation that puts a pattern on the empty stack
pub lowest_pushed : (text : List ℕ) (first result : Row) (tables : List Table) (height h : ℕ) (ps out : List Pattern) (p : Pattern) → leaves_lowest height Empty ≡ false → height_after height Empty ≡ Some h → StandsOn text first tables height ps → out ≡ p ∷ ps → IsTableRow p text 0 result → StandsOn text result tables h out
lowest_pushed text first result tables height h ps out p low e s steps row =
    let zero : height ≡ 0 = grind (arith, nat_tests) in
    let up : h ≡ 1 = grind (arith, nat_tests) in
    stands_alone text result tables p out h up (steps ∙ ap (λ qs. p ∷ qs) (no_pattern text first tables height ps zero s)) row

-- one that changes the lowest pattern
pub lowest_changed : (text : List ℕ) (first result : Row) (tables : List Table) (height h : ℕ) (ps : List Pattern) (op : Op) (f : Pattern → Pattern) → leaves_lowest height Optional ≡ false → height_after height Optional ≡ Some h → StandsOn text first tables height ps → ((a : Pattern) → patterns_after (a ∷ []) op ≡ f a ∷ []) → ((a : Pattern) → IsTableRow a text 0 first → IsTableRow (f a) text 0 result) → StandsOn text result tables h (patterns_after ps op)
lowest_changed text first result tables height h ps op f low e s steps makes =
    let up : height ≡ 1 = grind (arith, nat_tests) in
    let same : h ≡ 1 = grind (arith, nat_tests) in
    let a = alone text first tables height ps up s in
    stands_alone text result tables (f a.0) (patterns_after ps op) h same (ap (λ qs. patterns_after qs op) a.1 ∙ steps a.0) (makes a.0 a.2)

-- one that joins the next pattern to the lowest
pub lowest_joined : (text : List ℕ) (first result : Row) (tables : List Table) (d : Table) (height h : ℕ) (ps : List Pattern) (op : Op) (f : Pattern → Pattern → Pattern) → leaves_lowest height Sequence ≡ false → height_after height Sequence ≡ Some h → StandsOn text first tables height ps → ((a b : Pattern) → patterns_after (b ∷ a ∷ []) op ≡ f a b ∷ []) → ((a b : Pattern) → IsTableRow a text 0 first → HasEachRow b text (get_or tables 0 d) → IsTableRow (f a b) text 0 result) → StandsOn text result tables h (patterns_after ps op)
lowest_joined text first result tables d height h ps op f low e s steps makes =
    let two : height ≡ 2 = grind (arith, nat_tests) in
    let up : h ≡ 1 = grind (arith, nat_tests) in
    let t = pair text first tables height ps two s in
    stands_alone text result tables (f t.0 t.1) (patterns_after ps op) h up (ap (λ qs. patterns_after qs op) t.2 ∙ steps t.0 t.1) (makes t.0 t.1 t.3 (t.4 d))

-- ---- operations above it

over_steps : (R : Pattern → Table → Type 0) (xs : List Table) (over : List Pattern) (lowest : Pattern) (op : Op) (u k : ℕ) → StandsBelow R xs u over → over_after u op ≡ Some k → patterns_after (over ++ lowest ∷ []) op ≡ patterns_after over op ++ lowest ∷ []
over_steps R xs over lowest Empty u k s e = refl
over_steps R xs over lowest (One m) u k s e = refl
over_steps R xs [] lowest Sequence u k s e = absurd (let two = after_two u k e in omega (arith, two.0, s))
over_steps R xs (b ∷ []) lowest Sequence u k (below, f, here, rest) e = absurd (let two = after_two u k e in omega (arith, two.0, f, rest))
over_steps R xs (b ∷ a ∷ qs) lowest Sequence u k s e = refl
over_steps R xs [] lowest Either u k s e = absurd (let two = after_two u k e in omega (arith, two.0, s))
over_steps R xs (b ∷ []) lowest Either u k (below, f, here, rest) e = absurd (let two = after_two u k e in omega (arith, two.0, f, rest))
over_steps R xs (b ∷ a ∷ qs) lowest Either u k s e = refl
over_steps R xs [] lowest Optional u k s e = absurd (let up = after_one u k e in omega (arith, up.0, s))
over_steps R xs (a ∷ qs) lowest Optional u k s e = refl
over_steps R xs [] lowest Group u k s e = absurd (let up = after_one u k e in omega (arith, up.0, s))
over_steps R xs (a ∷ qs) lowest Group u k s e = refl
over_steps R xs [] lowest Many u k s e = absurd (let up = after_one u k e in omega (arith, up.0, s))
over_steps R xs (a ∷ qs) lowest Many u k s e = refl
over_steps R xs [] lowest (Times n) u k s e = absurd (let up = after_one u k e in omega (arith, up.0, s))
over_steps R xs (a ∷ qs) lowest (Times n) u k s e = refl

-- the height above the lowest is one less
abbrev pub IsOver : ℕ → ℕ → Op → Type 0
IsOver h k op = (over_after (h - 1) op ≡ Some (k - 1)) × (1 ≤ h) × (1 ≤ k)

pub over_height : (h k : ℕ) (op : Op) → leaves_lowest h op ≡ true → height_after h op ≡ Some k → IsOver h k op
over_height h k Empty over e = (grind (arith, nat_tests), grind (arith, nat_tests), grind (arith, nat_tests))
over_height h k (One m) over e = (grind (arith, nat_tests), grind (arith, nat_tests), grind (arith, nat_tests))
over_height h k Sequence over e = (grind (arith, nat_tests), grind (arith, nat_tests), grind (arith, nat_tests))
over_height h k Either over e = (grind (arith, nat_tests), grind (arith, nat_tests), grind (arith, nat_tests))
over_height h k Optional over e = (grind (arith, nat_tests), grind (arith, nat_tests), grind (arith, nat_tests))
over_height h k Group over e = (grind (arith, nat_tests), grind (arith, nat_tests), grind (arith, nat_tests))
over_height h k Many over e = (grind (arith, nat_tests), grind (arith, nat_tests), grind (arith, nat_tests))
over_height h k (Times n) over e = (grind (arith, nat_tests), grind (arith, nat_tests), grind (arith, nat_tests))

pub step_over : (text : List ℕ) (first : Row) (old new : List Table) (height k : ℕ) (ps : List Pattern) (op : Op) → leaves_lowest height op ≡ true → height_after height op ≡ Some k → ((qs : List Pattern) (j : ℕ) → over_after (height - 1) op ≡ Some j → StandsBelow (λ p t. HasEachRow p text t) old (height - 1) qs → StandsBelow (λ p t. HasEachRow p text t) new j (patterns_after qs op)) → StandsOn text first old height ps → StandsOn text first new k (patterns_after ps op)
step_over text first old new height k ps op over e makes (inl (zero, none)) = absurd (let o = over_height height k op over e in omega (arith, o.1))
step_over text first old new height k ps op over e makes (inr (qs, lowest, above, whole, f, row, s)) =
    let o = over_height height k op over e in
    let same : above ≡ height - 1 = omega arith in
    let stands = subst (λ (n : ℕ). StandsBelow (λ p t. HasEachRow p text t) old n qs) same s in
    inr (
      patterns_after qs op,
      lowest,
      k - 1,
      ap (λ x. patterns_after x op) whole ∙ over_steps (λ p t. HasEachRow p text t) old qs lowest op (height - 1) (k - 1) stands o.0,
      omega (arith, o.2),
      row,
      makes qs (k - 1) o.0 stands,
    )

-- ---- code that goes on

-- what is left of the code makes the whole code's pattern of what stands
abbrev pub Goes : List ℕ → List Op → Row → List Table → ℕ → ℕ → Type 0
Goes text code first tables h place =
    (height_from h (drop place code) ≡ Some 1)
    × IsWithin (length tables) h (drop place code)
    × (place ≤ length code)
    × ((ps : List Pattern) × (run ps (drop place code) ≡ run [] code) × StandsOn text first tables h ps)

pub goes_on : (text : List ℕ) (code : List Op) (first result : Row) (old new : List Table) (h k place : ℕ) (op : Op) → length new ≡ length old → drop place code ≡ op ∷ drop (suc place) code → height_after h op ≡ Some k → ((ps : List Pattern) → StandsOn text first old h ps → StandsOn text result new k (patterns_after ps op)) → Goes text code first old h place → Goes text code result new k (place + 1)
goes_on text code first result old new h k place op same here e makes (high, within, inside, (ps, runs, stands)) = (
  subst (λ (o : Option ℕ). option_and_then (λ j. height_from j rest) o ≡ Some 1) e (subst (λ (ops : List Op). height_from h ops ≡ Some 1) cut high),
  subst (λ (n : ℕ). IsWithin n k rest) (sym same) (within_next (length old) h k op rest e (subst (IsWithin (length old) h) cut within)),
  omega (arith, length-drop place code, ap length cut),
  (patterns_after ps op, ap (run ps) (sym cut) ∙ runs, makes ps stands),
)
  where
    rest : List Op
    rest = drop (place + 1) code

    cut : drop place code ≡ op ∷ rest
    cut = let next : suc place ≡ place + 1 = omega arith in here ∙ ap (λ (n : ℕ). op ∷ drop n code) next

both_heights : (o : Option ℕ) → option_and_then (λ k. height_after k Sequence) o ≡ Some 1 → (k : ℕ) × (o ≡ Some k) × (height_after k Sequence ≡ Some 1)
both_heights None e = absurd (cc)
both_heights (Some k) e = (k, refl, e)

-- two operations in one step, the second of which joins
pub goes_joined : (text : List ℕ) (code : List Op) (first result : Row) (tables : List Table) (h place : ℕ) (op : Op) → drop place code ≡ op ∷ Sequence ∷ drop (place + 2) code → height_joined h op ≡ Some 1 → ((ps : List Pattern) → StandsOn text first tables h ps → StandsOn text result tables 1 (patterns_after (patterns_after ps op) Sequence)) → Goes text code first tables h place → Goes text code result tables 1 (place + 2)
goes_joined text code first result tables h place op cut heights makes (high, within, inside, (ps, runs, stands)) = (
  subst (λ (o : Option ℕ). option_and_then (λ j. height_from j rest) o ≡ Some 1) k.2
      (subst (λ (o : Option ℕ). option_and_then (λ j. height_from j (Sequence ∷ rest)) o ≡ Some 1) k.1 (subst (λ (ops : List Op). height_from h ops ≡ Some 1) cut high)),
  within_next (length tables) k.0 1 Sequence rest k.2 (within_next (length tables) h k.0 op (Sequence ∷ rest) k.1 (subst (IsWithin (length tables) h) cut within)),
  omega (arith, length-drop place code, ap length cut),
  (patterns_after (patterns_after ps op) Sequence, ap (run ps) (sym cut) ∙ runs, makes ps stands),
)
  where
    rest : List Op
    rest = drop (place + 2) code

    k : (k : ℕ) × (height_after h op ≡ Some k) × (height_after k Sequence ≡ Some 1)
    k = both_heights (height_after h op) heights

-- a mark any number of times at the end of the lowest pattern
pub goes_starred : (text : List ℕ) (code : List Op) (first result : Row) (tables : List Table) (h place : ℕ) (mark : Mark) → h ≡ 1 → drop place code ≡ One mark ∷ Many ∷ Sequence ∷ drop (place + 3) code → ((a : Pattern) → IsTableRow a text 0 first → IsTableRow (sequence a (many (one mark))) text 0 result) → Goes text code first tables h place → Goes text code result tables h (place + 3)
goes_starred text code first result tables h place mark up cut makes (high, within, inside, (ps, runs, stands)) = (
  subst (λ (j : ℕ). height_from j rest ≡ Some 1) (sym up) (subst (λ (ops : List Op). height_from 1 ops ≡ Some 1) cut (subst (λ (j : ℕ). height_from j (drop place code) ≡ Some 1) up high)),
  subst (λ (j : ℕ). IsWithin (length tables) j rest) (sym up) (subst (IsWithin (length tables) 1) cut (subst (λ (j : ℕ). IsWithin (length tables) j (drop place code)) up within)).1.1.1,
  omega (arith, length-drop place code, ap length cut),
  (sequence a.0 (many (one mark)) ∷ [], ap (λ qs. run (patterns_after (patterns_after (patterns_after qs (One mark)) Many) Sequence) rest) (sym a.1) ∙ ap (run ps) (sym cut) ∙ runs, stands_alone text result tables (sequence a.0 (many (one mark))) (sequence a.0 (many (one mark)) ∷ []) h up refl (makes a.0 a.2)),
)
  where
    rest : List Op
    rest = drop (place + 3) code

    a : Alone text first ps
    a = alone text first tables h ps up stands

-- what is joined to the lowest pattern
pub joined_mark : (text : List ℕ) (first result : Row) (tables : List Table) (h : ℕ) (mark : Mark) → h ≡ 1 → ((a : Pattern) → IsTableRow a text 0 first → IsTableRow (sequence a (one mark)) text 0 result) → (ps : List Pattern) → StandsOn text first tables h ps → StandsOn text result tables 1 (patterns_after (patterns_after ps (One mark)) Sequence)
joined_mark text first result tables h mark up makes ps s =
    let a = alone text first tables h ps up s in
    stands_alone text result tables (sequence a.0 (one mark)) (patterns_after (patterns_after ps (One mark)) Sequence) 1 refl (ap (λ qs. patterns_after (patterns_after qs (One mark)) Sequence) a.1) (makes a.0 a.2)

pub joined_repeated : (text : List ℕ) (first result : Row) (tables : List Table) (d : Table) (h : ℕ) (op : Op) (f : Pattern → Pattern) → h ≡ 2 → ((a : Pattern) (qs : List Pattern) → patterns_after (a ∷ qs) op ≡ f a ∷ qs) → ((a b : Pattern) → IsTableRow a text 0 first → HasEachRow b text (get_or tables 0 d) → IsTableRow (sequence a (f b)) text 0 result) → (ps : List Pattern) → StandsOn text first tables h ps → StandsOn text result tables 1 (patterns_after (patterns_after ps op) Sequence)
joined_repeated text first result tables d h op f two steps makes ps s =
    let t = pair text first tables h ps two s in
    stands_alone text result tables (sequence t.0 (f t.1)) (patterns_after (patterns_after ps op) Sequence) 1 refl (ap (λ qs. patterns_after (patterns_after qs op) Sequence) t.2 ∙ ap (λ qs. patterns_after qs Sequence) (steps t.1 (t.0 ∷ []))) (makes t.0 t.1 t.3 (t.4 d))

-- at the end of the code
pub goes_to_end : (text : List ℕ) (code : List Op) (first : Row) (tables : List Table) (h place : ℕ) → length code ≤ place → Goes text code first tables h place → IsTableRow (pattern_of code) text 0 first
goes_to_end text code first tables h place enough (high, within, inside, (ps, runs, stands)) =
    let end : drop place code ≡ [] = drop_all place code enough in
    let last : height_from h [] ≡ Some 1 = ap (height_from h) (sym end) ∙ high in
    let up : h ≡ 1 = cc in
    let a = alone text first tables h ps up stands in
    let same : a.0 ≡ pattern_of code = ap top (sym a.1 ∙ ap (run ps) (sym end) ∙ runs) in
    subst (λ (p : Pattern). IsTableRow p text 0 first) same a.2
