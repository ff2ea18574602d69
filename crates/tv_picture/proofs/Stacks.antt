-- What an operation leaves on the stack.
use Rattle.std.proofs.Common.{◌≡◌, ◌≢◌, ◌+◌, ◌-◌, ◌≤◌, ◌<◌, ℕ, List, [], ◌∷◌, ◌++◌, length, get_or, arith, refl, sym, ◌∙◌, ap, subst}
use Rattle.std.specs.Prelude.{Option, Some, None, IsSome, IfSome}
use Rattle.std.specs.Option.{option_and_then}
use Rattle.std.proofs.Math.ListN.{set, get_or-append}
use Rattle.std.proofs.lemmas.List.{get_or-set_same, get_or-set_other, get_or-append_right, set-append_left}
use Rattle.std.proofs.lemmas.Bool.Decides.{nat_tests}
use Rattle.tv_picture.specs.declared.code.Op.{Op}
use Rattle.tv_picture.specs.declared.code.Op.TheVariants.{Empty, One, Sequence, Either, Optional, Group, Many, Times}
use Rattle.tv_picture.specs.Pattern.{Pattern}
use Rattle.tv_picture.specs.Code.{patterns_after, run, top, pattern_of, height_after, height_from}
use Rattle.tv_picture.specs.Machine.{StandsBelow, Made, IsWithin, over_after}

pub stands_kept : {X : Type 0} (R : Pattern → X → Type 0) (xs : List X) (h place : ℕ) (x : X) (ps : List Pattern) → h ≤ place → StandsBelow R xs h ps → StandsBelow R (set xs place x) h ps
stands_kept R xs h place x [] below e = e
stands_kept R xs h place x (p ∷ ps) below (k, e, here, rest) =
    (k, e, (λ d. let other : k ≢ place = λ same. absurd (omega arith) in subst (R p) (sym (get_or-set_other xs place k x d other)) (here d)), stands_kept R xs k place x ps (omega arith) rest)

pub stands_put : {X : Type 0} (R : Pattern → X → Type 0) (xs : List X) (place : ℕ) (x : X) (p : Pattern) (ps out : List Pattern) → place < length xs → StandsBelow R xs place ps → R p x → out ≡ p ∷ ps → StandsBelow R (set xs place x) (place + 1) out
stands_put R xs place x p ps out within rest here e =
    subst (StandsBelow R (set xs place x) (place + 1)) (sym e)
    (place, refl, (λ d. subst (R p) (sym (get_or-set_same xs place x d within)) here), stands_kept R xs place place x ps (omega arith) rest)

-- the top of a stack that isn't empty
abbrev pub OneUp : {X : Type 0} → (Pattern → X → Type 0) → List X → ℕ → List Pattern → Type 0
OneUp {X} R xs h ps = (a : Pattern) × (qs : List Pattern) × (ps ≡ a ∷ qs) × ((d : X) → R a (get_or xs (h - 1) d)) × StandsBelow R xs (h - 1) qs

pub one_up : {X : Type 0} (R : Pattern → X → Type 0) (xs : List X) (h : ℕ) (ps : List Pattern) → 1 ≤ h → StandsBelow R xs h ps → OneUp R xs h ps
one_up R xs h [] high e = absurd (omega arith)
one_up {X} R xs h (p ∷ ps) high (k, e, here, rest) =
    let same : k ≡ h - 1 = omega arith in
    (p, ps, refl, subst (λ (j : ℕ). (d : X) → R p (get_or xs j d)) same here, subst (λ (j : ℕ). StandsBelow R xs j ps) same rest)

abbrev pub TwoUp : {X : Type 0} → (Pattern → X → Type 0) → List X → ℕ → List Pattern → Type 0
TwoUp {X} R xs h ps = (a : Pattern) × (b : Pattern) × (qs : List Pattern) × (ps ≡ b ∷ a ∷ qs) × ((d : X) → R a (get_or xs (h - 2) d)) × ((d : X) → R b (get_or xs (h - 1) d)) × StandsBelow R xs (h - 2) qs

pub two_up : {X : Type 0} (R : Pattern → X → Type 0) (xs : List X) (h : ℕ) (ps : List Pattern) → 2 ≤ h → StandsBelow R xs h ps → TwoUp R xs h ps
two_up {X} R xs h ps high s =
    let b = one_up R xs h ps (omega arith) s in
    let a = one_up R xs (h - 1) b.1 (omega arith) b.4 in
    let same : h - 1 - 1 ≡ h - 2 = omega arith in
    (a.0, b.0, a.1, (b.2 ∙ ap (λ qs. b.0 ∷ qs) a.2), subst (λ (j : ℕ). (d : X) → R a.0 (get_or xs j d)) same a.3, b.3, subst (λ (j : ℕ). StandsBelow R xs j a.1) same a.4)

pub stands_made : {X : Type 0} (R : Pattern → X → Type 0) (xs : List X) (place : ℕ) (x : X) (ps : List Pattern) → place < length xs → Made R xs place x ps → StandsBelow R (set xs place x) (place + 1) ps
stands_made R xs place x [] within m = absurd m
stands_made R xs place x (p ∷ ps) within m = stands_put R xs place x p ps (p ∷ ps) within m.1 m.0 refl

pub made_as : {X : Type 0} (R : Pattern → X → Type 0) (xs : List X) (place : ℕ) (x : X) (ps out : List Pattern) → out ≡ ps → Made R xs place x ps → Made R xs place x out
made_as R xs place x ps out e m = subst (Made R xs place x) (sym e) m

pub joins_two : (h : ℕ) → IsSome (height_after h Sequence) → 2 ≤ h
joins_two h s = grind (arith, nat_tests)

-- at the end of the code one pattern stands, the code's
pub stands_last : {X : Type 0} (R : Pattern → X → Type 0) (xs : List X) (h : ℕ) (ps : List Pattern) (code : List Op) → height_from h [] ≡ Some 1 → ps ≡ run [] code → StandsBelow R xs h ps → (d : X) → R (pattern_of code) (get_or xs 0 d)
stands_last R xs h ps code high e s d =
    let one : h ≡ 1 = cc in
    let t = one_up R xs h ps (omega arith) s in
    let bottom : h - 1 ≡ 0 = omega arith in
    let same : t.0 ≡ pattern_of code = ap top (sym t.2 ∙ e) in
    subst (λ p. R p (get_or xs 0 d)) same (subst (λ (j : ℕ). R t.0 (get_or xs j d)) bottom (t.3 d))

-- what joins two, and what is made of one
pub made_of_two : {X : Type 0} (R : Pattern → X → Type 0) (xs : List X) (h : ℕ) (x d : X) (ps : List Pattern) (op : Op) (f : Pattern → Pattern → Pattern) → 2 ≤ h → StandsBelow R xs h ps → ((a b : Pattern) (qs : List Pattern) → patterns_after (b ∷ a ∷ qs) op ≡ f a b ∷ qs) → ((a b : Pattern) → R a (get_or xs (h - 2) d) → R b (get_or xs (h - 1) d) → R (f a b) x) → Made R xs (h - 2) x (patterns_after ps op)
made_of_two R xs h x d ps op f high s steps makes =
    let t = two_up R xs h ps high s in
    let e : patterns_after ps op ≡ f t.0 t.1 ∷ t.2 = ap (λ qs. patterns_after qs op) t.3 ∙ steps t.0 t.1 t.2 in
    subst (Made R xs (h - 2) x) (sym e) (makes t.0 t.1 (t.4 d) (t.5 d), t.6)

pub made_of_one : {X : Type 0} (R : Pattern → X → Type 0) (xs : List X) (h : ℕ) (x d : X) (ps : List Pattern) (op : Op) (f : Pattern → Pattern) → 1 ≤ h → StandsBelow R xs h ps → ((a : Pattern) (qs : List Pattern) → patterns_after (a ∷ qs) op ≡ f a ∷ qs) → ((a : Pattern) → R a (get_or xs (h - 1) d) → R (f a) x) → Made R xs (h - 1) x (patterns_after ps op)
made_of_one R xs h x d ps op f high s steps makes =
    let t = one_up R xs h ps high s in
    let e : patterns_after ps op ≡ f t.0 ∷ t.1 = ap (λ qs. patterns_after qs op) t.2 ∙ steps t.0 t.1 in
    subst (Made R xs (h - 1) x) (sym e) (makes t.0 (t.3 d), t.4)

pub either_two : (h : ℕ) → IsSome (height_after h Either) → 2 ≤ h
either_two h s = grind (arith, nat_tests)

pub times_one_up : (h n : ℕ) → IsSome (height_after h (Times n)) → 1 ≤ h
times_one_up h n s = grind (arith, nat_tests)

-- ---- how high the stack stands

pub within_now : (most h : ℕ) (ops : List Op) → IsWithin most h ops → h ≤ most
within_now most h [] w = w
within_now most h (op ∷ ops) w = w.0

pub within_next : (most h k : ℕ) (op : Op) (ops : List Op) → height_after h op ≡ Some k → IsWithin most h (op ∷ ops) → IsWithin most k ops
within_next most h k op ops e w = subst (λ (o : Option ℕ). IfSome o (λ j. IsWithin most j ops)) e w.1

pub within_room : (most h : ℕ) (op : Op) (ops : List Op) → IsWithin most h (op ∷ ops) → IfSome (height_after h op) (λ k. k ≤ most)
within_room most h op ops w = room (height_after h op) w.1
  where
    room : (o : Option ℕ) → IfSome o (λ k. IsWithin most k ops) → IfSome o (λ k. k ≤ most)
    room None v = tt
    room (Some k) v = within_now most k ops v

pub after_none : (h k : ℕ) → over_after h Empty ≡ Some k → k ≡ h + 1
after_none h k e = grind (arith, nat_tests)

pub after_one : (h k : ℕ) → over_after h Optional ≡ Some k → (1 ≤ h) × (k ≡ h - 1 + 1)
after_one h k e = (grind (arith, nat_tests), grind (arith, nat_tests))

pub after_two : (h k : ℕ) → over_after h Sequence ≡ Some k → (2 ≤ h) × (k ≡ h - 2 + 1)
after_two h k e = (grind (arith, nat_tests), grind (arith, nat_tests))

bounded : (h k : ℕ) (op : Op) → h ≤ 20 → height_after h op ≡ Some k → k ≤ 20
bounded h k Empty low e = grind (arith, nat_tests)
bounded h k (One mark) low e = grind (arith, nat_tests)
bounded h k Sequence low e = grind (arith, nat_tests)
bounded h k Either low e = grind (arith, nat_tests)
bounded h k Optional low e = grind (arith, nat_tests)
bounded h k Group low e = grind (arith, nat_tests)
bounded h k Many low e = grind (arith, nat_tests)
bounded h k (Times n) low e = grind (arith, nat_tests)

-- code that goes to its end stays within the height for which there is room
pub within_twenty : (h : ℕ) (ops : List Op) (end : ℕ) → h ≤ 20 → height_from h ops ≡ Some end → IsWithin 20 h ops
within_twenty h [] end low e = low
within_twenty h (op ∷ ops) end low e = (low, later (λ k room. within_twenty k ops end room) (height_after h op) refl e)
  where
    later : ((k : ℕ) → k ≤ 20 → height_from k ops ≡ Some end → IsWithin 20 k ops) → (o : Option ℕ) → height_after h op ≡ o → option_and_then (λ k. height_from k ops) o ≡ Some end → IfSome o (λ k. IsWithin 20 k ops)
    later rest None is goes = tt
    later rest (Some k) is goes = rest k (bounded h k op low is) goes

-- ---- operations in place

-- a pattern more
pub stands_pushed : {X : Type 0} (R : Pattern → X → Type 0) (xs : List X) (h k : ℕ) (x : X) (p : Pattern) (ps out : List Pattern) → over_after h Empty ≡ Some k → k ≤ length xs → StandsBelow R xs h ps → R p x → out ≡ p ∷ ps → StandsBelow R (set xs h x) k out
stands_pushed R xs h k x p ps out e room s here steps =
    let up : k ≡ h + 1 = after_none h k e in
    subst (λ (n : ℕ). StandsBelow R (set xs h x) n out) (sym up) (stands_put R xs h x p ps out (omega arith) s here steps)

-- the top one changed
pub stands_changed : {X : Type 0} (R : Pattern → X → Type 0) (xs : List X) (h k : ℕ) (x d : X) (ps : List Pattern) (op : Op) (f : Pattern → Pattern) → over_after h Optional ≡ Some k → h ≤ length xs → StandsBelow R xs h ps → ((a : Pattern) (qs : List Pattern) → patterns_after (a ∷ qs) op ≡ f a ∷ qs) → ((a : Pattern) → R a (get_or xs (h - 1) d) → R (f a) x) → StandsBelow R (set xs (h - 1) x) k (patterns_after ps op)
stands_changed R xs h k x d ps op f e room s steps makes =
    let at = after_one h k e in
    subst (λ (n : ℕ). StandsBelow R (set xs (h - 1) x) n (patterns_after ps op)) (sym at.1)
    (stands_made R xs (h - 1) x (patterns_after ps op) (let high = at.0 in omega (arith, high)) (made_of_one R xs h x d ps op f at.0 s steps makes))

-- the one below the top joined to it, where the top is cut off
pub stands_joined : {X : Type 0} (R : Pattern → X → Type 0) (xs front back : List X) (h k : ℕ) (x d d' : X) (ps : List Pattern) (op : Op) (f : Pattern → Pattern → Pattern) → over_after h Sequence ≡ Some k → h ≤ length xs → xs ≡ front ++ back → length front ≡ h - 1 → StandsBelow R xs h ps → ((a b : Pattern) (qs : List Pattern) → patterns_after (b ∷ a ∷ qs) op ≡ f a b ∷ qs) → ((a b : Pattern) → R a (get_or front (h - 2) d) → R b (get_or back 0 d') → R (f a b) x) → StandsBelow R (set front (h - 2) x ++ back) k (patterns_after ps op)
stands_joined {X} R xs front back h k x d d' ps op f e room cut len s steps makes =
    let at = after_two h k e in
    let high : 2 ≤ h = at.0 in
    let t = two_up R xs h ps high s in
    let lower : get_or xs (h - 2) d ≡ get_or front (h - 2) d = ap (λ ys. get_or ys (h - 2) d) cut ∙ get_or-append front back d (h - 2) (omega (arith, high)) in
    let none : h - 1 - (h - 1) ≡ 0 = omega arith in
    let upper : get_or xs (h - 1) d' ≡ get_or back 0 d' = ap (λ ys. get_or ys (h - 1) d') cut ∙ get_or-append_right front back (h - 1) (h - 1) d' len (omega arith) ∙ ap (λ (i : ℕ). get_or back i d') none in
    let made : Made R xs (h - 2) x (patterns_after ps op) = made_as R xs (h - 2) x (f t.0 t.1 ∷ t.2) (patterns_after ps op) (ap (λ qs. patterns_after qs op) t.3 ∙ steps t.0 t.1 t.2) (makes t.0 t.1 (subst (R t.0) lower (t.4 d)) (subst (R t.1) upper (t.5 d')), t.6) in
    let whole : set xs (h - 2) x ≡ set front (h - 2) x ++ back = ap (λ ys. set ys (h - 2) x) cut ∙ set-append_left front back (h - 2) x (omega (arith, high)) in
    subst (λ (n : ℕ). StandsBelow R (set front (h - 2) x ++ back) n (patterns_after ps op)) (sym at.1)
    (subst (λ ys. StandsBelow R ys (h - 2 + 1) (patterns_after ps op)) whole (stands_made R xs (h - 2) x (patterns_after ps op) (omega (arith, high)) made))
