-- The parser takes each picture's text, and has its pattern at the end.
use Rattle.std.proofs.Common.{inl, inr, ◌≡◌, ◌≢◌, ◌⊎◌, ◌+◌, ◌-◌, ◌*◌, ◌/◌, ◌%◌, ◌≤◌, ◌<◌, ℕ, List, [], ◌∷◌, ◌++◌, length, arith, refl, sym, ◌∙◌, ap, subst, Bool, true, false, cond, ◌==◌, ◌&&◌, nat_lt, nat_le, get_or}
use Rattle.std.specs.Prelude.{Option, Some, None, codes}
use Rattle.std.specs.Option.{option_and_then}
use Rattle.std.proofs.lemmas.Bool.Decides.{eqb_tells, nat_tests}
use Rattle.tv_picture.specs.declared.code.Mark.{Mark}
use Rattle.tv_picture.specs.declared.code.Mark.TheVariants.{Digit, Letter, Capital, Any, NotLower, Literal, Quoted}
use Rattle.tv_picture.specs.declared.parser.Bracket.{Bracket}
use Rattle.tv_picture.specs.declared.parser.Bracket.TheVariants.{Square, Curly}
use Rattle.tv_picture.specs.declared.parser.Repeat.{Repeat}
use Rattle.tv_picture.specs.declared.parser.Repeat.TheVariants.{Once, Many, Times}
use Rattle.tv_picture.specs.declared.parser.Open.{Open}
use Rattle.tv_picture.specs.Pattern.{Pattern, empty, one, sequence, either, optional, group, many, times, IsDigit}
use Rattle.tv_picture.specs.Spelling.{count_text, spelled, IsPlain, rank, depth, IsBase, IsMark, IsGrammatical, IsPicture}
use Rattle.tv_picture.specs.Parsing.{Reading, part_finished, with_single_mark, bracket_opened, bracket_closed, counted_as, plain_step, text_step, text_steps, nothing_parsed}

abbrev pub state : List Pattern → Option ℕ → List Open → Bool → Repeat → Bool → Reading
state s h os c r q = record { built = record { stack = s; height = h }; brackets = os; choice = c; repeat = r; quoted = q }

abbrev pub repeated : Repeat → Pattern → Pattern
repeated Once a = a
repeated Many a = many a
repeated (Times n) a = times n a

-- the text leads to these patterns, whatever the height
abbrev pub Goes : Reading → List ℕ → List Pattern → List Open → Bool → Type 0
Goes r text s os c = (h : Option ℕ) × (text_steps r text ≡ Some (state s h os c Once false))

pub steps-append : (r : Reading) (x y : List ℕ) → text_steps r (x ++ y) ≡ option_and_then (λ s. text_steps s y) (text_steps r x)
steps-append r [] y = refl
steps-append r (c ∷ x) y = later (text_step r c) (λ s. steps-append s x y)
  where
    later : (o : Option Reading) → ((s : Reading) → text_steps s (x ++ y) ≡ option_and_then (λ t. text_steps t y) (text_steps s x)) → option_and_then (λ s. text_steps s (x ++ y)) o ≡ option_and_then (λ t. text_steps t y) (option_and_then (λ s. text_steps s x) o)
    later None rest = refl
    later (Some s) rest = rest s

pub steps_then : (r s : Reading) (x y : List ℕ) (out : Option Reading) → text_steps r x ≡ Some s → text_steps s y ≡ out → text_steps r (x ++ y) ≡ out
steps_then r s x y out e f = steps-append r x y ∙ ap (option_and_then (λ t. text_steps t y)) e ∙ f

goes_then : (r s : Reading) (x y : List ℕ) (ps : List Pattern) (os : List Open) (c : Bool) → text_steps r x ≡ Some s → Goes s y ps os c → Goes r (x ++ y) ps os c
goes_then r s x y ps os c e g = (g.0, steps_then r s x y (Some (state ps g.0 os c Once false)) e g.1)

goes_on : (r : Reading) (x y : List ℕ) (ps qs : List Pattern) (os os' : List Open) (c c' : Bool) → Goes r x ps os c → ((h : Option ℕ) → Goes (state ps h os c Once false) y qs os' c') → Goes r (x ++ y) qs os' c'
goes_on r x y ps qs os os' c c' g more = goes_then r (state ps g.0 os c Once false) x y qs os' c' g.1 (more g.0)

-- a part on top of the stack goes into the sequence below it
finished_as : (a x : Pattern) (s : List Pattern) (h : Option ℕ) (os : List Open) (c : Bool) (r : Repeat) (q : Bool) → (k : Option ℕ) × (part_finished (state (a ∷ x ∷ s) h os c r q) ≡ state (sequence x (repeated r a) ∷ s) k os c Once false)
finished_as a x s h os c Once q = (_, refl)
finished_as a x s h os c Many q = (_, refl)
finished_as a x s h os c (Times n) q = (_, refl)

marked : (m : Mark) (x : Pattern) (s : List Pattern) (h : Option ℕ) (os : List Open) (c : Bool) (r : Repeat) (q : Bool) → (k : Option ℕ) × (with_single_mark (state (x ∷ s) h os c r q) m ≡ state (sequence x (repeated r (one m)) ∷ s) k os c Once false)
marked m x s h os c r q = finished_as (one m) x s (option_and_then (λ k. Rattle.tv_picture.specs.Code.height_after k (Rattle.tv_picture.specs.declared.code.Op.TheVariants.One m)) h) os c r q

-- ---- characters

apart : (c n : ℕ) → c ≢ n → (c == n) ≡ false
apart c n h = told (eqb_tells c n)
  where
    told : ((c == n) ≡ true) × (c ≡ n) ⊎ ((c == n) ≡ false) × (c ≢ n) → (c == n) ≡ false
    told (inl e) = absurd (h e.1)
    told (inr e) = e.0

-- none of the characters with a meaning
abbrev pub IsNone : ℕ → Type 0
IsNone c = ((c == 35) ≡ false) × ((c == 63) ≡ false) × ((c == 38) ≡ false) × ((c == 64) ≡ false) × ((c == 33) ≡ false) × ((c == 59) ≡ false) × ((c == 42) ≡ false) × ((c == 91) ≡ false) × ((c == 123) ≡ false) × ((c == 93) ≡ false) × ((c == 125) ≡ false) × ((c == 44) ≡ false)

pub skip : {A : Type 0} (b : Bool) (x y : A) → b ≡ false → cond b x y ≡ y
skip b x y e = ap (λ t. cond t x y) e

pub held : {A : Type 0} (b : Bool) (x y : A) → b ≡ true → cond b x y ≡ x
held b x y e = ap (λ t. cond t x y) e

pub below : (m n : ℕ) → m < n → nat_lt m n ≡ true
below m n h = grind (arith, nat_tests)

pub at_most : (m n : ℕ) → m ≤ n → nat_le m n ≡ true
at_most m n h = grind (arith, nat_tests)

literal_step : (r : Reading) (c : ℕ) → IsNone c → plain_step r c ≡ cond (nat_le 48 c && nat_le c 57) (counted_as r (c - 48) r.repeat) (Some (with_single_mark r (Literal c)))
literal_step r c n = rw (n.0, n.1, n.2, n.3, n.4, n.5, n.6, n.7, n.8, n.9, n.10, n.11) refl

plain_apart : (c k n : ℕ) → IsPlain c → k < 12 → get_or (codes "#?&@!;*[]{},") k c ≡ n → (c == n) ≡ false
plain_apart c k n plain within e = apart c n (λ same. plain (k, within, e ∙ sym same))

plain_none : (c : ℕ) → IsPlain c → IsNone c
plain_none c h = (plain_apart c 0 35 h (omega arith) refl, plain_apart c 1 63 h (omega arith) refl, plain_apart c 2 38 h (omega arith) refl, plain_apart c 3 64 h (omega arith) refl, plain_apart c 4 33 h (omega arith) refl, plain_apart c 5 59 h (omega arith) refl, plain_apart c 6 42 h (omega arith) refl, plain_apart c 7 91 h (omega arith) refl, plain_apart c 9 123 h (omega arith) refl, plain_apart c 8 93 h (omega arith) refl, plain_apart c 10 125 h (omega arith) refl, plain_apart c 11 44 h (omega arith) refl)

digit_none : (d : ℕ) → d < 10 → IsNone (48 + d)
digit_none d h = (apart (48 + d) 35 (λ e. omega arith), apart (48 + d) 63 (λ e. omega arith), apart (48 + d) 38 (λ e. omega arith), apart (48 + d) 64 (λ e. omega arith), apart (48 + d) 33 (λ e. omega arith), apart (48 + d) 59 (λ e. omega arith), apart (48 + d) 42 (λ e. omega arith), apart (48 + d) 91 (λ e. omega arith), apart (48 + d) 123 (λ e. omega arith), apart (48 + d) 93 (λ e. omega arith), apart (48 + d) 125 (λ e. omega arith), apart (48 + d) 44 (λ e. omega arith))

pub is_digit : (c : ℕ) → ((nat_le 48 c && nat_le c 57) ≡ true) × IsDigit c ⊎ ((nat_le 48 c && nat_le c 57) ≡ false) × (IsDigit c → ⊥)
is_digit c = grind (arith, nat_tests)

pub digit_step : (r : Reading) (d : ℕ) → d < 10 → plain_step r (48 + d) ≡ counted_as r d r.repeat
digit_step r d h = literal_step r (48 + d) (digit_none d h) ∙ told (is_digit (48 + d))
  where
    told : ((nat_le 48 (48 + d) && nat_le (48 + d) 57) ≡ true) × IsDigit (48 + d) ⊎ ((nat_le 48 (48 + d) && nat_le (48 + d) 57) ≡ false) × (IsDigit (48 + d) → ⊥) → cond (nat_le 48 (48 + d) && nat_le (48 + d) 57) (counted_as r (48 + d - 48) r.repeat) (Some (with_single_mark r (Literal (48 + d)))) ≡ counted_as r d r.repeat
    told (inl e) = ap (λ t. cond t (counted_as r (48 + d - 48) r.repeat) (Some (with_single_mark r (Literal (48 + d))))) e.0 ∙ ap (λ (n : ℕ). counted_as r n r.repeat) (omega arith)
    told (inr e) = absurd (e.1 (omega arith, omega arith))

-- ---- counts

counted_first : (r : Reading) (n : ℕ) → 0 < n → counted_as r n Many ≡ Some (record { built = r.built; brackets = r.brackets; choice = r.choice; repeat = Times n; quoted = false })
counted_first r n h = held (nat_lt 0 n) (Some (record { built = r.built; brackets = r.brackets; choice = r.choice; repeat = Times n; quoted = false })) None (below 0 n h)

counted_more : (r : Reading) (n d : ℕ) → n * 10 + d ≤ 120 → counted_as r d (Times n) ≡ Some (record { built = r.built; brackets = r.brackets; choice = r.choice; repeat = Times (n * 10 + d); quoted = false })
counted_more r n d h = held (nat_le (n * 10 + d) 120) (Some (record { built = r.built; brackets = r.brackets; choice = r.choice; repeat = Times (n * 10 + d); quoted = false })) None (at_most (n * 10 + d) 120 h)

one_step : (r s : Reading) (c : ℕ) → r.quoted ≡ false → plain_step r c ≡ Some s → text_steps r (c ∷ []) ≡ Some s
one_step r s c unquoted e = ap (λ q. option_and_then (λ t. text_steps t []) (cond q (Some (with_single_mark r (Quoted c))) (plain_step r c))) unquoted ∙ ap (option_and_then (λ t. text_steps t [])) e

first_digit : (s : List Pattern) (h : Option ℕ) (os : List Open) (c : Bool) (n : ℕ) → 0 < n → n < 10 → text_steps (state s h os c Many false) ((48 + n) ∷ []) ≡ Some (state s h os c (Times n) false)
first_digit s h os c n low high = one_step (state s h os c Many false) (state s h os c (Times n) false) (48 + n) refl (digit_step (state s h os c Many false) n high ∙ counted_first (state s h os c Many false) n low)

next_digit : (s : List Pattern) (h : Option ℕ) (os : List Open) (c : Bool) (n d m : ℕ) → d < 10 → m ≡ n * 10 + d → m ≤ 120 → text_steps (state s h os c (Times n) false) ((48 + d) ∷ []) ≡ Some (state s h os c (Times m) false)
next_digit s h os c n d m low e high = one_step (state s h os c (Times n) false) (state s h os c (Times m) false) (48 + d) refl
    (digit_step (state s h os c (Times n) false) d low ∙ counted_more (state s h os c (Times n) false) n d (omega arith) ∙ ap (λ (k : ℕ). Some (state s h os c (Times k) false)) (sym e))

count_goes : (s : List Pattern) (h : Option ℕ) (os : List Open) (c : Bool) (n : ℕ) → 1 ≤ n → n ≤ 120 → text_steps (state s h os c Many false) (count_text n) ≡ Some (state s h os c (Times n) false)
count_goes s h os c n low high = cases (tens 10) (tens 100)
  where
    tens : (k : ℕ) → ((nat_lt n k) ≡ true) × (n < k) ⊎ ((nat_lt n k) ≡ false) × (k ≤ n)
    tens k = grind (arith, nat_tests)

    cases : ((nat_lt n 10) ≡ true) × (n < 10) ⊎ ((nat_lt n 10) ≡ false) × (10 ≤ n) → ((nat_lt n 100) ≡ true) × (n < 100) ⊎ ((nat_lt n 100) ≡ false) × (100 ≤ n) → text_steps (state s h os c Many false) (count_text n) ≡ Some (state s h os c (Times n) false)
    cases (inl (e, small)) _ = subst (λ (b : Bool). text_steps (state s h os c Many false) (cond b ((48 + n) ∷ []) (cond (nat_lt n 100) ((48 + n / 10) ∷ (48 + n % 10) ∷ []) ((48 + n / 100) ∷ (48 + n / 10 % 10) ∷ (48 + n % 10) ∷ []))) ≡ Some (state s h os c (Times n) false)) (sym e) (first_digit s h os c n (omega arith) small)
    cases (inr (e, big)) (inl (f, small)) = subst (λ (b : Bool). text_steps (state s h os c Many false) (cond b ((48 + n) ∷ []) (cond (nat_lt n 100) ((48 + n / 10) ∷ (48 + n % 10) ∷ []) ((48 + n / 100) ∷ (48 + n / 10 % 10) ∷ (48 + n % 10) ∷ []))) ≡ Some (state s h os c (Times n) false)) (sym e)
        (subst (λ (b : Bool). text_steps (state s h os c Many false) (cond b ((48 + n / 10) ∷ (48 + n % 10) ∷ []) ((48 + n / 100) ∷ (48 + n / 10 % 10) ∷ (48 + n % 10) ∷ [])) ≡ Some (state s h os c (Times n) false)) (sym f)
        (steps_then (state s h os c Many false) (state s h os c (Times (n / 10)) false) ((48 + n / 10) ∷ []) ((48 + n % 10) ∷ []) (Some (state s h os c (Times n) false)) (first_digit s h os c (n / 10) (omega arith) (omega arith)) (next_digit s h os c (n / 10) (n % 10) n (omega arith) (omega arith) high)))
    cases (inr (e, big)) (inr (f, huge)) = subst (λ (b : Bool). text_steps (state s h os c Many false) (cond b ((48 + n) ∷ []) (cond (nat_lt n 100) ((48 + n / 10) ∷ (48 + n % 10) ∷ []) ((48 + n / 100) ∷ (48 + n / 10 % 10) ∷ (48 + n % 10) ∷ []))) ≡ Some (state s h os c (Times n) false)) (sym e)
        (subst (λ (b : Bool). text_steps (state s h os c Many false) (cond b ((48 + n / 10) ∷ (48 + n % 10) ∷ []) ((48 + n / 100) ∷ (48 + n / 10 % 10) ∷ (48 + n % 10) ∷ [])) ≡ Some (state s h os c (Times n) false)) (sym f)
        (steps_then (state s h os c Many false) (state s h os c (Times (n / 100)) false) ((48 + n / 100) ∷ []) ((48 + n / 10 % 10) ∷ (48 + n % 10) ∷ []) (Some (state s h os c (Times n) false)) (first_digit s h os c (n / 100) (omega arith) (omega arith))
        (steps_then (state s h os c (Times (n / 100)) false) (state s h os c (Times (n / 10)) false) ((48 + n / 10 % 10) ∷ []) ((48 + n % 10) ∷ []) (Some (state s h os c (Times n) false)) (next_digit s h os c (n / 100) (n / 10 % 10) (n / 10) (omega arith) (omega arith) (omega arith)) (next_digit s h os c (n / 10) (n % 10) n (omega arith) (omega arith) high))))

-- ---- what each part of a picture leads to

abbrev pub is_either : Pattern → Bool
is_either (either a b) = true
is_either _ = false

-- alternatives before the comma or bracket after them
abbrev pub pending : Pattern → List Pattern → List Pattern
pending (either a b) s = b ∷ a ∷ s
pending a s = a ∷ s

abbrev Base : Pattern → Type 0
Base a = (x : Pattern) (s : List Pattern) (h : Option ℕ) (os : List Open) (c : Bool) (r : Repeat) → depth a + length os ≤ 8 → (r ≡ Once) ⊎ IsBase a → Goes (state (x ∷ s) h os c r false) (spelled a) (sequence x (repeated r a) ∷ s) os c

abbrev Element : Pattern → Type 0
Element a = (x : Pattern) (s : List Pattern) (h : Option ℕ) (os : List Open) (c : Bool) → depth a + length os ≤ 8 → Goes (state (x ∷ s) h os c Once false) (spelled a) (sequence x a ∷ s) os c

abbrev Line : Pattern → Type 0
Line a = (s : List Pattern) (h : Option ℕ) (os : List Open) (c : Bool) → depth a + length os ≤ 8 → Goes (state (empty ∷ s) h os c Once false) (spelled a) (a ∷ s) os c

abbrev Choice : Pattern → Type 0
Choice a = (s : List Pattern) (h : Option ℕ) (os : List Open) → depth a + length os ≤ 8 → Goes (state (empty ∷ s) h os false Once false) (spelled a) (pending a s) os (is_either a)

record Claims (a : Pattern) : Type 0 where
  base : rank a ≡ 0 → Base a
  element : rank a ≤ 1 → Element a
  line : rank a ≡ 2 → Line a
  choice : 2 ≤ rank a → Choice a

base_mark : (m : Mark) → IsMark m → Base (one m)
base_mark Digit plain x s h os c r deep b = let f = marked Digit x s h os c r false in (f.0, ap Some f.1)
base_mark Letter plain x s h os c r deep b = let f = marked Letter x s h os c r false in (f.0, ap Some f.1)
base_mark Capital plain x s h os c r deep b = let f = marked Capital x s h os c r false in (f.0, ap Some f.1)
base_mark Any plain x s h os c r deep b = let f = marked Any x s h os c r false in (f.0, ap Some f.1)
base_mark NotLower plain x s h os c r deep b = let f = marked NotLower x s h os c r false in (f.0, ap Some f.1)
base_mark (Quoted d) plain x s h os c r deep b = let f = marked (Quoted d) x s h os c r true in (f.0, ap Some f.1)
base_mark (Literal d) plain x s h os c r deep b = cases (is_digit d) b
  where
    go : plain_step (state (x ∷ s) h os c r false) d ≡ Some (with_single_mark (state (x ∷ s) h os c r false) (Literal d)) → Goes (state (x ∷ s) h os c r false) (d ∷ []) (sequence x (repeated r (one (Literal d))) ∷ s) os c
    go e = let f = marked (Literal d) x s h os c r false in (f.0, one_step (state (x ∷ s) h os c r false) (with_single_mark (state (x ∷ s) h os c r false) (Literal d)) d refl e ∙ ap Some f.1)

    cases : ((nat_le 48 d && nat_le d 57) ≡ true) × IsDigit d ⊎ ((nat_le 48 d && nat_le d 57) ≡ false) × (IsDigit d → ⊥) → (r ≡ Once) ⊎ IsBase (one (Literal d)) → Goes (state (x ∷ s) h os c r false) (d ∷ []) (sequence x (repeated r (one (Literal d))) ∷ s) os c
    cases (inr e) _ = go (literal_step (state (x ∷ s) h os c r false) d (plain_none d plain) ∙ skip (nat_le 48 d && nat_le d 57) (counted_as (state (x ∷ s) h os c r false) (d - 48) r) (Some (with_single_mark (state (x ∷ s) h os c r false) (Literal d))) e.0)
    cases (inl e) (inr barred) = absurd (barred e.1)
    cases (inl e) (inl once) = go (literal_step (state (x ∷ s) h os c r false) d (plain_none d plain)
        ∙ ap (λ t. cond t (counted_as (state (x ∷ s) h os c r false) (d - 48) r) (Some (with_single_mark (state (x ∷ s) h os c r false) (Literal d)))) e.0
        ∙ ap (counted_as (state (x ∷ s) h os c r false) (d - 48)) once
        ∙ ap (λ (n : ℕ). Some (with_single_mark (state (x ∷ s) h os c r false) (Literal n))) (let d' = e.1 in omega arith))

element_of_base : (a : Pattern) → Base a → Element a
element_of_base a b x s h os c deep = b x s h os c Once deep (inl refl)

choice_of_line : (a : Pattern) → ((s : List Pattern) → pending a s ≡ a ∷ s) → is_either a ≡ false → Line a → Choice a
choice_of_line a p f l s h os deep =
    subst (λ (b : Bool). Goes (state (empty ∷ s) h os false Once false) (spelled a) (pending a s) os b) (sym f)
    (subst (λ ps. Goes (state (empty ∷ s) h os false Once false) (spelled a) ps os false) (sym (p s)) (l s h os false deep))

-- ---- brackets

abbrev pub bracketed : Bracket → Pattern → Pattern
bracketed Square a = optional a
bracketed Curly a = group a

opening : (b : Bracket) (s : List Pattern) (h : Option ℕ) (os : List Open) (c : Bool) (r : Repeat) → length os < 8 → (k : Option ℕ) × (bracket_opened (state s h os c r false) b ≡ Some (state (empty ∷ s) k ((record { bracket = b; repeat = r; choice = c }) ∷ os) false Once false))
opening b s h os c r few = (_, held (nat_lt (length os) 8) (Some (state (empty ∷ s) _ ((record { bracket = b; repeat = r; choice = c }) ∷ os) false Once false)) None (below (length os) 8 few))

closing_of : (b : Bracket) (a x : Pattern) (s : List Pattern) (h : Option ℕ) (os : List Open) (c : Bool) (r : Repeat) → (k : Option ℕ) × (part_finished (state (bracketed b a ∷ x ∷ s) h os c r false) ≡ state (sequence x (repeated r (bracketed b a)) ∷ s) k os c Once false)
closing_of b a x s h os c r = finished_as (bracketed b a) x s h os c r false

closing : (b : Bracket) (a x : Pattern) (s : List Pattern) (h : Option ℕ) (os : List Open) (c : Bool) (r : Repeat) → 2 ≤ rank a → (k : Option ℕ) × (bracket_closed (state (pending a (x ∷ s)) h ((record { bracket = b; repeat = r; choice = c }) ∷ os) (is_either a) Once false) b ≡ Some (state (sequence x (repeated r (bracketed b a)) ∷ s) k os c Once false))
closing Square empty x s h os c r high = let f = closing_of Square empty x s _ os c r in (f.0, ap Some f.1)
closing Curly empty x s h os c r high = let f = closing_of Curly empty x s _ os c r in (f.0, ap Some f.1)
closing Square (sequence a b) x s h os c r high = let f = closing_of Square (sequence a b) x s _ os c r in (f.0, ap Some f.1)
closing Curly (sequence a b) x s h os c r high = let f = closing_of Curly (sequence a b) x s _ os c r in (f.0, ap Some f.1)
closing Square (either a b) x s h os c r high = let f = closing_of Square (either a b) x s _ os c r in (f.0, ap Some f.1)
closing Curly (either a b) x s h os c r high = let f = closing_of Curly (either a b) x s _ os c r in (f.0, ap Some f.1)
closing d (one m) x s h os c r high = absurd (omega arith)
closing d (optional a) x s h os c r high = absurd (omega arith)
closing d (group a) x s h os c r high = absurd (omega arith)
closing d (many a) x s h os c r high = absurd (omega arith)
closing d (times n a) x s h os c r high = absurd (omega arith)

base_bracketed : (b : Bracket) (p q : ℕ) (a : Pattern) → ((r : Reading) → r.quoted ≡ false → text_step r p ≡ bracket_opened r b) → ((r : Reading) → r.quoted ≡ false → text_step r q ≡ bracket_closed r b) → 2 ≤ rank a → Choice a → (x : Pattern) (s : List Pattern) (h : Option ℕ) (os : List Open) (c : Bool) (r : Repeat) → depth a + 1 + length os ≤ 8 → Goes (state (x ∷ s) h os c r false) (((p ∷ []) ++ spelled a) ++ q ∷ []) (sequence x (repeated r (bracketed b a)) ∷ s) os c
base_bracketed b p q a opens closes high inner x s h os c r deep =
    let o = opening b (x ∷ s) h os c r (omega arith) in
    let frame : Open = record { bracket = b; repeat = r; choice = c } in
    let first : text_steps (state (x ∷ s) h os c r false) (p ∷ []) ≡ Some (state (empty ∷ x ∷ s) o.0 (frame ∷ os) false Once false) =
    ap (option_and_then (λ t. text_steps t [])) (opens (state (x ∷ s) h os c r false) refl ∙ o.1) in
    let middle = goes_then (state (x ∷ s) h os c r false) (state (empty ∷ x ∷ s) o.0 (frame ∷ os) false Once false) (p ∷ []) (spelled a) (pending a (x ∷ s)) (frame ∷ os) (is_either a) first (inner (x ∷ s) o.0 (frame ∷ os) (omega arith)) in
    goes_on (state (x ∷ s) h os c r false) ((p ∷ []) ++ spelled a) (q ∷ []) (pending a (x ∷ s)) (sequence x (repeated r (bracketed b a)) ∷ s) (frame ∷ os) os (is_either a) c middle
    (λ k. let e = closing b a x s k os c r high in (e.0, ap (option_and_then (λ t. text_steps t [])) (closes (state (pending a (x ∷ s)) k (frame ∷ os) (is_either a) Once false) refl ∙ e.1)))

pub unquoted_step : (r : Reading) (c : ℕ) → r.quoted ≡ false → text_step r c ≡ plain_step r c
unquoted_step r c e = skip r.quoted (Some (with_single_mark r (Quoted c))) (plain_step r c) e

base_optional : (a : Pattern) → 2 ≤ rank a → Choice a → Base (optional a)
base_optional a high inner x s h os c r deep _ = base_bracketed Square 91 93 a (λ t e. unquoted_step t 91 e) (λ t e. unquoted_step t 93 e) high inner x s h os c r deep

base_group : (a : Pattern) → 2 ≤ rank a → Choice a → Base (group a)
base_group a high inner x s h os c r deep _ = base_bracketed Curly 123 125 a (λ t e. unquoted_step t 123 e) (λ t e. unquoted_step t 125 e) high inner x s h os c r deep

-- ---- repetitions

is_zero : (a : Pattern) → IsBase a → rank a ≡ 0
is_zero empty b = b
is_zero (one Digit) b = refl
is_zero (one Letter) b = refl
is_zero (one Capital) b = refl
is_zero (one Any) b = refl
is_zero (one NotLower) b = refl
is_zero (one (Literal c)) b = refl
is_zero (one (Quoted c)) b = refl
is_zero (sequence p q) b = b
is_zero (either p q) b = b
is_zero (optional p) b = b
is_zero (group p) b = b
is_zero (many p) b = b
is_zero (times n p) b = b

element_many : (a : Pattern) → IsBase a → Base a → Element (many a)
element_many a base b x s h os c deep =
    goes_then (state (x ∷ s) h os c Once false) (state (x ∷ s) h os c Many false) (42 ∷ []) (spelled a) (sequence x (many a) ∷ s) os c refl (b x s h os c Many deep (inr base))

element_times : (n : ℕ) (a : Pattern) → 1 ≤ n → n ≤ 120 → IsBase a → Base a → Element (times n a)
element_times n a low high base b x s h os c deep =
    let counted = steps_then (state (x ∷ s) h os c Once false) (state (x ∷ s) h os c Many false) (42 ∷ []) (count_text n) (Some (state (x ∷ s) h os c (Times n) false)) refl (count_goes (x ∷ s) h os c n low high) in
    goes_then (state (x ∷ s) h os c Once false) (state (x ∷ s) h os c (Times n) false) ((42 ∷ []) ++ count_text n) (spelled a) (sequence x (times n a) ∷ s) os c counted (b x s h os c (Times n) deep (inr base))

-- ---- sequences and alternatives

line_sequence : (a b : Pattern) → Line a → Element b → Line (sequence a b)
line_sequence a b la eb s h os c deep =
    goes_on (state (empty ∷ s) h os c Once false) (spelled a) (spelled b) (a ∷ s) (sequence a b ∷ s) os os c c (la s h os c (omega arith)) (λ k. eb a s k os c (omega arith))

comma_goes : (a : Pattern) (s : List Pattern) (h : Option ℕ) (os : List Open) → 2 ≤ rank a → Goes (state (pending a s) h os (is_either a) Once false) (44 ∷ []) (empty ∷ a ∷ s) os true
comma_goes empty s h os high = (_, refl)
comma_goes (sequence a b) s h os high = (_, refl)
comma_goes (either a b) s h os high = (_, refl)
comma_goes (one m) s h os high = absurd (omega arith)
comma_goes (optional a) s h os high = absurd (omega arith)
comma_goes (group a) s h os high = absurd (omega arith)
comma_goes (many a) s h os high = absurd (omega arith)
comma_goes (times n a) s h os high = absurd (omega arith)

choice_either : (a b : Pattern) → 2 ≤ rank a → Choice a → Line b → Choice (either a b)
choice_either a b high ca lb s h os deep =
    let first = goes_on (state (empty ∷ s) h os false Once false) (spelled a) (44 ∷ []) (pending a s) (empty ∷ a ∷ s) os os (is_either a) true (ca s h os (omega arith)) (λ k. comma_goes a s k os high) in
    goes_on (state (empty ∷ s) h os false Once false) (spelled a ++ 44 ∷ []) (spelled b) (empty ∷ a ∷ s) (b ∷ a ∷ s) os os true true first (λ k. lb (a ∷ s) k os true (omega arith))

-- ---- all patterns

line_empty : Line empty
line_empty s h os c deep = (h, refl)

base_claims : (a : Pattern) → rank a ≡ 0 → Base a → Claims a
base_claims a zero_rank b = record {
  base = λ _. b;
  element = λ _. element_of_base a b;
  line = λ e. absurd (omega arith);
  choice = λ e. absurd (omega arith);
}

element_claims : (a : Pattern) → rank a ≡ 1 → Element a → Claims a
element_claims a one_rank e = record {
  base = λ z. absurd (omega arith);
  element = λ _. e;
  line = λ z. absurd (omega arith);
  choice = λ z. absurd (omega arith);
}

complete : (a : Pattern) → IsGrammatical a → Claims a
complete empty g = record { base = λ e. absurd (omega arith); element = λ e. absurd (omega arith); line = λ _. line_empty; choice = λ _. choice_of_line empty (λ s. refl) refl line_empty }
complete (one m) g = base_claims (one m) refl (base_mark m g)
complete (sequence a b) g =
    let l : Line (sequence a b) = line_sequence a b ((complete a g.0).line g.2) ((complete b g.1).element g.3) in
    record { base = λ e. absurd (omega arith); element = λ e. absurd (omega arith); line = λ _. l; choice = λ _. choice_of_line (sequence a b) (λ s. refl) refl l }
complete (either a b) g =
    record { base = λ e. absurd (omega arith); element = λ e. absurd (omega arith); line = λ e. absurd (omega arith); choice = λ _. choice_either a b g.2 ((complete a g.0).choice g.2) ((complete b g.1).line g.3) }
complete (optional a) g = base_claims (optional a) refl (base_optional a g.1 ((complete a g.0).choice g.1))
complete (group a) g = base_claims (group a) refl (base_group a g.1 ((complete a g.0).choice g.1))
complete (many a) g = element_claims (many a) refl (element_many a g.1 ((complete a g.0).base (is_zero a g.1)))
complete (times n a) g = element_claims (times n a) refl (element_times n a g.2 g.3 g.1 ((complete a g.0).base (is_zero a g.1)))

pub picture_goes : (p : Pattern) → IsPicture p → Goes nothing_parsed (spelled p) (pending p []) [] (is_either p)
picture_goes p h = (complete p h.0).choice h.1 [] (Some 1) [] (let d = h.2 in omega arith)
