-- What stands on the stack and in the line that is read, and what it spells.
use Rattle.std.proofs.Common.{inl, inr, ◌≡◌, ◌⊎◌, ◌+◌, ◌-◌, ◌*◌, ◌/◌, ◌%◌, ◌≤◌, ◌<◌, ℕ, List, [], ◌∷◌, ◌++◌, length, arith, refl, sym, ◌∙◌, ap, subst, append_assoc, append-nil, Bool, true, false, cond, nat_lt, nat_le}
use Rattle.std.specs.Prelude.{Option, Some, None, codes}
use Rattle.std.specs.Option.{option_and_then}
use Rattle.std.proofs.lemmas.Bool.Decides.{nat_tests}
use Rattle.tv_picture.specs.declared.code.Mark.{Mark}
use Rattle.tv_picture.specs.declared.code.Mark.TheVariants.{Literal, Quoted}
use Rattle.tv_picture.specs.declared.code.Op.TheVariants as op
use Rattle.tv_picture.specs.declared.parser.Bracket.{Bracket}
use Rattle.tv_picture.specs.declared.parser.Bracket.TheVariants.{Square, Curly}
use Rattle.tv_picture.specs.declared.parser.Repeat.{Repeat}
use Rattle.tv_picture.specs.declared.parser.Repeat.TheVariants.{Once, Many, Times}
use Rattle.tv_picture.specs.declared.parser.Open.{Open}
use Rattle.tv_picture.specs.Pattern.{Pattern, one, many, times}
use Rattle.tv_picture.specs.Code.{patterns_after, height_after}
use Rattle.tv_picture.specs.Spelling.{mark_text, count_text, spelled, IsPlain, rank, depth, IsBase, IsMark, IsGrammatical}
use Rattle.tv_picture.specs.Parsing.{Built, Reading, part_finished, with_single_mark, is_once, starred, counted_as, quoted_next, tall}
use Rattle.tv_picture.proofs.Grammar.{state, repeated, held, below, skip}

abbrev pub Built' : List Pattern → Option ℕ → Built
Built' s h = record { stack = s; height = h }

-- ---- the text of what has been read

abbrev pub line_text : Bool → List Pattern → List ℕ
line_text false [] = []
line_text false (q ∷ s) = spelled q
line_text true [] = []
line_text true (q ∷ []) = []
line_text true (q ∷ p ∷ s) = spelled p ++ codes "," ++ spelled q

abbrev pub beneath : Bool → List Pattern → List Pattern
beneath false [] = []
beneath false (q ∷ s) = s
beneath true [] = []
beneath true (q ∷ []) = []
beneath true (q ∷ p ∷ s) = s

abbrev pub repeat_text : Repeat → List ℕ
repeat_text Once = []
repeat_text Many = codes "*"
repeat_text (Times n) = codes "*" ++ count_text n

abbrev pub open_text : Bracket → List ℕ
open_text Square = codes "["
open_text Curly = codes "{"

abbrev pub before : List Open → List Pattern → List ℕ
before [] s = []
before (o ∷ os) s = ((before os (beneath o.choice s) ++ line_text o.choice s) ++ repeat_text o.repeat) ++ open_text o.bracket

abbrev pub quote_text : Bool → List ℕ
quote_text false = []
quote_text true = codes ";"

abbrev pub written : Reading → List ℕ
written r = ((before r.brackets (beneath r.choice r.built.stack) ++ line_text r.choice r.built.stack) ++ repeat_text r.repeat) ++ quote_text r.quoted

-- ---- what stands on the stack

abbrev pub IsLine : ℕ → Bool → List Pattern → Type 0
IsLine k false [] = ⊥
IsLine k false (q ∷ s) = IsGrammatical q × (rank q ≡ 2) × (depth q + k ≤ 8)
IsLine k true [] = ⊥
IsLine k true (q ∷ []) = ⊥
IsLine k true (q ∷ p ∷ s) = IsGrammatical q × (rank q ≡ 2) × (depth q + k ≤ 8) × IsGrammatical p × (2 ≤ rank p) × (depth p + k ≤ 8)

abbrev pub IsRepeat : Repeat → Type 0
IsRepeat Once = Unit {0}
IsRepeat Many = Unit {0}
IsRepeat (Times n) = (1 ≤ n) × (n ≤ 120)

abbrev pub IsBefore : List Open → List Pattern → Type 0
IsBefore [] s = s ≡ []
IsBefore (o ∷ os) s = IsLine (length os) o.choice s × IsRepeat o.repeat × IsBefore os (beneath o.choice s)

pub record IsFine (r : Reading) : Type 0 where
  pub line : IsLine (length r.brackets) r.choice r.built.stack
  pub before : IsBefore r.brackets (beneath r.choice r.built.stack)
  pub repeat : IsRepeat r.repeat
  pub few : length r.brackets ≤ 8
  pub height : r.built.height ≡ Some (tall r.choice r.brackets)

-- ---- a part at the end of a line

record Adds (k : ℕ) (c : Bool) (s t : List Pattern) (text : List ℕ) : Type 0 where
  line : IsLine k c t
  spelling : line_text c t ≡ line_text c s ++ text
  rest : beneath c t ≡ beneath c s

line_added : (k : ℕ) (c : Bool) (s : List Pattern) (a : Pattern) → IsLine k c s → IsGrammatical a → rank a ≤ 1 → depth a + k ≤ 8 → Adds k c s (patterns_after (a ∷ s) op.Sequence) (spelled a)
line_added k false [] a l g low deep = absurd l
line_added k false (q ∷ s) a l g low deep = let d = l.2 in record { line = ((l.0, g, l.1, low), refl, omega arith); spelling = refl; rest = refl }
line_added k true [] a l g low deep = absurd l
line_added k true (q ∷ []) a l g low deep = absurd l
line_added k true (q ∷ p ∷ s) a l g low deep = let d = l.2 in record {
  line = ((l.0, g, l.1, low), refl, omega arith, l.3, l.4, l.5);
  spelling = sym (append_assoc (spelled p ++ codes ",") (spelled q) (spelled a));
  rest = refl;
}

-- ---- repeated parts

abbrev pub IsPart : Repeat → Pattern → Type 0
IsPart r a = IsGrammatical a × (rank a ≡ 0) × ((r ≡ Once) ⊎ IsBase a)

not_once : {P : Type 0} (r : Repeat) → is_once r ≡ false → r ≡ Once → P
not_once Once e f = cc
not_once Many e f = cc
not_once (Times n) e f = cc

repeated_grammatical : (r : Repeat) (a : Pattern) → IsPart r a → IsRepeat r → IsGrammatical (repeated r a) × (rank (repeated r a) ≤ 1) × (depth (repeated r a) ≡ depth a) × (spelled (repeated r a) ≡ repeat_text r ++ spelled a)
repeated_grammatical Once a p n = let z = p.1 in (p.0, omega arith, refl, refl)
repeated_grammatical Many a (g, z, inl e) n = not_once Many refl e
repeated_grammatical Many a (g, z, inr b) n = ((g, b), omega arith, refl, refl)
repeated_grammatical (Times m) a (g, z, inl e) n = not_once (Times m) refl e
repeated_grammatical (Times m) a (g, z, inr b) n = ((g, b, n.0, n.1), omega arith, refl, refl)

finished_state : (a : Pattern) (s : List Pattern) (h : ℕ) (os : List Open) (c : Bool) (r : Repeat) (q : Bool) → 1 ≤ h → part_finished (state (a ∷ s) (Some (h + 1)) os c r q) ≡ state (patterns_after (repeated r a ∷ s) op.Sequence) (Some h) os c Once false
finished_state a s h os c r q high = cases r
  where
    joined : height_after (h + 1) op.Sequence ≡ Some h
    joined = held (nat_lt 1 (h + 1)) (Some (h + 1 - 1)) None (below 1 (h + 1) (omega arith)) ∙ ap Some (omega arith)

    same : (n : ℕ) → height_after (h + 1) (op.Times n) ≡ Some (h + 1)
    same n = held (nat_lt 1 (h + 1)) (Some (h + 1)) None (below 1 (h + 1) (omega arith))

    cases : (t : Repeat) → part_finished (state (a ∷ s) (Some (h + 1)) os c t q) ≡ state (patterns_after (repeated t a ∷ s) op.Sequence) (Some h) os c Once false
    cases Once = ap (λ k. state (patterns_after (a ∷ s) op.Sequence) k os c Once false) joined
    cases Many = ap (λ k. state (patterns_after (many a ∷ s) op.Sequence) (option_and_then (λ j. height_after j op.Sequence) k) os c Once false) (same 0) ∙ ap (λ k. state (patterns_after (many a ∷ s) op.Sequence) k os c Once false) joined
    cases (Times n) = ap (λ k. state (patterns_after (times n a ∷ s) op.Sequence) (option_and_then (λ j. height_after j op.Sequence) k) os c Once false) (same n) ∙ ap (λ k. state (patterns_after (times n a ∷ s) op.Sequence) k os c Once false) joined

-- what a step must show: the new reading is fine, and spells the text
pub record Spells (r : Reading) (text : List ℕ) : Type 0 where
  pub fine : IsFine r
  pub spelling : written r ≡ text

tall_high : (c : Bool) (os : List Open) → 1 ≤ tall c os
tall_high false [] = omega arith
tall_high true [] = omega arith
tall_high false (o ∷ os) = omega arith
tall_high true (o ∷ os) = omega arith

pub tall_low : (c : Bool) (os : List Open) → tall c os ≤ 2 * (length os + 1)
tall_low false [] = omega arith
tall_low true [] = omega arith
tall_low false (o ∷ os) = let h = tall_low o.choice os in omega arith
tall_low true (o ∷ os) = let h = tall_low o.choice os in omega arith

-- a part on top of a fine stack goes into its line
pub finish_spells : (a : Pattern) (s : List Pattern) (os : List Open) (c : Bool) (r : Repeat) (q : Bool) → IsLine (length os) c s → IsBefore os (beneath c s) → length os ≤ 8 → IsRepeat r → IsPart r a → depth a + length os ≤ 8 → Spells (part_finished (state (a ∷ s) (Some (tall c os + 1)) os c r q)) (((before os (beneath c s) ++ line_text c s) ++ repeat_text r) ++ spelled a)
finish_spells a s os c r q line rest few n part deep =
    subst (λ (t : Reading). Spells t (((before os (beneath c s) ++ line_text c s) ++ repeat_text r) ++ spelled a)) (sym (finished_state a s (tall c os) os c r q (tall_high c os)))
    (let g = repeated_grammatical r a part n in
    let low : rank (repeated r a) ≤ 1 = g.1 in
    let shallow : depth (repeated r a) + length os ≤ 8 = (let e = g.2 in omega arith) in
    let adds = line_added (length os) c s (repeated r a) line g.0 low shallow in
    record {
      fine = record { line = adds.line; before = subst (IsBefore os) (sym adds.rest) rest; repeat = tt; few = few; height = refl };
      spelling = append-nil _ ∙ append-nil _ ∙ ap (λ t. before os t ++ line_text c (patterns_after (repeated r a ∷ s) op.Sequence)) adds.rest
          ∙ ap (λ t. before os (beneath c s) ++ t) (adds.spelling ∙ ap (λ t. line_text c s ++ t) g.3)
          ∙ sym (append_assoc (before os (beneath c s)) (line_text c s) (repeat_text r ++ spelled a))
          ∙ sym (append_assoc (before os (beneath c s) ++ line_text c s) (repeat_text r) (spelled a));
    })

-- ---- each character

abbrev pub body : Reading → List ℕ
body r = (before r.brackets (beneath r.choice r.built.stack) ++ line_text r.choice r.built.stack) ++ repeat_text r.repeat

pub pushed : (r : Reading) → IsFine r → (o : Option ℕ) → r.built.height ≡ Some (tall r.choice r.brackets) → option_and_then (λ h. cond (nat_lt h 20) (Some (h + 1)) None) r.built.height ≡ Some (tall r.choice r.brackets + 1)
pushed r f o e = ap (option_and_then (λ h. cond (nat_lt h 20) (Some (h + 1)) None)) e
    ∙ held (nat_lt (tall r.choice r.brackets) 20) (Some (tall r.choice r.brackets + 1)) None (below (tall r.choice r.brackets) 20 (let few = f.few in let low = tall_low r.choice r.brackets in omega arith))

mark_spells : (r : Reading) (m : Mark) → IsFine r → IsMark m → (r.repeat ≡ Once) ⊎ IsBase (one m) → Spells (with_single_mark r m) (body r ++ mark_text m)
mark_spells r m f plain base =
    subst (λ k. Spells (part_finished (state (one m ∷ r.built.stack) k r.brackets r.choice r.repeat r.quoted)) (body r ++ mark_text m)) (sym (pushed r f None f.height))
    (finish_spells (one m) r.built.stack r.brackets r.choice r.repeat r.quoted f.line f.before f.few f.repeat (plain, refl, base) (let few = f.few in omega arith))

pub unquoted_text : (r : Reading) → r.quoted ≡ false → written r ≡ body r
unquoted_text r e = ap (λ q. body r ++ quote_text q) e ∙ append-nil (body r)

after_plain : (r s : Reading) (text : List ℕ) (c : ℕ) → r.quoted ≡ false → text ≡ c ∷ [] → Spells s (body r ++ text) → Spells s (written r ++ c ∷ [])
after_plain r s text c unquoted e h = subst (Spells s) (ap (λ t. body r ++ t) e ∙ ap (λ t. t ++ c ∷ []) (sym (unquoted_text r unquoted))) h

pub some_same : (r s t : Reading) (text : List ℕ) → Some r ≡ Some s → Spells r text → Spells s text
some_same r s t text e h = subst (λ x. Spells x text) (let same : r ≡ s = cc in same) h

pub is_once_true : (r : Repeat) → is_once r ≡ true → r ≡ Once
is_once_true Once e = refl
is_once_true Many e = cc
is_once_true (Times n) e = cc

pub mark_step : (r s : Reading) (m : Mark) (c : ℕ) → IsFine r → r.quoted ≡ false → IsMark m → (r.repeat ≡ Once) ⊎ IsBase (one m) → mark_text m ≡ c ∷ [] → Some (with_single_mark r m) ≡ Some s → Spells s (written r ++ c ∷ [])
mark_step r s m c f unquoted plain base text e = some_same (with_single_mark r m) s r (written r ++ c ∷ []) e (after_plain r (with_single_mark r m) (mark_text m) c unquoted text (mark_spells r m f plain base))

-- the character after `;`
pub quoted_step : (r s : Reading) (c : ℕ) → IsFine r → r.quoted ≡ true → Some (with_single_mark r (Quoted c)) ≡ Some s → Spells s (written r ++ c ∷ [])
quoted_step r s c f quoted e = some_same (with_single_mark r (Quoted c)) s r (written r ++ c ∷ []) e
    (subst (Spells (with_single_mark r (Quoted c))) (sym (append_assoc (body r) (codes ";") (c ∷ [])) ∙ ap (λ q. (body r ++ quote_text q) ++ c ∷ []) (sym quoted))
    (mark_spells r (Quoted c) f tt (inr refl)))

-- `;`
pub quote_step : (r s : Reading) → IsFine r → r.quoted ≡ false → Some (quoted_next r) ≡ Some s → Spells s (written r ++ 59 ∷ [])
quote_step r s f unquoted e = some_same (quoted_next r) s r (written r ++ 59 ∷ []) e (record {
  fine = record { line = f.line; before = f.before; repeat = f.repeat; few = f.few; height = f.height };
  spelling = ap (λ t. t ++ 59 ∷ []) (sym (unquoted_text r unquoted));
})

-- a test that has to hold
pub chosen : {G : Type 0} (b : Bool) (x y : Option Reading) (s : Reading) → cond b x y ≡ Some s → (b ≡ true → x ≡ Some s → G) → (b ≡ false → y ≡ Some s → G) → G
chosen true x y s e f g = f refl e
chosen false x y s e f g = g refl e

pub no_step : {G : Type 0} (s : Reading) → None ≡ Some s → G
no_step s e = cc

-- `*`
pub star_step : (r s : Reading) → IsFine r → r.quoted ≡ false → starred r ≡ Some s → Spells s (written r ++ 42 ∷ [])
star_step r s f unquoted e = chosen (is_once r.repeat) (Some (record { built = r.built; brackets = r.brackets; choice = r.choice; repeat = Many; quoted = false })) None s e
    (λ once e'. some_same (record { built = r.built; brackets = r.brackets; choice = r.choice; repeat = Many; quoted = false }) s r (written r ++ 42 ∷ []) e' (record {
      fine = record { line = f.line; before = f.before; repeat = tt; few = f.few; height = f.height };
      spelling = append-nil _ ∙ ap (λ t. t ++ 42 ∷ []) (sym (unquoted_text r unquoted ∙ ap (λ t. (before r.brackets (beneath r.choice r.built.stack) ++ line_text r.choice r.built.stack) ++ repeat_text t) (is_once_true r.repeat once) ∙ append-nil _));
    }))
    (λ _ e'. no_step s e')

-- ---- counts

count_one : (n : ℕ) → n < 10 → count_text n ≡ (48 + n) ∷ []
count_one n h = held (nat_lt n 10) ((48 + n) ∷ []) (cond (nat_lt n 100) ((48 + n / 10) ∷ (48 + n % 10) ∷ []) ((48 + n / 100) ∷ (48 + n / 10 % 10) ∷ (48 + n % 10) ∷ [])) (below n 10 h)

not_below : (m n : ℕ) → n ≤ m → nat_lt m n ≡ false
not_below m n h = grind (arith, nat_tests)

count_two : (n : ℕ) → 10 ≤ n → n < 100 → count_text n ≡ (48 + n / 10) ∷ (48 + n % 10) ∷ []
count_two n l h = skip (nat_lt n 10) ((48 + n) ∷ []) (cond (nat_lt n 100) ((48 + n / 10) ∷ (48 + n % 10) ∷ []) ((48 + n / 100) ∷ (48 + n / 10 % 10) ∷ (48 + n % 10) ∷ [])) (not_below n 10 l)
    ∙ held (nat_lt n 100) ((48 + n / 10) ∷ (48 + n % 10) ∷ []) ((48 + n / 100) ∷ (48 + n / 10 % 10) ∷ (48 + n % 10) ∷ []) (below n 100 h)

count_three : (n : ℕ) → 100 ≤ n → count_text n ≡ (48 + n / 100) ∷ (48 + n / 10 % 10) ∷ (48 + n % 10) ∷ []
count_three n l = skip (nat_lt n 10) ((48 + n) ∷ []) (cond (nat_lt n 100) ((48 + n / 10) ∷ (48 + n % 10) ∷ []) ((48 + n / 100) ∷ (48 + n / 10 % 10) ∷ (48 + n % 10) ∷ [])) (not_below n 10 (omega arith))
    ∙ skip (nat_lt n 100) ((48 + n / 10) ∷ (48 + n % 10) ∷ []) ((48 + n / 100) ∷ (48 + n / 10 % 10) ∷ (48 + n % 10) ∷ []) (not_below n 100 l)

count_more : (n d m : ℕ) → 1 ≤ n → d < 10 → m ≡ n * 10 + d → m ≤ 120 → (n < 10) ⊎ (10 ≤ n) → count_text m ≡ count_text n ++ (48 + d) ∷ []
count_more n d m low small e high (inl h) = count_two m (omega arith) (omega arith)
    ∙ ap (λ (k : ℕ). (48 + k) ∷ (48 + m % 10) ∷ []) (omega arith) ∙ ap (λ (k : ℕ). (48 + n) ∷ (48 + k) ∷ []) (omega arith)
    ∙ ap (λ t. t ++ (48 + d) ∷ []) (sym (count_one n h))
count_more n d m low small e high (inr h) = count_three m (omega arith)
    ∙ ap (λ (k : ℕ). (48 + k) ∷ (48 + m / 10 % 10) ∷ (48 + m % 10) ∷ []) (omega arith) ∙ ap (λ (k : ℕ). (48 + n / 10) ∷ (48 + k) ∷ (48 + m % 10) ∷ []) (omega arith) ∙ ap (λ (k : ℕ). (48 + n / 10) ∷ (48 + n % 10) ∷ (48 + k) ∷ []) (omega arith)
    ∙ ap (λ t. t ++ (48 + d) ∷ []) (sym (count_two n h (omega arith)))

apart_ten : (n : ℕ) → (n < 10) ⊎ (10 ≤ n)
apart_ten n = grind arith

at_most_true : (m n : ℕ) → nat_le m n ≡ true → m ≤ n
at_most_true m n e = grind (arith, nat_tests)

pub below_true : (m n : ℕ) → nat_lt m n ≡ true → m < n
below_true m n e = grind (arith, nat_tests)

abbrev counting : Reading → Repeat → Reading
counting r t = record { built = r.built; brackets = r.brackets; choice = r.choice; repeat = t; quoted = false }

counting_spells : (r : Reading) (t : Repeat) (c : ℕ) → IsFine r → r.quoted ≡ false → IsRepeat t → repeat_text t ≡ repeat_text r.repeat ++ c ∷ [] → Spells (counting r t) (written r ++ c ∷ [])
counting_spells r t c f unquoted n e = record {
  fine = record { line = f.line; before = f.before; repeat = n; few = f.few; height = f.height };
  spelling = append-nil _ ∙ ap (λ x. (before r.brackets (beneath r.choice r.built.stack) ++ line_text r.choice r.built.stack) ++ x) e
      ∙ sym (append_assoc (before r.brackets (beneath r.choice r.built.stack) ++ line_text r.choice r.built.stack) (repeat_text r.repeat) (c ∷ []))
      ∙ ap (λ x. x ++ c ∷ []) (sym (unquoted_text r unquoted));
}

pub digit_spells : (r s : Reading) (t : Repeat) (d : ℕ) → IsFine r → r.quoted ≡ false → r.repeat ≡ t → d < 10 → IsPlain (48 + d) → counted_as r d t ≡ Some s → Spells s (written r ++ (48 + d) ∷ [])
digit_spells r s Once d f unquoted same small plain e = mark_step r s (Literal (48 + d)) (48 + d) f unquoted plain (inl same) refl e
digit_spells r s Many d f unquoted same small plain e = chosen (nat_lt 0 d) (Some (counting r (Times d))) None s e
    (λ t e'. some_same (counting r (Times d)) s r (written r ++ (48 + d) ∷ []) e'
    (let high : 0 < d = below_true 0 d t in
    counting_spells r (Times d) (48 + d) f unquoted (omega arith, omega arith) (ap (λ x. codes "*" ++ x) (count_one d small) ∙ ap (λ x. repeat_text x ++ (48 + d) ∷ []) (sym same))))
    (λ _ e'. no_step s e')
digit_spells r s (Times n) d f unquoted same small plain e = chosen (nat_le (n * 10 + d) 120) (Some (counting r (Times (n * 10 + d)))) None s e
    (λ t e'. some_same (counting r (Times (n * 10 + d))) s r (written r ++ (48 + d) ∷ []) e'
    (let high : n * 10 + d ≤ 120 = at_most_true (n * 10 + d) 120 t in
    let low : (1 ≤ n) × (n ≤ 120) = subst IsRepeat same f.repeat in
    counting_spells r (Times (n * 10 + d)) (48 + d) f unquoted (let l = low.0 in omega arith, high)
    (ap (λ x. codes "*" ++ x) (count_more n d (n * 10 + d) low.0 small refl high (apart_ten n))
    ∙ sym (append_assoc (codes "*") (count_text n) ((48 + d) ∷ [])) ∙ ap (λ x. repeat_text x ++ (48 + d) ∷ []) (sym same))))
    (λ _ e'. no_step s e')
