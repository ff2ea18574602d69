-- Rows that go on part by part.
use Rattle.std.proofs.Common.{suc, zero, ◌≡◌, ◌⊎◌, inl, inr, ◌↔◌, ℕ, ◌+◌, ◌<◌, ◌≤◌, List, [], ◌∷◌, ◌++◌, length, drop, arith, refl, ◌∙◌, sym, ap, subst, append_assoc, append-nil, length-append}
use Rattle.std.proofs.lemmas.List.Elements.{All-nil}
use Rattle.tv_picture.specs.declared.code.Mark.{Mark}
use Rattle.tv_picture.specs.declared.code.Op.{Op}
use Rattle.tv_picture.specs.declared.code.Op.TheVariants.{Empty, One, Sequence, Either, Optional, Group, Many, Times}
use Rattle.tv_picture.specs.declared.row.Row.{Row}
use Rattle.tv_picture.specs.Pattern.{Pattern, empty, one, sequence, either, optional, group, many, times, IsMember}
use Rattle.tv_picture.specs.Code.{patterns_after, run, top, pattern_of, run-append}
use Rattle.tv_picture.specs.Machine.{IsWhole, Reads}
use Rattle.tv_picture.specs.Table.{HasPlace, either_next, Spans, MayFollow, IsTableRow}
use Rattle.tv_picture.proofs.Language.{Through, follows_next, next_of_right, times_zero}
use Rattle.tv_picture.proofs.Rows.{row_same, row_either, spans_met, at_through}
use Rattle.tv_picture.proofs.Gathered.{Names_same}
use Rattle.tv_picture.proofs.Repeated.{past_start, within_start, many_snoc, counted_again, IsGrown, FollowsIn, row_grown}

-- ---- code

-- one operation more, which makes another pattern of the code's
pub changed : (first row : Row) (code : List Op) (op : Op) (f : Pattern → Pattern) (text : List ℕ) → ((b : Pattern) (ps : List Pattern) → patterns_after (b ∷ ps) op ≡ f b ∷ ps) → IsWhole code → ((a : Pattern) → IsTableRow a text 0 first → IsTableRow (sequence a (f (pattern_of code))) text 0 row) → Reads first (code ++ op ∷ []) text row
changed first row code op f text steps whole makes = record {
  whole = λ ps. runs ps ∙ ap (λ (q : Pattern). q ∷ ps) (sym is);
  after = λ a h. subst (λ (q : Pattern). IsTableRow (sequence a q) text 0 row) (sym is) (makes a h);
}
  where
    runs : (ps : List Pattern) → run ps (code ++ op ∷ []) ≡ f (pattern_of code) ∷ ps
    runs ps = run-append code (op ∷ []) ps ∙ ap (λ qs. run qs (op ∷ [])) (whole ps) ∙ steps (pattern_of code) ps

    is : pattern_of (code ++ op ∷ []) ≡ f (pattern_of code)
    is = ap top (runs [])

-- another part, and what joins it
pub joined : (first row : Row) (before part : List Op) (op : Op) (f : Pattern → Pattern → Pattern) (text : List ℕ) → ((b c : Pattern) (ps : List Pattern) → patterns_after (c ∷ b ∷ ps) op ≡ f b c ∷ ps) → IsWhole before → IsWhole part → ((a : Pattern) → IsTableRow a text 0 first → IsTableRow (sequence a (f (pattern_of before) (pattern_of part))) text 0 row) → Reads first (before ++ (part ++ op ∷ [])) text row
joined first row before part op f text steps whole wholes makes = record {
  whole = λ ps. runs ps ∙ ap (λ (q : Pattern). q ∷ ps) (sym is);
  after = λ a h. subst (λ (q : Pattern). IsTableRow (sequence a q) text 0 row) (sym is) (makes a h);
}
  where
    runs : (ps : List Pattern) → run ps (before ++ (part ++ op ∷ [])) ≡ f (pattern_of before) (pattern_of part) ∷ ps
    runs ps =
        run-append before (part ++ op ∷ []) ps ∙ ap (λ qs. run qs (part ++ op ∷ [])) (whole ps) ∙ run-append part (op ∷ []) (pattern_of before ∷ ps)
        ∙ ap (λ qs. run qs (op ∷ [])) (wholes (pattern_of before ∷ ps)) ∙ steps (pattern_of before) (pattern_of part) ps

    is : pattern_of (before ++ (part ++ op ∷ [])) ≡ f (pattern_of before) (pattern_of part)
    is = ap top (runs [])

-- the same code
pub same_code : (first row : Row) (code other : List Op) (text : List ℕ) → code ≡ other → Reads first code text row → Reads first other text row
same_code first row code other text e r = subst (λ (ops : List Op). Reads first ops text row) e r

-- ---- parts that aren't repeated

pub reads_empty : (first : Row) (text : List ℕ) → Reads first (Empty ∷ []) text first
reads_empty first text = record {
  whole = λ ps. refl;
  after = λ a h. row_same a (sequence a empty) text 0 first (λ t. ((λ m. (t, [], m, refl, sym (append-nil t))), gone a t)) h;
}
  where
    gone : (a : Pattern) (t : List ℕ) → IsMember (sequence a empty) t → IsMember a t
    gone a t (u, v, m, none, e) = subst (IsMember a) (sym (e ∙ ap (λ x. u ++ x) none ∙ append-nil u)) m

pub reads_one : (first row : Row) (mark : Mark) (text : List ℕ) → ((a : Pattern) → IsTableRow a text 0 first → IsTableRow (sequence a (one mark)) text 0 row) → Reads first (One mark ∷ []) text row
reads_one first row mark text makes = record { whole = λ ps. refl; after = makes }

pub reads_starred : (first row : Row) (mark : Mark) (text : List ℕ) → ((a : Pattern) → IsTableRow a text 0 first → IsTableRow (sequence a (many (one mark))) text 0 row) → Reads first (One mark ∷ Many ∷ []) text row
reads_starred first row mark text makes = record { whole = λ ps. refl; after = makes }

pub reads_group : (first row : Row) (code : List Op) (text : List ℕ) → Reads first code text row → Reads first (code ++ Group ∷ []) text row
reads_group first row code text r = changed first row code Group group text (λ b ps. refl) r.whole (λ a h. let s = r.after a h in record { ends = s.ends; next = s.next })

optional_member : (a p : Pattern) (t : List ℕ) → IsMember (either a (sequence a p)) t ↔ IsMember (sequence a (optional p)) t
optional_member a p t = (forth, back)
  where
    forth : IsMember (either a (sequence a p)) t → IsMember (sequence a (optional p)) t
    forth (inl m) = (t, [], m, inl refl, sym (append-nil t))
    forth (inr (u, v, m, m', e)) = (u, v, m, inr m', e)

    back : IsMember (sequence a (optional p)) t → IsMember (either a (sequence a p)) t
    back (u, v, m, inl none, e) = inl (subst (IsMember a) (sym (e ∙ ap (λ x. u ++ x) none ∙ append-nil u)) m)
    back (u, v, m, inr m', e) = inr (u, v, m, m', e)

-- what two rows have
abbrev pub IsJoin : Row → Row → Row → Type 0
IsJoin p q row = ((k : ℕ) → HasPlace row.ends k ↔ (HasPlace p.ends k ⊎ HasPlace q.ends k)) × (row.next ≡ either_next p.next q.next)

pub reads_optional : (first own row : Row) (code : List Op) (text : List ℕ) → IsJoin first own row → Reads first code text own → Reads first (code ++ Optional ∷ []) text row
reads_optional first own row code text (ends, next) r =
    changed first row code Optional optional text (λ b ps. refl) r.whole
    (λ a h. row_same (either a (sequence a (pattern_of code))) (sequence a (optional (pattern_of code))) text 0 row (optional_member a (pattern_of code)) (row_either a (sequence a (pattern_of code)) text 0 first own row h (r.after a h) ends next))

-- ---- what joins two parts

sequence_member : (a p q : Pattern) (t : List ℕ) → IsMember (sequence (sequence a p) q) t ↔ IsMember (sequence a (sequence p q)) t
sequence_member a p q t = (forth, back)
  where
    forth : IsMember (sequence (sequence a p) q) t → IsMember (sequence a (sequence p q)) t
    forth (w, z, (x, y, mx, my, ew), mz, e) = (x, y ++ z, mx, (y, z, my, mz, refl), e ∙ ap (λ v. v ++ z) ew ∙ append_assoc x y z)

    back : IsMember (sequence a (sequence p q)) t → IsMember (sequence (sequence a p) q) t
    back (x, w, mx, (y, z, my, mz, ew), e) = (x ++ y, z, (x, y, mx, my, refl), mz, e ∙ ap (λ v. x ++ v) ew ∙ sym (append_assoc x y z))

pub reads_sequence : (first row own : Row) (before part : List Op) (text : List ℕ) → Reads row part text own → Reads first before text row → Reads first (before ++ (part ++ Sequence ∷ [])) text own
reads_sequence first row own before part text q p =
    joined first own before part Sequence sequence text (λ b c ps. refl) p.whole q.whole
    (λ a h. row_same (sequence (sequence a (pattern_of before)) (pattern_of part)) (sequence a (sequence (pattern_of before) (pattern_of part))) text 0 own (sequence_member a (pattern_of before) (pattern_of part)) (q.after (sequence a (pattern_of before)) (p.after a h)))

either_member : (a p q : Pattern) (t : List ℕ) → IsMember (either (sequence a p) (sequence a q)) t ↔ IsMember (sequence a (either p q)) t
either_member a p q t = (forth, back)
  where
    forth : IsMember (either (sequence a p) (sequence a q)) t → IsMember (sequence a (either p q)) t
    forth (inl (u, v, m, m', e)) = (u, v, m, inl m', e)
    forth (inr (u, v, m, m', e)) = (u, v, m, inr m', e)

    back : IsMember (sequence a (either p q)) t → IsMember (either (sequence a p) (sequence a q)) t
    back (u, v, m, inl m', e) = inl (u, v, m, m', e)
    back (u, v, m, inr m', e) = inr (u, v, m, m', e)

pub reads_either : (first row own result : Row) (before part : List Op) (text : List ℕ) → IsJoin row own result → Reads first part text own → Reads first before text row → Reads first (before ++ (part ++ Either ∷ [])) text result
reads_either first row own result before part text (ends, next) q p =
    joined first result before part Either either text (λ b c ps. refl) p.whole q.whole
    (λ a h. row_same (either (sequence a (pattern_of before)) (sequence a (pattern_of part))) (sequence a (either (pattern_of before) (pattern_of part))) text 0 result (either_member a (pattern_of before) (pattern_of part))
    (row_either (sequence a (pattern_of before)) (sequence a (pattern_of part)) text 0 row own result (p.after a h) (q.after a h) ends next))

-- the code up to here is read
abbrev pub GoesOn : Row → List Op → List ℕ → Row → List Op → Type 0
GoesOn first code text row rest = (before : List Op) × (code ≡ before ++ rest) × (1 ≤ length before) × Reads first before text row

pub goes_first : (first : Row) (code rest : List Op) (text : List ℕ) → code ≡ Empty ∷ rest → GoesOn first code text first rest
goes_first first code rest text e = (Empty ∷ [], e, omega arith, reads_empty first text)

pub goes_further : (first row next : Row) (code rest part behind : List Op) (op : Op) (text : List ℕ) → rest ≡ part ++ (op ∷ behind) → ((before : List Op) → Reads first before text row → Reads first (before ++ (part ++ op ∷ [])) text next) → GoesOn first code text row rest → GoesOn first code text next behind
goes_further first row next code rest part behind op text e makes (before, is, some, r) = (
  before ++ (part ++ op ∷ []),
  is ∙ ap (λ ops. before ++ ops) (e ∙ sym (append_assoc part (op ∷ []) behind)) ∙ sym (append_assoc before (part ++ op ∷ []) behind),
  omega (arith, some, length-append before (part ++ op ∷ [])),
  makes before r,
)

-- a single character
pub goes_mark : (first row next : Row) (code rest after : List Op) (mark : Mark) (text : List ℕ) → rest ≡ One mark ∷ Sequence ∷ after → ((a : Pattern) → IsTableRow a text 0 row → IsTableRow (sequence a (one mark)) text 0 next) → GoesOn first code text row rest → GoesOn first code text next after
goes_mark first row next code rest after mark text e makes goes =
    goes_further first row next code rest (One mark ∷ []) after Sequence text e (λ before r. reads_sequence first row next before (One mark ∷ []) text (reads_one row next mark text makes) r) goes

no_length : (ops : List Op) → length ops ≡ 0 → ops ≡ []
no_length [] e = refl
no_length (op ∷ ops) e = absurd (omega (arith, e))

pub goes_last : (first row : Row) (code rest : List Op) (text : List ℕ) → length rest ≡ 0 → GoesOn first code text row rest → Reads first code text row
goes_last first row code rest text none (before, is, some, r) = same_code first row before code text (sym (is ∙ ap (λ ops. before ++ ops) (no_length rest none) ∙ append-nil before)) r

-- a part of what is left is shorter than the code, and so is what is left behind it
pub part_shorter : (first row : Row) (code rest part behind : List Op) (op : Op) (text : List ℕ) → rest ≡ part ++ (op ∷ behind) → GoesOn first code text row rest → length part + 2 ≤ length code
part_shorter first row code rest part behind op text e (before, is, some, r) =
    omega (arith, some, ap length is, length-append before rest, ap length e, length-append part (op ∷ behind))

pub rest_shorter : (rest part behind : List Op) (op : Op) → rest ≡ part ++ (op ∷ behind) → length behind < length rest
rest_shorter rest part behind op e = omega (arith, ap length e, length-append part (op ∷ behind))

-- ---- so many times

abbrev pub TimesAfter : Row → Pattern → List ℕ → ℕ → Row → Type 0
TimesAfter first p text i row = (a : Pattern) → IsTableRow a text 0 first → IsTableRow (sequence a (times i p)) text 0 row

pub times_none : (first : Row) (p : Pattern) (text : List ℕ) → TimesAfter first p text 0 first
times_none first p text a h = row_same a (sequence a (times 0 p)) text 0 first (λ t. (forth t, back t)) h
  where
    forth : (t : List ℕ) → IsMember a t → IsMember (sequence a (times 0 p)) t
    forth t m = (t, [], m, (times_zero p []).0 refl, sym (append-nil t))

    back : (t : List ℕ) → IsMember (sequence a (times 0 p)) t → IsMember a t
    back t (x, y, mx, my, e) = subst (IsMember a) (sym (e ∙ ap (λ z. x ++ z) ((times_zero p y).1 my) ∙ append-nil x)) mx

pub times_more : (first row own : Row) (p : Pattern) (text : List ℕ) (i : ℕ) → ((a : Pattern) → IsTableRow a text 0 row → IsTableRow (sequence a p) text 0 own) → TimesAfter first p text i row → TimesAfter first p text (i + 1) own
times_more first row own p text i step so_far a h =
    row_same (sequence (sequence a (times i p)) p) (sequence a (times (i + 1) p)) text 0 own (counted_again a p i) (step (sequence a (times i p)) (so_far a h))

-- a row that one more leaves as it is stands for any more
pub times_rest : (more : ℕ) (first row : Row) (p : Pattern) (text : List ℕ) (i : ℕ) → ((a : Pattern) → IsTableRow a text 0 row → IsTableRow (sequence a p) text 0 row) → TimesAfter first p text i row → TimesAfter first p text (i + more) row
times_rest zero first row p text i step so_far = subst (λ (n : ℕ). TimesAfter first p text n row) (omega arith) so_far
times_rest (suc more) first row p text i step so_far =
    subst (λ (n : ℕ). TimesAfter first p text n row) (omega arith) (times_rest more first row p text (i + 1) step (times_more first row row p text i step so_far))

pub reads_times : (first row : Row) (code : List Op) (count i : ℕ) (text : List ℕ) → i ≡ count → IsWhole code → TimesAfter first (pattern_of code) text i row → Reads first (code ++ Times count ∷ []) text row
reads_times first row code count i text e whole makes =
    changed first row code (Times count) (times count) text (λ b ps. refl) whole (subst (λ (n : ℕ). TimesAfter first (pattern_of code) text n row) e makes)

-- ---- any number of times

-- the row of what came before and some repetitions
pub record IsBegun (a p : Pattern) (text : List ℕ) (first row : Row) : Type 0 where
  pub pattern : Pattern
  pub stands : IsTableRow pattern text 0 row
  pub least : (t : List ℕ) → IsMember a t → IsMember pattern t
  pub most : (t : List ℕ) → IsMember pattern t → IsMember (sequence a (many p)) t
  pub follows : (c : ℕ) → MayFollow pattern text c → FollowsIn a p text (length text + 1) row c

pub begun : (a p : Pattern) (text : List ℕ) (first : Row) → IsTableRow a text 0 first → IsBegun a p text first first
begun a p text first h = record {
  pattern = a;
  stands = h;
  least = λ t m. m;
  most = λ t m. (t, [], m, ([], All-nil (IsMember p), refl), sym (append-nil t));
  follows = λ c f. inl f;
}

module _ (a p : Pattern) (text : List ℕ) (first row own grown : Row) (step : (x : Pattern) → IsTableRow x text 0 row → IsTableRow (sequence x p) text 0 own) (join : IsJoin row own grown) (b : IsBegun a p text first row) where
  wider : (c : ℕ) → FollowsIn a p text (length text + 1) row c → FollowsIn a p text (length text + 1) grown c
  wider c (inl f) = inl f
  wider c (inr (r, low, at, f)) = inr (r, low, (join.0 r).1 (inl at), f)

  through : (c : ℕ) → MayFollow b.pattern text c ⊎ Through b.pattern p text c → FollowsIn a p text (length text + 1) grown c
  through c (inl f) = wider c (b.follows c f)
  through c (inr (u, v, m, e, f)) =
      let within : length u ≤ length text = within_start text u v e in
      inr (length u, omega (arith, within), (join.0 (length u)).1 (inl ((b.stands.ends (length u)).1 (u, v, m, e, omega arith))), subst (λ (t : List ℕ). MayFollow p t c) (sym (past_start text u v e)) f)

  further : (c : ℕ) → MayFollow (either b.pattern (sequence b.pattern p)) text c → FollowsIn a p text (length text + 1) grown c
  further c (more, inl m) = wider c (b.follows c (more, m))
  further c (more, inr m) = through c (follows_next b.pattern p text c (more, m))

  extended : (t u v : List ℕ) → t ≡ u ++ v → IsMember p v → IsMember (sequence a (many p)) u → IsMember (sequence a (many p)) t
  extended t u v e m (x, y, mx, my, eu) = (x, y ++ v, mx, many_snoc p y v my m, e ∙ ap (λ z. z ++ v) eu ∙ append_assoc x y v)

  mostly : (t : List ℕ) → IsMember (either b.pattern (sequence b.pattern p)) t → IsMember (sequence a (many p)) t
  mostly t (inl m) = b.most t m
  mostly t (inr (u, v, m, m', e)) = extended t u v e m' (b.most u m)

  -- one more
  pub begun_more : IsBegun a p text first grown
  begun_more = record {
    pattern = either b.pattern (sequence b.pattern p);
    stands = row_either b.pattern (sequence b.pattern p) text 0 row own grown b.stands (step b.pattern b.stands) join.0 join.1;
    least = λ t m. inl (b.least t m);
    most = mostly;
    follows = further;
  }

  -- a row to which one more adds no place has all
  module _ (h : IsTableRow a text 0 first) (same : (k : ℕ) → HasPlace grown.ends k → HasPlace row.ends k) where
    sound : (k : ℕ) → Spans (either b.pattern (sequence b.pattern p)) text 0 k → Spans (sequence a (many p)) text 0 k
    sound k (u, v, m, e, ek) = (u, v, mostly u m, e, ek)

    start : (k : ℕ) → Spans a text 0 k → Spans (either b.pattern (sequence b.pattern p)) text 0 k
    start k (u, v, m, e, ek) = (u, v, inl (b.least u m), e, ek)

    closed : (r : ℕ) → r ≤ length text → HasPlace grown.ends r → (k : ℕ) → Spans p (drop r text) r k → HasPlace grown.ends k
    closed r low at k end =
        let at_row : Spans b.pattern text 0 r = (b.stands.ends r).0 (same r at) in
        (join.0 k).1 (inr (((step b.pattern b.stands).ends k).1 (spans_met b.pattern p text 0 k (r, omega arith, low, at_row, end))))

    back : (c : ℕ) → FollowsIn a p text (length text + 1) grown c → MayFollow (either b.pattern (sequence b.pattern p)) text c
    back c (inl (more, m)) = (more, inl (b.least ((text ++ c ∷ []) ++ more) m))
    back c (inr (r, low, at, f)) =
        let g = next_of_right b.pattern p text c (at_through b.pattern p text 0 r c ((b.stands.ends r).0 (same r at)) f) in
        (g.0, inr g.1)

    whole_row : IsGrown a p text first (length text + 1) grown
    unfolding begun_more
    whole_row = record {
      sound = λ k at. sound k ((begun_more.stands.ends k).0 at);
      start = λ k at. (begun_more.stands.ends k).1 (start k ((h.ends k).0 at));
      closed = λ r low. closed r (omega arith);
      next = Names_same (MayFollow (either b.pattern (sequence b.pattern p)) text) (FollowsIn a p text (length text + 1) grown) grown.next further back begun_more.stands.next;
    }

    pub begun_all : IsTableRow (sequence a (many p)) text 0 grown
    begun_all = row_grown a p text first h grown whole_row

abbrev pub Grows : Row → Pattern → List ℕ → Row → Type 0
Grows first p text row = (a : Pattern) → IsTableRow a text 0 first → IsBegun a p text first row

pub reads_many : (first row own grown : Row) (code : List Op) (text : List ℕ) → Reads row code text own → IsJoin row own grown → ((k : ℕ) → HasPlace grown.ends k → HasPlace row.ends k) → Grows first (pattern_of code) text row → Reads first (code ++ Many ∷ []) text grown
reads_many first row own grown code text r join same b =
    changed first grown code Many many text (λ q ps. refl) r.whole (λ a h. begun_all a (pattern_of code) text first row own grown r.after join (b a h) h same)

pub many_more : (first row own grown : Row) (code : List Op) (text : List ℕ) → Reads row code text own → IsJoin row own grown → Grows first (pattern_of code) text row → Grows first (pattern_of code) text grown
many_more first row own grown code text r join b a h = begun_more a (pattern_of code) text first row own grown r.after join (b a h)
