-- Where a text is divided among the parts of a picture.
use Rattle.std.proofs.Common.{◌≡◌, ◌↔◌, IsTrue, Bool, true, false, ◌⊎◌, inl, inr, ℕ, ◌+◌, ◌≤◌, ◌<◌, List, [], ◌∷◌, ◌++◌, length, take, drop, arith, refl, ◌∙◌, sym, ap, subst, append_assoc, append-nil, length-append, length-drop, ◌-◌, ◌==◌}
use Rattle.std.specs.List.{concat}
use Rattle.std.proofs.lemmas.List.{take-append-drop}
use Rattle.std.proofs.lemmas.List.Elements.{All-nil, All-head, All-tail, All-cons}
use Rattle.std.proofs.lemmas.Bool.{eqb-true, eq-eqb}
use Rattle.std.proofs.Math.Seq.{drop-append_seam, take-append_seam, take-length}
use Rattle.tv_picture.specs.declared.code.Mark.{Mark}
use Rattle.tv_picture.specs.Pattern.{Pattern, empty, one, optional, sequence, many, times, IsMember, Begins}
use Rattle.tv_picture.proofs.Language.{has_member, cut, Inside, Past, Parted, many_parted, many_cons, many_one}

-- at no place from the first on below the second the text is divided between the two
abbrev pub NoneBelow : (List ℕ → Type 0) → (List ℕ → Type 0) → List ℕ → ℕ → ℕ → Type 0
NoneBelow A B t start stop = (k : ℕ) → start ≤ k → k < stop → A (take k t) → B (drop k t) → ⊥

-- at some place from this one on it is
abbrev pub Divided : (List ℕ → Type 0) → (List ℕ → Type 0) → List ℕ → ℕ → Type 0
Divided A B t start = (k : ℕ) × (start ≤ k) × (k ≤ length t) × A (take k t) × B (drop k t)

pub divided : (A B : List ℕ → Type 0) (start : ℕ) (u v t : List ℕ) → start ≤ length u → t ≡ u ++ v → A u → B v → Divided A B t start
divided A B start u v t h e a b =
    let long : length t ≡ length u + length v = ap length e ∙ length-append u v in
    let first : take (length u) t ≡ u = ap (λ x. take (length u) x) e ∙ take-append_seam u v in
    let second : drop (length u) t ≡ v = ap (λ x. drop (length u) x) e ∙ drop-append_seam u v in
    (length u, h, omega arith, subst A (sym first) a, subst B (sym second) b)

pub none_left : (A B : List ℕ → Type 0) (start stop : ℕ) (t : List ℕ) → length t < stop → NoneBelow A B t start stop → Divided A B t start → ⊥
none_left A B start stop t past none (k, from, to, a, b) = none k from (omega arith) a b

pub the_other : (P : Type 0) (A B : List ℕ → Type 0) (start stop : ℕ) (t : List ℕ) → length t < stop → NoneBelow A B t start stop → P ⊎ Divided A B t start → P
the_other P A B start stop t past none (inl p) = p
the_other P A B start stop t past none (inr d) = absurd (none_left A B start stop t past none d)

-- an answer is right where it is yes and the fact holds, and where it is no and the fact doesn't
pub right_yes : (P : Type 0) → P → IsTrue true ↔ P
right_yes P p = (λ e. p, λ q. refl)

pub right_no : (P : Type 0) → (P → ⊥) → IsTrue false ↔ P
right_no P f = (λ e. cc, λ p. absurd (f p))

-- the text from a place on, as a slice has it
abbrev pub from : ℕ → List ℕ → List ℕ
from k t = take (length t - k) (drop k t)

from_drop : (k : ℕ) (t : List ℕ) → from k t ≡ drop k t
from_drop k t = ap (λ n. take n (drop k t)) (sym (length-drop k t)) ∙ take-length (drop k t)

none_of_length : (t : List ℕ) → length t ≡ 0 → t ≡ []
none_of_length [] e = refl
none_of_length (x ∷ t) e = absurd (omega arith)

-- the test of a text for being empty
pub is_none : (b : Bool) (t : List ℕ) → b ≡ (length t == 0) → IsTrue b ↔ (t ≡ [])
is_none b t e = (
  (λ h. none_of_length t (eqb-true (length t) 0 (sym e ∙ h))),
  (λ h. e ∙ eq-eqb (length t) 0 (ap length h)),
)

-- ---- members

pub sequence_divided : (a b : Pattern) (t : List ℕ) → IsMember (sequence a b) t → Divided (IsMember a) (IsMember b) t 0
sequence_divided a b t (u, v, ma, mb, e) = divided (IsMember a) (IsMember b) 0 u v t (omega arith) e ma mb

pub divided_sequence : (a b : Pattern) (t : List ℕ) (k : ℕ) → IsMember a (take k t) → IsMember b (from k t) → IsMember (sequence a b) t
divided_sequence a b t k ma mb = (take k t, drop k t, ma, subst (IsMember b) (from_drop k t) mb, sym (take-append-drop k t))

pub many_divided : (a : Pattern) (t : List ℕ) → IsMember (many a) t → (t ≡ []) ⊎ Divided (IsMember a) (IsMember (many a)) t 1
many_divided a t m = cases (many_parted a t m)
  where
    cases : (t ≡ []) ⊎ Parted a t → (t ≡ []) ⊎ Divided (IsMember a) (IsMember (many a)) t 1
    cases (inl e) = inl e
    cases (inr (x, u, v, ma, mb, e)) = inr (divided (IsMember a) (IsMember (many a)) 1 (x ∷ u) v t (omega arith) e ma mb)

pub divided_many : (a : Pattern) (t : List ℕ) (k : ℕ) → IsMember a (take k t) → IsMember (many a) (from k t) → IsMember (many a) t
divided_many a t k ma mb = subst (IsMember (many a)) (take-append-drop k t) (many_cons a (take k t) (drop k t) ma (subst (IsMember (many a)) (from_drop k t) mb))

pub nothing_many : (a : Pattern) (t : List ℕ) → t ≡ [] → IsMember (many a) t
nothing_many a t e = ([], All-nil (IsMember a), e)

pub times_sequence : (n m : ℕ) (a : Pattern) (t : List ℕ) → m ≡ n + 1 → IsMember (times m a) t → IsMember (sequence a (times n a)) t
times_sequence n m a t h ([], len, all, e) = absurd (omega arith)
times_sequence n m a t h (p ∷ ps, len, all, e) =
    (p, concat ps, All-head (IsMember a) p ps all, (ps, omega arith, All-tail (IsMember a) p ps all, refl), e)

pub sequence_times : (n m : ℕ) (a : Pattern) (t : List ℕ) → m ≡ n + 1 → IsMember (sequence a (times n a)) t → IsMember (times m a) t
sequence_times n m a t h (u, v, ma, (ps, len, all, f), e) =
    (u ∷ ps, omega arith, All-cons (IsMember a) u ps ma all, e ∙ ap (λ x. u ++ x) f)

pub times_none : (a : Pattern) (t : List ℕ) → IsMember (times 0 a) t → t ≡ []
times_none a t ([], len, all, e) = e
times_none a t (p ∷ ps, len, all, e) = absurd (omega arith)

-- ---- beginnings

pub sequence_begun : (a b : Pattern) (t : List ℕ) → Begins (sequence a b) t → Begins a t ⊎ Divided (IsMember a) (Begins b) t 0
sequence_begun a b t (more, (u, w, ma, mb, e)) = cases (cut t more u w e)
  where
    cases : Inside t more u w ⊎ Past t more u w → Begins a t ⊎ Divided (IsMember a) (Begins b) t 0
    cases (inl (v, p, q)) = inr (divided (IsMember a) (Begins b) 0 u v t (omega arith) p ma (more, subst (IsMember b) q mb))
    cases (inr (d, v, p, q)) = inl (d ∷ v, subst (IsMember a) p ma)

pub begun_first : (a b : Pattern) (t : List ℕ) → Begins a t → Begins (sequence a b) t
begun_first a b t (more, m) = let y = has_member b in
    (more ++ y.0, (t ++ more, y.0, m, y.1, sym (append_assoc t more y.0)))

parted_more : (t more : List ℕ) (k : ℕ) → take k t ++ (drop k t ++ more) ≡ t ++ more
parted_more t more k = sym (append_assoc (take k t) (drop k t) more) ∙ ap (λ x. x ++ more) (take-append-drop k t)

pub begun_later : (a b : Pattern) (t : List ℕ) (k : ℕ) → IsMember a (take k t) → Begins b (from k t) → Begins (sequence a b) t
begun_later a b t k ma (more, m) = (more, (take k t, drop k t ++ more, ma, subst (λ x. IsMember b (x ++ more)) (from_drop k t) m, sym (parted_more t more k)))

nothing_before : (t more : List ℕ) → t ++ more ≡ [] → t ≡ []
nothing_before [] more e = refl
nothing_before (x ∷ t) more e = cc

pub many_begun : (a : Pattern) (t : List ℕ) → Begins (many a) t → Begins a t ⊎ Divided (IsMember a) (Begins (many a)) t 1
many_begun a t (more, m) = cases (many_parted a (t ++ more) m)
  where
    parts : (x : ℕ) (u w : List ℕ) → IsMember a (x ∷ u) → IsMember (many a) w → Inside t more (x ∷ u) w ⊎ Past t more (x ∷ u) w → Begins a t ⊎ Divided (IsMember a) (Begins (many a)) t 1
    parts x u w ma mb (inl (v, p, q)) = inr (divided (IsMember a) (Begins (many a)) 1 (x ∷ u) v t (omega arith) p ma (more, subst (IsMember (many a)) q mb))
    parts x u w ma mb (inr (d, v, p, q)) = inl (d ∷ v, subst (IsMember a) p ma)

    cases : (t ++ more ≡ []) ⊎ Parted a (t ++ more) → Begins a t ⊎ Divided (IsMember a) (Begins (many a)) t 1
    cases (inl e) = inl (subst (Begins a) (sym (nothing_before t more e)) (has_member a))
    cases (inr (x, u, v, ma, mb, e)) = parts x u v ma mb (cut t more (x ∷ u) v e)

pub begun_many : (a : Pattern) (t : List ℕ) → Begins a t → Begins (many a) t
begun_many a t (more, m) = (more, many_one a (t ++ more) m)

pub begun_many_later : (a : Pattern) (t : List ℕ) (k : ℕ) → IsMember a (take k t) → Begins (many a) (from k t) → Begins (many a) t
begun_many_later a t k ma (more, m) = (more, subst (IsMember (many a)) (parted_more t more k) (many_cons a (take k t) (drop k t ++ more) ma (subst (λ x. IsMember (many a) (x ++ more)) (from_drop k t) m)))

pub times_begun : (n m : ℕ) (a : Pattern) (t : List ℕ) → m ≡ n + 1 → Begins (times m a) t → Begins (sequence a (times n a)) t
times_begun n m a t h (more, x) = (more, times_sequence n m a (t ++ more) h x)

pub begun_times : (n m : ℕ) (a : Pattern) (t : List ℕ) → m ≡ n + 1 → Begins (sequence a (times n a)) t → Begins (times m a) t
begun_times n m a t h (more, x) = (more, sequence_times n m a (t ++ more) h x)

pub times_none_begun : (a : Pattern) (t : List ℕ) → Begins (times 0 a) t → t ≡ []
times_none_begun a t (more, m) = nothing_before t more (times_none a (t ++ more) m)

pub begins_nothing : (p : Pattern) (t : List ℕ) → t ≡ [] → Begins p t
begins_nothing p t e = subst (Begins p) (sym e) (has_member p)

pub empty_begun : (t : List ℕ) → Begins empty t → t ≡ []
empty_begun t (more, e) = nothing_before t more e

pub one_begun : (m : Mark) (t : List ℕ) → Begins (one m) t → (t ≡ []) ⊎ IsMember (one m) t
one_begun m [] h = inl refl
one_begun m (c ∷ t) (more, (d, allowed, e)) =
    let rest : t ++ more ≡ [] = cc in
    let same : c ≡ d = cc in
    let none : t ≡ [] = nothing_before t more rest in
    inr (d, allowed, cc)

pub member_begins : (p : Pattern) (t : List ℕ) → IsMember p t → Begins p t
member_begins p t m = ([], subst (IsMember p) (sym (append-nil t)) m)

pub optional_begun : (a : Pattern) (t : List ℕ) → Begins (optional a) t → Begins a t
optional_begun a t (more, inl e) = begins_nothing a t (nothing_before t more e)
optional_begun a t (more, inr m) = (more, m)

pub begun_optional : (a : Pattern) (t : List ℕ) → Begins a t → Begins (optional a) t
begun_optional a t (more, m) = (more, inr m)
