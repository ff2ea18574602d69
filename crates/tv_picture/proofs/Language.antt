-- Laws of the picture language: members of a pattern from those of its parts, and what may follow a text.
use Rattle.std.proofs.Common.{◌≡◌, ◌≢◌, ◌⊎◌, inl, inr, ◌↔◌, ℕ, ◌+◌, ◌≤◌, List, [], ◌∷◌, ◌++◌, length, take, drop, arith, refl, ◌∙◌, sym, ap, subst, append_assoc, append-nil, length-append, length-drop, replicate}
use Rattle.std.proofs.lemmas.List.{length-replicate}
use Rattle.std.specs.List.{concat, All}
use Rattle.std.proofs.lemmas.List.{take-append-drop, drop-drop, length-take}
use Rattle.std.proofs.lemmas.List.Folds.{concat-append}
use Rattle.std.proofs.lemmas.List.Elements.{All-nil, All-cons, All-head, All-tail, All-append, All-take, All-drop, All-replicate}
use Rattle.std.proofs.Math.Seq.{drop-append_seam}
use Rattle.tv_picture.specs.declared.code.Mark.{Mark}
use Rattle.tv_picture.specs.declared.code.Mark.TheVariants.{Digit, Letter, Capital, Any, NotLower, Literal, Quoted}
use Rattle.tv_picture.specs.Pattern.{Pattern, empty, one, sequence, either, optional, group, many, times, Allows, IsMember}
use Rattle.tv_picture.specs.Table.{MayFollow}

-- ---- each pattern has a member

abbrev pub sample : Mark → ℕ
sample Digit = 48
sample Letter = 65
sample Capital = 65
sample Any = 48
sample NotLower = 48
sample (Literal c) = c
sample (Quoted c) = c

pub sample_allowed : (m : Mark) → Allows m (sample m)
sample_allowed Digit = (omega arith, omega arith)
sample_allowed Letter = inl (omega arith, omega arith)
sample_allowed Capital = (omega arith, omega arith)
sample_allowed Any = refl
sample_allowed NotLower = (refl, λ h. omega arith)
sample_allowed (Literal c) = refl
sample_allowed (Quoted c) = refl

-- two characters
abbrev pub Two : Mark → Type 0
Two m = (x : ℕ) × (y : ℕ) × Allows m x × Allows m y × (x ≢ y)

pub two_allowed : (m : Mark) → ((c : ℕ) → m ≢ Literal c) → ((c : ℕ) → m ≢ Quoted c) → Two m
two_allowed Digit l q = (48, 49, (omega arith, omega arith), (omega arith, omega arith), λ e. omega arith)
two_allowed Letter l q = (65, 66, inl (omega arith, omega arith), inl (omega arith, omega arith), λ e. omega arith)
two_allowed Capital l q = (65, 66, (omega arith, omega arith), (omega arith, omega arith), λ e. omega arith)
two_allowed Any l q = (48, 49, refl, refl, λ e. omega arith)
two_allowed NotLower l q = (48, 49, (refl, λ h. omega arith), (refl, λ h. omega arith), λ e. omega arith)
two_allowed (Literal c) l q = absurd (l c refl)
two_allowed (Quoted c) l q = absurd (q c refl)

abbrev pub HasMember : Pattern → Type 0
HasMember p = (t : List ℕ) × IsMember p t

pub has_member : (p : Pattern) → HasMember p
has_member empty = ([], refl)
has_member (one m) = (sample m ∷ [], (sample m, sample_allowed m, refl))
has_member (sequence a b) = let x = has_member a in let y = has_member b in (x.0 ++ y.0, (x.0, y.0, x.1, y.1, refl))
has_member (either a b) = let x = has_member a in (x.0, inl x.1)
has_member (optional a) = ([], inl refl)
has_member (group a) = has_member a
has_member (many a) = ([], ([], All-nil (IsMember a), refl))
has_member (times n a) = let x = has_member a in (concat (replicate n x.0), (replicate n x.0, length-replicate n x.0, All-replicate (IsMember a) n x.0 x.1, refl))

-- ---- where one joined text is cut by another

abbrev pub Inside : List ℕ → List ℕ → List ℕ → List ℕ → Type 0
Inside x y u w = (v : List ℕ) × (x ≡ u ++ v) × (w ≡ v ++ y)

abbrev pub Past : List ℕ → List ℕ → List ℕ → List ℕ → Type 0
Past x y u w = (d : ℕ) × (v : List ℕ) × (u ≡ x ++ d ∷ v) × (y ≡ d ∷ v ++ w)

cut_cons : (a b : ℕ) (x y u w : List ℕ) → a ≡ b → Inside x y u w ⊎ Past x y u w → Inside (a ∷ x) y (b ∷ u) w ⊎ Past (a ∷ x) y (b ∷ u) w
cut_cons a b x y u w h (inl (v, p, q)) = inl (v, (cc), q)
cut_cons a b x y u w h (inr (d, v, p, q)) = inr (d, v, (cc), q)

pub cut : (x y u w : List ℕ) → x ++ y ≡ u ++ w → Inside x y u w ⊎ Past x y u w
cut [] y [] w e = inl ([], refl, sym e)
cut [] y (d ∷ u) w e = inr (d, u, refl, e)
cut (a ∷ x) y [] w e = inl (a ∷ x, refl, sym e)
cut (a ∷ x) y (b ∷ u) w e = let heads : a ≡ b = cc in let rests : x ++ y ≡ u ++ w = cc in cut_cons a b x y u w heads (cut x y u w rests)

-- ---- what may follow

-- a member of a ends inside the text, and the character may follow b after it
abbrev pub Through : Pattern → Pattern → List ℕ → ℕ → Type 0
Through a b rest c = (u : List ℕ) × (v : List ℕ) × IsMember a u × (rest ≡ u ++ v) × MayFollow b v c

pub regrouped : (rest : List ℕ) (c : ℕ) (more : List ℕ) → (rest ++ c ∷ []) ++ more ≡ rest ++ c ∷ more
regrouped rest c more = append_assoc rest (c ∷ []) more

-- a member that begins before the end of the text and its character
from_cut : (a b : Pattern) (rest : List ℕ) (c : ℕ) (more u w : List ℕ) → IsMember a u → IsMember b w → Inside rest (c ∷ more) u w ⊎ Past rest (c ∷ more) u w → MayFollow a rest c ⊎ Through a b rest c
from_cut a b rest c more u w ma mb (inl (v, p, q)) =
    inr (u, v, ma, p, (more, subst (IsMember b) (q ∙ sym (regrouped v c more)) mb))
from_cut a b rest c more u w ma mb (inr (d, v, p, q)) =
    let same : c ≡ d = cc in
    let e : u ≡ (rest ++ c ∷ []) ++ v = p ∙ ap (λ x. rest ++ x ∷ v) (sym same) ∙ sym (regrouped rest c v) in
    inl (v, subst (IsMember a) e ma)

pub follows_next : (a b : Pattern) (rest : List ℕ) (c : ℕ) → MayFollow (sequence a b) rest c → MayFollow a rest c ⊎ Through a b rest c
follows_next a b rest c (more, (u, w, ma, mb, e)) =
    from_cut a b rest c more u w ma mb (cut rest (c ∷ more) u w (sym (regrouped rest c more) ∙ e))

pub next_of_left : (a b : Pattern) (rest : List ℕ) (c : ℕ) → MayFollow a rest c → MayFollow (sequence a b) rest c
next_of_left a b rest c (more, m) = let y = has_member b in
    (more ++ y.0, ((rest ++ c ∷ []) ++ more, y.0, m, y.1, sym (append_assoc (rest ++ c ∷ []) more y.0)))

pub joined_text : (u v rest : List ℕ) (c : ℕ) (more : List ℕ) → rest ≡ u ++ v → (rest ++ c ∷ []) ++ more ≡ u ++ ((v ++ c ∷ []) ++ more)
joined_text u v rest c more e = ap (λ x. (x ++ c ∷ []) ++ more) e ∙ simp append_assoc

pub next_of_right : (a b : Pattern) (rest : List ℕ) (c : ℕ) → Through a b rest c → MayFollow (sequence a b) rest c
next_of_right a b rest c (u, v, ma, e, (more, mb)) =
    (more, (u, (v ++ c ∷ []) ++ more, ma, mb, joined_text u v rest c more e))

-- ---- repetitions

pub many_cons : (a : Pattern) (u w : List ℕ) → IsMember a u → IsMember (many a) w → IsMember (many a) (u ++ w)
many_cons a u w m (pieces, all, e) = (u ∷ pieces, All-cons (IsMember a) u pieces m all, ap (λ x. u ++ x) e)

pub many_one : (a : Pattern) (u : List ℕ) → IsMember a u → IsMember (many a) u
many_one a u m = (u ∷ [], All-cons (IsMember a) u [] m (All-nil (IsMember a)), sym (append-nil u))

-- a first piece that isn't empty, and the rest
abbrev pub Parted : Pattern → List ℕ → Type 0
Parted a w = (x : ℕ) × (u : List ℕ) × (v : List ℕ) × IsMember a (x ∷ u) × IsMember (many a) v × (w ≡ x ∷ u ++ v)

many_pieces : (a : Pattern) (pieces : List (List ℕ)) (w : List ℕ) → All (IsMember a) pieces → w ≡ concat pieces → (w ≡ []) ⊎ Parted a w
many_pieces a [] w all e = inl e
many_pieces a ([] ∷ ps) w all e = many_pieces a ps w (All-tail (IsMember a) [] ps all) e
many_pieces a ((x ∷ u) ∷ ps) w all e = inr (x, u, concat ps, All-head (IsMember a) (x ∷ u) ps all, (ps, All-tail (IsMember a) (x ∷ u) ps all, refl), e)

pub many_parted : (a : Pattern) (w : List ℕ) → IsMember (many a) w → (w ≡ []) ⊎ Parted a w
many_parted a w (pieces, all, e) = many_pieces a pieces w all e

-- the same, with a first piece that isn't empty
abbrev pub ThroughMany : Pattern → List ℕ → ℕ → Type 0
ThroughMany a rest c = (x : ℕ) × (u : List ℕ) × (v : List ℕ) × IsMember a (x ∷ u) × (rest ≡ x ∷ u ++ v) × MayFollow (many a) v c

from_cut_many : (a : Pattern) (rest : List ℕ) (c : ℕ) (more : List ℕ) (x : ℕ) (u w : List ℕ) → IsMember a (x ∷ u) → IsMember (many a) w → Inside rest (c ∷ more) (x ∷ u) w ⊎ Past rest (c ∷ more) (x ∷ u) w → MayFollow a rest c ⊎ ThroughMany a rest c
from_cut_many a rest c more x u w ma mb (inl (v, p, q)) =
    inr (x, u, v, ma, p, (more, subst (IsMember (many a)) (q ∙ sym (regrouped v c more)) mb))
from_cut_many a rest c more x u w ma mb (inr (d, v, p, q)) =
    let same : c ≡ d = cc in
    let e : x ∷ u ≡ (rest ++ c ∷ []) ++ v = p ∙ ap (λ y. rest ++ y ∷ v) (sym same) ∙ sym (regrouped rest c v) in
    inl (v, subst (IsMember a) e ma)

pub no_end : (rest : List ℕ) (c : ℕ) (more : List ℕ) → (rest ++ c ∷ []) ++ more ≡ [] → ⊥
no_end [] c more e = cc
no_end (x ∷ rest) c more e = cc

follows_many_of : (a : Pattern) (rest : List ℕ) (c : ℕ) (more : List ℕ) → (IsMember (many a) ((rest ++ c ∷ []) ++ more) → ((rest ++ c ∷ []) ++ more ≡ []) ⊎ Parted a ((rest ++ c ∷ []) ++ more)) → IsMember (many a) ((rest ++ c ∷ []) ++ more) → MayFollow a rest c ⊎ ThroughMany a rest c
follows_many_of a rest c more parted m = cases (parted m)
  where
    cases : ((rest ++ c ∷ []) ++ more ≡ []) ⊎ Parted a ((rest ++ c ∷ []) ++ more) → MayFollow a rest c ⊎ ThroughMany a rest c
    cases (inl e) = absurd (no_end rest c more e)
    cases (inr (x, u, v, ma, mv, e)) = from_cut_many a rest c more x u v ma mv (cut rest (c ∷ more) (x ∷ u) v (sym (regrouped rest c more) ∙ e))

pub follows_many : (a : Pattern) (rest : List ℕ) (c : ℕ) → MayFollow (many a) rest c → MayFollow a rest c ⊎ ThroughMany a rest c
follows_many a rest c (more, m) = follows_many_of a rest c more (many_parted a ((rest ++ c ∷ []) ++ more)) m

pub many_of_first : (a : Pattern) (rest : List ℕ) (c : ℕ) → MayFollow a rest c → MayFollow (many a) rest c
many_of_first a rest c (more, m) = (more, many_one a ((rest ++ c ∷ []) ++ more) m)

pub many_of_later : (a : Pattern) (rest : List ℕ) (c : ℕ) → Through a (many a) rest c → MayFollow (many a) rest c
many_of_later a rest c (u, v, ma, e, (more, mb)) =
    (more, subst (IsMember (many a)) (sym (joined_text u v rest c more e)) (many_cons a u ((v ++ c ∷ []) ++ more) ma mb))

-- ---- counts

pub times_zero : (a : Pattern) (t : List ℕ) → IsMember empty t ↔ IsMember (times 0 a) t
times_zero a t = ((λ e. ([], refl, All-nil (IsMember a), e)), (λ m. none m.0 m.1 m.3))
  where
    none : (pieces : List (List ℕ)) → length pieces ≡ 0 → t ≡ concat pieces → t ≡ []
    none [] l e = e
    none (p ∷ ps) l e = absurd (omega arith)

pub times_one : (a : Pattern) (t : List ℕ) → IsMember a t ↔ IsMember (times 1 a) t
times_one a t = ((λ m. (t ∷ [], refl, All-cons (IsMember a) t [] m (All-nil (IsMember a)), sym (append-nil t))), (λ m. single m.0 m.1 m.2 m.3))
  where
    single : (pieces : List (List ℕ)) → length pieces ≡ 1 → All (IsMember a) pieces → t ≡ concat pieces → IsMember a t
    single [] l all e = absurd (omega arith)
    single (p ∷ []) l all e = subst (IsMember a) (sym (e ∙ append-nil p)) (All-head (IsMember a) p [] all)
    single (p ∷ q ∷ ps) l all e = absurd (omega arith)

times_joined : (i j : ℕ) (a : Pattern) (t u w : List ℕ) → IsMember (times i a) u → IsMember (times j a) w → t ≡ u ++ w → IsMember (times (i + j) a) t
times_joined i j a t u w (ps, lp, ap', ep) (qs, lq, aq, eq) e =
    (ps ++ qs, omega (arith, length-append ps qs), All-append (IsMember a) ps qs ap' aq, (e ∙ ap (λ x. x ++ w) ep ∙ ap (λ x. concat ps ++ x) eq ∙ sym (concat-append ps qs)))

times_parted : (i j : ℕ) (a : Pattern) (t : List ℕ) → IsMember (times (i + j) a) t → IsMember (sequence (times i a) (times j a)) t
times_parted i j a t (ps, l, all, e) = (
  concat (take i ps),
  concat (drop i ps),
  (take i ps, omega (arith, length-take i ps), All-take (IsMember a) i ps all, refl),
  (drop i ps, omega (arith, length-drop i ps), All-drop (IsMember a) i ps all, refl),
  e ∙ ap concat (sym (take-append-drop i ps)) ∙ concat-append (take i ps) (drop i ps),
)

pub times-add : (i j : ℕ) (a : Pattern) (t : List ℕ) → IsMember (sequence (times i a) (times j a)) t ↔ IsMember (times (i + j) a) t
times-add i j a t = ((λ m. times_joined i j a t m.0 m.1 m.2 m.3 m.4), times_parted i j a t)

-- ---- places

pub drop_past : (text : List ℕ) (from : ℕ) (u v : List ℕ) → drop from text ≡ u ++ v → drop (from + length u) text ≡ v
drop_past text from u v e = sym (drop-drop (length u) from text) ∙ ap (drop (length u)) e ∙ drop-append_seam u v

pub end_within : (text : List ℕ) (from : ℕ) (u v : List ℕ) → from ≤ length text → drop from text ≡ u ++ v → from + length u ≤ length text
end_within text from u v h e = omega (arith, length-drop from text, length-append u v, ap length e)
