-- Beginnings of members, and what stands in a picture where a text can go on with one character alone.
use Rattle.std.proofs.Common.{◌≡◌, ◌≢◌, ◌⊎◌, inl, inr, ℕ, suc, List, [], ◌∷◌, ◌++◌, length, take, drop, refl, ◌∙◌, sym, ap, subst, append_assoc, append-nil, arith}
use Rattle.std.specs.Prelude.{Contains, codes}
use Rattle.std.specs.List.{concat, All}
use Rattle.std.proofs.lemmas.List.{take-append-drop}
use Rattle.std.proofs.lemmas.List.Elements.{All-cons, All-head, All-tail, Contains-append_left, Contains-append_right, Contains-push}
use Rattle.tv_picture.specs.declared.code.Mark.{Mark}
use Rattle.tv_picture.specs.declared.code.Mark.TheVariants.{Digit, Letter, Capital, Any, NotLower, Literal, Quoted}
use Rattle.tv_picture.specs.Pattern.{Pattern, empty, one, sequence, either, optional, group, many, times, Allows, IsMember, Begins, IsViable, IsNextLiteral}
use Rattle.tv_picture.specs.Spelling.{spelled, count_text}
use Rattle.tv_picture.proofs.Language.{Inside, Past, cut, Two, two_allowed, regrouped}

-- ---- beginnings

pub begins_take : (p : Pattern) (t : List ℕ) (k : ℕ) → Begins p t → Begins p (take k t)
begins_take p t k (more, m) =
    (drop k t ++ more, subst (IsMember p) (ap (λ x. x ++ more) (sym (take-append-drop k t)) ∙ append_assoc (take k t) (drop k t) more) m)

pub begins_whole : (p : Pattern) (t : List ℕ) → IsMember p t → Begins p t
begins_whole p t m = ([], subst (IsMember p) (sym (append-nil t)) m)

pub completed : (p : Pattern) (t : List ℕ) → IsViable p t → (more : List ℕ) × (more ≢ []) × IsMember p (t ++ more)
completed p t ((more, m), unfinished) = (more, (λ e. unfinished (subst (IsMember p) (ap (λ x. t ++ x) e ∙ append-nil t) m)), m)

-- ---- another character in the place of one that the picture hasn't

-- a member with another character there
abbrev Other : Pattern → List ℕ → ℕ → List ℕ → Type 0
Other p u c v = (d : ℕ) × (d ≢ c) × IsMember p (u ++ d ∷ v)

abbrev Known : Pattern → List ℕ → ℕ → List ℕ → Type 0
Known p u c v = Contains (spelled p) c ⊎ Other p u c v

-- pieces with another character there
abbrev OtherPieces : Pattern → ℕ → List ℕ → ℕ → List ℕ → Type 0
OtherPieces a n u c v = (d : ℕ) × (d ≢ c) × (pieces : List (List ℕ)) × (length pieces ≡ n) × All (IsMember a) pieces × (u ++ d ∷ v ≡ concat pieces)

alone : (u v : List ℕ) (c x : ℕ) → u ++ c ∷ v ≡ x ∷ [] → (u ≡ []) × (c ≡ x) × (v ≡ [])
alone [] v c x e = (refl, (cc), (cc))
alone (y ∷ []) v c x e = absurd (cc)
alone (y ∷ z ∷ u) v c x e = absurd (cc)

not_empty : (u : List ℕ) (c : ℕ) (v : List ℕ) → u ++ c ∷ v ≡ [] → ⊥
not_empty [] c v e = cc
not_empty (x ∷ u) c v e = cc

one_differs : (x y c : ℕ) → x ≢ y → (x ≢ c) ⊎ (y ≢ c)
one_differs x y c n = grind arith

class : (m : Mark) (u : List ℕ) (c : ℕ) (v : List ℕ) (x : ℕ) → Two m → u ++ c ∷ v ≡ x ∷ [] → Known (one m) u c v
class m u c v x (y, z, ay, az, n) e = pick (one_differs y z c n)
  where
    single : (d : ℕ) → u ++ d ∷ v ≡ d ∷ []
    single d = let parts = alone u v c x e in ap (λ s. s ++ d ∷ v) parts.0 ∙ ap (λ s. d ∷ s) parts.2

    pick : (y ≢ c) ⊎ (z ≢ c) → Known (one m) u c v
    pick (inl other) = inr (y, other, (y, ay, single y))
    pick (inr other) = inr (z, other, (z, az, single z))

of_mark : (m : Mark) (u : List ℕ) (c : ℕ) (v : List ℕ) (x : ℕ) → Allows m x → u ++ c ∷ v ≡ x ∷ [] → Known (one m) u c v
of_mark (Literal d) u c v x h e = inl (subst (Contains (d ∷ [])) (sym ((alone u v c x e).1 ∙ h)) (Contains-push [] d))
of_mark (Quoted d) u c v x h e = inl (subst (Contains (codes ";" ++ d ∷ [])) (sym ((alone u v c x e).1 ∙ h)) (Contains-push (codes ";") d))
of_mark Digit u c v x h e = class Digit u c v x (two_allowed Digit (λ d q. cc) (λ d q. cc)) e
of_mark Letter u c v x h e = class Letter u c v x (two_allowed Letter (λ d q. cc) (λ d q. cc)) e
of_mark Capital u c v x h e = class Capital u c v x (two_allowed Capital (λ d q. cc) (λ d q. cc)) e
of_mark Any u c v x h e = class Any u c v x (two_allowed Any (λ d q. cc) (λ d q. cc)) e
of_mark NotLower u c v x h e = class NotLower u c v x (two_allowed NotLower (λ d q. cc) (λ d q. cc)) e

-- the character stands in the pattern, or another could stand in its place
abbrev KnownIn : Pattern → Type 0
KnownIn a = (u : List ℕ) (c : ℕ) (v : List ℕ) → IsMember a (u ++ c ∷ v) → Known a u c v

of_sequence : (a b : Pattern) (u : List ℕ) (c : ℕ) (v s t : List ℕ) → KnownIn a → KnownIn b → IsMember a s → IsMember b t → Inside u (c ∷ v) s t ⊎ Past u (c ∷ v) s t → Known (sequence a b) u c v
of_sequence a b u c v s t ka kb ma mb (inl (w, p, q)) = later (kb w c v (subst (IsMember b) q mb))
  where
    later : Known b w c v → Known (sequence a b) u c v
    later (inl stands) = inl (Contains-append_right (spelled a) (spelled b) c stands)
    later (inr (d, n, m)) = inr (d, n, (s, w ++ d ∷ v, ma, m, ap (λ x. x ++ d ∷ v) p ∙ append_assoc s w (d ∷ v)))
of_sequence a b u c v s t ka kb ma mb (inr (f, w, p, q)) =
    let same : c ≡ f = cc in
    let rest : v ≡ w ++ t = cc in
    first rest (ka u c w (subst (IsMember a) (p ∙ ap (λ x. u ++ x ∷ w) (sym same)) ma))
  where
    first : v ≡ w ++ t → Known a u c w → Known (sequence a b) u c v
    first rest (inl stands) = inl (Contains-append_left (spelled a) (spelled b) c stands)
    first rest (inr (d, n, m)) = inr (d, n, (u ++ d ∷ w, t, m, mb, ap (λ x. u ++ d ∷ x) rest ∙ sym (append_assoc u (d ∷ w) t)))

pieces_known : (a : Pattern) (ps : List (List ℕ)) (u : List ℕ) (c : ℕ) (v : List ℕ) → KnownIn a → All (IsMember a) ps → u ++ c ∷ v ≡ concat ps → Contains (spelled a) c ⊎ OtherPieces a (length ps) u c v
pieces_known a [] u c v ka all e = absurd (not_empty u c v e)
pieces_known a (s ∷ ps) u c v ka all e = from (λ w q. pieces_known a ps w c v ka (All-tail (IsMember a) s ps all) (sym q)) (cut u (c ∷ v) s (concat ps) e)
  where
    first : (w : List ℕ) → v ≡ w ++ concat ps → Known a u c w → Contains (spelled a) c ⊎ OtherPieces a (length (s ∷ ps)) u c v
    first w rest (inl stands) = inl stands
    first w rest (inr (d, n, m)) = inr (d, n, (u ++ d ∷ w) ∷ ps, refl, All-cons (IsMember a) (u ++ d ∷ w) ps m (All-tail (IsMember a) s ps all), ap (λ x. u ++ d ∷ x) rest ∙ sym (append_assoc u (d ∷ w) (concat ps)))

    later : (w : List ℕ) → u ≡ s ++ w → Contains (spelled a) c ⊎ OtherPieces a (length ps) w c v → Contains (spelled a) c ⊎ OtherPieces a (length (s ∷ ps)) u c v
    later w p (inl stands) = inl stands
    later w p (inr (d, n, qs, long, each, joins)) = inr (d, n, s ∷ qs, ap suc long, All-cons (IsMember a) s qs (All-head (IsMember a) s ps all) each, ap (λ x. x ++ d ∷ v) p ∙ append_assoc s w (d ∷ v) ∙ ap (λ x. s ++ x) joins)

    from : ((w : List ℕ) → concat ps ≡ w ++ c ∷ v → Contains (spelled a) c ⊎ OtherPieces a (length ps) w c v) → Inside u (c ∷ v) s (concat ps) ⊎ Past u (c ∷ v) s (concat ps) → Contains (spelled a) c ⊎ OtherPieces a (length (s ∷ ps)) u c v
    from rest_known (inl (w, p, q)) = later w p (rest_known w q)
    from rest_known (inr (f, w, p, q)) =
        let same : c ≡ f = cc in
        let rest : v ≡ w ++ concat ps = cc in
        first w rest (ka u c w (subst (IsMember a) (p ∙ ap (λ x. u ++ x ∷ w) (sym same)) (All-head (IsMember a) s ps all)))

known : (p : Pattern) → KnownIn p
known empty u c v m = absurd (not_empty u c v m)
known (one mark) u c v (x, h, e) = of_mark mark u c v x h e
known (sequence a b) u c v (s, t, ma, mb, e) = of_sequence a b u c v s t (known a) (known b) ma mb (cut u (c ∷ v) s t e)
known (either a b) u c v (inl m) = left (known a u c v m)
  where
    left : Known a u c v → Known (either a b) u c v
    left (inl stands) = inl (Contains-append_left (spelled a ++ codes ",") (spelled b) c (Contains-append_left (spelled a) (codes ",") c stands))
    left (inr (d, n, other)) = inr (d, n, inl other)
known (either a b) u c v (inr m) = right (known b u c v m)
  where
    right : Known b u c v → Known (either a b) u c v
    right (inl stands) = inl (Contains-append_right (spelled a ++ codes ",") (spelled b) c stands)
    right (inr (d, n, other)) = inr (d, n, inr other)
known (optional a) u c v (inl e) = absurd (not_empty u c v e)
known (optional a) u c v (inr m) = inside (known a u c v m)
  where
    inside : Known a u c v → Known (optional a) u c v
    inside (inl stands) = inl (Contains-append_left (codes "[" ++ spelled a) (codes "]") c (Contains-append_right (codes "[") (spelled a) c stands))
    inside (inr (d, n, other)) = inr (d, n, inr other)
known (group a) u c v m = inside (known a u c v m)
  where
    inside : Known a u c v → Known (group a) u c v
    inside (inl stands) = inl (Contains-append_left (codes "{" ++ spelled a) (codes "}") c (Contains-append_right (codes "{") (spelled a) c stands))
    inside (inr (d, n, other)) = inr (d, n, other)
known (many a) u c v (ps, all, e) = inside (pieces_known a ps u c v (known a) all e)
  where
    inside : Contains (spelled a) c ⊎ OtherPieces a (length ps) u c v → Known (many a) u c v
    inside (inl stands) = inl (Contains-append_right (codes "*") (spelled a) c stands)
    inside (inr (d, n, qs, long, each, joins)) = inr (d, n, (qs, each, joins))
known (times k a) u c v (ps, count, all, e) = inside (pieces_known a ps u c v (known a) all e)
  where
    inside : Contains (spelled a) c ⊎ OtherPieces a (length ps) u c v → Known (times k a) u c v
    inside (inl stands) = inl (Contains-append_right (codes "*" ++ count_text k) (spelled a) c stands)
    inside (inr (d, n, qs, long, each, joins)) = inr (d, n, (qs, long ∙ count, each, joins))

-- a text's only next character stands in the picture
pub next_stands : (p : Pattern) (t : List ℕ) (c : ℕ) → IsNextLiteral p t c → Contains (spelled p) c
next_stands p t c l = of_fit (known p t c l.fits.0 (subst (IsMember p) (regrouped t c l.fits.0) l.fits.1))
  where
    of_fit : Known p t c l.fits.0 → Contains (spelled p) c
    of_fit (inl stands) = stands
    of_fit (inr (d, n, m)) = absurd (n (l.only d (l.fits.0, subst (IsMember p) (sym (regrouped t d l.fits.0)) m)))
