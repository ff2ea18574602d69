-- One text after another, through a pen.
use Rattle.std.proofs.Common.{◌≡◌, ℕ, ◌<◌, ◌+◌, Bool, true, false, List, ◌∷◌, [], ◌++◌, length, get_or, take, refl, ap, sym, append_assoc, ◌∙◌}
use Rattle.std.proofs.lemmas.List.{append-nil, take_more}
use Rattle.std.proofs.lemmas.List.Concat.{flat_map-append}
use Rattle.std.specs.List.{flat_map}
use Rattle.tv_io.specs.declared.pen.Pen.{Pen}
use Rattle.tv_io.specs.Writer.{Seen, Takes, Cuts}
use Rattle.tv_io.specs.Pen.{Puts, PutsBy, PutsPart}
use Rattle.tv_io.proofs.WriterLemmas.{Takes-none, Takes-then, Cuts-longer, Cuts-after}

PutsBy-none : (a : Seen) (s : Bool) → PutsBy a s a s []
PutsBy-none a true = (refl, refl)
PutsBy-none a false = Takes-none a

PutsBy-then : (a b c : Seen) (s t u : Bool) (x y : List ℕ) → PutsBy a s b t x → PutsBy b t c u y → PutsBy a s c u (x ++ y)
PutsBy-then a b c true true u x y p q = (q.0 ∙ p.0, q.1)
PutsBy-then a b c true false u x y p q = absurd cc
PutsBy-then a b c false true true x y p q = rw q.0 (Cuts-longer x y p)
PutsBy-then a b c false true false x y p q = absurd cc
PutsBy-then a b c false false true x y p q = Cuts-after x y p q
PutsBy-then a b c false false false x y p q = Takes-then x y p q

PutsBy-stopped : (a b : Seen) (s t : Bool) (x : List ℕ) → s ≡ false → t ≡ true → PutsBy a s b t x → Cuts a b x
PutsBy-stopped a b true t x e f p = absurd cc
PutsBy-stopped a b false true x e f p = p
PutsBy-stopped a b false false x e f p = absurd cc

PutsBy-went_on : (a b : Seen) (s t : Bool) (x : List ℕ) → t ≡ false → PutsBy a s b t x → Takes a b x
PutsBy-went_on a b true t x f p = let both : t ≡ true = p.1 in absurd cc
PutsBy-went_on a b false true x f p = absurd cc
PutsBy-went_on a b false false x f p = p

-- one more piece of a text that is made piece by piece
pub flat_map-take_more : {X : Type 0} (f : X → List ℕ) (xs : List X) (i : ℕ) (d : X) → i < length xs → flat_map f (take (i + 1) xs) ≡ flat_map f (take i xs) ++ f (get_or xs i d)
flat_map-take_more f xs i d lt = ap (flat_map f) (take_more xs i d lt) ∙ flat_map-append f (take i xs) (get_or xs i d ∷ []) ∙ ap (λ (t : List ℕ). flat_map f (take i xs) ++ t) (append-nil (f (get_or xs i d)))

module _ {W : Type 0} {seen : W → Seen} where
  pub Puts-none : {a : Pen W} → Puts seen a a []
  Puts-none {a} = record { how = PutsBy-none (seen a.out.now) a.stopped; same = refl }

  pub Puts-then : {a b c : Pen W} {x y : List ℕ} → Puts seen a b x → Puts seen b c y → Puts seen a c (x ++ y)
  Puts-then {a} {b} {c} {x} {y} p q = record { how = PutsBy-then (seen a.out.now) (seen b.out.now) (seen c.out.now) a.stopped b.stopped c.stopped x y p.how q.how; same = q.same ∙ p.same }

  pub Puts-along : {a b : Pen W} {x y : List ℕ} → x ≡ y → Puts seen a b x → Puts seen a b y
  Puts-along e p = rw e at p

  pub Puts-more : {X : Type 0} {a b c : Pen W} (f : X → List ℕ) (xs : List X) (i : ℕ) (d : X) → i < length xs → Puts seen a b (flat_map f (take i xs)) → Puts seen b c (f (get_or xs i d)) → Puts seen a c (flat_map f (take (i + 1) xs))
  Puts-more f xs i d lt p q = rw (flat_map-take_more f xs i d lt) (Puts-then p q)

  -- of a text that is put part by part, one part more
  pub PutsPart-then : {a b c : Pen W} {old new : List ℕ} (text more : List ℕ) → PutsPart seen a b [] text old → PutsPart seen b c old more new → PutsPart seen a c [] (text ++ more) new
  PutsPart-then {a} {b} {c} {old} {new} text more p q = (p.0 ++ q.0, Puts-then p.1 q.1, append_assoc p.0 q.0 new ∙ ap (λ (t : List ℕ). p.0 ++ t) q.2 ∙ sym (append_assoc p.0 old more) ∙ ap (λ (t : List ℕ). t ++ more) p.2)

  -- what waits is put too
  pub PutsPart-end : {a b c : Pen W} {text waits : List ℕ} → PutsPart seen a b [] text waits → Puts seen b c waits → Puts seen a c text
  PutsPart-end p q = Puts-along p.2 (Puts-then p.1 q)

  pub Cuts-from_stopped : {a b : Pen W} {x : List ℕ} → a.stopped ≡ false → b.stopped ≡ true → Puts seen a b x → Cuts (seen a.out.now) (seen b.out.now) x
  Cuts-from_stopped {a} {b} {x} e f p = PutsBy-stopped (seen a.out.now) (seen b.out.now) a.stopped b.stopped x e f p.how

  pub Takes-from_went_on : {a b : Pen W} {x : List ℕ} → b.stopped ≡ false → Puts seen a b x → Takes (seen a.out.now) (seen b.out.now) x
  Takes-from_went_on {a} {b} {x} f p = PutsBy-went_on (seen a.out.now) (seen b.out.now) a.stopped b.stopped x f p.how
