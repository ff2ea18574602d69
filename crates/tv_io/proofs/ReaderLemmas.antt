-- One piece after another, from a reader.
use Rattle.std.proofs.Common.{ℕ, List, [], ◌++◌, Option, Some, None, refl, ap, sym, ◌∙◌, append_assoc}
use Rattle.std.specs.Io.KnownBytes.{Consumes}
use Rattle.tv_io.specs.Reader.{Given, HasGiven}
use Rattle.tv_io.proofs.WriterLemmas.{Appends-none, Appends-then}

Consumes-none : (a : Option (List ℕ)) → Consumes a a []
Consumes-none None = tt
Consumes-none (Some xs) = refl

Consumes-then : (a b c : Option (List ℕ)) (x y : List ℕ) → Consumes a b x → Consumes b c y → Consumes a c (x ++ y)
Consumes-then None b c x y p q = tt
Consumes-then (Some a) None c x y p q = absurd p
Consumes-then (Some a) (Some b) None x y p q = absurd q
Consumes-then (Some a) (Some b) (Some c) x y p q = p ∙ ap (λ (t : List ℕ). x ++ t) q ∙ sym (append_assoc x y c)

pub HasGiven-none : (g : Given) → HasGiven g g []
HasGiven-none g = record { gave = Appends-none g.given; took = Consumes-none g.left; count = refl }

pub HasGiven-then : {a b c : Given} (x y : List ℕ) → HasGiven a b x → HasGiven b c y → HasGiven a c (x ++ y)
HasGiven-then {a} {b} {c} x y p q = record {
  gave = Appends-then a.given b.given c.given x y p.gave q.gave;
  took = Consumes-then a.left b.left c.left x y p.took q.took;
  count = q.count ∙ p.count;
}
