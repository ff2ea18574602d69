-- What a value that is there was made of.
use Rattle.std.proofs.Common.{◌≡◌, Option, Some, None, refl}
use Rattle.std.specs.Prelude.{option_and_then}
use Rattle.std.specs.Option.{option_map}
use Rattle.tv_declarations.specs.Reading.Options.{with2, with3, with4, with5}

pub map_some : {A R : Type 0} (f : A → R) (o : Option A) (r : R) → option_map f o ≡ Some r → (a : A) × (o ≡ Some a) × (f a ≡ r)
map_some f None r e = absurd cc
map_some f (Some a) r e = (a, refl, cc)

pub then_some : {A R : Type 0} (f : A → Option R) (o : Option A) (r : R) → option_and_then f o ≡ Some r → (a : A) × (o ≡ Some a) × (f a ≡ Some r)
then_some f None r e = absurd cc
then_some f (Some a) r e = (a, refl, e)

pub with2_some : {A B R : Type 0} (f : A → B → R) (oa : Option A) (ob : Option B) (r : R) → with2 f oa ob ≡ Some r → (a : A) × (b : B) × (oa ≡ Some a) × (ob ≡ Some b) × (f a b ≡ r)
with2_some f None ob r e = absurd cc
with2_some f (Some a) None r e = absurd cc
with2_some f (Some a) (Some b) r e = (a, b, refl, refl, cc)

pub with3_some : {A B C R : Type 0} (f : A → B → C → R) (oa : Option A) (ob : Option B) (oc : Option C) (r : R) → with3 f oa ob oc ≡ Some r → (a : A) × (b : B) × (c : C) × (oa ≡ Some a) × (ob ≡ Some b) × (oc ≡ Some c) × (f a b c ≡ r)
with3_some f None ob oc r e = absurd cc
with3_some f (Some a) None oc r e = absurd cc
with3_some f (Some a) (Some b) None r e = absurd cc
with3_some f (Some a) (Some b) (Some c) r e = (a, b, c, refl, refl, refl, cc)

pub with4_some : {A B C D R : Type 0} (f : A → B → C → D → R) (oa : Option A) (ob : Option B) (oc : Option C) (od : Option D) (r : R) → with4 f oa ob oc od ≡ Some r → (a : A) × (b : B) × (c : C) × (d : D) × (oa ≡ Some a) × (ob ≡ Some b) × (oc ≡ Some c) × (od ≡ Some d) × (f a b c d ≡ r)
with4_some f None ob oc od r e = absurd cc
with4_some f (Some a) None oc od r e = absurd cc
with4_some f (Some a) (Some b) None od r e = absurd cc
with4_some f (Some a) (Some b) (Some c) None r e = absurd cc
with4_some f (Some a) (Some b) (Some c) (Some d) r e = (a, b, c, d, refl, refl, refl, refl, cc)

pub with5_some : {A B C D E R : Type 0} (f : A → B → C → D → E → R) (oa : Option A) (ob : Option B) (oc : Option C) (od : Option D) (oe : Option E) (r : R) → with5 f oa ob oc od oe ≡ Some r → (a : A) × (b : B) × (c : C) × (d : D) × (e : E) × (oa ≡ Some a) × (ob ≡ Some b) × (oc ≡ Some c) × (od ≡ Some d) × (oe ≡ Some e) × (f a b c d e ≡ r)
with5_some f None ob oc od oe r e = absurd cc
with5_some f (Some a) None oc od oe r e = absurd cc
with5_some f (Some a) (Some b) None od oe r e = absurd cc
with5_some f (Some a) (Some b) (Some c) None oe r e = absurd cc
with5_some f (Some a) (Some b) (Some c) (Some d) None r e = absurd cc
with5_some f (Some a) (Some b) (Some c) (Some d) (Some x) r e = (a, b, c, d, x, refl, refl, refl, refl, refl, cc)
