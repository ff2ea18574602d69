-- The values after a search of the entries.
use Rattle.std.proofs.Common.{◌≡◌, ◌+◌, ◌<◌, ℕ, Bool, true, false, [], ◌∷◌, ◌++◌, length, Some, None, ◌==◌, if◌then◌else◌, refl, ap, sym, ◌∙◌, arith, position, slice_set, get_or, zero, suc, IsSome, ◌⊎◌, inl, inr, subst}
use Rattle.std.specs.List.{position_from}
use Rattle.std.proofs.lemmas.List.Quantifiers.{position-Some}
use Rattle.std.proofs.lemmas.Iterator.Adapters.{position_from-zero}
use Rattle.tv_model.specs.declared.node.Id.{Id}
use Rattle.tv_model.specs.declared.record.Value.{Value}
use Rattle.tv_model.specs.declared.record.Entry.{Entry}
use Rattle.tv_model.specs.Log.Record.{Entries, value_of, with_value}

abbrev is_of : ℕ → Entry → Bool
is_of f e = e.id.0 == f

abbrev entry : Id → Value → Entry
entry id value = record { id = id; value = value }

none_from : (f s : ℕ) (xs : Entries) → position_from (is_of f) s xs ≡ None → value_of xs f ≡ None
none_from f s [] h = refl
none_from f s (e ∷ es) h = grind (arith, h, none_from f (s + 1) es)

appends_from : (id : Id) (v : Value) (s : ℕ) (xs : Entries) → position_from (is_of id.0) s xs ≡ None → with_value xs id v ≡ xs ++ entry id v ∷ []
appends_from id v s [] h = refl
appends_from id v s (e ∷ es) h = grind (arith, h, appends_from id v (s + 1) es)

pub value_of-with_value : (xs : Entries) (id : Id) (v : Value) (f : ℕ) → value_of (with_value xs id v) f ≡ (if f == id.0 then Some v else value_of xs f)
value_of-with_value [] id v f = grind (arith)
value_of-with_value (e ∷ es) id v f = grind (arith, value_of-with_value es id v f)

pub value_of-None : (f : ℕ) (xs : Entries) → position (is_of f) xs ≡ None → value_of xs f ≡ None
value_of-None f xs h = none_from f 0 xs (sym (position_from-zero (is_of f) xs) ∙ h)

pub with_value-None : (id : Id) (v : Value) (xs : Entries) → position (is_of id.0) xs ≡ None → with_value xs id v ≡ xs ++ entry id v ∷ []
with_value-None id v xs h = appends_from id v 0 xs (sym (position_from-zero (is_of id.0) xs) ∙ h)

pub value_of-at : (f : ℕ) (xs : Entries) (i : ℕ) (d : Entry) → i < length xs → (get_or xs i d).id.0 == f ≡ true → ((k : ℕ) → k < i → (get_or xs k d).id.0 == f ≡ false) → value_of xs f ≡ Some (get_or xs i d).value
value_of-at f [] i d l y n = absurd (omega (arith, l))
value_of-at f (e ∷ es) zero d l y n = rw y refl
value_of-at f (e ∷ es) (suc i) d l y n = rw (n 0 (omega arith)) (value_of-at f es i d (omega (arith, l)) y (λ k b. n (suc k) (omega (arith, b))))

pub with_value-at : (id : Id) (v : Value) (xs : Entries) (i : ℕ) (d : Entry) → i < length xs → (get_or xs i d).id.0 == id.0 ≡ true → ((k : ℕ) → k < i → (get_or xs k d).id.0 == id.0 ≡ false) → with_value xs id v ≡ slice_set xs i (entry (get_or xs i d).id v)
with_value-at id v [] i d l y n = absurd (omega (arith, l))
with_value-at id v (e ∷ es) zero d l y n = rw y refl
with_value-at id v (e ∷ es) (suc i) d l y n = rw (n 0 (omega arith)) (ap (λ zs. e ∷ zs) (with_value-at id v es i d (omega (arith, l)) y (λ k b. n (suc k) (omega (arith, b)))))

pub value_of-Some : (f : ℕ) (xs : Entries) (i : ℕ) (d : Entry) → position (is_of f) xs ≡ Some i → value_of xs f ≡ Some (get_or xs i d).value
value_of-Some f xs i d h = let p = position-Some (is_of f) xs i d h in value_of-at f xs i d p.0 p.1 p.2

pub with_value-Some : (id : Id) (v : Value) (xs : Entries) (i : ℕ) (d : Entry) → position (is_of id.0) xs ≡ Some i → with_value xs id v ≡ slice_set xs i (entry (get_or xs i d).id v)
with_value-Some id v xs i d h = let p = position-Some (is_of id.0) xs i d h in with_value-at id v xs i d p.0 p.1 p.2

-- a field that has no value leaves room, where one of the two holds
pub room : (f : ℕ) (xs : Entries) → IsSome (value_of xs f) ⊎ (length xs < 64) → position (is_of f) xs ≡ None → length xs < 64
room f xs (inl has) h = let none : value_of xs f ≡ None = value_of-None f xs h in let bad : false ≡ true = subst IsSome none has in cc
room f xs (inr fits) h = fits
