-- Views that are declared, gathered one by one, and no session that refuses them for another cause than memory.
use Rattle.std.proofs.Common.{◌≡◌, inl, inr, refl, ℕ, ◌+◌, ◌<◌, List, [], ◌∷◌, ◌++◌, length, get_or, take, Some}
use Rattle.std.specs.List.{AllZip}
use Rattle.std.proofs.lemmas.List.{take_more}
use Rattle.tv_group.specs.declared.group.GroupOf.{GroupOf}
use Rattle.tv_model.specs.declared.desc.Desc.{Desc}
use Rattle.tv_session.specs.Freshness.{IsFirstStale, IsFreshBodyFor, IsFreshFor}
use Rattle.tv_app.specs.Views.{AreAsDeclared, NoneMismatches}
use Rattle.tv_view.specs.Meaning.{Leaf}
use Rattle.tv_window.specs.declared.window.WindowOf.{WindowOf}

-- ---- one by one

zip_behind : {D X : Type 0} (R : D → X → Type 0) (ds : List D) (xs : List X) (d : D) (x : X) → AllZip R ds xs → R d x → AllZip R (ds ++ d ∷ []) (xs ++ x ∷ [])
zip_behind R [] [] d x all own = (own, tt)
zip_behind R [] (y ∷ xs) d x all own = absurd all
zip_behind R (e ∷ ds) [] d x all own = absurd all
zip_behind R (e ∷ ds) (y ∷ xs) d x all own = (all.0, zip_behind R ds xs d x all.1 own)

-- one more was made, for the next that is declared
pub zip_more : {D X : Type 0} (R : D → X → Type 0) (ds : List D) (i : ℕ) (d : D) (old new : List X) (x : X) → i < length ds → d ≡ get_or ds i d
    → AllZip R (take i ds) old → new ≡ old ++ x ∷ [] → R d x → AllZip R (take (i + 1) ds) new
zip_more R ds i d old new x less is all added own =
    let step : take (i + 1) ds ≡ take i ds ++ d ∷ [] = rw (take_more ds i d less) (rw (← is) refl) in
    rw (step, added) (zip_behind R (take i ds) old d x all own)

-- ---- none is stale

none_stale : {D X : Type 0} (Fresh : D → X → Type 0) (place found : ℕ) (ds : List D) (xs : List X) → AllZip Fresh ds xs → IsFirstStale Fresh place ds xs (Some found) → ⊥
none_stale Fresh place found [] [] all is = cc
none_stale Fresh place found [] (x ∷ xs) all is = all
none_stale Fresh place found (d ∷ ds) [] all is = all
none_stale Fresh place found (d ∷ ds) (x ∷ xs) all (inl both) = none_stale Fresh (place + 1) found ds xs all.1 both.1
none_stale Fresh place found (d ∷ ds) (x ∷ xs) all (inr stale) = stale.0 all.0

pub none_mismatches : {V : Type 0} (look : V → Leaf) (d : Desc) (windows : List (WindowOf V)) (bodies : List (GroupOf V)) → AreAsDeclared look d windows bodies → NoneMismatches look d windows bodies
none_mismatches look d windows bodies are place (inl found) = none_stale (IsFreshFor look) 1 found.0 d.windows windows are.windows_of found.1
none_mismatches look d windows bodies are place (inr both) = none_stale (IsFreshBodyFor look) (length d.windows + 1) place d.dialogs bodies are.bodies_of both.1
