-- The first place at which something fails to hold.
use Rattle.std.proofs.Common.{◌≡◌, ℕ, zero, suc, ◌+◌, ◌<◌, ◌≤◌, List, [], ◌∷◌, ◌++◌, length, get_or, take, drop, refl, sym, ap, ◌∙◌, add-one, drop-cons, subst, arith}
use Rattle.std.specs.Prelude.{All, slice_get, Err}
use Rattle.std.proofs.lemmas.List.{take-append-drop, take_all}
use Rattle.std.proofs.lemmas.List.Elements.{All-contains, All-more, Contains-append_right, Contains-get_or}
use Rattle.tv_model.specs.declared.desc.Desc.{Desc}
use Rattle.tv_model.specs.Faults.{IsSound}
use Rattle.tv_certificate.specs.declared.certificate.Certificate.{Certificate}
use Rattle.tv_check.specs.declared.acceptance.Refusal.{Refusal}
use Rattle.tv_check.specs.declared.acceptance.Refusal.TheVariants as refusals
use Rattle.tv_check.specs.Certificates.{IsSoundCertificate, NamesOwners}
use Rattle.tv_check.specs.Refusals.{Accepts, IsFirstWithout, RefusesToAccept}

-- a loop over a list stops at its first item without P
pub stops_here : {A : Type 0} (P : A → Type 0) (xs ys : List A) (i : ℕ) (x : A) → xs ≡ ys → i < length xs → x ≡ get_or xs i x → All P (take i xs) → (P x → ⊥) → IsFirstWithout P ys x
stops_here P xs ys i x same less is passed stops = subst (λ zs. IsFirstWithout P zs x) same (record {
  before = take i xs;
  after = drop (suc i) xs;
  parts = sym (take-append-drop i xs) ∙ ap (λ zs. take i xs ++ zs) (drop-cons xs i x less ∙ ap (λ y. y ∷ drop (suc i) xs) (sym is));
  passed = passed;
  stops = stops;
})

-- it goes on past an item with P
pub goes_on : {A : Type 0} (P : A → Type 0) (xs : List A) (i : ℕ) (x : A) → i < length xs → x ≡ get_or xs i x → All P (take i xs) → P x → All P (take (i + 1) xs)
goes_on P xs i x less is passed here = All-more P xs i x less passed (subst P is here)

-- it has gone past all items
pub gone : {A : Type 0} (P : A → Type 0) (xs ys : List A) (i : ℕ) → xs ≡ ys → length xs ≤ i → All P (take i xs) → All P ys
gone P xs ys i same past passed = subst (All P) (take_all i xs past ∙ same) passed

-- two lists that are alike so far, and at the next place, are alike further on
pub alike_more : {A : Type 0} (xs ys : List A) (i : ℕ) → take i xs ≡ take i ys → slice_get xs i ≡ slice_get ys i → take (i + 1) xs ≡ take (i + 1) ys
alike_more xs ys i same next = rw add-one (more xs ys i same next)
  where
    more : {A : Type 0} (xs ys : List A) (i : ℕ) → take i xs ≡ take i ys → slice_get xs i ≡ slice_get ys i → take (suc i) xs ≡ take (suc i) ys
    more [] [] i same next = refl
    more [] (y ∷ ys) zero same next = absurd cc
    more [] (y ∷ ys) (suc i) same next = absurd cc
    more (x ∷ xs) [] zero same next = absurd cc
    more (x ∷ xs) [] (suc i) same next = absurd cc
    more (x ∷ xs) (y ∷ ys) zero same next = let e : x ≡ y = cc in ap (λ z. z ∷ []) e
    more (x ∷ xs) (y ∷ ys) (suc i) same next =
        let e : x ≡ y = cc in
        let rest : take i xs ≡ take i ys = cc in
        rw e (ap (λ zs. y ∷ zs) (more xs ys i rest next))

-- where each item has P, none is the first without it
pub never_first : {A : Type 0} (P : A → Type 0) (xs : List A) (x : A) → All P xs → IsFirstWithout P xs x → ⊥
never_first P xs x all first =
    first.stops (All-contains P (first.before ++ x ∷ first.after) x (rw (← first.parts) all) (Contains-append_right first.before (x ∷ first.after) x (Contains-get_or (x ∷ first.after) 0 x (omega arith))))

-- a sound description with its sound certificate is refused for want of memory alone
pub sound_accepted : (A : Type 0) (d : Desc) (certificate : Certificate) (refusal : Refusal) (back : Desc) → RefusesToAccept d certificate refusal → IsSound d → IsSoundCertificate d certificate → Accepts {A = A} (Err (refusal, back))
sound_accepted A d certificate refusals.NoMemory back why sound fits = tt
sound_accepted A d certificate (refusals.Faulty fault) back why sound fits = let clash : fault ∷ why.0 ≡ [] = sym why.1 ∙ sound in absurd cc
sound_accepted A d certificate refusals.CertVersion back why sound fits = absurd (why.1 fits.version)
sound_accepted A d certificate (refusals.TabOrder place) back why sound fits = absurd (why.2.differ (ap (λ tabs. slice_get tabs why.2.before) fits.tabs))
sound_accepted A d certificate (refusals.Owner letter) back why sound fits = absurd (never_first (NamesOwners d.version certificate.blocks) d.dialogs why.3.0 fits.owners why.3.1)
