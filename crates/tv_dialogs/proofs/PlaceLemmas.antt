-- Lists that are read and written by place.
use Rattle.std.proofs.Common.{arith, ◌≡◌, ◌<◌, ℕ, zero, suc, List, [], ◌∷◌, length, Some, None, replicate, refl, ap}
use Rattle.std.specs.Prelude.{slice_get, slice_set, unwrap_or}

pub same-some : {A : Type 0} (x y : A) → Some x ≡ Some y → x ≡ y
same-some x y e = cc

pub nothing-some : {A : Type 0} (x : A) → None ≡ Some x → ⊥
nothing-some x e = cc

pub get-set-same : {A : Type 0} (xs : List A) (i : ℕ) (v : A) → i < length xs → slice_get (slice_set xs i v) i ≡ Some v
get-set-same [] i v less = absurd (omega arith)
get-set-same (y ∷ xs) zero v less = refl
get-set-same (y ∷ xs) (suc i) v less = get-set-same xs i v (omega arith)

pub get-set-other : {A : Type 0} (xs : List A) (i j : ℕ) (v : A) → (j ≡ i → ⊥) → slice_get (slice_set xs i v) j ≡ slice_get xs j
get-set-other [] i j v apart = refl
get-set-other (y ∷ xs) zero zero v apart = absurd (apart refl)
get-set-other (y ∷ xs) zero (suc j) v apart = refl
get-set-other (y ∷ xs) (suc i) zero v apart = refl
get-set-other (y ∷ xs) (suc i) (suc j) v apart = get-set-other xs i j v (λ e. apart (ap (λ (n : ℕ). suc n) e))

-- what is there already may be written again
pub set-itself : {A : Type 0} (xs : List A) (i : ℕ) (x : A) → slice_get xs i ≡ Some x → slice_set xs i x ≡ xs
set-itself [] i x e = refl
set-itself (y ∷ xs) zero x e = let same : y ≡ x = cc in ap (λ z. z ∷ xs) (let back : x ≡ y = cc in back)
set-itself (y ∷ xs) (suc i) x e = ap (λ ys. y ∷ ys) (set-itself xs i x e)

pub there-is : {A : Type 0} (xs : List A) (i : ℕ) → i < length xs → (x : A) × (slice_get xs i ≡ Some x)
there-is [] i less = absurd (omega arith)
there-is (x ∷ xs) zero less = (x, refl)
there-is (x ∷ xs) (suc i) less = there-is xs i (omega arith)

-- so many copies of a value have it at each place
pub copy-at : {A : Type 0} (n : ℕ) (v : A) (i : ℕ) → unwrap_or (slice_get (replicate n v) i) v ≡ v
copy-at zero v i = refl
copy-at (suc n) v zero = refl
copy-at (suc n) v (suc i) = copy-at n v i

pub copies-count : {A : Type 0} (n : ℕ) (v : A) → length (replicate n v) ≡ n
copies-count zero v = refl
copies-count (suc n) v = ap (λ (k : ℕ). suc k) (copies-count n v)
