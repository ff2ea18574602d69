-- What follows from a fact on a result.
use Rattle.std.proofs.Common.{Result, Ok, Err, OnOk, IfErr}

pub on_ok : {T E P Q : Type 0} → (P → Q) → (r : Result T E) → OnOk r P → OnOk r Q
on_ok f (Ok x) fact = f fact
on_ok f (Err e) fact = tt

pub if_err : {T E : Type 0} {P Q : E → Type 0} → ((e : E) → P e → Q e) → (r : Result T E) → IfErr r P → IfErr r Q
if_err f (Ok x) fact = tt
if_err f (Err e) fact = f e fact

-- whatever the fault is
pub if_any : {T E : Type 0} {P : E → Type 0} → ((e : E) → P e) → (r : Result T E) → IfErr r P
if_any f (Ok x) = tt
if_any f (Err e) = f e
