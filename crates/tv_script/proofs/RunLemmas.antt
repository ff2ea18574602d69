-- A machine, one input more.
use Rattle.std.proofs.Common.{◌≡◌, ℕ, ◌+◌, ◌<◌, List, [], ◌∷◌, ◌++◌, length, get_or, take, refl, sym, ap, ◌∙◌, append_assoc}
use Rattle.std.proofs.lemmas.List.{append-nil, take_more}
use Rattle.tv_machine.specs.Output.{states, texts}

pub states-push : {S E : Type 0} (next : S → E → S) (s : S) (es : List E) (e : E) → states next s (es ++ e ∷ []) ≡ next (states next s es) e
states-push next s [] e = refl
states-push next s (x ∷ es) e = states-push next (next s x) es e

pub texts-push : {S E : Type 0} (next : S → E → S) (text : S → E → List ℕ) (s : S) (es : List E) (e : E) → texts next text s (es ++ e ∷ []) ≡ texts next text s es ++ text (states next s es) e
texts-push next text s [] e = append-nil (text s e)
texts-push next text s (x ∷ es) e = ap (λ (t : List ℕ). text s x ++ t) (texts-push next text (next s x) es e) ∙ sym (append_assoc (text s x) (texts next text (next s x) es) (text (states next (next s x) es) e))

pub states-take_more : {S E : Type 0} (next : S → E → S) (s : S) (es : List E) (i : ℕ) (d : E) → i < length es → states next s (take (i + 1) es) ≡ next (states next s (take i es)) (get_or es i d)
states-take_more next s es i d lt = ap (states next s) (take_more es i d lt) ∙ states-push next s (take i es) (get_or es i d)

pub texts-take_more : {S E : Type 0} (next : S → E → S) (text : S → E → List ℕ) (s : S) (es : List E) (i : ℕ) (d : E) → i < length es → texts next text s (take (i + 1) es) ≡ texts next text s (take i es) ++ text (states next s (take i es)) (get_or es i d)
texts-take_more next text s es i d lt = ap (texts next text s) (take_more es i d lt) ∙ texts-push next text s (take i es) (get_or es i d)

-- some inputs, and then more
pub texts-append : {S E : Type 0} (next : S → E → S) (text : S → E → List ℕ) (s : S) (es more : List E) → texts next text s (es ++ more) ≡ texts next text s es ++ texts next text (states next s es) more
texts-append next text s [] more = refl
texts-append next text s (x ∷ es) more = ap (λ (t : List ℕ). text s x ++ t) (texts-append next text (next s x) es more) ∙ sym (append_assoc (text s x) (texts next text (next s x) es) (texts next text (states next (next s x) es) more))
