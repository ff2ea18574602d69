-- The fields of a form, one by one.
use Rattle.std.proofs.Common.{◌≡◌, ℕ, ◌≤◌, ◌-◌, List, [], ◌∷◌, ◌++◌, length, drop, take, Result, Ok, Err, ap, ◌∙◌, sym, refl, append_assoc, arith}
use Rattle.std.proofs.lemmas.List.{length-drop, take_all}
use Rattle.tv_boxes.specs.declared.request.FormField.{FormField}
use Rattle.tv_boxes.specs.declared.misuse.Misuse.{Misuse}
use Rattle.tv_boxes.specs.Arguments.{and_then, field_in, fields_in, with_field}

-- these fields, and then what is read
abbrev pub behind : List FormField → Result (List FormField) Misuse → Result (List FormField) Misuse
behind fields more = and_then more (λ more. Ok (fields ++ more))

-- one field more
pub one_field_more : (fields : List FormField) (field : FormField) (more : Result (List FormField) Misuse) → behind fields (with_field (Ok field) more) ≡ behind (fields ++ field ∷ []) more
one_field_more fields field (Err misuse) = refl
one_field_more fields field (Ok m) = ap Ok (sym (append_assoc fields (field ∷ []) m))

-- the first eight words are a field
pub field_first : (left : List (List ℕ)) (field : FormField) → 8 ≤ length left → field_in left ≡ Ok field → fields_in left ≡ with_field (Ok field) (fields_in (drop 8 left))
field_first (a ∷ b ∷ c ∷ d ∷ e ∷ f ∷ g ∷ h ∷ words) field long read = ap (λ found. with_field found (fields_in words)) read
field_first _ field long read = absurd (omega (arith, long))

-- they are none
pub field_amiss : (left : List (List ℕ)) (misuse : Misuse) → 8 ≤ length left → field_in left ≡ Err misuse → fields_in left ≡ Err misuse
field_amiss (a ∷ b ∷ c ∷ d ∷ e ∷ f ∷ g ∷ h ∷ words) misuse long read = ap (λ found. with_field found (fields_in words)) read
field_amiss _ misuse long read = absurd (omega (arith, long))

-- so that they are behind the fields so far
pub fields_go_on : (fields new : List FormField) (field : FormField) (left : List (List ℕ)) → 8 ≤ length left → field_in left ≡ Ok field → new ≡ fields ++ field ∷ [] → behind new (fields_in (take (length left - 8) (drop 8 left))) ≡ behind fields (fields_in left)
fields_go_on fields new field left long read grown =
    ap (λ rest. behind new (fields_in rest)) (take_all (length left - 8) (drop 8 left) (omega (arith, length-drop 8 left)))
    ∙ ap (λ (all : List FormField). behind all (fields_in (drop 8 left))) grown
    ∙ sym (one_field_more fields field (fields_in (drop 8 left)))
    ∙ ap (behind fields) (sym (field_first left field long read))
