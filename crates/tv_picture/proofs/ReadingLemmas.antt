-- The function that reads a picture's text gives the one picture that it spells.
use Rattle.std.proofs.Common.{◌≡◌, ◌↔◌, ℕ, Bool, true, false, List, refl, ◌∙◌, sym, ap, subst}
use Rattle.std.specs.Prelude.{Option, Some, None}
use Rattle.std.specs.Option.{option_and_then}
use Rattle.tv_picture.specs.Pattern.{Pattern}
use Rattle.tv_picture.specs.Spelling.{spelled, IsPicture}
use Rattle.tv_picture.specs.Code.{top}
use Rattle.tv_picture.specs.Parsing.{Reading, is_closed, merged, text_steps, nothing_parsed, pattern_read, picture_of}
use Rattle.tv_picture.proofs.Grammar.{picture_goes}
use Rattle.tv_picture.proofs.Soundness.{steps_spell, start_fine, closes}
use Rattle.tv_picture.proofs.Spelled.{Spells}
use Rattle.tv_picture.proofs.Parsed.{closed_state, merged_pending}

pub picture_read : (p : Pattern) → IsPicture p → picture_of (spelled p) ≡ Some p
picture_read p pic = let g = picture_goes p pic in ap (option_and_then pattern_read) g.1 ∙ ap (λ (s : List Pattern). Some (top s)) (merged_pending p g.0 pic.1)

abbrev Spelled : List ℕ → Type 0
Spelled text = (p : Pattern) × IsPicture p × (spelled p ≡ text)

spells : (text : List ℕ) (p : Pattern) → picture_of text ≡ Some p → Spelled text
spells text p e = read (text_steps nothing_parsed text) refl e
  where
    whole : (r : Reading) → text_steps nothing_parsed text ≡ Some r → is_closed r ≡ true → Spelled text
    whole r reads done =
        let sp = steps_spell text nothing_parsed r start_fine reads in
        let cl = closes r.built.stack r.built.height r.choice text (subst (λ (x : Reading). Spells x text) (closed_state r done) sp) in
        (cl.whole, cl.picture, cl.spelling)

    ended : (r : Reading) → text_steps nothing_parsed text ≡ Some r → (b : Bool) → is_closed r ≡ b → elim b as (λ x. Option Pattern) [ true ↦ Some (top (merged r.choice r.built).stack) | false ↦ None ] ≡ Some p → Spelled text
    ended r reads true done h = whole r reads done
    ended r reads false done h = absurd (cc)

    read : (o : Option Reading) → text_steps nothing_parsed text ≡ o → option_and_then pattern_read o ≡ Some p → Spelled text
    read None reads h = absurd (cc)
    read (Some r) reads h = ended r reads (is_closed r) refl h

-- a text is read as the picture that is spelled so
pub picture_law : (text : List ℕ) (p : Pattern) → (picture_of text ≡ Some p) ↔ (IsPicture p × (spelled p ≡ text))
picture_law text p = ((λ e. from e (spells text p e)), (λ h. ap picture_of (sym h.1) ∙ picture_read p h.0))
  where
    from : picture_of text ≡ Some p → Spelled text → IsPicture p × (spelled p ≡ text)
    from e (q, pic, sp) =
        let again : picture_of text ≡ Some q = ap picture_of (sym sp) ∙ picture_read q pic in
        let same : q ≡ p = cc in
        subst (λ x. IsPicture x × (spelled x ≡ text)) same (pic, sp)
