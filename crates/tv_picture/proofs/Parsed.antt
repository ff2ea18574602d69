-- What the parser answers: the one picture that the text spells, or the first place that no picture has.
use Rattle.std.proofs.Common.{inl, inr, ◌≡◌, ◌⊎◌, ◌+◌, ◌-◌, ◌≤◌, ◌<◌, ℕ, List, [], ◌∷◌, ◌++◌, length, take, drop, arith, refl, sym, ◌∙◌, ap, subst, append_assoc, Bool, true, false, ◌&&◌, not, get_or}
use Rattle.std.specs.Prelude.{Option, Some, None}
use Rattle.std.specs.Option.{option_and_then}
use Rattle.std.proofs.Math.Seq.{take-add}
use Rattle.std.proofs.lemmas.List.{take_all, take_more, take-append-drop}
use Rattle.tv_picture.specs.declared.code.Op.{Op}
use Rattle.tv_picture.specs.declared.parser.Repeat.{Repeat}
use Rattle.tv_picture.specs.declared.parser.Repeat.TheVariants.{Once, Many, Times}
use Rattle.tv_picture.specs.declared.parser.Open.{Open}
use Rattle.tv_picture.specs.Pattern.{Pattern, empty, one, sequence, either, optional, group, many, times}
use Rattle.tv_picture.specs.Code.{pattern_of, height_from, top}
use Rattle.tv_picture.specs.Spelling.{spelled, rank, IsPicture, BeginsPicture, IsFirstFaultyPlace}
use Rattle.tv_picture.specs.Parsing.{Built, Reading, built_by, merged, is_empty_list, is_once, is_closed, text_step, text_steps, nothing_parsed}
use Rattle.tv_picture.proofs.Grammar.{state, is_either, pending, steps-append, steps_then, picture_goes}
use Rattle.tv_picture.proofs.Soundness.{steps_spell, start_fine, closes, ends}
use Rattle.tv_picture.proofs.Spelled.{Spells}

-- ---- a reading that waits for nothing

closed_parts : (b : Built) (os : List Open) (c : Bool) (r : Repeat) (q : Bool) → (is_empty_list os && is_once r && not q) ≡ true → (os ≡ []) × (r ≡ Once) × (q ≡ false)
closed_parts b [] c Once false e = (refl, refl, refl)
closed_parts b [] c Once true e = cc
closed_parts b [] c Many q e = cc
closed_parts b [] c (Times n) q e = cc
closed_parts b (o ∷ os) c r q e = cc

pub closed_state : (r : Reading) → is_closed r ≡ true → r ≡ state r.built.stack r.built.height [] r.choice Once false
closed_state r e =
    let p = closed_parts r.built r.brackets r.choice r.repeat r.quoted e in
    ap (λ os. state r.built.stack r.built.height os r.choice r.repeat r.quoted) p.0
    ∙ ap (λ t. state r.built.stack r.built.height [] r.choice t r.quoted) p.1
    ∙ ap (λ q. state r.built.stack r.built.height [] r.choice Once q) p.2

pub merged_pending : (p : Pattern) (h : Option ℕ) → 2 ≤ rank p → (merged (is_either p) (record { stack = pending p []; height = h })).stack ≡ p ∷ []
merged_pending empty h high = refl
merged_pending (sequence a b) h high = refl
merged_pending (either a b) h high = refl
merged_pending (one m) h high = absurd (omega arith)
merged_pending (optional a) h high = absurd (omega arith)
merged_pending (group a) h high = absurd (omega arith)
merged_pending (many a) h high = absurd (omega arith)
merged_pending (times n a) h high = absurd (omega arith)

-- ---- a text that is a picture

pub record Parsed (text : List ℕ) (code : List Op) : Type 0 where
  pub picture : IsPicture (pattern_of code)
  pub spelling : spelled (pattern_of code) ≡ text
  pub height : height_from 0 code ≡ Some 1
  pub only : (p : Pattern) → IsPicture p → spelled p ≡ text → pattern_of code ≡ p

some_is : (r s : Reading) → Some r ≡ Some s → r ≡ s
some_is r s e = cc

pub parsed : (text : List ℕ) (r : Reading) (code : List Op) → text_steps nothing_parsed text ≡ Some r → is_closed r ≡ true → built_by code ≡ merged r.choice r.built → Parsed text code
parsed text r code e done b =
    let sp = steps_spell text nothing_parsed r start_fine e in
    let same = closed_state r done in
    let cl = closes r.built.stack r.built.height r.choice text (subst (λ (x : Reading). Spells x text) same sp) in
    let whole : built_by code ≡ record { stack = cl.whole ∷ []; height = Some 1 } = b ∙ cl.built in
    let is : pattern_of code ≡ cl.whole = ap (λ (x : Built). top x.stack) whole in
    record {
      picture = subst IsPicture (sym is) cl.picture;
      spelling = ap spelled is ∙ cl.spelling;
      height = ap (λ (x : Built). x.height) whole;
      only = λ p pic sp'.
          let g = picture_goes p pic in
          let reads : r ≡ state (pending p []) g.0 [] (is_either p) Once false = some_is r (state (pending p []) g.0 [] (is_either p) Once false) (sym e ∙ ap (text_steps nothing_parsed) (sym sp') ∙ g.1) in
          ap (λ (x : Built). top x.stack) (b ∙ ap (λ (x : Reading). merged x.choice x.built) reads) ∙ ap top (merged_pending p g.0 pic.1);
    }

-- ---- a text that isn't

-- no picture begins with what the parser refuses
dead : (x more : List ℕ) (p : Pattern) → text_steps nothing_parsed x ≡ None → IsPicture p → spelled p ≡ x ++ more → ⊥
dead x more p e pic sp =
    let g = picture_goes p pic in
    let none : text_steps nothing_parsed (x ++ more) ≡ None = steps-append nothing_parsed x more ∙ ap (option_and_then (λ s. text_steps s more)) e in
    let some : text_steps nothing_parsed (x ++ more) ≡ Some (state (pending p []) g.0 [] (is_either p) Once false) = ap (text_steps nothing_parsed) (sym sp) ∙ g.1 in
    cc

alive : (x : List ℕ) (r : Reading) → text_steps nothing_parsed x ≡ Some r → BeginsPicture x
alive x r e =
    let t = ends r in
    let all = steps_then nothing_parsed r x t.0 (Some (state t.1 t.2 [] t.3 Once false)) e t.4 in
    let cl = closes t.1 t.2 t.3 (x ++ t.0) (steps_spell (x ++ t.0) nothing_parsed (state t.1 t.2 [] t.3 Once false) start_fine all) in
    (cl.whole, t.0, cl.picture, cl.spelling)

one_more : (text : List ℕ) (i c : ℕ) (r : Reading) (next : Option Reading) → i < length text → c ≡ get_or text i c → text_steps nothing_parsed (take i text) ≡ Some r → text_step r c ≡ next → text_steps nothing_parsed (take (i + 1) text) ≡ next
one_more text i c r next within is e f =
    let grown : take (i + 1) text ≡ take i text ++ c ∷ [] = take_more text i c within ∙ ap (λ (x : ℕ). take i text ++ x ∷ []) (sym is) in
    ap (text_steps nothing_parsed) grown ∙ steps_then nothing_parsed r (take i text) (c ∷ []) next e (ap (option_and_then (λ s. text_steps s [])) f ∙ single next)
  where
    single : (o : Option Reading) → option_and_then (λ s. Some s) o ≡ o
    single None = refl
    single (Some s) = refl

pub takes_more : (text : List ℕ) (i c : ℕ) (r s : Reading) → i < length text → c ≡ get_or text i c → text_steps nothing_parsed (take i text) ≡ Some r → text_step r c ≡ Some s → text_steps nothing_parsed (take (i + 1) text) ≡ Some s
takes_more text i c r s within is e f = one_more text i c r (Some s) within is e f

pub refuses_at : (text : List ℕ) (i c : ℕ) (r : Reading) → i < length text → c ≡ get_or text i c → text_steps nothing_parsed (take i text) ≡ Some r → text_step r c ≡ None → IsFirstFaultyPlace text i
refuses_at text i c r within is e f = record {
  within = omega arith;
  begins = alive (take i text) r e;
  longest = λ k in_text b. shorter k (apart k) b;
  refused = λ p pic sp. dead (take (i + 1) text) (drop (i + 1) text) p stuck pic (sp ∙ sym (take-append-drop (i + 1) text));
}
  where
    stuck : text_steps nothing_parsed (take (i + 1) text) ≡ None
    stuck = one_more text i c r None within is e f

    apart : (k : ℕ) → (k ≤ i) ⊎ (i + 1 ≤ k)
    apart k = grind arith

    shorter : (k : ℕ) → (k ≤ i) ⊎ (i + 1 ≤ k) → BeginsPicture (take k text) → k ≤ i
    shorter k (inl h) b = h
    shorter k (inr h) (p, more, pic, sp) =
        let parts : take k text ≡ take (i + 1) text ++ take (k - (i + 1)) (drop (i + 1) text) = ap (λ (n : ℕ). take n text) (omega arith) ∙ take-add (i + 1) (k - (i + 1)) text in
        absurd (dead (take (i + 1) text) (take (k - (i + 1)) (drop (i + 1) text) ++ more) p stuck pic (sp ∙ ap (λ x. x ++ more) parts ∙ append_assoc (take (i + 1) text) (take (k - (i + 1)) (drop (i + 1) text)) more))

pub refuses_end : (text : List ℕ) (r : Reading) → text_steps nothing_parsed text ≡ Some r → is_closed r ≡ false → IsFirstFaultyPlace text (length text)
refuses_end text r e waits = record {
  within = omega arith;
  begins = subst BeginsPicture (sym (take_all (length text) text (omega arith))) (alive text r e);
  longest = λ k within b. within;
  refused = λ p pic sp.
      let g = picture_goes p pic in
      let reads : r ≡ state (pending p []) g.0 [] (is_either p) Once false = some_is r (state (pending p []) g.0 [] (is_either p) Once false) (sym e ∙ ap (text_steps nothing_parsed) (sym sp) ∙ g.1) in
      let closed : is_closed r ≡ true = ap is_closed reads in
      cc;
}
