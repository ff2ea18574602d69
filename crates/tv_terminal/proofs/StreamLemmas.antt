-- Whole sequences in a row give what each of them means, and within a paste what is heard of it.
use Rattle.std.proofs.Common.{ℕ, ◌≡◌, ◌≤◌, ◌<◌, refl, sym, ap, ◌∙◌, subst, arith, Bool, true, false, List, [], ◌∷◌, ◌++◌, map, take, length, append_assoc, length-append, Option, None}
use Rattle.std.proofs.lemmas.Bool.{lt-ltb}
use Rattle.std.proofs.lemmas.List.{take_all}
use Rattle.std.proofs.lemmas.Slice.Eq.{bytes_eq-Decides}
use Rattle.std.specs.Prelude.{bytes_eq, if◌then◌else◌}
use Rattle.std.specs.List.{AllByRecursion}
use Rattle.tv_terminal.specs.declared.action.Action.{Action}
use Rattle.tv_terminal.specs.declared.reading.Reading.{Reading}
use Rattle.tv_terminal.specs.declared.reading.Reading.TheVariants.{Unfinished, Whole}
use Rattle.tv_terminal.specs.Sequences.{reading_of}
use Rattle.tv_terminal.specs.Decoding.{Symbol, Byte, given_as, left_open_as, before, between, decode_after, heard_while, paste_begin, paste_end, pasting_after}
use Rattle.tv_terminal.specs.Streams.{Lexeme, IsLexeme, actions_of, pasting_by, symbols_of}
use Rattle.tv_terminal.proofs.DecodeLemmas.{before-append}
use Rattle.tv_terminal.proofs.FrontLemmas.{front_unfinished}

-- ---- pastes

false-unless : (test : Bool) → (test ≡ true → ⊥) → test ≡ false
false-unless true never = absurd (never refl)
false-unless false never = refl

-- a paste begins and ends with sequences that mean nothing else
pub pasting-still : (was : Bool) (bytes : List ℕ) → (reading_of bytes ≡ Whole None → ⊥) → pasting_after was bytes ≡ was
pasting-still was bytes other =
    ap (λ test. if test then true else if bytes_eq bytes paste_end then false else was)
    (false-unless (bytes_eq bytes paste_begin) (λ e. other (ap reading_of ((bytes_eq-Decides bytes paste_begin).0 e))))
    ∙ ap (λ test. if test then false else was)
    (false-unless (bytes_eq bytes paste_end) (λ e. other (ap reading_of ((bytes_eq-Decides bytes paste_end).0 e))))

unlike : (reading : Reading) → reading ≡ Unfinished → reading ≡ Whole None → ⊥
unlike reading is other = cc

pasting-open : (was : Bool) (bytes : List ℕ) → reading_of bytes ≡ Unfinished → pasting_after was bytes ≡ was
pasting-open was bytes front = pasting-still was bytes (unlike (reading_of bytes) front)

-- ---- sequences

-- the rest of a whole sequence, behind an unfinished front of it
whole_rest : (was : Bool) (front rest : List ℕ) (b : ℕ) (more : List Symbol) (action : Option Action)
    → reading_of (front ++ b ∷ rest) ≡ Whole action → length (front ++ b ∷ rest) ≤ 32
    → decode_after (record { bytes = front; is_pasting = was }) (map Byte (b ∷ rest) ++ more)
    ≡ before (heard_while was action) (decode_after (between (pasting_after was (front ++ b ∷ rest))) more)
whole_rest was front [] b more action whole short =
    let short_front : length front < 32 = omega (arith, length-append front (b ∷ [])) in
    let by : Reading → List Action =
    λ r. before (heard_while was (given_as r front b))
    (decode_after (record { bytes = left_open_as r front b; is_pasting = pasting_after was (front ++ b ∷ []) }) more) in
    ap by whole
    ∙ ap (λ test. before (heard_while was (if test then action else None)) (decode_after (between (pasting_after was (front ++ b ∷ []))) more))
    (lt-ltb (length front) 32 short_front)
whole_rest was front (c ∷ rest) b more action whole short =
    let joined : (front ++ b ∷ []) ++ c ∷ rest ≡ front ++ b ∷ c ∷ rest = append_assoc front (b ∷ []) (c ∷ rest) in
    let whole_joined : reading_of ((front ++ b ∷ []) ++ c ∷ rest) ≡ Whole action = ap reading_of joined ∙ whole in
    let short_joined : length ((front ++ b ∷ []) ++ c ∷ rest) ≤ 32 = subst (λ bytes. length bytes ≤ 32) (sym joined) short in
    let short_front : length (front ++ b ∷ []) ≤ 32 = omega (arith, length-append (front ++ b ∷ []) (c ∷ rest), short_joined) in
    let unfinished : reading_of (front ++ b ∷ []) ≡ Unfinished = front_unfinished (front ++ b ∷ []) c rest action whole_joined in
    let by : Reading → List Action =
    λ r. before (heard_while was (given_as r front b))
    (decode_after (record { bytes = left_open_as r front b; is_pasting = pasting_after was (front ++ b ∷ []) }) (map Byte (c ∷ rest) ++ more)) in
    ap by unfinished
    ∙ ap (λ is_on. decode_after (record { bytes = take 32 (front ++ b ∷ []); is_pasting = is_on }) (map Byte (c ∷ rest) ++ more)) (pasting-open was (front ++ b ∷ []) unfinished)
    ∙ ap (λ bytes. decode_after (record { bytes = bytes; is_pasting = was }) (map Byte (c ∷ rest) ++ more)) (take_all 32 (front ++ b ∷ []) short_front)
    ∙ whole_rest was (front ++ b ∷ []) rest c more action whole_joined short_joined
    ∙ ap (λ bytes. before (heard_while was action) (decode_after (between (pasting_after was bytes)) more)) joined

pub decode-lexeme : (was : Bool) (bytes : List ℕ) (more : List Symbol) (action : Option Action) → reading_of bytes ≡ Whole action → length bytes ≤ 32
    → decode_after (between was) (map Byte bytes ++ more) ≡ before (heard_while was action) (decode_after (between (pasting_after was bytes)) more)
decode-lexeme was [] more action whole short = cc
decode-lexeme was (b ∷ bytes) more action whole short = whole_rest was [] bytes b more action whole short

-- whatever follows
pub decode-lexemes : (was : Bool) (lexemes : List Lexeme) (more : List Symbol) → AllByRecursion IsLexeme lexemes
    → decode_after (between was) (symbols_of lexemes ++ more) ≡ actions_of was lexemes ++ decode_after (between (pasting_by was lexemes)) more
decode-lexemes was [] more all = refl
decode-lexemes was (lexeme ∷ lexemes) more all =
    let now : Bool = pasting_after was lexeme.bytes in
    ap (decode_after (between was)) (append_assoc (map Byte lexeme.bytes) (symbols_of lexemes) more)
    ∙ decode-lexeme was lexeme.bytes (symbols_of lexemes ++ more) lexeme.action all.0.whole all.0.short
    ∙ ap (before (heard_while was lexeme.action)) (decode-lexemes now lexemes more all.1)
    ∙ before-append (heard_while was lexeme.action) (actions_of now lexemes) (decode_after (between (pasting_by now lexemes)) more)
