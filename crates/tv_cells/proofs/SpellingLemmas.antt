-- A text is the spelling of one marked text at most.
use Rattle.std.proofs.Common.{◌≡◌, ◌≢◌, ℕ, ◌+◌, ◌<◌, ◌≤◌, List, ◌∷◌, ◌++◌, length, take, drop, Option, Some, None, Result, Ok, Err, All, IfSome, IfOk, IfErr, IsTrue, refl, sym, ap, ◌∙◌, arith}
use Rattle.std.specs.Char.{is_ascii_alphanumeric}
use Rattle.std.proofs.lemmas.List.{drop_more, take-append-drop, length-take-le}
use Rattle.std.proofs.lemmas.List.Elements.{All-cons, All-append, All-take, All-drop, All-get_or}
use Rattle.tv_cells.specs.Glyph.{IsNarrow}
use Rattle.tv_cells.specs.HotText.{Hot, IsHot, RefusesHotText, char_at, spelled_hot_text, spelled_at}
use Rattle.tv_cells.specs.declared.hot_text.HotTextFault.{HotTextFault}
use Rattle.tv_cells.specs.declared.hot_text.HotTextFault.TheVariants.{BadWidth, BadMark, TooLong}
use Rattle.tv_cells.proofs.HotTextLemmas.{hot_is}
use Rattle.tv_cells.proofs.MarkLemmas.{IsFree, not_free, first_tilde}
use Rattle.tv_cells.proofs.NarrowLemmas.{ascii_narrow}

abbrev IsLetter : List ℕ → Option ℕ → Type 0
IsLetter text place = IfSome place (λ i. (i < length text) × IsTrue (is_ascii_alphanumeric (char_at text i)))

narrow_at : (text : List ℕ) (place : Option ℕ) → All IsNarrow text → IsLetter text place → All IsNarrow (spelled_at text place)
narrow_at text None narrow letter = narrow
narrow_at text (Some i) narrow letter =
    let tilde : IsNarrow 126 = ascii_narrow 126 (omega arith) (omega arith) in
    All-append IsNarrow (take i text) (126 ∷ char_at text i ∷ 126 ∷ drop (i + 1) text) (All-take IsNarrow i text narrow)
    (All-cons IsNarrow 126 (char_at text i ∷ 126 ∷ drop (i + 1) text) tilde
    (All-cons IsNarrow (char_at text i) (126 ∷ drop (i + 1) text) (All-get_or IsNarrow text i 0 letter.0 narrow)
    (All-cons IsNarrow 126 (drop (i + 1) text) tilde (All-drop IsNarrow (i + 1) text narrow))))

rejoined : (text : List ℕ) (i : ℕ) → i < length text → text ≡ take i text ++ char_at text i ∷ drop (i + 1) text
rejoined text i l = sym (take-append-drop i text) ∙ ap (λ xs. take i text ++ xs) (drop_more text i 0 l)

unique_at : (text other : List ℕ) (place at : Option ℕ) → IsFree text → IsFree other → IsLetter text place → IsLetter other at → spelled_at text place ≡ spelled_at other at → (text ≡ other) × (place ≡ at)
unique_at text other None None f g l m e = (e, refl)
unique_at text other None (Some j) f g l m e = absurd (not_free (take j other) (char_at other j ∷ 126 ∷ drop (j + 1) other) (rw e at f))
unique_at text other (Some i) None f g l m e = absurd (not_free (take i text) (char_at text i ∷ 126 ∷ drop (i + 1) text) (rw (← e) at g))
unique_at text other (Some i) (Some j) f g l m e =
    let parts = first_tilde (take i text) (take j other) (char_at text i ∷ 126 ∷ drop (i + 1) text) (char_at other j ∷ 126 ∷ drop (j + 1) other)
    (All-take (λ ch. ch ≢ 126) i text f) (All-take (λ ch. ch ≢ 126) j other g) e in
    let rest = parts.1 in
    let letters : char_at text i ≡ char_at other j = cc in
    let backs : drop (i + 1) text ≡ drop (j + 1) other = cc in
    let ends : (char_at text i ∷ drop (i + 1) text) ≡ (char_at other j ∷ drop (j + 1) other) = cc in
    let wholes : take i text ++ char_at text i ∷ drop (i + 1) text ≡ take j other ++ char_at other j ∷ drop (j + 1) other = rw (parts.0, ends) in
    let places : i ≡ j = sym (length-take-le i text (omega (arith, l.0))) ∙ ap length parts.0 ∙ length-take-le j other (omega (arith, m.0)) in
    (rejoined text i l.0 ∙ wholes ∙ sym (rejoined other j m.0), ap Some places)

unique : (hot other : Hot) → IsHot hot → IsHot other → spelled_hot_text hot ≡ spelled_hot_text other → hot ≡ other
unique hot other h k e =
    let parts = unique_at hot.text other.text hot.place other.place h.free k.free h.letter k.letter e in
    hot_is hot.text other.text hot.place other.place parts.0 parts.1

-- what spells a marked text that is not too long isn't refused
pub not_refused : (text : List ℕ) (fault : HotTextFault) → RefusesHotText text fault → (hot : Hot) → IsHot hot → length hot.text ≤ 120 → spelled_hot_text hot ≡ text → ⊥
not_refused text (BadWidth place) h hot is short e =
    let narrow : All IsNarrow text = rw e at (narrow_at hot.text hot.place is.narrow is.letter) in
    h.2 (All-get_or IsNarrow text place 0 h.0 narrow)
not_refused text BadMark h hot is short e = h.1 hot is e
not_refused text TooLong h hot is short e =
    let same = unique hot h.1 is h.2 (e ∙ sym h.3) in
    omega (arith, short, h.4, ap (λ (k : Hot). length k.text) same)

-- a result that is a known text, or refuses
pub only_known : (text : List ℕ) (known : Hot) → IsHot known → spelled_hot_text known ≡ text → (r : Result Hot HotTextFault) → IfOk r (λ hot. (hot ≡ known) × (length hot.text ≤ 120)) → IfErr r (λ fault. RefusesHotText text fault) → (hot : Hot) → IsHot hot → length hot.text ≤ 120 → spelled_hot_text hot ≡ text → r ≡ Ok hot
only_known text known k spell (Ok found) ok fault hot is short e = ap Ok (ok.0 ∙ unique known hot k is (spell ∙ sym e))
only_known text known k spell (Err why) ok fault hot is short e = absurd (not_refused text why fault hot is short e)
