-- What the parts of a text make.
use Rattle.std.proofs.Common.{◌≡◌, ◌≢◌, ℕ, suc, ◌+◌, ◌<◌, List, [], ◌∷◌, ◌++◌, length, take, drop, get_or, Option, Some, None, Result, Ok, Err, IfErr, All, refl, sym, ap, add-one, length-append, arith}
use Rattle.std.proofs.lemmas.List.Elements.{All-nil, All-cons, All-head, All-tail, All-append, All-take, All-drop}
use Rattle.tv_cells.specs.Glyph.{IsNarrow}
use Rattle.tv_cells.specs.HotText.{Hot, IsHot, IsAround, IsUnmarkable, RefusesHotText, hot_of, char_at, spelled_hot_text}
use Rattle.tv_cells.specs.declared.hot_text.HotTextFault.{HotTextFault}
use Rattle.tv_cells.specs.declared.hot_text.HotTextFault.TheVariants.{BadMark, TooLong}

-- ---- lists

all_left : (P : ℕ → Type 0) (xs ys : List ℕ) → All P (xs ++ ys) → All P xs
all_left P [] ys h = All-nil P
all_left P (x ∷ xs) ys h = All-cons P x xs (All-head P x (xs ++ ys) h) (all_left P xs ys (All-tail P x (xs ++ ys) h))

all_right : (P : ℕ → Type 0) (xs ys : List ℕ) → All P (xs ++ ys) → All P ys
all_right P [] ys h = h
all_right P (x ∷ xs) ys h = all_right P xs ys (All-tail P x (xs ++ ys) h)

take_front : (xs ys : List ℕ) → take (length xs) (xs ++ ys) ≡ xs
take_front [] ys = refl
take_front (x ∷ xs) ys = ap (λ zs. x ∷ zs) (take_front xs ys)

read_after : (xs ys : List ℕ) (y : ℕ) → get_or (xs ++ y ∷ ys) (length xs) 0 ≡ y
read_after [] ys y = refl
read_after (x ∷ xs) ys y = read_after xs ys y

drop_past : (xs ys : List ℕ) (y : ℕ) → drop (suc (length xs)) (xs ++ y ∷ ys) ≡ ys
drop_past [] ys y = refl
drop_past (x ∷ xs) ys y = drop_past xs ys y

-- ---- marked texts

pub spelled_of : (before : List ℕ) (letter : ℕ) (after : List ℕ) → spelled_hot_text (hot_of before letter after) ≡ before ++ 126 ∷ letter ∷ 126 ∷ after
spelled_of before letter after = rw (take_front before (letter ∷ after), read_after before after letter, add-one, drop_past before after letter)

-- the characters of a text stand in its parts
pub hot_around : {text before : List ℕ} {letter : ℕ} {after : List ℕ} → IsAround text before letter after → All IsNarrow text → IsHot (hot_of before letter after)
hot_around {text = text} {before = before} {letter = letter} {after = after} around narrow =
    let parts : All IsNarrow (before ++ 126 ∷ letter ∷ 126 ∷ after) = rw around.whole at narrow in
    let tail : All IsNarrow (letter ∷ 126 ∷ after) = All-tail IsNarrow 126 (letter ∷ 126 ∷ after) (all_right IsNarrow before (126 ∷ letter ∷ 126 ∷ after) parts) in
    let front : All IsNarrow before = all_left IsNarrow before (126 ∷ letter ∷ 126 ∷ after) parts in
    let back : All IsNarrow after = All-tail IsNarrow 126 after (All-tail IsNarrow letter (126 ∷ after) tail) in
    let other : letter ≢ 126 = λ e. let bad = rw e at around.sound in absurd cc in
    record {
      narrow = All-append IsNarrow before (letter ∷ after) front (All-cons IsNarrow letter after (All-head IsNarrow letter (126 ∷ after) tail) back);
      free = All-append (λ ch. ch ≢ 126) before (letter ∷ after) around.free_before (All-cons (λ ch. ch ≢ 126) letter after other around.free_after);
      letter = (omega (arith, length-append before (letter ∷ after)), rw (read_after before after letter) around.sound);
    }

-- a text that can't be taken apart is not the spelling of any
refuse_at : (text : List ℕ) → IsUnmarkable text → (hot : Hot) (place : Option ℕ) → hot.place ≡ place → IsHot hot → spelled_hot_text hot ≡ text → ⊥
refuse_at text wild hot None e is spell =
    let same : hot.text ≡ text = rw e at spell in
    wild.not_plain (rw same at is.free)
refuse_at text wild hot (Some place) e is spell =
    let letter = rw e at is.letter in
    wild.not_marked (take place hot.text) (char_at hot.text place) (drop (place + 1) hot.text) (record {
      whole = sym (rw e at spell);
      sound = letter.1;
      free_before = All-take (λ ch. ch ≢ 126) place hot.text is.free;
      free_after = All-drop (λ ch. ch ≢ 126) (place + 1) hot.text is.free;
    })

pub refuse_mark : (text : List ℕ) → All IsNarrow text → IsUnmarkable text → RefusesHotText text BadMark
refuse_mark text narrow wild = (narrow, λ hot is spell. refuse_at text wild hot hot.place refl is spell)

-- a text that is too long
pub refuse_long : (text : List ℕ) (hot : Hot) → All IsNarrow text → IsHot hot → spelled_hot_text hot ≡ text → 120 < length hot.text → RefusesHotText text TooLong
refuse_long text hot narrow is spell long = (narrow, hot, is, spell, long)

-- ---- results

pub hot_is : (text spelt : List ℕ) (place at : Option ℕ) → text ≡ spelt → place ≡ at → ◌≡◌ {A = Hot} record { text = text; place = place } record { text = spelt; place = at }
hot_is text spelt place at e f = cc

pub long_refused : {text : List ℕ} {Long : Type 0} (r : Result Hot HotTextFault) → IfErr r (λ fault. (fault ≡ TooLong) × Long) → (Long → RefusesHotText text TooLong) → IfErr r (λ fault. RefusesHotText text fault)
long_refused (Ok hot) h f = tt
long_refused (Err fault) h f = rw h.0 (f h.1)
