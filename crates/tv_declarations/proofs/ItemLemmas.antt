-- A line declares a cluster or a list just where it is spelled so.
use Rattle.std.proofs.Common.{◌≡◌, ◌≢◌, ℕ, Bool, true, false, cond, List, [], ◌∷◌, ◌++◌, Option, Some, None, refl, sym, ap, ◌∙◌, append_assoc, subst}
use Rattle.std.specs.Prelude.{ℤ, codes, map, option_and_then, IsTrue}
use Rattle.std.specs.Option.{option_map}
use Rattle.std.specs.List.{AllByRecursion}
use Rattle.std.proofs.lemmas.List.{append-nil}
use Rattle.tv_model.specs.declared.kind.MarkedText.{MarkedText}
use Rattle.tv_model.specs.declared.node.Node.{Node}
use Rattle.tv_model.specs.declared.kind.Kind.TheVariants as kinds
use Rattle.tv_declarations.specs.declared.place.Place.{Place}
use Rattle.tv_declarations.specs.declared.place.Position.{Position}
use Rattle.tv_declarations.specs.declared.items.Items.{Items}
use Rattle.tv_words.specs.declared.word.Word.{Word}
use Rattle.tv_words.specs.declared.word.Word.TheVariants.{Bare, Quoted}
use Rattle.tv_words.specs.Fields.{is_bare_word, name_in}
use Rattle.tv_words.specs.Reading.Steps.{steps}
use Rattle.tv_words.specs.Reading.Numbers.{number_in}
use Rattle.tv_declarations.specs.Reading.Marks.{marked_text_in}
use Rattle.tv_declarations.specs.Reading.Places.{place_from, node_at}
use Rattle.tv_declarations.specs.Reading.Clusters.{items_from, item_taken, items_in, with_item, marks_in, marked_first, only_number, texts_in, boxes_of, radios_of, rows_of, checks_in, radios_in, list_in}
use Rattle.tv_words.specs.Fields.{number_word, IsNumber}
use Rattle.tv_declarations.specs.Spelling.Terms.{marked_word, with_mark, IsMarked}
use Rattle.tv_declarations.specs.Spelling.Nodes.{text_word, marks_words, is_rising}
use Rattle.tv_declarations.proofs.OptionLemmas.{then_some, with2_some, with3_some, with4_some}
use Rattle.tv_words.proofs.FieldLemmas.{word_is, number_word_read, read_number_word, name_read}
use Rattle.tv_declarations.proofs.MarkLemmas.{marked_read, read_marked}
use Rattle.tv_declarations.proofs.PlaceLemmas.{IsNodeOf, node_made}

-- ---- texts, and numbers after `start`

abbrev start_words : Option (List ℤ) → List Word
start_words None = []
start_words (Some ns) = Bare (codes "start") ∷ map number_word ns

abbrev AreNumbers : Option (List ℤ) → Type 0
AreNumbers None = Unit {0}
AreNumbers (Some ns) = AllByRecursion IsNumber ns

-- the numbers that are still to come
record NumbersTold (texts : List (List ℕ)) (ns : List ℤ) (ws : List Word) (s : Items) : Type 0 where
  more : List ℤ
  gives : s ≡ items_from texts (Some (ns ++ more))
  words : ws ≡ map number_word more
  fit : AllByRecursion IsNumber more

number_step : (w : Word) (ws : List Word) (texts : List (List ℕ)) (ns : List ℤ) (s : Items) (n : ℤ) → number_in w ≡ Some n → NumbersTold texts (ns ++ n ∷ []) ws s → NumbersTold texts ns (w ∷ ws) s
number_step w ws texts ns s n en t =
    let r = number_word_read w n en in
    record { more = n ∷ t.more; gives = t.gives ∙ ap (λ x. items_from texts (Some x)) (append_assoc ns (n ∷ []) t.more); words = rw (r.0, t.words) refl; fit = (r.1, t.fit) }

numbers_if : (w : Word) (ws : List Word) (texts : List (List ℕ)) (ns : List ℤ) (s : Items) (o : Option ℤ) → number_in w ≡ o → ((ms : List ℤ) → steps item_taken (items_from texts (Some ms)) ws ≡ Some s → NumbersTold texts ms ws s) → option_and_then (λ t. steps item_taken t ws) (option_map (λ n. items_from texts (Some (ns ++ n ∷ []))) o) ≡ Some s → NumbersTold texts ns (w ∷ ws) s
numbers_if w ws texts ns s None eo later e = absurd cc
numbers_if w ws texts ns s (Some n) eo later e = number_step w ws texts ns s n eo (later (ns ++ n ∷ []) e)

numbers_told : (ws : List Word) (texts : List (List ℕ)) (ns : List ℤ) (s : Items) → steps item_taken (items_from texts (Some ns)) ws ≡ Some s → NumbersTold texts ns ws s
numbers_told [] texts ns s e = record { more = []; gives = (let same : items_from texts (Some ns) ≡ s = cc in sym same ∙ ap (λ x. items_from texts (Some x)) (sym (append-nil ns))); words = refl; fit = tt }
numbers_told (w ∷ ws) texts ns s e = numbers_if w ws texts ns s (number_in w) refl (λ ms. numbers_told ws texts ms s) e

-- the texts that are still to come, and the numbers after them
record TextsTold (texts : List (List ℕ)) (ws : List Word) (s : Items) : Type 0 where
  more : List (List ℕ)
  start : Option (List ℤ)
  gives : s ≡ items_from (texts ++ more) start
  words : ws ≡ map text_word more ++ start_words start
  fit : AreNumbers start

text_step : (text : List ℕ) (ws : List Word) (texts : List (List ℕ)) (s : Items) → TextsTold (texts ++ text ∷ []) ws s → TextsTold texts (Quoted text ∷ ws) s
text_step text ws texts s t = record { more = text ∷ t.more; start = t.start; gives = t.gives ∙ ap (λ x. items_from x t.start) (append_assoc texts (text ∷ []) t.more); words = ap (λ x. Quoted text ∷ x) t.words; fit = t.fit }

start_step : (text : List ℕ) (ws : List Word) (texts : List (List ℕ)) (s : Items) (b : Bool) → is_bare_word (Bare text) (codes "start") ≡ b → option_and_then (λ t. steps item_taken t ws) (cond b (Some (items_from texts (Some []))) None) ≡ Some s → TextsTold texts (Bare text ∷ ws) s
start_step text ws texts s true eb e =
    let t = numbers_told ws texts [] s e in
    record { more = []; start = Some t.more; gives = t.gives ∙ ap (λ x. items_from x (Some t.more)) (sym (append-nil texts)); words = ap (λ x. x ∷ ws) (word_is (Bare text) (codes "start") eb) ∙ ap (λ x. Bare (codes "start") ∷ x) t.words; fit = t.fit }
start_step text ws texts s false eb e = absurd cc

texts_told : (ws : List Word) (texts : List (List ℕ)) (s : Items) → steps item_taken (items_from texts None) ws ≡ Some s → TextsTold texts ws s
texts_told [] texts s e = record { more = []; start = None; gives = (let same : items_from texts None ≡ s = cc in sym same ∙ ap (λ x. items_from x None) (sym (append-nil texts))); words = refl; fit = tt }
texts_told (Quoted text ∷ ws) texts s e = text_step text ws texts s (texts_told ws (texts ++ text ∷ []) s e)
texts_told (Bare text ∷ ws) texts s e = start_step text ws texts s (is_bare_word (Bare text) (codes "start")) refl e

abbrev ItemsAre : List Word → Items → Type 0
ItemsAre ws s = (ws ≡ map text_word s.texts ++ start_words s.start) × AreNumbers s.start

items_read : (ws : List Word) (s : Items) → items_in ws ≡ Some s → ItemsAre ws s
items_read ws s e = let t = texts_told ws [] s e in subst (ItemsAre ws) (sym t.gives) (t.words, t.fit)

numbers_again : (ms : List ℤ) (texts : List (List ℕ)) (ns : List ℤ) → AllByRecursion IsNumber ms → steps item_taken (items_from texts (Some ns)) (map number_word ms) ≡ Some (items_from texts (Some (ns ++ ms)))
numbers_again [] texts ns fit = ap (λ x. Some (items_from texts (Some x))) (sym (append-nil ns))
numbers_again (m ∷ ms) texts ns fit = rw (read_number_word m fit.0) (numbers_again ms texts (ns ++ m ∷ []) fit.1 ∙ ap (λ x. Some (items_from texts (Some x))) (append_assoc ns (m ∷ []) ms))

start_again : (texts : List (List ℕ)) (start : Option (List ℤ)) → AreNumbers start → steps item_taken (items_from texts None) (start_words start) ≡ Some (items_from texts start)
start_again texts None fit = refl
start_again texts (Some ns) fit = numbers_again ns texts [] fit

texts_again : (ts texts : List (List ℕ)) (start : Option (List ℤ)) → AreNumbers start → steps item_taken (items_from texts None) (map text_word ts ++ start_words start) ≡ Some (items_from (texts ++ ts) start)
texts_again [] texts start fit = start_again texts start fit ∙ ap (λ x. Some (items_from x start)) (sym (append-nil texts))
texts_again (t ∷ ts) texts start fit = texts_again ts (texts ++ t ∷ []) start fit ∙ ap (λ x. Some (items_from x start)) (append_assoc texts (t ∷ []) ts)

read_items : (texts : List (List ℕ)) (start : Option (List ℤ)) → AreNumbers start → items_in (map text_word texts ++ start_words start) ≡ Some (items_from texts start)
read_items texts start fit = texts_again texts [] start fit

-- ---- marked items

record MarksTold (items : List MarkedText) (texts : List (List ℕ)) (all : List MarkedText) : Type 0 where
  more : List MarkedText
  gives : all ≡ items ++ more
  words : map text_word texts ≡ map marked_word more
  marks : AllByRecursion IsMarked more

mark_step : (text : List ℕ) (texts : List (List ℕ)) (items all : List MarkedText) (m : MarkedText) → marked_text_in text ≡ Some m → MarksTold (items ++ m ∷ []) texts all → MarksTold items (text ∷ texts) all
mark_step text texts items all m em t =
    let r = marked_read text m em in
    record { more = m ∷ t.more; gives = t.gives ∙ append_assoc items (m ∷ []) t.more; words = rw (← r.0, t.words) refl; marks = (r.1, t.marks) }

marks_if : (text : List ℕ) (texts : List (List ℕ)) (items all : List MarkedText) (o : Option MarkedText) → marked_text_in text ≡ o → ((ms : List MarkedText) → steps with_item ms texts ≡ Some all → MarksTold ms texts all) → option_and_then (λ t. steps with_item t texts) (option_map (λ item. items ++ item ∷ []) o) ≡ Some all → MarksTold items (text ∷ texts) all
marks_if text texts items all None eo later e = absurd cc
marks_if text texts items all (Some m) eo later e = mark_step text texts items all m eo (later (items ++ m ∷ []) e)

marks_told : (texts : List (List ℕ)) (items all : List MarkedText) → steps with_item items texts ≡ Some all → MarksTold items texts all
marks_told [] items all e = record { more = []; gives = (let same : items ≡ all = cc in sym same ∙ sym (append-nil items)); words = refl; marks = tt }
marks_told (text ∷ texts) items all e = marks_if text texts items all (marked_text_in text) refl (λ ms. marks_told texts ms all) e

record MarksAre (texts : List (List ℕ)) (items : List MarkedText) : Type 0 where
  words : map text_word texts ≡ map marked_word items
  marks : AllByRecursion IsMarked items
  some : items ≢ []

some_marks : (text : List ℕ) (texts : List (List ℕ)) (items : List MarkedText) → map text_word (text ∷ texts) ≡ map marked_word items → items ≢ []
some_marks text texts [] e none = absurd cc
some_marks text texts (m ∷ ms) e none = absurd cc

marks_read : (texts : List (List ℕ)) (items : List MarkedText) → marks_in texts ≡ Some items → MarksAre texts items
marks_read [] items e = absurd cc
marks_read (text ∷ texts) items e =
    let t = marks_told (text ∷ texts) [] items e in
    let words : map text_word (text ∷ texts) ≡ map marked_word items = t.words ∙ ap (map marked_word) (sym t.gives) in
    record { words = words; marks = subst (AllByRecursion IsMarked) (sym t.gives) t.marks; some = some_marks text texts items words }

abbrev plain : MarkedText → List ℕ
plain m = with_mark m.mark m.text

marks_again : (ms items : List MarkedText) → AllByRecursion IsMarked ms → steps with_item items (map plain ms) ≡ Some (items ++ ms)
marks_again [] items are = ap (λ x. Some x) (sym (append-nil items))
marks_again (m ∷ ms) items are = rw (read_marked m are.0) (marks_again ms (items ++ m ∷ []) are.1 ∙ ap (λ x. Some x) (append_assoc items (m ∷ []) ms))

read_marks : (items : List MarkedText) → AllByRecursion IsMarked items → items ≢ [] → marks_in (map plain items) ≡ Some items
read_marks [] are some = absurd (some refl)
read_marks (m ∷ ms) are some = marks_again (m ∷ ms) [] are

marks_words_are : (items : List MarkedText) → map marked_word items ≡ map text_word (map plain items)
marks_words_are [] = refl
marks_words_are (m ∷ ms) = ap (λ x. marked_word m ∷ x) (marks_words_are ms)

-- ---- what is marked at first

marked_first_if : (n : ℤ) (ns ms : List ℤ) (b : Bool) → is_rising (n ∷ ns) ≡ b → cond b (Some (n ∷ ns)) None ≡ Some ms → (n ∷ ns ≡ ms) × IsTrue (is_rising ms)
marked_first_if n ns ms true eb e = let same : n ∷ ns ≡ ms = cc in (same, subst (λ x. IsTrue (is_rising x)) same eb)
marked_first_if n ns ms false eb e = absurd cc

record StartIs (start : Option (List ℤ)) (ms : List ℤ) : Type 0 where
  words : start_words start ≡ marks_words ms
  fit : AllByRecursion IsNumber ms
  rising : IsTrue (is_rising ms)

start_read : (start : Option (List ℤ)) (ms : List ℤ) → AreNumbers start → marked_first start ≡ Some ms → StartIs start ms
start_read None ms are e = let same : [] ≡ ms = cc in subst (StartIs None) same (record { words = refl; fit = tt; rising = refl })
start_read (Some []) ms are e = absurd cc
start_read (Some (n ∷ ns)) ms are e =
    let t = marked_first_if n ns ms (is_rising (n ∷ ns)) refl e in
    subst (StartIs (Some (n ∷ ns))) t.0 (record { words = refl; fit = are; rising = subst (λ x. IsTrue (is_rising x)) (sym t.0) t.1 })

abbrev start_of : List ℤ → Option (List ℤ)
start_of [] = None
start_of (n ∷ ns) = Some (n ∷ ns)

start_of_words : (ms : List ℤ) → marks_words ms ≡ start_words (start_of ms)
start_of_words [] = refl
start_of_words (m ∷ ms) = refl

start_of_numbers : (ms : List ℤ) → AllByRecursion IsNumber ms → AreNumbers (start_of ms)
start_of_numbers [] are = tt
start_of_numbers (m ∷ ms) are = are

read_start : (ms : List ℤ) → IsTrue (is_rising ms) → marked_first (start_of ms) ≡ Some ms
read_start [] is = refl
read_start (m ∷ ms) is = rw is refl

record NumberIs (start : Option (List ℤ)) (n : ℤ) : Type 0 where
  words : start_words start ≡ Bare (codes "start") ∷ number_word n ∷ []
  fits : IsNumber n

number_read : (start : Option (List ℤ)) (n : ℤ) → AreNumbers start → only_number start ≡ Some n → NumberIs start n
number_read None n are e = absurd cc
number_read (Some []) n are e = absurd cc
number_read (Some (m ∷ [])) n are e = let same : m ≡ n = cc in subst (NumberIs (Some (m ∷ []))) same (record { words = refl; fits = are.0 })
number_read (Some (m ∷ k ∷ ks)) n are e = absurd cc

-- ---- check boxes

record BoxesAre (ws : List Word) (c : List MarkedText × List ℤ) : Type 0 where
  words : ws ≡ map marked_word c.0 ++ marks_words c.1
  marks : AllByRecursion IsMarked c.0
  some : c.0 ≢ []
  fit : AllByRecursion IsNumber c.1
  rising : IsTrue (is_rising c.1)

boxes_made : (ws : List Word) (s : Items) (c : List MarkedText × List ℤ) → ItemsAre ws s → ((items : List MarkedText) × (start : List ℤ) × (marks_in s.texts ≡ Some items) × (marked_first s.start ≡ Some start) × ((items, start) ≡ c)) → BoxesAre ws c
boxes_made ws s c are (items, start, ei, es, same) =
    let m = marks_read s.texts items ei in
    let r = start_read s.start start are.1 es in
    subst (BoxesAre ws) same (record { words = are.0 ∙ rw (m.words, r.words) refl; marks = m.marks; some = m.some; fit = r.fit; rising = r.rising })

boxes_read : (ws : List Word) (c : List MarkedText × List ℤ) → option_and_then boxes_of (items_in ws) ≡ Some c → BoxesAre ws c
boxes_read ws c e =
    let t = then_some boxes_of (items_in ws) c e in
    boxes_made ws t.0 c (items_read ws t.0 t.1) (with2_some _ (marks_in t.0.texts) (marked_first t.0.start) c t.2)

pub read_boxes : (items : List MarkedText) (start : List ℤ) → AllByRecursion IsMarked items → items ≢ [] → AllByRecursion IsNumber start → IsTrue (is_rising start) → option_and_then boxes_of (items_in (map marked_word items ++ marks_words start)) ≡ Some (items, start)
read_boxes items start are some fit rising =
    let words : map marked_word items ++ marks_words start ≡ map text_word (map plain items) ++ start_words (start_of start) = rw (marks_words_are items, start_of_words start) refl in
    ap (λ ws. option_and_then boxes_of (items_in ws)) words
    ∙ ap (option_and_then boxes_of) (read_items (map plain items) (start_of start) (start_of_numbers start fit))
    ∙ rw (read_marks items are some, read_start start rising) refl

checks_made : (at : Position) (m x y w : Word) (fs : List Word) (n : Node) → ((items : List MarkedText × List ℤ) × (name : List ℕ) × (p : Place) × (option_and_then boxes_of (items_in fs) ≡ Some items) × (name_in m ≡ Some name) × (place_from x y w ≡ Some p) × (node_at at p (kinds.CheckBoxes (record { name = name; items = items.0; start = items.1 })) ≡ n)) → IsNodeOf at n (Bare (codes "checks") ∷ m ∷ x ∷ y ∷ w ∷ fs)
checks_made at m x y w fs n (items, name, p, ei, em, ep, same) =
    let named = name_read m name em in
    let are = boxes_read fs items ei in
    node_made at x y w p (kinds.CheckBoxes (record { name = name; items = items.0; start = items.1 })) _ n ep (named.1, are.marks, are.some, are.fit, are.rising) (rw (named.0, are.words) refl) same

pub checks_line : (at : Position) (fields : List Word) (n : Node) → checks_in at fields ≡ Some n → IsNodeOf at n (Bare (codes "checks") ∷ fields)
checks_line at [] n e = absurd cc
checks_line at (a ∷ []) n e = absurd cc
checks_line at (a ∷ b ∷ []) n e = absurd cc
checks_line at (a ∷ b ∷ c ∷ []) n e = absurd cc
checks_line at (m ∷ x ∷ y ∷ w ∷ fs) n e = checks_made at m x y w fs n (with3_some _ (option_and_then boxes_of (items_in fs)) (name_in m) (place_from x y w) n e)

-- ---- radio buttons

record RadiosAre (ws : List Word) (c : List MarkedText × ℤ) : Type 0 where
  words : ws ≡ map marked_word c.0 ++ (Bare (codes "start") ∷ number_word c.1 ∷ [])
  marks : AllByRecursion IsMarked c.0
  some : c.0 ≢ []
  fits : IsNumber c.1

choices_made : (ws : List Word) (s : Items) (c : List MarkedText × ℤ) → ItemsAre ws s → ((items : List MarkedText) × (start : ℤ) × (marks_in s.texts ≡ Some items) × (only_number s.start ≡ Some start) × ((items, start) ≡ c)) → RadiosAre ws c
choices_made ws s c are (items, start, ei, es, same) =
    let m = marks_read s.texts items ei in
    let r = number_read s.start start are.1 es in
    subst (RadiosAre ws) same (record { words = are.0 ∙ rw (m.words, r.words) refl; marks = m.marks; some = m.some; fits = r.fits })

choices_read : (ws : List Word) (c : List MarkedText × ℤ) → option_and_then radios_of (items_in ws) ≡ Some c → RadiosAre ws c
choices_read ws c e =
    let t = then_some radios_of (items_in ws) c e in
    choices_made ws t.0 c (items_read ws t.0 t.1) (with2_some _ (marks_in t.0.texts) (only_number t.0.start) c t.2)

pub read_choices : (items : List MarkedText) (start : ℤ) → AllByRecursion IsMarked items → items ≢ [] → IsNumber start → option_and_then radios_of (items_in (map marked_word items ++ (Bare (codes "start") ∷ number_word start ∷ []))) ≡ Some (items, start)
read_choices items start are some fit =
    let words : map marked_word items ++ (Bare (codes "start") ∷ number_word start ∷ []) ≡ map text_word (map plain items) ++ start_words (Some (start ∷ [])) = rw (marks_words_are items) refl in
    ap (λ ws. option_and_then radios_of (items_in ws)) words
    ∙ ap (option_and_then radios_of) (read_items (map plain items) (Some (start ∷ [])) (fit, tt))
    ∙ rw (read_marks items are some) refl

radios_made : (at : Position) (m x y w : Word) (fs : List Word) (n : Node) → ((items : List MarkedText × ℤ) × (name : List ℕ) × (p : Place) × (option_and_then radios_of (items_in fs) ≡ Some items) × (name_in m ≡ Some name) × (place_from x y w ≡ Some p) × (node_at at p (kinds.RadioButtons (record { name = name; items = items.0; start = items.1 })) ≡ n)) → IsNodeOf at n (Bare (codes "radios") ∷ m ∷ x ∷ y ∷ w ∷ fs)
radios_made at m x y w fs n (items, name, p, ei, em, ep, same) =
    let named = name_read m name em in
    let are = choices_read fs items ei in
    node_made at x y w p (kinds.RadioButtons (record { name = name; items = items.0; start = items.1 })) _ n ep (named.1, are.marks, are.some, are.fits) (rw (named.0, are.words) refl) same

pub radios_line : (at : Position) (fields : List Word) (n : Node) → radios_in at fields ≡ Some n → IsNodeOf at n (Bare (codes "radios") ∷ fields)
radios_line at [] n e = absurd cc
radios_line at (a ∷ []) n e = absurd cc
radios_line at (a ∷ b ∷ []) n e = absurd cc
radios_line at (a ∷ b ∷ c ∷ []) n e = absurd cc
radios_line at (m ∷ x ∷ y ∷ w ∷ fs) n e = radios_made at m x y w fs n (with3_some _ (option_and_then radios_of (items_in fs)) (name_in m) (place_from x y w) n e)

-- ---- lists

texts_read : (texts rows : List (List ℕ)) → texts_in texts ≡ Some rows → (texts ≡ rows) × (rows ≢ [])
texts_read [] rows e = absurd cc
texts_read (t ∷ ts) rows e = let same : t ∷ ts ≡ rows = cc in (same, subst (λ x. x ≢ []) same (λ none. absurd cc))

record RowsAre (ws : List Word) (c : List (List ℕ) × ℤ) : Type 0 where
  words : ws ≡ map text_word c.0 ++ (Bare (codes "start") ∷ number_word c.1 ∷ [])
  some : c.0 ≢ []
  fits : IsNumber c.1

rows_made : (ws : List Word) (s : Items) (c : List (List ℕ) × ℤ) → ItemsAre ws s → ((items : List (List ℕ)) × (start : ℤ) × (texts_in s.texts ≡ Some items) × (only_number s.start ≡ Some start) × ((items, start) ≡ c)) → RowsAre ws c
rows_made ws s c are (items, start, ei, es, same) =
    let m = texts_read s.texts items ei in
    let r = number_read s.start start are.1 es in
    subst (RowsAre ws) same (record { words = are.0 ∙ rw (m.0, r.words) refl; some = m.1; fits = r.fits })

rows_read : (ws : List Word) (c : List (List ℕ) × ℤ) → option_and_then rows_of (items_in ws) ≡ Some c → RowsAre ws c
rows_read ws c e =
    let t = then_some rows_of (items_in ws) c e in
    rows_made ws t.0 c (items_read ws t.0 t.1) (with2_some _ (texts_in t.0.texts) (only_number t.0.start) c t.2)

some_texts : (texts : List (List ℕ)) → texts ≢ [] → texts_in texts ≡ Some texts
some_texts [] some = absurd (some refl)
some_texts (t ∷ ts) some = refl

pub read_rows : (items : List (List ℕ)) (start : ℤ) → items ≢ [] → IsNumber start → option_and_then rows_of (items_in (map text_word items ++ (Bare (codes "start") ∷ number_word start ∷ []))) ≡ Some (items, start)
read_rows items start some fit = ap (option_and_then rows_of) (read_items items (Some (start ∷ [])) (fit, tt)) ∙ rw (some_texts items some) refl

list_made : (at : Position) (m x y w h : Word) (fs : List Word) (n : Node) → ((items : List (List ℕ) × ℤ) × (name : List ℕ) × (p : Place) × (rows : ℤ) × (option_and_then rows_of (items_in fs) ≡ Some items) × (name_in m ≡ Some name) × (place_from x y w ≡ Some p) × (number_in h ≡ Some rows) × (node_at at p (kinds.List (record { name = name; h = rows; items = items.0; start = items.1 })) ≡ n)) → IsNodeOf at n (Bare (codes "list") ∷ m ∷ x ∷ y ∷ w ∷ h ∷ fs)
list_made at m x y w h fs n (items, name, p, rows, ei, em, ep, eh, same) =
    let named = name_read m name em in
    let high = number_word_read h rows eh in
    let are = rows_read fs items ei in
    node_made at x y w p (kinds.List (record { name = name; h = rows; items = items.0; start = items.1 })) _ n ep (named.1, high.1, are.some, are.fits) (rw (named.0, high.0, are.words) refl) same

pub list_line : (at : Position) (fields : List Word) (n : Node) → list_in at fields ≡ Some n → IsNodeOf at n (Bare (codes "list") ∷ fields)
list_line at [] n e = absurd cc
list_line at (a ∷ []) n e = absurd cc
list_line at (a ∷ b ∷ []) n e = absurd cc
list_line at (a ∷ b ∷ c ∷ []) n e = absurd cc
list_line at (a ∷ b ∷ c ∷ d ∷ []) n e = absurd cc
list_line at (m ∷ x ∷ y ∷ w ∷ h ∷ fs) n e = list_made at m x y w h fs n (with4_some _ (option_and_then rows_of (items_in fs)) (name_in m) (place_from x y w) (number_in h) n e)
