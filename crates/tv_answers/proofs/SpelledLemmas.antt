-- A description that can be spelled still can, filled with values that can be.
use Rattle.std.proofs.Common.{◌≡◌, ℕ, ℤ, ◌+◌, ◌≤◌, ◌<◌, ◌&&◌, ◌==◌, Bool, true, false, List, [], ◌∷◌, ◌++◌, map, filter, flat_map, cond, Option, Some, None, pos, refl, ap, subst, arith}
use Rattle.std.specs.Prelude.{IsTrue, IfSome, int_lt, codes, if◌then◌else◌}
use Rattle.std.specs.List.{AllByRecursion, range_with_len}
use Rattle.std.proofs.lemmas.Bool.Decides.{nat_tests}
use Rattle.tv_model.specs.declared.desc.Desc.{Desc}
use Rattle.tv_model.specs.declared.desc.Dialog.{Dialog}
use Rattle.tv_model.specs.declared.kind.Kind.{Kind}
use Rattle.tv_model.specs.declared.kind.Kind.TheVariants as kinds
use Rattle.tv_model.specs.declared.node.Node.{Node}
use Rattle.tv_model.specs.declared.record.Entry.{Entry}
use Rattle.tv_model.specs.declared.record.Value.{Value}
use Rattle.tv_model.specs.declared.record.Value.TheVariants as values
use Rattle.tv_model.specs.Description.Nodes.{is_pane}
use Rattle.tv_model.specs.Log.LogText.{has_bit}
use Rattle.tv_model.specs.Log.Record.{Entries, value_of}
use Rattle.tv_words.specs.declared.word.Word.{Word}
use Rattle.tv_words.specs.declared.word.Word.TheVariants.{Bare, Quoted}
use Rattle.tv_words.specs.Canonical.{canonical_text}
use Rattle.tv_words.specs.Fields.{IsNumber, number_word}
use Rattle.tv_words.specs.Lines.{lines_of}
use Rattle.tv_words.proofs.CanonicalTextLemmas.{StandInLine, stand_spelled}
use Rattle.tv_declarations.specs.declared.declaration.Declaration.{Declaration}
use Rattle.tv_declarations.specs.declared.declaration.Declaration.TheVariants as declared
use Rattle.tv_declarations.specs.Spelling.{AreViews, IsDescription, IsDialog, declarations_of, dialog_declarations, ends_of_panes, is_view, menu_declarations, open_panes_after, start_declarations, view_declarations, window_declarations, word_lines}
use Rattle.tv_declarations.specs.Spelling.Declarations.{AreDeclarations, IsDeclaration, IsNode, declaration_words}
use Rattle.tv_declarations.specs.Spelling.Nodes.{IsSpelledKind, domain_words, is_rising, kind_words, marks_words, node_words, text_word}
use Rattle.tv_declarations.specs.Spelling.Terms.{marked_word, word_if}
use Rattle.tv_lang.specs.CanonicalDescription.{CanBeSpelled}
use Rattle.tv_lang.specs.Faults.{SpellsLines}
use Rattle.tv_answers.specs.declared.answers.Answer.{Answer}
use Rattle.tv_answers.specs.declared.answers.Answers.{Answers}
use Rattle.tv_answers.specs.Filling.{HaveSpelledValues, IsSpelledValue, filled, filled_dialogs, with_start, with_value_found, with_value_of, with_values_of}
use Rattle.tv_answers.proofs.StandLemmas.{all_declared, choice_stands, declared_stand, last_stand, marks_stand, others_stand, text_stands}

-- ---- the items of marks

abbrev Rising : ℕ → List ℕ → Type 0
Rising a [] = Unit {0}
Rising a (x ∷ xs) = (a < x) × (x ≤ 16) × Rising x xs

from_below : (a b : ℕ) (xs : List ℕ) → a ≤ b → Rising b xs → Rising a xs
from_below a b [] below rising = tt
from_below a b (x ∷ xs) below rising = (omega (arith, rising.0), rising.1, rising.2)

number_fits : (n : ℕ) → n ≤ 16 → IsNumber (pos n)
number_fits n small = record { sfits = omega arith }

abbrev chosen : (ℕ → Bool) → List ℕ → List ℤ
chosen p xs = map pos (filter p xs)

numbers_if : (p : ℕ → Bool) (a x : ℕ) (xs : List ℕ) (b : Bool) → x ≤ 16 → AllByRecursion IsNumber (chosen p xs) → AllByRecursion IsNumber (map pos (cond b (x ∷ filter p xs) (filter p xs)))
numbers_if p a x xs true small rest = (number_fits x small, rest)
numbers_if p a x xs false small rest = rest

numbers : (p : ℕ → Bool) (a : ℕ) (xs : List ℕ) → Rising a xs → AllByRecursion IsNumber (chosen p xs)
numbers p a [] rising = tt
numbers p a (x ∷ xs) rising = numbers_if p a x xs (p x) rising.1 (numbers p x xs rising.2)

less : (a x : ℕ) → a < x → int_lt (pos a) (pos x) ≡ true
less a x h = grind (arith, nat_tests, h)

rising_if : (p : ℕ → Bool) (a x : ℕ) (xs : List ℕ) (b : Bool) → a < x → IsTrue (is_rising (pos x ∷ chosen p xs)) → IsTrue (is_rising (pos a ∷ chosen p xs)) → IsTrue (is_rising (pos a ∷ map pos (cond b (x ∷ filter p xs) (filter p xs))))
rising_if p a x xs true before later passed = rw (less a x before) later
rising_if p a x xs false before later passed = passed

rises : (p : ℕ → Bool) (a : ℕ) (xs : List ℕ) → Rising a xs → IsTrue (is_rising (pos a ∷ chosen p xs))
rises p a [] rising = refl
rises p a (x ∷ xs) rising =
    rising_if p a x xs (p x) rising.0 (rises p x xs rising.2) (rises p a xs (from_below a x xs (omega (arith, rising.0)) rising.2))

later_rise : (a : ℤ) (ns : List ℤ) → IsTrue (is_rising (a ∷ ns)) → IsTrue (is_rising ns)
later_rise a [] rising = refl
later_rise a (b ∷ ns) rising = (let both : int_lt a b && is_rising (b ∷ ns) ≡ true = rising in grind (arith, both))

sixteen : Rising 0 (range_with_len 1 16)
sixteen =
    (omega arith, omega arith, (omega arith, omega arith, (omega arith, omega arith, (omega arith, omega arith, (omega arith, omega arith, (omega arith, omega arith, (omega arith, omega arith, (omega arith, omega arith, (omega arith, omega arith, (omega arith, omega arith, (omega arith, omega arith, (omega arith, omega arith, (omega arith, omega arith, (omega arith, omega arith, (omega arith, omega arith, (omega arith, omega arith, tt))))))))))))))))

-- ---- a kind

marked_numbers : (marks : ℕ) → AllByRecursion IsNumber (chosen (has_bit marks) (range_with_len 1 16))
marked_numbers marks = numbers (has_bit marks) 0 (range_with_len 1 16) sixteen

spelled_kind : (k : Kind) (v : Value) → IsSpelledValue v → IsSpelledKind k → IsSpelledKind (with_start k v)
spelled_kind (kinds.Input input) (values.Text text) n spelled = spelled
spelled_kind (kinds.CheckBoxes boxes) (values.Marks marks) n spelled =
    (spelled.0, spelled.1, spelled.2, marked_numbers marks, later_rise (pos 0) (chosen (has_bit marks) (range_with_len 1 16)) (rises (has_bit marks) 0 (range_with_len 1 16) sixteen))
spelled_kind (kinds.RadioButtons radios) (values.Item item) n spelled = (spelled.0, spelled.1, spelled.2, n)
spelled_kind (kinds.List list) (values.Item item) n spelled = (spelled.0, spelled.1, spelled.2, n)
spelled_kind _ _ n spelled = spelled

-- the words that declare it stand in a line, whatever its place and width
stands_kind : (k : Kind) (v : Value) (x y w : Word) → IsSpelledValue v → StandInLine (kind_words k x y w) → StandInLine (kind_words (with_start k v) x y w)
stands_kind (kinds.Input input) (values.Text text) x y w n stand =
    let first : List Word = Bare (codes "input") ∷ Bare input.name ∷ x ∷ y ∷ w ∷ number_word input.spec.max ∷ domain_words input.spec.domain in
    let last : List Word = word_if input.validates (codes "validate") ++ (word_if input.spec.optional (codes "optional") ++ word_if input.spec.fill (codes "fill")) in
    let begun : List Word = Quoted input.start ∷ [] in
    (others_stand first (Quoted input.start ∷ last) (Quoted text ∷ last) stand.0 (text_stands text n, last_stand begun last (last_stand first (Quoted input.start ∷ last) stand.0)), refl)
stands_kind (kinds.CheckBoxes boxes) (values.Marks marks) x y w n stand =
    let first : List Word = Bare (codes "checks") ∷ Bare boxes.name ∷ x ∷ y ∷ w ∷ map marked_word boxes.items in
    let marked : List ℤ = chosen (has_bit marks) (range_with_len 1 16) in
    (others_stand first (marks_words boxes.start) (marks_words marked) stand.0 (marks_stand marked (marked_numbers marks)), refl)
stands_kind (kinds.RadioButtons radios) (values.Item item) x y w n stand =
    let first : List Word = Bare (codes "radios") ∷ Bare radios.name ∷ x ∷ y ∷ w ∷ map marked_word radios.items in
    (others_stand first (Bare (codes "start") ∷ number_word radios.start ∷ []) (Bare (codes "start") ∷ number_word (pos item) ∷ []) stand.0 (choice_stands (pos item) n), refl)
stands_kind (kinds.List list) (values.Item item) x y w n stand =
    let first : List Word = Bare (codes "list") ∷ Bare list.name ∷ x ∷ y ∷ w ∷ number_word list.h ∷ map text_word list.items in
    (others_stand first (Bare (codes "start") ∷ number_word list.start ∷ []) (Bare (codes "start") ∷ number_word (pos item) ∷ []) stand.0 (choice_stands (pos item) n), refl)
stands_kind _ _ x y w n stand = stand

pub same_pane : (k : Kind) (v : Value) → is_pane (with_start k v) ≡ is_pane k
same_pane (kinds.Input input) (values.Text text) = refl
same_pane (kinds.CheckBoxes boxes) (values.Marks marks) = refl
same_pane (kinds.RadioButtons radios) (values.Item item) = refl
same_pane (kinds.List list) (values.Item item) = refl
same_pane _ _ = refl

same_view : (k : Kind) (v : Value) → is_view (with_start k v) ≡ is_view k
same_view (kinds.Input input) (values.Text text) = refl
same_view (kinds.CheckBoxes boxes) (values.Marks marks) = refl
same_view (kinds.RadioButtons radios) (values.Item item) = refl
same_view (kinds.List list) (values.Item item) = refl
same_view _ _ = refl

-- ---- a view

abbrev AreSpelled : Entries → Type 0
AreSpelled es = AllByRecursion (λ entry. IsSpelledValue entry.value) es

found_if : (e : Entry) (o : Option Value) (b : Bool) → IsSpelledValue e.value → IfSome o IsSpelledValue → IfSome (if b then Some e.value else o) IsSpelledValue
found_if e o true here later = here
found_if e o false here later = later

spelled_value : (es : Entries) (field : ℕ) → AreSpelled es → IfSome (value_of es field) IsSpelledValue
spelled_value [] field all = tt
spelled_value (e ∷ es) field all = found_if e (value_of es field) (e.id.0 == field) all.0 (spelled_value es field all.1)

spelled_found : (line : ℕ) (n : Node) (o : Option Value) → IfSome o IsSpelledValue → IsNode line n → IsNode line (with_value_found n o)
spelled_found line n None has is = is
spelled_found line n (Some v) has is = record { id = is.id; x = is.x; y = is.y; w = is.w; kind = spelled_kind n.kind v has is.kind }

stands_found : (n : Node) (o : Option Value) → IfSome o IsSpelledValue → StandInLine (node_words n) → StandInLine (node_words (with_value_found n o))
stands_found n None has stand = stand
stands_found n (Some v) has stand = stands_kind n.kind v (number_word n.x) (number_word n.y) (number_word n.w) has stand

same_open : (n : Node) (o : Option Value) → open_panes_after (with_value_found n o) ≡ open_panes_after n
same_open n None = refl
same_open n (Some v) = ap (λ b. if b then n.depth + 1 else n.depth) (same_pane n.kind v)

same_depth : (n : Node) (o : Option Value) → (with_value_found n o).depth ≡ n.depth
same_depth n None = refl
same_depth n (Some v) = refl

same_viewed : (n : Node) (o : Option Value) → is_view (with_value_found n o).kind ≡ is_view n.kind
same_viewed n None = refl
same_viewed n (Some v) = same_view n.kind v

-- ---- declarations, one for one

-- where the one can be spelled, the other can
record Like (x y : Declaration) : Type 0 where
  is : (line : ℕ) → IsDeclaration line x → IsDeclaration line y
  stands : StandInLine (declaration_words x) → StandInLine (declaration_words y)

same : (x : Declaration) → Like x x
same x = record { is = λ line is. is; stands = λ stand. stand }

abbrev Alike : List Declaration → List Declaration → Type 0
Alike [] [] = Unit {0}
Alike (x ∷ xs) (y ∷ ys) = Like x y × Alike xs ys
Alike _ _ = ⊥

alike_same : (xs : List Declaration) → Alike xs xs
alike_same [] = tt
alike_same (x ∷ xs) = (same x, alike_same xs)

alike_append : (xs ys us vs : List Declaration) → Alike xs ys → Alike us vs → Alike (xs ++ us) (ys ++ vs)
alike_append [] [] us vs first later = later
alike_append (x ∷ xs) (y ∷ ys) us vs first later = (first.0, alike_append xs ys us vs first.1 later)
alike_append [] (y ∷ ys) us vs first later = absurd first
alike_append (x ∷ xs) [] us vs first later = absurd first

declared_too : (line : ℕ) (xs ys : List Declaration) → Alike xs ys → AreDeclarations line xs → AreDeclarations line ys
declared_too line [] [] alike are = tt
declared_too line (x ∷ xs) (y ∷ ys) alike are = (alike.0.is line are.0, declared_too (line + 1) xs ys alike.1 are.1)
declared_too line [] (y ∷ ys) alike are = absurd alike
declared_too line (x ∷ xs) [] alike are = absurd alike

stand_too : (xs ys : List Declaration) → Alike xs ys → AllByRecursion StandInLine (map declaration_words xs) → AllByRecursion StandInLine (map declaration_words ys)
stand_too [] [] alike stand = tt
stand_too (x ∷ xs) (y ∷ ys) alike stand = (alike.0.stands stand.0, stand_too xs ys alike.1 stand.1)
stand_too [] (y ∷ ys) alike stand = absurd alike
stand_too (x ∷ xs) [] alike stand = absurd alike

node_like : (es : Entries) → AreSpelled es → (n : Node) → Like (declared.Node n) (declared.Node (with_value_of es n))
node_like es all n =
    let value = value_of es n.id.0 in
    let has = spelled_value es n.id.0 all in
    record { is = λ line is. spelled_found line n value has is; stands = λ stand. stands_found n value has stand }

views_alike : (es : Entries) → AreSpelled es → (panes : ℕ) (ns : List Node) → Alike (view_declarations panes ns) (view_declarations panes (map (with_value_of es) ns))
views_alike es all panes [] = alike_same (ends_of_panes panes 0)
views_alike es all panes (n ∷ ns) =
    rw (same_open n (value_of es n.id.0), same_depth n (value_of es n.id.0))
    (alike_append (ends_of_panes panes n.depth) (ends_of_panes panes n.depth) (declared.Node n ∷ view_declarations (open_panes_after n) ns) (declared.Node (with_value_of es n) ∷ view_declarations (open_panes_after n) (map (with_value_of es) ns)) (alike_same (ends_of_panes panes n.depth))
    (node_like es all n, views_alike es all (open_panes_after n) ns))

dialog_alike : (es : Entries) → AreSpelled es → (d : Dialog) → Alike (dialog_declarations d) (dialog_declarations (with_values_of es d))
dialog_alike es all d =
    (same (declared.Node d.node), alike_append (view_declarations 0 d.views) (view_declarations 0 (map (with_value_of es) d.views)) (map (λ rule. declared.Rule rule) d.rules ++ declared.End ∷ []) (map (λ rule. declared.Rule rule) d.rules ++ declared.End ∷ []) (views_alike es all 0 d.views) (alike_same (map (λ rule. declared.Rule rule) d.rules ++ declared.End ∷ [])))

abbrev AllSpelled : List Answer → Type 0
AllSpelled as' = AllByRecursion (λ answer. AreSpelled answer.entries) as'

dialogs_alike : (ds : List Dialog) (given : List Answer) → AllSpelled given → Alike (flat_map dialog_declarations ds) (flat_map dialog_declarations (filled_dialogs ds given))
dialogs_alike [] given all = tt
dialogs_alike (d ∷ ds) [] all = alike_same (flat_map dialog_declarations (d ∷ ds))
dialogs_alike (d ∷ ds) (answer ∷ given) all =
    alike_append (dialog_declarations d) (dialog_declarations (with_values_of answer.entries d)) (flat_map dialog_declarations ds) (flat_map dialog_declarations (filled_dialogs ds given)) (dialog_alike answer.entries all.0 d) (dialogs_alike ds given all.1)

behind : (xs us vs : List Declaration) → Alike us vs → Alike (xs ++ us) (xs ++ vs)
behind xs us vs later = alike_append xs xs us vs (alike_same xs) later

-- ---- dialogs

views_too : (es : Entries) (panes : ℕ) (ns : List Node) → AreViews panes ns → AreViews panes (map (with_value_of es) ns)
views_too es panes [] are = tt
views_too es panes (n ∷ ns) are =
    rw (same_viewed n (value_of es n.id.0), same_open n (value_of es n.id.0), same_depth n (value_of es n.id.0)) (are.0, are.1, are.2, views_too es (open_panes_after n) ns are.3)

dialogs_too : (ds : List Dialog) (given : List Answer) → AllByRecursion IsDialog ds → AllByRecursion IsDialog (filled_dialogs ds given)
dialogs_too [] given are = tt
dialogs_too (d ∷ ds) [] are = are
dialogs_too (d ∷ ds) (answer ∷ given) are =
    (record { depth = are.0.depth; views = views_too answer.entries 0 d.views are.0.views }, dialogs_too ds given are.1)

-- ---- the description

filled_alike : (d : Desc) (a : Answers) → HaveSpelledValues a → Alike (declarations_of d) (declarations_of (filled d a))
filled_alike d a all =
    let dialogs = dialogs_alike d.dialogs a.dialogs all in
    let parts = behind (flat_map window_declarations d.windows) _ _ dialogs in
    let items = behind (map (λ item. declared.Status item) d.status) _ _ parts in
    let menus = behind (flat_map menu_declarations d.menus) _ _ items in
    let begun = behind (start_declarations d.start) _ _ menus in
    (same (declared.Version d.version), (same (declared.Screen d.width d.height), begun))

is_filled : (d : Desc) (a : Answers) → HaveSpelledValues a → IsDescription d → IsDescription (filled d a)
is_filled d a all is =
    record {
      declarations = declared_too 1 (declarations_of d) (declarations_of (filled d a)) (filled_alike d a all) is.declarations;
      menus = is.menus;
      windows = is.windows;
      dialogs = dialogs_too d.dialogs a.dialogs is.dialogs;
    }

stand_filled : (d : Desc) (a : Answers) → HaveSpelledValues a → (lines : List (List ℕ)) → SpellsLines lines d → AllByRecursion StandInLine (word_lines (filled d a))
stand_filled d a all lines spells =
    let stand : AllByRecursion StandInLine (word_lines d) = subst (λ wss. AllByRecursion StandInLine wss) spells.declared (declared_stand lines spells.words spells.each) in
    stand_too (declarations_of d) (declarations_of (filled d a)) (filled_alike d a all) stand

-- the lines of its canonical text spell it
pub spelled_filled : (d : Desc) (a : Answers) → HaveSpelledValues a → CanBeSpelled d → CanBeSpelled (filled d a)
spelled_filled d a all can =
    let lines : List (List Word) = word_lines (filled d a) in
    let stand = stand_filled d a all (lines_of can.0) can.1 in
    (canonical_text lines, record { words = lines; each = stand_spelled lines stand; declared = all_declared lines stand; can = is_filled d a all can.1.can })
