-- The texts of a description that a text can spell are of characters.
use lib.Utf8.{scalar}
use Rattle.std.proofs.Common.{◌≡◌, ℕ, zero, suc, ◌==◌, not, true, if◌then◌else◌, List, [], ◌∷◌, ◌++◌, map, flat_map, refl, sym, subst, ◌∙◌, append_assoc, Some, All}
use Rattle.std.specs.Prelude.{slice_get}
use Rattle.std.specs.Char.{is_control}
use Rattle.std.specs.List.{AllByRecursion, list_all}
use Rattle.std.proofs.lemmas.Bool.{and_parts, eqb-true}
use Rattle.std.proofs.lemmas.List.Elements.{All-cons, All-nil}
use Rattle.std.proofs.lemmas.List.Folds.{list_all-append}
use Rattle.tv_declarations.specs.declared.declaration.Declaration.{Declaration}
use Rattle.tv_declarations.specs.declared.declaration.Declaration.TheVariants as declared
use Rattle.tv_declarations.specs.Spelling.{declarations_of, dialog_declarations, ends_of_panes, menu_declarations, open_panes_after, start_declarations, view_declarations, window_declarations, word_lines}
use Rattle.tv_declarations.specs.Spelling.Declarations.{declaration_words}
use Rattle.tv_declarations.specs.Spelling.Nodes.{domain_words}
use Rattle.tv_lang.specs.CanonicalDescription.{CanBeSpelled}
use Rattle.tv_machine.proofs.ListLemmas.{bool_cases}
use Rattle.tv_model.specs.declared.desc.Desc.{Desc}
use Rattle.tv_model.specs.declared.desc.Dialog.{Dialog}
use Rattle.tv_model.specs.declared.kind.Kind.{Kind}
use Rattle.tv_model.specs.declared.kind.Kind.TheVariants as kinds
use Rattle.tv_model.specs.declared.node.Node.{Node}
use Rattle.tv_valid.specs.declared.input.DomainSpec.{DomainSpec}
use Rattle.tv_valid.specs.declared.input.DomainSpec.TheVariants as asked
use Rattle.tv_words.specs.declared.word.Word.{Word}
use Rattle.tv_words.specs.declared.word.Word.TheVariants.{Quoted}
use Rattle.tv_words.specs.Lines.{lines_of}
use Rattle.tv_words.specs.Words.{escaped}
use Rattle.tv_words.proofs.CanonicalLineLemmas.{Stands, is_plain}
use Rattle.tv_words.proofs.CanonicalTextLemmas.{StandInLine}
use Rattle.tv_answers.proofs.CharacterLemmas.{AreChars, IsChar, SpecHasChars}
use Rattle.tv_answers.proofs.StandLemmas.{declared_stand, last_stand}

-- ---- words

char_is : (c n : ℕ) → (c == n) ≡ true → IsChar n → IsChar c
char_is c n same is = subst IsChar (sym (eqb-true c n same)) is

escaped_char : (c : ℕ) → list_all is_plain (escaped c) ≡ true → IsChar c
escaped_char c all =
    bool_cases (c == 34) (λ b. (c == 34) ≡ b → list_all is_plain (if b then 92 ∷ 34 ∷ [] else if c == 92 then 92 ∷ 92 ∷ [] else if c == 10 then 92 ∷ 110 ∷ [] else c ∷ []) ≡ true → IsChar c)
    (λ is e h. char_is c 34 e refl)
    (λ no e h. bool_cases (c == 92) (λ b. (c == 92) ≡ b → list_all is_plain (if b then 92 ∷ 92 ∷ [] else if c == 10 then 92 ∷ 110 ∷ [] else c ∷ []) ≡ true → IsChar c)
    (λ is e h. char_is c 92 e refl)
    (λ no e h. bool_cases (c == 10) (λ b. (c == 10) ≡ b → list_all is_plain (if b then 92 ∷ 110 ∷ [] else c ∷ []) ≡ true → IsChar c)
    (λ is e h. char_is c 10 e refl) (λ no e h. (and_parts (not (is_control c)) (scalar c) (and_parts (is_plain c) true h).0).1) refl h) refl h) refl all

text_plain : (text rest : List ℕ) → list_all is_plain (flat_map escaped text ++ rest) ≡ true → AreChars text
text_plain [] rest all = All-nil IsChar
text_plain (c ∷ text) rest all =
    let whole : list_all is_plain (escaped c ++ (flat_map escaped text ++ rest)) ≡ true = subst (λ xs. list_all is_plain xs ≡ true) (append_assoc (escaped c) (flat_map escaped text) rest) all in
    let both = and_parts (list_all is_plain (escaped c)) (list_all is_plain (flat_map escaped text ++ rest)) (sym (list_all-append is_plain (escaped c) (flat_map escaped text ++ rest)) ∙ whole) in
    All-cons IsChar c text (escaped_char c both.0) (text_plain text rest both.1)

-- a text between quotes in a line
pub quoted_chars : (text : List ℕ) → Stands (Quoted text) → AreChars text
quoted_chars text stands = text_plain text (34 ∷ []) stands.1

domain_chars : (spec : DomainSpec) (rest : List Word) → AllByRecursion Stands (domain_words spec ++ rest) → SpecHasChars spec
domain_chars (asked.Picture text) rest stand = quoted_chars text stand.1.0
domain_chars _ rest stand = tt

-- ---- declarations

-- an input begins with characters, and fills in no others
abbrev pub KindSpellsChars : Kind → Type 0
KindSpellsChars (kinds.Input input) = AreChars input.start × SpecHasChars input.spec.domain
KindSpellsChars _ = Unit {0}

abbrev pub NodeSpellsChars : Node → Type 0
NodeSpellsChars node = KindSpellsChars node.kind

abbrev Spells : Declaration → Type 0
Spells (declared.Node node) = NodeSpellsChars node
Spells _ = Unit {0}

kind_chars : (node : Node) (k : Kind) → node.kind ≡ k → StandInLine (declaration_words (declared.Node (record node { kind = k }))) → KindSpellsChars k
kind_chars node (kinds.Input input) is stand =
    let after = stand.0.1.1.1.1.1.1 in
    let start = last_stand (domain_words input.spec.domain) _ after in
    (quoted_chars input.start start.0, domain_chars input.spec.domain _ after)
kind_chars node _ is stand = tt

one_chars : (x : Declaration) → StandInLine (declaration_words x) → Spells x
one_chars (declared.Node node) stand = kind_chars node node.kind refl stand
one_chars _ stand = tt

all_chars : (xs : List Declaration) → AllByRecursion StandInLine (map declaration_words xs) → AllByRecursion Spells xs
all_chars [] stand = tt
all_chars (x ∷ xs) stand = (one_chars x stand.0, all_chars xs stand.1)

spells_right : (xs ys : List Declaration) → AllByRecursion Spells (xs ++ ys) → AllByRecursion Spells ys
spells_right [] ys all = all
spells_right (x ∷ xs) ys all = spells_right xs ys all.1

spells_left : (xs ys : List Declaration) → AllByRecursion Spells (xs ++ ys) → AllByRecursion Spells xs
spells_left [] ys all = tt
spells_left (x ∷ xs) ys all = (all.0, spells_left xs ys all.1)

views_chars : (panes : ℕ) (views : List Node) → AllByRecursion Spells (view_declarations panes views) → All NodeSpellsChars views
views_chars panes [] all = All-nil NodeSpellsChars
views_chars panes (view ∷ views) all =
    let rest = spells_right (ends_of_panes panes view.depth) _ all in
    All-cons NodeSpellsChars view views rest.0 (views_chars (open_panes_after view) views rest.1)

dialog_chars : (dialogs : List Dialog) (place : ℕ) (dialog : Dialog) → AllByRecursion Spells (flat_map dialog_declarations dialogs) → slice_get dialogs place ≡ Some dialog → All NodeSpellsChars dialog.views
dialog_chars [] place dialog all there = absurd cc
dialog_chars (first ∷ dialogs) zero dialog all there =
    let same : first ≡ dialog = cc in
    let own = spells_left (dialog_declarations first) (flat_map dialog_declarations dialogs) all in
    subst (λ (x : Dialog). All NodeSpellsChars x.views) same (views_chars 0 first.views (spells_left (view_declarations 0 first.views) _ own.1))
dialog_chars (first ∷ dialogs) (suc place) dialog all there = dialog_chars dialogs place dialog (spells_right (dialog_declarations first) (flat_map dialog_declarations dialogs) all) there

-- so of each dialog
pub spelled_chars : (d : Desc) → CanBeSpelled d → (place : ℕ) (dialog : Dialog) → slice_get d.dialogs place ≡ Some dialog → All NodeSpellsChars dialog.views
spelled_chars d can place dialog there =
    let stand : AllByRecursion StandInLine (word_lines d) = subst (AllByRecursion StandInLine) can.1.declared (declared_stand (lines_of can.0) can.1.words can.1.each) in
    let all = all_chars (declarations_of d) stand in
    let after_start = spells_right (start_declarations d.start) _ all.1.1 in
    let after_menus = spells_right (flat_map menu_declarations d.menus) _ after_start in
    let after_status = spells_right (map (λ item. declared.Status item) d.status) _ after_menus in
    dialog_chars d.dialogs place dialog (spells_right (flat_map window_declarations d.windows) (flat_map dialog_declarations d.dialogs) after_status) there
