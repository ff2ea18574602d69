-- The words that declare windows, dialogs and views.
use Rattle.std.specs.Prelude.{◌≢◌, ℕ, ℤ, int_lt, Bool, true, ◌&&◌, List, [], ◌∷◌, ◌++◌, map, Option, Some}
use Rattle.std.specs.Prelude.{None, IfSome, IsTrue, codes}
use Rattle.std.specs.List.{AllByRecursion}
use Rattle.tv_valid.specs.declared.input.DomainSpec.{DomainSpec}
use Rattle.tv_valid.specs.declared.input.DomainSpec.TheVariants as domains
use Rattle.tv_model.specs.declared.node.Node.{Node}
use Rattle.tv_model.specs.declared.kind.Kind.{Kind}
use Rattle.tv_model.specs.declared.kind.Kind.TheVariants as kinds
use Rattle.tv_words.specs.declared.word.Word.{Word}
use Rattle.tv_words.specs.declared.word.Word.TheVariants.{Bare, Quoted}
use Rattle.tv_words.specs.Fields.{number_word, IsNumber, IsName}
use Rattle.tv_declarations.specs.Spelling.Terms.{marked_word, command_word, word_if, ends_words, IsMarked}
use Rattle.tv_declarations.specs.Spelling.Terms.{IsCommand}

-- a text between quotes
abbrev pub text_word : List ℕ → Word
text_word text = Quoted text

-- the domain of an input line
abbrev pub domain_words : DomainSpec → List Word
domain_words domains.Any = Bare (codes "any") ∷ []
domain_words (domains.Filter set) = Bare (codes "filter") ∷ Quoted set ∷ []
domain_words (domains.Range least greatest) =
    Bare (codes "range") ∷ number_word least ∷ number_word greatest ∷ []
domain_words (domains.Picture text) = Bare (codes "picture") ∷ Quoted text ∷ []

-- the command that opens a dialog, where there is one
abbrev pub opens_words : Option ℤ → List Word
opens_words None = []
opens_words (Some command) = Bare (codes "opens") ∷ number_word command ∷ []

-- the check boxes that are marked at first, where there are any
abbrev pub marks_words : List ℤ → List Word
marks_words [] = []
marks_words (n ∷ ns) = Bare (codes "start") ∷ map number_word (n ∷ ns)

-- the words that declare a node of the kind, at the column and row and with the width
abbrev pub kind_words : Kind → Word → Word → Word → List Word
kind_words (kinds.Window head) x y w =
    Bare (codes "window") ∷ Bare head.name ∷ x ∷ y ∷ w ∷ number_word head.h ∷ number_word head.number
    ∷ Quoted head.title ∷ []
kind_words (kinds.Dialog head) x y w =
    Bare (codes "dialog") ∷ Bare head.name ∷ x ∷ y ∷ w ∷ number_word head.h ∷ Quoted head.title
    ∷ (opens_words head.opens ++ (Bare (codes "ends") ∷ ends_words head.ends))
kind_words (kinds.Text shown) x y w =
    Bare (codes "text") ∷ x ∷ y ∷ w ∷ number_word shown.h ∷ Quoted shown.text ∷ []
kind_words (kinds.Label label_kind) x y w =
    Bare (codes "label") ∷ x ∷ y ∷ w ∷ marked_word label_kind.text ∷ Bare label_kind.link ∷ []
kind_words (kinds.Button pressable) x y w =
    Bare (codes "button") ∷ Bare pressable.name ∷ x ∷ y ∷ w ∷ marked_word pressable.text
    ∷ command_word pressable.command
    ∷ (word_if pressable.is_default (codes "default") ++ word_if pressable.grabs (codes "grab"))
kind_words (kinds.Input line) x y w =
    Bare (codes "input") ∷ Bare line.name ∷ x ∷ y ∷ w ∷ number_word line.spec.max
    ∷ (domain_words line.spec.domain
    ++ (Quoted line.start
    ∷ (word_if line.validates (codes "validate")
    ++ (word_if line.spec.optional (codes "optional") ++ word_if line.spec.fill (codes "fill")))))
kind_words (kinds.CheckBoxes boxes) x y w =
    Bare (codes "checks") ∷ Bare boxes.name ∷ x ∷ y ∷ w
    ∷ (map marked_word boxes.items ++ marks_words boxes.start)
kind_words (kinds.RadioButtons cluster) x y w =
    Bare (codes "radios") ∷ Bare cluster.name ∷ x ∷ y ∷ w
    ∷ (map marked_word cluster.items ++ (Bare (codes "start") ∷ number_word cluster.start ∷ []))
kind_words (kinds.List rows) x y w =
    Bare (codes "list") ∷ Bare rows.name ∷ x ∷ y ∷ w ∷ number_word rows.h
    ∷ (map text_word rows.items ++ (Bare (codes "start") ∷ number_word rows.start ∷ []))
kind_words (kinds.Pane area) x y w =
    Bare (codes "pane") ∷ Bare area.name ∷ x ∷ y ∷ w ∷ number_word area.h ∷ []

-- the words of the line that declares the node
abbrev pub node_words : Node → List Word
node_words n = kind_words n.kind (number_word n.x) (number_word n.y) (number_word n.w)

-- ---- what can be spelled

-- a domain, of whatever numbers
abbrev pub IsSpelledDomain : DomainSpec → Type 0
IsSpelledDomain (domains.Range least greatest) = IsNumber least × IsNumber greatest
IsSpelledDomain _ = Unit {0}

-- each number is greater than the one before
abbrev pub is_rising : List ℤ → Bool
is_rising [] = true
is_rising (a ∷ []) = true
is_rising (a ∷ b ∷ ns) = int_lt a b && is_rising (b ∷ ns)

-- a kind whose names, numbers and marked texts are such, and whose cluster or list has an item
abbrev pub IsSpelledKind : Kind → Type 0
IsSpelledKind (kinds.Window head) = IsName head.name × IsNumber head.h × IsNumber head.number
IsSpelledKind (kinds.Dialog head) = IsName head.name × IsNumber head.h × IfSome head.opens IsNumber
IsSpelledKind (kinds.Text shown) = IsNumber shown.h
IsSpelledKind (kinds.Label label) = IsMarked label.text × IsName label.link
IsSpelledKind (kinds.Button button) = IsName button.name × IsMarked button.text × IsCommand button.command
IsSpelledKind (kinds.Input input) =
    IsName input.name × IsNumber input.spec.max × IsSpelledDomain input.spec.domain
IsSpelledKind (kinds.CheckBoxes boxes) =
    IsName boxes.name × AllByRecursion IsMarked boxes.items × (boxes.items ≢ [])
    × AllByRecursion IsNumber boxes.start × IsTrue (is_rising boxes.start)
IsSpelledKind (kinds.RadioButtons radios) =
    IsName radios.name × AllByRecursion IsMarked radios.items × (radios.items ≢ []) × IsNumber radios.start
IsSpelledKind (kinds.List list) = IsName list.name × IsNumber list.h × (list.items ≢ []) × IsNumber list.start
IsSpelledKind (kinds.Pane pane) = IsName pane.name × IsNumber pane.h
