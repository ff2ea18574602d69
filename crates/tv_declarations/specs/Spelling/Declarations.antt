-- The words of each declaration.
use Rattle.std.specs.Prelude.{◌≡◌, ℕ, ◌+◌, List, [], ◌∷◌, codes}
use Rattle.tv_model.specs.declared.node.Node.{Node}
use Rattle.tv_model.specs.declared.desc.Effect.{Effect}
use Rattle.tv_model.specs.declared.desc.Effect.TheVariants as effects
use Rattle.tv_model.specs.declared.desc.Version.{Version}
use Rattle.tv_model.specs.declared.desc.Version.TheVariants as versions
use Rattle.tv_words.specs.declared.word.Word.{Word}
use Rattle.tv_words.specs.declared.word.Word.TheVariants.{Bare, Quoted}
use Rattle.tv_declarations.specs.declared.declaration.Declaration.{Declaration}
use Rattle.tv_declarations.specs.declared.declaration.Declaration.TheVariants as declared
use Rattle.tv_declarations.specs.declared.place.Position.{Position}
use Rattle.tv_words.specs.Fields.{number_word, IsNumber, IsName}
use Rattle.tv_declarations.specs.Spelling.Terms.{marked_word, command_word, IsMarked, IsCommand}
use Rattle.tv_declarations.specs.Spelling.Keys.{key_word, IsKey}
use Rattle.tv_declarations.specs.Spelling.Nodes.{node_words, IsSpelledKind}

-- what a rule does, before the words after it
abbrev pub effect_words : Effect → List Word → List Word
effect_words (effects.Show name) more = Bare (codes "show") ∷ Bare name ∷ more
effect_words (effects.Enable command) more = Bare (codes "enable") ∷ command_word command ∷ more

-- the word of a version
abbrev pub version_word : Version → Word
version_word versions.One = Bare (codes "1")
version_word versions.Two = Bare (codes "2")

-- the words of the line of a declaration
abbrev pub declaration_words : Declaration → List Word
declaration_words (declared.Version version) = Bare (codes "tvd") ∷ version_word version ∷ []
declaration_words (declared.Screen width height) =
    Bare (codes "screen") ∷ number_word width ∷ number_word height ∷ []
declaration_words (declared.Start name) = Bare (codes "start") ∷ Bare name ∷ []
declaration_words (declared.Menu i title) = Bare (codes "menu") ∷ marked_word title ∷ []
declaration_words (declared.Item item) =
    Bare (codes "item") ∷ marked_word item.text ∷ command_word item.command ∷ []
declaration_words (declared.Status item) =
    Bare (codes "status") ∷ Quoted item.text ∷ key_word item.key ∷ command_word item.command ∷ []
declaration_words (declared.Node node) = node_words node
declaration_words (declared.Rule rule) =
    effect_words rule.effect (Bare (codes "when") ∷ Bare rule.cluster ∷ number_word rule.item ∷ [])
declaration_words declared.End = Bare (codes "end") ∷ []

-- ---- what can be spelled

-- the node stands on this line
pub record IsNode (line : ℕ) (n : Node) : Type 0 where
  pub id : n.id.0 ≡ line
  pub x : IsNumber n.x
  pub y : IsNumber n.y
  pub w : IsNumber n.w
  pub kind : IsSpelledKind n.kind

-- a name to show, or a command to enable
abbrev pub IsEffect : Effect → Type 0
IsEffect (effects.Show name) = IsName name
IsEffect (effects.Enable command) = IsCommand command

-- the declaration can stand on this line of the canonical text, and has its number
abbrev pub IsDeclaration : ℕ → Declaration → Type 0
IsDeclaration line (declared.Version version) = Unit {0}
IsDeclaration line (declared.Screen width height) = IsNumber width × IsNumber height
IsDeclaration line (declared.Start name) = IsName name
IsDeclaration line (declared.Menu i title) = (i.0 ≡ line) × IsMarked title
IsDeclaration line (declared.Item item) = (item.id.0 ≡ line) × IsMarked item.text × IsCommand item.command
IsDeclaration line (declared.Status item) = (item.id.0 ≡ line) × IsKey item.key × IsCommand item.command
IsDeclaration line (declared.Node node) = IsNode line node
IsDeclaration line (declared.Rule rule) =
    (rule.id.0 ≡ line) × IsEffect rule.effect × IsName rule.cluster × IsNumber rule.item
IsDeclaration line declared.End = Unit {0}

-- declarations on consecutive lines
abbrev pub AreDeclarations : ℕ → List Declaration → Type 0
AreDeclarations line [] = Unit {0}
AreDeclarations line (d ∷ ds) = IsDeclaration line d × AreDeclarations (line + 1) ds

-- a node stands inside so many panes
abbrev pub IsInside : ℕ → Declaration → Type 0
IsInside panes (declared.Node node) = node.depth ≡ panes
IsInside panes _ = Unit {0}

-- the words of a line at this position are those of the declaration
pub record IsDeclarationLine (at : Position) (d : Declaration) (ws : List Word) : Type 0 where
  pub is : IsDeclaration at.id.0 d
  pub inside : IsInside at.depth d
  pub words : ws ≡ declaration_words d
