-- Nodes that are lawful by themselves: what a view may be made of.
use Rattle.std.specs.Prelude.{ℕ, ◌≤◌, List, length, All, Option, Some, pos, neg_ℤ}
use Rattle.tv_cells.specs.Glyph.{IsNarrow}
use Rattle.tv_model.specs.declared.node.Node.{Node}
use Rattle.tv_model.specs.declared.kind.Kind.{Kind}
use Rattle.tv_model.specs.Kinds.{facts}
use Rattle.tv_model.specs.declared.command.CommandSpec.{CommandSpec}
use Rattle.tv_model.specs.declared.command.CommandSpec.TheVariants as commands
use Rattle.tv_model.specs.Description.Commands.{command_of}
use Rattle.tv_model.specs.Description.Limits.{least_height, least_width, most_chars}
use Rattle.tv_model.specs.Description.Nodes.{height_of}
use Rattle.tv_model.specs.Description.Numbers.{IsBetween}
use Rattle.tv_model.specs.Description.Texts.{shown_texts, texts_of}

-- ---- numbers, counts and texts

-- a command of a name, or of a number from 100 to 255
abbrev pub IsLawfulCommand : Option CommandSpec → Type 0
IsLawfulCommand (Some (commands.Number n)) = IsBetween (pos 100) (pos 255) n
IsLawfulCommand _ = Unit {0}

-- so many items as a cluster or a list may have; nothing else has items
abbrev pub HasLawfulCount : Kind → Type 0
HasLawfulCount kind = (facts kind).HasLawfulCount

-- a number that a window may have, and so many characters as an input may take
abbrev pub HasLawfulAmount : Kind → Type 0
HasLawfulAmount kind = (facts kind).HasLawfulAmount

-- no more characters than a text may have
abbrev pub IsShort : List ℕ → Type 0
IsShort text = length text ≤ most_chars

-- a node whose numbers, counts and texts lie within the limits
pub record IsLimited (node : Node) : Type 0 where
  pub x : IsBetween (neg_ℤ (pos 132)) (pos 132) node.x
  pub y : IsBetween (neg_ℤ (pos 132)) (pos 132) node.y
  pub w : IsBetween (least_width node.kind) (pos 132) node.w
  pub h : IsBetween (least_height node.kind) (pos 60) (height_of node.kind)
  pub count : HasLawfulCount node.kind
  pub amount : HasLawfulAmount node.kind
  pub texts : All IsShort (texts_of node.kind)
  pub command : IsLawfulCommand (command_of node.kind)

-- every character takes one column
abbrev pub IsNarrowText : List ℕ → Type 0
IsNarrowText text = All IsNarrow text

-- a node of which all that shows takes one column a character
abbrev pub IsNarrowNode : Node → Type 0
IsNarrowNode node = All IsNarrowText (shown_texts node.kind)

-- ---- domains and starts

-- an input has a domain with a text
abbrev pub HasLawfulDomain : Kind → Type 0
HasLawfulDomain kind = (facts kind).HasLawfulDomain

-- an input starts with a text that may stand in it, a cluster or list with items that it has
abbrev pub HasLawfulStart : Kind → Type 0
HasLawfulStart kind = (facts kind).HasLawfulStart

-- ---- the whole

-- a node that a view may be made of
pub record IsLawfulNode (node : Node) : Type 0 where
  pub limited : IsLimited node
  pub narrow : IsNarrowNode node
  pub domain : HasLawfulDomain node.kind
  pub start : HasLawfulStart node.kind
