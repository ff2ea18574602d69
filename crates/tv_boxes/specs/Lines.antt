-- The lines of a box's description: one declaration stands on each.
use Rattle.std.specs.Prelude.{ℕ, ◌+◌, List, [], ◌∷◌, ◌++◌, fold, length}
use Rattle.tv_model.specs.declared.node.Node.{Node}
use Rattle.tv_boxes.specs.Sizes.{size}

-- the node on this line
abbrev pub at_line : ℕ → Node → Node
at_line line node = record {
  id = record { 0 = line };
  depth = node.depth;
  x = node.x;
  y = node.y;
  w = node.w;
  kind = node.kind;
}

-- the views so far, and one more on the line below them: the first stands on line 5, below the dialog's own line
abbrev pub with_line : List Node → Node → List Node
with_line views node = views ++ at_line (size (length views) + 5) node ∷ []

-- the views, each on a line
abbrev pub on_lines : List Node → List Node
on_lines views = fold with_line [] views
