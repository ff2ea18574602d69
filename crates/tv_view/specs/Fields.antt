-- What a leaf holds, as the machine's tables of the controls see it.
use Rattle.tv_view.specs.Meaning.{Leaf}
use Rattle.tv_model.specs.Controls.Contents.{Content}

-- its value, what it keeps beside it, and whether typing overwrites
abbrev pub content_of : Leaf → Content
content_of leaf = record { value = leaf.value; private = leaf.private; overwrites = leaf.overwrites }

-- the leaf that holds this, and else stands as it did
abbrev pub with_content : Content → Leaf → Leaf
with_content c leaf = record leaf { value = c.value; private = c.private; overwrites = c.overwrites }
