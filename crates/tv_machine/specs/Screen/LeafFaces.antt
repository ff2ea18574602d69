-- What each kind of leaf shows, by columns and rows from its corner. A cell is a character in the attribute
-- of its role.
use Rattle.std.specs.Prelude.{ℕ, List}
use Rattle.tv_model.specs.declared.kind.Kind.{Kind}
use Rattle.tv_model.specs.Kinds.{behaviour}
use Rattle.tv_model.specs.Controls.Contents.{Content}
use Rattle.tv_model.specs.Screen.Faces.{FaceOf}
use Rattle.tv_palette.specs.declared.role.Owner.{Owner}
use Rattle.tv_palette.specs.declared.role.Role.{Role}
use Rattle.tv_model.specs.Controls.Look.{Look}

-- the face of a leaf of this width in a window or a dialog, in the colours of its roles. Windows, dialogs and
-- panes have none
abbrev pub leaf_faces : (Role → ℕ) → Owner → Look → ℕ → Kind → Content → List FaceOf
leaf_faces colour owner look width kind c = (behaviour kind).faces colour owner look width c
