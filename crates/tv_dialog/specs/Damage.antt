-- What a dialog shows as before but in the damage.
use Rattle.std.specs.Prelude.{◌≡◌, List}
use Rattle.tv_cells.specs.Damage.{Grows}
use Rattle.tv_cells.specs.declared.rect.Rect.{Rect}
use Rattle.tv_group.specs.Opened.{opened}
use Rattle.tv_view.specs.Damage.{AllDrawn, IsDrawnAlike}
use Rattle.tv_view.specs.Meaning.{Leaf}
use Rattle.tv_view.specs.declared.env.Env.{Env}
use Rattle.tv_dialog.specs.Bounds.{dialog_bounds}
use Rattle.tv_dialog.specs.Drawn.{drawn_dialog}
use Rattle.tv_dialog.specs.declared.dialog.DialogOf.{DialogOf}

-- it stands where it did with its sheet and what it keeps of its description, and its body is drawn as before but in the
-- damage that it keeps, under any one environment; no point has left that damage
pub record BodyDrawn {V : Type 0} (look : V → Leaf) (old new : DialogOf V) : Type 0 where
  pub head : new.head ≡ old.head
  pub corner : new.corner ≡ old.corner
  pub sheet : new.sheet ≡ old.sheet
  pub plan : new.plan ≡ old.plan
  pub body : AllDrawn (opened look old.body) (opened look new.body) old.damage new.damage

-- it is drawn as before but in the damage; no point has left the damage, and what came in lies in the
-- smallest rectangle that holds the old ones and the dialog's
pub record DialogDamages {V : Type 0} (look : V → Leaf) (env : Env) (old new : DialogOf V)
    (before after : List Rect) : Type 0 where
  pub drawn : IsDrawnAlike after (λ c. drawn_dialog look env c old) (λ c. drawn_dialog look env c new)
  pub grown : Grows (dialog_bounds old) before after

-- the same of a dialog that stays, under another environment
pub record DialogEnvDamages {V : Type 0} (look : V → Leaf) (old new : Env) (dialog : DialogOf V)
    (before after : List Rect) : Type 0 where
  pub drawn : IsDrawnAlike after (λ c. drawn_dialog look old c dialog) (λ c. drawn_dialog look new c dialog)
  pub grown : Grows (dialog_bounds dialog) before after
