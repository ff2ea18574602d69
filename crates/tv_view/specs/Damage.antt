-- What is drawn alike but in the damage.
use Rattle.std.specs.Prelude.{◌≡◌, ◌⊎◌, ℕ, ℤ, Bool, true, false, pos, ◌-ℤ◌, List}
use Rattle.tv_cells.specs.Damage.{Grows, HasAll, has}
use Rattle.tv_cells.specs.Glyph.{Glyph}
use Rattle.tv_cells.specs.Layers.{Layer, cell_over}
use Rattle.tv_cells.specs.declared.canvas.Canvas.{Canvas}
use Rattle.tv_cells.specs.declared.rect.Rect.{Rect}
use Rattle.tv_view.specs.Meaning.{Leaf, Placed, bounds_of}
use Rattle.tv_view.specs.declared.env.Env.{Env}
use Rattle.tv_view.specs.Colours.{lent_look}
use Rattle.tv_view.specs.Drawing.{leaf_layers, leaves_layers}

-- the damage, which is seen from the canvas's origin, has a cell of the screen
abbrev pub has_seen : List Rect → Canvas → ℕ → ℕ → Bool
has_seen damage c column row = has damage (pos column -ℤ c.origin.x) (pos row -ℤ c.origin.y)

-- two drawings through a canvas show the same in each cell that the damage lacks, whatever is below
pub record IsDrawnAlike (damage : List Rect) (old new : Canvas → List Layer) : Type 0 where
  pub each : (c : Canvas) (column row : ℕ) → has_seen damage c column row ≡ false → (under : Glyph)
      → cell_over (old c) column row under ≡ cell_over (new c) column row under

-- ---- a leaf

-- nothing is added, or the whole of a rectangle: then each of its points is in, none has left, and what came in
-- lies in the smallest rectangle that holds it and the old ones
abbrev pub AddsWholeOrNothing : Rect → List Rect → List Rect → Type 0
AddsWholeOrNothing r before after = (after ≡ before) ⊎ (HasAll r after × Grows r before after)

-- it is drawn as before but in the damage, under any one environment; its whole rectangle was added to that, or
-- nothing
pub record Damages (old new : Leaf) (before after : List Rect) : Type 0 where
  pub drawn : (env : Env) → IsDrawnAlike after (λ c. leaf_layers env c old) (λ c. leaf_layers env c new)
  pub added : AddsWholeOrNothing (bounds_of old) before after

-- two environments say the same of all that a leaf shows
pub record TellsSame (old new : Env) (leaf : Leaf) : Type 0 where
  pub owner : new.owner ≡ old.owner
  pub chain : new.chain.now ≡ old.chain.now
  pub look : lent_look new leaf ≡ lent_look old leaf

-- a leaf that stays is drawn under one environment as under the other but in the damage; its whole rectangle was
-- added to that, or nothing
pub record EnvDamages (old new : Env) (leaf : Leaf) (before after : List Rect) : Type 0 where
  pub drawn : IsDrawnAlike after (λ c. leaf_layers old c leaf) (λ c. leaf_layers new c leaf)
  pub added : AddsWholeOrNothing (bounds_of leaf) before after

-- ---- a group

-- leaves in their places are drawn as before but in the damage, under any one environment, and no point has
-- left it
pub record AllDrawn (old new : List Placed) (before after : List Rect) : Type 0 where
  pub drawn : (env : Env) → IsDrawnAlike after (λ c. leaves_layers env c old) (λ c. leaves_layers env c new)
  pub kept : (x y : ℤ) → has before x y ≡ true → has after x y ≡ true

-- the same, and what came in lies in the smallest rectangle that holds the old ones and the group's
pub record AllDamages (bounds : Rect) (old new : List Placed) (before after : List Rect) : Type 0 where
  pub drawn : (env : Env) → IsDrawnAlike after (λ c. leaves_layers env c old) (λ c. leaves_layers env c new)
  pub grown : Grows bounds before after

-- leaves that stay are drawn under one environment as under the other but in the damage, and no point has
-- left it
pub record AllEnvDrawn (old new : Env) (leaves : List Placed) (before after : List Rect) : Type 0 where
  pub drawn : IsDrawnAlike after (λ c. leaves_layers old c leaves) (λ c. leaves_layers new c leaves)
  pub kept : (x y : ℤ) → has before x y ≡ true → has after x y ≡ true

-- the same, and what came in lies in the smallest rectangle that holds the old ones and the group's
pub record AllEnvDamages (bounds : Rect) (old new : Env) (leaves : List Placed) (before after : List Rect)
    : Type 0 where
  pub drawn : IsDrawnAlike after (λ c. leaves_layers old c leaves) (λ c. leaves_layers new c leaves)
  pub grown : Grows bounds before after
