-- Layers that are laid one after the other, and those of lists of leaves.
use Rattle.std.proofs.Common.{◌≡◌, Bool, true, false, List, [], ◌∷◌, ◌++◌, map, refl, sym, ap, ◌∙◌, append_assoc}
use Rattle.tv_cells.specs.Picture.{Picture}
use Rattle.tv_cells.specs.Canvas.{sub}
use Rattle.tv_cells.specs.Layers.{Layer, Lays}
use Rattle.tv_cells.specs.declared.rect.Rect.{Rect}
use Rattle.tv_cells.specs.declared.canvas.Canvas.{Canvas}
use Rattle.tv_view.specs.Meaning.{Placed, inside, kept, uncurrent}
use Rattle.tv_view.specs.declared.env.Env.{Env}
use Rattle.tv_view.specs.Drawing.{is_near, layers_in, leaves_layers}

-- nothing is laid
pub lays_none : (p : Picture) → Lays [] p p
lays_none p = record { size = record { width = refl; height = refl }; shows = λ below s. s }

-- first some, then others on top of them
pub lays_then : (xs ys : List Layer) (old mid new : Picture) → Lays xs old mid → Lays ys mid new → Lays (ys ++ xs) old new
lays_then xs ys old mid new p q = record {
  size = record { width = q.size.width ∙ p.size.width; height = q.size.height ∙ p.size.height };
  shows = λ below s. rw (append_assoc ys xs below) (q.shows (xs ++ below) (p.shows below s));
}

pub lays_as : (xs ys : List Layer) (old new : Picture) → xs ≡ ys → Lays xs old new → Lays ys old new
lays_as xs ys old new e p = rw (← e) p

append_nil : (xs : List Layer) → xs ++ [] ≡ xs
append_nil [] = refl
append_nil (x ∷ xs) = ap (λ t. x ∷ t) (append_nil xs)

module _ (env : Env) where
  -- marks don't show
  layers-unmarked : (c : Canvas) (xs : List Placed) → leaves_layers env c (map uncurrent xs) ≡ leaves_layers env c xs
  layers-unmarked c [] = refl
  layers-unmarked c (x ∷ xs) = ap (λ t. t ++ layers_in env c x.around x.leaf) (layers-unmarked c xs)

  pub layers-kept : (c : Canvas) (b : Bool) (xs : List Placed) → leaves_layers env c (kept b xs) ≡ leaves_layers env c xs
  layers-kept c true xs = refl
  layers-kept c false xs = layers-unmarked c xs

  -- later leaves are laid on top
  pub layers-append : (c : Canvas) (xs ys : List Placed) → leaves_layers env c (xs ++ ys) ≡ leaves_layers env c ys ++ leaves_layers env c xs
  layers-append c [] ys = sym (append_nil (leaves_layers env c ys))
  layers-append c (x ∷ xs) ys =
      ap (λ t. t ++ layers_in env c x.around x.leaf) (layers-append c xs ys)
      ∙ append_assoc (leaves_layers env c ys) (leaves_layers env c xs) (layers_in env c x.around x.leaf)

  -- one more group around all of them cuts the canvas once
  pub layers-inside : (c : Canvas) (r : Rect) (xs : List Placed) → is_near (sub c r).origin ≡ true → leaves_layers env c (map (inside r) xs) ≡ leaves_layers env (sub c r) xs
  layers-inside c r [] near = refl
  layers-inside c r (x ∷ xs) near = rw near (ap (λ t. t ++ layers_in env (sub c r) x.around x.leaf) (layers-inside c r xs near))

  -- what lies too far away isn't drawn
  pub layers-far : (c : Canvas) (r : Rect) (xs : List Placed) → is_near (sub c r).origin ≡ false → leaves_layers env c (map (inside r) xs) ≡ []
  layers-far c r [] far = refl
  layers-far c r (x ∷ xs) far = rw far (append_nil (leaves_layers env c (map (inside r) xs)) ∙ layers-far c r xs far)
