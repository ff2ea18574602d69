-- What damage says of parts of the screen, one over the other and one after the other.
use Rattle.std.proofs.Common.{◌≡◌, ℤ, Bool, true, false, List, [], ◌∷◌, ◌++◌, refl, sym, ap, ◌∙◌, subst, Option, Some, None}
use Rattle.tv_cells.specs.Damage.{has}
use Rattle.tv_cells.specs.Layers.{Layer, cell_over}
use Rattle.tv_cells.specs.Picture.{Picture}
use Rattle.tv_cells.specs.Repainting.{AreAlike}
use Rattle.tv_cells.specs.declared.rect.Rect.{Rect}
use Rattle.tv_cells.proofs.RepaintingLemmas.{over-append}
use Rattle.tv_model.specs.declared.desc.Desc.{Desc}
use Rattle.tv_machine.specs.State.{OpenWindow, State}
use Rattle.tv_machine.specs.Session.Desktop.{raise_found}
use Rattle.std.specs.Prelude.{is_none}
use Rattle.tv_machine.specs.Screen.Bodies.{background_layer}
use Rattle.tv_machine.specs.Screen.Layers.{bar_layer, box_layers, layers_of, open_layers, stack_layers, status_layer}
use Rattle.tv_session.specs.Running.{ShowAlikeOff}
use Rattle.tv_menu.proofs.DamageLemmas.{alike-more}

-- ---- lists of layers

pub alike-refl : (p : Picture) (damage : List Rect) (xs : List Layer) → AreAlike p damage xs xs
alike-refl p damage xs = record { each = λ column row on e under. refl }

pub alike-is : (p : Picture) (damage : List Rect) (xs ys : List Layer) → xs ≡ ys → AreAlike p damage xs ys
alike-is p damage xs ys same = subst (λ layers. AreAlike p damage xs layers) same (alike-refl p damage xs)

pub alike-then : (p : Picture) (damage : List Rect) (xs ys zs : List Layer) → AreAlike p damage xs ys → AreAlike p damage ys zs → AreAlike p damage xs zs
alike-then p damage xs ys zs a b = record { each = λ column row on e under. a.each column row on e under ∙ b.each column row on e under }

false-true : {b : Bool} → b ≡ false → b ≡ true → ⊥
false-true e f = let g : false ≡ true = sym e ∙ f in absurd cc

pub alike-append : (p : Picture) (damage : List Rect) (xs xs' ys ys' : List Layer) → AreAlike p damage xs xs' → AreAlike p damage ys ys' → AreAlike p damage (xs ++ ys) (xs' ++ ys')
alike-append p damage xs xs' ys ys' a b = record {
  each = λ column row on e under.
      over-append xs ys column row under
      ∙ a.each column row on e (cell_over ys column row under)
      ∙ ap (cell_over xs' column row) (b.each column row on e under)
      ∙ sym (over-append xs' ys' column row under);
}

-- ---- the dialog and the windows of two states

module _ (d : Desc) where
  pub marked-same : (s : State) (damage : List Rect) → ShowAlikeOff d s s damage
  marked-same s damage = record {
    dialog = λ p. alike-refl p damage (open_layers d s.overwriting s.dialog);
    windows = λ p is_active. alike-refl p damage (stack_layers d is_active s.windows);
  }

  -- neither has changed
  pub marked-aside : (since s t : State) (damage : List Rect) → ShowAlikeOff d since s damage → t.dialog ≡ s.dialog → t.overwriting ≡ s.overwriting → t.windows ≡ s.windows → ShowAlikeOff d since t damage
  marked-aside since s t damage m dialog overwriting windows = record {
    dialog = λ p. alike-then p damage _ _ _ (m.dialog p) (alike-is p damage _ _ (ap (open_layers d s.overwriting) (sym dialog) ∙ ap (λ o. open_layers d o t.dialog) (sym overwriting)));
    windows = λ p is_active. alike-then p damage _ _ _ (m.windows p is_active) (alike-is p damage _ _ (ap (stack_layers d is_active) (sym windows)));
  }

  -- the windows alone have changed
  pub marked-windows : (since s t : State) (before after : List Rect) → ShowAlikeOff d since s before → ((x y : ℤ) → has before x y ≡ true → has after x y ≡ true)
      → ((p : Picture) (is_active : Bool) → AreAlike p after (stack_layers d is_active s.windows) (stack_layers d is_active t.windows))
      → t.dialog ≡ s.dialog → t.overwriting ≡ s.overwriting → ShowAlikeOff d since t after
  marked-windows since s t before after m kept windows dialog overwriting = record {
    dialog = λ p. alike-then p after _ _ _ (alike-more p before after _ _ kept (m.dialog p))
        (alike-is p after _ _ (ap (open_layers d s.overwriting) (sym dialog) ∙ ap (λ o. open_layers d o t.dialog) (sym overwriting)));
    windows = λ p is_active. alike-then p after _ _ _ (alike-more p before after _ _ kept (m.windows p is_active)) (windows p is_active);
  }

  -- the dialog alone has changed
  pub marked-dialog : (since s t : State) (before after : List Rect) → ShowAlikeOff d since s before → ((x y : ℤ) → has before x y ≡ true → has after x y ≡ true)
      → ((p : Picture) → AreAlike p after (open_layers d s.overwriting s.dialog) (open_layers d t.overwriting t.dialog))
      → t.windows ≡ s.windows → ShowAlikeOff d since t after
  marked-dialog since s t before after m kept dialog windows = record {
    dialog = λ p. alike-then p after _ _ _ (alike-more p before after _ _ kept (m.dialog p)) (dialog p);
    windows = λ p is_active. alike-then p after _ _ _ (alike-more p before after _ _ kept (m.windows p is_active)) (alike-is p after _ _ (ap (stack_layers d is_active) (sym windows)));
  }

  -- more damage
  pub marked-more : (since s : State) (before after : List Rect) → ShowAlikeOff d since s before → ((x y : ℤ) → has before x y ≡ true → has after x y ≡ true) → ShowAlikeOff d since s after
  marked-more since s before after m kept = record {
    dialog = λ p. alike-more p before after _ _ kept (m.dialog p);
    windows = λ p is_active. alike-more p before after _ _ kept (m.windows p is_active);
  }

  -- ---- all of the screen

  pub layers-alike : (s t : State) (p : Picture) (damage : List Rect) → AreAlike p damage (bar_layer d s.menu ∷ []) (bar_layer d t.menu ∷ [])
      → AreAlike p damage (status_layer d s ∷ []) (status_layer d t ∷ []) → AreAlike p damage (box_layers d s.menu) (box_layers d t.menu) → ShowAlikeOff d s t damage
      → AreAlike p damage (stack_layers d (is_none s.dialog) t.windows) (stack_layers d (is_none t.dialog) t.windows) → AreAlike p damage (layers_of d s) (layers_of d t)
  layers-alike s t p damage bar status menu marked front =
      alike-append p damage (bar_layer d s.menu ∷ []) (bar_layer d t.menu ∷ []) _ _ bar
      (alike-append p damage (status_layer d s ∷ []) (status_layer d t ∷ []) _ _ status
      (alike-append p damage (box_layers d s.menu) (box_layers d t.menu) _ _ menu
      (alike-append p damage (open_layers d s.overwriting s.dialog) (open_layers d t.overwriting t.dialog) _ _ (marked.dialog p)
      (alike-append p damage (stack_layers d (is_none s.dialog) s.windows) (stack_layers d (is_none t.dialog) t.windows) (background_layer d ∷ []) (background_layer d ∷ [])
      (alike-then p damage _ _ _ (marked.windows p (is_none s.dialog)) front) (alike-refl p damage (background_layer d ∷ []))))))

  -- a window that was found has come to the front
  pub marked-raised : (since s : State) (found : Option OpenWindow) (before after : List Rect) → ShowAlikeOff d since s before → ((x y : ℤ) → has before x y ≡ true → has after x y ≡ true)
      → ((p : Picture) (is_active : Bool) → AreAlike p after (stack_layers d is_active s.windows) (stack_layers d is_active (raise_found found s).windows)) → ShowAlikeOff d since (raise_found found s) after
  marked-raised since s None before after m kept windows = marked-windows since s s before after m kept windows refl refl
  marked-raised since s (Some w) before after m kept windows = marked-windows since s (raise_found (Some w) s) before after m kept windows refl refl
