-- What a window shows otherwise in another environment.
use Rattle.std.proofs.Common.{◌≡◌, ℕ, pos, false, List, [], ◌∷◌, refl, sym, ap, subst, ◌∙◌, Option}
use Rattle.tv_cells.specs.Canvas.{sub}
use Rattle.tv_cells.specs.Damage.{Grows, HasAll, HasWithin}
use Rattle.tv_cells.specs.Glyph.{Glyph}
use Rattle.tv_cells.specs.Layers.{cell_over, is_in, over}
use Rattle.tv_cells.specs.Rectangle.{shifted}
use Rattle.tv_cells.specs.Picture.{Picture}
use Rattle.tv_cells.specs.declared.canvas.Canvas.{Canvas}
use Rattle.tv_cells.specs.declared.rect.Rect.{Rect}
use Rattle.tv_cells.proofs.RepaintingLemmas.{over-append}
use Rattle.tv_group.specs.Opened.{group_bounds, opened}
use Rattle.tv_view.specs.Damage.{AllEnvDamages, IsDrawnAlike}
use Rattle.tv_view.specs.Drawing.{leaves_layers}
use Rattle.tv_view.specs.Meaning.{Leaf, Placed}
use Rattle.tv_view.specs.declared.env.Env.{Env}
use Rattle.tv_view.proofs.DamageLemmas.{leaves-clipped, pane-alike}
use Rattle.tv_window.specs.Damage.{WindowEnvDamages}
use Rattle.tv_window.specs.Head.{KeptWindowHead}
use Rattle.tv_window.specs.Window.{drawn_window, head_of, window_bounds, window_frame_layer}
use Rattle.tv_window.specs.declared.window.WindowOf.{WindowOf}
use Rattle.tv_view.proofs.OffLemmas.{clip-off, damage-off}

-- ---- a window

module _ {V : Type 0} (look : V → Leaf) where
  frame-clipped : (env : Env) (place : Canvas) (sheet : Option Picture) (head : KeptWindowHead) (column row : ℕ) (under : Glyph) → is_in place.clip (pos column) (pos row) ≡ false
      → over (window_frame_layer env place sheet head) column row under ≡ under
  frame-clipped env place sheet head column row under out = rw out refl

  -- off its bounds it draws nothing
  drawn-off : (env : Env) (c : Canvas) (window : WindowOf V) (column row : ℕ) (under : Glyph) → is_in (shifted (window_bounds window) c.origin) (pos column) (pos row) ≡ false
      → cell_over (drawn_window look env c window) column row under ≡ under
  drawn-off env c window column row under out =
      let gone = clip-off (window_bounds window) c column row out in
      let leaves = opened look window.body in
      let inner = sub c (window_bounds window) in
      over-append (leaves_layers env inner leaves) (window_frame_layer env inner window.sheet (head_of window) ∷ []) column row under
      ∙ leaves-clipped env column row inner leaves (over (window_frame_layer env inner window.sheet (head_of window)) column row under) gone
      ∙ frame-clipped env inner window.sheet (head_of window) column row under gone

  module _ (old new : Env) (window : WindowOf V) (before after : List Rect) (bounds : Rect) (is : bounds ≡ window_bounds window) (grown : Grows bounds before after) where
    -- all of it has come in
    pub whole-told : HasAll bounds after → WindowEnvDamages look old new window before after
    whole-told all = record {
      drawn = record {
        each = λ c column row off under.
            let out = damage-off (window_bounds window) after c column row (subst (λ r. HasAll r after) is all) off in
            drawn-off old c window column row under out ∙ sym (drawn-off new c window column row under out);
      };
      grown = subst (λ r. Grows r before after) is grown;
    }

    abbrev leaves : List Placed
    leaves = opened look window.body

    frame-same : new.is_active ≡ old.is_active → new.chain.now ≡ old.chain.now → (place : Canvas) → window_frame_layer new place window.sheet (head_of window) ≡ window_frame_layer old place window.sheet (head_of window)
    frame-same active chain place = rw (active, chain) refl

    -- its frame looks the same
    pub views-told : new.is_active ≡ old.is_active → new.chain.now ≡ old.chain.now → (inner : List Rect) → AllEnvDamages (group_bounds window.body) old new leaves [] inner
        → HasWithin bounds inner after → WindowEnvDamages look old new window before after
    views-told active chain inner told within =
        let own = window_bounds window in
        let views : IsDrawnAlike after (λ c. leaves_layers old (sub c own) leaves) (λ c. leaves_layers new (sub c own) leaves) =
        pane-alike own inner after (subst (λ r. HasWithin r inner after) is within) (λ c. leaves_layers old c leaves) (λ c. leaves_layers new c leaves) told.drawn
        (λ c column row under out. leaves-clipped old column row c leaves under out) (λ c column row under out. leaves-clipped new column row c leaves under out) in
        record {
          drawn = record {
            each = λ c column row off under.
                over-append (leaves_layers old (sub c own) leaves) (window_frame_layer old (sub c own) window.sheet (head_of window) ∷ []) column row under
                ∙ views.each c column row off (over (window_frame_layer old (sub c own) window.sheet (head_of window)) column row under)
                ∙ ap (λ layer. cell_over (leaves_layers new (sub c own) leaves) column row (over layer column row under)) (sym (frame-same active chain (sub c own)))
                ∙ sym (over-append (leaves_layers new (sub c own) leaves) (window_frame_layer new (sub c own) window.sheet (head_of window) ∷ []) column row under);
          };
          grown = subst (λ r. Grows r before after) is grown;
        }
