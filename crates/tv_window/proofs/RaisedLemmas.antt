-- The open windows in another order, without the front one, or where that has moved: what they show off the rectangles
-- of those that changed.
use Rattle.std.proofs.Common.{◌≡◌, ℕ, zero, suc, ◌<◌, pos, Bool, false, List, [], ◌∷◌, ◌++◌, length, take, drop, Option, Some, None, refl, sym, ap, ◌∙◌, subst, append_assoc}
use Rattle.std.specs.List.{remove, slice_get}
use Rattle.tv_cells.specs.Damage.{has, with_shadow}
use Rattle.tv_cells.specs.Glyph.{Glyph}
use Rattle.tv_cells.specs.Layers.{cell_over}
use Rattle.tv_cells.specs.Rectangle.{IsIn}
use Rattle.tv_cells.specs.declared.rect.Point.{Point}
use Rattle.tv_cells.proofs.DamageLemmas.{has-one}
use Rattle.tv_cells.proofs.RepaintingLemmas.{over-append}
use Rattle.tv_group.specs.Stack.{raised_at}
use Rattle.tv_view.specs.Meaning.{Leaf}
use Rattle.tv_model.specs.Description.Heads.{window_head}
use Rattle.tv_model.specs.Description.Rectangles.{rect}
use Rattle.tv_model.specs.declared.desc.Desc.{Desc}
use Rattle.tv_model.specs.declared.desc.Window.{Window}
use Rattle.tv_machine.specs.Screen.Bodies.{window_of}
use Rattle.tv_machine.specs.Screen.Layers.{stack_layers, window_layers}
use Rattle.tv_machine.specs.State.{OpenWindow}
use Rattle.tv_window.specs.Damage.{front_rects}
use Rattle.tv_window.specs.DeclaredWindows.{AreDeclared, IsDeclared}
use Rattle.tv_window.specs.Window.{head_of, moved_to, window_bounds}
use Rattle.tv_window.specs.declared.window.WindowOf.{WindowOf}
use Rattle.tv_cells.proofs.AddedLemmas.{false-true}
use Rattle.tv_window.proofs.DeclaredLemmas.{declared-moved, one-declared, same-length}
use Rattle.tv_window.proofs.OffLemmas.{activity-off, window-off}
use Rattle.tv_window.proofs.PlaceLemmas.{got-within}
use Rattle.tv_window.proofs.StackLemmas.{IsHead, head_is}

-- ---- lists of open windows

module _ (d : Desc) where
  split-by : (is_active : Bool) (o : OpenWindow) (behind more : List OpenWindow) (window : Option Window) → window_of d o.id ≡ window
      → stack_layers d false (behind ++ more) ≡ stack_layers d false behind ++ stack_layers d false more
      → stack_layers d is_active ((o ∷ behind) ++ more) ≡ stack_layers d is_active (o ∷ behind) ++ stack_layers d false more
  split-by is_active o behind more None is rest = rw is rest
  split-by is_active o behind more (Some window) is rest =
      rw is (ap (λ layers. window_layers d is_active o.origin o.sheet window ++ layers) rest
      ∙ sym (append_assoc (window_layers d is_active o.origin o.sheet window) (stack_layers d false behind) (stack_layers d false more)))

  -- some behind others
  split : (front behind : List OpenWindow) → stack_layers d false (front ++ behind) ≡ stack_layers d false front ++ stack_layers d false behind
  split [] behind = refl
  split (o ∷ front) behind = split-by false o front behind (window_of d o.id) refl (split front behind)

  -- the front one over the others
  pub over-others : (is_active : Bool) (o : OpenWindow) (behind : List OpenWindow) (column row : ℕ) (under : Glyph)
      → cell_over (stack_layers d is_active (o ∷ behind)) column row under ≡ cell_over (stack_layers d is_active (o ∷ [])) column row (cell_over (stack_layers d false behind) column row under)
  over-others is_active o behind column row under =
      ap (λ layers. cell_over layers column row under) (split-by is_active o [] behind (window_of d o.id) refl refl)
      ∙ over-append (stack_layers d is_active (o ∷ [])) (stack_layers d false behind) column row under

  over-split : (front behind : List OpenWindow) (column row : ℕ) (under : Glyph)
      → cell_over (stack_layers d false (front ++ behind)) column row under ≡ cell_over (stack_layers d false front) column row (cell_over (stack_layers d false behind) column row under)
  over-split front behind column row under =
      ap (λ layers. cell_over layers column row under) (split front behind) ∙ over-append (stack_layers d false front) (stack_layers d false behind) column row under

module _ {V : Type 0} (look : V → Leaf) (d : Desc) (column row : ℕ) where
  -- ---- one window

  module _ (o : OpenWindow) (w : WindowOf V) (is : IsDeclared look d o w) where
    pub head : IsHead is.declared (head_of w)
    head = head_is is.declared (head_of w) is.of.head

    pub bounds-same : window_bounds w ≡ rect o.origin.x o.origin.y is.declared.node.w (window_head is.declared).h
    bounds-same =
        ap (λ kept. rect w.corner.x w.corner.y kept.w kept.h) head.is
        ∙ ap (λ corner. rect corner.x corner.y is.declared.node.w (window_head is.declared).h) is.corner

    alone : (is_active : Bool) → stack_layers d is_active (o ∷ []) ≡ window_layers d is_active o.origin o.sheet is.declared ++ []
    alone is_active = rw is.named refl

    pub alone-over : (is_active : Bool) (under : Glyph) → cell_over (stack_layers d is_active (o ∷ [])) column row under ≡ cell_over (window_layers d is_active o.origin o.sheet is.declared) column row under
    alone-over is_active under =
        ap (λ layers. cell_over layers column row under) (alone is_active) ∙ over-append (window_layers d is_active o.origin o.sheet is.declared) [] column row under

    -- off its bounds and its shadow
    open-off : (is_active : Bool) (under : Glyph) → has (with_shadow (window_bounds w)) (pos column) (pos row) ≡ false → cell_over (stack_layers d is_active (o ∷ [])) column row under ≡ under
    open-off is_active under off =
        alone-over is_active under
        ∙ window-off d is.declared o.origin column row o.sheet is.texts head.tall is_active (subst (λ r. has (with_shadow r) (pos column) (pos row) ≡ false) bounds-same off) under

    -- off its bounds
    passive-off : (is_active other : Bool) (under : Glyph) → has (window_bounds w ∷ []) (pos column) (pos row) ≡ false
        → cell_over (stack_layers d is_active (o ∷ [])) column row under ≡ cell_over (stack_layers d other (o ∷ [])) column row under
    passive-off is_active other under off =
        alone-over is_active under
        ∙ activity-off d is.declared o.origin column row o.sheet is.texts head.tall is_active other
        (λ i. false-true off (has-one (window_bounds w) (pos column) (pos row) (subst (λ r. IsIn r (pos column) (pos row)) (sym bounds-same) i))) under
        ∙ sym (alone-over other under)

  -- ---- all of them

  -- off the front one's bounds none is seen to be active
  pub front-off : (is_active other : Bool) (stack : List OpenWindow) (windows : List (WindowOf V)) (under : Glyph) → AreDeclared look d stack windows → has (front_rects windows) (pos column) (pos row) ≡ false
      → cell_over (stack_layers d is_active stack) column row under ≡ cell_over (stack_layers d other stack) column row under
  front-off is_active other [] windows under are off = refl
  front-off is_active other (o ∷ behind) [] under are off = absurd are
  front-off is_active other (o ∷ behind) (w ∷ windows) under are off =
      over-others d is_active o behind column row under
      ∙ passive-off o w are.0 is_active other (cell_over (stack_layers d false behind) column row under) off
      ∙ sym (over-others d other o behind column row under)

  -- off the rectangles of one of them they show the same without it
  without : (stack : List OpenWindow) (windows : List (WindowOf V)) (place : ℕ) (w : WindowOf V) (under : Glyph) → AreDeclared look d stack windows → slice_get windows place ≡ Some w
      → has (with_shadow (window_bounds w)) (pos column) (pos row) ≡ false
      → cell_over (stack_layers d false stack) column row under ≡ cell_over (stack_layers d false (remove stack place)) column row under
  without [] [] place w under are at off = absurd cc
  without [] (v ∷ windows) place w under are at off = absurd are
  without (o ∷ behind) [] place w under are at off = absurd are
  without (o ∷ behind) (v ∷ windows) zero w under are at off =
      let same : v ≡ w = cc in
      over-others d false o behind column row under
      ∙ open-off o v are.0 false (cell_over (stack_layers d false behind) column row under) (subst (λ u. has (with_shadow (window_bounds u)) (pos column) (pos row) ≡ false) (sym same) off)
  without (o ∷ behind) (v ∷ windows) (suc place) w under are at off =
      over-others d false o behind column row under
      ∙ ap (cell_over (stack_layers d false (o ∷ [])) column row) (without behind windows place w under are.1 at off)
      ∙ sym (over-others d false o (remove behind place) column row under)

  one-taken : (stack : List OpenWindow) (place : ℕ) (o : OpenWindow) → slice_get stack place ≡ Some o → take 1 (drop place stack) ≡ o ∷ []
  one-taken [] place o at = absurd cc
  one-taken (front ∷ behind) zero o at = let same : front ≡ o = cc in ap (λ v. v ∷ []) same
  one-taken (front ∷ behind) (suc place) o at = one-taken behind place o at

  -- one comes to the front
  pub raised-off : (is_active : Bool) (stack : List OpenWindow) (windows : List (WindowOf V)) (place : ℕ) (w : WindowOf V) (under : Glyph) → AreDeclared look d stack windows → place < length windows
      → slice_get windows place ≡ Some w → has (with_shadow (window_bounds w)) (pos column) (pos row) ≡ false → has (front_rects windows) (pos column) (pos row) ≡ false
      → cell_over (stack_layers d is_active stack) column row under ≡ cell_over (stack_layers d is_active (raised_at stack place)) column row under
  raised-off is_active stack windows place w under are within at off front =
      let there = got-within stack place (subst (λ n. place < n) (same-length look d stack windows are) within) in
      let is = one-declared look d stack windows place there.0 w are there.1 at in
      front-off is_active false stack windows under are front
      ∙ without stack windows place w under are at off
      ∙ sym (open-off there.0 w is is_active (cell_over (stack_layers d false (remove stack place)) column row under) off)
      ∙ sym (over-others d is_active there.0 (remove stack place) column row under)
      ∙ ap (λ one. cell_over (stack_layers d is_active (one ++ remove stack place)) column row under) (sym (one-taken stack place there.0 there.1))

  -- the front one goes
  pub closed-off : (is_active : Bool) (o : OpenWindow) (behind : List OpenWindow) (w : WindowOf V) (windows : List (WindowOf V)) (under : Glyph) → AreDeclared look d (o ∷ behind) (w ∷ windows)
      → has (with_shadow (window_bounds w)) (pos column) (pos row) ≡ false → has (front_rects windows) (pos column) (pos row) ≡ false
      → cell_over (stack_layers d is_active (o ∷ behind)) column row under ≡ cell_over (stack_layers d is_active behind) column row under
  closed-off is_active o behind w windows under are off front =
      over-others d is_active o behind column row under
      ∙ open-off o w are.0 is_active (cell_over (stack_layers d false behind) column row under) off
      ∙ front-off false is_active behind windows under are.1 front

  -- the front one moves
  pub dragged-off : (is_active : Bool) (o : OpenWindow) (behind : List OpenWindow) (w : WindowOf V) (corner : Point) (under : Glyph) → IsDeclared look d o w
      → has (with_shadow (window_bounds w)) (pos column) (pos row) ≡ false → has (with_shadow (window_bounds (moved_to corner w))) (pos column) (pos row) ≡ false
      → cell_over (stack_layers d is_active (o ∷ behind)) column row under ≡ cell_over (stack_layers d is_active (record o { origin = corner } ∷ behind)) column row under
  dragged-off is_active o behind w corner under is off there =
      let below = cell_over (stack_layers d false behind) column row under in
      over-others d is_active o behind column row under
      ∙ open-off o w is is_active below off
      ∙ sym (open-off (record o { origin = corner }) (moved_to corner w) (declared-moved look d o w is corner) is_active below there)
      ∙ sym (over-others d is_active (record o { origin = corner }) behind column row under)
