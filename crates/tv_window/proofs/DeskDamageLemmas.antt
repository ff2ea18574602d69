-- Off the damage the open windows show the same after they have moved.
use Rattle.std.proofs.Common.{◌≡◌, ℕ, ℤ, slice_index_or, slice_set, zero, suc, ◌+◌, ◌-◌, ◌<◌, pos, if◌then◌else◌, true, false, List, [], ◌∷◌, ◌++◌, length, Option, Some, None, refl, sym, ap, ◌∙◌, subst, arith}
use Rattle.std.specs.List.{remove, slice_get}
use Rattle.tv_cells.specs.Damage.{AddsAll, Grows, GrowsIn, HasAll, has, with_shadow}
use Rattle.tv_cells.specs.Layers.{cell_over}
use Rattle.tv_cells.specs.Picture.{Picture}
use Rattle.tv_cells.specs.Repainting.{AreAlike}
use Rattle.tv_cells.specs.declared.rect.Rect.{Rect}
use Rattle.tv_group.specs.Stack.{raised_at}
use Rattle.tv_view.specs.Meaning.{Leaf}
use Rattle.tv_model.specs.declared.desc.Desc.{Desc}
use Rattle.tv_model.specs.declared.node.Id.{Id}
use Rattle.tv_cells.specs.declared.rect.Point.{Point}
use Rattle.tv_machine.specs.Screen.Layers.{stack_layers}
use Rattle.tv_machine.specs.Session.Commands.{close_front}
use Rattle.tv_machine.specs.Session.Dragging.{front_at, is_same_point}
use Rattle.tv_machine.specs.State.{OpenWindow, State}
use Rattle.tv_machine.proofs.ListLemmas.{bool_cases}
use Rattle.tv_window.specs.Damage.{AreStacksAlike, closed_rects, dragged_front_rects, dragged_rects, front_rects, moved_rects, raised_rects, windows_of}
use Rattle.tv_window.specs.DeclaredWindows.{AreDeclared, IsDeclared}
use Rattle.tv_window.specs.Desk.{IsDesk, front_moved}
use Rattle.tv_window.specs.Window.{moved_to, window_bounds}
use Rattle.tv_window.specs.declared.desk.DeskOf.{DeskOf}
use Rattle.tv_window.specs.declared.window.WindowOf.{WindowOf}
use Rattle.tv_cells.proofs.AddedLemmas.{adds-none, adds-one, adds-then, lacks}
use Rattle.tv_cells.proofs.DamageLemmas.{has-left, has-right}
use Rattle.tv_window.proofs.DeclaredLemmas.{declared-raised, id-same}
use Rattle.tv_window.proofs.PointLemmas.{point-is}
use Rattle.tv_window.proofs.RaisedLemmas.{closed-off, dragged-off, front-off, raised-off}

-- ---- one window

module _ {V : Type 0} (window : WindowOf V) (corner : Point) where
  abbrev where_it_stood : List Rect
  where_it_stood = with_shadow (window_bounds window)

  abbrev where_it_stands : List Rect
  where_it_stands = with_shadow (window_bounds (moved_to corner window))

  pub dragged-added : (before after : Rect) (old mid new : List Rect) → is_same_point window.corner corner ≡ false → before ≡ window_bounds window → after ≡ window_bounds (moved_to corner window)
      → AddsAll (with_shadow before) old mid → AddsAll (with_shadow after) mid new → AddsAll (dragged_rects window corner) old new
  dragged-added before after old mid new apart stood stands first second =
      subst (λ is_same. AddsAll (if is_same then [] else where_it_stood ++ where_it_stands) old new) (sym apart)
      (adds-then where_it_stood where_it_stands old mid new (subst (λ r. AddsAll (with_shadow r) old mid) stood first) (subst (λ r. AddsAll (with_shadow r) mid new) stands second))

-- ---- the front window

module _ {V : Type 0} where
  front-at : (windows : List (WindowOf V)) (w : WindowOf V) → slice_get windows 0 ≡ Some w → window_bounds w ∷ [] ≡ front_rects windows
  front-at [] w at = absurd cc
  front-at (front ∷ behind) w at = let same : w ≡ front = cc in ap (λ v. window_bounds v ∷ []) same

  front-none : (windows : List (WindowOf V)) → slice_get windows 0 ≡ None → [] ≡ front_rects windows
  front-none [] at = refl
  front-none (front ∷ behind) at = absurd cc

  pub front-added : (windows seen : List (WindowOf V)) (w : WindowOf V) (bounds : Rect) (old new : List Rect) → seen ≡ windows → Some w ≡ slice_get seen 0 → bounds ≡ window_bounds w
      → HasAll bounds new → Grows bounds old new → AddsAll (front_rects windows) old new
  front-added windows seen w bounds old new all at is has_all grown =
      subst (λ rects. AddsAll rects old new) (ap (λ r. r ∷ []) is ∙ front-at windows w (ap (λ ws. slice_get ws 0) (sym all) ∙ sym at)) (adds-one bounds old new has_all grown)

  pub none-added : (windows seen : List (WindowOf V)) (damage : List Rect) → seen ≡ windows → None ≡ slice_get seen 0 → AddsAll (front_rects windows) damage damage
  none-added windows seen damage all at = subst (λ rects. AddsAll rects damage damage) (front-none windows (ap (λ ws. slice_get ws 0) (sym all) ∙ sym at)) (adds-none damage)

  -- ---- what came in

  -- the front one in place of another
  pub front-set : (windows : List (WindowOf V)) (w d moved : WindowOf V) (corner : Point) → 0 < length windows → w ≡ slice_index_or windows 0 d → moved ≡ moved_to corner w
      → slice_set windows 0 moved ≡ front_moved corner windows
  front-set [] w d moved corner some at is = absurd (omega (arith, some))
  front-set (front ∷ behind) w d moved corner some at is = ap (λ v. v ∷ behind) (is ∙ ap (moved_to corner) at)

  pub front-dragged : (windows : List (WindowOf V)) (w d : WindowOf V) (corner : Point) (old new : List Rect) → 0 < length windows → w ≡ slice_index_or windows 0 d
      → AddsAll (dragged_rects w corner) old new → AddsAll (dragged_front_rects windows corner) old new
  front-dragged [] w d corner old new some at adds = absurd (omega (arith, some))
  front-dragged (front ∷ behind) w d corner old new some at adds = subst (λ v. AddsAll (dragged_rects v corner) old new) at adds

  raised-is : (windows : List (WindowOf V)) (place : ℕ) (w : WindowOf V) → 0 < place → slice_get windows place ≡ Some w → with_shadow (window_bounds w) ++ front_rects windows ≡ raised_rects windows place
  raised-is windows zero w behind at = absurd (omega (arith, behind))
  raised-is windows (suc place) w behind at = rw at refl

  -- one of the windows with its shadow, and the front one
  pub raised-within : (windows : List (WindowOf V)) (place : ℕ) (w : WindowOf V) (bounds : Rect) (old mid new : List Rect) → 0 < place → slice_get windows place ≡ Some w → bounds ≡ window_bounds w
      → AddsAll (with_shadow bounds) old mid → AddsAll (front_rects windows) mid new → GrowsIn (raised_rects windows place) old new
  raised-within windows place w bounds old mid new behind at is first second =
      subst (λ rects. GrowsIn rects old new) (ap (λ r. with_shadow r ++ front_rects windows) is ∙ raised-is windows place w behind at)
      (adds-then (with_shadow bounds) (front_rects windows) old mid new first second).grown

  -- the place may not be known
  pub moved-within : (windows : List (WindowOf V)) (found : Option ℕ) (place : ℕ) (old new : List Rect) → found ≡ Some place → GrowsIn (raised_rects windows place) old new → GrowsIn (moved_rects windows found) old new
  moved-within windows found place old new is grown = rw is grown

  -- the last one
  pub last-within : (windows : List (WindowOf V)) (last : ℕ) (old new : List Rect) → last + 1 ≡ length windows → GrowsIn (raised_rects windows last) old new → GrowsIn (raised_rects windows (length windows - 1)) old new
  last-within windows last old new is grown = let same : last ≡ length windows - 1 = omega (arith, is) in subst (λ place. GrowsIn (raised_rects windows place) old new) same grown

  -- the front one with its shadow, and the one that is in front then
  closed-is : (windows behind : List (WindowOf V)) (w : WindowOf V) → slice_get windows 0 ≡ Some w → behind ≡ remove windows 0 → with_shadow (window_bounds w) ++ front_rects behind ≡ closed_rects windows
  closed-is [] behind w at rest = absurd cc
  closed-is (front ∷ others) behind w at rest =
      let same : w ≡ front = cc in
      ap (λ v. with_shadow (window_bounds v) ++ front_rects behind) same ∙ ap (λ ws. with_shadow (window_bounds front) ++ front_rects ws) rest

  pub closed-within : (windows behind : List (WindowOf V)) (w : WindowOf V) (bounds : Rect) (old mid new : List Rect) → slice_get windows 0 ≡ Some w → behind ≡ remove windows 0 → bounds ≡ window_bounds w
      → AddsAll (with_shadow bounds) old mid → AddsAll (front_rects behind) mid new → GrowsIn (closed_rects windows) old new
  closed-within windows behind w bounds old mid new at rest is first second =
      subst (λ rects. GrowsIn rects old new) (ap (λ r. with_shadow r ++ front_rects behind) is ∙ closed-is windows behind w at rest)
      (adds-then (with_shadow bounds) (front_rects behind) old mid new first second).grown

module _ {V : Type 0} (look : V → Leaf) (d : Desc) where
  -- ---- what is drawn alike

  pub front-alike : (stack : List OpenWindow) (desk : DeskOf V) (p : Picture) (old new : List Rect) → IsDesk look d stack desk → AddsAll (front_rects (windows_of desk)) old new
      → AreAlike p new (stack_layers d true stack) (stack_layers d false stack)
  front-alike stack desk p old new is adds = record {
    each = λ column row on off under.
        front-off look d column row true false stack (windows_of desk) under is.windows (lacks (front_rects (windows_of desk)) new (pos column) (pos row) (adds.added (pos column) (pos row)) off);
  }

  pub raised-alike : (stack : List OpenWindow) (desk : DeskOf V) (place : ℕ) (w : WindowOf V) (bounds : Rect) (old mid new : List Rect) → IsDesk look d stack desk → place < length (windows_of desk)
      → slice_get (windows_of desk) place ≡ Some w → bounds ≡ window_bounds w → AddsAll (with_shadow bounds) old mid → AddsAll (front_rects (windows_of desk)) mid new
      → AreStacksAlike d new stack (raised_at stack place)
  raised-alike stack desk place w bounds old mid new is within at same first second = λ p is_active. record {
    each = λ column row on off under.
        raised-off look d column row is_active stack (windows_of desk) place w under is.windows within at
        (lacks (with_shadow (window_bounds w)) new (pos column) (pos row)
        (λ e. second.grown.kept (pos column) (pos row) (first.added (pos column) (pos row) (subst (λ r. has (with_shadow r) (pos column) (pos row) ≡ true) (sym same) e))) off)
        (lacks (front_rects (windows_of desk)) new (pos column) (pos row) (second.added (pos column) (pos row)) off);
  }

  pub closed-alike : (s : State) (desk : DeskOf V) (behind : List (WindowOf V)) (w : WindowOf V) (bounds : Rect) (old mid new : List Rect) → IsDesk look d s.windows desk
      → slice_get (windows_of desk) 0 ≡ Some w → behind ≡ remove (windows_of desk) 0 → bounds ≡ window_bounds w
      → AddsAll (with_shadow bounds) old mid → AddsAll (front_rects behind) mid new → AreStacksAlike d new s.windows (close_front s.windows s).windows
  closed-alike s desk behind w bounds old mid new is at rest same first second = by_windows s.windows (windows_of desk) is.windows at rest
    where
      by_windows : (stack : List OpenWindow) (windows : List (WindowOf V)) → AreDeclared look d stack windows → slice_get windows 0 ≡ Some w → behind ≡ remove windows 0
          → AreStacksAlike d new stack (close_front stack s).windows
      by_windows [] [] are f e = absurd cc
      by_windows [] (v ∷ windows) are f e = absurd are
      by_windows (o ∷ stack) [] are f e = absurd are
      by_windows (o ∷ stack) (v ∷ windows) are f e = λ p is_active. record {
        each = λ column row on off under.
            let here : v ≡ w = cc in
            closed-off look d column row is_active o stack v windows under are
            (lacks (with_shadow (window_bounds v)) new (pos column) (pos row)
            (λ t. second.grown.kept (pos column) (pos row) (first.added (pos column) (pos row)
            (subst (λ r. has (with_shadow r) (pos column) (pos row) ≡ true) (ap (λ u. window_bounds u) here ∙ sym same) t))) off)
            (lacks (front_rects windows) new (pos column) (pos row) (λ t. second.added (pos column) (pos row) (subst (λ ws. has (front_rects ws) (pos column) (pos row) ≡ true) (sym e) t)) off);
      }

  -- the front one moves
  one-dragged : (corner : Point) (o : OpenWindow) (behind : List OpenWindow) (w : WindowOf V) (new : List Rect) → IsDeclared look d o w
      → ((x y : ℤ) → has (dragged_rects w corner) x y ≡ true → has new x y ≡ true) → AreStacksAlike d new (o ∷ behind) (record o { origin = corner } ∷ behind)
  one-dragged corner o behind w new is added =
      bool_cases (is_same_point w.corner corner)
      (λ same. ((x y : ℤ) → has (if same then [] else old ++ there) x y ≡ true → has new x y ≡ true) → AreStacksAlike d new (o ∷ behind) (record o { origin = corner } ∷ behind))
      (λ same told p is_active. record {
        each = λ column row on off under.
            ap (λ origin. cell_over (stack_layers d is_active (record o { origin = origin } ∷ behind)) column row under) (sym is.corner ∙ point-is w.corner corner same);
      })
      (λ apart told p is_active. record {
        each = λ column row on off under.
            dragged-off look d column row is_active o behind w corner under is
            (lacks old new (pos column) (pos row) (λ e. told (pos column) (pos row) (has-left old there (pos column) (pos row) e)) off)
            (lacks there new (pos column) (pos row) (λ e. told (pos column) (pos row) (has-right old there (pos column) (pos row) e)) off);
      })
      added
    where
      old : List Rect
      old = with_shadow (window_bounds w)

      there : List Rect
      there = with_shadow (window_bounds (moved_to corner w))

  pub dragged-alike : (corner : Point) (stack : List OpenWindow) (windows : List (WindowOf V)) (before new : List Rect) → AreDeclared look d stack windows
      → AddsAll (dragged_front_rects windows corner) before new → AreStacksAlike d new stack (front_at corner stack)
  dragged-alike corner [] windows before new are adds = λ p is_active. record { each = λ column row on off under. refl }
  dragged-alike corner (o ∷ behind) [] before new are adds = absurd are
  dragged-alike corner (o ∷ behind) (w ∷ windows) before new are adds = one-dragged corner o behind w new are.0 adds.added

  -- ---- one list of open windows

  open-is : (i j : Id) (p q : Point) (s t : Option Picture) → i ≡ j → p ≡ q → s ≡ t → ◌≡◌ {A = OpenWindow} record { id = i; origin = p; sheet = s } record { id = j; origin = q; sheet = t }
  open-is i j p q s t e f g = cc

  -- windows are those of one list alone
  unique : (xs ys : List OpenWindow) (windows : List (WindowOf V)) → AreDeclared look d xs windows → AreDeclared look d ys windows → xs ≡ ys
  unique [] [] windows are also = refl
  unique [] (o ∷ ys) [] are also = absurd also
  unique [] (o ∷ ys) (w ∷ windows) are also = absurd are
  unique (o ∷ xs) ys [] are also = absurd are
  unique (o ∷ xs) [] (w ∷ windows) are also = absurd also
  unique (o ∷ xs) (v ∷ ys) (w ∷ windows) are also =
      let id : o.id ≡ v.id = sym (id-same look d o w are.0) ∙ id-same look d v w also.0 in
      let corner : o.origin ≡ v.origin = sym are.0.corner ∙ also.0.corner in
      let sheet : o.sheet ≡ v.sheet = sym are.0.sheet ∙ also.0.sheet in
      ap (λ one. one ∷ xs) (open-is o.id v.id o.origin v.origin o.sheet v.sheet id corner sheet) ∙ ap (λ others. v ∷ others) (unique xs ys windows are.1 also.1)

  -- none has moved
  pub still-alike : (stack moved : List OpenWindow) (desk after : DeskOf V) (damage : List Rect) → after ≡ desk → IsDesk look d stack desk → IsDesk look d moved after → AreStacksAlike d damage stack moved
  still-alike stack moved desk after damage same is also = λ p is_active. record {
    each = λ column row on off under.
        ap (λ windows. cell_over (stack_layers d is_active windows) column row under)
        (unique stack moved (windows_of desk) is.windows (subst (λ k. AreDeclared look d moved (windows_of k)) same also.windows));
  }

  -- they have moved as the flat machine moves them
  pub moved-alike : (stack moved : List OpenWindow) (desk after : DeskOf V) (place : ℕ) (damage : List Rect) → windows_of after ≡ raised_at (windows_of desk) place → IsDesk look d stack desk → IsDesk look d moved after
      → AreStacksAlike d damage stack (raised_at stack place) → AreStacksAlike d damage stack moved
  moved-alike stack moved desk after place damage items is also alike =
      subst (AreStacksAlike d damage stack)
      (unique (raised_at stack place) moved (windows_of after) (subst (AreDeclared look d (raised_at stack place)) (sym items) (declared-raised look d stack (windows_of desk) place is.windows)) also.windows) alike
