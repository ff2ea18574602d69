-- Whether a window takes an event, and where the one of an id stands, by the place of the one that is meant.
use Rattle.std.proofs.Common.{◌≡◌, ℕ, zero, suc, pos, subst, length, ◌-◌, ◌<◌, ◌≤◌, nat_le, nat_lt, Bool, true, false, not, ◌&&◌, ◌||◌, ◌==◌, if◌then◌else◌, List, [], ◌∷◌, find, position, is_some, Option, Some, None, option_map, refl, sym, ap, ◌∙◌, arith}
use Rattle.std.specs.List.{slice_get, slice_index_or}
use Rattle.std.proofs.lemmas.Bool.Decides.{nat_tests}
use Rattle.std.proofs.lemmas.Option.{slice_get_read}
use Rattle.std.specs.Option.{option_and_then}
use Rattle.std.specs.Ordering.{int_eq}
use Rattle.tv_cells.specs.Layers.{is_in}
use Rattle.tv_cells.specs.declared.rect.Point.{Point}
use Rattle.tv_model.specs.declared.desc.Desc.{Desc}
use Rattle.tv_model.specs.declared.desc.Window.{Window}
use Rattle.tv_model.specs.declared.node.Id.{Id}
use Rattle.tv_model.specs.Description.Heads.{window_head}
use Rattle.tv_model.specs.Description.Rectangles.{rect}
use Rattle.tv_machine.specs.Dialog.Mouse.{is_close_mark}
use Rattle.tv_machine.specs.Screen.Bodies.{window_of}
use Rattle.tv_machine.specs.Session.Desktop.{is_numbered, is_under, seen_from, window_of_digit, window_under}
use Rattle.tv_machine.specs.Session.Dragging.{is_grip}
use Rattle.tv_machine.specs.Session.Left.{is_gripped, is_on_top, is_window_down}
use Rattle.tv_machine.specs.State.{OpenWindow, State}
use Rattle.tv_machine.proofs.ListLemmas.{bool_cases, id-itself, option_cases}
use Rattle.tv_view.specs.Meaning.{Leaf}
use Rattle.tv_window.specs.DeclaredWindows.{AreDeclared, IsDeclared}
use Rattle.tv_window.specs.Desk.{AreDistinct, IsDesk, bounds_in, hit_on, is_hit, open_bounds}
use Rattle.tv_window.specs.Window.{head_of, window_bounds}
use Rattle.tv_window.specs.declared.desk.DeskOf.{DeskOf}
use Rattle.tv_window.specs.declared.desk.Hit.TheVariants as hits
use Rattle.tv_window.specs.declared.window.WindowOf.{WindowOf}
use Rattle.tv_window.proofs.DeclaredLemmas.{id-same, number-same, one-declared, point-same, position-same, width-same}
use Rattle.tv_window.proofs.OrderLemmas.{front-only}
use Rattle.tv_window.proofs.PlaceLemmas.{IsFoundAt, found-at, not-found}
use Rattle.tv_window.proofs.RaisedLemmas.{bounds-same}

-- what is found has a place
found-some : {A : Type 0} (p : A → Bool) (xs : List A) → is_some (position p xs) ≡ is_some (find p xs)
found-some p xs =
    option_cases (position p xs) (λ o. position p xs ≡ o → is_some o ≡ is_some (find p xs))
    (λ none e. sym (ap is_some (not-found p xs e))) (λ place some e. sym (ap is_some (found-at p xs place e).found)) refl

pub ahead : (place : ℕ) → 0 < place → nat_lt 0 place ≡ true
ahead place less = grind (arith, nat_tests)

pub at-front : (place : ℕ) → place ≤ 0 → place ≡ 0
at-front place least = omega (arith, least)

hit-told : {V : Type 0} (w : WindowOf V) (p : Point) (mark grip : Bool)
    → is_hit (if mark then hits.CloseMark else if grip then hits.Grip w.corner else hits.Done) ≡ (mark || grip)
hit-told w p true grip = refl
hit-told w p false true = refl
hit-told w p false false = refl

module _ {V : Type 0} (look : V → Leaf) (d : Desc) (s : State) (desk : DeskOf V) (is : IsDesk look d s.windows desk) (seen : List (WindowOf V)) (all : seen ≡ desk.windows.items.items) where
  -- ---- a digit

  module _ (letter : ℕ) where
    abbrev is_digit : Bool
    is_digit = nat_le 49 letter && nat_le letter 57

    abbrev has_number : WindowOf V → Bool
    has_number w = int_eq (head_of w).number (pos (letter - 48))

    abbrev numbered : OpenWindow → Bool
    numbered o = is_numbered (letter - 48) (window_of d o.id)

    pub digit-taken : is_some (if is_digit then position has_number seen else None) ≡ is_some (window_of_digit d s letter)
    digit-taken =
        bool_cases is_digit (λ b. is_some (if b then position has_number seen else None) ≡ is_some (if b then find numbered s.windows else None))
        (λ digit.
        ap (λ ws. is_some (position has_number ws)) all
        ∙ ap is_some (position-same look d numbered has_number (λ o w declared. number-same look d o w declared (letter - 48)) s.windows desk.windows.items.items is.windows)
        ∙ found-some numbered s.windows)
        (λ other. refl)

  -- ---- a mouse down

  module _ (p : Point) where
    abbrev under : WindowOf V → Bool
    under w = is_in (window_bounds w) p.x p.y

    under-same : position under seen ≡ position (is_under d p) s.windows
    under-same =
        ap (position under) all
        ∙ position-same look d (is_under d p) under (λ o w declared. point-same look d o w declared p) s.windows desk.windows.items.items is.windows

    pub none-taken : position under seen ≡ None → is_window_down d s.windows (window_under d s p) p ≡ false
    none-taken e = ap (λ o. is_window_down d s.windows o p) (not-found (is_under d p) s.windows (sym under-same ∙ e))

    module _ (place : ℕ) (e : position under seen ≡ Some place) where
      there : IsFoundAt (is_under d p) s.windows place
      there = found-at (is_under d p) s.windows place (sym under-same ∙ e)

      pub behind-taken : 0 < place → is_window_down d s.windows (window_under d s p) p ≡ true
      behind-taken behind = ap (λ o. is_window_down d s.windows o p) there.found ∙ by_windows s.windows is.apart place there.at behind
        where
          by_windows : (stack : List OpenWindow) → AreDistinct stack → (n : ℕ) → slice_get stack n ≡ Some there.item → 0 < n → is_window_down d stack (Some there.item) p ≡ true
          by_windows [] apart n at less = absurd cc
          by_windows (front ∷ others) apart zero at less = absurd (omega (arith, less))
          by_windows (front ∷ others) apart (suc n) at less =
              ap (λ b. not b || is_on_top (window_of d there.item.id) (seen_from there.item.origin p)) (front-only front others n there.item apart at)

      module _ (first : place ≡ 0) (w : WindowOf V) (read : w ≡ slice_index_or desk.windows.items.items place w) where
        at : slice_get desk.windows.items.items place ≡ Some w
        at = slice_get_read desk.windows.items.items (length desk.windows.items.items) place w refl (subst (λ ws. place < length ws) all (found-at under seen place e).within) read

        is_declared : IsDeclared look d there.item w
        is_declared = one-declared look d s.windows desk.windows.items.items place there.item w is.windows there.at at

        on-top : is_on_top (window_of d there.item.id) (seen_from there.item.origin p) ≡ (is_close_mark (seen_from w.corner p) || is_grip (head_of w).w (seen_from w.corner p))
        on-top =
            ap (λ window. is_on_top window (seen_from there.item.origin p)) is_declared.named
            ∙ ap (λ width. is_close_mark (seen_from there.item.origin p) || is_grip width (seen_from there.item.origin p)) (sym (width-same look d there.item w is_declared))
            ∙ ap (λ corner. is_close_mark (seen_from corner p) || is_grip (head_of w).w (seen_from corner p)) (sym is_declared.corner)

        pub front-taken : is_window_down d s.windows (window_under d s p) p ≡ is_hit (hit_on w p)
        front-taken =
            ap (λ o. is_window_down d s.windows o p) there.found ∙ by_windows s.windows (ap (slice_get s.windows) (sym first) ∙ there.at) ∙ on-top
            ∙ sym (hit-told w p (is_close_mark (seen_from w.corner p)) (is_grip (head_of w).w (seen_from w.corner p)))
          where
            by_windows : (stack : List OpenWindow) → slice_get stack 0 ≡ Some there.item
                → is_window_down d stack (Some there.item) p ≡ is_on_top (window_of d there.item.id) (seen_from there.item.origin p)
            by_windows [] f = absurd cc
            by_windows (front ∷ others) f =
                let same : front ≡ there.item = cc in
                ap (λ b. not b || is_on_top (window_of d there.item.id) (seen_from there.item.origin p)) (ap (λ o. o.id.0 == there.item.id.0) same ∙ id-itself there.item.id)

-- ---- an id

module _ {V : Type 0} (look : V → Leaf) (d : Desc) (stack : List OpenWindow) (desk : DeskOf V) (is : IsDesk look d stack desk) (seen : List (WindowOf V)) (all : seen ≡ desk.windows.items.items) (i : Id) where
  abbrev has_id : WindowOf V → Bool
  has_id w = (head_of w).id.0 == i.0

  abbrev opened_as : OpenWindow → Bool
  opened_as o = o.id.0 == i.0

  id-of-same : position has_id seen ≡ position opened_as stack
  id-of-same =
      ap (position has_id) all
      ∙ position-same look d opened_as has_id (λ o w declared. ap (λ (k : Id). k.0 == i.0) (id-same look d o w declared)) stack desk.windows.items.items is.windows

  pub no-bounds : position has_id seen ≡ None → bounds_in d i stack ≡ None
  no-bounds e = ap (option_and_then (open_bounds d)) (not-found opened_as stack (sym id-of-same ∙ e))

  pub bounds-of : (place : ℕ) → position has_id seen ≡ Some place → (w : WindowOf V) → w ≡ slice_index_or desk.windows.items.items place w → Some (window_bounds w) ≡ bounds_in d i stack
  bounds-of place e w read =
      let found = found-at opened_as stack place (sym id-of-same ∙ e) in
      let here = slice_get_read desk.windows.items.items (length desk.windows.items.items) place w refl (subst (λ ws. place < length ws) all (found-at has_id seen place e).within) read in
      let one : IsDeclared look d found.item w = one-declared look d stack desk.windows.items.items place found.item w is.windows found.at here in
      ap (λ r. Some r) (bounds-same look d 0 0 found.item w one)
      ∙ sym (ap (option_map (λ (window : Window). rect found.item.origin.x found.item.origin.y window.node.w (window_head window).h)) one.named)
      ∙ sym (ap (option_and_then (open_bounds d)) found.found)
