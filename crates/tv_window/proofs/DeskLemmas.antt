-- What the flat machine makes of its open windows, by the place of the one that is meant.
use Rattle.std.proofs.Common.{◌≡◌, ◌≢◌, ℕ, suc, ◌+◌, ◌<◌, Bool, true, false, ◌&&◌, ◌==◌, ◌-◌, nat_le, if◌then◌else◌, List, [], ◌∷◌, length, reverse, find, position, Option, Some, None, option_map, ℤ, pos, refl, sym, ap, ◌∙◌, subst, arith}
use Rattle.std.specs.List.{remove, slice_get, slice_index_or}
use Rattle.std.specs.Ordering.{int_eq}
use Rattle.std.proofs.lemmas.Option.{slice_get_read}
use Rattle.tv_cells.specs.Layers.{is_in}
use Rattle.tv_cells.specs.declared.rect.Point.{Point}
use Rattle.tv_group.specs.Stack.{raised_at}
use Rattle.tv_view.specs.Meaning.{Leaf}
use Rattle.tv_machine.specs.Screen.Bodies.{window_of}
use Rattle.tv_model.specs.declared.desc.Desc.{Desc}
use Rattle.tv_model.specs.declared.node.Id.{Id}
use Rattle.tv_machine.specs.Dialog.Mouse.{is_close_mark}
use Rattle.tv_machine.specs.Session.Commands.{close_front, do_command, last_first}
use Rattle.tv_machine.specs.Session.Desktop.{down_in_front, down_on_desktop, down_on_window, grab_window, is_numbered, is_under, raise, raise_found, seen_from, window_of_digit}
use Rattle.tv_machine.specs.Session.Dragging.{front_at, grabbed, is_grip}
use Rattle.tv_machine.specs.State.{OpenWindow, State}
use Rattle.std.proofs.lemmas.List.Kept.{AllPairs-cons}
use Rattle.tv_machine.proofs.ListLemmas.{bool_cases, id-itself, pairs-head, pairs-tail}
use Rattle.tv_window.specs.DeclaredWindows.{AreDeclared, IsDeclared}
use Rattle.tv_window.specs.Window.{head_of, window_bounds}
use Rattle.tv_window.specs.declared.window.WindowOf.{WindowOf}
use Rattle.tv_window.specs.Desk.{AreDistinct, IsDesk, down_on_desk, front_id, front_moved, hit_on, with_close_line}
use Rattle.tv_window.specs.declared.desk.DeskOf.{DeskOf}
use Rattle.tv_window.specs.declared.desk.Hit.{Hit}
use Rattle.tv_window.specs.declared.desk.Hit.TheVariants as hits
use Rattle.tv_window.proofs.DeclaredLemmas.{declared-moved, declared-raised, id-same, number-same, one-declared, point-same, position-same, same-length, width-same}
use Rattle.tv_window.proofs.OrderLemmas.{apart-at, front-only, last-raised, raised-at}
use Rattle.tv_window.proofs.PlaceLemmas.{IsFoundAt, found-at, not-found}

-- what a mouse down on the front window does, by what it hits
abbrev pub done_by : Desc → Point → State → Hit → State
done_by d p s hits.CloseMark = do_command d 4 s
done_by d p s (hits.Grip corner) = grabbed corner p s
done_by d p s hits.Done = s

-- the place of a digit's number
pub digit-placed : {V : Type 0} (windows : List (WindowOf V)) (letter : ℕ) (number : ℤ) (place : Option ℕ) → place ≡ position (λ w. int_eq (head_of w).number number) windows → number ≡ pos (letter - 48)
    → (nat_le 49 letter && nat_le letter 57) ≡ true → place ≡ (if nat_le 49 letter && nat_le letter 57 then position (λ w. int_eq (head_of w).number (pos (letter - 48))) windows else None)
digit-placed windows letter number place is same digit =
    is
    ∙ (ap (λ n. position (λ w. int_eq (head_of w).number n) windows) same
    ∙ sym (ap (λ b. if b then position (λ w. int_eq (head_of w).number (pos (letter - 48))) windows else None) digit))

module _ {V : Type 0} (look : V → Leaf) (d : Desc) where
  abbrev shown : DeskOf V → List (WindowOf V)
  shown desk = desk.windows.items.items

  -- as many windows as are open
  pub count-same : (stack : List OpenWindow) (desk : DeskOf V) → IsDesk look d stack desk → length (shown desk) ≡ length stack
  count-same stack desk is = same-length look d stack (shown desk) is.windows

  -- the same windows
  kept-desk : (stack : List OpenWindow) (desk after : DeskOf V) → after ≡ desk → IsDesk look d stack desk → IsDesk look d stack after
  kept-desk stack desk after same is = subst (IsDesk look d stack) (sym same) is

  -- one of them comes to the front
  raised-desk : (stack : List OpenWindow) (desk after : DeskOf V) (place : ℕ) → place < length stack → shown after ≡ raised_at (shown desk) place → IsDesk look d stack desk → IsDesk look d (raised_at stack place) after
  raised-desk stack desk after place within items is = record {
    windows = subst (AreDeclared look d (raised_at stack place)) (sym items) (declared-raised look d stack (shown desk) place is.windows);
    apart = apart-at stack place within is.apart;
  }

  -- ---- a digit

  module _ (s : State) (desk after : DeskOf V) (is : IsDesk look d s.windows desk) (seen : List (WindowOf V)) (all : seen ≡ shown desk) (letter : ℕ) where
    abbrev numbered : OpenWindow → Bool
    numbered o = is_numbered (letter - 48) (window_of d o.id)

    abbrev has_number : WindowOf V → Bool
    has_number w = int_eq (head_of w).number (pos (letter - 48))

    abbrev is_digit : Bool
    is_digit = nat_le 49 letter && nat_le letter 57

    numbered-same : position has_number seen ≡ position numbered s.windows
    numbered-same =
        ap (position has_number) all ∙ position-same look d numbered has_number (λ o w declared. number-same look d o w declared (letter - 48)) s.windows (shown desk) is.windows

    pub digit-raised : (place : ℕ) → (if is_digit then position has_number seen else None) ≡ Some place → shown after ≡ raised_at (shown desk) place
        → IsDesk look d (raise_found (window_of_digit d s letter) s).windows after
    digit-raised place e items =
        bool_cases is_digit
        (λ b. (if b then position has_number seen else None) ≡ Some place → IsDesk look d (raise_found (if b then find numbered s.windows else None) s).windows after)
        (λ digit f.
        let there = found-at numbered s.windows place (sym numbered-same ∙ f) in
        subst (λ o. IsDesk look d (raise_found o s).windows after) (sym there.found)
        (subst (λ stack. IsDesk look d stack after) (sym (raised-at s.windows place there.item is.apart there.at)) (raised-desk s.windows desk after place there.within items is)))
        (λ other f. absurd cc) e

    pub digit-kept : (if is_digit then position has_number seen else None) ≡ None → after ≡ desk → IsDesk look d (raise_found (window_of_digit d s letter) s).windows after
    digit-kept e same =
        bool_cases is_digit
        (λ b. (if b then position has_number seen else None) ≡ None → IsDesk look d (raise_found (if b then find numbered s.windows else None) s).windows after)
        (λ digit f. subst (λ o. IsDesk look d (raise_found o s).windows after) (sym (not-found numbered s.windows (sym numbered-same ∙ f))) (kept-desk s.windows desk after same is))
        (λ other f. kept-desk s.windows desk after same is) e

  -- ---- a mouse down

  -- the run with these windows, and with nothing else changed
  abbrev Comes : State → DeskOf V → State → Type 0
  Comes s after t = IsDesk look d t.windows after × (t ≡ record s { windows = t.windows })

  module _ (s : State) (desk after : DeskOf V) (is : IsDesk look d s.windows desk) (seen : List (WindowOf V)) (all : seen ≡ shown desk) (p : Point) where
    abbrev under : WindowOf V → Bool
    under w = is_in (window_bounds w) p.x p.y

    under-same : position under seen ≡ position (is_under d p) s.windows
    under-same = ap (position under) all ∙ position-same look d (is_under d p) under (λ o w declared. point-same look d o w declared p) s.windows (shown desk) is.windows

    in-front : (o : OpenWindow) → slice_get s.windows 0 ≡ Some o → down_on_window d s.windows o p s ≡ down_in_front d o p s
    in-front o at = by_windows s.windows at
      where
        by_windows : (stack : List OpenWindow) → slice_get stack 0 ≡ Some o → down_on_window d stack o p s ≡ down_in_front d o p s
        by_windows [] e = absurd cc
        by_windows (front ∷ behind) e =
            let same : front ≡ o = cc in
            ap (λ b. if b then down_in_front d o p s else raise o.id s) (ap (λ w. w.id.0 == o.id.0) same ∙ id-itself o.id)

    further-back : (o : OpenWindow) (place : ℕ) → slice_get s.windows (suc place) ≡ Some o → down_on_window d s.windows o p s ≡ raise o.id s
    further-back o place at = by_windows s.windows is.apart at
      where
        by_windows : (stack : List OpenWindow) → AreDistinct stack → slice_get stack (suc place) ≡ Some o → down_on_window d stack o p s ≡ raise o.id s
        by_windows [] apart e = absurd cc
        by_windows (front ∷ behind) apart e = ap (λ b. if b then down_in_front d o p s else raise o.id s) (front-only front behind place o apart e)

    module _ (place : ℕ) (e : position under seen ≡ Some place) where
      there : IsFoundAt (is_under d p) s.windows place
      there = found-at (is_under d p) s.windows place (sym under-same ∙ e)

      -- behind the front window
      pub down-behind : 0 < place → shown after ≡ raised_at (shown desk) place → Comes s after (down_on_desk d p s)
      down-behind behind items =
          let next : place ≡ suc (place - 1) = omega (arith, behind) in
          let raises : down_on_desk d p s ≡ record s { windows = raised_at s.windows place } =
          ap (λ o. down_on_desktop d o p s) there.found
          ∙ (further-back there.item (place - 1) (ap (slice_get s.windows) (sym next) ∙ there.at)
          ∙ ap (λ stack. record s { windows = stack }) (raised-at s.windows place there.item is.apart there.at)) in
          subst (Comes s after) (sym raises) (raised-desk s.windows desk after place there.within items is, refl)

      module _ (first : place ≡ 0) (w : WindowOf V) (read : w ≡ slice_index_or (shown desk) place w) where
        at : slice_get (shown desk) place ≡ Some w
        at = slice_get_read (shown desk) (length (shown desk)) place w refl (subst (λ ws. place < length ws) all (found-at under seen place e).within) read

        is_declared : IsDeclared look d there.item w
        is_declared = one-declared look d s.windows (shown desk) place there.item w is.windows there.at at

        abbrev on_mark : Bool
        on_mark = is_close_mark (seen_from w.corner p)

        abbrev on_grip : Bool
        on_grip = is_grip (head_of w).w (seen_from w.corner p)

        grabs : grab_window (window_of d there.item.id) there.item p s ≡ (if on_grip then grabbed w.corner p s else s)
        grabs =
            ap (λ window. grab_window window there.item p s) is_declared.named
            ∙ (ap (λ width. if is_grip width (seen_from there.item.origin p) then grabbed there.item.origin p s else s) (sym (width-same look d there.item w is_declared))
            ∙ ap (λ corner. if is_grip (head_of w).w (seen_from corner p) then grabbed corner p s else s) (sym is_declared.corner))

        tests : down_on_desk d p s ≡ (if on_mark then do_command d 4 s else if on_grip then grabbed w.corner p s else s)
        tests =
            ap (λ o. down_on_desktop d o p s) there.found
            ∙ (in-front there.item (ap (slice_get s.windows) (sym first) ∙ there.at)
            ∙ (ap (λ corner. if is_close_mark (seen_from corner p) then do_command d 4 s else grab_window (window_of d there.item.id) there.item p s) (sym is_declared.corner)
            ∙ ap (λ held. if on_mark then do_command d 4 s else held) grabs))

        hit_told : (mark grip : Bool) → (if mark then do_command d 4 s else if grip then grabbed w.corner p s else s) ≡ done_by d p s (if mark then hits.CloseMark else if grip then hits.Grip w.corner else hits.Done)
        hit_told true grip = refl
        hit_told false true = refl
        hit_told false false = refl

        -- in front
        pub down-hit : (hit : Hit) → hit ≡ hit_on w p → down_on_desk d p s ≡ done_by d p s hit
        down-hit hit e = tests ∙ (hit_told on_mark on_grip ∙ ap (done_by d p s) (sym e))

        -- elsewhere on it
        pub down-beside : (hit : Hit) → hit ≡ hit_on w p → hit ≡ hits.Done → after ≡ desk → Comes s after (down_on_desk d p s)
        down-beside hit e done same = subst (Comes s after) (sym (down-hit hit e ∙ ap (done_by d p s) done)) (kept-desk s.windows desk after same is, refl)

    -- on none
    pub down-kept : position under seen ≡ None → after ≡ desk → Comes s after (down_on_desk d p s)
    down-kept e same =
        subst (λ o. Comes s after (down_on_desktop d o p s)) (sym (not-found (is_under d p) s.windows (sym under-same ∙ e))) (kept-desk s.windows desk after same is, refl)

  -- ---- the last comes to the front, and the first closes

  pub next-desk : (stack : List OpenWindow) (desk after : DeskOf V) (place : ℕ) → place + 1 ≡ length (shown desk) → shown after ≡ raised_at (shown desk) place → IsDesk look d stack desk
      → IsDesk look d (last_first (reverse stack)) after
  next-desk stack desk after place last items is =
      let count : place + 1 ≡ length stack = last ∙ count-same stack desk is in
      subst (λ ws. IsDesk look d ws after) (sym (last-raised stack place count)) (raised-desk stack desk after place (omega (arith, count)) items is)

  pub next-empty : (stack : List OpenWindow) (desk after : DeskOf V) → length (shown desk) ≡ 0 → after ≡ desk → IsDesk look d stack desk → IsDesk look d (last_first (reverse stack)) after
  next-empty [] desk after none same is = kept-desk [] desk after same is
  next-empty (o ∷ stack) desk after none same is = absurd (omega (arith, none, count-same (o ∷ stack) desk is))

  pub closed-desk : (s : State) (desk after : DeskOf V) → IsDesk look d s.windows desk → shown after ≡ remove (shown desk) 0 → IsDesk look d (close_front s.windows s).windows after
  closed-desk s desk after is items = by_windows s.windows (shown desk) refl is.windows is.apart items
    where
      by_windows : (stack : List OpenWindow) (windows : List (WindowOf V)) → s.windows ≡ stack → AreDeclared look d stack windows → AreDistinct stack → shown after ≡ remove windows 0 → IsDesk look d (close_front stack s).windows after
      by_windows [] [] all are apart e = record {
        windows = subst (λ ws. AreDeclared look d ws (shown after)) (sym all) (subst (AreDeclared look d []) (sym e) tt);
        apart = is.apart;
      }
      by_windows [] (w ∷ windows) all are apart e = absurd are
      by_windows (o ∷ stack) [] all are apart e = absurd are
      by_windows (o ∷ stack) (w ∷ windows) all are apart e = record {
        windows = subst (AreDeclared look d stack) (sym e) are.1;
        apart = pairs-tail (λ v other. v.id.0 ≢ other.id.0) o stack apart;
      }

  pub one-closed : (s : State) (desk : DeskOf V) → IsDesk look d s.windows desk → (w : WindowOf V) (i : Id) → slice_get (shown desk) 0 ≡ Some w → i ≡ (head_of w).id
      → close_front s.windows s ≡ with_close_line (Some i) (record s { windows = (close_front s.windows s).windows })
  one-closed s desk is w i front kept = by_windows s.windows (shown desk) is.windows front
    where
      by_windows : (stack : List OpenWindow) (windows : List (WindowOf V)) → AreDeclared look d stack windows → slice_get windows 0 ≡ Some w
          → close_front stack s ≡ with_close_line (Some i) (record s { windows = (close_front stack s).windows })
      by_windows [] [] are e = absurd cc
      by_windows [] (v ∷ windows) are e = absurd are
      by_windows (o ∷ stack) [] are e = absurd are
      by_windows (o ∷ stack) (v ∷ windows) are e =
          let same : v ≡ w = cc in
          let named : i ≡ o.id = kept ∙ (ap (λ u. (head_of u).id) (sym same) ∙ id-same look d o v are.0) in
          subst (λ j. close_front (o ∷ stack) s ≡ with_close_line (Some j) (record s { windows = stack })) (sym named) refl

  -- ---- the front one moves

  moved-declared : (corner : Point) (stack : List OpenWindow) (windows : List (WindowOf V)) → AreDeclared look d stack windows → AreDeclared look d (front_at corner stack) (front_moved corner windows)
  moved-declared corner [] [] are = tt
  moved-declared corner [] (w ∷ windows) are = absurd are
  moved-declared corner (o ∷ behind) [] are = absurd are
  moved-declared corner (o ∷ behind) (w ∷ windows) are = (declared-moved look d o w are.0 corner, are.1)

  moved-apart : (corner : Point) (stack : List OpenWindow) → AreDistinct stack → AreDistinct (front_at corner stack)
  moved-apart corner [] apart = apart
  moved-apart corner (o ∷ behind) apart =
      let Differ : OpenWindow → OpenWindow → Type 0 = λ v other. v.id.0 ≢ other.id.0 in
      AllPairs-cons Differ (record o { origin = corner }) behind (pairs-head Differ o behind apart) (pairs-tail Differ o behind apart)

  pub moved-desk : (corner : Point) (stack : List OpenWindow) (desk after : DeskOf V) → IsDesk look d stack desk → shown after ≡ front_moved corner (shown desk) → IsDesk look d (front_at corner stack) after
  moved-desk corner stack desk after is items = record {
    windows = subst (AreDeclared look d (front_at corner stack)) (sym items) (moved-declared corner stack (shown desk) is.windows);
    apart = moved-apart corner stack is.apart;
  }

  pub front-told : (stack : List OpenWindow) (windows : List (WindowOf V)) → AreDeclared look d stack windows → option_map (λ w. (head_of w).id) (slice_get windows 0) ≡ front_id stack
  front-told [] [] are = refl
  front-told [] (w ∷ windows) are = absurd are
  front-told (o ∷ stack) [] are = absurd are
  front-told (o ∷ stack) (w ∷ windows) are = ap (λ i. Some i) (id-same look d o w are.0)
