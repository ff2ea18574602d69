-- Windows in one of which a sheet is laid: they are still those of the state, and show the same off its bounds.
use Rattle.std.proofs.Common.{◌≡◌, ◌≢◌, ◌≤◌, ℕ, zero, suc, pos, ◌==◌, Bool, true, false, if◌then◌else◌, List, [], ◌∷◌, map, find, position, slice_index_or, slice_set, Option, Some, None, All, AllPairs, refl, sym, ap, subst, ◌∙◌}
use Rattle.std.specs.List.{slice_get}
use Rattle.std.proofs.lemmas.Bool.{eqb-true}
use Rattle.std.proofs.lemmas.List.Elements.{All-head, All-map, All-nil, All-tail, All-weaker}
use Rattle.std.proofs.lemmas.List.Kept.{AllPairs-cons}
use Rattle.std.proofs.lemmas.Option.{slice_get_read, slice_get_within}
use Rattle.tv_cells.specs.Damage.{Grows, GrowsIn, HasAll, has}
use Rattle.tv_cells.specs.Glyph.{Glyph}
use Rattle.tv_cells.specs.Layers.{cell_over}
use Rattle.tv_cells.specs.Picture.{Picture}
use Rattle.tv_cells.specs.Rectangle.{IsIn}
use Rattle.tv_cells.specs.declared.rect.Rect.{Rect}
use Rattle.tv_cells.proofs.AddedLemmas.{adds-one, false-true, lacks}
use Rattle.tv_cells.proofs.DamageLemmas.{has-one}
use Rattle.tv_model.specs.declared.desc.Desc.{Desc}
use Rattle.tv_model.specs.declared.node.Id.{Id}
use Rattle.tv_machine.specs.Screen.Layers.{stack_layers}
use Rattle.tv_machine.specs.Session.Laid.{laid_in_window}
use Rattle.tv_machine.specs.State.{OpenWindow}
use Rattle.tv_machine.proofs.ListLemmas.{bool_cases, found-passes, pairs-head, pairs-tail}
use Rattle.tv_view.specs.Meaning.{Leaf}
use Rattle.tv_window.specs.Damage.{AreStacksAlike, laid_rects, windows_of}
use Rattle.tv_window.specs.DeclaredWindows.{AreDeclared, IsDeclared}
use Rattle.tv_window.specs.Desk.{AreDistinct, IsDesk}
use Rattle.tv_window.specs.Window.{head_of, laid_to, window_bounds}
use Rattle.tv_window.specs.declared.desk.DeskOf.{DeskOf}
use Rattle.tv_window.specs.declared.window.WindowOf.{WindowOf}
use Rattle.tv_window.proofs.DeclaredLemmas.{declared-laid, id-same, same-length}
use Rattle.tv_window.proofs.OffLemmas.{sheet-off}
use Rattle.tv_window.proofs.OrderLemmas.{front-only}
use Rattle.tv_window.proofs.PlaceLemmas.{IsFoundAt, found-at, got-within, not-found}
use Rattle.tv_window.proofs.RaisedLemmas.{alone-over, bounds-same, head, over-others}

abbrev Differ : OpenWindow → OpenWindow → Type 0
Differ w other = w.id.0 ≢ other.id.0

module _ (i : Id) (sheet : Option Picture) where
  abbrev laid_one : OpenWindow → OpenWindow
  laid_one = laid_in_window i sheet

  laid-id : (w : OpenWindow) → (laid_one w).id ≡ w.id
  laid-id w = bool_cases (w.id.0 == i.0) (λ b. (if b then record w { sheet = sheet } else w).id ≡ w.id) (λ is. refl) (λ other. refl)

  -- a window of another id stays as it is
  laid-other : (w : OpenWindow) → (w.id.0 == i.0) ≡ false → laid_one w ≡ w
  laid-other w other = ap (λ b. if b then record w { sheet = sheet } else w) other

  laid-same : (w : OpenWindow) → (w.id.0 == i.0) ≡ true → laid_one w ≡ record w { sheet = sheet }
  laid-same w same = ap (λ b. if b then record w { sheet = sheet } else w) same

  -- so do all behind the one of the id
  others-same : (o : OpenWindow) (behind : List OpenWindow) → (o.id.0 == i.0) ≡ true → All (Differ o) behind → map laid_one behind ≡ behind
  others-same o [] same apart = refl
  others-same o (w ∷ behind) same apart =
      let other : (w.id.0 == i.0) ≡ false =
      bool_cases (w.id.0 == i.0) (λ b. b ≡ false) (λ is. absurd (All-head (Differ o) w behind apart (eqb-true o.id.0 i.0 same ∙ sym (eqb-true w.id.0 i.0 is)))) (λ no. refl) in
      ap (λ x. x ∷ map laid_one behind) (laid-other w other) ∙ ap (λ xs. w ∷ xs) (others-same o behind same (All-tail (Differ o) w behind apart))

  -- no two are one
  distinct-laid : (stack : List OpenWindow) → AreDistinct stack → AreDistinct (map laid_one stack)
  distinct-laid [] apart = apart
  distinct-laid (o ∷ behind) apart =
      AllPairs-cons Differ (laid_one o) (map laid_one behind)
      (All-map (Differ (laid_one o)) laid_one behind
      (All-weaker (Differ o) (λ w. Differ (laid_one o) (laid_one w))
      (λ w differ e. differ (sym (ap (λ (k : Id). k.0) (laid-id o)) ∙ e ∙ ap (λ (k : Id). k.0) (laid-id w))) behind (pairs-head Differ o behind apart)))
      (distinct-laid behind (pairs-tail Differ o behind apart))

  module _ {V : Type 0} where
    abbrev has_id : WindowOf V → Bool
    has_id w = (head_of w).id.0 == i.0

    -- the window that is found
    module _ (desk : DeskOf V) (seen : List (WindowOf V)) (all : seen ≡ windows_of desk) (place : ℕ) (e : position has_id seen ≡ Some place) (w default : WindowOf V)
        (read : w ≡ slice_index_or (windows_of desk) place default) where
      there : IsFoundAt has_id (windows_of desk) place
      there = found-at has_id (windows_of desk) place (ap (position has_id) (sym all) ∙ e)

      found-same : there.item ≡ w
      found-same = got-same (windows_of desk) place there.item there.at read
        where
          got-same : (xs : List (WindowOf V)) (n : ℕ) (x : WindowOf V) → slice_get xs n ≡ Some x → w ≡ slice_index_or xs n default → x ≡ w
          got-same [] n x at is = absurd cc
          got-same (y ∷ xs) zero x at is = let same : y ≡ x = cc in sym same ∙ sym is
          got-same (y ∷ xs) (suc n) x at is = got-same xs n x at is

      is-there : slice_get (windows_of desk) place ≡ Some w
      is-there = there.at ∙ ap (λ x. Some x) found-same

      has-it : has_id w ≡ true
      has-it = ap has_id (sym found-same) ∙ found-passes has_id (windows_of desk) there.item there.found

      laid-rects-of : find has_id (windows_of desk) ≡ Some there.item → window_bounds there.item ∷ [] ≡ laid_rects (windows_of desk) i
      laid-rects-of found = rw found refl

      pub laid-within : (old new : List Rect) → HasAll (window_bounds w) new → Grows (window_bounds w) old new → GrowsIn (laid_rects (windows_of desk) i) old new
      laid-within old new all_in grown =
          subst (λ rects. GrowsIn rects old new) (ap (λ v. window_bounds v ∷ []) (sym found-same) ∙ laid-rects-of there.found) (adds-one (window_bounds w) old new all_in grown).grown

  module _ {V : Type 0} (look : V → Leaf) (d : Desc) where
    -- one before the one of the id has another id
    before-differs : (o : OpenWindow) (behind : List OpenWindow) (windows : List (WindowOf V)) (place : ℕ) (w : WindowOf V) → AreDeclared look d behind windows → AreDistinct (o ∷ behind)
        → slice_get windows place ≡ Some w → ((head_of w).id.0 == i.0) ≡ true → (o.id.0 == i.0) ≡ false
    before-differs o behind windows place w are apart at has =
        let got = got-within behind place (subst (λ n. suc place ≤ n) (same-length look d behind windows are) (slice_get_within windows place w at)) in
        let same : got.0.id ≡ (head_of w).id = declared-id behind windows place got.0 are got.1 at in
        let is : got.0.id.0 ≡ i.0 = ap (λ (k : Id). k.0) same ∙ eqb-true (head_of w).id.0 i.0 has in
        ap (λ n. o.id.0 == n) (sym is) ∙ front-only o behind place got.0 apart got.1
      where
        declared-id : (stack : List OpenWindow) (ws : List (WindowOf V)) (n : ℕ) (x : OpenWindow) → AreDeclared look d stack ws → slice_get stack n ≡ Some x → slice_get ws n ≡ Some w → x.id ≡ (head_of w).id
        declared-id [] ws n x are left right = absurd cc
        declared-id (y ∷ stack) [] n x are left right = absurd are
        declared-id (y ∷ stack) (v ∷ ws) zero x are left right =
            let one : y ≡ x = cc in
            let two : v ≡ w = cc in
            sym (ap (λ z. z.id) one) ∙ sym (id-same look d y v are.0) ∙ ap (λ z. (head_of z).id) two
        declared-id (y ∷ stack) (v ∷ ws) (suc n) x are left right = declared-id stack ws n x are.1 left right

    -- they are those of the state
    laid-declared : (stack : List OpenWindow) (windows : List (WindowOf V)) (place : ℕ) (w : WindowOf V) → AreDeclared look d stack windows → AreDistinct stack
        → slice_get windows place ≡ Some w → ((head_of w).id.0 == i.0) ≡ true → AreDeclared look d (map laid_one stack) (slice_set windows place (laid_to sheet w))
    laid-declared [] [] place w are apart at has = absurd cc
    laid-declared [] (v ∷ windows) place w are apart at has = absurd are
    laid-declared (o ∷ behind) [] place w are apart at has = absurd are
    laid-declared (o ∷ behind) (v ∷ windows) zero w are apart at has =
        let same : v ≡ w = cc in
        let one : IsDeclared look d o w = subst (IsDeclared look d o) same are.0 in
        let here : (o.id.0 == i.0) ≡ true = ap (λ (k : Id). k.0 == i.0) (sym (id-same look d o w one)) ∙ has in (
          subst (λ x. IsDeclared look d x (laid_to sheet w)) (sym (laid-same o here)) (declared-laid look d o w one sheet),
          subst (λ xs. AreDeclared look d xs windows) (sym (others-same o behind here (pairs-head Differ o behind apart))) are.1,
        )
    laid-declared (o ∷ behind) (v ∷ windows) (suc place) w are apart at has = (
      subst (λ x. IsDeclared look d x v) (sym (laid-other o (before-differs o behind windows place w are.1 apart at has))) are.0,
      laid-declared behind windows place w are.1 (pairs-tail Differ o behind apart) at has,
    )

    -- ---- what they show

    module _ (column row : ℕ) where
      laid-here : (is_active : Bool) (o : OpenWindow) (w : WindowOf V) (under : Glyph) → IsDeclared look d o w → has (window_bounds w ∷ []) (pos column) (pos row) ≡ false
          → cell_over (stack_layers d is_active (o ∷ [])) column row under ≡ cell_over (stack_layers d is_active (record o { sheet = sheet } ∷ [])) column row under
      unfolding declared-laid
      laid-here is_active o w under is off =
          alone-over look d column row o w is is_active under
          ∙ sheet-off d is.declared o.origin column row o.sheet sheet is.texts (head look d column row o w is).tall is_active
          (λ p. false-true off (has-one (window_bounds w) (pos column) (pos row) (subst (λ r. IsIn r (pos column) (pos row)) (sym (bounds-same look d column row o w is)) p))) under
          ∙ sym (alone-over look d column row (record o { sheet = sheet }) (laid_to sheet w) (declared-laid look d o w is sheet) is_active under)

      laid-off : (is_active : Bool) (stack : List OpenWindow) (windows : List (WindowOf V)) (place : ℕ) (w : WindowOf V) (under : Glyph) → AreDeclared look d stack windows → AreDistinct stack
          → slice_get windows place ≡ Some w → ((head_of w).id.0 == i.0) ≡ true → has (window_bounds w ∷ []) (pos column) (pos row) ≡ false
          → cell_over (stack_layers d is_active stack) column row under ≡ cell_over (stack_layers d is_active (map laid_one stack)) column row under
      laid-off is_active [] [] place w under are apart at has_id off = absurd cc
      laid-off is_active [] (v ∷ windows) place w under are apart at has_id off = absurd are
      laid-off is_active (o ∷ behind) [] place w under are apart at has_id off = absurd are
      laid-off is_active (o ∷ behind) (v ∷ windows) zero w under are apart at has_id off =
          let same : v ≡ w = cc in
          let one : IsDeclared look d o w = subst (IsDeclared look d o) same are.0 in
          let here : (o.id.0 == i.0) ≡ true = ap (λ (k : Id). k.0 == i.0) (sym (id-same look d o w one)) ∙ has_id in
          over-others d is_active o behind column row under
          ∙ laid-here is_active o w (cell_over (stack_layers d false behind) column row under) one off
          ∙ sym (over-others d is_active (record o { sheet = sheet }) behind column row under)
          ∙ ap (λ xs. cell_over (stack_layers d is_active xs) column row under)
          (ap (λ x. x ∷ behind) (sym (laid-same o here)) ∙ ap (λ xs. laid_one o ∷ xs) (sym (others-same o behind here (pairs-head Differ o behind apart))))
      laid-off is_active (o ∷ behind) (v ∷ windows) (suc place) w under are apart at has_id off =
          over-others d is_active o behind column row under
          ∙ ap (cell_over (stack_layers d is_active (o ∷ [])) column row) (laid-off false behind windows place w under are.1 (pairs-tail Differ o behind apart) at has_id off)
          ∙ sym (over-others d is_active o (map laid_one behind) column row under)
          ∙ ap (λ x. cell_over (stack_layers d is_active (x ∷ map laid_one behind)) column row under) (sym (laid-other o (before-differs o behind windows place w are.1 apart at has_id)))

    -- ---- a desk

    module _ (desk after : DeskOf V) (seen : List (WindowOf V)) (all : seen ≡ windows_of desk) where
      module _ (place : ℕ) (e : position has_id seen ≡ Some place) (w default : WindowOf V) (read : w ≡ slice_index_or (windows_of desk) place default) where
        abbrev at_place : slice_get (windows_of desk) place ≡ Some w
        at_place = is-there desk seen all place e w default read

        abbrev with_id : has_id w ≡ true
        with_id = has-it desk seen all place e w default read

        pub laid-desk : (stack : List OpenWindow) → IsDesk look d stack desk → windows_of after ≡ slice_set (windows_of desk) place (laid_to sheet w) → IsDesk look d (map laid_one stack) after
        laid-desk stack is written = record {
          windows = subst (AreDeclared look d (map laid_one stack)) (sym written) (laid-declared stack (windows_of desk) place w is.windows is.apart at_place with_id);
          apart = distinct-laid stack is.apart;
        }

        pub laid-alike : (stack : List OpenWindow) (damage : List Rect) → IsDesk look d stack desk → HasAll (window_bounds w) damage → AreStacksAlike d damage stack (map laid_one stack)
        laid-alike stack damage is all_in p is_active = record {
          each = λ column row on off under.
              laid-off column row is_active stack (windows_of desk) place w under is.windows is.apart at_place with_id
              (lacks (window_bounds w ∷ []) damage (pos column) (pos row) (λ h. (adds-one (window_bounds w) damage damage all_in (record { kept = λ x y g. g; within = λ r h k. h })).added (pos column) (pos row) h) off);
        }

      -- none has the id
      module _ (e : position has_id seen ≡ None) where
        pub unlaid : (stack : List OpenWindow) → IsDesk look d stack desk → map laid_one stack ≡ stack
        unlaid stack is = by_windows stack (windows_of desk) is.windows (not-found has_id (windows_of desk) (ap (position has_id) (sym all) ∙ e))
          where
            by_windows : (xs : List OpenWindow) (ws : List (WindowOf V)) → AreDeclared look d xs ws → find has_id ws ≡ None → map laid_one xs ≡ xs
            by_windows [] ws are none = refl
            by_windows (o ∷ xs) [] are none = absurd are
            by_windows (o ∷ xs) (v ∷ ws) are none =
                bool_cases (has_id v) (λ b. has_id v ≡ b → (if b then Some v else find has_id ws) ≡ None → map laid_one (o ∷ xs) ≡ o ∷ xs)
                (λ is has f. absurd cc)
                (λ is lacks_it f.
                let other : (o.id.0 == i.0) ≡ false = ap (λ (k : Id). k.0 == i.0) (sym (id-same look d o v are.0)) ∙ lacks_it in
                ap (λ x. x ∷ map laid_one xs) (laid-other o other) ∙ ap (λ ys. o ∷ ys) (by_windows xs ws are.1 f)) refl none
