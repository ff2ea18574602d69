-- Open windows one for one: they stay so in another order, and are found alike.
use Rattle.std.proofs.Common.{◌≡◌, IsTrue, ℕ, zero, suc, ℤ, pos, ◌+◌, ◌+ℤ◌, ◌-ℤ◌, Bool, cond, not, nat_lt, List, [], ◌∷◌, ◌++◌, length, take, drop, reverse, position, Option, Some, None, refl, sym, ap, ◌∙◌, subst, arith}
use Rattle.std.specs.Int.Signed.{le_z, lt_z}
use Rattle.std.specs.List.{position_or_len, remove, slice_get}
use Rattle.std.specs.Ordering.{int_eq}
use Rattle.std.proofs.lemmas.Bool.{false≢true}
use Rattle.std.proofs.lemmas.Grind.{reverse_onto}
use Rattle.std.proofs.lemmas.Int.{ints}
use Rattle.tv_cells.specs.Layers.{is_in}
use Rattle.tv_cells.specs.Picture.{Picture}
use Rattle.tv_cells.specs.declared.rect.Point.{Point}
use Rattle.tv_group.specs.Stack.{raised_at}
use Rattle.tv_view.specs.Meaning.{Leaf}
use Rattle.tv_model.specs.Description.Heads.{window_head}
use Rattle.tv_model.specs.Description.Nodes.{has_id, is_window}
use Rattle.tv_model.specs.Description.Rectangles.{rect}
use Rattle.tv_machine.specs.Screen.Bodies.{window_of}
use Rattle.tv_model.specs.declared.desc.Desc.{Desc}
use Rattle.tv_model.specs.declared.desc.Window.{Window}
use Rattle.tv_model.specs.declared.kind.Kind.{Kind}
use Rattle.tv_model.specs.declared.kind.Kind.TheVariants as kinds
use Rattle.tv_model.proofs.HeadLemmas.{window_head_of-Window}
use Rattle.tv_machine.specs.Session.Desktop.{has_point, is_numbered, is_under, seen_from}
use Rattle.tv_machine.specs.State.{OpenWindow}
use Rattle.tv_machine.proofs.ListLemmas.{found-passes, same-id}
use Rattle.tv_window.specs.DeclaredWindows.{AreDeclared, IsDeclared}
use Rattle.tv_window.specs.Head.{KeptWindowHead, declared_window_head, kept_window_head}
use Rattle.tv_window.specs.Window.{head_of, laid_to, moved_to, window_bounds}
use Rattle.tv_window.specs.declared.window.WindowOf.{WindowOf}

-- ---- what a window keeps of its node

head-is : (window : Window) (head : KeptWindowHead) → Some head ≡ declared_window_head window.node → head ≡ kept_window_head window.node (window_head window)
head-is window head same = by_kind window.node.kind window.own_kind refl
  where
    by_kind : (k : Kind) → IsTrue (is_window k) → window.node.kind ≡ k → head ≡ kept_window_head window.node (window_head window)
    by_kind (kinds.Window own) is e =
        let told : Some head ≡ Some (kept_window_head window.node own) = rw e at same in
        let kept : head ≡ kept_window_head window.node own = cc in
        kept ∙ ap (kept_window_head window.node) (sym (window_head_of-Window window.node.kind window.own_kind own e))
    by_kind _ is e = absurd (false≢true is)

-- ---- a point seen from a corner

le-seen : (a b : ℤ) → le_z a b ≡ le_z (pos 0) (b -ℤ a)
le-seen a b = grind (arith, ints)

lt-seen : (a b w : ℤ) → lt_z b (a +ℤ w) ≡ lt_z (b -ℤ a) (pos 0 +ℤ w)
lt-seen a b w = grind (arith, ints)

in-seen : (x y w h : ℤ) (p : Point) → is_in (rect x y w h) p.x p.y ≡ is_in (rect (pos 0) (pos 0) w h) (p.x -ℤ x) (p.y -ℤ y)
in-seen x y w h p = rw (le-seen x p.x, lt-seen x p.x w, le-seen y p.y, lt-seen y p.y h) refl

module _ {V : Type 0} (look : V → Leaf) (d : Desc) where
  -- ---- one window

  module _ (o : OpenWindow) (w : WindowOf V) (is : IsDeclared look d o w) where
    kept : head_of w ≡ kept_window_head is.declared.node (window_head is.declared)
    kept = head-is is.declared (head_of w) is.of.head

    pub id-same : (head_of w).id ≡ o.id
    id-same = ap (λ head. head.id) kept ∙ same-id is.declared.node.id o.id (found-passes (λ window. has_id o.id window.node) d.windows is.declared is.named)

    pub width-same : (head_of w).w ≡ is.declared.node.w
    width-same = ap (λ head. head.w) kept

    pub number-same : (number : ℕ) → int_eq (head_of w).number (pos number) ≡ is_numbered number (window_of d o.id)
    number-same number = ap (λ head. int_eq head.number (pos number)) kept ∙ sym (ap (is_numbered number) is.named)

    pub point-same : (p : Point) → is_in (window_bounds w) p.x p.y ≡ is_under d p o
    point-same p =
        ap (λ head. is_in (rect w.corner.x w.corner.y head.w head.h) p.x p.y) kept
        ∙ (in-seen w.corner.x w.corner.y is.declared.node.w (window_head is.declared).h p
        ∙ (ap (λ corner. has_point (Some is.declared) (seen_from corner p)) is.corner ∙ sym (ap (λ window. has_point window (seen_from o.origin p)) is.named)))

    -- where it moves, it is the same window
    pub declared-moved : (corner : Point) → IsDeclared look d (record o { origin = corner }) (moved_to corner w)
    declared-moved corner = record {
      declared = is.declared;
      named = is.named;
      corner = refl;
      sheet = is.sheet;
      of = record { head = is.of.head; body = is.of.body };
      limited = is.limited;
      texts = is.texts;
    }

    -- with another sheet it is as well
    unfoldable pub declared-laid : (sheet : Option Picture) → IsDeclared look d (record o { sheet = sheet }) (laid_to sheet w)
    declared-laid sheet = record {
      declared = is.declared;
      named = is.named;
      corner = is.corner;
      sheet = refl;
      of = record { head = is.of.head; body = is.of.body };
      limited = is.limited;
      texts = is.texts;
    }

  -- ---- in another order

  pub same-length : (stack : List OpenWindow) (windows : List (WindowOf V)) → AreDeclared look d stack windows → length windows ≡ length stack
  same-length [] [] are = refl
  same-length [] (w ∷ windows) are = absurd are
  same-length (o ∷ stack) [] are = absurd are
  same-length (o ∷ stack) (w ∷ windows) are = ap (λ n. suc n) (same-length stack windows are.1)

  declared-append : (stack other : List OpenWindow) (windows more : List (WindowOf V)) → AreDeclared look d stack windows → AreDeclared look d other more → AreDeclared look d (stack ++ other) (windows ++ more)
  declared-append [] other [] more are rest = rest
  declared-append [] other (w ∷ windows) more are rest = absurd are
  declared-append (o ∷ stack) other [] more are rest = absurd are
  declared-append (o ∷ stack) other (w ∷ windows) more are rest = (are.0, declared-append stack other windows more are.1 rest)

  declared-take : (n : ℕ) (stack : List OpenWindow) (windows : List (WindowOf V)) → AreDeclared look d stack windows → AreDeclared look d (take n stack) (take n windows)
  declared-take zero stack windows are = tt
  declared-take (suc n) [] [] are = tt
  declared-take (suc n) [] (w ∷ windows) are = absurd are
  declared-take (suc n) (o ∷ stack) [] are = absurd are
  declared-take (suc n) (o ∷ stack) (w ∷ windows) are = (are.0, declared-take n stack windows are.1)

  declared-drop : (n : ℕ) (stack : List OpenWindow) (windows : List (WindowOf V)) → AreDeclared look d stack windows → AreDeclared look d (drop n stack) (drop n windows)
  declared-drop zero stack windows are = are
  declared-drop (suc n) [] [] are = tt
  declared-drop (suc n) [] (w ∷ windows) are = absurd are
  declared-drop (suc n) (o ∷ stack) [] are = absurd are
  declared-drop (suc n) (o ∷ stack) (w ∷ windows) are = declared-drop n stack windows are.1

  pub declared-raised : (stack : List OpenWindow) (windows : List (WindowOf V)) (place : ℕ) → AreDeclared look d stack windows → AreDeclared look d (raised_at stack place) (raised_at windows place)
  declared-raised stack windows place are =
      declared-append (take 1 (drop place stack)) (remove stack place) (take 1 (drop place windows)) (remove windows place)
      (declared-take 1 (drop place stack) (drop place windows) (declared-drop place stack windows are))
      (declared-append (take place stack) (drop (suc place) stack) (take place windows) (drop (suc place) windows) (declared-take place stack windows are) (declared-drop (suc place) stack windows are))

  pub declared-reverse : (stack : List OpenWindow) (windows : List (WindowOf V)) → AreDeclared look d stack windows → AreDeclared look d (reverse stack) (reverse windows)
  declared-reverse [] [] are = tt
  declared-reverse [] (w ∷ windows) are = absurd are
  declared-reverse (o ∷ stack) [] are = absurd are
  declared-reverse (o ∷ stack) (w ∷ windows) are =
      subst (λ ws. AreDeclared look d (reverse (o ∷ stack)) ws) (sym (reverse_onto windows w []))
      (subst (λ os. AreDeclared look d os (reverse windows ++ w ∷ [])) (sym (reverse_onto stack o []))
      (declared-append (reverse stack) (o ∷ []) (reverse windows) (w ∷ []) (declared-reverse stack windows are.1) (are.0, tt)))

  -- ---- found alike

  module _ (p : OpenWindow → Bool) (q : WindowOf V → Bool) (alike : (o : OpenWindow) (w : WindowOf V) → IsDeclared look d o w → q w ≡ p o) where
    first-same : (stack : List OpenWindow) (windows : List (WindowOf V)) → AreDeclared look d stack windows → position_or_len q windows ≡ position_or_len p stack
    first-same [] [] are = refl
    first-same [] (w ∷ windows) are = absurd are
    first-same (o ∷ stack) [] are = absurd are
    first-same (o ∷ stack) (w ∷ windows) are =
        ap (λ b. cond (not b) (1 + position_or_len q windows) 0) (alike o w are.0) ∙ ap (λ n. cond (not (p o)) (1 + n) 0) (first-same stack windows are.1)

    pub position-same : (stack : List OpenWindow) (windows : List (WindowOf V)) → AreDeclared look d stack windows → position q windows ≡ position p stack
    position-same stack windows are =
        ap (λ n. cond (nat_lt n (length windows)) (Some n) None) (first-same stack windows are)
        ∙ ap (λ n. cond (nat_lt (position_or_len p stack) n) (Some (position_or_len p stack)) None) (same-length stack windows are)

  pub one-declared : (stack : List OpenWindow) (windows : List (WindowOf V)) (place : ℕ) (o : OpenWindow) (w : WindowOf V) → AreDeclared look d stack windows
      → slice_get stack place ≡ Some o → slice_get windows place ≡ Some w → IsDeclared look d o w
  one-declared [] windows place o w are left right = absurd cc
  one-declared (o' ∷ stack) [] place o w are left right = absurd are
  one-declared (o' ∷ stack) (w' ∷ windows) zero o w are left right =
      let open_same : o' ≡ o = cc in
      let window_same : w' ≡ w = cc in
      subst (λ v. IsDeclared look d o v) window_same (subst (λ v. IsDeclared look d v w') open_same are.0)
  one-declared (o' ∷ stack) (w' ∷ windows) (suc place) o w are left right = one-declared stack windows place o w are.1 left right
