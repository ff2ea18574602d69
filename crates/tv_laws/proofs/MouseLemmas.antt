-- The mouse: a leaf that comes to hold it, one that holds it, and its release.
use Rattle.std.proofs.Common.{◌≡◌, ◌⊎◌, inl, inr, Bool, true, ◌&&◌, ◌==◌, ◌<◌, ℕ, if◌then◌else◌, List, [], ◌∷◌, length, reverse, Option, Some, None, refl, sym, ap, subst, ◌∙◌, All, IsTrue, arith}
use Rattle.std.specs.Prelude.{ℤ, pos, negsuc, ◌+ℤ◌, ◌≤ℤ◌, ◌<ℤ◌, int_le, int_lt}
use Rattle.std.specs.Int.{int_gap}
use Rattle.std.proofs.lemmas.Bool.{false≢true, and_parts}
use Rattle.std.proofs.lemmas.Grind.{reverse_onto}
use Rattle.std.proofs.lemmas.Int.{ints}
use Rattle.std.proofs.lemmas.List.Elements.{All-head, All-push, All-tail}
use Rattle.tv_cells.specs.declared.rect.Point.{Point}
use Rattle.tv_valid.proofs.DecidingLemmas.{int_le_decides, int_lt_decides}
use Rattle.tv_model.specs.declared.node.Id.{Id}
use Rattle.tv_model.specs.declared.kind.Kind.{Kind}
use Rattle.tv_model.specs.declared.kind.Kind.TheVariants as kinds
use Rattle.tv_model.specs.Kinds.{behaviour}
use Rattle.tv_model.specs.declared.desc.Dialog.{Dialog}
use Rattle.tv_model.specs.Description.Commands.{command_of}
use Rattle.tv_model.specs.Description.Names.{meant}
use Rattle.tv_model.specs.Description.Nodes.{height_of, is_button, is_cluster}
use Rattle.tv_machine.specs.State.{Held}
use Rattle.tv_machine.specs.Leaves.{PlacedNode, corner_on, leaf_list, rect_on}
use Rattle.tv_model.specs.Controls.Contents.{Content}
use Rattle.tv_model.specs.Controls.Behaviour.{Answer, Becomes, Passed, Presses, Down, Ignores, FocusesLink, Grips, Holds}
use Rattle.tv_machine.specs.Controls.Tables.{down_content, move_content, remembered, up_answer}
use Rattle.tv_machine.specs.Dialog.Ending.{command}
use Rattle.tv_machine.specs.Dialog.Modal.{Modal, content_at, leaf_at, content_put}
use Rattle.tv_machine.specs.Dialog.Mouse.{button_down, column_on, down, down_at, down_by, first_before, focus_and_hold, held_moved, held_up, hold, is_close_mark, is_inside, moved_on, released, row_on, topmost_leaf}
use Rattle.tv_machine.specs.Dialog.Rules.{is_enabled, is_enabled_by, is_visible}
use Rattle.tv_laws.specs.Ends.{IsDone, IsOpen}
use Rattle.tv_laws.specs.Fit.{IsFitContent, IsFitHold, IsFitModal}
use Rattle.tv_laws.specs.Sound.{IsSoundDialog}
use Rattle.tv_laws.proofs.EndLemmas.{command-done, press-done}
use Rattle.tv_laws.proofs.FreeLemmas.{IsFree, free-done, open-done, request-then}
use Rattle.tv_laws.proofs.KeyLemmas.{focus-becomes, focus-content, leaf-count, link-done}
use Rattle.tv_laws.proofs.KindLemmas.{HasRow, IsFitAnswer, down-fit, move-fit, up-fit}
use Rattle.tv_machine.proofs.LeafLemmas.{HasLeaves, IsIn, leaf_at-in, leaf_at-is, leaf_at-member}
use Rattle.tv_machine.proofs.ListLemmas.{bool_cases, found-all, found-passes, id-itself, option_cases}
use Rattle.tv_machine.specs.Dialog.Alike.{HoldSame}
use Rattle.tv_machine.proofs.MarkLemmas.{enabled-same, hold-changed, hold-unclustered, visible-same}
use Rattle.tv_laws.proofs.StandLemmas.{fit-same, standing-leaf}

-- ---- rows of a leaf

gap_less : (a y : ℤ) (n : ℕ) → a ≤ℤ y → y <ℤ (a +ℤ pos n) → int_gap a y < n
gap_less (pos a) (pos y) n le lt = omega (arith, ints, le, lt)
gap_less (negsuc a) (pos y) n le lt = omega (arith, ints, le, lt)
gap_less (negsuc a) (negsuc y) n le lt = omega (arith, ints, le, lt)
gap_less (pos a) (negsuc y) n le lt = absurd (omega (arith, ints, le))

rows_within : (leaf : PlacedNode) (p : Point) (n : ℕ) → height_of leaf.node.kind ≡ pos n → is_inside leaf p ≡ true → row_on leaf p < n
rows_within leaf p n high inside =
    let r = rect_on leaf in
    let both = and_parts (int_le r.a.x p.x && int_lt p.x r.b.x) (int_le r.a.y p.y && int_lt p.y r.b.y) inside in
    let rows = and_parts (int_le r.a.y p.y) (int_lt p.y r.b.y) both.1 in
    gap_less r.a.y p.y n ((int_le_decides r.a.y p.y).0 rows.0) (subst (λ (h : ℤ). p.y <ℤ ((corner_on leaf).y +ℤ h)) high ((int_lt_decides p.y r.b.y).0 rows.1))

row-within : (leaf : PlacedNode) (p : Point) (k : Kind) → leaf.node.kind ≡ k → is_inside leaf p ≡ true → HasRow k (row_on leaf p)
row-within leaf p (kinds.CheckBoxes boxes) is inside = rows_within leaf p (length boxes.items) (ap height_of is) inside
row-within leaf p (kinds.RadioButtons radios) is inside = rows_within leaf p (length radios.items) (ap height_of is) inside
row-within leaf p _ is inside = tt

-- ---- what a mouse down asks for

-- what grips the mouse is a button
grips-button : (k : Kind) (grabs : Bool) → (behaviour k).down ≡ Grips grabs → IsTrue (is_button k)
grips-button (kinds.Button button) grabs e = refl
grips-button _ grabs e = absurd cc

-- what asks for the focus and holds the mouse gives no command
holds-ungiven : (k : Kind) → (behaviour k).down ≡ Holds → command_of k ≡ None
holds-ungiven (kinds.Button button) e = absurd cc
holds-ungiven _ e = refl

-- ---- the topmost leaf

All-reverse : {A : Type 0} (P : A → Type 0) (xs : List A) → All P xs → All P (reverse xs)
All-reverse P [] all = all
All-reverse P (x ∷ xs) all =
    subst (All P) (sym (reverse_onto xs x [])) (All-push P (reverse xs) x (All-reverse P xs (All-tail P x xs all)) (All-head P x xs all))

module _ (d : Dialog) (sound : IsSoundDialog d) where
  -- the mouse is held by another leaf, or by none
  pub fit-held : (m : Modal) (held : Option Held) → IsFitModal d m → ((h : Held) → held ≡ Some h → IsFitHold d m h)
      → IsFitModal d (record m { held = held })
  fit-held m held fit holds = record {
    standing = record { leaves = fit.standing.leaves; contents = fit.standing.contents; ordered = fit.standing.ordered };
    focus = fit.focus;
    held = λ h e. let x = holds h e in record { leaf = x.leaf; there = x.there; visible = x.visible; enabled = x.enabled; near = x.near };
  }

  -- ---- no mark changes while the mouse is held

  down_marks : (m : Modal) → HasLeaves d m → (leaf : PlacedNode) → IsIn d leaf → (k : Kind) → leaf.node.kind ≡ k → (first column row : ℕ)
      → HoldSame d m.leaves (content_put d leaf.node.id (down_content k first column row (content_at m leaf.node.id)) m).leaves
  down_marks m leaves leaf e (kinds.Input input) is first column row =
      hold-unclustered d sound.lawful m leaves leaf.node.id (down_content (kinds.Input input) first column row (content_at m leaf.node.id)) leaf e (ap is_cluster is)
  down_marks m leaves leaf e (kinds.List list) is first column row =
      hold-unclustered d sound.lawful m leaves leaf.node.id (down_content (kinds.List list) first column row (content_at m leaf.node.id)) leaf e (ap is_cluster is)
  down_marks m leaves leaf e k is first column row = hold-changed d sound.lawful m leaves leaf.node.id (content_at m leaf.node.id) (λ item. refl)

  move_marks : (m : Modal) → HasLeaves d m → (leaf : PlacedNode) → IsIn d leaf → (k : Kind) → leaf.node.kind ≡ k → (row : ℕ)
      → HoldSame d m.leaves (content_put d leaf.node.id (move_content k row (content_at m leaf.node.id)) m).leaves
  move_marks m leaves leaf e (kinds.List list) is row =
      hold-unclustered d sound.lawful m leaves leaf.node.id (move_content (kinds.List list) row (content_at m leaf.node.id)) leaf e (ap is_cluster is)
  move_marks m leaves leaf e k is row = hold-changed d sound.lawful m leaves leaf.node.id (content_at m leaf.node.id) (λ item. refl)

  -- ---- down

  abbrev downed : PlacedNode → ℕ → Point → Modal → Content
  downed leaf first p m = down_content leaf.node.kind first (column_on leaf p) (row_on leaf p) (content_at m leaf.node.id)

  -- a leaf comes to hold the mouse
  hold-open : (m : Modal) (leaf : PlacedNode) (first : ℕ) (p : Point) → IsFree d m → IsIn d leaf → is_visible d m.leaves leaf ≡ true
      → is_enabled d m.leaves leaf.node ≡ true
      → (leaf.node.id ≡ m.focus) ⊎ IsTrue (is_button leaf.node.kind)
      → IsFitContent (leaf.node.id.0 == m.focus.0) leaf.node.kind (downed leaf first p m) → IsOpen d (hold d leaf first p m)
  hold-open m leaf first p f e visible enabled near fits =
      let c = downed leaf first p m in
      let n = content_put d leaf.node.id c m in
      let same = down_marks m f.fit.standing.leaves leaf e leaf.node.kind refl first (column_on leaf p) (row_on leaf p) in
      let held : Held = record { id = leaf.node.id; item = remembered leaf.node.kind (row_on leaf p) } in
      record {
        fit = fit-held n (Some held) (fit-same d sound m leaf.node.id c leaf f.fit e fits same)
            (λ h is. let this : held ≡ h = cc in subst (IsFitHold d n) this (record {
              leaf = leaf;
              there = e;
              visible = sym (visible-same d m.leaves n.leaves same leaf) ∙ visible;
              enabled = sym (enabled-same d m.leaves n.leaves same leaf.node) ∙ enabled;
              near = near;
            }));
        log = f.log;
        going = f.going;
      }

  hold_done : (m : Modal) (leaf : PlacedNode) (p : Point) → IsFree d m → IsIn d leaf → is_visible d m.leaves leaf ≡ true
      → is_enabled d m.leaves leaf.node ≡ true → IsDone d (focus_and_hold d leaf p m)
  hold_done m leaf p f e visible enabled =
      let first = first_before m leaf in
      request-then d sound (IsDone d) m leaf.node.id (hold d leaf first p) f (λ n g. free-done d n g)
      (λ n g at marks.
      let flag : (leaf.node.id.0 == n.focus.0) ≡ true = ap (λ id. leaf.node.id.0 == id.0) at ∙ id-itself leaf.node.id in
      let fits = down-fit leaf.node.kind first (column_on leaf p) (row_on leaf p) (content_at n leaf.node.id) (leaf-count d sound leaf.node.id leaf e)
      (focus-content d sound n leaf g (ap (leaf_at d) at ∙ e)) in
      open-done d (hold d leaf first p n)
      (hold-open n leaf first p g e (sym (visible-same d m.leaves n.leaves marks leaf) ∙ visible) (sym (enabled-same d m.leaves n.leaves marks leaf.node) ∙ enabled) (inl (sym at))
      (subst (λ b. IsFitContent b leaf.node.kind (downed leaf first p n)) (sym flag) fits)))

  button_done : (m : Modal) (leaf : PlacedNode) (grabs : Bool) (p : Point) → IsFree d m → IsIn d leaf
      → is_visible d m.leaves leaf ≡ true → IsTrue (is_button leaf.node.kind) → IsDone d (button_down d leaf grabs p m)
  button_done m leaf grabs p f e visible button =
      bool_cases (is_enabled d m.leaves leaf.node) (λ b. IsDone d (if b then (if grabs then focus_and_hold d leaf p m else hold d leaf 0 p m) else m))
      (λ enabled. bool_cases grabs (λ b. IsDone d (if b then focus_and_hold d leaf p m else hold d leaf 0 p m)) (λ grab. hold_done m leaf p f e visible enabled)
      (λ stay. open-done d (hold d leaf 0 p m)
      (hold-open m leaf 0 p f e visible enabled (inr button) (unchanged leaf.node.kind button (standing-leaf d sound m f.fit.standing leaf e)))))
      (λ disabled. free-done d m f)
    where
      unchanged : (k : Kind) → IsTrue (is_button k) → IsFitContent (leaf.node.id.0 == m.focus.0) k (content_at m leaf.node.id)
          → IsFitContent (leaf.node.id.0 == m.focus.0) k (down_content k 0 (column_on leaf p) (row_on leaf p) (content_at m leaf.node.id))
      unchanged (kinds.Button own) is fits = fits
      unchanged _ is fits = absurd (false≢true is)

  down_asked : (m : Modal) (leaf : PlacedNode) (p : Point) (asks : Down) → (behaviour leaf.node.kind).down ≡ asks → IsFree d m → IsIn d leaf
      → is_visible d m.leaves leaf ≡ true → IsDone d (down_by d leaf asks p m)
  down_asked m leaf p Ignores is f e visible = free-done d m f
  down_asked m leaf p (FocusesLink name) is f e visible = link-done d sound (meant d.views name) m f
  down_asked m leaf p (Grips grabs) is f e visible = button_done m leaf grabs p f e visible (grips-button leaf.node.kind grabs is)
  down_asked m leaf p Holds is f e visible = hold_done m leaf p f e visible (ap (is_enabled_by d m.leaves) (holds-ungiven leaf.node.kind is))

  -- a mouse down while nothing holds the mouse
  pub down-done : (p : Point) (m : Modal) → IsFree d m → IsDone d (down d p m)
  down-done p m f =
      bool_cases (is_close_mark p) (λ b. IsDone d (if b then command d 4 m else down_at d (topmost_leaf d m p) p m)) (λ mark. command-done d sound 4 m f)
      (λ inside. option_cases (topmost_leaf d m p) (λ o. IsDone d (down_at d o p m)) (λ none. free-done d m f)
      (λ leaf found.
      let test : PlacedNode → Bool = λ x. is_visible d m.leaves x && is_inside x p in
      down_asked m leaf p (behaviour leaf.node.kind).down refl f
      (found-all (IsIn d) test (reverse (leaf_list d.views)) leaf (All-reverse (IsIn d) (leaf_list d.views) (leaf_at-member d sound.lawful)) found)
      (and_parts (is_visible d m.leaves leaf) (is_inside leaf p) (found-passes test (reverse (leaf_list d.views)) leaf found)).0))

  -- ---- move

  move_open : (m : Modal) (leaf : PlacedNode) (p : Point) → IsOpen d m → IsIn d leaf → IsOpen d (moved_on d leaf p m)
  move_open m leaf p o e =
      let c = move_content leaf.node.kind (row_on leaf p) (content_at m leaf.node.id) in
      bool_cases (is_inside leaf p) (λ b. IsOpen d (if b then content_put d leaf.node.id c m else m))
      (λ inside. record {
        fit = fit-same d sound m leaf.node.id c leaf o.fit e
            (move-fit (leaf.node.id.0 == m.focus.0) leaf.node.kind (row_on leaf p) (content_at m leaf.node.id) (leaf-count d sound leaf.node.id leaf e) (standing-leaf d sound m o.fit.standing leaf e))
            (move_marks m o.fit.standing.leaves leaf e leaf.node.kind refl (row_on leaf p));
        log = o.log;
        going = o.going;
      })
      (λ outside. o)

  -- a move while a leaf holds the mouse
  pub move-open : (i : Id) (p : Point) (m : Modal) → IsOpen d m → IsOpen d (held_moved d (leaf_at d i) p m)
  move-open i p m o =
      option_cases (leaf_at d i) (λ x. IsOpen d (held_moved d x p m)) (λ none. o) (λ leaf there. move_open m leaf p o (leaf_at-in d sound.lawful i leaf there))

  -- ---- up

  let_go : (m : Modal) → IsOpen d m → IsFree d (record m { held = None })
  let_go m o = record { fit = fit-held m None o.fit (λ h e. absurd (none_some h e)); log = o.log; going = o.going; idle = refl }
    where
      none_some : (h : Held) → None ≡ Some h → ⊥
      none_some h e = cc

  released_focus : (m : Modal) (leaf : PlacedNode) (a : Answer) → IsFree d m → IsIn d leaf → m.focus ≡ leaf.node.id
      → IsFitAnswer true leaf.node.kind a → IsDone d (released d leaf a m)
  released_focus m leaf Passed f e at fits = free-done d m f
  released_focus m leaf (Becomes c) f e at fits = free-done d (content_put d leaf.node.id c m) (focus-becomes d sound m c leaf f e at fits)
  released_focus m leaf Presses f e at fits = press-done d sound leaf m f

  released_button : (m : Modal) (leaf : PlacedNode) (k : Kind) (item row : ℕ) (c : Content) → IsTrue (is_button k) → IsFree d m
      → IsDone d (released d leaf (up_answer k item row c) m)
  released_button m leaf (kinds.Button button) item row c is f = press-done d sound leaf m f
  released_button m leaf _ item row c is f = absurd (false≢true is)

  up_done : (m : Modal) (held : Held) (leaf : PlacedNode) (p : Point) → IsOpen d m → leaf_at d held.id ≡ Some leaf
      → (held.id ≡ m.focus) ⊎ IsTrue (is_button leaf.node.kind) → is_inside leaf p ≡ true
      → IsDone d (released d leaf (up_answer leaf.node.kind held.item (row_on leaf p) (content_at m leaf.node.id)) (record m { held = None }))
  up_done m held leaf p o there (inl at) inside =
      let here : m.focus ≡ leaf.node.id = sym at ∙ sym (leaf_at-is d held.id leaf there) in
      let n : Modal = record m { held = None } in
      released_focus n leaf (up_answer leaf.node.kind held.item (row_on leaf p) (content_at m leaf.node.id)) (let_go m o) (leaf_at-in d sound.lawful held.id leaf there) here
      (up-fit true leaf.node.kind held.item (row_on leaf p) (content_at m leaf.node.id) (row-within leaf p leaf.node.kind refl inside)
      (focus-content d sound n leaf (let_go m o) (ap (leaf_at d) (sym at) ∙ there)))
  up_done m held leaf p o there (inr button) inside = released_button (record m { held = None }) leaf leaf.node.kind held.item (row_on leaf p) (content_at m leaf.node.id) button (let_go m o)

  -- an up while a leaf holds the mouse
  pub up-done : (held : Held) (p : Point) (m : Modal) → m.held ≡ Some held → IsOpen d m
      → IsDone d (held_up d (leaf_at d held.id) held.item p m)
  up-done held p m is o =
      let h = o.fit.held held is in
      let n : Modal = record m { held = None } in
      subst (λ x. IsDone d (held_up d x held.item p m)) (sym h.there)
      (bool_cases (is_inside h.leaf p)
      (λ b. IsDone d (if b then released d h.leaf (up_answer h.leaf.node.kind held.item (row_on h.leaf p) (content_at m h.leaf.node.id)) n else n))
      (λ inside. up_done m held h.leaf p o h.there h.near inside) (λ outside. free-done d n (let_go m o)))
