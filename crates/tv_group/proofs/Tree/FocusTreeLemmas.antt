-- The focus in a dialog's tree: what is free, who refuses to lose it, and where it goes.
use Rattle.std.proofs.Common.{◌≡◌, Bool, true, false, not, ◌&&◌, ◌||◌, ◌==◌, ℕ, if◌then◌else◌, List, [], ◌∷◌, map, get_or, Option, Some, None, refl, sym, ap, ◌∙◌, All}
use Rattle.std.proofs.lemmas.Bool.{and_parts, true≢false}
use Rattle.std.proofs.lemmas.List.Elements.{All-head, All-tail}
use Rattle.tv_model.specs.declared.node.Id.{Id}
use Rattle.tv_model.specs.declared.desc.Dialog.{Dialog}
use Rattle.tv_model.specs.declared.log.LogLine.{LogLine}
use Rattle.tv_model.specs.declared.log.LogLine.TheVariants as lines
use Rattle.tv_model.specs.Kinds.InputLine.{entered, left}
use Rattle.tv_view.specs.Meaning.{Leaf, Placed}
use Rattle.tv_model.specs.Description.Nodes.{is_control}
use Rattle.tv_machine.specs.State.{LeafState}
use Rattle.tv_machine.specs.Leaves.{PlacedNode, leaf_list}
use Rattle.tv_model.specs.Controls.Contents.{Content}
use Rattle.tv_machine.specs.Dialog.Focus.{Request, Same, NotFree, Refused, Moved, after_request, focus_moved, is_free_at, is_free_leaf, is_invalid, keeps_focus, request, requested, validates}
use Rattle.tv_machine.specs.Dialog.Rules.{is_among, is_enabled, is_free, is_visible}
use Rattle.tv_machine.specs.Dialog.Modal.{Modal, content_at, leaf_at, with_line}
use Rattle.tv_view.specs.Calls.{focused_to, given_focus, invalid_id, takes_focus, without_focus}
use Rattle.tv_group.specs.Calls.{all_focused, focused_from, is_free_id, refused_in, refusing}
use Rattle.tv_group.specs.Calls as group
use Rattle.tv_machine.specs.Dialog.Lawful.{IsLawfulDialog}
use Rattle.tv_group.specs.Tree.{IsSteady, IsSteadyContent, held_at, leaf_as, placed_as, tree_as, tree_of}
use Rattle.tv_machine.proofs.ListLemmas.{AreApart, any-found, any-map, any-same, bool_cases, has, id-itself, map-map, on_found, option_cases, or-false, others-fail, same-id}
use Rattle.tv_group.proofs.Tree.FoundLemmas.{asked_at, first-found, first_some-map}
use Rattle.tv_group.proofs.Tree.FlagLemmas.{flags-same}
use Rattle.tv_machine.proofs.RefocusLemmas.{content_at-moved, held-moved, hold-moved, moved_content}
use Rattle.tv_group.proofs.Tree.StandingLemmas.{left-rests, refocused-standing, standing, standing_leaf, steady-moved}
use Rattle.tv_machine.proofs.LeafLemmas.{IsIn, ids-apart, leaf_at-is, leaf_at-same, leaf_id, leaves-same}
use Rattle.tv_group.proofs.Tree.TreeLemmas.{steady-leaf, tree-apart}
use Rattle.tv_group.proofs.Tree.RuledLemmas.{put}

and_false : (b : Bool) → (b && false) ≡ false
and_false true = refl
and_false false = refl

-- ---- what is free

free_at : (c h f : Bool) → ((c && h) && (c && f)) ≡ (h && (c && f))
free_at true h f = refl
free_at false true f = refl
free_at false false f = refl

free_found : (d : Dialog) (leaves : List LeafState) (o : Option PlacedNode)
    → on_found leaf_id (is_free d leaves) o ≡ is_free_leaf d leaves o
free_found d leaves None = refl
free_found d leaves (Some leaf) = refl

module _ (d : Dialog) (lawful : IsLawfulDialog d) where
  pub is_free-tree : (ruled : List LeafState) (m : Modal) (i : Id) → is_free_id i (tree_as d ruled m) ≡ is_free_at d ruled i
  unfolding is_free_id
  is_free-tree ruled m i =
      any-map (placed_as d ruled m) (λ x. takes_focus i x.leaf && group.is_free_control x.leaf) (leaf_list d.views)
      ∙ any-same (λ leaf. takes_focus i (leaf_as d ruled m leaf) && group.is_free_control (leaf_as d ruled m leaf))
      (λ leaf. has leaf_id i leaf && is_free d ruled leaf) (leaf_list d.views)
      (λ k e h.
      let leaf = get_or (leaf_list d.views) k e in
      free_at (is_control leaf.node.kind) (leaf.node.id.0 == i.0) (is_visible d ruled leaf && is_enabled d ruled leaf.node))
      ∙ any-found leaf_id i (is_free d ruled) (leaf_list d.views) (ids-apart d lawful)
      ∙ free_found d ruled (leaf_at d i)

-- ---- who refuses to lose the focus

refuses : (v invalid : Bool) (i : Id) → (if v then (if invalid then Some i else None) else None) ≡ (if v && invalid then Some i else None)
refuses true invalid i = refl
refuses false invalid i = refl

module _ (d : Dialog) (lawful : IsLawfulDialog d) (ruled : List LeafState) (m : Modal) where
  abbrev ask : PlacedNode → Option Id
  ask leaf = refusing (placed_as d ruled m leaf)

  ask_other : (leaf : PlacedNode) → has leaf_id m.focus leaf ≡ false → ask leaf ≡ None
  ask_other leaf e = ap (λ b. if b && validates leaf.node.kind then invalid_id (leaf_as d ruled m leaf) else None) e

  ask_here : (leaf : PlacedNode) → leaf.node.id ≡ m.focus → ask leaf ≡ (if keeps_focus m (Some leaf) then Some m.focus else None)
  unfolding invalid_id
  ask_here leaf is =
      ap (λ b. if b && validates leaf.node.kind then invalid_id (leaf_as d ruled m leaf) else None)
      (ap (λ id. id.0 == m.focus.0) is ∙ id-itself m.focus)
      ∙ refuses (validates leaf.node.kind) (is_invalid leaf.node.kind (content_at m leaf.node.id)) leaf.node.id
      ∙ ap (λ id. if keeps_focus m (Some leaf) then Some id else None) is

  pub refused-tree : refused_in (tree_as d ruled m) ≡ (if keeps_focus m (leaf_at d m.focus) then Some m.focus else None)
  unfolding refused_in
  refused-tree =
      first_some-map (placed_as d ruled m) refusing (leaf_list d.views)
      ∙ first-found leaf_id m.focus ask (leaf_list d.views) (ids-apart d lawful) ask_other
      ∙ option_cases (leaf_at d m.focus) (λ o. asked_at leaf_id ask o ≡ (if keeps_focus m o then Some m.focus else None))
      (λ none. refl) (λ leaf found. ask_here leaf (leaf_at-is d m.focus leaf found))

-- ---- where it goes

-- a leaf in its place, told where the focus is
abbrev told : Id → Bool → Placed → Placed
told i is_current x = record x { leaf = focused_to i x.leaf; is_current = is_current }

-- the same, where it alone has the id
abbrev told_alone : Id → Placed → Placed
told_alone i x = told i (takes_focus i x.leaf) x

none_takes : (found : Bool) (i : Id) (xs : List Placed) → All (λ x. takes_focus i x.leaf ≡ false) xs
    → focused_from found i xs ≡ map (told_alone i) xs
none_takes found i [] all = refl
none_takes found i (x ∷ xs) all =
    let e = All-head (λ y. takes_focus i y.leaf ≡ false) x xs all in
    ap (λ t. told i (not found && t) x ∷ focused_from (found || t) i xs) e
    ∙ ap (λ t. told i t x ∷ focused_from (found || false) i xs) (and_false (not found))
    ∙ ap (λ b. told i false x ∷ focused_from b i xs) (or-false found)
    ∙ ap (λ ys. told i false x ∷ ys) (none_takes found i xs (All-tail (λ y. takes_focus i y.leaf ≡ false) x xs all))
    ∙ ap (λ t. told i t x ∷ map (told_alone i) xs) (sym e)

abbrev placed_id : Placed → Id
placed_id x = x.leaf.node.id

one_takes : (i : Id) (xs : List Placed) → AreApart (map placed_id xs) → focused_from false i xs ≡ map (told_alone i) xs
one_takes i [] apart = refl
one_takes i (x ∷ xs) apart =
    ap (λ ys. told_alone i x ∷ ys)
    (bool_cases (takes_focus i x.leaf) (λ t. focused_from t i xs ≡ map (told_alone i) xs)
    (λ takes.
    let here : x.leaf.node.id ≡ i =
    same-id x.leaf.node.id i (and_parts (is_control x.leaf.node.kind) (x.leaf.node.id.0 == i.0) takes).1 in
    none_takes true i xs
    (λ k e h.
    let y = get_or xs k e in
    ap (λ b. is_control y.leaf.node.kind && b)
    (others-fail placed_id xs i (ap (is_among (map placed_id xs)) (sym here) ∙ apart.0) k e h)
    ∙ and_false (is_control y.leaf.node.kind)))
    (λ other. one_takes i xs apart.1))

abbrev focusing : Bool → Leaf → Leaf
focusing is_focused l = record l { is_focused = is_focused }

-- a leaf that is told where the focus is, by whether it is there and was there
told_so : (d : Dialog) (ruled : List LeafState) (leaf : PlacedNode) (c : Content) (held : Option ℕ) (to from : Bool)
    → (to ≡ true → from ≡ false)
    → IsSteadyContent from leaf.node.kind c
    → put d leaf to
    (if not to then without_focus (standing_leaf d ruled leaf c from held)
    else if from then standing_leaf d ruled leaf c from held else given_focus (standing_leaf d ruled leaf c from held))
    ≡ standing d ruled leaf (moved_content to from leaf.node.kind c) to held
told_so d ruled leaf c held true true new steady = absurd (true≢false (new refl))
told_so d ruled leaf c held true false new steady =
    ap (λ l. put d leaf true (focusing true l)) (refocused-standing d ruled leaf c false held entered leaf.node.kind)
told_so d ruled leaf c held false true new steady =
    ap (λ l. put d leaf false (focusing false l)) (refocused-standing d ruled leaf c true held left leaf.node.kind)
told_so d ruled leaf c held false false new steady =
    ap (λ l. put d leaf false (focusing false l)) (refocused-standing d ruled leaf c false held left leaf.node.kind)
    ∙ ap (λ x. standing d ruled leaf x false held) (left-rests leaf.node.kind c steady)

-- the control of the id is the leaf of the id
takes_is : (d : Dialog) (ruled : List LeafState) (i : Id) (leaf : PlacedNode) → is_free_at d ruled i ≡ true → IsIn d leaf
    → (is_control leaf.node.kind && (leaf.node.id.0 == i.0)) ≡ (leaf.node.id.0 == i.0)
takes_is d ruled i leaf free e =
    bool_cases (leaf.node.id.0 == i.0) (λ b. (is_control leaf.node.kind && b) ≡ b)
    (λ here.
    let there : is_free d ruled leaf ≡ true =
    ap (is_free_leaf d ruled) (sym (leaf_at-same d i leaf e (same-id leaf.node.id i here))) ∙ free in
    ap (λ b. b && true) (and_parts (is_control leaf.node.kind) (is_visible d ruled leaf && is_enabled d ruled leaf.node) there).0)
    (λ other. and_false (is_control leaf.node.kind))

module _ (d : Dialog) (lawful : IsLawfulDialog d) where
  module _ (ruled : List LeafState) (m : Modal) (i : Id) (steady : IsSteady d m) (elsewhere : (i.0 == m.focus.0) ≡ false)
      (free : is_free_at d ruled i ≡ true) where
    told_leaf : (leaf : PlacedNode) → IsIn d leaf → told_alone i (placed_as d ruled m leaf) ≡ placed_as d ruled (focus_moved d i m) leaf
    unfolding focused_to
    told_leaf leaf e =
        let c = content_at m leaf.node.id in
        let from = leaf.node.id.0 == m.focus.0 in
        let held = held_at m.held leaf.node.id in
        let takes = takes_is d ruled i leaf free e in
        told_so d ruled leaf c held (is_control leaf.node.kind && (leaf.node.id.0 == i.0)) from
        (λ is. ap (λ id. id.0 == m.focus.0) (same-id leaf.node.id i (sym takes ∙ is)) ∙ elsewhere)
        (steady-leaf d lawful m steady leaf e)
        ∙ ap (λ b. standing d ruled leaf (moved_content b from leaf.node.kind c) b held) takes
        ∙ ap (λ x. standing d ruled leaf x (leaf.node.id.0 == i.0) held) (sym (content_at-moved d lawful m i steady.leaves leaf e))
        ∙ ap (λ h. standing d ruled leaf (content_at (focus_moved d i m) leaf.node.id) (leaf.node.id.0 == i.0) (held_at h leaf.node.id))
        (sym (held-moved d lawful m i))

    -- the focus goes to another control, where rules aren't applied again
    pub focused-as : all_focused i (tree_as d ruled m) ≡ tree_as d ruled (focus_moved d i m)
    unfolding all_focused
    focused-as =
        one_takes i (tree_as d ruled m) (tree-apart d lawful ruled m) ∙ map-map (placed_as d ruled m) (told_alone i) (leaf_list d.views)
        ∙ leaves-same d lawful (λ leaf. told_alone i (placed_as d ruled m leaf)) (placed_as d ruled (focus_moved d i m)) told_leaf

  -- the focus goes to another free control
  pub focused-tree : (m : Modal) (i : Id) → IsSteady d m → (i.0 == m.focus.0) ≡ false → is_free_at d m.leaves i ≡ true
      → all_focused i (tree_of d m) ≡ tree_of d (focus_moved d i m)
  focused-tree m i steady elsewhere free =
      focused-as m.leaves m i steady elsewhere free
      ∙ flags-same d m.leaves (focus_moved d i m).leaves (hold-moved d lawful m i steady.leaves) (focus_moved d i m)

  -- ---- steady dialogs

  pub steady-line : (line : LogLine) (m : Modal) → IsSteady d m → IsSteady d (with_line line m)
  steady-line line m steady = record { leaves = steady.leaves; contents = steady.contents }

  pub steady-requested : (i : Id) (r : Request) (m : Modal) → IsSteady d m → IsSteady d (after_request d i r m)
  steady-requested i Same m steady = steady
  steady-requested i NotFree m steady = steady
  steady-requested i Refused m steady = steady-line (lines.Invalid m.focus) m steady
  steady-requested i Moved m steady = steady-moved d lawful m i steady

  pub steady-request : (i : Id) (m : Modal) → IsSteady d m → IsSteady d (request d i m)
  steady-request i m steady = steady-requested i (requested d m i) m steady
