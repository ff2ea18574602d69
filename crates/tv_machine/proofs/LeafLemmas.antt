-- The leaves of a dialog: how they are found, and what becomes of them where one holds something else.
use Rattle.std.proofs.Common.{◌≡◌, Bool, true, false, ◌&&◌, ◌||◌, ◌==◌, ◌<◌, if◌then◌else◌, List, [], ◌∷◌, map, find, get_or, Some, option_map, is_some, refl, sym, ap, subst, ◌∙◌, All, AllPairs}
use Rattle.std.proofs.lemmas.Bool.{false≢true, or_right}
use Rattle.std.proofs.lemmas.List.Elements.{All-nil, All-cons, All-head, All-tail}
use Rattle.tv_model.specs.declared.node.Id.{Id}
use Rattle.tv_model.specs.declared.node.Node.{Node}
use Rattle.tv_model.specs.declared.desc.Dialog.{Dialog}
use Rattle.tv_model.specs.Description.Nodes.{is_pane}
use Rattle.tv_machine.specs.State.{LeafState}
use Rattle.tv_machine.specs.Leaves.{PlacedNode, leaf_list, leaves_in, open_after, open_at}
use Rattle.tv_model.specs.Controls.Contents.{Content}
use Rattle.tv_machine.specs.Dialog.Rules.{content_by, is_among, state_of}
use Rattle.tv_machine.specs.Dialog.Modal.{Modal, content_at, holding, leaf_at, overwrites_after, content_put}
use Rattle.tv_machine.specs.Dialog.Lawful.{IsLawfulDialog}
use Rattle.tv_machine.proofs.ListLemmas.{AreApart, above-false, among-filter, and-true, bool_cases, fails-absent, find-map, find-member, find-same, found-all, found-among, found-id, found-member, has, id-itself, map-map, map-same, option_cases, pairs-head, pairs-tail}

-- the id of a leaf
abbrev pub leaf_id : PlacedNode → Id
leaf_id leaf = leaf.node.id

-- the id of what a leaf holds
abbrev pub state_id : LeafState → Id
state_id leaf = leaf.id

-- ---- leaves are views

pub leaves-all : (P : Node → Type 0) (panes views : List Node) → All P views → All (λ leaf. P leaf.node) (leaves_in panes views)
leaves-all P panes [] all = All-nil (λ leaf. P leaf.node)
leaves-all P panes (view ∷ views) all =
    let rest = leaves_in (open_after panes view) views in
    let more = leaves-all P (open_after panes view) views (All-tail P view views all) in
    bool_cases (is_pane view.kind)
    (λ b. All (λ leaf. P leaf.node) (if b then rest else record { node = view; panes = open_at view.depth panes } ∷ rest))
    (λ is. more)
    (λ is. All-cons (λ leaf. P leaf.node) (record { node = view; panes = open_at view.depth panes }) rest
    (All-head P view views all) more)

leaves-apart : (panes views : List Node) → AllPairs (λ node later. node.id.0 < later.id.0) views
    → AreApart (map leaf_id (leaves_in panes views))
leaves-apart panes [] pairs = tt
leaves-apart panes (view ∷ views) pairs =
    let rest = leaves_in (open_after panes view) views in
    let more = leaves-apart (open_after panes view) views (pairs-tail (λ node later. node.id.0 < later.id.0) view views pairs) in
    bool_cases (is_pane view.kind)
    (λ b. AreApart (map leaf_id (if b then rest else record { node = view; panes = open_at view.depth panes } ∷ rest)))
    (λ is. more)
    (λ is. (
      fails-absent leaf_id rest view.id
          (leaves-all (λ node. (node.id.0 == view.id.0) ≡ false) (open_after panes view) views
          (λ k e h. above-false view.id.0 (get_or views k e).id.0
          (pairs-head (λ node later. node.id.0 < later.id.0) view views pairs k e h))),
      more,
    ))

-- ---- leaves by their ids

-- the leaf is one of the dialog's
abbrev pub IsIn : Dialog → PlacedNode → Type 0
IsIn d leaf = leaf_at d leaf.node.id ≡ Some leaf

-- the machine's dialog has the leaves of the description, in order
abbrev pub HasLeaves : Dialog → Modal → Type 0
HasLeaves d m = map state_id m.leaves ≡ map leaf_id (leaf_list d.views)

pub leaf_at-is : (d : Dialog) (i : Id) (leaf : PlacedNode) → leaf_at d i ≡ Some leaf → leaf.node.id ≡ i
leaf_at-is d i leaf e = found-id leaf_id i (leaf_list d.views) leaf e

pub leaf_at-all : (P : PlacedNode → Type 0) (d : Dialog) (i : Id) (leaf : PlacedNode) → All P (leaf_list d.views) → leaf_at d i ≡ Some leaf
    → P leaf
leaf_at-all P d i leaf all e = found-all P (has leaf_id i) (leaf_list d.views) leaf all e

pub leaf_at-same : (d : Dialog) (i : Id) (leaf : PlacedNode) → IsIn d leaf → leaf.node.id ≡ i → leaf_at d i ≡ Some leaf
leaf_at-same d i leaf e is = ap (leaf_at d) (sym is) ∙ e

-- what is so of every view is so of the node of a leaf
pub leaf_at-node : (P : Node → Type 0) (d : Dialog) (i : Id) (leaf : PlacedNode) → All P d.views → leaf_at d i ≡ Some leaf → P leaf.node
leaf_at-node P d i leaf all e = leaf_at-all (λ other. P other.node) d i leaf (leaves-all P [] d.views all) e

module _ (d : Dialog) (lawful : IsLawfulDialog d) where
  -- no two leaves have the same id
  pub ids-apart : AreApart (map leaf_id (leaf_list d.views))
  ids-apart = leaves-apart [] d.views (pairs-tail (λ node later. node.id.0 < later.id.0) d.node d.views lawful.rising)

  -- nor have two views
  pub views-apart : AreApart (map (λ view. view.id) d.views)
  views-apart = nodes-apart d.views (pairs-tail (λ node later. node.id.0 < later.id.0) d.node d.views lawful.rising)
    where
      nodes-apart : (views : List Node) → AllPairs (λ node later. node.id.0 < later.id.0) views → AreApart (map (λ view. view.id) views)
      nodes-apart [] pairs = tt
      nodes-apart (view ∷ views) pairs = (
        fails-absent (λ node. node.id) views view.id
            (λ k e h. above-false view.id.0 (get_or views k e).id.0
            (pairs-head (λ node later. node.id.0 < later.id.0) view views pairs k e h)),
        nodes-apart views (pairs-tail (λ node later. node.id.0 < later.id.0) view views pairs),
      )

  -- and none has the dialog's
  pub own-fails : All (λ leaf. (leaf.node.id.0 == d.node.id.0) ≡ false) (leaf_list d.views)
  own-fails =
      leaves-all (λ node. (node.id.0 == d.node.id.0) ≡ false) [] d.views
      (λ k e h. above-false d.node.id.0 (get_or d.views k e).id.0
      (pairs-head (λ node later. node.id.0 < later.id.0) d.node d.views lawful.rising k e h))

  pub leaf_at-member : All (IsIn d) (leaf_list d.views)
  leaf_at-member = find-member leaf_id (leaf_list d.views) ids-apart

  pub leaf_at-in : (i : Id) (leaf : PlacedNode) → leaf_at d i ≡ Some leaf → IsIn d leaf
  leaf_at-in i leaf e = found-member leaf_id (has leaf_id i) (leaf_list d.views) leaf ids-apart e

  pub found-in : (p : PlacedNode → Bool) (leaf : PlacedNode) → find p (leaf_list d.views) ≡ Some leaf → IsIn d leaf
  found-in p leaf e = found-member leaf_id p (leaf_list d.views) leaf ids-apart e

  -- what is so of each leaf
  pub leaves-are : (P : PlacedNode → Type 0) → ((leaf : PlacedNode) → IsIn d leaf → P leaf) → All P (leaf_list d.views)
  leaves-are P of = λ k e h. of (get_or (leaf_list d.views) k e) (leaf_at-member k e h)

  pub leaves-same : {B : Type 0} (f g : PlacedNode → B) → ((leaf : PlacedNode) → IsIn d leaf → f leaf ≡ g leaf)
      → map f (leaf_list d.views) ≡ map g (leaf_list d.views)
  leaves-same f g same = map-same f g (leaf_list d.views) (leaves-are (λ leaf. f leaf ≡ g leaf) same)

  -- ---- what they hold

  pub among-views : (leaf : PlacedNode) → IsIn d leaf → is_among (map (λ view. view.id) d.views) leaf.node.id ≡ true
  among-views leaf e =
      leaf_at-node (λ node. is_among (map (λ view. view.id) d.views) node.id ≡ true) d leaf.node.id leaf (views-among d.views) e
    where
      go : (views : List Node) (id : Id) → is_among (map (λ view. view.id) views) id ≡ true → (view : Node)
          → is_among (map (λ other. other.id) (view ∷ views)) id ≡ true
      go views id is view = ap (λ b. (view.id.0 == id.0) || b) is ∙ or_right (view.id.0 == id.0) true refl

      views-among : (views : List Node) → All (λ node. is_among (map (λ view. view.id) views) node.id ≡ true) views
      views-among [] = All-nil (λ node. is_among [] node.id ≡ true)
      views-among (view ∷ views) =
          All-cons (λ node. is_among (map (λ other. other.id) (view ∷ views)) node.id ≡ true) view views
          (ap (λ b. b || is_among (map (λ other. other.id) views) view.id) (id-itself view.id))
          (λ k e h. go views (get_or views k e).id (views-among views k e h) view)

  module _ (m : Modal) (leaves : HasLeaves d m) where
    state-found : (leaf : PlacedNode) → IsIn d leaf → is_some (state_of m.leaves leaf.node.id) ≡ true
    state-found leaf e =
        found-among state_id m.leaves leaf.node.id ∙ ap (λ ids. is_among ids leaf.node.id) leaves
        ∙ sym (found-among leaf_id (leaf_list d.views) leaf.node.id) ∙ ap is_some e

    module _ (i : Id) (c : Content) where
      holding-id : (s : LeafState) → (holding i c s).id ≡ s.id
      holding-id s =
          bool_cases (s.id.0 == i.0) (λ b. state_id (if b then record s { value = c.value; private = c.private } else s) ≡ s.id)
          (λ is. refl) (λ is. refl)

      overwriting-changed : (leaf : PlacedNode) → IsIn d leaf
          → is_among (content_put d i c m).overwriting leaf.node.id
          ≡ (if leaf.node.id.0 == i.0 then c.overwrites else is_among m.overwriting leaf.node.id)
      overwriting-changed leaf e =
          among-filter (overwrites_after m.overwriting i c.overwrites) (map (λ view. view.id) d.views) leaf.node.id
          ∙ ap (λ b. overwrites_after m.overwriting i c.overwrites leaf.node.id && b) (among-views leaf e)
          ∙ and-true (overwrites_after m.overwriting i c.overwrites leaf.node.id)

      pub state-changed : (j : Id) → state_of (content_put d i c m).leaves j ≡ option_map (holding i c) (state_of m.leaves j)
      state-changed j =
          find-map (holding i c) (has state_id j) m.leaves
          ∙ ap (option_map (holding i c))
          (find-same (λ s. has state_id j (holding i c s)) (has state_id j) m.leaves
          (λ k e h. ap (λ id. id.0 == j.0) (holding-id (get_or m.leaves k e))))

      held_so : (s : LeafState) (overwrites b : Bool)
          → content_by (if b then c.overwrites else overwrites) (Some (if b then record s { value = c.value; private = c.private } else s))
          ≡ (if b then c else content_by overwrites (Some s))
      held_so s overwrites true = refl
      held_so s overwrites false = refl

      -- the leaf of the id holds this, and the others what they did
      pub content_at-changed : (leaf : PlacedNode) → IsIn d leaf
          → content_at (content_put d i c m) leaf.node.id ≡ (if leaf.node.id.0 == i.0 then c else content_at m leaf.node.id)
      content_at-changed leaf e =
          ap (λ b. content_by b (state_of (content_put d i c m).leaves leaf.node.id)) (overwriting-changed leaf e)
          ∙ ap (content_by (if leaf.node.id.0 == i.0 then c.overwrites else is_among m.overwriting leaf.node.id))
          (state-changed leaf.node.id)
          ∙ option_cases (state_of m.leaves leaf.node.id)
          (λ o. content_by (if leaf.node.id.0 == i.0 then c.overwrites else is_among m.overwriting leaf.node.id)
          (option_map (holding i c) o)
          ≡ (if leaf.node.id.0 == i.0 then c else content_by (is_among m.overwriting leaf.node.id) o))
          (λ none. absurd (false≢true (sym (ap is_some none) ∙ state-found leaf e)))
          (λ s found.
          let here : s.id ≡ leaf.node.id = found-id state_id leaf.node.id m.leaves s found in
          subst (λ id. content_by (if id.0 == i.0 then c.overwrites else is_among m.overwriting leaf.node.id)
          (Some (holding i c s))
          ≡ (if id.0 == i.0 then c else content_by (is_among m.overwriting leaf.node.id) (Some s))) here
          (held_so s (is_among m.overwriting leaf.node.id) (s.id.0 == i.0)))

      pub content_at-same : (leaf : PlacedNode) → leaf_at d i ≡ Some leaf → content_at (content_put d i c m) i ≡ c
      content_at-same leaf e =
          let is = leaf_at-is d i leaf e in
          ap (content_at (content_put d i c m)) (sym is) ∙ content_at-changed leaf (leaf_at-in i leaf e)
          ∙ ap (λ b. if b then c else content_at m leaf.node.id) (ap (λ id. id.0 == i.0) is ∙ id-itself i)

      pub content_at-other : (leaf : PlacedNode) → IsIn d leaf → (leaf.node.id.0 == i.0) ≡ false
          → content_at (content_put d i c m) leaf.node.id ≡ content_at m leaf.node.id
      content_at-other leaf e other = content_at-changed leaf e ∙ ap (λ b. if b then c else content_at m leaf.node.id) other

      pub leaves-changed : HasLeaves d (content_put d i c m)
      leaves-changed =
          map-map (holding i c) state_id m.leaves
          ∙ map-same (λ s. state_id (holding i c s)) state_id m.leaves (λ k e h. holding-id (get_or m.leaves k e)) ∙ leaves
