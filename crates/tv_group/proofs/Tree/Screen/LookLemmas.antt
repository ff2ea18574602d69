-- How a leaf of the open dialog stands: what the dialog lends its views says what the machine says.
use Rattle.std.proofs.Common.{◌≡◌, ℕ, suc, Bool, true, false, cond, not, IsTrue, ◌==◌, ◌<◌, List, [], ◌∷◌, All, AllPairs, find, Option, Some, None, option_map, refl, sym, ap, ◌∙◌, arith}
use Rattle.std.specs.Prelude.{if◌then◌else◌, option_and_then}
use Rattle.std.specs.Option.{option_or}
use Rattle.std.proofs.lemmas.Bool.{eqb-true}
use Rattle.std.proofs.lemmas.Bool.Decides.{nat_tests}
use Rattle.std.proofs.lemmas.List.Elements.{All-nil, All-cons, All-head, All-tail}
use Rattle.tv_model.specs.declared.node.Id.{Id}
use Rattle.tv_model.specs.declared.node.Node.{Node}
use Rattle.tv_model.specs.declared.kind.Kind.{Kind}
use Rattle.tv_model.specs.declared.kind.Kind.TheVariants as kinds
use Rattle.tv_model.specs.declared.desc.Dialog.{Dialog}
use Rattle.tv_model.specs.Description.Names.{meant}
use Rattle.tv_model.specs.Kinds.{behaviour}
use Rattle.tv_model.specs.Description.Nodes.{AreRising, has_id, is_button, is_button_node, is_default, is_pane, node_of}
use Rattle.tv_machine.specs.Screen.Bodies.{is_default_now}
use Rattle.tv_machine.specs.State.{OpenDialog}
use Rattle.tv_machine.specs.Leaves.{PlacedNode, leaf_list, leaves_in, open_after, open_at}
use Rattle.tv_machine.specs.Dialog.Keys.{declared_default, if_button}
use Rattle.tv_machine.specs.Dialog.Modal.{Modal, leaf_at}
use Rattle.tv_machine.specs.Dialog.Rules.{is_enabled}
use Rattle.tv_machine.specs.Screen.Layers as screen
use Rattle.tv_view.specs.declared.env.Env.{Env}
use Rattle.tv_view.specs.Colours.{has_focus, is_link_focus, is_id, link_of, linked_by, lent_look}
use Rattle.tv_group.specs.Shown.{IsAtWork}
use Rattle.tv_group.specs.Tree.{leaf_as}
use Rattle.tv_group.specs.TreeTurns.{IsLentBy}

-- ---- numbers and pairs

eq_itself : (a : ℕ) → (a == a) ≡ true
eq_itself a = grind (arith, nat_tests)

eq_swap : (a b : ℕ) → (a == b) ≡ (b == a)
eq_swap a b = grind (arith, nat_tests)

eq_less : (a b : ℕ) → a < b → (a == b) ≡ false
eq_less a b h = grind (arith, nat_tests)

eq_more : (a b c : ℕ) → (a == c) ≡ true → a < b → (b == c) ≡ false
eq_more a b c e h = grind (arith, nat_tests)

false_unless : (b : Bool) → (b ≡ true → ⊥) → b ≡ false
false_unless true h = absurd (h refl)
false_unless false h = refl

pairs_first : {A : Type 0} (R : A → A → Type 0) (x : A) (xs : List A) → AllPairs R (x ∷ xs) → All (R x) xs
pairs_first R x xs all k d less = all 0 (suc k) d (omega arith) (omega arith)

pub pairs_rest : {A : Type 0} (R : A → A → Type 0) (x : A) (xs : List A) → AllPairs R (x ∷ xs) → AllPairs R xs
pairs_rest R x xs all i j d less within = all (suc i) (suc j) d (omega arith) (omega arith)

pub weaken : {A : Type 0} (P Q : A → Type 0) → ((x : A) → P x → Q x) → (xs : List A) → All P xs → All Q xs
weaken P Q weaker xs all k d less = weaker _ (all k d less)

-- ---- what is found

-- what was found is so
abbrev Holds : {A : Type 0} → (A → Bool) → Option A → Type 0
Holds p None = Unit {0}
Holds p (Some x) = p x ≡ true

find_holds : {A : Type 0} (p : A → Bool) (xs : List A) → Holds p (find p xs)
find_holds p [] = tt
find_holds p (x ∷ xs) = step (p x) refl (find_holds p xs)
  where
    step : (b : Bool) → p x ≡ b → Holds p (find p xs) → Holds p (cond b (Some x) (find p xs))
    step true e later = e
    step false e later = later

-- what holds of views holds of their leaves
leaves_all : (P : Node → Type 0) (panes views : List Node) → All P views → All (λ leaf. P leaf.node) (leaves_in panes views)
leaves_all P panes [] all = All-nil (λ leaf. P leaf.node)
leaves_all P panes (view ∷ views) all = step (is_pane view.kind) (leaves_all P (open_after panes view) views (All-tail P view views all))
  where
    step : (b : Bool) → All (λ leaf. P leaf.node) (leaves_in (open_after panes view) views)
        → All (λ leaf. P leaf.node)
        (if b then leaves_in (open_after panes view) views
        else record { node = view; panes = open_at view.depth panes } ∷ leaves_in (open_after panes view) views)
    step true rest = rest
    step false rest = All-cons (λ leaf. P leaf.node) (record { node = view; panes = open_at view.depth panes })
        (leaves_in (open_after panes view) views) (All-head P view views all) rest

leaf_none : (p : Node → Bool) (leaves : List PlacedNode) → All (λ leaf. p leaf.node ≡ false) leaves
    → find (λ leaf. p leaf.node) leaves ≡ None
leaf_none p [] none = refl
leaf_none p (leaf ∷ leaves) none =
    ap (λ b. cond b (Some leaf) (find (λ x. p x.node) leaves)) (All-head (λ x. p x.node ≡ false) leaf leaves none)
    ∙ leaf_none p leaves (All-tail (λ x. p x.node ≡ false) leaf leaves none)

-- ---- the button that has the focus

abbrev among_buttons : Option Node → Option Node
among_buttons None = None
among_buttons (Some node) = if is_button node.kind then Some node else None

no_button : (k : Kind) → is_pane k ≡ true → is_button k ≡ false
no_button (kinds.Button button) e = absurd cc
no_button _ e = refl

map_if : (b : Bool) (leaf : PlacedNode) → option_map (λ x. x.node) (if b then Some leaf else None) ≡ (if b then Some leaf.node else None)
map_if true leaf = refl
map_if false leaf = refl

-- the leaf of an id is the first view of the id, where both are a button
button-found : (i : Id) (panes views : List Node) → AreRising views
    → option_map (λ leaf. leaf.node) (if_button (find (λ leaf. leaf.node.id.0 == i.0) (leaves_in panes views)))
    ≡ among_buttons (node_of views i)
button-found i panes [] rising = refl
button-found i panes (view ∷ views) rising =
    step (is_pane view.kind) refl (view.id.0 == i.0) refl (button-found i (open_after panes view) views
    (pairs_rest (λ node later. node.id.0 < later.id.0) view views rising))
  where
    leaves : List PlacedNode
    leaves = leaves_in (open_after panes view) views

    here : PlacedNode
    here = record { node = view; panes = open_at view.depth panes }

    later : (view.id.0 == i.0) ≡ true → find (λ leaf. leaf.node.id.0 == i.0) leaves ≡ None
    later same =
        leaf_none (has_id i) leaves
        (leaves_all (λ node. (node.id.0 == i.0) ≡ false) (open_after panes view) views
        (weaken (λ node. view.id.0 < node.id.0) (λ node. (node.id.0 == i.0) ≡ false)
        (λ node less. eq_more view.id.0 node.id.0 i.0 same less) views
        (pairs_first (λ node after. node.id.0 < after.id.0) view views rising)))

    step : (b : Bool) → is_pane view.kind ≡ b → (same : Bool) → (view.id.0 == i.0) ≡ same
        → option_map (λ leaf. leaf.node) (if_button (find (λ leaf. leaf.node.id.0 == i.0) leaves)) ≡ among_buttons (node_of views i)
        → option_map (λ leaf. leaf.node) (if_button (find (λ leaf. leaf.node.id.0 == i.0) (if b then leaves else here ∷ leaves)))
        ≡ among_buttons (cond same (Some view) (node_of views i))
    step true pane true e rest =
        ap (λ o. option_map (λ leaf. leaf.node) (if_button o)) (later e)
        ∙ sym (ap (λ b. if b then Some view else None) (no_button view.kind pane))
    step true pane false e rest = rest
    step false pane true e rest =
        ap (λ b. option_map (λ leaf. leaf.node) (if_button (cond b (Some here) (find (λ leaf. leaf.node.id.0 == i.0) leaves)))) e
        ∙ map_if (is_button view.kind) here
    step false pane false e rest =
        ap (λ b. option_map (λ leaf. leaf.node) (if_button (cond b (Some here) (find (λ leaf. leaf.node.id.0 == i.0) leaves)))) e ∙ rest

-- ---- the declared default button

-- no two are so
abbrev pub NotBoth : (Node → Bool) → Node → Node → Type 0
NotBoth p one other = IsTrue (p one) → IsTrue (p other) → ⊥

other_id : (p : Node → Bool) (view : Node) (leaves : List PlacedNode) → All (λ leaf. (leaf.node.id.0 == view.id.0) ≡ false) leaves
    → is_id (option_map (λ leaf. leaf.node.id) (find (λ leaf. p leaf.node) leaves)) view.id ≡ false
other_id p view [] others = refl
other_id p view (leaf ∷ leaves) others =
    step (p leaf.node) (All-head (λ x. (x.node.id.0 == view.id.0) ≡ false) leaf leaves others)
    (other_id p view leaves (All-tail (λ x. (x.node.id.0 == view.id.0) ≡ false) leaf leaves others))
  where
    step : (b : Bool) → (leaf.node.id.0 == view.id.0) ≡ false
        → is_id (option_map (λ x. x.node.id) (find (λ x. p x.node) leaves)) view.id ≡ false
        → is_id (option_map (λ x. x.node.id) (cond b (Some leaf) (find (λ x. p x.node) leaves))) view.id ≡ false
    step true e rest = e
    step false e rest = rest

-- the first leaf that is so has the id of every one that is so
abbrev pub IsOfFirst : (Node → Bool) → List PlacedNode → PlacedNode → Type 0
IsOfFirst p leaves leaf = is_id (option_map (λ x. x.node.id) (find (λ x. p x.node) leaves)) leaf.node.id ≡ p leaf.node

pub one-first : (p : Node → Bool) (panes views : List Node) → AreRising views → AllPairs (NotBoth p) views
    → All (IsOfFirst p (leaves_in panes views)) (leaves_in panes views)
one-first p panes [] rising one = All-nil (IsOfFirst p [])
one-first p panes (view ∷ views) rising one =
    step (is_pane view.kind)
    (one-first p (open_after panes view) views (pairs_rest (λ node later. node.id.0 < later.id.0) view views rising)
    (pairs_rest (NotBoth p) view views one))
  where
    leaves : List PlacedNode
    leaves = leaves_in (open_after panes view) views

    here : PlacedNode
    here = record { node = view; panes = open_at view.depth panes }

    after : All (λ node. view.id.0 < node.id.0) views
    after = pairs_first (λ node later. node.id.0 < later.id.0) view views rising

    others : All (λ leaf. (leaf.node.id.0 == view.id.0) ≡ false) leaves
    others =
        leaves_all (λ node. (node.id.0 == view.id.0) ≡ false) (open_after panes view) views
        (weaken (λ node. view.id.0 < node.id.0) (λ node. (node.id.0 == view.id.0) ≡ false)
        (λ node less. eq_swap node.id.0 view.id.0 ∙ eq_less view.id.0 node.id.0 less) views after)

    alone : p view ≡ true → All (λ leaf. (view.id.0 == leaf.node.id.0) ≡ p leaf.node) leaves
    alone is =
        leaves_all (λ node. (view.id.0 == node.id.0) ≡ p node) (open_after panes view) views
        (λ k d less. eq_less view.id.0 _ (after k d less)
        ∙ sym (false_unless (p _) (λ so. pairs_first (NotBoth p) view views one k d less is so)))

    found : (b : Bool) → p view ≡ b → All (IsOfFirst p leaves) leaves
        → All (λ leaf. is_id (option_map (λ x. x.node.id) (cond b (Some here) (find (λ x. p x.node) leaves))) leaf.node.id ≡ p leaf.node)
        (here ∷ leaves)
    found true e rest =
        All-cons (λ leaf. (view.id.0 == leaf.node.id.0) ≡ p leaf.node) here leaves (eq_itself view.id.0 ∙ sym e) (alone e)
    found false e rest = All-cons (IsOfFirst p leaves) here leaves (other_id p view leaves others ∙ sym e) rest

    step : (b : Bool) → All (IsOfFirst p leaves) leaves
        → All (IsOfFirst p (if b then leaves else here ∷ leaves)) (if b then leaves else here ∷ leaves)
    step true rest = rest
    step false rest = found (p view) refl rest

-- ---- what Enter presses

module _ (focus : Id) (node : Node) (default : Option PlacedNode)
    (is : is_id (option_map (λ leaf. leaf.node.id) default) node.id ≡ is_default node) where
  target : (button : Option PlacedNode) (view : Option Node) → option_map (λ leaf. leaf.node) button ≡ among_buttons view
      → Holds (has_id focus) view
      → is_id (option_map (λ leaf. leaf.node.id) (option_or button default)) node.id
      ≡ (if is_button_node view then node.id.0 == focus.0 else is_default node)
  target None None e has = is
  target (Some leaf) None e has = absurd cc
  target None (Some view) e has = step (is_button view.kind) e
    where
      step : (b : Bool) → None ≡ (if b then Some view else None)
          → is_id (option_map (λ leaf. leaf.node.id) default) node.id ≡ (if b then node.id.0 == focus.0 else is_default node)
      step true f = absurd cc
      step false f = is
  target (Some leaf) (Some view) e has = step (is_button view.kind) e
    where
      step : (b : Bool) → Some leaf.node ≡ (if b then Some view else None)
          → (leaf.node.id.0 == node.id.0) ≡ (if b then node.id.0 == focus.0 else is_default node)
      step true f =
          let same : leaf.node ≡ view = cc in
          let at : leaf.node.id.0 ≡ focus.0 = ap (λ n. n.id.0) same ∙ eqb-true view.id.0 focus.0 has in
          ap (λ k. k == node.id.0) at ∙ eq_swap focus.0 node.id.0
      step false f = absurd cc

-- ---- looks

module _ (d : Dialog) (o : OpenDialog) (overwriting : List Id) (m : Modal) (work : IsAtWork o overwriting m) (env : Env)
    (lent : IsLentBy d m env) where
  focus-seen : (i : Id) → has_focus env i ≡ (i.0 == o.focus.0)
  focus-seen i = ap (λ f. is_id f i) (lent.focus ∙ ap Some work.focus) ∙ eq_swap o.focus.0 i.0

  link-seen : (view : Option Node) → is_link_focus env (option_map (λ node. node.id) view) ≡ screen.is_focus o.focus view
  link-seen None = refl
  link-seen (Some node) = focus-seen node.id

  linked-seen : (k : Kind) → is_link_focus env (linked_by env k) ≡ screen.is_linked d.views o.focus k
  linked-seen k = of (behaviour k).link
    where
      of : (link : Option (List ℕ))
          → is_link_focus env (option_and_then (link_of env.views.now) link) ≡ screen.is_linked_by d.views o.focus link
      of None = refl
      of (Some name) = ap (λ views. is_link_focus env (link_of views name)) lent.views ∙ link-seen (meant d.views name)

  default-seen : AreRising d.views → (leaf : PlacedNode) → IsOfFirst is_default (leaf_list d.views) leaf
      → is_id env.default_now leaf.node.id ≡ is_default_now d.views o.focus leaf.node
  default-seen rising leaf first =
      ap (λ i. is_id i leaf.node.id) lent.default_now
      ∙ target m.focus leaf.node (declared_default d) first (if_button (leaf_at d m.focus)) (node_of d.views m.focus)
      (button-found m.focus [] d.views rising) (find_holds (has_id m.focus) d.views)
      ∙ ap (λ f. is_default_now d.views f leaf.node) work.focus

  -- a leaf of the tree looks as the machine's does
  pub look-seen : AreRising d.views → (leaf : PlacedNode) → IsOfFirst is_default (leaf_list d.views) leaf
      → lent_look env (leaf_as d m.leaves m leaf) ≡ screen.look_of d o leaf.node
  look-seen rising leaf first =
      λ i. record {
        is_focused = focus-seen leaf.node.id i;
        is_default_now = default-seen rising leaf first i;
        is_disabled = not (is_enabled d (work.leaves i) leaf.node);
        is_linked = linked-seen leaf.node.kind i;
      }
