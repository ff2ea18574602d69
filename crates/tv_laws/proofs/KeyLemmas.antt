-- Keys while nothing holds the mouse: the dialog goes on, or it ends as it should.
use Rattle.std.proofs.Common.{◌≡◌, true, ◌==◌, ℕ, if◌then◌else◌, ◌∷◌, Option, Some, None, refl, sym, ap, subst, ◌∙◌, All}
use Rattle.std.proofs.lemmas.List.Elements.{All-tail}
use Rattle.tv_event.specs.declared.event.Key.{Key}
use Rattle.tv_event.specs.declared.event.Key.TheVariants as keys
use Rattle.tv_model.specs.declared.node.Id.{Id}
use Rattle.tv_model.specs.declared.node.Node.{Node}
use Rattle.tv_model.specs.Kinds.{behaviour}
use Rattle.tv_model.specs.declared.desc.Dialog.{Dialog}
use Rattle.tv_model.specs.Controls.Shortcut.{item_marking, Shortcut, NoMark, LinkMark, PressMark, ItemMarks}
use Rattle.tv_model.specs.Description.LawfulNodes.{HasLawfulCount, IsLimited, IsNarrowNode, IsNarrowText}
use Rattle.tv_model.specs.Description.Marks.{upper}
use Rattle.tv_model.specs.Description.Names.{meant}
use Rattle.tv_model.specs.Description.Texts.{shown_texts}
use Rattle.tv_machine.specs.Leaves.{PlacedNode}
use Rattle.tv_model.specs.Controls.Contents.{Content}
use Rattle.tv_model.specs.Controls.Behaviour.{Answer, Becomes, Passed, Presses}
use Rattle.tv_model.specs.Kinds.Cluster.{cluster_item_pressed}
use Rattle.tv_machine.specs.Controls.Tables.{key_answer}
use Rattle.tv_machine.specs.Dialog.Ending.{press}
use Rattle.tv_machine.specs.Dialog.Focus.{next_free, previous_free, request, stops_of}
use Rattle.tv_machine.specs.Dialog.Keys.{alt_keyed, answered, enter_target, focus_keyed, key, keyed, passed_on, press_enabled}
use Rattle.tv_machine.specs.Dialog.Modal.{Modal, content_at, leaf_at, content_put}
use Rattle.tv_machine.specs.Dialog.Rules.{is_enabled, is_visible}
use Rattle.tv_machine.specs.Dialog.Shortcuts.{act, act_on, called, called_by, marking_leaf, press_item, request_link}
use Rattle.tv_laws.specs.Ends.{IsDone}
use Rattle.tv_laws.specs.Fit.{IsFitContent}
use Rattle.tv_laws.specs.Sound.{IsSoundDialog}
use Rattle.tv_laws.proofs.EndLemmas.{command-done, press-done}
use Rattle.tv_laws.proofs.FreeLemmas.{IsFree, free-done, free-focus, free-request, request-then}
use Rattle.tv_laws.proofs.ItemLemmas.{marking-item}
use Rattle.tv_laws.proofs.KindLemmas.{IsFitAnswer, item-called, key-fit}
use Rattle.tv_machine.proofs.LeafLemmas.{IsIn, leaf_at-in, leaf_at-is, leaf_at-node}
use Rattle.tv_machine.proofs.ListLemmas.{bool_cases, id-itself, option_cases}
use Rattle.tv_laws.proofs.MarkerLemmas.{marker-in}
use Rattle.tv_laws.proofs.StandLemmas.{standing-leaf}

module _ (d : Dialog) (sound : IsSoundDialog d) where
  -- ---- leaves

  pub leaf-count : (i : Id) (leaf : PlacedNode) → leaf_at d i ≡ Some leaf → HasLawfulCount leaf.node.kind
  leaf-count i leaf e = (leaf_at-node IsLimited d i leaf (views_limited sound.lawful.limits) e).count
    where
      views_limited : All IsLimited (d.node ∷ d.views) → All IsLimited d.views
      views_limited all = All-tail IsLimited d.node d.views all

  leaf_narrow : (i : Id) (leaf : PlacedNode) → leaf_at d i ≡ Some leaf → All IsNarrowText (shown_texts leaf.node.kind)
  leaf_narrow i leaf e = leaf_at-node IsNarrowNode d i leaf sound.narrow e

  -- what the focus holds
  pub focus-content : (m : Modal) (leaf : PlacedNode) → IsFree d m → leaf_at d m.focus ≡ Some leaf
      → IsFitContent true leaf.node.kind (content_at m leaf.node.id)
  focus-content m leaf f there =
      subst (λ b. IsFitContent b leaf.node.kind (content_at m leaf.node.id)) (ap (λ id. id.0 == m.focus.0) (leaf_at-is d m.focus leaf there) ∙ id-itself m.focus)
      (standing-leaf d sound m f.fit.standing leaf (leaf_at-in d sound.lawful m.focus leaf there))

  -- the focus, by its own id, holds something else
  pub focus-becomes : (m : Modal) (c : Content) (leaf : PlacedNode) → IsFree d m → IsIn d leaf → m.focus ≡ leaf.node.id
      → IsFitContent true leaf.node.kind c → IsFree d (content_put d leaf.node.id c m)
  focus-becomes m c leaf f e is fits = subst (λ i. IsFree d (content_put d i c m)) is (free-focus d sound m c leaf f (ap (leaf_at d) is ∙ e) fits)

  -- ---- letters

  link_free : (link : Option Node) (m : Modal) → IsFree d m → IsFree d (request_link d link m)
  link_free None m f = f
  link_free (Some node) m f = free-request d sound m node.id f

  pub link-done : (link : Option Node) (m : Modal) → IsFree d m → IsDone d (request_link d link m)
  link-done link m f = free-done d (request_link d link m) (link_free link m f)

  -- the item of a marker is pressed once the focus is there
  called_done : (m : Modal) (leaf : PlacedNode) (letter : ℕ) (shortcut : Shortcut) → IsIn d leaf → (behaviour leaf.node.kind).shortcut ≡ shortcut
      → IsFree d m → IsDone d (called_by d letter leaf shortcut m)
  called_done m leaf letter NoMark e is f = free-done d m f
  called_done m leaf letter (LinkMark text name) e is f = link-done (meant d.views name) m f
  called_done m leaf letter (PressMark text name) e is f =
      bool_cases (is_enabled d m.leaves leaf.node) (λ b. IsDone d (if b then press d leaf m else m)) (λ enabled. press-done d sound leaf m f) (λ disabled. free-done d m f)
  called_done m leaf letter (ItemMarks cluster name items) e is f =
      request-then d sound (IsDone d) m leaf.node.id (press_item d cluster leaf.node.id (item_marking items letter)) f (λ n g. free-done d n g)
      (λ n g at marks. option_cases (item_marking items letter) (λ o. IsDone d (press_item d cluster leaf.node.id o n)) (λ none. free-done d n g)
      (λ item found.
      let c = content_at n leaf.node.id in
      free-done d (content_put d leaf.node.id (cluster_item_pressed cluster item c) n)
      (focus-becomes n (cluster_item_pressed cluster item c) leaf g e at
      (item-called leaf.node.kind cluster name items item c is (marking-item items letter item found) (focus-content n leaf g (ap (leaf_at d) at ∙ e))))))

  act_done : (letter : ℕ) (leaf : PlacedNode) (m : Modal) → IsIn d leaf → IsFree d m → IsDone d (act d letter leaf m)
  act_done letter leaf m e f =
      bool_cases (is_visible d m.leaves leaf) (λ b. IsDone d (if b then called d letter leaf leaf.node.kind m else m))
      (λ shown. called_done m leaf letter (behaviour leaf.node.kind).shortcut e refl f) (λ hidden. free-done d m f)

  marker_done : (letter : ℕ) (m : Modal) → IsFree d m → IsDone d (act_on d letter (marking_leaf d m.leaves letter) m)
  marker_done letter m f =
      option_cases (marking_leaf d m.leaves letter) (λ o. IsDone d (act_on d letter o m)) (λ none. free-done d m f)
      (λ leaf found. act_done letter leaf m (marker-in d m.leaves sound.lawful letter leaf found) f)

  -- ---- the focused control

  passed_done : (k : Key) (m : Modal) → IsFree d m → IsDone d (passed_on d k m)
  passed_done (keys.Char ch) m f = marker_done (upper ch) m f
  passed_done _ m f = free-done d m f

  answered_done : (k : Key) (leaf : PlacedNode) (a : Answer) (m : Modal) → IsIn d leaf → m.focus ≡ leaf.node.id
      → IsFitAnswer true leaf.node.kind a → IsFree d m → IsDone d (answered d k leaf a m)
  answered_done k leaf Passed m e at fits f = passed_done k m f
  answered_done k leaf (Becomes c) m e at fits f = free-done d (content_put d leaf.node.id c m) (focus-becomes m c leaf f e at fits)
  answered_done k leaf Presses m e at fits f = press-done d sound leaf m f

  focus_done : (k : Key) (m : Modal) → IsFree d m → IsDone d (focus_keyed d k m)
  focus_done k m f =
      option_cases (leaf_at d m.focus) (λ o. IsDone d (keyed d k o m)) (λ none. passed_done k m f)
      (λ leaf there.
      answered_done k leaf (key_answer leaf.node.kind k (content_at m leaf.node.id)) m (leaf_at-in d sound.lawful m.focus leaf there) (sym (leaf_at-is d m.focus leaf there))
      (key-fit leaf.node.kind k (content_at m leaf.node.id) (leaf_narrow m.focus leaf there) (leaf-count m.focus leaf there) (focus-content m leaf f there)) f)

  -- ---- keys

  enter_done : (target : Option PlacedNode) (m : Modal) → IsFree d m → IsDone d (press_enabled d target m)
  enter_done None m f = free-done d m f
  enter_done (Some leaf) m f =
      bool_cases (is_enabled d m.leaves leaf.node) (λ b. IsDone d (if b then press d leaf m else m)) (λ enabled. press-done d sound leaf m f) (λ disabled. free-done d m f)

  alt_done : (letter : ℕ) (m : Modal) → IsFree d m → IsDone d (alt_keyed d letter (marking_leaf d m.leaves letter) m)
  alt_done letter m f =
      option_cases (marking_leaf d m.leaves letter) (λ o. IsDone d (alt_keyed d letter o m)) (λ none. focus_done (keys.Alt letter) m f)
      (λ leaf found. act_done letter leaf m (marker-in d m.leaves sound.lawful letter leaf found) f)

  -- a key while nothing holds the mouse
  pub key-done : (k : Key) (m : Modal) → IsFree d m → IsDone d (key d k m)
  key-done keys.Tab m f = let to = next_free (stops_of d m.leaves) m.focus in free-done d (request d to m) (free-request d sound m to f)
  key-done keys.ShiftTab m f = let to = previous_free (stops_of d m.leaves) m.focus in free-done d (request d to m) (free-request d sound m to f)
  key-done keys.Esc m f = command-done d sound 11 m f
  key-done keys.Enter m f = enter_done (enter_target d m) m f
  key-done (keys.Alt letter) m f = alt_done letter m f
  key-done k m f = focus_done k m f
