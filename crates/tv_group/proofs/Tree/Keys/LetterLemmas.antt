-- What a letter that any focus leaves to others makes of a dialog, through the views as in the machine.
use Rattle.std.proofs.Common.{◌≡◌, ℕ, Bool, true, false, ◌&&◌, not, ◌+◌, ◌-◌, ◌<◌, nat_le, List, [], length, find, Option, Some, None, is_some, option_map, if◌then◌else◌, refl, sym, ap, ◌∙◌, arith}
use Rattle.std.specs.List.{position}
use Rattle.std.proofs.lemmas.Bool.{and_parts, not-true}
use Rattle.std.proofs.lemmas.Bool.Decides.{nat_tests}
use Rattle.std.proofs.lemmas.List.Quantifiers.{position-Some}
use Rattle.tv_event.specs.declared.event.Event.TheVariants as events
use Rattle.tv_event.specs.declared.event.Key.{Key}
use Rattle.tv_event.specs.declared.event.Phase.{Phase}
use Rattle.tv_model.specs.declared.node.Id.{Id}
use Rattle.tv_model.specs.declared.node.Node.{Node}
use Rattle.tv_model.specs.declared.kind.Kind.{Kind}
use Rattle.tv_model.specs.declared.kind.Kind.TheVariants as kinds
use Rattle.tv_model.specs.declared.kind.MarkedText.{MarkedText}
use Rattle.tv_model.specs.declared.desc.Dialog.{Dialog}
use Rattle.tv_model.specs.Description.Marks.{marks, upper}
use Rattle.tv_model.specs.Description.Names.{meant}
use Rattle.tv_model.specs.Controls.Owner.{LetterOwner, control, item_at}
use Rattle.tv_model.specs.Description.Owners.{owner_by}
use Rattle.tv_model.specs.Kinds.{behaviour}
use Rattle.tv_model.specs.Controls.Shortcut.{item_marking, owner_in, Shortcut, NoMark, LinkMark, PressMark, ItemMarks, ClusterKind, Boxes, Radios}
use Rattle.tv_model.specs.Controls.Contents.{is_item_place}
use Rattle.tv_view.specs.Meaning.{Leaf, Placed}
use Rattle.tv_model.specs.Kinds.Cluster.{cluster_item_pressed}
use Rattle.tv_machine.specs.Leaves.{PlacedNode, leaf_list}
use Rattle.tv_machine.specs.Dialog.Focus.{request, request_then, requested, is_granted}
use Rattle.tv_machine.specs.Dialog.Modal.{Modal, content_at, leaf_at, content_put}
use Rattle.tv_machine.specs.Dialog.Rules.{is_enabled, is_kind_enabled, is_visible}
use Rattle.tv_machine.specs.Dialog.Shortcuts.{HaveOneMarker, act_on, call_item, called, is_visible_marker, marking_leaf, press_item, request_link}
use Rattle.tv_view.specs.declared.env.Env.{Env}
use Rattle.tv_view.specs.declared.reaction.Reaction.{Reaction}
use Rattle.tv_view.specs.declared.reaction.Reaction.TheVariants.{Pass}
use Rattle.tv_view.specs.Colours.{linked_by}
use Rattle.tv_view.specs.Reactions.{focus_on, item_call, keyed_answer, letter_answer, post_of, press_of, shortcut_answer}
use Rattle.tv_group.specs.Handling.{group_answer, is_awake, is_offered, is_pass, marks_letters, placed_answer, takes}
use Rattle.tv_machine.specs.Dialog.Lawful.{IsLawfulDialog}
use Rattle.tv_group.specs.Tree.{leaf_as, placed_as, tree_of}
use Rattle.tv_group.specs.TreeTurns.{IsLentBy, cluster_pressed_at, leaf_pressed, pressed_at, reacted}
use Rattle.tv_group.proofs.Tree.LeafListLemmas.{marks_letter}
use Rattle.tv_machine.proofs.ListLemmas.{found-passes}
use Rattle.tv_machine.proofs.SharedLemmas.{acts_visible}
use Rattle.tv_machine.proofs.LeafLemmas.{IsIn, found-in}
use Rattle.tv_group.proofs.Tree.Keys.TurnLemmas.{key-answer, scan-turn, turn_answer}

-- ---- letters in upper case

abbrev raised : ℕ → Bool → ℕ
raised ch b = if b then ch - 32 else ch

upper-raised : (ch : ℕ) (a b : Bool) → nat_le 97 ch ≡ a → nat_le ch 122 ≡ b → upper (raised ch (a && b)) ≡ raised ch (a && b)
upper-raised ch true true low high =
    let below : nat_le 97 (ch - 32) ≡ false = grind (arith, nat_tests) in
    ap (λ c. raised (ch - 32) (c && nat_le (ch - 32) 122)) below
upper-raised ch true false low high = ap (λ c. raised ch (nat_le 97 ch && c)) high ∙ ap (λ c. raised ch (c && false)) low
upper-raised ch false b low high = ap (λ c. raised ch (c && nat_le ch 122)) low

-- a letter in upper case is in upper case
pub upper-upper : (ch : ℕ) → upper (upper ch) ≡ upper ch
upper-upper ch = upper-raised ch (nat_le 97 ch) (nat_le ch 122) refl refl

-- ---- who answers to a letter

-- the item after a place
abbrev item_after : Option ℕ → Option ℕ
item_after place = option_map (λ n. n + 1) place

marked_if : (b : Bool) (owner : LetterOwner) (r : Reaction)
    → is_pass (if b then r else Pass) ≡ false → is_some (if b then Some owner else None) ≡ true
marked_if true owner r h = refl
marked_if false owner r h = sym h

marked_item : (leaf : Leaf) (name : List ℕ) (place : Option ℕ)
    → is_pass (item_call leaf (item_after place)) ≡ false → is_some (option_map (item_at name) place) ≡ true
marked_item leaf name None h = sym h
marked_item leaf name (Some n) h = refl

module _ (env : Env) (leaf : Leaf) where
  -- only a view that marks the letter answers to it
  letter-marks : (kind : Kind) (ch : ℕ) → is_pass (letter_answer env leaf kind (Some ch)) ≡ false
      → is_some (owner_by (upper ch) kind) ≡ true
  letter-marks kind ch = of (behaviour kind).shortcut
    where
      of : (s : Shortcut) → is_pass (shortcut_answer env leaf kind s (Some ch)) ≡ false → is_some (owner_in (upper ch) s) ≡ true
      of NoMark h = sym h
      of (LinkMark text name) h = marked_if (marks (upper ch) text) (control name) (focus_on (linked_by env leaf.node.kind)) h
      of (PressMark text name) h = marked_if (marks (upper ch) text) (control name) (press_of leaf kind) h
      of (ItemMarks cluster name items) h = marked_item leaf name (position (marks (upper ch)) items) h

  -- without a letter nobody answers
  pub letter-none : (kind : Kind) → letter_answer env leaf kind None ≡ Pass
  letter-none kind = of (behaviour kind).shortcut
    where
      of : (s : Shortcut) → shortcut_answer env leaf kind s None ≡ Pass
      of NoMark = refl
      of (LinkMark text name) = refl
      of (PressMark text name) = refl
      of (ItemMarks cluster name items) = refl

-- ---- what its answer comes to, by kind

-- the leaf, were it of the kind
abbrev pub of_kind : PlacedNode → Kind → PlacedNode
of_kind leaf kind = record leaf { node = record leaf.node { kind = kind } }

owner_if : (b : Bool) (owner : LetterOwner) → is_some (if b then Some owner else None) ≡ true → b ≡ true
owner_if true owner h = refl
owner_if false owner h = h

placed_item : (name : List ℕ) (place : Option ℕ) → is_some (option_map (item_at name) place) ≡ true → is_some place ≡ true
placed_item name None h = h
placed_item name (Some n) h = refl

then-same : (d : Dialog) (i : Id) (f g : Modal → Modal) (m : Modal) → ((n : Modal) → f n ≡ g n)
    → request_then d i f m ≡ request_then d i g m
then-same d i f g m same = ap (λ n. if is_granted (requested d m i) then n else request d i m) (same (request d i m))

item_there : (n count : ℕ) → n < count → is_item_place count (n + 1) ≡ true
item_there n count h = grind (arith, nat_tests)

module _ (d : Dialog) (m : Modal) where
  link_acts : (o : Option Node) → reacted d (focus_on (option_map (λ node. node.id) o)) m ≡ request_link d o m
  link_acts None = refl
  link_acts (Some link) = refl

  button_acts : (b : Bool) (r : Reaction) → reacted d (if b && true then r else Pass) m ≡ (if b then reacted d r m else m)
  button_acts true r = refl
  button_acts false r = refl

  -- a cluster of the id has these items
  abbrev HasItems : ClusterKind → List MarkedText → Id → Type 0
  HasItems kind items i = (item : ℕ) (n : Modal) → pressed_at d i item n ≡ cluster_pressed_at d kind (length items) i item n

  module _ (kind : ClusterKind) (items : List MarkedText) (leaf : Leaf) (has : HasItems kind items leaf.node.id) where
    item_acts : (letter : ℕ) (place : Option ℕ) → position (marks letter) items ≡ place → is_some place ≡ true
        → reacted d (item_call leaf (item_after place)) m ≡ call_item d kind leaf.node.id (item_after place) m
    item_acts letter None is there = cc
    item_acts letter (Some n) is there =
        let i = leaf.node.id in
        let h : n < length items = (position-Some (marks letter) items n (record { text = []; mark = None }) is).0 in
        then-same d i (pressed_at d i (n + 1)) (press_item d kind i (Some (n + 1))) m
        (λ k. has (n + 1) k
        ∙ ap (λ b. if b then content_put d i (cluster_item_pressed kind (n + 1) (content_at k i)) k else k) (item_there n (length items) h))

    cluster_acts : (name : List ℕ) (ch : ℕ) → is_some (option_map (item_at name) (position (marks (upper ch)) items)) ≡ true
        → reacted d (item_call leaf (item_marking items ch)) m ≡ call_item d kind leaf.node.id (item_marking items (upper ch)) m
    cluster_acts name ch there =
        item_acts (upper ch) (position (marks (upper ch)) items) refl (placed_item name (position (marks (upper ch)) items) there)
        ∙ ap (λ letter. call_item d kind leaf.node.id (item_after (position (marks letter) items)) m) (sym (upper-upper ch))

  module _ (env : Env) (E : IsLentBy d m env) where
    -- the leaf as the views see it
    abbrev seen : PlacedNode → Leaf
    seen leaf = leaf_as d m.leaves m leaf

    -- what it answers, if it is enabled
    abbrev enabled_answer : Leaf → Kind → ℕ → Reaction
    enabled_answer leaf kind ch =
        if is_kind_enabled d m.leaves kind && marks_letters kind then letter_answer env leaf kind (Some ch) else Pass

    kind_acts : (leaf : PlacedNode) (kind : Kind) (ch : ℕ) → leaf_at d leaf.node.id ≡ Some (of_kind leaf kind)
        → is_some (owner_by (upper ch) kind) ≡ true
        → reacted d (enabled_answer (seen (of_kind leaf kind)) kind ch) m ≡ called d (upper ch) (of_kind leaf kind) kind m
    kind_acts leaf (kinds.Label label) ch at there =
        ap (λ b. reacted d (if b then focus_on (linked_by env (kinds.Label label)) else Pass) m)
        (owner_if (marks (upper ch) label.text) (control label.link) there)
        ∙ ap (λ views. reacted d (focus_on (option_map (λ node. node.id) (meant views label.link))) m) E.views
        ∙ link_acts (meant d.views label.link)
    kind_acts leaf (kinds.Button button) ch at there =
        let post = post_of (seen (of_kind leaf (kinds.Button button))) button.command in
        let enabled = is_kind_enabled d m.leaves (kinds.Button button) in
        ap (λ b. reacted d (if enabled && true then (if b then post else Pass) else Pass) m)
        (owner_if (marks (upper ch) button.text) (control button.name) there)
        ∙ button_acts enabled post
    kind_acts leaf (kinds.CheckBoxes boxes) ch at there =
        cluster_acts Boxes boxes.items (seen (of_kind leaf (kinds.CheckBoxes boxes))) (λ item n. ap (λ o. leaf_pressed d o item n) at)
        boxes.name ch there
    kind_acts leaf (kinds.RadioButtons radios) ch at there =
        cluster_acts Radios radios.items (seen (of_kind leaf (kinds.RadioButtons radios))) (λ item n. ap (λ o. leaf_pressed d o item n) at)
        radios.name ch there
    kind_acts leaf _ ch at there = cc

    -- ---- the marker of the letter

    shown_acts : (leaf : PlacedNode) (ch : ℕ) (b : Bool) → IsIn d leaf → marks_letter (upper ch) leaf ≡ true
        → reacted d
        (if (b && is_enabled d m.leaves leaf.node) && marks_letters leaf.node.kind then
        letter_answer env (seen leaf) leaf.node.kind (Some ch)
        else Pass) m
        ≡ (if b then called d (upper ch) leaf leaf.node.kind m else m)
    shown_acts leaf ch true at there = kind_acts leaf leaf.node.kind ch at there
    shown_acts leaf ch false at there = refl

    module _ (lawful : IsLawfulDialog d) (markers : HaveOneMarker d m.leaves) (k : Key) (p : Phase) (ch : ℕ)
        (asks : (leaf : Leaf) → keyed_answer env leaf k p ≡ letter_answer env leaf leaf.node.kind (Some ch))
        (turn : (x : Placed) → is_offered (events.Key k) p x ≡ (is_awake x.leaf && marks_letters x.leaf.node.kind)) where
      -- the leaf in its place, and what it answers
      abbrev placed : PlacedNode → Placed
      placed leaf = placed_as d m.leaves m leaf

      abbrev answer_of : PlacedNode → Reaction
      answer_of leaf = placed_answer (events.Key k) p env (placed leaf)

      answer-letter : (leaf : PlacedNode) → answer_of leaf ≡ letter_answer env (seen leaf) leaf.node.kind (Some ch)
      answer-letter leaf = key-answer p env (placed leaf) k ∙ asks (seen leaf)

      -- a leaf that marks the letter, and is visible
      abbrev is_marker : PlacedNode → Bool
      is_marker = is_visible_marker d m.leaves (upper ch)

      -- only visible leaves are offered it
      offered_visible : (leaf : PlacedNode) → is_offered (events.Key k) p (placed leaf) ≡ true → is_visible d m.leaves leaf ≡ true
      offered_visible leaf offered =
          let awake : is_awake (seen leaf) ≡ true =
          (and_parts (is_awake (seen leaf)) (marks_letters leaf.node.kind) (sym (turn (placed leaf)) ∙ offered)).0 in
          (and_parts (is_visible d m.leaves leaf) (is_enabled d m.leaves leaf.node) awake).0

      letter_takes : (leaf : PlacedNode) → takes (events.Key k) p env (placed leaf) ≡ true → is_marker leaf ≡ true
      letter_takes leaf h =
          let parts = and_parts (is_offered (events.Key k) p (placed leaf)) (not (is_pass (answer_of leaf))) h in
          let there : marks_letter (upper ch) leaf ≡ true =
          letter-marks env (seen leaf) leaf.node.kind ch
          (sym (ap is_pass (answer-letter leaf)) ∙ not-true (is_pass (answer_of leaf)) parts.1) in
          ap (λ b. b && is_visible d m.leaves leaf) there ∙ offered_visible leaf parts.0

      marker_acts : (o : Option PlacedNode) → find is_marker (leaf_list d.views) ≡ o
          → reacted d (turn_answer (events.Key k) p env (option_map placed o)) m ≡ act_on d (upper ch) o m
      marker_acts None is = refl
      marker_acts (Some leaf) is =
          let there : marks_letter (upper ch) leaf ≡ true =
          (and_parts (marks_letter (upper ch) leaf) (is_visible d m.leaves leaf) (found-passes is_marker (leaf_list d.views) leaf is)).0 in
          ap (λ b. reacted d (if b then answer_of leaf else Pass) m) (turn (placed leaf))
          ∙ ap (λ r. reacted d (if is_awake (seen leaf) && marks_letters leaf.node.kind then r else Pass) m) (answer-letter leaf)
          ∙ shown_acts leaf ch (is_visible d m.leaves leaf) (found-in d lawful is_marker leaf is) there

      -- a letter acts on its marker
      pub letter_turn : reacted d (group_answer (events.Key k) p env (tree_of d m)) m
          ≡ act_on d (upper ch) (marking_leaf d m.leaves (upper ch)) m
      unfolding group_answer
      letter_turn =
          ap (λ r. reacted d r m)
          (scan-turn (events.Key k) p env placed is_marker (leaf_list d.views) letter_takes (markers (upper ch)))
          ∙ marker_acts (find is_marker (leaf_list d.views)) refl
          ∙ sym (acts_visible d (upper ch) m)
