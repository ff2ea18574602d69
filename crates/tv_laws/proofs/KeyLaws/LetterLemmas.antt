-- Letters: the machine's marker of a letter is the view whose owner the certificate names, and each shortcut is its act.
use Rattle.std.proofs.Common.{[], ◌≡◌, Bool, true, false, cond, ◌&&◌, ◌+◌, ◌-◌, ◌==◌, ℕ, nat_le, if◌then◌else◌, List, ◌∷◌, filter, find, get_or, Option, Some, None, option_map, option_and_then, is_some, refl, sym, ap, subst, ◌∙◌, AllPairs, IsTrue, arith}
use Rattle.std.specs.Prelude.{not, option_to_list, pos, position, slice_get}
use Rattle.std.proofs.lemmas.Bool.{and_from, and_parts, eqb-true, false≢true}
use Rattle.std.proofs.lemmas.Bool.Decides.{nat_tests}
use Rattle.std.proofs.lemmas.List.Kept.{AllPairs-cons}
use Rattle.std.proofs.lemmas.List.Quantifiers.{position-Some}
use Rattle.std.proofs.lemmas.Slice.Eq.{bytes_eq-Decides}
use Rattle.tv_event.specs.declared.event.Event.TheVariants as events
use Rattle.tv_event.specs.declared.event.Key.TheVariants as keys
use Rattle.tv_model.specs.declared.node.Node.{Node}
use Rattle.tv_model.specs.declared.kind.Kind.{Kind}
use Rattle.tv_model.specs.declared.kind.Kind.TheVariants as kinds
use Rattle.tv_model.specs.Kinds.{behaviour}
use Rattle.tv_model.specs.declared.kind.MarkedText.{MarkedText}
use Rattle.tv_model.specs.declared.desc.Dialog.{Dialog}
use Rattle.tv_model.specs.declared.desc.Version.{Version}
use Rattle.tv_model.specs.Controls.Shortcut.{item_marking, ClusterKind, Boxes, Radios, Shortcut, LinkMark, PressMark}
use Rattle.tv_model.specs.Kinds.Cluster as clusters
use Rattle.tv_model.specs.Kinds.Cluster.{of_letter, selected_of, cluster_answer}
use Rattle.tv_model.specs.Description.Marks.{is_option_letter, marks, upper}
use Rattle.tv_model.specs.Description.Names.{gives_name, is_option_named, meant}
use Rattle.tv_model.specs.Description.Nodes.{is_button, is_control, is_pane, name_of}
use Rattle.tv_model.specs.Description.Owners as owners
use Rattle.tv_model.specs.Controls.Owner.{LetterOwner, control, item_at}
use Rattle.tv_model.specs.Description.Owners.{KeyOwner, always, owner_by, owners_at, owners_of}
use Rattle.tv_model.specs.Description.Sharing.{sharer_by, sharing_rules}
use Rattle.tv_machine.specs.State.{LeafState}
use Rattle.tv_machine.specs.Dialog.Lawful.{IsLawfulDialog, Marks}
use Rattle.tv_machine.specs.Leaves.{PlacedNode, leaf_list, leaves_in, open_after, open_at}
use Rattle.tv_model.specs.Controls.Contents.{Content}
use Rattle.tv_model.specs.Controls.Behaviour.{Passed}
use Rattle.tv_machine.specs.Controls.Tables.{key_answer}
use Rattle.tv_machine.specs.Dialog.Focus.{Moved, NotFree, Refused, Same, after_request, is_free_at, is_free_leaf, is_granted, keeps_focus, requested}
use Rattle.tv_machine.specs.Dialog.Keys.{alt_keyed, answered, keyed}
use Rattle.tv_machine.specs.Dialog.Modal.{Modal, content_at, leaf_at}
use Rattle.tv_machine.specs.Dialog.Rules.{is_enabled, is_visible}
use Rattle.tv_machine.specs.Dialog.Shortcuts.{act_on, call_item, called, is_visible_marker, marker_among, marking_leaf, marking_leaves, press_item}
use Rattle.tv_machine.specs.Dialog.Step.{step_by}
use Rattle.tv_laws.specs.Fit.{IsFitModal, IsStanding}
use Rattle.tv_laws.specs.Letters.{AreLinesOf, AreOtherItems, HasLines, HasLinesOf, HasOwnNames, CertificateNamesMarker, OneLineInFirstVersion, control_by, holds_now, item_by}
use Rattle.tv_laws.proofs.KeyLaws.MarkerActs.{AltLettersAct, IsOwner, OwnLettersAct, TypedLettersAct}
use Rattle.tv_laws.specs.Sound.{IsSoundDialog}
use Rattle.tv_machine.proofs.LeafLemmas.{IsIn, leaf_at-all, leaf_at-is, leaf_at-node, leaves-all}
use Rattle.tv_machine.proofs.ListLemmas.{bool_cases, found-passes, id-itself, none-fails, option_cases, pairs-head, pairs-tail}
use Rattle.tv_laws.proofs.MarkerLemmas.{marker-in, marker-line, none_kept, only_found, only_kept, visible-is-marker}

-- ---- letters in upper case

abbrev raised : ℕ → Bool → ℕ
raised ch b = if b then ch - 32 else ch

upper_raised : (ch : ℕ) (a b : Bool) → nat_le 97 ch ≡ a → nat_le ch 122 ≡ b → upper (raised ch (a && b)) ≡ raised ch (a && b)
upper_raised ch true true low high =
    let below : nat_le 97 (ch - 32) ≡ false = grind (arith, nat_tests) in
    ap (λ c. raised (ch - 32) (c && nat_le (ch - 32) 122)) below
upper_raised ch true false low high = ap (λ c. raised ch (nat_le 97 ch && c)) high ∙ ap (λ c. raised ch (c && false)) low
upper_raised ch false b low high = ap (λ c. raised ch (c && nat_le ch 122)) low

upper_upper : (ch : ℕ) → upper (upper ch) ≡ upper ch
upper_upper ch = upper_raised ch (nat_le 97 ch) (nat_le ch 122) refl refl

-- what a text marks is in upper case
marked_upper : (letter : ℕ) (text : MarkedText) → marks letter text ≡ true → upper letter ≡ letter
marked_upper letter text is = of (option_and_then (slice_get text.text) text.mark) is
  where
    of : (o : Option ℕ) → is_option_letter letter (option_map upper o) ≡ true → upper letter ≡ letter
    of None e = absurd (false≢true e)
    of (Some ch) e = let same : upper ch ≡ letter = eqb-true (upper ch) letter e in ap upper (sym same) ∙ upper_upper ch ∙ same

pub found-upper : (letter : ℕ) (items : List MarkedText) (place : ℕ) → position (marks letter) items ≡ Some place → upper letter ≡ letter
found-upper letter items place e =
    marked_upper letter (get_or items place nothing) (position-Some (marks letter) items place nothing e).1
  where
    nothing : MarkedText
    nothing = record { text = []; mark = None }

-- ---- what a marker acts on, by what marks its letter

-- a label's letter is for the control of the name, any other for the marker itself
abbrev pub control_in : Dialog → Node → Shortcut → Option Node
control_in d marker (LinkMark text name) = meant d.views name
control_in d marker _ = Some marker

pub control-in : (d : Dialog) (marker : Node) (k : Kind) → control_by d marker k ≡ control_in d marker (behaviour k).shortcut
control-in d marker (kinds.Label label) = refl
control-in d marker _ = refl

-- whether the letter presses the marker: a button's alone
abbrev pub is_press_mark : Shortcut → Bool
is_press_mark (PressMark text name) = true
is_press_mark _ = false

pub press-mark : (k : Kind) → is_button k ≡ is_press_mark (behaviour k).shortcut
press-mark (kinds.Button button) = refl
press-mark _ = refl

-- ---- the marker is the certificate's

abbrev marks_it : ℕ → PlacedNode → Bool
marks_it letter leaf = is_some (owner_by letter leaf.node.kind)

pane_unmarked : (letter : ℕ) (k : Kind) → is_pane k ≡ true → is_some (owner_by letter k) ≡ false
pane_unmarked letter (kinds.Pane pane) is = refl
pane_unmarked letter _ is = absurd (false≢true is)

same_marker : (letter : ℕ) (panes views : List Node)
    → option_map (λ leaf. leaf.node) (find (marks_it letter) (leaves_in panes views)) ≡ find (λ node. is_some (owner_by letter node.kind)) views
same_marker letter panes [] = refl
same_marker letter panes (view ∷ views) =
    let rest = leaves_in (open_after panes view) views in
    let leaf : PlacedNode = record { node = view; panes = open_at view.depth panes } in
    let later = find (λ node. is_some (owner_by letter node.kind)) views in
    let more = same_marker letter (open_after panes view) views in
    bool_cases (is_pane view.kind)
    (λ b. option_map (λ x. x.node) (find (marks_it letter) (if b then rest else leaf ∷ rest)) ≡ cond (is_some (owner_by letter view.kind)) (Some view) later)
    (λ is. more ∙ sym (ap (λ b. cond b (Some view) later) (pane_unmarked letter view.kind is)))
    (λ is. bool_cases (is_some (owner_by letter view.kind))
    (λ b. option_map (λ x. x.node) (cond b (Some leaf) (find (marks_it letter) rest)) ≡ cond b (Some view) later) (λ yes. refl) (λ no. more))

-- the first of some
abbrev first : {A : Type 0} → List A → Option A
first [] = None
first (x ∷ xs) = Some x

first_passing : {A : Type 0} (p : A → Bool) (xs : List A) → first (filter p xs) ≡ find p xs
first_passing p [] = refl
first_passing p (x ∷ xs) =
    bool_cases (p x) (λ b. first (cond b (x ∷ filter p xs) (filter p xs)) ≡ cond b (Some x) (find p xs)) (λ yes. refl) (λ no. first_passing p xs)

-- where one line at most is for some markers, the first of these acts
one_line : (d : Dialog) (leaves : List LeafState) (letter : ℕ) (line : Option KeyOwner) (markers : List PlacedNode)
    → AreLinesOf d letter (option_to_list line) markers → marker_among d leaves markers ≡ first markers
one_line d leaves letter None [] are = refl
one_line d leaves letter None (marker ∷ markers) are = absurd are
one_line d leaves letter (Some line) [] are = refl
one_line d leaves letter (Some line) (marker ∷ []) are = refl
one_line d leaves letter (Some line) (marker ∷ other ∷ markers) are = absurd are.1

pub marks-alike : (version : Version) (d : Dialog) → HasLines version d → CertificateNamesMarker version d
marks-alike version d has leaves letter unshared =
    ap (option_map (λ leaf. leaf.node))
    (one_line d leaves letter (option_map always (owners.owner_of d letter)) (marking_leaves d letter)
    (subst (λ o. AreLinesOf d letter (owners_at d letter o) (marking_leaves d letter)) unshared (has letter).markers)
    ∙ first_passing (marks_it letter) (leaf_list d.views))
    ∙ same_marker letter [] d.views

-- ---- the lines of a letter that one leaf at most marks

-- what is so of each two views is so of each two leaves
leaves_pairs : (R : Node → Node → Type 0) (panes views : List Node) → AllPairs R views → AllPairs (λ leaf other. R leaf.node other.node) (leaves_in panes views)
leaves_pairs R panes [] pairs = λ i j e less h. absurd (omega (arith, less, h))
leaves_pairs R panes (view ∷ views) pairs =
    let rest = leaves_in (open_after panes view) views in
    let leaf : PlacedNode = record { node = view; panes = open_at view.depth panes } in
    let more = leaves_pairs R (open_after panes view) views (pairs-tail R view views pairs) in
    bool_cases (is_pane view.kind) (λ b. AllPairs (λ x y. R x.node y.node) (if b then rest else leaf ∷ rest)) (λ is. more)
    (λ is. AllPairs-cons (λ x y. R x.node y.node) leaf rest (leaves-all (R view) (open_after panes view) views (pairs-head R view views pairs)) more)

-- the line of a leaf alone
one_is : (version : Version) (d : Dialog) (letter : ℕ) (line : Option KeyOwner) (markers : List PlacedNode) → owners_of version d letter ≡ option_to_list line
    → marking_leaves d letter ≡ markers → AreLinesOf d letter (option_to_list line) markers → ((own : KeyOwner) → line ≡ Some own → own.when ≡ None)
    → HasLinesOf version d letter
one_is version d letter line markers owned marked are alone = record {
  markers = subst (λ leaves. AreLinesOf d letter (owners_of version d letter) leaves) (sym marked)
      (subst (λ lines. AreLinesOf d letter lines markers) (sym owned) are);
  alone = λ own e. alone own (of line own (sym owned ∙ e));
  apart = subst (AllPairs (λ own other. AreOtherItems own.when other.when)) (sym owned) (single line);
}
  where
    of : (o : Option KeyOwner) (own : KeyOwner) → option_to_list o ≡ own ∷ [] → o ≡ Some own
    of None own e = absurd cc
    of (Some other) own e = cc

    single : (o : Option KeyOwner) → AllPairs (λ own other. AreOtherItems own.when other.when) (option_to_list o)
    single None = λ i j e less h. absurd (omega (arith, less, h))
    single (Some own) = λ i j e less h. absurd (omega (arith, less, h))

-- a letter that isn't shared, and that no two views mark, has the line of its marker
pub lines-alone : (version : Version) (d : Dialog) (letter : ℕ) → sharer_by (sharing_rules version d.rules) d.views letter ≡ None
    → AllPairs (λ view other. Marks letter view → Marks letter other → ⊥) d.views → HasLinesOf version d letter
lines-alone version d letter unshared pairs =
    let same = same_marker letter [] d.views in
    let owned : owners_of version d letter ≡ option_to_list (option_map always (owners.owner_of d letter)) = ap (owners_at d letter) unshared in
    option_cases (find (marks_it letter) (leaf_list d.views)) (λ o. find (marks_it letter) (leaf_list d.views) ≡ o → HasLinesOf version d letter)
    (λ none e.
    let no_marker : owners.marker_of d letter ≡ None = sym same ∙ ap (option_map (λ leaf. leaf.node)) e in
    one_is version d letter None [] (owned ∙ ap (λ o. option_to_list (option_map always (option_and_then (λ node. owner_by letter node.kind) o))) no_marker)
    (none_kept (marks_it letter) (leaf_list d.views) (none-fails (marks_it letter) (leaf_list d.views) e)) tt (λ own f. absurd cc))
    (λ leaf some e.
    let marker : owners.marker_of d letter ≡ Some leaf.node = sym same ∙ ap (option_map (λ x. x.node)) e in
    let kept : marking_leaves d letter ≡ leaf ∷ [] = only_kept (marks_it letter) (leaf_list d.views) leaf (leaves_pairs (λ view other. Marks letter view → Marks letter other → ⊥) [] d.views pairs) e in
    option_cases (owner_by letter leaf.node.kind) (λ o. owner_by letter leaf.node.kind ≡ o → HasLinesOf version d letter)
    (λ none f. absurd (false≢true (sym (ap is_some f) ∙ found-passes (marks_it letter) (leaf_list d.views) leaf e)))
    (λ owner given f.
    one_is version d letter (Some (always owner)) (leaf ∷ [])
    (owned ∙ ap (λ o. option_to_list (option_map always (option_and_then (λ node. owner_by letter node.kind) o))) marker ∙ ap (λ o. option_to_list (option_map always o)) f)
    kept (record { owner = f; when = tt }, tt) (λ own g. let is : always owner ≡ own = cc in ap (λ x. x.when) (sym is)))
    refl)
    refl

-- in version 1 the line of a letter holds
pub one-line-in-first-version : (d : Dialog) → OneLineInFirstVersion d
one-line-in-first-version d leaves letter = of (owners.owner_of d letter)
  where
    of : (o : Option LetterOwner) → filter (λ line. holds_now d leaves line.when) (option_to_list (option_map always o)) ≡ option_to_list (option_map always o)
    of None = refl
    of (Some owner) = refl

module _ (d : Dialog) where
  -- ---- the owner that the certificate names

  -- what is so of the owner of a marker of this kind
  abbrev Names : ℕ → Kind → Node → LetterOwner → Type 0
  Names letter k node owner = IsTrue (gives_name owner.name node) × (owner.item ≡ option_map (λ item. pos item) (item_by letter k))

  its_name : (node : Node) (k : Kind) (name : List ℕ) → node.kind ≡ k → gives_name name (record node { kind = k }) ≡ gives_name name node
  its_name node k name is = ap (λ x. gives_name name (record node { kind = x })) (sym is)

  one_of : (b : Bool) (x y : LetterOwner) → (if b then Some x else None) ≡ Some y → x ≡ y
  one_of true x y e = cc
  one_of false x y e = absurd cc

  item_of_letter : (letter : ℕ) (items : List MarkedText) (name : List ℕ) (owner : LetterOwner)
      → option_map (item_at name) (position (marks letter) items) ≡ Some owner
      → (name ≡ owner.name) × (owner.item ≡ option_map (λ item. pos item) (item_marking items letter))
  item_of_letter letter items name owner =
      option_cases (position (marks letter) items)
      (λ o. option_map (item_at name) o ≡ Some owner → (name ≡ owner.name) × (owner.item ≡ option_map (λ item. pos item) (item_marking items letter)))
      (λ none e. absurd cc)
      (λ place found e.
      let same : item_at name place ≡ owner = cc in (
        ap (λ x. x.name) same,
        ap (λ x. x.item) (sym same)
            ∙ ap (λ o. option_map (λ item. pos item) (option_map (λ n. n + 1) o)) (sym (ap (λ (l : ℕ). position (marks l) items) (found-upper letter items place found) ∙ found)),
      ))

  own_name : (node : Node) (k : Kind) (name given : List ℕ) → node.kind ≡ k → gives_name name (record node { kind = k }) ≡ true → name ≡ given
      → IsTrue (gives_name given node)
  own_name node k name given is gives same = ap (λ n. gives_name n node) (sym same) ∙ sym (its_name node k name is) ∙ gives

  names_it : (letter : ℕ) (node : Node) (k : Kind) (control : Node) (owner : LetterOwner) → node.kind ≡ k → owner_by letter k ≡ Some owner
      → control_by d node k ≡ Some control → Names letter k control owner
  names_it letter node (kinds.Label label) other owner is named e =
      let same = one_of (marks letter label.text) (control label.link) owner named in
      (ap (λ x. gives_name x.name other) (sym same) ∙ found-passes (gives_name label.link) d.views other e, ap (λ x. x.item) (sym same))
  names_it letter node (kinds.Button button) other owner is named e =
      let same = one_of (marks letter button.text) (control button.name) owner named in
      let here : node ≡ other = cc in
      subst (λ x. Names letter (kinds.Button button) x owner) here
      (own_name node (kinds.Button button) button.name owner.name is ((bytes_eq-Decides button.name button.name).1 refl) (ap (λ x. x.name) same), ap (λ x. x.item) (sym same))
  names_it letter node (kinds.CheckBoxes boxes) other owner is named e =
      let parts = item_of_letter letter boxes.items boxes.name owner named in
      let here : node ≡ other = cc in
      subst (λ x. Names letter (kinds.CheckBoxes boxes) x owner) here
      (own_name node (kinds.CheckBoxes boxes) boxes.name owner.name is ((bytes_eq-Decides boxes.name boxes.name).1 refl) parts.0, parts.1)
  names_it letter node (kinds.RadioButtons radios) other owner is named e =
      let parts = item_of_letter letter radios.items radios.name owner named in
      let here : node ≡ other = cc in
      subst (λ x. Names letter (kinds.RadioButtons radios) x owner) here
      (own_name node (kinds.RadioButtons radios) radios.name owner.name is ((bytes_eq-Decides radios.name radios.name).1 refl) parts.0, parts.1)
  names_it letter node _ other owner is named e = absurd cc

  -- what gives a name has it
  named_so : (o : Option (List ℕ)) (name : List ℕ) → is_option_named name o ≡ true → o ≡ Some name
  named_so None name is = absurd (false≢true is)
  named_so (Some other) name is = ap (λ n. Some n) ((bytes_eq-Decides other name).0 is)

  gives_once : HasOwnNames d → (name : List ℕ) → AllPairs (λ view other. IsTrue (gives_name name view) → IsTrue (gives_name name other) → ⊥) d.views
  gives_once own name =
      λ i j e less h one other. own i j e less h name (named_so (name_of (get_or d.views i e).kind) name one) (named_so (name_of (get_or d.views j e).kind) name other)

  -- the marker is what its own name means
  own_meant : (marker : PlacedNode) (name : List ℕ) → IsIn d marker → HasOwnNames d → gives_name name marker.node ≡ true
      → meant d.views name ≡ Some marker.node
  own_meant marker name e own is =
      leaf_at-node (λ node. gives_name name node ≡ true → find (gives_name name) d.views ≡ Some node) d marker.node.id marker
      (only_found (gives_name name) d.views (gives_once own name)) e is

  meant_it : (letter : ℕ) (node : Node) (k : Kind) (control : Node) (owner : LetterOwner) → owner_by letter k ≡ Some owner → control_by d node k ≡ Some control
      → gives_name owner.name control ≡ true → (gives_name owner.name node ≡ true → meant d.views owner.name ≡ Some node) → meant d.views owner.name ≡ Some control
  meant_it letter node (kinds.Label label) other owner named e gives itself =
      ap (λ x. meant d.views x.name) (sym (one_of (marks letter label.text) (control label.link) owner named)) ∙ e
  meant_it letter node _ other owner named e gives itself =
      let here : other ≡ node = cc in
      itself (ap (gives_name owner.name) (sym here) ∙ gives) ∙ e

  pub is-owner : (version : Version) → HasLines version d → IsLawfulDialog d → (m : Modal) → IsStanding d m → (letter : ℕ) (marker : PlacedNode) (control : Node)
      → marking_leaf d m.leaves letter ≡ Some marker → control_by d marker.node marker.node.kind ≡ Some control
      → IsOwner version d m.leaves letter marker.node control
  is-owner version has lawful m stands letter marker other e there =
      let own = marker-line d m stands version letter marker (has letter) e in
      let owner : LetterOwner = own.0.owner in
      let names = names_it letter marker.node marker.node.kind other owner refl own.2 there in
      let in_it : IsIn d marker = marker-in d m.leaves lawful letter marker e in
      record {
        line = own.0;
        named = own.1;
        name = names.0;
        item = names.1;
        only = λ each. meant_it letter marker.node marker.node.kind other owner own.2 there names.0 (own_meant marker owner.name in_it each);
      }

  -- ---- shortcuts

  -- no control takes a letter with Alt
  alt_passed : (k : Kind) (letter : ℕ) (c : Content) → key_answer k (keys.Alt letter) c ≡ Passed
  alt_passed (kinds.Input input) letter c = refl
  alt_passed _ letter c = refl

  -- a letter with Alt that no view marks does nothing
  alt_nothing : (letter : ℕ) (o : Option PlacedNode) (m : Modal) → keyed d (keys.Alt letter) o m ≡ m
  alt_nothing letter None m = refl
  alt_nothing letter (Some leaf) m = ap (λ a. answered d (keys.Alt letter) leaf a m) (alt_passed leaf.node.kind letter (content_at m leaf.node.id))

  alt_same : (letter : ℕ) (o : Option PlacedNode) (m : Modal) → alt_keyed d letter o m ≡ act_on d letter o m
  alt_same letter None m = alt_nothing letter (leaf_at d m.focus) m
  alt_same letter (Some marker) m = refl

  pub alt-acts : AltLettersAct d
  alt-acts m letter idle = ap (λ h. step_by d h (events.Key (keys.Alt letter)) m) idle ∙ alt_same letter (marking_leaf d m.leaves letter) m

  -- a character goes to the focus
  char_step : (m : Modal) (ch : ℕ) (focus : PlacedNode) → m.held ≡ None → leaf_at d m.focus ≡ Some focus
      → step_by d m.held (events.Key (keys.Char ch)) m ≡ answered d (keys.Char ch) focus (key_answer focus.node.kind (keys.Char ch) (content_at m focus.node.id)) m
  char_step m ch focus idle there = ap (λ h. step_by d h (events.Key (keys.Char ch)) m) idle ∙ ap (λ o. keyed d (keys.Char ch) o m) there

  pub typed-acts : TypedLettersAct d
  typed-acts m ch focus idle there passed = char_step m ch focus idle there ∙ ap (λ a. answered d (keys.Char ch) focus a m) passed

  -- ---- a focused cluster's own letters

  -- the focus is granted to what has it
  called_focus : (kind : ClusterKind) (item : Option ℕ) (m : Modal) (leaf : PlacedNode) → leaf.node.id ≡ m.focus
      → call_item d kind leaf.node.id item m ≡ press_item d kind leaf.node.id item m
  called_focus kind item m leaf at =
      ap (λ r. if is_granted r then press_item d kind leaf.node.id item (after_request d leaf.node.id r m) else after_request d leaf.node.id r m) same
    where
      same : requested d m leaf.node.id ≡ Same
      same =
          ap (λ b. if b then Same else if not (is_free_at d m.leaves leaf.node.id) then NotFree else if keeps_focus m (leaf_at d m.focus) then Refused else Moved)
          (ap (λ id. id.0 == m.focus.0) at ∙ id-itself m.focus)

  own_key : (kind : ClusterKind) (items : List MarkedText) (m : Modal) (leaf : PlacedNode) (ch item : ℕ) → leaf.node.id ≡ m.focus → (ch == 32) ≡ false
      → item_marking items ch ≡ Some item
      → answered d (keys.Char ch) leaf
      (cluster_answer kind (if ch == 32 then clusters.Presses (selected_of kind (content_at m leaf.node.id)) else of_letter (item_marking items ch)) (content_at m leaf.node.id)) m
      ≡ call_item d kind leaf.node.id (item_marking items (upper ch)) m
  own_key kind items m leaf ch item at other e =
      let c = content_at m leaf.node.id in
      ap (λ b. answered d (keys.Char ch) leaf (cluster_answer kind (if b then clusters.Presses (selected_of kind c) else of_letter (item_marking items ch)) c) m) other
      ∙ ap (λ o. answered d (keys.Char ch) leaf (cluster_answer kind (of_letter o) c) m) e
      ∙ sym (called_focus kind (item_marking items (upper ch)) m leaf at
      ∙ ap (λ (l : ℕ). press_item d kind leaf.node.id (option_map (λ n. n + 1) (position (marks l) items)) m) (upper_upper ch)
      ∙ ap (λ o. press_item d kind leaf.node.id o m) e)

  own_called : (m : Modal) (leaf : PlacedNode) (ch item : ℕ) (k : Kind) → leaf.node.id ≡ m.focus → (ch == 32) ≡ false → item_by ch k ≡ Some item
      → answered d (keys.Char ch) leaf (key_answer k (keys.Char ch) (content_at m leaf.node.id)) m ≡ called d (upper ch) leaf k m
  own_called m leaf ch item (kinds.CheckBoxes boxes) at other e = own_key Boxes boxes.items m leaf ch item at other e
  own_called m leaf ch item (kinds.RadioButtons radios) at other e = own_key Radios radios.items m leaf ch item at other e
  own_called m leaf ch item _ at other e = absurd cc

  -- a cluster marks the letters of its items
  item_marks : (ch item : ℕ) (k : Kind) → item_by ch k ≡ Some item → is_some (owner_by (upper ch) k) ≡ true
  item_marks ch item (kinds.CheckBoxes boxes) e = placed (position (marks (upper ch)) boxes.items) boxes.name item e
    where
      placed : (o : Option ℕ) (name : List ℕ) (item : ℕ) → option_map (λ n. n + 1) o ≡ Some item → is_some (option_map (item_at name) o) ≡ true
      placed None name item e = absurd cc
      placed (Some place) name item e = refl
  item_marks ch item (kinds.RadioButtons radios) e = placed (position (marks (upper ch)) radios.items) radios.name item e
    where
      placed : (o : Option ℕ) (name : List ℕ) (item : ℕ) → option_map (λ n. n + 1) o ≡ Some item → is_some (option_map (item_at name) o) ≡ true
      placed None name item e = absurd cc
      placed (Some place) name item e = refl
  item_marks ch item _ e = absurd cc

-- ---- a visible cluster is the marker of its letters

module _ (d : Dialog) (sound : IsSoundDialog d) where
  -- the focus is visible
  focus_visible : (m : Modal) (focus : PlacedNode) → IsFitModal d m → leaf_at d m.focus ≡ Some focus → is_visible d m.leaves focus ≡ true
  focus_visible m focus fit there =
      let free : is_free_leaf d m.leaves (Some focus) ≡ true = sym (ap (is_free_leaf d m.leaves) there) ∙ fit.focus in
      (and_parts (is_visible d m.leaves focus) (is_enabled d m.leaves focus.node)
      (and_parts (is_control focus.node.kind) (is_visible d m.leaves focus && is_enabled d m.leaves focus.node) free).1).0

  pub own-letter-acts : OwnLettersAct d
  own-letter-acts m ch item focus fit idle there other e = (
    leaf_at-all (λ leaf. is_visible_marker d m.leaves (upper ch) leaf ≡ true → marking_leaf d m.leaves (upper ch) ≡ Some leaf) d m.focus focus
        (visible-is-marker d sound m fit (upper ch)) there
        (and_from (is_some (owner_by (upper ch) focus.node.kind)) (is_visible d m.leaves focus) (item_marks d ch item focus.node.kind e) (focus_visible m focus fit there)),
    char_step d m ch focus idle there ∙ own_called d m focus ch item focus.node.kind (leaf_at-is d m.focus focus there) other e
        ∙ sym (ap (λ b. if b then called d (upper ch) focus focus.node.kind m else m) (focus_visible m focus fit there)),
  )
