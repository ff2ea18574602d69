-- Markers of a letter: no more than one is visible, and the lines of a certificate that hold are that one's.
use Rattle.std.proofs.Common.{◌≡◌, ℕ, Bool, true, false, cond, ◌&&◌, ◌==◌, if◌then◌else◌, List, [], ◌∷◌, filter, find, get_or, Option, Some, None, is_some, option_map, unwrap_or, refl, sym, ap, subst, ◌∙◌, All, AllPairs, IsTrue, arith}
use Rattle.std.proofs.lemmas.Bool.{and_parts, eqb-true, false_from_ne_true, false≢true, true≢false}
use Rattle.std.proofs.lemmas.List.Elements.{All-cons, All-filter, All-head, All-nil, All-tail, filter_passes}
use Rattle.std.proofs.lemmas.List.Kept.{AllPairs-filter}
use Rattle.tv_model.specs.declared.node.Node.{Node}
use Rattle.tv_model.specs.declared.kind.Kind.{Kind}
use Rattle.tv_model.specs.declared.kind.Kind.TheVariants as kinds
use Rattle.tv_model.specs.declared.record.Value.{Value}
use Rattle.tv_model.specs.declared.record.Value.TheVariants as values
use Rattle.tv_model.specs.declared.desc.Dialog.{Dialog}
use Rattle.tv_model.specs.declared.desc.Rule.{Rule}
use Rattle.tv_model.specs.declared.desc.Version.{Version}
use Rattle.tv_model.specs.declared.desc.When.{When}
use Rattle.tv_model.specs.Description.Names.{gives_name, meant}
use Rattle.tv_model.specs.Description.Nodes.{is_pane}
use Rattle.tv_model.specs.Description.Numbers.{natural}
use Rattle.tv_model.specs.Description.Owners.{KeyOwner, owner_by, owners_of}
use Rattle.tv_model.specs.Description.Sharing.{is_radios}
use Rattle.tv_model.specs.Kinds.Cluster.{is_marked}
use Rattle.tv_machine.specs.State.{LeafState}
use Rattle.tv_machine.specs.Leaves.{PlacedNode, leaf_list, leaves_in, open_after, open_at}
use Rattle.tv_machine.specs.Safe.{HasValueOf}
use Rattle.tv_machine.specs.Dialog.Lawful.{AreShownApart, IsLawfulDialog, ShowsBy}
use Rattle.tv_machine.specs.Dialog.Modal.{Modal, content_at}
use Rattle.tv_machine.specs.Dialog.Rules.{content_held, is_among, is_marked_at, is_visible, state_of}
use Rattle.tv_machine.specs.Dialog.Shortcuts.{HaveOneMarker, act_on, called, marker_among, marking_leaf, marking_leaves}
use Rattle.tv_machine.proofs.LeafLemmas.{IsIn, leaf_at-member}
use Rattle.tv_machine.proofs.ListLemmas.{bool_cases, found-all, pairs-head, pairs-tail}
use Rattle.tv_machine.proofs.MarkLemmas.{value_by}
use Rattle.tv_machine.proofs.SharedLemmas.{one_visible, visible_marked}
use Rattle.tv_laws.specs.Fit.{IsFitContent, IsStanding}
use Rattle.tv_laws.specs.Letters.{AreLinesOf, AreOtherItems, HasLinesOf, IsLineOf, IsShownWhen, LettersHaveOneMarker, Named, VisibleIsMarker, act_named, holds_now, lines_now, named_among, named_by}
use Rattle.tv_laws.specs.Sound.{IsSoundDialog}

-- ---- lists

-- what alone passes is found
pub only_found : {A : Type 0} (p : A → Bool) (xs : List A) → AllPairs (λ x y. IsTrue (p x) → IsTrue (p y) → ⊥) xs
    → All (λ x. p x ≡ true → find p xs ≡ Some x) xs
only_found p [] pairs = All-nil (λ x. p x ≡ true → find p [] ≡ Some x)
only_found p (x ∷ xs) pairs =
    All-cons (λ y. p y ≡ true → find p (x ∷ xs) ≡ Some y) x xs (λ is. ap (λ b. cond b (Some x) (find p xs)) is)
    (λ k e h is.
    bool_cases (p x) (λ b. p x ≡ b → cond b (Some x) (find p xs) ≡ Some (get_or xs k e))
    (λ first f. absurd (pairs-head (λ y z. IsTrue (p y) → IsTrue (p z) → ⊥) x xs pairs k e h first is))
    (λ later f. only_found p xs (pairs-tail (λ y z. IsTrue (p y) → IsTrue (p z) → ⊥) x xs pairs) k e h is) refl)

-- and it is all that is kept
pub none_kept : {A : Type 0} (p : A → Bool) (xs : List A) → All (λ x. p x ≡ false) xs → filter p xs ≡ []
none_kept p [] all = refl
none_kept p (x ∷ xs) all =
    ap (λ b. cond b (x ∷ filter p xs) (filter p xs)) (All-head (λ y. p y ≡ false) x xs all) ∙ none_kept p xs (All-tail (λ y. p y ≡ false) x xs all)

pub only_kept : {A : Type 0} (p : A → Bool) (xs : List A) (x : A) → AllPairs (λ y z. IsTrue (p y) → IsTrue (p z) → ⊥) xs → find p xs ≡ Some x
    → filter p xs ≡ x ∷ []
only_kept p [] x pairs found = absurd cc
only_kept p (y ∷ xs) x pairs found =
    bool_cases (p y) (λ b. cond b (Some y) (find p xs) ≡ Some x → cond b (y ∷ filter p xs) (filter p xs) ≡ x ∷ [])
    (λ is f.
    let here : y ≡ x = cc in
    let none : filter p xs ≡ [] =
    none_kept p xs (λ k e h. false_from_ne_true (p (get_or xs k e)) (λ too. pairs-head (λ z w. IsTrue (p z) → IsTrue (p w) → ⊥) y xs pairs k e h is too)) in
    ap (λ z. z ∷ filter p xs) here ∙ ap (λ zs. x ∷ zs) none)
    (λ no f. only_kept p xs x (pairs-tail (λ z w. IsTrue (p z) → IsTrue (p w) → ⊥) y xs pairs) f) found

-- where no two pass both tests, of what passes the first no two pass the second
pairs_kept : {A : Type 0} (q p : A → Bool) (xs : List A) → AllPairs (λ x y. IsTrue (q x && p x) → IsTrue (q y && p y) → ⊥) xs
    → AllPairs (λ x y. IsTrue (p x) → IsTrue (p y) → ⊥) (filter q xs)
pairs_kept q p xs pairs i j e less h one other =
    let first : q (get_or (filter q xs) i e) ≡ true = filter_passes q xs i e (omega (arith, less, h)) in
    let second : q (get_or (filter q xs) j e) ≡ true = filter_passes q xs j e h in
    AllPairs-filter (λ x y. IsTrue (q x && p x) → IsTrue (q y && p y) → ⊥) q xs pairs i j e less h
    (ap (λ b. b && p (get_or (filter q xs) i e)) first ∙ one) (ap (λ b. b && p (get_or (filter q xs) j e)) second ∙ other)

-- what is so of all that passes the first test and the second
filter_back : {A : Type 0} (q p : A → Bool) (P : A → Type 0) (xs : List A) → All (λ x. p x ≡ true → P x) (filter q xs)
    → All (λ x. (q x && p x) ≡ true → P x) xs
filter_back q p P [] all = All-nil (λ x. (q x && p x) ≡ true → P x)
filter_back q p P (x ∷ xs) all =
    bool_cases (q x) (λ b. All (λ y. p y ≡ true → P y) (cond b (x ∷ filter q xs) (filter q xs)) → All (λ y. (q y && p y) ≡ true → P y) (x ∷ xs))
    (λ is given. All-cons (λ y. (q y && p y) ≡ true → P y) x xs (λ both. All-head (λ y. p y ≡ true → P y) x (filter q xs) given (and_parts (q x) (p x) both).1)
    (filter_back q p P xs (All-tail (λ y. p y ≡ true → P y) x (filter q xs) given)))
    (λ no given. All-cons (λ y. (q y && p y) ≡ true → P y) x xs (λ both. absurd (false≢true (sym no ∙ (and_parts (q x) (p x) both).0))) (filter_back q p P xs given))
    all

-- ---- the one item that radio buttons have marked

-- what is so of the node of each leaf is so of each view but a pane
views_but_panes : (P : Node → Type 0) (panes views : List Node) → All (λ leaf. P leaf.node) (leaves_in panes views)
    → All (λ view. is_pane view.kind ≡ false → P view) views
views_but_panes P panes [] all = All-nil (λ view. is_pane view.kind ≡ false → P view)
views_but_panes P panes (view ∷ views) all =
    let rest = leaves_in (open_after panes view) views in
    let leaf : PlacedNode = record { node = view; panes = open_at view.depth panes } in
    bool_cases (is_pane view.kind)
    (λ b. All (λ x. P x.node) (if b then rest else leaf ∷ rest) → All (λ v. is_pane v.kind ≡ false → P v) (view ∷ views))
    (λ is given. All-cons (λ v. is_pane v.kind ≡ false → P v) view views (λ other. absurd (true≢false (sym is ∙ other))) (views_but_panes P (open_after panes view) views given))
    (λ is given. All-cons (λ v. is_pane v.kind ≡ false → P v) view views (λ other. All-head (λ x. P x.node) leaf rest given) (views_but_panes P (open_after panes view) views (All-tail (λ x. P x.node) leaf rest given)))
    all

radios_no_pane : (k : Kind) → is_radios k ≡ true → is_pane k ≡ false
radios_no_pane (kinds.RadioButtons radios) is = refl
radios_no_pane _ is = absurd (false≢true is)

-- radio buttons have one item marked
item_of_radios : (k : Kind) (o : Option Value) → is_radios k ≡ true → HasValueOf k o → (v : ℕ) × (o ≡ Some (values.Item v))
item_of_radios (kinds.RadioButtons radios) None is has = absurd (true≢false has)
item_of_radios (kinds.RadioButtons radios) (Some (values.Text text)) is has = absurd has
item_of_radios (kinds.RadioButtons radios) (Some (values.Marks marks)) is has = absurd has
item_of_radios (kinds.RadioButtons radios) (Some (values.Item v)) is has = (v, refl)
item_of_radios _ o is has = absurd (false≢true is)

module _ (d : Dialog) (m : Modal) (stands : IsStanding d m) where
  marked_item : (name : List ℕ) (radios : Node) → meant d.views name ≡ Some radios → is_radios radios.kind ≡ true
      → (v : ℕ) × ((content_held m.leaves [] radios.id).value ≡ Some (values.Item v))
  marked_item name radios named is =
      let fits : IsFitContent (radios.id.0 == m.focus.0) radios.kind (content_at m radios.id) =
      found-all (λ view. is_pane view.kind ≡ false → IsFitContent (view.id.0 == m.focus.0) view.kind (content_at m view.id)) (gives_name name) d.views radios
      (views_but_panes (λ view. IsFitContent (view.id.0 == m.focus.0) view.kind (content_at m view.id)) [] d.views stands.contents) named (radios_no_pane radios.kind is) in
      let one = item_of_radios radios.kind (content_at m radios.id).value is fits.safe.value in
      (one.0, sym (value_by (is_among m.overwriting radios.id) (state_of m.leaves radios.id)) ∙ one.1)

-- no letter has two visible markers
pub one_marker : (d : Dialog) (m : Modal) → IsSoundDialog d → IsStanding d m → HaveOneMarker d m.leaves
one_marker d m sound stands letter i j e less h first second =
    let leaf : PlacedNode = get_or (leaf_list d.views) i e in
    let other : PlacedNode = get_or (leaf_list d.views) j e in
    let one = and_parts (is_some (owner_by letter leaf.node.kind)) (is_visible d m.leaves leaf) first in
    let two = and_parts (is_some (owner_by letter other.node.kind)) (is_visible d m.leaves other) second in
    let apart : AreShownApart d leaf other = sound.lawful.letters letter i j e less h one.0 two.0 in
    let rule : Rule = apart.shown.1 in
    let by : ShowsBy d apart.radios apart.item leaf rule = apart.shown.4 in
    let item = marked_item d m stands rule.cluster apart.radios by.cluster apart.kind in
    one_visible d m.leaves leaf other apart item.0 item.1 one.1 two.1

-- ---- what a marker is

module _ (d : Dialog) (leaves : List LeafState) where
  -- what is so of each of some markers is so of the one that acts
  marker_all : (P : PlacedNode → Type 0) (markers : List PlacedNode) (marker : PlacedNode) → All P markers → marker_among d leaves markers ≡ Some marker → P marker
  marker_all P [] marker all e = absurd cc
  marker_all P (first ∷ []) marker all e = let same : first ≡ marker = cc in subst P same (All-head P first [] all)
  marker_all P (first ∷ second ∷ markers) marker all e = found-all P (is_visible d leaves) (first ∷ second ∷ markers) marker all e

  pub marker-in : IsLawfulDialog d → (letter : ℕ) (marker : PlacedNode) → marking_leaf d leaves letter ≡ Some marker → IsIn d marker
  marker-in lawful letter marker e =
      marker_all (IsIn d) (marking_leaves d letter) marker (All-filter (λ leaf. is_some (owner_by letter leaf.node.kind)) (IsIn d) (leaf_list d.views) (leaf_at-member d lawful)) e

  pub marker-marks : (letter : ℕ) (marker : PlacedNode) → marking_leaf d leaves letter ≡ Some marker → is_some (owner_by letter marker.node.kind) ≡ true
  marker-marks letter marker e =
      marker_all (λ leaf. is_some (owner_by letter leaf.node.kind) ≡ true) (marking_leaves d letter) marker
      (filter_passes (λ leaf. is_some (owner_by letter leaf.node.kind)) (leaf_list d.views)) e

  -- where one alone is visible, it is the marker
  visible_among : (markers : List PlacedNode) → AllPairs (λ leaf other. IsTrue (is_visible d leaves leaf) → IsTrue (is_visible d leaves other) → ⊥) markers
      → All (λ leaf. is_visible d leaves leaf ≡ true → marker_among d leaves markers ≡ Some leaf) markers
  visible_among [] pairs = All-nil (λ leaf. is_visible d leaves leaf ≡ true → marker_among d leaves [] ≡ Some leaf)
  visible_among (first ∷ []) pairs =
      All-cons (λ leaf. is_visible d leaves leaf ≡ true → marker_among d leaves (first ∷ []) ≡ Some leaf) first [] (λ is. refl)
      (All-nil (λ leaf. is_visible d leaves leaf ≡ true → marker_among d leaves (first ∷ []) ≡ Some leaf))
  visible_among (first ∷ second ∷ markers) pairs = only_found (is_visible d leaves) (first ∷ second ∷ markers) pairs

-- ---- the lines that hold

module _ (d : Dialog) (leaves : List LeafState) where
  -- the line of a visible marker holds
  visible_holds : (leaf : PlacedNode) (o : Option When) → IsShownWhen d leaf o → is_visible d leaves leaf ≡ true → holds_now d leaves o ≡ true
  visible_holds leaf None by visible = refl
  visible_holds leaf (Some shown) by visible =
      ap (is_marked_at leaves (natural shown.item)) by.named ∙ visible_marked d leaves by.radios leaf (natural shown.item) by.rule visible

  abbrev Now : KeyOwner → Bool
  Now line = holds_now d leaves line.when

  -- where no line holds, no marker is visible
  none_visible : (letter : ℕ) (lines : List KeyOwner) (markers : List PlacedNode) → AreLinesOf d letter lines markers → filter Now lines ≡ []
      → find (is_visible d leaves) markers ≡ None
  none_visible letter [] [] are none = refl
  none_visible letter [] (first ∷ markers) are none = absurd are
  none_visible letter (line ∷ lines) [] are none = refl
  none_visible letter (line ∷ lines) (first ∷ markers) are none =
      bool_cases (Now line) (λ b. Now line ≡ b → cond b (line ∷ filter Now lines) (filter Now lines) ≡ [] → find (is_visible d leaves) (first ∷ markers) ≡ None)
      (λ yes same e. absurd cc)
      (λ no same e.
      bool_cases (is_visible d leaves first) (λ b. cond b (Some first) (find (is_visible d leaves) markers) ≡ None)
      (λ shown. absurd (true≢false (sym (visible_holds first line.when are.0.when shown) ∙ no))) (λ hidden. none_visible letter lines markers are.1 e))
      refl none

module _ (d : Dialog) (m : Modal) (stands : IsStanding d m) where
  -- of lines with different items no two hold at once
  one_holds : (leaf : PlacedNode) (o other : Option When) → IsShownWhen d leaf o → AreOtherItems o other → holds_now d m.leaves o ≡ true
      → holds_now d m.leaves other ≡ true → ⊥
  one_holds leaf None other by apart first second = apart
  one_holds leaf (Some shown) None by apart first second = apart
  one_holds leaf (Some shown) (Some other) by apart first second =
      let item = marked_item d m stands shown.radios by.radios by.named by.kind in
      let one : is_marked (content_held m.leaves [] by.radios.id).value (natural shown.item) ≡ true = sym (ap (is_marked_at m.leaves (natural shown.item)) by.named) ∙ first in
      let two : is_marked (content_held m.leaves [] by.radios.id).value (natural other.item) ≡ true =
      sym (ap (is_marked_at m.leaves (natural other.item)) (ap (meant d.views) (sym apart.0) ∙ by.named)) ∙ second in
      let at : item.0 ≡ natural shown.item = eqb-true item.0 (natural shown.item) (sym (ap (λ v. is_marked v (natural shown.item)) item.1) ∙ one) in
      let too : item.0 ≡ natural other.item = eqb-true item.0 (natural other.item) (sym (ap (λ v. is_marked v (natural other.item)) item.1) ∙ two) in
      apart.1 (sym at ∙ too)

  no_others : (line : KeyOwner) (leaf : PlacedNode) (lines : List KeyOwner) → IsShownWhen d leaf line.when → All (λ other. AreOtherItems line.when other.when) lines
      → Now d m.leaves line ≡ true → filter (Now d m.leaves) lines ≡ []
  no_others line leaf [] by others now = refl
  no_others line leaf (other ∷ lines) by others now =
      bool_cases (Now d m.leaves other) (λ b. cond b (other ∷ filter (Now d m.leaves) lines) (filter (Now d m.leaves) lines) ≡ [])
      (λ yes. absurd (one_holds leaf line.when other.when by (All-head (λ x. AreOtherItems line.when x.when) other lines others) now yes))
      (λ no. no_others line leaf lines by (All-tail (λ x. AreOtherItems line.when x.when) other lines others) now)

  -- the line of this marker alone holds
  abbrev HasLineOf : ℕ → List KeyOwner → PlacedNode → Type 0
  HasLineOf letter lines marker = (line : KeyOwner) × (filter (Now d m.leaves) lines ≡ line ∷ []) × (owner_by letter marker.node.kind ≡ Some line.owner)

  visible_line : (letter : ℕ) (lines : List KeyOwner) (markers : List PlacedNode) (marker : PlacedNode) → AreLinesOf d letter lines markers
      → AllPairs (λ line other. AreOtherItems line.when other.when) lines → find (is_visible d m.leaves) markers ≡ Some marker → HasLineOf letter lines marker
  visible_line letter lines [] marker are apart found = absurd cc
  visible_line letter [] (first ∷ markers) marker are apart found = absurd are
  visible_line letter (line ∷ lines) (first ∷ markers) marker are apart found =
      let own : IsLineOf d letter line first = are.0 in
      let others : All (λ other. AreOtherItems line.when other.when) lines = pairs-head (λ x y. AreOtherItems x.when y.when) line lines apart in
      let rest : List KeyOwner = filter (Now d m.leaves) lines in
      bool_cases (is_visible d m.leaves first) (λ b. cond b (Some first) (find (is_visible d m.leaves) markers) ≡ Some marker → HasLineOf letter (line ∷ lines) marker)
      (λ shown e.
      let same : first ≡ marker = cc in
      let now : Now d m.leaves line ≡ true = visible_holds d m.leaves first line.when own.when shown in (
        line,
        ap (λ b. cond b (line ∷ rest) rest) now ∙ ap (λ ls. line ∷ ls) (no_others line first lines own.when others now),
        subst (λ leaf. owner_by letter leaf.node.kind ≡ Some line.owner) same own.owner,
      ))
      (λ hidden e.
      let later : HasLineOf letter lines marker = visible_line letter lines markers marker are.1 (pairs-tail (λ x y. AreOtherItems x.when y.when) line lines apart) e in
      bool_cases (Now d m.leaves line) (λ b. (own : KeyOwner) × (cond b (line ∷ rest) rest ≡ own ∷ []) × (owner_by letter marker.node.kind ≡ Some own.owner))
      (λ now. let none : rest ≡ [] = no_others line first lines own.when others now in
      let some : rest ≡ later.0 ∷ [] = later.1 in
      absurd cc)
      (λ other. later))
      found

  line_among : (letter : ℕ) (lines : List KeyOwner) (markers : List PlacedNode) (marker : PlacedNode) → AreLinesOf d letter lines markers
      → ((line : KeyOwner) → lines ≡ line ∷ [] → line.when ≡ None) → AllPairs (λ line other. AreOtherItems line.when other.when) lines
      → marker_among d m.leaves markers ≡ Some marker → HasLineOf letter lines marker
  line_among letter lines [] marker are alone apart found = absurd cc
  line_among letter [] (first ∷ markers) marker are alone apart found = absurd are
  line_among letter (line ∷ []) (first ∷ []) marker are alone apart found =
      let own : IsLineOf d letter line first = are.0 in
      let same : first ≡ marker = cc in (
        line,
        ap (λ o. cond (holds_now d m.leaves o) (line ∷ []) []) (alone line refl),
        subst (λ leaf. owner_by letter leaf.node.kind ≡ Some line.owner) same own.owner,
      )
  line_among letter (line ∷ other ∷ lines) (first ∷ []) marker are alone apart found = absurd are.1
  line_among letter lines (first ∷ second ∷ markers) marker are alone apart found = visible_line letter lines (first ∷ second ∷ markers) marker are apart found

  -- the certificate names the owner of a marker by the line that holds
  pub marker-line : (version : Version) (letter : ℕ) (marker : PlacedNode) → HasLinesOf version d letter → marking_leaf d m.leaves letter ≡ Some marker
      → (line : KeyOwner) × (lines_now version d m.leaves letter ≡ line ∷ []) × (owner_by letter marker.node.kind ≡ Some line.owner)
  marker-line version letter marker has e = line_among letter (owners_of version d letter) (marking_leaves d letter) marker has.markers has.alone has.apart e

  -- ---- what the certificate names

  -- of several markers the visible one acts, and its line is the one that holds
  several_named : (letter : ℕ) (lines : List KeyOwner) (markers : List PlacedNode) → AreLinesOf d letter lines markers
      → AllPairs (λ line other. AreOtherItems line.when other.when) lines
      → act_on d letter (find (is_visible d m.leaves) markers) m ≡ act_named d letter (named_among d m.leaves lines markers) m
  several_named letter [] [] are apart = refl
  several_named letter [] (first ∷ markers) are apart = absurd are
  several_named letter (line ∷ lines) [] are apart = absurd are
  several_named letter (line ∷ lines) (first ∷ markers) are apart =
      let others : All (λ other. AreOtherItems line.when other.when) lines = pairs-head (λ x y. AreOtherItems x.when y.when) line lines apart in
      let later : Option PlacedNode = find (is_visible d m.leaves) markers in
      bool_cases (Now d m.leaves line)
      (λ b. act_on d letter (cond (is_visible d m.leaves first) (Some first) later) m ≡ act_named d letter (if b then Some (record { line = line; marker = first }) else named_among d m.leaves lines markers) m)
      (λ now. bool_cases (is_visible d m.leaves first)
      (λ b. act_on d letter (cond b (Some first) later) m ≡ (if b then called d letter first first.node.kind m else m)) (λ shown. ap (λ b. if b then called d letter first first.node.kind m else m) shown)
      (λ hidden. ap (λ o. act_on d letter o m) (none_visible d m.leaves letter lines markers are.1 (no_others line first lines are.0.when others now))))
      (λ other. bool_cases (is_visible d m.leaves first) (λ b. act_on d letter (cond b (Some first) later) m ≡ act_named d letter (named_among d m.leaves lines markers) m)
      (λ shown. absurd (true≢false (sym (visible_holds d m.leaves first line.when are.0.when shown) ∙ other)))
      (λ hidden. several_named letter lines markers are.1 (pairs-tail (λ x y. AreOtherItems x.when y.when) line lines apart)))

  among_named : (letter : ℕ) (lines : List KeyOwner) (markers : List PlacedNode) → AreLinesOf d letter lines markers
      → ((line : KeyOwner) → lines ≡ line ∷ [] → line.when ≡ None) → AllPairs (λ line other. AreOtherItems line.when other.when) lines
      → act_on d letter (marker_among d m.leaves markers) m ≡ act_named d letter (named_among d m.leaves lines markers) m
  among_named letter [] [] are alone apart = refl
  among_named letter (line ∷ lines) [] are alone apart = absurd are
  among_named letter [] (first ∷ []) are alone apart = absurd are
  among_named letter (line ∷ []) (first ∷ []) are alone apart =
      sym (ap (λ b. act_named d letter (if b then Some (record { line = line; marker = first }) else None) m) (ap (holds_now d m.leaves) (alone line refl)))
  among_named letter (line ∷ other ∷ lines) (first ∷ []) are alone apart = absurd are.1
  among_named letter lines (first ∷ second ∷ markers) are alone apart = several_named letter lines (first ∷ second ∷ markers) are apart

  -- the marker's act is that of what is named
  pub marker-named : (version : Version) (letter : ℕ) → HasLinesOf version d letter
      → act_on d letter (marking_leaf d m.leaves letter) m ≡ act_named d letter (named_by version d m.leaves letter) m
  marker-named version letter has = among_named letter (owners_of version d letter) (marking_leaves d letter) has.markers has.alone has.apart

-- ---- what is named is the marker, where that is visible

module _ (d : Dialog) (leaves : List LeafState) where
  found_named : (letter : ℕ) (lines : List KeyOwner) (markers : List PlacedNode) (named : Named) → AreLinesOf d letter lines markers
      → named_among d leaves lines markers ≡ Some named → is_visible d leaves named.marker ≡ true → find (is_visible d leaves) markers ≡ Some named.marker
  found_named letter [] markers named are e shown = absurd cc
  found_named letter (line ∷ lines) [] named are e shown = absurd are
  found_named letter (line ∷ lines) (first ∷ markers) named are e shown =
      bool_cases (Now d leaves line)
      (λ b. (if b then Some (record { line = line; marker = first }) else named_among d leaves lines markers) ≡ Some named → find (is_visible d leaves) (first ∷ markers) ≡ Some named.marker)
      (λ now f.
      let same : first ≡ named.marker = ap (λ o. unwrap_or (option_map (λ x. x.marker) o) first) f in
      ap (λ b. cond b (Some first) (find (is_visible d leaves) markers)) (ap (is_visible d leaves) same ∙ shown) ∙ ap (λ x. Some x) same)
      (λ other f.
      bool_cases (is_visible d leaves first) (λ b. cond b (Some first) (find (is_visible d leaves) markers) ≡ Some named.marker)
      (λ seen. absurd (true≢false (sym (visible_holds d leaves first line.when are.0.when seen) ∙ other))) (λ hidden. found_named letter lines markers named are.1 f shown))
      e

  among_found : (letter : ℕ) (lines : List KeyOwner) (markers : List PlacedNode) (named : Named) → AreLinesOf d letter lines markers
      → named_among d leaves lines markers ≡ Some named → is_visible d leaves named.marker ≡ true → marker_among d leaves markers ≡ Some named.marker
  among_found letter [] [] named are e shown = absurd cc
  among_found letter (line ∷ lines) [] named are e shown = absurd are
  among_found letter [] (first ∷ []) named are e shown = absurd are
  among_found letter (line ∷ []) (first ∷ []) named are e shown =
      bool_cases (Now d leaves line) (λ b. (if b then Some (record { line = line; marker = first }) else None) ≡ Some named → Some first ≡ Some named.marker)
      (λ now f. ap (option_map (λ x. x.marker)) f) (λ other f. absurd cc) e
  among_found letter (line ∷ other ∷ lines) (first ∷ []) named are e shown = absurd are.1
  among_found letter lines (first ∷ second ∷ markers) named are e shown = found_named letter lines (first ∷ second ∷ markers) named are e shown

  pub named-marker : (version : Version) (letter : ℕ) (named : Named) → HasLinesOf version d letter → named_by version d leaves letter ≡ Some named
      → is_visible d leaves named.marker ≡ true → marking_leaf d leaves letter ≡ Some named.marker
  named-marker version letter named has e shown = among_found letter (owners_of version d letter) (marking_leaves d letter) named has.markers e shown

  -- its line is the first that holds
  first_kept : (lines : List KeyOwner) (markers : List PlacedNode) (named : Named) → named_among d leaves lines markers ≡ Some named
      → (rest : List KeyOwner) × (filter (Now d leaves) lines ≡ named.line ∷ rest)
  first_kept [] markers named e = absurd cc
  first_kept (line ∷ lines) [] named e = absurd cc
  first_kept (line ∷ lines) (first ∷ markers) named e =
      bool_cases (Now d leaves line)
      (λ b. (if b then Some (record { line = line; marker = first }) else named_among d leaves lines markers) ≡ Some named
      → (rest : List KeyOwner) × (cond b (line ∷ filter (Now d leaves) lines) (filter (Now d leaves) lines) ≡ named.line ∷ rest))
      (λ now f.
      let same : line ≡ named.line = ap (λ o. unwrap_or (option_map (λ x. x.line) o) line) f in
      (filter (Now d leaves) lines, ap (λ x. x ∷ filter (Now d leaves) lines) same))
      (λ other f. first_kept lines markers named f) e

  pub named-line : (version : Version) (letter : ℕ) (named : Named) → named_by version d leaves letter ≡ Some named
      → (rest : List KeyOwner) × (lines_now version d leaves letter ≡ named.line ∷ rest)
  named-line version letter named e = first_kept (owners_of version d letter) (marking_leaves d letter) named e

-- ---- the laws

-- a visible leaf that marks a letter is its marker
pub visible-is-marker : (d : Dialog) → IsSoundDialog d → VisibleIsMarker d
visible-is-marker d sound m fit letter =
    let mark : PlacedNode → Bool = λ leaf. is_some (owner_by letter leaf.node.kind) in
    filter_back mark (is_visible d m.leaves) (λ leaf. marking_leaf d m.leaves letter ≡ Some leaf) (leaf_list d.views)
    (visible_among d m.leaves (marking_leaves d letter) (pairs_kept mark (is_visible d m.leaves) (leaf_list d.views) (one_marker d m sound fit.standing letter)))

pub marks-once : (d : Dialog) → IsSoundDialog d → LettersHaveOneMarker d
marks-once d sound m fit = one_marker d m sound fit.standing
