-- The lines of the certificate that is made of a sound description: in each dialog one for each marker of a letter, and where
-- several share it, each with the item by which its marker is shown.
use Rattle.std.proofs.Common.{◌≡◌, ℕ, suc, ◌+◌, ◌<◌, nat_lt, IsTrue, Bool, true, false, cond, not, List, [], ◌∷◌, filter, filter_map, find, length, get_or, map, Option, Some, None, option_map, is_some, if◌then◌else◌, ℤ, refl, sym, ap, subst, ◌∙◌, arith}
use Rattle.std.specs.Prelude.{All, AllPairs, position}
use Rattle.std.specs.List.{cons_option, list_any, position_or_len}
use Rattle.std.proofs.lemmas.Bool.{and_parts, false≢true, false_from_ne_true}
use Rattle.std.proofs.lemmas.Bool.Decides.{nat_tests}
use Rattle.std.proofs.lemmas.List.{length-map}
use Rattle.std.proofs.lemmas.List.Elements.{All-cons, All-head, All-nil, All-tail, filter_passes}
use Rattle.std.proofs.lemmas.List.Kept.{AllPairs-cons}
use Rattle.std.proofs.lemmas.Slice.Eq.{bytes_eq-Decides}
use Rattle.tv_model.specs.declared.node.Node.{Node}
use Rattle.tv_model.specs.declared.kind.Kind.{Kind}
use Rattle.tv_model.specs.declared.kind.Kind.TheVariants as kinds
use Rattle.tv_model.specs.declared.desc.Dialog.{Dialog}
use Rattle.tv_model.specs.declared.desc.Rule.{Rule}
use Rattle.tv_model.specs.declared.desc.Version.{Version}
use Rattle.tv_model.specs.declared.desc.Version.TheVariants as versions
use Rattle.tv_model.specs.Controls.Owner.{LetterOwner}
use Rattle.tv_model.specs.Description.Letters.{marked_of}
use Rattle.tv_model.specs.Description.Marks.{marks}
use Rattle.tv_model.specs.Description.Names.{gives_name, is_option_named}
use Rattle.tv_model.specs.Description.Nodes.{AreRising, is_pane, name_of}
use Rattle.tv_model.specs.Description.Numbers.{natural}
use Rattle.tv_model.specs.Description.Owners.{KeyOwner, owner_by, owner_shown, owners_at, owners_of, when_from}
use Rattle.tv_model.specs.Description.Sharing.{Marker, are_apart, is_option_item, is_radios, item_shown_by, markers_of, may_share, separates, sharer_by, sharer_of, sharing_rules}
use Rattle.tv_model.specs.Faults.Lines.{after_seen}
use Rattle.tv_machine.specs.Leaves.{PlacedNode}
use Rattle.tv_machine.specs.Dialog.Lawful.{ShowsBy}
use Rattle.tv_machine.specs.Dialog.Shortcuts.{marking_leaves}
use Rattle.tv_machine.proofs.ListLemmas.{bool_cases, found-passes, option_cases}
use Rattle.tv_declarations.specs.Spelling.{AreViews}
use Rattle.tv_faults.specs.Sound.Bodies.{dialog_body}
use Rattle.tv_faults.specs.Sound.Letters.{HasOwnLetters}
use Rattle.tv_faults.specs.Sound.Rules.{NamesThings}
use Rattle.tv_faults.proofs.LawfulPartLemmas.{own_letters}
use Rattle.tv_faults.proofs.PairLemmas.{all_map, pairs_head, pairs_map, pairs_nil, pairs_tail}
use Rattle.tv_faults.proofs.SeenLemmas.{is_leaf, leaf_list-after, placed_after}
use Rattle.tv_faults.proofs.SharedLetterLemmas.{DifferentItems, IsOnly, IsShownAt, all_only, differ_apart, found_holds, is_marking, marker_after, marking, natural_apart, shown_at}
use Rattle.tv_laws.specs.Letters.{AreLinesOf, AreOtherItems, HasLines, HasLinesOf, IsShownWhen}
use Rattle.tv_laws.proofs.KeyLaws.LetterLemmas.{lines-alone}

-- ---- what marks a letter

less-holds : (a b : ℕ) → a < b → nat_lt a b ≡ true
less-holds a b less = grind (arith, nat_tests)

-- where a test passes, it first does so somewhere
kept-placed : {A : Type 0} (p : A → Bool) (xs : List A) → nat_lt 0 (length (filter p xs)) ≡ true → position_or_len p xs < length xs
kept-placed p [] some = absurd (false≢true some)
kept-placed p (x ∷ xs) some =
    bool_cases (p x) (λ b. nat_lt 0 (length (cond b (x ∷ filter p xs) (filter p xs))) ≡ true → cond (not b) (1 + position_or_len p xs) 0 < suc (length xs))
    (λ passes some. omega arith)
    (λ fails some. let less : position_or_len p xs < length xs = kept-placed p xs some in omega (arith, less))
    some

item-owned : {A : Type 0} (p : A → Bool) (f : ℕ → LetterOwner) (xs : List A) → nat_lt 0 (length (filter p xs)) ≡ true → is_some (option_map f (position p xs)) ≡ true
item-owned p f xs some =
    ap (λ b. is_some (option_map f (cond b (Some (position_or_len p xs)) None))) (less-holds (position_or_len p xs) (length xs) (kept-placed p xs some))

own-owned : {A : Type 0} (b : Bool) (x : A) (owner : LetterOwner) → nat_lt 0 (length (cond b (x ∷ []) [])) ≡ true → is_some (if b then Some owner else None) ≡ true
own-owned true x owner some = refl
own-owned false x owner some = absurd (false≢true some)

-- a view that marks a letter gives it an owner
marking-owned : (letter : ℕ) (kind : Kind) → nat_lt 0 (length (filter (marks letter) (marked_of kind))) ≡ true → is_some (owner_by letter kind) ≡ true
marking-owned letter (kinds.Label label) some = own-owned (marks letter label.text) label.text _ some
marking-owned letter (kinds.Button button) some = own-owned (marks letter button.text) button.text _ some
marking-owned letter (kinds.CheckBoxes boxes) some = item-owned (marks letter) _ boxes.items some
marking-owned letter (kinds.RadioButtons radios) some = item-owned (marks letter) _ radios.items some
marking-owned letter _ some = absurd (false≢true some)

-- and is no pane
owner-leaf : (letter : ℕ) (kind : Kind) (owner : LetterOwner) → owner_by letter kind ≡ Some owner → is_pane kind ≡ false
owner-leaf letter (kinds.Pane pane) owner e = absurd cc
owner-leaf letter _ owner e = refl

-- each item is there, where they are apart
items-there : (items : List (Option ℤ)) → are_apart items ≡ true → All (λ o. (item : ℤ) × (o ≡ Some item)) items
items-there [] apart = All-nil (λ o. (item : ℤ) × (o ≡ Some item))
items-there (None ∷ items) apart = absurd (false≢true apart)
items-there (Some item ∷ items) apart =
    All-cons (λ o. (item : ℤ) × (o ≡ Some item)) (Some item) items (item, refl)
    (items-there items (and_parts (not (list_any (is_option_item item) items)) (are_apart items) apart).1)

-- ---- the lines of markers that radio buttons separate

abbrev Seen : Type 0
Seen = List Node × Node

module _ (d : Dialog) (all : All (IsOnly d.views) d.views) (names : All (NamesThings d.views) d.rules) (letter : ℕ)
    (radios : Node) (only : IsOnly d.views radios) (kind : IsTrue (is_radios radios.kind)) where
  abbrev is_marked_by : Seen → Bool
  is_marked_by pair = marking d all names letter pair

  abbrev item_of : Seen → Option ℤ
  item_of pair = item_shown_by d.views d.rules radios (marker_after pair)

  abbrev HasItemOf : Seen → Type 0
  HasItemOf pair = (item : ℤ) × (item_of pair ≡ Some item)

  -- the line of a marker of this owner
  abbrev line_of : Seen → LetterOwner → KeyOwner
  line_of pair owner = record { owner = owner; when = when_from (name_of radios.kind) (item_of pair) }

  abbrev lines_in : List Seen → List KeyOwner
  lines_in pairs = filter_map (owner_shown d letter radios) (map marker_after pairs)

  abbrev marks_it : PlacedNode → Bool
  marks_it leaf = is_some (owner_by letter leaf.node.kind)

  unmarking : (pair : Seen) → owner_by letter pair.1.kind ≡ None → is_marked_by pair ≡ false
  unmarking pair none = false_from_ne_true (is_marked_by pair) (λ some. false≢true (sym (ap is_some none) ∙ marking-owned letter pair.1.kind some))

  -- what gives a name has it
  named-so : (o : Option (List ℕ)) (name : List ℕ) → is_option_named name o ≡ true → o ≡ Some name
  named-so None name is = absurd (false≢true is)
  named-so (Some given) name is = ap (λ n. Some n) ((bytes_eq-Decides given name).0 is)

  -- the marker is shown by the item of its line
  shown-when : (pair : Seen) → HasItemOf pair → IsShownWhen d (placed_after pair) (when_from (name_of radios.kind) (item_of pair))
  shown-when pair has =
      let at : IsShownAt d radios has.0 pair = shown_at d all names radios only pair has.0 has.1 in
      let rule : Rule = at.shown.1 in
      let by : ShowsBy d radios (natural has.0) (placed_after pair) rule = at.shown.4 in
      let named : name_of radios.kind ≡ Some rule.cluster = named-so (name_of radios.kind) rule.cluster (found-passes (gives_name rule.cluster) d.views radios by.cluster) in
      subst (λ o. IsShownWhen d (placed_after pair) (when_from o (item_of pair))) (sym named)
      (subst (λ o. IsShownWhen d (placed_after pair) (when_from (Some rule.cluster) o)) (sym has.1)
      (record { radios = radios; named = by.cluster; kind = kind; rule = at.shown }))

  lines_are : (pairs : List Seen) → All HasItemOf (filter is_marked_by pairs)
      → AreLinesOf d letter (lines_in (filter is_marked_by pairs)) (filter marks_it (map placed_after (filter is_leaf pairs)))
  lines_are [] has = tt
  lines_are (pair ∷ pairs) has =
      let kept : List Seen = filter is_marked_by pairs in
      let leaves : List Seen = filter is_leaf pairs in
      let later : All HasItemOf kept → AreLinesOf d letter (lines_in kept) (filter marks_it (map placed_after leaves)) =
      lines_are pairs in
      option_cases (owner_by letter pair.1.kind)
      (λ o. owner_by letter pair.1.kind ≡ o → AreLinesOf d letter (lines_in (filter is_marked_by (pair ∷ pairs))) (filter marks_it (map placed_after (filter is_leaf (pair ∷ pairs)))))
      (λ none e.
      subst (λ b. AreLinesOf d letter (lines_in (cond b (pair ∷ kept) kept)) (filter marks_it (map placed_after (filter is_leaf (pair ∷ pairs))))) (sym (unmarking pair e))
      (bool_cases (is_leaf pair) (λ b. AreLinesOf d letter (lines_in kept) (filter marks_it (map placed_after (cond b (pair ∷ leaves) leaves))))
      (λ leaf. subst (λ o. AreLinesOf d letter (lines_in kept) (cond (is_some o) (placed_after pair ∷ filter marks_it (map placed_after leaves)) (filter marks_it (map placed_after leaves)))) (sym e)
      (later (subst (λ b. All HasItemOf (cond b (pair ∷ kept) kept)) (unmarking pair e) has)))
      (λ pane. later (subst (λ b. All HasItemOf (cond b (pair ∷ kept) kept)) (unmarking pair e) has))))
      (λ owner some e.
      let marked : is_marked_by pair ≡ true = is_marking d all names letter pair.1 (ap is_some e) in
      let leaf : is_leaf pair ≡ true = ap not (owner-leaf letter pair.1.kind owner e) in
      let items : All HasItemOf (pair ∷ kept) = subst (λ b. All HasItemOf (cond b (pair ∷ kept) kept)) marked has in
      subst (λ b. AreLinesOf d letter (lines_in (cond b (pair ∷ kept) kept)) (filter marks_it (map placed_after (filter is_leaf (pair ∷ pairs))))) (sym marked)
      (subst (λ b. AreLinesOf d letter (lines_in (pair ∷ kept)) (filter marks_it (map placed_after (cond b (pair ∷ leaves) leaves)))) (sym leaf)
      (subst (λ o. AreLinesOf d letter (cons_option (option_map (line_of pair) o) (lines_in kept)) (cond (is_some o) (placed_after pair ∷ filter marks_it (map placed_after leaves)) (filter marks_it (map placed_after leaves)))) (sym e)
      (record { owner = e; when = shown-when pair (All-head HasItemOf pair kept items) }, later (All-tail HasItemOf pair kept items)))))
      refl

  -- a line for each of some markers
  as_many : (pairs : List Seen) → All (λ pair. is_some (owner_by letter pair.1.kind) ≡ true) pairs → length (lines_in pairs) ≡ length pairs
  as_many [] owned = refl
  as_many (pair ∷ pairs) owned =
      option_cases (owner_by letter pair.1.kind) (λ o. owner_by letter pair.1.kind ≡ o → length (cons_option (option_map (line_of pair) o) (lines_in pairs)) ≡ suc (length pairs))
      (λ none e. absurd (false≢true (sym (ap is_some e) ∙ All-head (λ x. is_some (owner_by letter x.1.kind) ≡ true) pair pairs owned)))
      (λ owner some e. ap suc (as_many pairs (All-tail (λ x. is_some (owner_by letter x.1.kind) ≡ true) pair pairs owned))) refl

  abbrev Differ : Seen → Seen → Type 0
  Differ pair other = DifferentItems (item_of pair) (item_of other)

  -- different items of the same radio buttons
  other-items : (pair other : Seen) → Differ pair other
      → AreOtherItems (when_from (name_of radios.kind) (item_of pair)) (when_from (name_of radios.kind) (item_of other))
  other-items pair other differ =
      let one : IsShownAt d radios differ.item pair = shown_at d all names radios only pair differ.item differ.first in
      let two : IsShownAt d radios differ.other_item other = shown_at d all names radios only other differ.other_item differ.second in
      let rule : Rule = one.shown.1 in
      let by : ShowsBy d radios (natural differ.item) (placed_after pair) rule = one.shown.4 in
      let named : name_of radios.kind ≡ Some rule.cluster = named-so (name_of radios.kind) rule.cluster (found-passes (gives_name rule.cluster) d.views radios by.cluster) in
      subst (λ o. AreOtherItems (when_from o (item_of pair)) (when_from o (item_of other))) (sym named)
      (subst (λ o. AreOtherItems (when_from (Some rule.cluster) o) (when_from (Some rule.cluster) (item_of other))) (sym differ.first)
      (subst (λ o. AreOtherItems (when_from (Some rule.cluster) (Some differ.item)) (when_from (Some rule.cluster) o)) (sym differ.second)
      (refl, natural_apart differ.item differ.other_item one.counted two.counted differ.apart)))

  others_apart : (pair : Seen) (owner : LetterOwner) (pairs : List Seen) → All (Differ pair) pairs
      → All (λ line. AreOtherItems (line_of pair owner).when line.when) (lines_in pairs)
  others_apart pair owner [] differ = All-nil (λ line. AreOtherItems (line_of pair owner).when line.when)
  others_apart pair owner (other ∷ pairs) differ =
      let P : KeyOwner → Type 0 = λ line. AreOtherItems (line_of pair owner).when line.when in
      let later : All P (lines_in pairs) = others_apart pair owner pairs (All-tail (Differ pair) other pairs differ) in
      option_cases (owner_by letter other.1.kind) (λ o. All P (cons_option (option_map (line_of other) o) (lines_in pairs)))
      (λ none. later)
      (λ given some. All-cons P (line_of other given) (lines_in pairs)
      (other-items pair other (All-head (Differ pair) other pairs differ)) later)

  lines_apart : (pairs : List Seen) → AllPairs Differ pairs → AllPairs (λ line other. AreOtherItems line.when other.when) (lines_in pairs)
  lines_apart [] differ = pairs_nil (λ line other. AreOtherItems line.when other.when)
  lines_apart (pair ∷ pairs) differ =
      let R : KeyOwner → KeyOwner → Type 0 = λ line other. AreOtherItems line.when other.when in
      let rest : List KeyOwner = lines_in pairs in
      let later : AllPairs R rest = lines_apart pairs (pairs_tail Differ pair pairs differ) in
      option_cases (owner_by letter pair.1.kind) (λ o. AllPairs R (cons_option (option_map (line_of pair) o) rest)) (λ none. later)
      (λ owner some. AllPairs-cons R (line_of pair owner) rest (others_apart pair owner pairs (pairs_head Differ pair pairs differ)) later)

-- ---- the lines of a dialog

module _ (d : Dialog) (rising : AreRising d.views) (are : AreViews 0 d.views) (names : All (NamesThings d.views) d.rules) where
  abbrev seen : List Seen
  seen = after_seen [] d.views

  abbrev only : All (IsOnly d.views) d.views
  only = all_only d.views rising

  abbrev kept : ℕ → List Seen
  kept letter = filter (marking d only names letter) seen

  abbrev markers : ℕ → List Marker
  markers letter = markers_of d.views letter

  abbrev item_by : Node → Marker → Option ℤ
  item_by radios marker = item_shown_by d.views d.rules radios marker

  shared-lines : (version : Version) (letter : ℕ) (radios : Node) → owners_of version d letter ≡ owners_at d letter (Some radios)
      → sharer_of d.views d.rules letter ≡ Some radios → HasLinesOf version d letter
  shared-lines version letter radios owned shared =
      bool_cases (may_share letter (markers letter)) (λ b. may_share letter (markers letter) ≡ b → (if b then find (separates d.views d.rules (markers letter)) d.views else None) ≡ Some radios → HasLinesOf version d letter)
      (λ yes may found.
      let h = found_holds (IsOnly d.views) (separates d.views d.rules (markers letter)) d.views radios only found in
      let own = and_parts (is_radios radios.kind) (are_apart (map (item_by radios) (markers letter))) h.1 in
      let there : All (λ o. (item : ℤ) × (o ≡ Some item)) (map (item_by radios) (markers letter)) = items-there (map (item_by radios) (markers letter)) own.1 in
      let items : All (HasItemOf d only names letter radios h.0 own.0) (kept letter) =
      (all_map (λ marker. (item : ℤ) × (item_by radios marker ≡ Some item)) marker_after (kept letter)).0 ((all_map (λ o. (item : ℤ) × (o ≡ Some item)) (item_by radios) (markers letter)).0 there) in
      let lines = lines_in d only names letter radios h.0 own.0 (kept letter) in
      let differ : AllPairs (Differ d only names letter radios h.0 own.0) (kept letter) =
      (pairs_map (λ one other. DifferentItems (item_by radios one) (item_by radios other)) marker_after (kept letter)).0 ((pairs_map DifferentItems (item_by radios) (markers letter)).0 (differ_apart (map (item_by radios) (markers letter)) own.1)) in
      let count : length lines ≡ length (kept letter) = as_many d only names letter radios h.0 own.0 (kept letter) owners in
      record {
        markers = subst (λ given. AreLinesOf d letter given (marking_leaves d letter)) (sym owned)
            (subst (λ leaves. AreLinesOf d letter lines (filter (λ leaf. is_some (owner_by letter leaf.node.kind)) leaves)) (sym (leaf_list-after d.views are))
            (lines_are d only names letter radios h.0 own.0 seen items));
        alone = λ line e. absurd (too_many lines line count (sym owned ∙ e) (and_parts (nat_lt 1 (length (markers letter))) _ may).0);
        apart = subst (AllPairs (λ line other. AreOtherItems line.when other.when)) (sym owned)
            (lines_apart d only names letter radios h.0 own.0 (kept letter) differ);
      })
      (λ no may found. absurd cc)
      refl shared
    where
      owners : All (λ pair. is_some (owner_by letter pair.1.kind) ≡ true) (kept letter)
      owners k pair less = marking-owned letter (get_or (kept letter) k pair).1.kind (filter_passes (marking d only names letter) seen k pair less)

      too_many : (lines : List KeyOwner) (line : KeyOwner) → length lines ≡ length (kept letter) → lines ≡ line ∷ [] → nat_lt 1 (length (markers letter)) ≡ true → ⊥
      too_many lines line count one several =
          let same : length (markers letter) ≡ length (kept letter) = length-map (kept letter) marker_after in
          false≢true (sym (ap (λ n. nat_lt 1 n) (same ∙ sym count ∙ ap length one)) ∙ several)

  pub has-lines : (version : Version) → HasOwnLetters (dialog_body version d) → HasLines version d
  has-lines version own letter = at (sharer_by (sharing_rules version d.rules) d.views letter) refl
    where
      by : (version : Version) (radios : Node) → sharer_by (sharing_rules version d.rules) d.views letter ≡ Some radios → sharer_of d.views d.rules letter ≡ Some radios
      by versions.One radios is = absurd cc
      by versions.Two radios is = is

      at : (o : Option Node) → sharer_by (sharing_rules version d.rules) d.views letter ≡ o → HasLinesOf version d letter
      at None is = lines-alone version d letter is (own_letters (λ letter. is_some (sharer_by (sharing_rules version d.rules) d.views letter)) d.views own letter (ap is_some is))
      at (Some radios) is = shared-lines version letter radios (ap (owners_at d letter) is) (by version radios is)
