-- Leaves that share a letter lawfully are shown by different items of the same radio buttons.
use Rattle.std.proofs.Common.{◌≡◌, ◌≢◌, ℕ, suc, ◌<◌, ◌==◌, nat_lt, IsTrue, Bool, true, false, not, ◌||◌, List, [], ◌∷◌, ◌++◌, filter, find, length, get_or, map, Option, Some, None, option_map, is_some, if◌then◌else◌, ℤ, pos, negsuc, ◌≤ℤ◌, refl, sym, ap, subst, ◌∙◌, arith}
use Rattle.std.specs.List.{All, AllPairs, Any, list_any}
use Rattle.std.specs.Ordering.{int_eq}
use Rattle.std.proofs.lemmas.Bool.{and_parts, eqb-true, false≢true, false_from_ne_true, not-true, or_parts}
use Rattle.std.proofs.lemmas.Bool.Decides.{Decides-eqb, Decides-int_eq, nat_tests}
use Rattle.std.proofs.lemmas.Int.{ints}
use Rattle.std.proofs.lemmas.List.Elements.{All-nil, All-cons, All-head, All-tail}
use Rattle.std.proofs.lemmas.List.Kept.{AllPairs-cons, AllPairs-filter}
use Rattle.tv_model.specs.declared.node.Id.{Id}
use Rattle.tv_model.specs.declared.node.Node.{Node}
use Rattle.tv_model.specs.declared.kind.Kind.{Kind}
use Rattle.tv_model.specs.declared.kind.Kind.TheVariants as kinds
use Rattle.tv_model.specs.declared.desc.Dialog.{Dialog}
use Rattle.tv_model.specs.declared.desc.Rule.{Rule}
use Rattle.tv_model.specs.declared.desc.Effect.{Effect}
use Rattle.tv_model.specs.declared.desc.Effect.TheVariants as effects
use Rattle.tv_model.specs.declared.desc.Version.{Version}
use Rattle.tv_model.specs.declared.desc.Version.TheVariants as versions
use Rattle.tv_model.specs.Description.Letters.{marked_of}
use Rattle.tv_model.specs.Description.Marks.{marks}
use Rattle.tv_model.specs.Description.Names.{gives_name, meant}
use Rattle.tv_model.specs.Description.Nodes.{AreRising, node_of}
use Rattle.tv_model.specs.Description.Numbers.{natural}
use Rattle.tv_model.specs.Description.Sharing.{Marker, are_apart, is_option_item, is_option_view, is_radios, is_shown_by, item_shown_by, marked_times, markers_of, may_share, separates, sharer_by, sharer_of, sharing_rules, shows_marker}
use Rattle.tv_model.specs.Faults.Lines.{after_seen}
use Rattle.tv_machine.specs.Dialog.Lawful.{AreShownApart, Marks, ShowsBy}
use Rattle.tv_machine.specs.Dialog.Rules.{shows}
use Rattle.tv_machine.specs.Leaves.{leaf_list}
use Rattle.tv_declarations.specs.Spelling.{AreViews}
use Rattle.tv_faults.specs.Sound.Bodies.{dialog_body}
use Rattle.tv_faults.specs.Sound.Letters.{HasOwnLetters}
use Rattle.tv_faults.specs.Sound.Rules.{HasItem, NamesThings}
use Rattle.tv_faults.proofs.LawfulPartLemmas.{marks_some, own_letters}
use Rattle.tv_faults.proofs.PairLemmas.{pairs_head, pairs_map, pairs_nil, pairs_tail}
use Rattle.tv_faults.proofs.SeenLemmas.{is_leaf, leaf_list-after, placed_after}
use Rattle.tv_machine.proofs.ListLemmas.{bool_cases}

-- ---- lists

-- what is found passes the test, and has what all items have
pub found_holds : {A : Type 0} (Q : A → Type 0) (p : A → Bool) (xs : List A) (x : A) → All Q xs → find p xs ≡ Some x → Q x × (p x ≡ true)
found_holds Q p [] x all found = absurd cc
found_holds Q p (y ∷ ys) x all found =
    bool_cases (p y) (λ b. (if b then Some y else find p ys) ≡ Some x → Q x × (p x ≡ true))
    (λ is found. let same : y ≡ x = cc in subst (λ z. Q z × (p z ≡ true)) same (All-head Q y ys all, is))
    (λ is found. found_holds Q p ys x (All-tail Q y ys all) found)
    found

-- what is found is one of the items
found_among : {A : Type 0} (Q : A → Type 0) (p : A → Bool) (xs : List A) (x : A) → find p xs ≡ Some x → Q x → Any Q xs
found_among Q p [] x found has = absurd cc
found_among Q p (y ∷ ys) x found has =
    bool_cases (p y) (λ b. (if b then Some y else find p ys) ≡ Some x → Any Q (y ∷ ys))
    (λ is found. let same : y ≡ x = cc in (0, y, omega arith, refl, subst Q (sym same) has))
    (λ is found. let h = found_among Q p ys x found has in (suc h.0, h.1, omega (arith, h.2), h.3, h.4))
    found

module _ {A : Type 0} (p : A → Bool) where
  all_passing : (Q : A → Type 0) (xs : List A) → All Q (filter p xs) → All (λ x. p x ≡ true → Q x) xs
  all_passing Q [] all = All-nil (λ x. p x ≡ true → Q x)
  all_passing Q (x ∷ xs) all =
      let passing : A → Type 0 = λ x. p x ≡ true → Q x in
      bool_cases (p x) (λ b. All Q (if b then x ∷ filter p xs else filter p xs) → All passing (x ∷ xs))
      (λ is all. All-cons passing x xs (λ t. All-head Q x (filter p xs) all) (all_passing Q xs (All-tail Q x (filter p xs) all)))
      (λ is all. All-cons passing x xs (λ t. absurd (false≢true (sym is ∙ t))) (all_passing Q xs all))
      all

  -- what holds of each two items that pass
  pairs_passing : (R : A → A → Type 0) (xs : List A) → AllPairs R (filter p xs) → AllPairs (λ x y. p x ≡ true → p y ≡ true → R x y) xs
  pairs_passing R [] all = pairs_nil (λ x y. p x ≡ true → p y ≡ true → R x y)
  pairs_passing R (x ∷ xs) all =
      let passing : A → A → Type 0 = λ x y. p x ≡ true → p y ≡ true → R x y in
      bool_cases (p x) (λ b. AllPairs R (if b then x ∷ filter p xs else filter p xs) → AllPairs passing (x ∷ xs))
      (λ is all. AllPairs-cons passing x xs (λ k d less t u. all_passing (R x) xs (pairs_head R x (filter p xs) all) k d less u)
      (pairs_passing R xs (pairs_tail R x (filter p xs) all)))
      (λ is all. AllPairs-cons passing x xs (λ k d less t u. absurd (false≢true (sym is ∙ t))) (pairs_passing R xs all))
      all

  some_kept : (xs : List A) → list_any p xs ≡ true → nat_lt 0 (length (filter p xs)) ≡ true
  some_kept [] some = absurd (false≢true some)
  some_kept (x ∷ xs) some =
      bool_cases (p x) (λ b. (b || list_any p xs) ≡ true → nat_lt 0 (length (if b then x ∷ filter p xs else filter p xs)) ≡ true)
      (λ is some. less_holds 0 (suc (length (filter p xs))) (omega arith))
      (λ is some. some_kept xs some)
      some
    where
      less_holds : (a b : ℕ) → a < b → nat_lt a b ≡ true
      less_holds a b less = grind (arith, nat_tests)

own_after : {A : Type 0} (seen xs : List A) → map (λ pair. pair.1) (after_seen seen xs) ≡ xs
own_after seen [] = refl
own_after seen (x ∷ xs) = ap (λ ys. x ∷ ys) (own_after (seen ++ x ∷ []) xs)

-- ---- items that differ

-- there are two items, and they differ
pub record DifferentItems (one other : Option ℤ) : Type 0 where
  pub item : ℤ
  pub other_item : ℤ
  pub first : one ≡ Some item
  pub second : other ≡ Some other_item
  pub apart : item ≢ other_item

differ_all : (item : ℤ) (items : List (Option ℤ)) → list_any (is_option_item item) items ≡ false → are_apart items ≡ true → All (DifferentItems (Some item)) items
differ_all item [] none apart = All-nil (DifferentItems (Some item))
differ_all item (None ∷ items) none apart = absurd (false≢true apart)
differ_all item (Some other ∷ items) none apart =
    let h = or_parts (int_eq other item) (list_any (is_option_item item) items) none in
    let more = and_parts (not (list_any (is_option_item other) items)) (are_apart items) apart in
    All-cons (DifferentItems (Some item)) (Some other) items
    (record { item = item; other_item = other; first = refl; second = refl; apart = λ same. false≢true (sym h.0 ∙ (Decides-int_eq other item).1 (sym same)) })
    (differ_all item items h.1 more.1)

pub differ_apart : (items : List (Option ℤ)) → are_apart items ≡ true → AllPairs DifferentItems items
differ_apart [] apart = pairs_nil DifferentItems
differ_apart (None ∷ items) apart = absurd (false≢true apart)
differ_apart (Some item ∷ items) apart =
    let h = and_parts (not (list_any (is_option_item item) items)) (are_apart items) apart in
    AllPairs-cons DifferentItems (Some item) items
    (differ_all item items (not-true (list_any (is_option_item item) items) h.0) h.1) (differ_apart items h.1)

-- items are counted from 1, so they differ as numbers too
pub natural_apart : (i j : ℤ) → pos 1 ≤ℤ i → pos 1 ≤ℤ j → i ≢ j → natural i ≢ natural j
natural_apart (pos n) (pos m) one other apart same = apart (ap pos same)
natural_apart (pos n) (negsuc m) one other apart same = absurd (omega (arith, ints, other))
natural_apart (negsuc n) j one other apart same = absurd (omega (arith, ints, one))

from_one : (n : ℤ) (kind : Kind) → HasItem n kind → pos 1 ≤ℤ n
from_one n (kinds.CheckBoxes boxes) has = has.0
from_one n (kinds.RadioButtons radios) has = has.0
from_one n _ has = absurd has

-- ---- ids

-- its id is that of no other view
abbrev pub IsOnly : List Node → Node → Type 0
IsOnly views view = (i : Id) → i.0 ≡ view.id.0 → node_of views i ≡ Some view

pub all_only : (views : List Node) → AreRising views → All (IsOnly views) views
all_only [] rising = All-nil (IsOnly [])
all_only (view ∷ views) rising =
    let later : Node → Node → Type 0 = λ node later. node.id.0 < later.id.0 in
    All-cons (IsOnly (view ∷ views)) view views
    (λ i same. ap (λ b. if b then Some view else node_of views i) ((Decides-eqb view.id.0 i.0).1 (sym same)))
    (λ k other less i same.
    let below : view.id.0 < (get_or views k other).id.0 = pairs_head later view views rising k other less in
    ap (λ b. if b then Some view else node_of views i)
    (false_from_ne_true (view.id.0 == i.0) (λ t. let e : view.id.0 ≡ i.0 = eqb-true view.id.0 i.0 t in omega (arith, same, below, e)))
    ∙ all_only views (pairs_tail later view views rising) k other less i same)

same_view : (views : List Node) (one other : Node) → IsOnly views one → IsOnly views other → one.id.0 ≡ other.id.0 → one ≡ other
same_view views one other only too same =
    let first : node_of views one.id ≡ Some one = only one.id refl in
    let second : node_of views one.id ≡ Some other = too one.id same in
    cc

module _ (views : List Node) (all : All (IsOnly views) views) where
  -- the cluster's name means the radio buttons
  means_radios : (radios : Node) → IsOnly views radios → (name : List ℕ) → is_option_view radios (meant views name) ≡ true → meant views name ≡ Some radios
  means_radios radios only name is = at (meant views name) refl is
    where
      at : (o : Option Node) → meant views name ≡ o → is_option_view radios o ≡ true → meant views name ≡ Some radios
      at None found is = absurd (false≢true is)
      at (Some other) found is =
          let own = found_holds (IsOnly views) (gives_name name) views other all found in
          found ∙ ap Some (same_view views other radios own.0 only (eqb-true other.id.0 radios.id.0 is))

-- ---- leaves that rules show apart

abbrev pub marker_after : List Node × Node → Marker
marker_after pair = record { before = pair.0; node = pair.1 }

-- what shows a leaf by this item, which is counted from 1
pub record IsShownAt (d : Dialog) (radios : Node) (item : ℤ) (pair : List Node × Node) : Type 0 where
  pub shown : Any (ShowsBy d radios (natural item) (placed_after pair)) d.rules
  pub counted : pos 1 ≤ℤ item

module _ (d : Dialog) (all : All (IsOnly d.views) d.views) (names : All (NamesThings d.views) d.rules) where
  -- the rule shows the leaf where it shows the marker
  shows_leaf : (pair : List Node × Node) (effect : Effect) → is_shown_by d.views (marker_after pair) effect ≡ true → IsTrue (shows d.views (placed_after pair) effect)
  shows_leaf pair (effects.Show name) shown = shown
  shows_leaf pair (effects.Enable command) shown = shown

  module _ (radios : Node) (only : IsOnly d.views radios) where
    shows_by : (pair : List Node × Node) (rule : Rule) → shows_marker d.views radios (marker_after pair) rule ≡ true → ShowsBy d radios (natural rule.item) (placed_after pair) rule
    shows_by pair rule passes =
        let h = and_parts (is_option_view radios (meant d.views rule.cluster)) (is_shown_by d.views (marker_after pair) rule.effect) passes in
        record {
          showing = shows_leaf pair rule.effect h.1;
          cluster = means_radios d.views all radios only rule.cluster h.0;
          marked = refl;
        }

    pub shown_at : (pair : List Node × Node) (item : ℤ) → item_shown_by d.views d.rules radios (marker_after pair) ≡ Some item → IsShownAt d radios item pair
    shown_at pair item is = at (find (shows_marker d.views radios (marker_after pair)) d.rules) refl is
      where
        at : (o : Option Rule) → find (shows_marker d.views radios (marker_after pair)) d.rules ≡ o → option_map (λ (rule : Rule). rule.item) o ≡ Some item → IsShownAt d radios item pair
        at None found is = absurd cc
        at (Some rule) found is =
            let h = found_holds (NamesThings d.views) (shows_marker d.views radios (marker_after pair)) d.rules rule names found in
            let same : rule.item ≡ item = cc in
            let own : ShowsBy d radios (natural item) (placed_after pair) rule =
            subst (λ n. ShowsBy d radios (natural n) (placed_after pair) rule) same (shows_by pair rule h.1) in
            record {
              shown = found_among (ShowsBy d radios (natural item) (placed_after pair)) (shows_marker d.views radios (marker_after pair)) d.rules rule found own;
              counted = subst (λ n. pos 1 ≤ℤ n) same (from_one rule.item h.0.item.0.kind h.0.item.2);
            }

    shown_apart : is_radios radios.kind ≡ true → (pair other : List Node × Node)
        → DifferentItems (item_shown_by d.views d.rules radios (marker_after pair)) (item_shown_by d.views d.rules radios (marker_after other))
        → AreShownApart d (placed_after pair) (placed_after other)
    shown_apart kind pair other differ =
        let one = shown_at pair differ.item differ.first in
        let too = shown_at other differ.other_item differ.second in
        record {
          radios = radios;
          kind = kind;
          item = natural differ.item;
          other_item = natural differ.other_item;
          apart = natural_apart differ.item differ.other_item one.counted too.counted differ.apart;
          shown = one.shown;
          other_shown = too.shown;
        }

  -- ---- leaves that mark a letter

  abbrev AreApart : ℕ → List Node × Node → List Node × Node → Type 0
  AreApart letter pair other = Marks letter pair.1 → Marks letter other.1 → AreShownApart d (placed_after pair) (placed_after other)

  abbrev pub marking : ℕ → List Node × Node → Bool
  marking letter pair = nat_lt 0 (marked_times letter pair.1)

  pub is_marking : (letter : ℕ) (view : Node) → Marks letter view → nat_lt 0 (marked_times letter view) ≡ true
  is_marking letter view marked = some_kept (marks letter) (marked_of view.kind) (marks_some letter view.kind marked)

  abbrev pairs : List (List Node × Node)
  pairs = after_seen [] d.views

  module _ (letter : ℕ) (radios : Node) where
    abbrev markers : List Marker
    markers = markers_of d.views letter

    abbrev item_at : Marker → Option ℤ
    item_at marker = item_shown_by d.views d.rules radios marker

    abbrev Differ : List Node × Node → List Node × Node → Type 0
    Differ pair other = DifferentItems (item_at (marker_after pair)) (item_at (marker_after other))

    separated : separates d.views d.rules markers radios ≡ true → IsOnly d.views radios → AllPairs (AreApart letter) pairs
    separated separating only i j pair less within one other =
        let own = and_parts (is_radios radios.kind) (are_apart (map item_at markers)) separating in
        let items : AllPairs (λ one other. DifferentItems (item_at one) (item_at other)) markers =
        (pairs_map DifferentItems item_at markers).0 (differ_apart (map item_at markers) own.1) in
        let kept : AllPairs Differ (filter (marking letter) pairs) =
        (pairs_map (λ one other. DifferentItems (item_at one) (item_at other)) marker_after (filter (marking letter) pairs)).0 items in
        shown_apart radios only own.0 (get_or pairs i pair) (get_or pairs j pair)
        (pairs_passing (marking letter) Differ pairs kept i j pair less within
        (is_marking letter (get_or pairs i pair).1 one) (is_marking letter (get_or pairs j pair).1 other))

    -- these radio buttons have another item for each view that marks the letter
    apart_by : sharer_of d.views d.rules letter ≡ Some radios → AllPairs (AreApart letter) pairs
    apart_by shared =
        bool_cases (may_share letter markers) (λ b. (if b then find (separates d.views d.rules markers) d.views else None) ≡ Some radios → AllPairs (AreApart letter) pairs)
        (λ may found. let h = found_holds (IsOnly d.views) (separates d.views d.rules markers) d.views radios all found in separated h.1 h.0)
        (λ no found. absurd cc)
        shared

  -- no two views mark the letter
  apart_alone : (letter : ℕ) → AllPairs (λ view other. Marks letter view → Marks letter other → ⊥) d.views → AllPairs (AreApart letter) (after_seen [] d.views)
  apart_alone letter alone i j pair less within one other =
      absurd ((pairs_map (λ view other. Marks letter view → Marks letter other → ⊥) (λ pair. pair.1) (after_seen [] d.views)).0
      (subst (AllPairs (λ view other. Marks letter view → Marks letter other → ⊥)) (sym (own_after [] d.views)) alone) i j pair less within one other)

  -- by the rules of this version
  apart_in : (version : Version) → HasOwnLetters (dialog_body version d) → (letter : ℕ) → AllPairs (AreApart letter) (after_seen [] d.views)
  apart_in version own letter = at (sharer_by (sharing_rules version d.rules) d.views letter) refl
    where
      by : (version : Version) (radios : Node) → sharer_by (sharing_rules version d.rules) d.views letter ≡ Some radios → sharer_of d.views d.rules letter ≡ Some radios
      by versions.One radios is = absurd cc
      by versions.Two radios is = is

      at : (o : Option Node) → sharer_by (sharing_rules version d.rules) d.views letter ≡ o → AllPairs (AreApart letter) (after_seen [] d.views)
      at None is = apart_alone letter (own_letters (λ letter. is_some (sharer_by (sharing_rules version d.rules) d.views letter)) d.views own letter (ap is_some is))
      at (Some radios) is = apart_by letter radios (by version radios is)

-- leaves that mark a letter are shown apart
pub letters_apart : (d : Dialog) (version : Version) → AreRising d.views → AreViews 0 d.views → All (NamesThings d.views) d.rules → HasOwnLetters (dialog_body version d) → (letter : ℕ)
    → AllPairs (λ leaf other. Marks letter leaf.node → Marks letter other.node → AreShownApart d leaf other) (leaf_list d.views)
letters_apart d version rising are names own letter =
    let pairs = after_seen [] d.views in
    let apart = apart_in d (all_only d.views rising) names version own letter in
    subst (AllPairs (λ leaf other. Marks letter leaf.node → Marks letter other.node → AreShownApart d leaf other)) (sym (leaf_list-after d.views are))
    ((pairs_map (λ leaf other. Marks letter leaf.node → Marks letter other.node → AreShownApart d leaf other) placed_after (filter is_leaf pairs)).1
    (AllPairs-filter (λ pair other. Marks letter pair.1 → Marks letter other.1 → AreShownApart d (placed_after pair) (placed_after other)) is_leaf pairs apart))
