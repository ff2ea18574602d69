-- Letters that views share, as they are searched for.
use Rattle.std.proofs.Common.{◌≡◌, ℕ, ◌<◌, ◌+◌, ◌==◌, nat_lt, Bool, true, false, cond, not, ◌&&◌, ◌||◌, List, [], ◌∷◌, ◌++◌, map, filter, find, take, drop, get_or, length, Option, Some, None, refl, sym, ap, ◌∙◌, add-one, drop-cons, arith}
use Rattle.std.specs.Prelude.{ℤ, is_some, option_map, slice_index_or}
use Rattle.std.specs.List.{cons_option, list_all, list_any}
use Rattle.std.specs.Ordering.{int_eq}
use Rattle.std.proofs.lemmas.Bool.{or_parts}
use Rattle.std.proofs.lemmas.List.{length-map}
use Rattle.tv_model.specs.Faults.Lines.{after_seen}
use Rattle.tv_model.specs.declared.node.Id.{Id}
use Rattle.tv_model.specs.declared.node.Node.{Node}
use Rattle.tv_model.specs.declared.kind.MarkedText.{MarkedText}
use Rattle.tv_model.specs.declared.desc.Rule.{Rule}
use Rattle.tv_model.specs.declared.desc.Effect.{Effect}
use Rattle.tv_model.specs.declared.desc.Effect.TheVariants as effects
use Rattle.tv_model.specs.Description.Letters.{marked_of}
use Rattle.tv_model.specs.Description.Marks.{marks}
use Rattle.tv_model.specs.Description.Names.{meant}
use Rattle.tv_model.specs.Description.Nodes.{has_id}
use Rattle.tv_model.specs.Description.Panes.{panes_around}
use Rattle.tv_model.specs.Description.Rules.{option_stands_over, stands_over}
use Rattle.tv_model.specs.Description.Sharing.{Marker, are_apart, is_option_item, is_option_view, is_radios, is_shared, is_shown_by, item_shown_by, markers_of, marked_times, may_share, separates, sharer_of, shows_marker}
use Rattle.tv_names.specs.declared.sharing.ShowRule.{ShowRule}
use Rattle.tv_names.specs.Focus.{standing}
use Rattle.tv_names.specs.Marked.{is_marked_by}
use Rattle.tv_names.specs.Sharing.{AreMarkersAt, RadioRules, are_apart_from, first_item, first_separating, goes_by, groups_of, is_new, is_over, item_showing, items_at, marker_at, or_option_item, rules_by, show_rule_by, show_rule_from, show_rules_of}
use Rattle.tv_model.proofs.TestLemmas.{and_false, and_true, any_none, any_or, any_same}

-- ---- the item that shows a marker

module _ (views : List Node) (radios : Node) (marker : Marker) where
  abbrev Item : List ShowRule → Option ℤ
  Item rules = item_showing rules radios.id marker.before marker.node

  abbrev found_item : Option Rule → Option ℤ
  found_item found = option_map (λ rule. rule.item) found

  -- a rule is passed over
  passed : (rule : Rule) (test : Bool) (later : Option ℤ) (found : Option Rule) → test ≡ false → later ≡ found_item found → later ≡ found_item (cond test (Some rule) found)
  passed rule test later found fails is = is ∙ ap (λ b. found_item (cond b (Some rule) found)) (sym fails)

  -- it is found, or both go on
  tested : (rule : Rule) (own : ShowRule) (test : Bool) (later : Option ShowRule) (found : Option Rule) → own.item ≡ rule.item → option_map (λ s. s.item) later ≡ found_item found
      → option_map (λ s. s.item) (cond test (Some own) later) ≡ found_item (cond test (Some rule) found)
  tested rule own true later found same is = ap Some same
  tested rule own false later found same is = is

  by_names : (rule : Rule) (cluster target : Option Node) (later : List ShowRule) (found : Option Rule) → Item later ≡ found_item found
      → Item (cons_option (show_rule_from rule.item cluster target) later) ≡ found_item (cond (is_option_view radios cluster && option_stands_over target marker.before marker.node) (Some rule) found)
  by_names rule None target later found is = is
  by_names rule (Some cluster) None later found is = passed rule (has_id radios.id cluster && false) (Item later) found (and_false (has_id radios.id cluster)) is
  by_names rule (Some cluster) (Some target) later found is =
      let own : ShowRule = record { cluster = cluster.id; target = target.id; item = rule.item } in
      tested rule own (goes_by radios.id own && stands_over own.target marker.before marker.node) (find (λ s. goes_by radios.id s && stands_over s.target marker.before marker.node) later) found refl is

  by_effect : (rule : Rule) (effect : Effect) (later : List ShowRule) (found : Option Rule) → Item later ≡ found_item found
      → Item (cons_option (show_rule_by views rule effect) later) ≡ found_item (cond (is_option_view radios (meant views rule.cluster) && is_shown_by views marker effect) (Some rule) found)
  by_effect rule (effects.Show name) later found is = by_names rule (meant views rule.cluster) (meant views name) later found is
  by_effect rule (effects.Enable command) later found is =
      passed rule (is_option_view radios (meant views rule.cluster) && false) (Item later) found (and_false (is_option_view radios (meant views rule.cluster))) is

  pub item_is : (rules : List Rule) → Item (show_rules_of views rules) ≡ item_shown_by views rules radios marker
  item_is [] = refl
  item_is (rule ∷ rules) = by_effect rule rule.effect (show_rules_of views rules) (find (shows_marker views radios marker) rules) (item_is rules)

-- a rule shows what it stands over, by ids
over_is : (target : Id) (views : List Node) → list_any (λ i. i.0 == target.0) (map (λ view. view.id) views) ≡ list_any (has_id target) views
over_is target [] = refl
over_is target (view ∷ views) = ap (λ b. has_id target view || b) (over_is target views)

-- among the rules that go by one cluster
module _ (i : Id) (before : List Node) (node : Node) where
  abbrev shows_by : ShowRule → Bool
  shows_by rule = goes_by i rule && stands_over rule.target before node

  over_first : (rule : ShowRule) (rules : List ShowRule) (b : Bool) → goes_by i rule ≡ b → find (is_over (standing before node)) (filter (goes_by i) rules) ≡ find shows_by rules
      → find (is_over (standing before node)) (cond b (rule ∷ filter (goes_by i) rules) (filter (goes_by i) rules)) ≡ cond (shows_by rule) (Some rule) (find shows_by rules)
  over_first rule rules true e later =
      ap (λ o. cond (is_over (standing before node) rule) (Some rule) o) later
      ∙ ap (λ b. cond b (Some rule) (find shows_by rules)) (over_is rule.target (node ∷ panes_around before node) ∙ sym (ap (λ b. b && stands_over rule.target before node) e))
  over_first rule rules false e later = later ∙ ap (λ b. cond (b && stands_over rule.target before node) (Some rule) (find shows_by rules)) (sym e)

  first_over : (rules : List ShowRule) → find (is_over (standing before node)) (filter (goes_by i) rules) ≡ find shows_by rules
  first_over [] = refl
  first_over (rule ∷ rules) = over_first rule rules (goes_by i rule) refl (first_over rules)

-- ---- radio buttons that separate

module _ (views : List Node) (rules : List Rule) (d : Node) where
  abbrev Shown : List ShowRule
  Shown = show_rules_of views rules

  own_item : (radios : Node) (place : ℕ) → first_item (rules_by Shown radios).rules (standing (take place views) (slice_index_or views place d)) ≡ item_shown_by views rules radios (marker_at views d place)
  own_item radios place =
      ap (option_map (λ s. s.item)) (first_over radios.id (take place views) (slice_index_or views place d) Shown)
      ∙ item_is views radios (marker_at views d place) rules

  items_are : (radios : Node) (places : List ℕ) → items_at views (rules_by Shown radios) d places ≡ map (item_shown_by views rules radios) (map (marker_at views d) places)
  items_are radios [] = refl
  items_are radios (place ∷ places) =
      ap (λ item. item ∷ items_at views (rules_by Shown radios) d places) (own_item radios place)
      ∙ ap (λ items. item_shown_by views rules radios (marker_at views d place) ∷ items) (items_are radios places)

  chosen : (test own : Bool) (radios : Node) (group : RadioRules) (found : Option Node) (later : Option RadioRules) → own ≡ test → group.radios ≡ radios → option_map (λ g. g.radios) later ≡ found
      → option_map (λ g. g.radios) (cond own (Some group) later) ≡ cond test (Some radios) found
  chosen true own radios group found later e same is = rw e (ap Some same)
  chosen false own radios group found later e same is = rw e is

  module _ (places : List ℕ) where
    abbrev Markers : List Marker
    Markers = map (marker_at views d) places

    -- the first radio buttons that separate are found among the groups
    pub separating_is : (list : List Node) → first_separating views (groups_of list Shown) d places ≡ find (separates views rules Markers) list
    separating_is [] = refl
    separating_is (radios ∷ list) = at (separating_is list) (is_radios radios.kind) refl
      where
        at : first_separating views (groups_of list Shown) d places ≡ find (separates views rules Markers) list → (b : Bool) → is_radios radios.kind ≡ b
            → option_map (λ g. g.radios) (find (λ g. are_apart (items_at views g d places)) (map (rules_by Shown) (cond b (radios ∷ filter (λ view. is_radios view.kind) list) (filter (λ view. is_radios view.kind) list))))
            ≡ cond (is_radios radios.kind && are_apart (map (item_shown_by views rules radios) Markers)) (Some radios) (find (separates views rules Markers) list)
        at later true e =
            chosen (is_radios radios.kind && are_apart (map (item_shown_by views rules radios) Markers)) (are_apart (items_at views (rules_by Shown radios) d places)) radios (rules_by Shown radios)
            (find (separates views rules Markers) list) (find (λ g. are_apart (items_at views g d places)) (groups_of list Shown))
            (ap are_apart (items_are radios places) ∙ ap (λ b. b && are_apart (map (item_shown_by views rules radios) Markers)) (sym e)) refl later
        at later false e = later ∙ ap (λ b. cond (b && are_apart (map (item_shown_by views rules radios) Markers)) (Some radios) (find (separates views rules Markers) list)) (sym e)

-- ---- items that differ

abbrev is_given : (ℤ → Bool) → Option ℤ → Bool
is_given given None = false
is_given given (Some item) = given item

regrouped : (g x a h : Bool) → (not g && (a && not (x || h))) ≡ ((not x && a) && not (g || h))
regrouped true true a h = refl
regrouped true false true h = refl
regrouped true false false h = refl
regrouped false true true h = refl
regrouped false true false h = refl
regrouped false false true h = refl
regrouped false false false h = refl

apart_given : (given : ℤ → Bool) (items : List (Option ℤ)) → are_apart_from given items ≡ (are_apart items && not (list_any (is_given given) items))
apart_given given [] = refl
apart_given given (None ∷ items) = refl
apart_given given (Some item ∷ items) =
    ap (λ b. not (given item) && b) (apart_given (or_option_item given (Some item)) items)
    ∙ ap (λ b. not (given item) && (are_apart items && not b))
    (any_same (is_given (or_option_item given (Some item))) (λ o. is_option_item item o || is_given given o) each items ∙ any_or (is_option_item item) (is_given given) items)
    ∙ regrouped (given item) (list_any (is_option_item item) items) (are_apart items) (list_any (is_given given) items)
  where
    each : (o : Option ℤ) → is_given (or_option_item given (Some item)) o ≡ (is_option_item item o || is_given given o)
    each None = refl
    each (Some other) = refl

same_given : (f g : ℤ → Bool) → ((item : ℤ) → f item ≡ g item) → (items : List (Option ℤ)) → are_apart_from f items ≡ are_apart_from g items
same_given f g same [] = refl
same_given f g same (None ∷ items) = refl
same_given f g same (Some item ∷ items) =
    ap (λ b. not b && are_apart_from (or_option_item f (Some item)) items) (same item)
    ∙ ap (λ b. not (g item) && b) (same_given (or_option_item f (Some item)) (or_option_item g (Some item)) (λ other. ap (λ b. int_eq other item || b) (same other)) items)

none_given : (given : ℤ → Bool) → ((item : ℤ) → given item ≡ false) → (o : Option ℤ) → is_given given o ≡ false
none_given given none None = refl
none_given given none (Some item) = none item

-- with nothing given
pub apart_at_first : (given : ℤ → Bool) → ((item : ℤ) → given item ≡ false) → (items : List (Option ℤ)) → are_apart items ≡ are_apart_from given items
apart_at_first given none items =
    sym (apart_given given items ∙ ap (λ b. are_apart items && not b) (any_none (is_given given) (none_given given none) items) ∙ and_true (are_apart items))

-- the next item is there, and new
pub apart_next : (had has : ℤ → Bool) (item : Option ℤ) (items : List (Option ℤ)) → is_new had item ≡ true → ((other : ℤ) → has other ≡ or_option_item had item other)
    → are_apart_from had (item ∷ items) ≡ are_apart_from has items
apart_next had has item items new put = ap (λ b. b && are_apart_from (or_option_item had item) items) new ∙ same_given (or_option_item had item) has (λ other. sym (put other)) items

-- ---- one item after the other

-- what is left of a list from one of its items on
pub rest_at : {A : Type 0} (xs : List A) (i : ℕ) (x : A) → i < length xs → x ≡ get_or xs i x → drop i xs ≡ x ∷ drop (i + 1) xs
rest_at xs i x less is = rw add-one (drop-cons xs i x less) ∙ ap (λ y. y ∷ drop (i + 1) xs) (sym is)

module _ {A : Type 0} (p : A → Bool) (xs : List A) (i : ℕ) (x : A) (less : i < length xs) (is : x ≡ get_or xs i x) where
  pub all_next : p x ≡ true → list_all p (drop (i + 1) xs) ≡ list_all p (drop i xs)
  all_next passes = sym (ap (list_all p) (rest_at xs i x less is) ∙ ap (λ b. b && list_all p (drop (i + 1) xs)) passes)

  pub all_ends : p x ≡ false → list_all p (drop i xs) ≡ false
  all_ends fails = ap (list_all p) (rest_at xs i x less is) ∙ ap (λ b. b && list_all p (drop (i + 1) xs)) fails

-- ---- markers by places

-- the markers among views, after those that were seen
abbrev pub markers_after : ℕ → List Node → List Node → List Marker
markers_after letter seen views =
    map (λ pair. record { before = pair.0; node = pair.1 }) (filter (λ pair. nat_lt 0 (marked_times letter pair.1)) (after_seen seen views))

-- ---- the radio buttons of a letter

module _ (views : List Node) (letter : ℕ) (d : Node) where
  abbrev marks_once : ℕ → Bool
  marks_once place = marked_times letter (slice_index_or views place d) == 1

  all_once : (places : List ℕ) → list_all (λ marker. marked_times letter marker.node == 1) (map (marker_at views d) places) ≡ list_all marks_once places
  all_once [] = refl
  all_once (place ∷ places) = ap (λ b. marks_once place && b) (all_once places)

  may_share_at : (places : List ℕ) → AreMarkersAt views letter places → may_share letter (markers_of views letter) ≡ (nat_lt 1 (length places) && list_all marks_once places)
  may_share_at places at =
      ap (may_share letter) (sym (at.markers d))
      ∙ ap (λ n. nat_lt 1 n && list_all (λ (marker : Marker). marked_times letter marker.node == 1) (map (marker_at views d) places)) (length-map places (marker_at views d))
      ∙ ap (λ b. nat_lt 1 (length places) && b) (all_once places)

-- whether the views at these places may share the letter
abbrev may_at : List Node → ℕ → List ℕ → Node → Bool
may_at views letter places d = nat_lt 1 (length places) && list_all (λ place. marked_times letter (slice_index_or views place d) == 1) places

pub shared_by : (views : List Node) (rules : List Rule) (letter : ℕ) (places : List ℕ) (found : Option Node) → AreMarkersAt views letter places → 1 < length places
    → ((d : Node) → true ≡ may_at views letter places d) → ((d : Node) → found ≡ first_separating views (groups_of views (show_rules_of views rules)) d places) → found ≡ sharer_of views rules letter
shared_by [] rules letter places found at many may is =
    let first : get_or places 0 0 < 0 = at.within 0 0 (omega arith) in
    absurd (omega (arith, first))
shared_by (view ∷ views) rules letter places found at many may is =
    let all : List Node = view ∷ views in
    is view
    ∙ separating_is all rules view places all
    ∙ ap (λ markers. find (separates all rules markers) all) (at.markers view)
    ∙ ap (λ b. cond b (find (separates all rules (markers_of all letter)) all) None) (may view ∙ sym (may_share_at all letter view places at))

pub unshared_by : (views : List Node) (rules : List Rule) (letter : ℕ) (places : List ℕ) → AreMarkersAt views letter places → ((d : Node) → false ≡ may_at views letter places d) → None ≡ sharer_of views rules letter
unshared_by [] rules letter places at may = refl
unshared_by (view ∷ views) rules letter places at may =
    let all : List Node = view ∷ views in
    ap (λ b. cond b (find (separates all rules (markers_of all letter)) all) None) (may view ∙ sym (may_share_at all letter view places at))

-- ---- letters that no view marks

module _ (letter : ℕ) where
  unmarked_times : (texts : List MarkedText) → list_any (marks letter) texts ≡ false → length (filter (marks letter) texts) ≡ 0
  unmarked_times [] none = refl
  unmarked_times (text ∷ texts) none = let h = or_parts (marks letter text) (list_any (marks letter) texts) none in rw h.0 (unmarked_times texts h.1)

  no_markers : (seen views : List Node) → is_marked_by views letter ≡ false → markers_after letter seen views ≡ []
  no_markers seen [] none = refl
  no_markers seen (view ∷ views) none =
      let h = or_parts (list_any (marks letter) (marked_of view.kind)) (is_marked_by views letter) none in
      rw (unmarked_times (marked_of view.kind) h.0) (no_markers (seen ++ view ∷ []) views h.1)

  pub shared_is_marked : (views : List Node) (rules : List Rule) → (is_marked_by views letter && is_shared views rules letter) ≡ is_shared views rules letter
  shared_is_marked views rules = at (is_marked_by views letter) refl
    where
      at : (b : Bool) → is_marked_by views letter ≡ b → (b && is_shared views rules letter) ≡ is_shared views rules letter
      at true e = refl
      at false e = sym (ap (λ markers. is_some (cond (may_share letter markers) (find (separates views rules markers) views) None)) (no_markers [] views e))
