-- What the want of faults of letters and keys says: F4, F5 and F17.
use Rattle.std.proofs.Common.{◌≡◌, ◌≢◌, ◌↔◌, ℕ, ◌+◌, ◌-◌, ◌≤◌, ◌==◌, Bool, true, false, not, ◌&&◌, ◌||◌, Decides, List, [], get_or, Option, Some, None, ℤ, pos, int_le, nat_le, refl, sym, ap, subst, ◌∙◌, arith}
use Rattle.std.specs.List.{All, AllPairs, Any, list_any}
use Rattle.std.specs.Ordering.{int_eq}
use Rattle.std.specs.Option.{option_map_or}
use Rattle.std.proofs.lemmas.Bool.{not-true, false≢true, false_from_ne_true, leb-true, le-leb, and_parts, and_from}
use Rattle.std.proofs.lemmas.Bool.Decides.{Decides-and, Decides-eqb, Decides-int_eq, Decides-not, Decides-or}
use Rattle.tv_event.specs.declared.event.Key.{Key}
use Rattle.tv_event.specs.declared.event.Key.TheVariants as keys
use Rattle.tv_model.specs.declared.node.Node.{Node}
use Rattle.tv_model.specs.declared.kind.MarkedText.{MarkedText}
use Rattle.tv_model.specs.declared.command.CommandSpec.TheVariants as commands
use Rattle.tv_model.specs.declared.desc.Desc.{Desc}
use Rattle.tv_model.specs.declared.desc.StatusItem.{StatusItem}
use Rattle.tv_model.specs.declared.desc.Window.{Window}
use Rattle.tv_model.specs.declared.desc.Dialog.{Dialog}
use Rattle.tv_model.specs.declared.desc.Rule.{Rule}
use Rattle.tv_model.specs.declared.desc.Effect.{Effect}
use Rattle.tv_model.specs.declared.desc.Effect.TheVariants as effects
use Rattle.tv_model.specs.declared.fault.FaultKind.TheVariants as faults
use Rattle.tv_model.specs.Description.Heads.{window_head}
use Rattle.tv_model.specs.Description.Letters.{is_capital, is_digit, is_shortcut, marked_of}
use Rattle.tv_model.specs.Description.Marks.{is_option_letter, marked_letter, marks, marks_any, shares_letter}
use Rattle.tv_model.specs.Description.Numbers.{IsBetween, is_between}
use Rattle.tv_model.specs.Description.Sharing.{is_shared_by}
use Rattle.tv_model.specs.Faults.{menu_has, status_has, window_has}
use Rattle.tv_model.specs.Faults.Lines.{after_seen}
use Rattle.tv_model.specs.Faults.Letters.{has_bad_key, is_same_key, is_status_key, is_taken, is_window_digit, marks_again, numbered_again, rules_cancel}
use Rattle.tv_faults.specs.Sound.Bodies.{Body, bodies_of}
use Rattle.tv_faults.specs.Sound.Letters.{HaveOwnKeys, HaveOwnLetters, HaveOwnMenuLetters, IsCapital, IsDigit, IsDigitOf, IsFreeWithAlt, HasOwnLetters, IsShortcut, MarkOtherLetters, MarkOthersUnlessShared, MarksLetter, MayBeStatusKey, marked_texts}
use Rattle.tv_faults.proofs.ExcludeLemmas.{Excludes, again_excludes, and_excludes, any_decides, any_excludes, not_excludes, or_excludes, test_excludes}
use Rattle.tv_faults.proofs.LackLemmas.{Lacks, NoItem, NoRule, NoView, NoneAfter}
use Rattle.tv_faults.proofs.PairLemmas.{Across, after_each, after_own, all_and, all_swap, both, chain, each, pairs_flat}
use Rattle.tv_overlaps.proofs.AreaLemmas.{le_holds, le_says}

-- ---- letters and numbers

lettered : (letter : ℕ) (own : Option ℕ) → Decides (is_option_letter letter own) (own ≡ Some letter)
lettered letter None = (λ e. absurd (false≢true e), λ e. absurd cc)
lettered letter (Some other) = let same : Decides (other == letter) (other ≡ letter) = Decides-eqb other letter in
    (λ e. ap Some (same.0 e), λ e. let one : other ≡ letter = cc in same.1 one)

pub marks_decides : (letter : ℕ) (text : MarkedText) → Decides (marks letter text) (MarksLetter text letter)
marks_decides letter text = lettered letter (marked_letter text)

shares_excludes : (text other : MarkedText) → Excludes (shares_letter text other) (MarkOtherLetters other text)
shares_excludes text other = at (marked_letter text) refl
  where
    at : (own : Option ℕ) → marked_letter text ≡ own → Excludes (shares_letter text other) (MarkOtherLetters other text)
    at None e = (λ f letter has own. absurd cc, λ h. rw e refl)
    at (Some given) e = (
      λ f letter has own. let g : marks given other ≡ false = rw e at f in
          let same : letter ≡ given = cc in
          false≢true (sym g ∙ (marks_decides given other).1 (has ∙ ap Some same)),
      λ h. rw e (false_from_ne_true (marks given other) (λ t. h given ((marks_decides given other).0 t) e)),
    )

pub between_decides : (least greatest n : ℤ) → Decides (is_between least greatest n) (IsBetween least greatest n)
between_decides least greatest n = Decides-and (int_le least n) (int_le n greatest) (le_says least n, le_holds least n) (le_says n greatest, le_holds n greatest)

pub at_most_decides : (a b : ℕ) → Decides (nat_le a b) (a ≤ b)
at_most_decides a b = (leb-true a b, le-leb a b)

-- ---- F4

abbrev own_texts : Node → List MarkedText
own_texts node = marked_of node.kind

-- the text marks no letter that is shared, and then no other that the other text marks
unless_shared : (shared : ℕ → Bool) (one text : MarkedText) → (not (marks_any shared text) ≡ true → MarkOtherLetters one text) ↔ MarkOthersUnlessShared shared one text
unless_shared shared one text =
    let same : (letter : ℕ) → MarksLetter text letter → marks_any shared text ≡ shared letter = λ letter own. ap (λ o. option_map_or shared o false) own in (
      λ f letter alone has own. f (ap not (same letter own ∙ alone)) letter has own,
      λ h is letter has own. h letter (sym (same letter own) ∙ not-true (marks_any shared text) is) has own,
    )

module _ (shared : ℕ → Bool) where
  abbrev MarkOthers : MarkedText → MarkedText → Type 0
  MarkOthers = MarkOthersUnlessShared shared

  abbrev OwnLetters : Node → Type 0
  OwnLetters node = AllPairs MarkOthers (own_texts node)

  -- a text beside those on earlier lines and those before it on its own
  abbrev Repeats : List Node → List MarkedText × MarkedText → Bool
  Repeats before pair = list_any (λ other. list_any (shares_letter pair.1) (own_texts other)) before || list_any (shares_letter pair.1) pair.0

  repeats_iff : (before : List Node) (pair : List MarkedText × MarkedText)
      → Excludes (not (marks_any shared pair.1) && Repeats before pair) (All (λ other. All (λ one. MarkOthers one pair.1) (own_texts other)) before × All (λ one. MarkOthers one pair.1) pair.0)
  repeats_iff before pair =
      let inside : (other : Node) → Excludes (list_any (shares_letter pair.1) (own_texts other)) (All (λ one. MarkOtherLetters one pair.1) (own_texts other)) =
      λ other. any_excludes (shares_letter pair.1) (λ one. MarkOtherLetters one pair.1) (shares_excludes pair.1) (own_texts other) in
      let here : Excludes (Repeats before pair) (All (λ other. All (λ one. MarkOtherLetters one pair.1) (own_texts other)) before × All (λ one. MarkOtherLetters one pair.1) pair.0) =
      or_excludes (list_any (λ other. list_any (shares_letter pair.1) (own_texts other)) before) (list_any (shares_letter pair.1) pair.0)
      (any_excludes (λ other. list_any (shares_letter pair.1) (own_texts other)) (λ other. All (λ one. MarkOtherLetters one pair.1) (own_texts other)) inside before)
      (any_excludes (shares_letter pair.1) (λ one. MarkOtherLetters one pair.1) (shares_excludes pair.1) pair.0) in
      chain (and_excludes (not (marks_any shared pair.1)) (Repeats before pair) here) (
        λ f. (
          λ k d less j e within. (unless_shared shared (get_or (own_texts (get_or before k d)) j e) pair.1).0 (λ is. (f is).0 k d less j e within),
          λ k d less. (unless_shared shared (get_or pair.0 k d) pair.1).0 (λ is. (f is).1 k d less),
        ),
        λ h is. (
          λ k d less j e within. (unless_shared shared (get_or (own_texts (get_or before k d)) j e) pair.1).1 (h.0 k d less j e within) is,
          λ k d less. (unless_shared shared (get_or pair.0 k d) pair.1).1 (h.1 k d less) is,
        ),
      )

  again_iff : (before : List Node) (node : Node) → Excludes (marks_again shared before node) (All (λ other. Across MarkOthers (own_texts other) (own_texts node)) before × OwnLetters node)
  again_iff before node =
      let texts : List (List MarkedText × MarkedText) = after_seen [] (own_texts node) in
      chain
      (any_excludes (λ pair. not (marks_any shared pair.1) && Repeats before pair)
      (λ pair. All (λ other. All (λ one. MarkOthers one pair.1) (own_texts other)) before × All (λ one. MarkOthers one pair.1) pair.0)
      (repeats_iff before) texts)
      (chain
      (all_and (λ pair. All (λ other. All (λ one. MarkOthers one pair.1) (own_texts other)) before) (λ pair. All (λ one. MarkOthers one pair.1) pair.0) texts)
      (both
      (chain
      (after_own (λ text. All (λ other. All (λ one. MarkOthers one text) (own_texts other)) before) [] (own_texts node))
      (chain
      (all_swap (λ text other. All (λ one. MarkOthers one text) (own_texts other)) (own_texts node) before)
      (each (λ other. All (λ text. All (λ one. MarkOthers one text) (own_texts other)) (own_texts node)) (λ other. Across MarkOthers (own_texts other) (own_texts node))
      (λ other. all_swap (λ text one. MarkOthers one text) (own_texts node) (own_texts other)) before)))
      (after_each MarkOthers (own_texts node))))

  lines_marked : (views : List Node) → NoneAfter (marks_again shared) views ↔ AllPairs MarkOthers (marked_texts views)
  lines_marked views =
      let flat = pairs_flat MarkOthers own_texts views in
      chain
      (each (λ pair. marks_again shared pair.0 pair.1 ≡ false) (λ pair. All (λ other. Across MarkOthers (own_texts other) (own_texts pair.1)) pair.0 × OwnLetters pair.1) (λ pair. again_iff pair.0 pair.1) (after_seen [] views))
      (chain
      (all_and (λ pair. All (λ other. Across MarkOthers (own_texts other) (own_texts pair.1)) pair.0) (λ pair. OwnLetters pair.1) (after_seen [] views))
      (chain
      (both (after_each (λ x y. Across MarkOthers (own_texts x) (own_texts y)) views) (after_own OwnLetters [] views))
      (flat.1, flat.0)))

views_marked : (body : Body) → NoView faults.LetterTwice body ↔ HasOwnLetters body
views_marked body = lines_marked (is_shared_by body.sharing body.views) body.views

pub letters : (d : Desc) → Lacks faults.LetterTwice d ↔ HaveOwnLetters d
letters d = let views = each (NoView faults.LetterTwice) HasOwnLetters views_marked (bodies_of d) in (
  λ h. views.0 h.views,
  λ s. record {
    head = refl;
    menus = λ k p l. refl;
    items = λ k m l i p w. refl;
    status = λ k p l. refl;
    windows = λ k p l. refl;
    dialogs = λ k p l. refl;
    views = views.1 s;
    rules = λ k m l i p w. refl;
  },
)

-- ---- F5

capital_decides : (ch : ℕ) → Decides (is_capital ch) (IsCapital ch)
capital_decides ch = Decides-and (nat_le 65 ch) (nat_le ch 90) (at_most_decides 65 ch) (at_most_decides ch 90)

digit_decides : (ch : ℕ) → Decides (is_digit ch) (IsDigit ch)
digit_decides ch = Decides-and (nat_le 48 ch) (nat_le ch 57) (at_most_decides 48 ch) (at_most_decides ch 57)

key_decides : (key : Key) → Decides (is_status_key key) (MayBeStatusKey key)
key_decides (keys.Function n) = Decides-and (nat_le 1 n) (nat_le n 12) (at_most_decides 1 n) (at_most_decides n 12)
key_decides (keys.Ctrl ch) = Decides-and (is_capital ch) (not (ch == 89)) (capital_decides ch) (Decides-not (ch == 89) (Decides-eqb ch 89))
key_decides (keys.Alt ch) = Decides-or (is_capital ch) (is_digit ch) (capital_decides ch) (digit_decides ch)
key_decides _ = (λ e. absurd (false≢true e), λ h. absurd h)

shortcut_decides : (letter : ℕ) (dialog : Dialog) → Decides (is_shortcut letter dialog) (IsShortcut letter dialog)
shortcut_decides letter dialog =
    any_decides (λ node. list_any (marks letter) (marked_of node.kind)) (λ node. Any (λ text. MarksLetter text letter) (marked_of node.kind))
    (λ node. any_decides (marks letter) (λ text. MarksLetter text letter) (marks_decides letter) (marked_of node.kind)) dialog.views

window_digit_decides : (ch : ℕ) (window : Window) → Decides (is_window_digit ch window) (IsDigitOf ch window)
window_digit_decides ch window = (forward, backward)
  where
    forward : is_window_digit ch window ≡ true → IsDigitOf ch window
    forward e =
        let parts : ((nat_le 49 ch && nat_le ch 57) ≡ true) × (int_eq (window_head window).number (pos (ch - 48)) ≡ true) = and_parts (nat_le 49 ch && nat_le ch 57) (int_eq (window_head window).number (pos (ch - 48))) e in
        let digit : (nat_le 49 ch ≡ true) × (nat_le ch 57 ≡ true) = and_parts (nat_le 49 ch) (nat_le ch 57) parts.0 in
        let low : 49 ≤ ch = leb-true 49 ch digit.0 in
        let high : ch ≤ 57 = leb-true ch 57 digit.1 in
        let from : 1 ≤ ch - 48 = omega arith in
        let to : ch - 48 ≤ 9 = omega arith in
        let is : ch ≡ 48 + (ch - 48) = omega arith in
        (ch - 48, from, to, (Decides-int_eq (window_head window).number (pos (ch - 48))).0 parts.1, is)

    backward : IsDigitOf ch window → is_window_digit ch window ≡ true
    backward h =
        let from : 1 ≤ h.0 = h.1 in
        let to : h.0 ≤ 9 = h.2 in
        let is : ch ≡ 48 + h.0 = h.4 in
        let low : 49 ≤ ch = omega arith in
        let high : ch ≤ 57 = omega arith in
        let less : h.0 ≡ ch - 48 = omega arith in
        and_from (nat_le 49 ch && nat_le ch 57) (int_eq (window_head window).number (pos (ch - 48)))
        (and_from (nat_le 49 ch) (nat_le ch 57) (le-leb 49 ch low) (le-leb ch 57 high))
        ((Decides-int_eq (window_head window).number (pos (ch - 48))).1 (h.3 ∙ ap pos less))

free_excludes : (d : Desc) (ch : ℕ) → Excludes (is_taken d (keys.Alt ch)) (IsFreeWithAlt d ch)
free_excludes d ch =
    let dialogs : Excludes (list_any (is_shortcut ch) d.dialogs) (All (λ dialog. IsShortcut ch dialog → ⊥) d.dialogs) =
    any_excludes (is_shortcut ch) (λ dialog. IsShortcut ch dialog → ⊥) (λ dialog. test_excludes (is_shortcut ch dialog) (shortcut_decides ch dialog)) d.dialogs in
    let menus : Excludes (list_any (λ menu. marks ch menu.title) d.menus) (All (λ menu. MarksLetter menu.title ch → ⊥) d.menus) =
    any_excludes (λ menu. marks ch menu.title) (λ menu. MarksLetter menu.title ch → ⊥) (λ menu. test_excludes (marks ch menu.title) (marks_decides ch menu.title)) d.menus in
    let windows : Excludes (list_any (is_window_digit ch) d.windows) (All (λ window. IsDigitOf ch window → ⊥) d.windows) =
    any_excludes (is_window_digit ch) (λ window. IsDigitOf ch window → ⊥) (λ window. test_excludes (is_window_digit ch window) (window_digit_decides ch window)) d.windows in
    let all = or_excludes (list_any (is_shortcut ch) d.dialogs) (list_any (λ menu. marks ch menu.title) d.menus || list_any (is_window_digit ch) d.windows) dialogs
    (or_excludes (list_any (λ menu. marks ch menu.title) d.menus) (list_any (is_window_digit ch) d.windows) menus windows) in (
      λ e. let h = all.0 e in record { dialogs = h.0; menus = h.1.0; windows = h.1.1 },
      λ h. all.1 (h.dialogs, (h.menus, h.windows)),
    )

taken_excludes : (d : Desc) (key : Key) → Excludes (is_taken d key) ((ch : ℕ) → key ≡ keys.Alt ch → IsFreeWithAlt d ch)
taken_excludes d (keys.Alt own) = (
  λ e ch is. let same : own ≡ ch = cc in subst (IsFreeWithAlt d) same ((free_excludes d own).0 e),
  λ h. (free_excludes d own).1 (h own refl),
)
taken_excludes d _ = (λ e ch is. absurd cc, λ h. refl)

-- a key of a status item, and another
same_function : (key : Key) (n : ℕ) → Decides (is_same_key key (keys.Function n)) (key ≡ keys.Function n)
same_function (keys.Function m) n = (λ e. ap keys.Function ((Decides-eqb m n).0 e), λ is. let same : m ≡ n = cc in (Decides-eqb m n).1 same)
same_function _ n = (λ e. absurd (false≢true e), λ is. absurd cc)

same_ctrl : (key : Key) (ch : ℕ) → Decides (is_same_key key (keys.Ctrl ch)) (key ≡ keys.Ctrl ch)
same_ctrl (keys.Ctrl other) ch = (λ e. ap keys.Ctrl ((Decides-eqb other ch).0 e), λ is. let same : other ≡ ch = cc in (Decides-eqb other ch).1 same)
same_ctrl _ ch = (λ e. absurd (false≢true e), λ is. absurd cc)

same_alt : (key : Key) (ch : ℕ) → Decides (is_same_key key (keys.Alt ch)) (key ≡ keys.Alt ch)
same_alt (keys.Alt other) ch = (λ e. ap keys.Alt ((Decides-eqb other ch).0 e), λ is. let same : other ≡ ch = cc in (Decides-eqb other ch).1 same)
same_alt _ ch = (λ e. absurd (false≢true e), λ is. absurd cc)

same_excludes : (key other : Key) → MayBeStatusKey other → Excludes (is_same_key key other) (key ≢ other)
same_excludes key (keys.Function n) may = test_excludes (is_same_key key (keys.Function n)) (same_function key n)
same_excludes key (keys.Ctrl ch) may = test_excludes (is_same_key key (keys.Ctrl ch)) (same_ctrl key ch)
same_excludes key (keys.Alt ch) may = test_excludes (is_same_key key (keys.Alt ch)) (same_alt key ch)
same_excludes key _ may = absurd may

module _ (d : Desc) where
  abbrev Free : StatusItem → Type 0
  Free item = (ch : ℕ) → item.key ≡ keys.Alt ch → IsFreeWithAlt d ch

  abbrev Differ : StatusItem → StatusItem → Type 0
  Differ item other = is_same_key item.key other.key ≡ false

  keys_tested : NoneAfter (status_has faults.StatusKey d) d.status ↔ (All (λ item. MayBeStatusKey item.key) d.status × (All Free d.status × AllPairs Differ d.status))
  keys_tested = chain
      (each (λ pair. has_bad_key d pair.0 pair.1 ≡ false) (λ pair. MayBeStatusKey pair.1.key × (Free pair.1 × All (λ other. Differ other pair.1) pair.0))
      (λ pair. or_excludes (not (is_status_key pair.1.key)) (is_taken d pair.1.key || list_any (λ other. is_same_key other.key pair.1.key) pair.0)
      (not_excludes (is_status_key pair.1.key) (key_decides pair.1.key))
      (or_excludes (is_taken d pair.1.key) (list_any (λ other. is_same_key other.key pair.1.key) pair.0) (taken_excludes d pair.1.key)
      (any_excludes (λ other. is_same_key other.key pair.1.key) (λ other. Differ other pair.1) (λ other. (λ e. e, λ e. e)) pair.0)))
      (after_seen [] d.status))
      (chain
      (all_and (λ pair. MayBeStatusKey pair.1.key) (λ pair. Free pair.1 × All (λ other. Differ other pair.1) pair.0) (after_seen [] d.status))
      (both (after_own (λ item. MayBeStatusKey item.key) [] d.status)
      (chain
      (all_and (λ pair. Free pair.1) (λ pair. All (λ other. Differ other pair.1) pair.0) (after_seen [] d.status))
      (both (after_own Free [] d.status) (after_each Differ d.status)))))

  pub own_keys : Lacks faults.StatusKey d ↔ HaveOwnKeys d
  own_keys = (
    λ h. let f = keys_tested.0 h.status in record {
      may = f.0;
      free = f.1.0;
      apart = λ i j item less within. (same_excludes (get_or d.status i item).key (get_or d.status j item).key (f.0 j item within)).0 (f.1.1 i j item less within);
    },
    λ s. record {
      head = refl;
      menus = λ k p l. refl;
      items = λ k m l i p w. refl;
      status = keys_tested.1 (s.may, (s.free, λ i j item less within. (same_excludes (get_or d.status i item).key (get_or d.status j item).key (s.may j item within)).1 (s.apart i j item less within)));
      windows = λ k p l. refl;
      dialogs = λ k p l. refl;
      views = λ k m l i p w. refl;
      rules = λ k m l i p w. refl;
    },
  )

-- ---- F17

abbrev number_of : Window → ℤ
number_of window = (window_head window).number

abbrev HaveOtherNumbers : Window → Window → Type 0
HaveOtherNumbers window other = IsBetween (pos 1) (pos 9) (number_of other) → number_of window ≢ number_of other

numbered_excludes : (before : List Window) (window : Window) → Excludes (numbered_again before window) (All (λ other. HaveOtherNumbers other window) before)
numbered_excludes before window =
    let key : Decides (is_between (pos 1) (pos 9) (number_of window)) (IsBetween (pos 1) (pos 9) (number_of window)) = between_decides (pos 1) (pos 9) (number_of window) in
    let test = and_excludes (is_between (pos 1) (pos 9) (number_of window)) (list_any (λ other. int_eq (number_of other) (number_of window)) before)
    (any_excludes (λ other. int_eq (number_of other) (number_of window)) (λ other. number_of other ≢ number_of window)
    (λ other. test_excludes (int_eq (number_of other) (number_of window)) (Decides-int_eq (number_of other) (number_of window))) before) in
    (λ e k other less between. test.0 e (key.1 between) k other less, λ h. test.1 (λ t k other less. h k other less (key.0 t)))

cancel_excludes : (rule : Rule) → Excludes (rules_cancel rule) ((rule.effect ≢ effects.Enable commands.Cancel) × (rule.effect ≢ effects.Enable commands.Close))
cancel_excludes rule = at rule.effect refl
  where
    at : (effect : Effect) → rule.effect ≡ effect → Excludes (rules_cancel rule) ((rule.effect ≢ effects.Enable commands.Cancel) × (rule.effect ≢ effects.Enable commands.Close))
    at (effects.Enable commands.Cancel) e = (λ f. let g : true ≡ false = rw e at f in absurd cc, λ h. absurd (h.0 e))
    at (effects.Enable commands.Close) e = (λ f. let g : true ≡ false = rw e at f in absurd cc, λ h. absurd (h.1 e))
    at _ e = (λ f. (λ g. absurd cc, λ g. absurd cc), λ h. rw e refl)

pub menu_letters : (d : Desc) → Lacks faults.MenuLetter d ↔ HaveOwnMenuLetters d
menu_letters d =
    let titles : NoneAfter (menu_has faults.MenuLetter) d.menus ↔ AllPairs (λ menu other. MarkOtherLetters menu.title other.title) d.menus =
    again_excludes (λ menu other. shares_letter menu.title other.title) (λ menu other. MarkOtherLetters menu.title other.title) (λ menu other. shares_excludes menu.title other.title) d.menus in
    let items : All (NoItem faults.MenuLetter) d.menus ↔ All (λ menu. AllPairs (λ item other. MarkOtherLetters item.text other.text) menu.items) d.menus =
    each (NoItem faults.MenuLetter) (λ menu. AllPairs (λ item other. MarkOtherLetters item.text other.text) menu.items)
    (λ menu. again_excludes (λ item other. shares_letter item.text other.text) (λ item other. MarkOtherLetters item.text other.text) (λ item other. shares_excludes item.text other.text) menu.items) d.menus in
    let windows : NoneAfter (window_has faults.MenuLetter) d.windows ↔ AllPairs HaveOtherNumbers d.windows = chain
    (each (λ pair. numbered_again pair.0 pair.1 ≡ false) (λ pair. All (λ other. HaveOtherNumbers other pair.1) pair.0) (λ pair. numbered_excludes pair.0 pair.1) (after_seen [] d.windows))
    (after_each HaveOtherNumbers d.windows) in
    let rules : All (NoRule faults.MenuLetter) d.dialogs ↔ All (λ dialog. All (λ rule. (rule.effect ≢ effects.Enable commands.Cancel) × (rule.effect ≢ effects.Enable commands.Close)) dialog.rules) d.dialogs =
    each (NoRule faults.MenuLetter) (λ dialog. All (λ rule. (rule.effect ≢ effects.Enable commands.Cancel) × (rule.effect ≢ effects.Enable commands.Close)) dialog.rules)
    (λ dialog. chain (after_own (λ rule. rules_cancel rule ≡ false) [] dialog.rules)
    (each (λ rule. rules_cancel rule ≡ false) (λ rule. (rule.effect ≢ effects.Enable commands.Cancel) × (rule.effect ≢ effects.Enable commands.Close)) cancel_excludes dialog.rules)) d.dialogs in (
      λ h. let r = rules.0 h.rules in record {
        titles = titles.0 h.menus;
        items = items.0 h.items;
        windows = windows.0 h.windows;
        cancel = λ k dialog less i rule within. (r k dialog less i rule within).0;
        close = λ k dialog less i rule within. (r k dialog less i rule within).1;
      },
      λ s. record {
        head = refl;
        menus = titles.1 s.titles;
        items = items.1 s.items;
        status = λ k p l. refl;
        windows = windows.1 s.windows;
        dialogs = λ k p l. refl;
        views = λ k m l i p w. refl;
        rules = rules.1 (λ k dialog less i rule within. (s.cancel k dialog less i rule within, s.close k dialog less i rule within));
      },
    )
