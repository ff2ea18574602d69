-- A control that no rule reaches is free to focus, whatever is marked.
use Rattle.std.proofs.Common.{◌≡◌, ℕ, nat_lt, ◌==◌, IsTrue, Bool, true, false, not, ◌&&◌, ◌||◌, List, [], ◌∷◌, filter, find, map, Some, option_map, is_some, if◌then◌else◌, ℤ, pos, negsuc, ◌≤ℤ◌, refl, sym, ap, subst, ◌∙◌, arith}
use Rattle.std.specs.List.{All, AllPairs, list_any, list_all}
use Rattle.std.specs.Option.{IsSome}
use Rattle.std.proofs.lemmas.Bool.{false≢true, false_from_ne_true, and_from, eqb-true}
use Rattle.std.proofs.lemmas.Bool.Decides.{nat_tests}
use Rattle.std.proofs.lemmas.Int.{ints}
use Rattle.std.proofs.lemmas.List.Elements.{All-nil, All-cons, All-head, All-tail}
use Rattle.std.proofs.lemmas.List.Folds.{list_any-from_Any}
use Rattle.tv_model.specs.declared.node.Node.{Node}
use Rattle.tv_model.specs.declared.kind.Kind.{Kind}
use Rattle.tv_model.specs.declared.kind.Kind.TheVariants as kinds
use Rattle.tv_model.specs.declared.command.CommandSpec.{CommandSpec}
use Rattle.tv_model.specs.declared.command.CommandSpec.TheVariants as commands
use Rattle.tv_model.specs.declared.desc.Dialog.{Dialog}
use Rattle.tv_model.specs.declared.desc.Rule.{Rule}
use Rattle.tv_model.specs.declared.desc.Effect.{Effect}
use Rattle.tv_model.specs.declared.desc.Effect.TheVariants as effects
use Rattle.tv_model.specs.Description.Commands.{command_number, command_of}
use Rattle.tv_model.specs.Description.LawfulNodes.{IsLawfulCommand, IsLimited}
use Rattle.tv_model.specs.Description.Names.{gives_name, meant}
use Rattle.tv_model.specs.Description.Nodes.{is_control, is_pane}
use Rattle.tv_model.specs.Description.Numbers.{natural}
use Rattle.tv_model.specs.Description.Rules.{option_stands_over}
use Rattle.tv_model.specs.Faults.Lines.{after_seen}
use Rattle.tv_machine.specs.Dialog.Focus.{Stop, first_free, stop_of, stops_of}
use Rattle.tv_machine.specs.Dialog.Rules.{enables, holds, is_enabled, is_free, is_kind_enabled, is_visible, shows}
use Rattle.tv_machine.specs.Leaves.{leaf_list}
use Rattle.tv_machine.specs.State.{LeafState}
use Rattle.tv_declarations.specs.Spelling.{AreViews}
use Rattle.tv_faults.specs.Sound.Limits.{EnablesLawfulCommand}
use Rattle.tv_faults.specs.Sound.Names.{HasName, HaveOtherNames}
use Rattle.tv_faults.specs.Sound.Rules.{HasFreeControl, IsButtonOf, Reaches}
use Rattle.tv_faults.proofs.NameLemmas.{gives_decides}
use Rattle.tv_faults.proofs.PairLemmas.{after_own, pairs_head, pairs_tail}
use Rattle.tv_faults.proofs.RuleLemmas.{option_over}
use Rattle.tv_faults.proofs.SeenLemmas.{is_leaf, leaf_list-after, of_any, placed_after}
use Rattle.tv_machine.proofs.ListLemmas.{bool_cases}

-- ---- lists

any_mapped : {A B : Type 0} (p : B → Bool) (f : A → B) (xs : List A) → list_any p (map f xs) ≡ list_any (λ x. p (f x)) xs
any_mapped p f [] = refl
any_mapped p f (x ∷ xs) = ap (λ b. p (f x) || b) (any_mapped p f xs)

any_filtered : {A : Type 0} (p q : A → Bool) (xs : List A) → list_any p (filter q xs) ≡ list_any (λ x. q x && p x) xs
any_filtered p q [] = refl
any_filtered p q (x ∷ xs) =
    bool_cases (q x) (λ b. list_any p (if b then x ∷ filter q xs else filter q xs) ≡ ((b && p x) || list_any (λ x. q x && p x) xs))
    (λ passes. ap (λ b. p x || b) (any_filtered p q xs))
    (λ fails. any_filtered p q xs)

some_found : {A B : Type 0} (p : A → Bool) (f : A → B) (xs : List A) → list_any p xs ≡ true → is_some (option_map f (find p xs)) ≡ true
some_found p f [] some = absurd (false≢true some)
some_found p f (x ∷ xs) some =
    bool_cases (p x) (λ b. (b || list_any p xs) ≡ true → is_some (option_map f (if b then Some x else find p xs)) ≡ true)
    (λ passes some. refl)
    (λ fails some. some_found p f xs some)
    some

-- ---- names

-- its name means the view itself
abbrev pub MeansItself : List Node → Node → Type 0
MeansItself views view = (name : List ℕ) → HasName view name → meant views name ≡ Some view

pub all_mean : (views : List Node) → AllPairs HaveOtherNames views → All (MeansItself views) views
all_mean [] apart = All-nil (MeansItself [])
all_mean (view ∷ views) apart =
    All-cons (MeansItself (view ∷ views)) view views
    (λ name has. ap (λ b. if b then Some view else meant views name) ((gives_decides name view).1 has))
    (λ k other less name has.
    ap (λ b. if b then Some view else meant views name)
    (false_from_ne_true (gives_name name view)
    (λ t. pairs_head HaveOtherNames view views apart k other less name ((gives_decides name view).0 t) has))
    ∙ all_mean views (pairs_tail HaveOtherNames view views apart) k other less name has)

pub not_shown : (views before : List Node) (node : Node) (effect : Effect)
    → (Reaches views before node effect → ⊥) → shows views (placed_after (before, node)) effect ≡ false
not_shown views before node (effects.Enable command) none = refl
not_shown views before node (effects.Show name) none =
    false_from_ne_true (option_stands_over (meant views name) before node) (λ t. none ((option_over (meant views name) before node).0 t))

-- ---- commands

above_false : (least a b : ℕ) → pos least ≤ℤ pos b → nat_lt a least ≡ true → (b == a) ≡ false
above_false least a b h less = grind (arith, nat_tests, ints)

-- the command of a number
abbrev command_by : ℕ → CommandSpec
command_by n =
    if n == 1 then commands.Quit
    else if n == 3 then commands.Menu
    else if n == 4 then commands.Close
    else if n == 7 then commands.Next
    else if n == 10 then commands.Ok
    else if n == 11 then commands.Cancel
    else if n == 12 then commands.Yes
    else if n == 13 then commands.No
    else commands.Number (pos n)

by_number : (command : CommandSpec) → IsLawfulCommand (Some command) → command_by (command_number command) ≡ command
by_number commands.Quit lawful = refl
by_number commands.Menu lawful = refl
by_number commands.Close lawful = refl
by_number commands.Next lawful = refl
by_number commands.Ok lawful = refl
by_number commands.Cancel lawful = refl
by_number commands.Yes lawful = refl
by_number commands.No lawful = refl
by_number (commands.Number n) lawful = at n lawful.0
  where
    at : (n : ℤ) → pos 100 ≤ℤ n → command_by (natural n) ≡ commands.Number n
    at (negsuc k) h = absurd (omega (arith, ints, h))
    at (pos k) h =
        let apart : (a : ℕ) → nat_lt a 100 ≡ true → (k == a) ≡ false = λ a less. above_false 100 a k h less in
        rw (apart 1 refl, apart 3 refl, apart 4 refl, apart 7 refl, apart 10 refl, apart 11 refl, apart 12 refl, apart 13 refl) refl

same_command : (one other : CommandSpec) → IsLawfulCommand (Some one) → IsLawfulCommand (Some other)
    → command_number one ≡ command_number other → one ≡ other
same_command one other first second same = sym (by_number one first) ∙ ap command_by same ∙ by_number other second

-- no rule enables the button's command
not_enabled : (given : CommandSpec) (effect : Effect) → IsLawfulCommand (Some given) → EnablesLawfulCommand effect
    → ((command : CommandSpec) → effect ≡ effects.Enable command → given ≡ command → ⊥) → enables (command_number given) effect ≡ false
not_enabled given (effects.Show name) lawful fits none = refl
not_enabled given (effects.Enable command) lawful fits none =
    false_from_ne_true (command_number command == command_number given)
    (λ t. none command refl (sym (same_command command given fits lawful (eqb-true (command_number command) (command_number given) t))))

-- ---- a control that no rule reaches

module _ (d : Dialog) (leaves : List LeafState) where
  all_let : (tests : Effect → Bool) (rules : List Rule) → All (λ rule. tests rule.effect ≡ false) rules
      → list_all (λ rule. not (tests rule.effect) || holds d leaves rule) rules ≡ true
  all_let tests [] none = refl
  all_let tests (rule ∷ rules) none =
      and_from (not (tests rule.effect) || holds d leaves rule) (list_all (λ rule. not (tests rule.effect) || holds d leaves rule) rules)
      (ap (λ b. not b || holds d leaves rule) (All-head (λ rule. tests rule.effect ≡ false) rule rules none))
      (all_let tests rules (All-tail (λ rule. tests rule.effect ≡ false) rule rules none))

  kind_enabled : (kind : Kind) → IsLawfulCommand (command_of kind) → All (λ rule. EnablesLawfulCommand rule.effect) d.rules
      → All (λ rule. (command : CommandSpec) → rule.effect ≡ effects.Enable command → IsButtonOf command kind → ⊥) d.rules
      → is_kind_enabled d leaves kind ≡ true
  kind_enabled (kinds.Button button) lawful fits none =
      all_let (enables (command_number button.command)) d.rules
      (λ k rule less. not_enabled button.command _ lawful (fits k rule less) (none k rule less))
  kind_enabled _ lawful fits none = refl

  control_leaf : (kind : Kind) → is_control kind ≡ true → not (is_pane kind) ≡ true
  control_leaf (kinds.Pane pane) is = absurd (false≢true is)
  control_leaf _ is = refl

  abbrev IsUnreached : List Node × Node → Type 0
  IsUnreached pair = IsTrue (is_control pair.1.kind) × All (λ rule. Reaches d.views pair.0 pair.1 rule.effect → ⊥) d.rules

  free_unreached : (before : List Node) (node : Node) → IsUnreached (before, node)
      → IsLawfulCommand (command_of node.kind) → All (λ rule. EnablesLawfulCommand rule.effect) d.rules
      → is_free d leaves (placed_after (before, node)) ≡ true
  free_unreached before node none lawful fits =
      let leaf = placed_after (before, node) in
      and_from (is_control node.kind) (is_visible d leaves leaf && is_enabled d leaves node) none.0
      (and_from (is_visible d leaves leaf) (is_enabled d leaves node)
      (all_let (shows d.views leaf) d.rules (λ k rule less. not_shown d.views before node _ (none.1 k rule less)))
      (kind_enabled node.kind lawful fits (λ k rule less command is button.
      none.1 k rule less (subst (Reaches d.views before node) (sym is) button))))

  pub some_free : AreViews 0 d.views → All IsLimited d.views
      → All (λ rule. EnablesLawfulCommand rule.effect) d.rules
      → HasFreeControl d → IsSome (first_free (stops_of d leaves))
  some_free are limited fits h =
      let pairs = after_seen [] d.views in
      let fine : IsLimited h.1.1 = of_any (λ pair. IsLimited pair.1) IsUnreached pairs ((after_own IsLimited [] d.views).1 limited) h in
      let here : is_free d leaves (placed_after h.1) ≡ true = free_unreached h.1.0 h.1.1 h.4 fine.command fits in
      some_found (λ (stop : Stop). stop.is_free) (λ stop. stop.id) (stops_of d leaves)
      (any_mapped (λ (stop : Stop). stop.is_free) (stop_of d leaves) (leaf_list d.views)
      ∙ ap (list_any (is_free d leaves)) (leaf_list-after d.views are)
      ∙ any_mapped (is_free d leaves) placed_after (filter is_leaf pairs)
      ∙ any_filtered (λ pair. is_free d leaves (placed_after pair)) is_leaf pairs
      ∙ list_any-from_Any (λ pair. is_leaf pair && is_free d leaves (placed_after pair)) pairs
      (h.0, h.1, h.2, h.3, and_from (is_leaf h.1) (is_free d leaves (placed_after h.1)) (control_leaf h.1.1.kind h.4.0) here))
