-- What is reached, kept in sets.
use Rattle.std.proofs.Common.{◌≡◌, inl, inr, ℕ, ◌+◌, ◌<◌, ◌==◌, Bool, true, false, cond, not, ◌&&◌, ◌||◌, List, [], ◌∷◌, ◌++◌, take, get_or, length, Option, Some, None, refl, sym, ap, ◌∙◌, arith}
use Rattle.std.specs.List.{list_any}
use Rattle.std.proofs.lemmas.Bool.{cases_lt}
use Rattle.std.proofs.lemmas.Cmp.{int_eq_equiv, nat_eq_equiv}
use Rattle.std.proofs.lemmas.List.{get_or_append_left, get_or_default, get_or_push, length_push}
use Rattle.std.proofs.lemmas.List.Folds.{list_any_more}
use Rattle.tv_model.specs.declared.node.Id.{Id}
use Rattle.tv_model.specs.declared.node.Node.{Node}
use Rattle.tv_model.specs.declared.kind.Kind.{Kind}
use Rattle.tv_model.specs.declared.kind.Kind.TheVariants as kinds
use Rattle.tv_model.specs.declared.command.CommandSpec.{CommandSpec}
use Rattle.tv_model.specs.declared.command.CommandSpec.TheVariants as commands
use Rattle.tv_model.specs.Description.Nodes.{is_control}
use Rattle.tv_model.specs.Description.Panes.{panes_around}
use Rattle.tv_model.specs.Description.Commands.{is_button_of, is_same_command}
use Rattle.tv_names.specs.declared.focus.Reach.{Reach}
use Rattle.tv_names.specs.declared.focus.Reach.TheVariants as reaches
use Rattle.tv_names.specs.Focus.{AreFirstShown, is_of_command, equals_command, is_button_where, is_unreached, is_owner_shown, is_same_id, is_shown, reach_shows, standing}
use Rattle.tv_names.specs.Reach.{holds_at}
use Rattle.tv_overlaps.specs.Standing.{IsOwningPane}
use Rattle.tv_overlaps.proofs.OwnerLemmas.{panes_are, panes_at}
use Rattle.tv_model.proofs.ListLemmas.{any_map}
use Rattle.tv_model.proofs.TestLemmas.{any_none, any_or, any_same, or_false}

-- ---- tests

cond_or : (a b : Bool) → cond a true b ≡ (b || a)
cond_or true true = refl
cond_or true false = refl
cond_or false true = refl
cond_or false false = refl

swap_any : {A B : Type 0} (r : A → B → Bool) (xs : List A) (ys : List B) → list_any (λ y. list_any (λ x. r x y) xs) ys ≡ list_any (λ x. list_any (r x) ys) xs
swap_any r [] ys = any_none (λ _. false) (λ y. refl) ys
swap_any r (x ∷ xs) ys = any_or (r x) (λ y. list_any (λ x. r x y) xs) ys ∙ ap (λ b. list_any (r x) ys || b) (swap_any r xs ys)

-- ---- sets that grow

one_more : (p : Reach → Bool) (list : List Reach) (i : ℕ) (d : Reach) (had has : Bool) → i < length list → had ≡ list_any p (take i list) → has ≡ (had || p (get_or list i d)) → has ≡ list_any p (take (i + 1) list)
one_more p list i d had has less so_far is = is ∙ ap (λ b. b || p (get_or list i d)) so_far ∙ sym (list_any_more p list i d less)

pub shown_more : (list : List Reach) (i : ℕ) (d : Reach) (target q : Id) (had has : Bool) → i < length list → get_or list i d ≡ reaches.View target
    → had ≡ list_any (reach_shows q) (take i list) → has ≡ cond (is_same_id target q) true had → has ≡ list_any (reach_shows q) (take (i + 1) list)
shown_more list i d target q had has less here so_far is =
    one_more (reach_shows q) list i d had has less so_far (is ∙ cond_or (is_same_id target q) had ∙ ap (λ b. had || b) (nat_eq_equiv.symm target.0 q.0 ∙ ap (reach_shows q) (sym here)))

unshown : (r : Reach) (q : Id) → ((target : Id) → r ≡ reaches.View target → ⊥) → reach_shows q r ≡ false
unshown reaches.Nothing q other = refl
unshown (reaches.View target) q other = absurd (other target refl)
unshown (reaches.Buttons command) q other = refl

pub shown_kept : (list : List Reach) (i : ℕ) (d : Reach) (q : Id) (had : Bool) → i < length list → ((target : Id) → get_or list i d ≡ reaches.View target → ⊥)
    → had ≡ list_any (reach_shows q) (take i list) → had ≡ list_any (reach_shows q) (take (i + 1) list)
shown_kept list i d q had less other so_far =
    one_more (reach_shows q) list i d had had less so_far (sym (ap (λ b. had || b) (unshown (get_or list i d) q other) ∙ or_false had))

same_command : (command other : CommandSpec) → equals_command command other ≡ is_same_command other command
same_command commands.Quit commands.Quit = refl
same_command commands.Menu commands.Menu = refl
same_command commands.Close commands.Close = refl
same_command commands.Next commands.Next = refl
same_command commands.Ok commands.Ok = refl
same_command commands.Cancel commands.Cancel = refl
same_command commands.Yes commands.Yes = refl
same_command commands.No commands.No = refl
same_command (commands.Number n) (commands.Number other) = int_eq_equiv.symm n other
same_command _ _ = refl

pub enabled_more : (list : List Reach) (i : ℕ) (d : Reach) (command q : CommandSpec) (had has : Bool) → i < length list → get_or list i d ≡ reaches.Buttons command
    → had ≡ list_any (is_of_command q) (take i list) → has ≡ cond (equals_command command q) true had → has ≡ list_any (is_of_command q) (take (i + 1) list)
enabled_more list i d command q had has less here so_far is =
    one_more (is_of_command q) list i d had has less so_far (is ∙ cond_or (equals_command command q) had ∙ ap (λ b. had || b) (same_command command q ∙ ap (is_of_command q) (sym here)))

disabled : (r : Reach) (q : CommandSpec) → ((command : CommandSpec) → r ≡ reaches.Buttons command → ⊥) → is_of_command q r ≡ false
disabled reaches.Nothing q other = refl
disabled (reaches.View target) q other = refl
disabled (reaches.Buttons command) q other = absurd (other command refl)

pub enabled_kept : (list : List Reach) (i : ℕ) (d : Reach) (q : CommandSpec) (had : Bool) → i < length list → ((command : CommandSpec) → get_or list i d ≡ reaches.Buttons command → ⊥)
    → had ≡ list_any (is_of_command q) (take i list) → had ≡ list_any (is_of_command q) (take (i + 1) list)
enabled_kept list i d q had less other so_far =
    one_more (is_of_command q) list i d had had less so_far (sym (ap (λ b. had || b) (disabled (get_or list i d) q other) ∙ or_false had))

-- ---- views that are shown

-- the next view
shown_at : (list : List Reach) (views : List Node) (d : Node) (shown : List Bool) (place : ℕ) (owner : Option ℕ) → length shown ≡ place → place < length views → AreFirstShown list views shown → IsOwningPane views place owner
    → (list_any (reach_shows (get_or views place d).id) list || is_owner_shown shown owner) ≡ is_shown list (take place views) (get_or views place d)
shown_at list views d shown place owner same within known owns =
    ap (λ b. list_any (reach_shows (get_or views place d).id) list || b) (inherited owner owns ∙ ap (list_any (λ view. list_any (reach_shows view.id) list)) (sym (panes_are views d place owner within owns)))
  where
    inherited : (owner : Option ℕ) → IsOwningPane views place owner → is_owner_shown shown owner ≡ list_any (λ view. list_any (reach_shows view.id) list) (panes_at views d owner)
    inherited None owns = refl
    inherited (Some pane) owns = known pane d (omega (arith, owns.0))

pub shown_push : (list : List Reach) (views : List Node) (shown : List Bool) (place : ℕ) (owner : Option ℕ) (now : Bool) → length shown ≡ place → place < length views → AreFirstShown list views shown → IsOwningPane views place owner
    → ((d : Node) → now ≡ (list_any (reach_shows (get_or views place d).id) list || is_owner_shown shown owner)) → AreFirstShown list views (shown ++ now ∷ [])
shown_push list views shown place owner now same within known owns is k d less = elim (cases_lt k (length shown)) [
  | inl below ↦ get_or_append_left shown (now ∷ []) false k below ∙ known k d below
  | inr above ↦
      let length : length (shown ++ now ∷ []) ≡ length shown + 1 = length_push shown now in
      let e : k ≡ place = omega arith in
      ap (λ j. get_or (shown ++ now ∷ []) j false) e
      ∙ get_or_push shown now false place same
      ∙ is d
      ∙ shown_at list views d shown place owner same within known owns
      ∙ ap (λ j. is_shown list (take j views) (get_or views j d)) (sym e)
]

-- ---- controls that are free

-- it enables the command of this button
abbrev enables_kind : Kind → Reach → Bool
enables_kind kind (reaches.Buttons command) = is_button_of command kind
enables_kind kind _ = false

no_button : (kind : Kind) (list : List Reach) → ((command : CommandSpec) → is_button_of command kind ≡ false) → false ≡ list_any (enables_kind kind) list
no_button kind list none = sym (any_same (enables_kind kind) (λ _. false) never list ∙ any_none (λ _. false) (λ x. refl) list)
  where
    never : (r : Reach) → enables_kind kind r ≡ false
    never reaches.Nothing = refl
    never (reaches.View target) = refl
    never (reaches.Buttons command) = none command

enabled_is : (passes : CommandSpec → Bool) (list : List Reach) → ((command : CommandSpec) → passes command ≡ list_any (is_of_command command) list) → (kind : Kind) → is_button_where passes kind ≡ list_any (enables_kind kind) list
enabled_is passes list is (kinds.Button button) = is button.command ∙ any_same (is_of_command button.command) (enables_kind (kinds.Button button)) same list
  where
    same : (r : Reach) → is_of_command button.command r ≡ enables_kind (kinds.Button button) r
    same reaches.Nothing = refl
    same (reaches.View target) = refl
    same (reaches.Buttons other) = refl
enabled_is passes list is (kinds.Window head) = no_button (kinds.Window head) list (λ command. refl)
enabled_is passes list is (kinds.Dialog head) = no_button (kinds.Dialog head) list (λ command. refl)
enabled_is passes list is (kinds.Text shown) = no_button (kinds.Text shown) list (λ command. refl)
enabled_is passes list is (kinds.Label label) = no_button (kinds.Label label) list (λ command. refl)
enabled_is passes list is (kinds.Input input) = no_button (kinds.Input input) list (λ command. refl)
enabled_is passes list is (kinds.CheckBoxes boxes) = no_button (kinds.CheckBoxes boxes) list (λ command. refl)
enabled_is passes list is (kinds.RadioButtons radios) = no_button (kinds.RadioButtons radios) list (λ command. refl)
enabled_is passes list is (kinds.List rows) = no_button (kinds.List rows) list (λ command. refl)
enabled_is passes list is (kinds.Pane pane) = no_button (kinds.Pane pane) list (λ command. refl)

holds_is : (ids : List Id) (kind : Kind) (r : Reach) → holds_at ids kind r ≡ (list_any (λ i. reach_shows i r) ids || enables_kind kind r)
holds_is ids kind reaches.Nothing = sym (ap (λ b. b || false) (any_none (λ _. false) (λ x. refl) ids))
holds_is ids kind (reaches.View target) = sym (or_false (list_any (λ i. i.0 == target.0) ids))
holds_is ids kind (reaches.Buttons command) = sym (ap (λ b. b || is_button_of command kind) (any_none (λ _. false) (λ x. refl) ids))

reached_is : (list : List Reach) (before : List Node) (node : Node) → list_any (holds_at (standing before node) node.kind) list ≡ (is_shown list before node || list_any (enables_kind node.kind) list)
reached_is list before node =
    any_same (holds_at (standing before node) node.kind) (λ r. list_any (λ i. reach_shows i r) (standing before node) || enables_kind node.kind r) (holds_is (standing before node) node.kind) list
    ∙ any_or (λ r. list_any (λ i. reach_shows i r) (standing before node)) (enables_kind node.kind) list
    ∙ ap (λ b. b || list_any (enables_kind node.kind) list)
    (swap_any reach_shows (standing before node) list ∙ any_map (λ i. list_any (reach_shows i) list) (λ view. view.id) (node ∷ panes_around before node))

not_or : (a b : Bool) → not (a || b) ≡ (not a && not b)
not_or true b = refl
not_or false b = refl

-- a control is free that isn't shown and isn't enabled
free_is : (list : List Reach) (before : List Node) (node : Node) (passes : CommandSpec → Bool) → ((command : CommandSpec) → passes command ≡ list_any (is_of_command command) list)
    → (is_control node.kind && (not (is_shown list before node) && not (is_button_where passes node.kind))) ≡ is_unreached list before node
free_is list before node passes is =
    ap (λ b. is_control node.kind && b)
    (ap (λ b. not (is_shown list before node) && not b) (enabled_is passes list is node.kind)
    ∙ sym (not_or (is_shown list before node) (list_any (enables_kind node.kind) list))
    ∙ ap not (sym (reached_is list before node)))

-- the view at a place, and what was found of it
pub free_at : (list : List Reach) (views : List Node) (shown : List Bool) (passes : CommandSpec → Bool) (place : ℕ) (view : Node) (was free : Bool) → place < length views → length shown ≡ length views
    → AreFirstShown list views shown → view ≡ get_or views place view → was ≡ get_or shown place was → ((command : CommandSpec) → passes command ≡ list_any (is_of_command command) list)
    → free ≡ (is_control view.kind && (not was && not (is_button_where passes view.kind))) → free ≡ is_unreached list (take place views) (get_or views place view)
free_at list views shown passes place view was free within same known here here_shown is found =
    let shown_is : was ≡ is_shown list (take place views) (get_or views place view) =
    here_shown ∙ get_or_default shown place was false (omega arith) ∙ known place view (omega arith) in
    found
    ∙ ap (λ b. is_control view.kind && (not b && not (is_button_where passes view.kind))) shown_is
    ∙ ap (λ node. is_control node.kind && (not (is_shown list (take place views) (get_or views place view)) && not (is_button_where passes node.kind))) here
    ∙ free_is list (take place views) (get_or views place view) passes is
