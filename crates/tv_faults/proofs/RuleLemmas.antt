-- What the want of faults of rules says: F7, F8 and F9.
use Rattle.std.proofs.Common.{◌≡◌, ◌↔◌, ◌⊎◌, ℕ, true, false, not, ◌&&◌, ◌||◌, Decides, IsTrue, List, [], ◌∷◌, length, Option, Some, None, ℤ, pos, refl, sym, ap, subst, ◌∙◌, arith}
use Rattle.std.specs.List.{All, list_any}
use Rattle.std.proofs.lemmas.Bool.{false≢true, false_from_ne_true, not-true, not_from_false}
use Rattle.std.proofs.lemmas.Bool.Decides.{Decides-and, Decides-eqb, Decides-int_eq, Decides-or}
use Rattle.std.proofs.lemmas.Int.{ints}
use Rattle.tv_model.specs.declared.node.Node.{Node}
use Rattle.tv_model.specs.declared.kind.Kind.{Kind}
use Rattle.tv_model.specs.declared.kind.Kind.TheVariants as kinds
use Rattle.tv_model.specs.declared.command.CommandSpec.{CommandSpec}
use Rattle.tv_model.specs.declared.command.CommandSpec.TheVariants as commands
use Rattle.tv_model.specs.declared.desc.Desc.{Desc}
use Rattle.tv_model.specs.declared.desc.Dialog.{Dialog}
use Rattle.tv_model.specs.declared.desc.Rule.{Rule}
use Rattle.tv_model.specs.declared.desc.Effect.{Effect}
use Rattle.tv_model.specs.declared.desc.Effect.TheVariants as effects
use Rattle.tv_model.specs.declared.fault.FaultKind.TheVariants as faults
use Rattle.tv_model.specs.Description.Commands.{is_button_of, is_same_command}
use Rattle.tv_model.specs.Controls.Contents.{IsItem}
use Rattle.tv_model.specs.Description.Names.{meant}
use Rattle.tv_model.specs.Description.Nodes.{has_id, is_cluster, is_control, is_pane}
use Rattle.tv_model.specs.Description.Panes.{panes_around}
use Rattle.tv_model.specs.Description.Rules.{cluster_items, has_target, is_item, is_target, option_stands_over, reaches, stands_over}
use Rattle.tv_model.specs.Faults.{dialog_has}
use Rattle.tv_model.specs.Faults.Lines.{after_seen}
use Rattle.tv_model.specs.Faults.Rules.{has_nothing_to_focus, is_always_free, names_unknown, shows_cluster, shows_itself}
use Rattle.tv_faults.specs.Sound.Rules.{HasFreeControl, HasItem, HasTarget, HaveFreeControls, IsButtonOf, NamesThings, Reaches, RulesNameThings, RulesShowOthers, ShowsOther, StandsOver, meant_after}
use Rattle.tv_faults.proofs.ExcludeLemmas.{Excludes, and_excludes, any_decides, any_excludes, not_excludes, or_excludes, test_excludes}
use Rattle.tv_faults.proofs.LackLemmas.{Lacks, NoRule, NoneAfter}
use Rattle.tv_faults.proofs.LetterLemmas.{between_decides}
use Rattle.tv_faults.proofs.NameLemmas.{option_decides}
use Rattle.tv_faults.proofs.PairLemmas.{after_own, chain, each}

-- ---- F7

target_decides : (views : List Node) (effect : Effect) → Decides (has_target views effect) (HasTarget views effect)
target_decides views (effects.Show name) =
    option_decides is_target (λ node. is_control node.kind || is_pane node.kind) (λ node. IsTrue (is_control node.kind) ⊎ IsTrue (is_pane node.kind)) refl (λ node. refl)
    (λ node. Decides-or (is_control node.kind) (is_pane node.kind) (λ t. t, λ t. t) (λ t. t, λ t. t)) (meant views name)
target_decides views (effects.Enable command) = (λ t. tt, λ h. refl)

no_item : (n : ℤ) → is_item n 0 ≡ false
no_item n = false_from_ne_true (is_item n 0) (λ t. let h : IsItem n 0 = (between_decides (pos 1) (pos 0) n).0 t in omega (arith, ints, h.0, h.1))

-- a cluster that has the item
own_item : (n : ℤ) (node : Node) → Decides (is_item n (cluster_items (Some node))) (HasItem n node.kind)
own_item n node = at node.kind refl
  where
    at : (kind : Kind) → node.kind ≡ kind → Decides (is_item n (cluster_items (Some node))) (HasItem n kind)
    at (kinds.CheckBoxes boxes) e = rw e (between_decides (pos 1) (pos (length boxes.items)) n)
    at (kinds.RadioButtons radios) e = rw e (between_decides (pos 1) (pos (length radios.items)) n)
    at _ e = rw e (λ t. absurd (false≢true (sym (no_item n) ∙ t)), λ h. absurd h)

item_decides : (n : ℤ) (o : Option Node) → Decides (is_item n (cluster_items o)) ((node : Node) × (o ≡ Some node) × HasItem n node.kind)
item_decides n o = option_decides (λ o. is_item n (cluster_items o)) (λ node. is_item n (cluster_items (Some node))) (λ node. HasItem n node.kind) (no_item n) (λ node. refl) (own_item n) o

things_excludes : (views : List Node) (rule : Rule) → Excludes (names_unknown views rule) (NamesThings views rule)
things_excludes views rule =
    let test = or_excludes (not (has_target views rule.effect)) (not (is_item rule.item (cluster_items (meant views rule.cluster))))
    (not_excludes (has_target views rule.effect) (target_decides views rule.effect))
    (not_excludes (is_item rule.item (cluster_items (meant views rule.cluster))) (item_decides rule.item (meant views rule.cluster))) in
    (λ e. let h = test.0 e in record { target = h.0; item = h.1 }, λ h. test.1 (h.target, h.item))

pub rules_name : (d : Desc) → Lacks faults.UnknownInRule d ↔ RulesNameThings d
rules_name d =
    let rules = each (NoRule faults.UnknownInRule) (λ dialog. All (NamesThings dialog.views) dialog.rules)
    (λ dialog. chain (after_own (λ rule. names_unknown dialog.views rule ≡ false) [] dialog.rules)
    (each (λ rule. names_unknown dialog.views rule ≡ false) (NamesThings dialog.views) (things_excludes dialog.views) dialog.rules)) d.dialogs in (
      λ h. rules.0 h.rules,
      λ s. record {
        head = refl;
        menus = λ k p l. refl;
        items = λ k m l i p w. refl;
        status = λ k p l. refl;
        windows = λ k p l. refl;
        dialogs = λ k p l. refl;
        views = λ k m l i p w. refl;
        rules = rules.1 s;
      },
    )

-- ---- F8

over_decides : (target : Node) (before : List Node) (node : Node) → Decides (stands_over target.id before node) (StandsOver target before node)
over_decides target before node = any_decides (has_id target.id) (λ other. other.id.0 ≡ target.id.0) (λ other. Decides-eqb other.id.0 target.id.0) (node ∷ panes_around before node)

pub option_over : (o : Option Node) (before : List Node) (node : Node) → Decides (option_stands_over o before node) ((target : Node) × (o ≡ Some target) × StandsOver target before node)
option_over o before node =
    option_decides (λ o. option_stands_over o before node) (λ target. stands_over target.id before node) (λ target. StandsOver target before node) refl (λ target. refl) (λ target. over_decides target before node) o

-- what the rule shows is neither this cluster nor a pane around it
abbrev SparesCluster : List Node → Rule → List Node → Node → Type 0
SparesCluster views rule before cluster = (name : List ℕ) (target : Node) → rule.effect ≡ effects.Show name → meant views name ≡ Some target → IsTrue (is_cluster cluster.kind) → StandsOver target before cluster → ⊥

spared : (views : List Node) (rule : Rule) (before : List Node) (cluster : Node) (effect : Effect) → rule.effect ≡ effect → Excludes (shows_cluster views rule before cluster) (SparesCluster views rule before cluster)
spared views rule before cluster (effects.Enable command) e = (λ f name target is. absurd cc, λ h. rw e refl)
spared views rule before cluster (effects.Show shown) e =
    let test = and_excludes (is_cluster cluster.kind) (option_stands_over (meant views shown) before cluster)
    (test_excludes (option_stands_over (meant views shown) before cluster) (option_over (meant views shown) before cluster)) in (
      λ f name target is there a over. let g : (is_cluster cluster.kind && option_stands_over (meant views shown) before cluster) ≡ false = rw e at f in
          let same : shown ≡ name = cc in
          test.0 g a (target, ap (meant views) same ∙ there, over),
      λ h. rw e (test.1 (λ a over. h shown over.0 e over.1 a over.2)),
    )

other_excludes : (views : List Node) (rule : Rule) → Excludes (shows_itself views rule) (ShowsOther views rule)
other_excludes views rule = at (meant_after views rule.cluster) refl
  where
    at : (found : Option (List Node × Node)) → meant_after views rule.cluster ≡ found → Excludes (shows_itself views rule) (ShowsOther views rule)
    at None e = (λ f name target before cluster is there named. absurd cc, λ h. rw e refl)
    at (Some pair) e =
        let test : Excludes (shows_cluster views rule pair.0 pair.1) (SparesCluster views rule pair.0 pair.1) = spared views rule pair.0 pair.1 rule.effect refl in (
          λ f name target before cluster is there named a over.
              let g : shows_cluster views rule pair.0 pair.1 ≡ false = rw e at f in
              let same : ◌≡◌ {A = List Node × Node} (before, cluster) pair = cc in
              test.0 g name target is there (subst (λ (p : List Node × Node). IsTrue (is_cluster p.1.kind)) same a) (subst (λ (p : List Node × Node). StandsOver target p.0 p.1) same over),
          λ h. rw e (test.1 (λ name target is there a over. h name target pair.0 pair.1 is there e a over)),
        )

pub rules_show : (d : Desc) → Lacks faults.ShowsItself d ↔ RulesShowOthers d
rules_show d =
    let rules = each (NoRule faults.ShowsItself) (λ dialog. All (ShowsOther dialog.views) dialog.rules)
    (λ dialog. chain (after_own (λ rule. shows_itself dialog.views rule ≡ false) [] dialog.rules)
    (each (λ rule. shows_itself dialog.views rule ≡ false) (ShowsOther dialog.views) (other_excludes dialog.views) dialog.rules)) d.dialogs in (
      λ h. rules.0 h.rules,
      λ s. record {
        head = refl;
        menus = λ k p l. refl;
        items = λ k m l i p w. refl;
        status = λ k p l. refl;
        windows = λ k p l. refl;
        dialogs = λ k p l. refl;
        views = λ k m l i p w. refl;
        rules = rules.1 s;
      },
    )

-- ---- F9

same_says : (one other : CommandSpec) → is_same_command one other ≡ true → one ≡ other
same_says commands.Quit commands.Quit t = refl
same_says commands.Menu commands.Menu t = refl
same_says commands.Close commands.Close t = refl
same_says commands.Next commands.Next t = refl
same_says commands.Ok commands.Ok t = refl
same_says commands.Cancel commands.Cancel t = refl
same_says commands.Yes commands.Yes t = refl
same_says commands.No commands.No t = refl
same_says (commands.Number n) (commands.Number other) t = ap commands.Number ((Decides-int_eq n other).0 t)
same_says _ _ t = absurd (false≢true t)

same_itself : (one : CommandSpec) → is_same_command one one ≡ true
same_itself commands.Quit = refl
same_itself commands.Menu = refl
same_itself commands.Close = refl
same_itself commands.Next = refl
same_itself commands.Ok = refl
same_itself commands.Cancel = refl
same_itself commands.Yes = refl
same_itself commands.No = refl
same_itself (commands.Number n) = (Decides-int_eq n n).1 refl

button_decides : (command : CommandSpec) (kind : Kind) → Decides (is_button_of command kind) (IsButtonOf command kind)
button_decides command (kinds.Button button) = (same_says button.command command, λ e. subst (λ other. is_same_command button.command other ≡ true) e (same_itself button.command))
button_decides command _ = (λ t. absurd (false≢true t), λ h. absurd h)

reaches_decides : (views before : List Node) (node : Node) (effect : Effect) → Decides (reaches views before node effect) (Reaches views before node effect)
reaches_decides views before node (effects.Show name) = option_over (meant views name) before node
reaches_decides views before node (effects.Enable command) = button_decides command node.kind

free_decides : (dialog : Dialog) (before : List Node) (node : Node)
    → Decides (is_always_free dialog before node) (IsTrue (is_control node.kind) × All (λ rule. Reaches dialog.views before node rule.effect → ⊥) dialog.rules)
free_decides dialog before node =
    let none = any_excludes (λ rule. reaches dialog.views before node rule.effect) (λ rule. Reaches dialog.views before node rule.effect → ⊥)
    (λ rule. test_excludes (reaches dialog.views before node rule.effect) (reaches_decides dialog.views before node rule.effect)) dialog.rules in
    Decides-and (is_control node.kind) (not (list_any (λ rule. reaches dialog.views before node rule.effect) dialog.rules)) (λ t. t, λ t. t)
    (λ t. none.0 (not-true (list_any (λ rule. reaches dialog.views before node rule.effect) dialog.rules) t), λ h. not_from_false (list_any (λ rule. reaches dialog.views before node rule.effect) dialog.rules) (none.1 h))

focus_excludes : (dialog : Dialog) → Excludes (has_nothing_to_focus dialog) (HasFreeControl dialog)
focus_excludes dialog =
    not_excludes (list_any (λ pair. is_always_free dialog pair.0 pair.1) (after_seen [] dialog.views))
    (any_decides (λ pair. is_always_free dialog pair.0 pair.1) (λ pair. IsTrue (is_control pair.1.kind) × All (λ rule. Reaches dialog.views pair.0 pair.1 rule.effect → ⊥) dialog.rules)
    (λ pair. free_decides dialog pair.0 pair.1) (after_seen [] dialog.views))

pub focus : (d : Desc) → Lacks faults.NothingToFocus d ↔ HaveFreeControls d
focus d =
    let dialogs : NoneAfter (dialog_has faults.NothingToFocus d) d.dialogs ↔ All HasFreeControl d.dialogs = chain
    (after_own (λ dialog. has_nothing_to_focus dialog ≡ false) [] d.dialogs)
    (each (λ dialog. has_nothing_to_focus dialog ≡ false) HasFreeControl focus_excludes d.dialogs) in (
      λ h. dialogs.0 h.dialogs,
      λ s. record {
        head = refl;
        menus = λ k p l. refl;
        items = λ k m l i p w. refl;
        status = λ k p l. refl;
        windows = λ k p l. refl;
        dialogs = dialogs.1 s;
        views = λ k m l i p w. refl;
        rules = λ k m l i p w. refl;
      },
    )
