-- What a text spells of a description's dialogs.
use Rattle.std.proofs.Common.{ℕ, ◌+◌, List, [], ◌∷◌, ◌++◌, map, flat_map}
use Rattle.std.specs.List.{AllByRecursion}
use Rattle.tv_model.specs.declared.node.Node.{Node}
use Rattle.tv_model.specs.declared.desc.Desc.{Desc}
use Rattle.tv_model.specs.declared.desc.Dialog.{Dialog}
use Rattle.tv_model.specs.declared.desc.Rule.{Rule}
use Rattle.tv_declarations.specs.declared.declaration.Declaration.{Declaration}
use Rattle.tv_declarations.specs.declared.declaration.Declaration.TheVariants as declared
use Rattle.tv_lang.specs.CanonicalDescription.{CanBeSpelled}
use Rattle.tv_declarations.specs.Spelling.{IsDescription, declarations_of, dialog_declarations, ends_of_panes, menu_declarations, open_panes_after, start_declarations, view_declarations, window_declarations}
use Rattle.tv_declarations.specs.Spelling.Declarations.{AreDeclarations, IsDeclaration}
use Rattle.tv_declarations.specs.Spelling.Nodes.{IsSpelledKind}
use Rattle.tv_words.specs.Fields.{IsNumber}

-- the item of a rule is a number that a text can have
abbrev pub RuleItem : Rule → Type 0
RuleItem rule = IsNumber rule.item

-- a node is of a kind that can be spelled, and so is the item of a rule
abbrev HasKind : Declaration → Type 0
HasKind (declared.Node node) = IsSpelledKind node.kind
HasKind (declared.Rule rule) = RuleItem rule
HasKind _ = Unit {0}

has_kind : (line : ℕ) (d : Declaration) → IsDeclaration line d → HasKind d
has_kind line (declared.Node node) is = is.kind
has_kind line (declared.Rule rule) is = is.3
has_kind line _ is = tt

have_kinds : (line : ℕ) (ds : List Declaration) → AreDeclarations line ds → AllByRecursion HasKind ds
have_kinds line [] are = tt
have_kinds line (d ∷ ds) are = (has_kind line d are.0, have_kinds (line + 1) ds are.1)

first_of : (xs ys : List Declaration) → AllByRecursion HasKind (xs ++ ys) → AllByRecursion HasKind xs
first_of [] ys have = tt
first_of (x ∷ xs) ys have = (have.0, first_of xs ys have.1)

second_of : (xs ys : List Declaration) → AllByRecursion HasKind (xs ++ ys) → AllByRecursion HasKind ys
second_of [] ys have = have
second_of (x ∷ xs) ys have = second_of xs ys have.1

abbrev pub ViewKind : Node → Type 0
ViewKind view = IsSpelledKind view.kind

view_kinds : (panes : ℕ) (views : List Node) → AllByRecursion HasKind (view_declarations panes views) → AllByRecursion ViewKind views
view_kinds panes [] have = tt
view_kinds panes (view ∷ views) have =
    let here = second_of (ends_of_panes panes view.depth) (declared.Node view ∷ view_declarations (open_panes_after view) views) have in
    (here.0, view_kinds (open_panes_after view) views here.1)

rule_items : (rules : List Rule) → AllByRecursion HasKind (map (λ rule. declared.Rule rule) rules) → AllByRecursion RuleItem rules
rule_items [] have = tt
rule_items (rule ∷ rules) have = (have.0, rule_items rules have.1)

-- a dialog whose own line, views and rules can be spelled
pub record IsSpelledDialog (dialog : Dialog) : Type 0 where
  pub own : IsSpelledKind dialog.node.kind
  pub views : AllByRecursion ViewKind dialog.views
  pub rules : AllByRecursion RuleItem dialog.rules

spelled_dialogs : (dialogs : List Dialog) → AllByRecursion HasKind (flat_map dialog_declarations dialogs) → AllByRecursion IsSpelledDialog dialogs
spelled_dialogs [] have = tt
spelled_dialogs (dialog ∷ dialogs) have =
    let rules = map (λ rule. declared.Rule rule) dialog.rules in
    let own = first_of (dialog_declarations dialog) (flat_map dialog_declarations dialogs) have in
    let views = first_of (view_declarations 0 dialog.views) (rules ++ declared.End ∷ []) own.1 in
    let ruled = first_of rules (declared.End ∷ []) (second_of (view_declarations 0 dialog.views) (rules ++ declared.End ∷ []) own.1) in (
      record { own = own.0; views = view_kinds 0 dialog.views views; rules = rule_items dialog.rules ruled },
      spelled_dialogs dialogs (second_of (dialog_declarations dialog) (flat_map dialog_declarations dialogs) have),
    )

pub dialogs_spelled : (d : Desc) → CanBeSpelled d → AllByRecursion IsSpelledDialog d.dialogs
dialogs_spelled d can =
    let is : IsDescription d = can.1.can in
    let all = have_kinds 1 (declarations_of d) is.declarations in
    let after_start = second_of (start_declarations d.start) _ all.1.1 in
    let after_menus = second_of (flat_map menu_declarations d.menus) _ after_start in
    let after_status = second_of (map (λ item. declared.Status item) d.status) _ after_menus in
    let after_windows = second_of (flat_map window_declarations d.windows) (flat_map dialog_declarations d.dialogs) after_status in
    spelled_dialogs d.dialogs after_windows
