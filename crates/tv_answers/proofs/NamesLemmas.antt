-- What a sound description that can be spelled has names for.
use Rattle.std.proofs.Common.{◌≡◌, ℕ, ◌+◌, ◌≤◌, true, List, [], ◌∷◌, ◌++◌, flat_map, get_or, map, Option, Some, None, is_some, IsTrue, pos, refl, sym, subst, All, arith}
use Rattle.std.specs.Prelude.{negsuc, ◌≤ℤ◌, IfSome, slice_get, unwrap_or}
use Rattle.std.specs.List.{AllByRecursion}
use Rattle.std.proofs.lemmas.Bool.{false≢true}
use Rattle.std.proofs.lemmas.Int.{ints}
use Rattle.std.proofs.lemmas.List.Elements.{All-cons, All-from_recursion, All-head, All-nil, All-tail}
use Rattle.std.proofs.lemmas.Option.{slice_get-get_or}
use Rattle.tv_declarations.specs.declared.declaration.Declaration.{Declaration}
use Rattle.tv_declarations.specs.declared.declaration.Declaration.TheVariants as declared
use Rattle.tv_declarations.specs.Spelling.{IsDescription, declarations_of, dialog_declarations, menu_declarations, start_declarations, window_declarations}
use Rattle.tv_declarations.specs.Spelling.Declarations.{AreDeclarations, IsDeclaration}
use Rattle.tv_declarations.specs.Spelling.Nodes.{IsSpelledKind}
use Rattle.tv_check.proofs.DialogLemmas.{ViewKind}
use Rattle.tv_faults.proofs.SoundLemmas.{sound_says}
use Rattle.tv_faults.specs.Sound.{Sound}
use Rattle.tv_lang.specs.CanonicalDescription.{CanBeSpelled}
use Rattle.tv_model.specs.declared.command.CommandSpec.{CommandSpec}
use Rattle.tv_model.specs.declared.command.CommandSpec.TheVariants as commands
use Rattle.tv_model.specs.declared.desc.Desc.{Desc}
use Rattle.tv_model.specs.declared.desc.Dialog.{Dialog}
use Rattle.tv_model.specs.declared.desc.Window.{Window}
use Rattle.tv_model.specs.declared.kind.Kind.{Kind}
use Rattle.tv_model.specs.declared.kind.Kind.TheVariants as kinds
use Rattle.tv_model.specs.declared.node.Node.{Node}
use Rattle.tv_model.specs.Description.Commands.{command_of}
use Rattle.tv_model.specs.Description.Heads.{all_nodes, dialog_nodes, window_nodes}
use Rattle.tv_model.specs.Description.LawfulNodes.{IsLawfulCommand, IsLimited}
use Rattle.tv_model.specs.Description.Nodes.{is_window, name_of, node_of}
use Rattle.tv_model.specs.Faults.{IsSound}
use Rattle.tv_model.specs.Log.LogText.{name_of_node}
use Rattle.tv_words.specs.Fields.{IsName}
use Rattle.tv_answers.proofs.EndReadLemmas.{found, kind_named, own_name, spelled, usable}
use Rattle.tv_answers.proofs.LogNameLemmas.{all_left, nodes_found}
use Rattle.tv_answers.proofs.ToldLemmas.{IsNamed}
use Rattle.tv_answers.proofs.ToldDialogLemmas.{GivesNumber, IsNamedDialog}
use Rattle.tv_answers.proofs.ToldSessionLemmas.{HasNames}

-- ---- commands

lawful_number : (o : Option CommandSpec) → IsLawfulCommand o → GivesNumber o
lawful_number None is = tt
lawful_number (Some commands.Quit) is = record { sfits = omega arith }
lawful_number (Some commands.Menu) is = record { sfits = omega arith }
lawful_number (Some commands.Close) is = record { sfits = omega arith }
lawful_number (Some commands.Next) is = record { sfits = omega arith }
lawful_number (Some commands.Ok) is = record { sfits = omega arith }
lawful_number (Some commands.Cancel) is = record { sfits = omega arith }
lawful_number (Some commands.Yes) is = record { sfits = omega arith }
lawful_number (Some commands.No) is = record { sfits = omega arith }
lawful_number (Some (commands.Number (pos n))) is = record { sfits = omega (arith, high n is.1) }
  where
    high : (n : ℕ) → pos n ≤ℤ pos 255 → n ≤ 255
    high n h = omega (arith, ints)
lawful_number (Some (commands.Number (negsuc n))) is = record { sfits = omega arith }

-- ---- windows

abbrev HasKind : Declaration → Type 0
HasKind (declared.Node node) = IsSpelledKind node.kind
HasKind _ = Unit {0}

has_kind : (line : ℕ) (d : Declaration) → IsDeclaration line d → HasKind d
has_kind line (declared.Node node) is = is.kind
has_kind line _ is = tt

have_kinds : (line : ℕ) (ds : List Declaration) → AreDeclarations line ds → AllByRecursion HasKind ds
have_kinds line [] are = tt
have_kinds line (d ∷ ds) are = (has_kind line d are.0, have_kinds (line + 1) ds are.1)

first_of : (xs ys : List Declaration) → AllByRecursion HasKind (xs ++ ys) → AllByRecursion HasKind xs
first_of [] ys have = tt
first_of (x ∷ xs) ys have = (have.0, first_of xs ys have.1)

second_of : (xs ys : List Declaration) → AllByRecursion HasKind (xs ++ ys) → AllByRecursion HasKind ys
second_of [] ys have = have
second_of (x ∷ xs) ys have = second_of xs ys have.1

window_kinds : (windows : List Window) → AllByRecursion HasKind (flat_map window_declarations windows) → All (λ window. IsSpelledKind window.node.kind) windows
window_kinds [] have = All-nil (λ (window : Window). IsSpelledKind window.node.kind)
window_kinds (window ∷ windows) have =
    All-cons (λ (x : Window). IsSpelledKind x.node.kind) window windows (first_of (window_declarations window) (flat_map window_declarations windows) have).0
    (window_kinds windows (second_of (window_declarations window) (flat_map window_declarations windows) have))

spelled_windows : (d : Desc) → IsDescription d → All (λ window. IsSpelledKind window.node.kind) d.windows
spelled_windows d is =
    let all = have_kinds 1 (declarations_of d) is.declarations in
    let after_start = second_of (start_declarations d.start) _ all.1.1 in
    let after_menus = second_of (flat_map menu_declarations d.menus) _ after_start in
    let after_status = second_of (map (λ item. declared.Status item) d.status) _ after_menus in
    window_kinds d.windows (first_of (flat_map window_declarations d.windows) (flat_map dialog_declarations d.dialogs) after_status)

window_own : (P : Node → Type 0) (windows : List Window) → All P (flat_map window_nodes windows) → All (λ window. P window.node) windows
window_own P [] all = All-nil (λ (window : Window). P window.node)
window_own P (window ∷ windows) all =
    All-cons (λ (x : Window). P x.node) window windows (All-head P window.node (window.views ++ flat_map window_nodes windows) all)
    (window_own P windows (all_behind window.views (All-tail P window.node (window.views ++ flat_map window_nodes windows) all)))
  where
    all_behind : (xs : List Node) → All P (xs ++ flat_map window_nodes windows) → All P (flat_map window_nodes windows)
    all_behind [] rest = rest
    all_behind (x ∷ xs) rest = all_behind xs (All-tail P x (xs ++ flat_map window_nodes windows) rest)

-- ---- names

-- a node that is found by its id is logged by its name, if it has one
named_node : (d : Desc) (node : Node) → node_of (all_nodes d) node.id ≡ Some node → IsSpelledKind node.kind → is_some (name_of node.kind) ≡ true → IsNamed d node.id
named_node d node found kind has = subst (λ o. IsName (name_of_node o)) (sym found) (of (name_of node.kind) (kind_named node.kind kind) has)
  where
    of : (o : Option (List ℕ)) → IfSome o IsName → is_some o ≡ true → IsName (unwrap_or o [])
    of None is e = absurd (false≢true e)
    of (Some name) is e = is

window_named : (kind : Kind) → IsTrue (is_window kind) → is_some (name_of kind) ≡ true
window_named (kinds.Window head) own = refl
window_named _ own = absurd (false≢true own)

module _ (d : Desc) (can : CanBeSpelled d) (sound : IsSound d) where
  dialog_names : (k : ℕ) (dialog : Dialog) → slice_get d.dialogs k ≡ Some dialog → IsNamedDialog d dialog
  dialog_names k dialog there =
      let kinds : All ViewKind dialog.views = All-from_recursion ViewKind dialog.views (spelled d can sound k dialog there).views in
      let by_id = All-tail (λ node. node_of (all_nodes d) node.id ≡ Some node) dialog.node dialog.views (found d can sound k dialog there) in
      let limits = All-tail IsLimited dialog.node dialog.views (usable d can sound k dialog there).nodes in
      record {
        own = own_name d can sound k dialog there;
        views = λ i view less.
            let own : Node = get_or dialog.views i view in
            record {
              named = named_node d own (by_id i view less) (kinds i view less);
              number = lawful_number (command_of own.kind) (limits i view less).command;
            };
      }

  window_names : All (λ window. IsNamed d window.node.id) d.windows
  window_names k window less =
      let own : Window = get_or d.windows k window in
      let kinds = spelled_windows d can.1.can in
      let by_id = window_own (λ node. node_of (all_nodes d) node.id ≡ Some node) d.windows
      (all_left (λ node. node_of (all_nodes d) node.id ≡ Some node) (flat_map window_nodes d.windows) (flat_map dialog_nodes d.dialogs) (nodes_found d can.1.can)) in
      named_node d own.node (by_id k window less) (kinds k window less) (window_named own.node.kind own.own_kind)

  pub names_of : HasNames d
  names_of =
      let says : Sound d = sound_says d sound in
      record {
        dialogs = λ k dialog less. dialog_names k (get_or d.dialogs k dialog) (slice_get-get_or d.dialogs k dialog less);
        windows = window_names;
        items = λ k menu less i item within. lawful_number (Some (get_or (get_or d.menus k menu).items i item).command) (says.limits.texts.items k menu less i item within).0;
        status = λ k item less. lawful_number (Some (get_or d.status k item).command) (says.limits.texts.status k item less).0;
        wide_dialogs = λ k dialog less.
            let own : Dialog = get_or d.dialogs k dialog in
            (All-head IsLimited own.node own.views (usable d can sound k own (slice_get-get_or d.dialogs k dialog less)).nodes).w.1;
        wide_windows = λ k window less. (window_own IsLimited d.windows (all_left IsLimited (flat_map window_nodes d.windows) (flat_map dialog_nodes d.dialogs) says.limits.nodes) k window less).w.1;
        width = says.limits.width;
        height = says.limits.height;
      }
