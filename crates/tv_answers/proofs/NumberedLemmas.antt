-- A description whose dialog is opened by a line `start` of its own: the lines after that have other numbers.
use Rattle.std.proofs.Common.{◌≡◌, ℕ, zero, suc, ◌+◌, ◌-◌, List, [], ◌∷◌, ◌++◌, map, flat_map, replicate, Option, Some, None, refl, sym, ap, subst, ◌∙◌, arith}
use Rattle.std.specs.Prelude.{codes}
use Rattle.std.specs.List.{AllByRecursion}
use Rattle.std.proofs.lemmas.List.{map-append}
use Rattle.tv_declarations.specs.declared.declaration.Declaration.{Declaration}
use Rattle.tv_declarations.specs.declared.declaration.Declaration.TheVariants as declared
use Rattle.tv_declarations.specs.CanonicalDescription.{description_text}
use Rattle.tv_declarations.specs.Spelling.{AreViews, HasAnItem, IsDescription, IsDialog, IsWindow, IsWindowText, dialog_declarations, ends_of_panes, menu_declarations, open_panes_after, start_declarations, view_declarations, window_declarations, word_lines}
use Rattle.tv_declarations.specs.Spelling.Declarations.{AreDeclarations, IsDeclaration, declaration_words}
use Rattle.tv_lang.specs.CanonicalDescription.{CanBeSpelled}
use Rattle.tv_lang.specs.Faults.{SpellsLines}
use Rattle.tv_lang.proofs.PrintLemmas.{spelled_once}
use Rattle.tv_model.specs.declared.desc.Desc.{Desc}
use Rattle.tv_model.specs.declared.desc.Dialog.{Dialog}
use Rattle.tv_model.specs.declared.desc.Menu.{Menu}
use Rattle.tv_model.specs.declared.desc.MenuItem.{MenuItem}
use Rattle.tv_model.specs.declared.desc.Rule.{Rule}
use Rattle.tv_model.specs.declared.desc.StatusItem.{StatusItem}
use Rattle.tv_model.specs.declared.desc.Window.{Window}
use Rattle.tv_model.specs.declared.node.Id.{Id}
use Rattle.tv_model.specs.declared.node.Node.{Node}
use Rattle.tv_words.specs.declared.word.Word.TheVariants.{Bare}
use Rattle.tv_words.specs.Fields.{IsName}
use Rattle.tv_words.specs.Lines.{lines_of}
use Rattle.tv_words.proofs.CanonicalTextLemmas.{StandInLine, stand_spelled}
use Rattle.tv_answers.proofs.EndReadLemmas.{name_stands}
use Rattle.tv_answers.proofs.StandLemmas.{all_declared, declared_stand}

-- ---- lists

mapped_through : {A B C D : Type 0} (f : A → B) (g : B → D) (h : A → C) (k : C → D) → ((x : A) → g (f x) ≡ k (h x)) → (xs : List A) → map g (map f xs) ≡ map k (map h xs)
mapped_through f g h k same [] = refl
mapped_through f g h k same (x ∷ xs) = ap (λ y. y ∷ map g (map f xs)) (same x) ∙ ap (λ ys. k (h x) ∷ ys) (mapped_through f g h k same xs)

flat_through : {A B : Type 0} (f : A → List B) (g : A → A) (h : B → B) → ((x : A) → f (g x) ≡ map h (f x)) → (xs : List A) → flat_map f (map g xs) ≡ map h (flat_map f xs)
flat_through f g h same [] = refl
flat_through f g h same (x ∷ xs) =
    ap (λ ys. ys ++ flat_map f (map g xs)) (same x) ∙ ap (λ ys. map h (f x) ++ ys) (flat_through f g h same xs) ∙ sym (map-append h (f x) (flat_map f xs))

both_append : {A B : Type 0} (f : A → B) (xs ys : List A) (us vs : List B) → us ≡ map f xs → vs ≡ map f ys → us ++ vs ≡ map f (xs ++ ys)
both_append f xs ys us vs first later = ap (λ zs. zs ++ vs) first ∙ ap (λ zs. map f xs ++ zs) later ∙ sym (map-append f xs ys)

-- ---- so many lines later

module _ (k : ℕ) where
  abbrev pub later : Id → Id
  later i = record { 0 = i.0 + k }

  abbrev pub node_later : Node → Node
  node_later node = record node { id = later node.id }

  abbrev item_later : MenuItem → MenuItem
  item_later item = record item { id = later item.id }

  abbrev menu_later : Menu → Menu
  menu_later menu = record menu { id = later menu.id; items = map item_later menu.items }

  abbrev status_later : StatusItem → StatusItem
  status_later item = record item { id = later item.id }

  abbrev pub window_later : Window → Window
  window_later window = record { node = node_later window.node; views = map node_later window.views; own_kind = window.own_kind }

  abbrev pub rule_later : Rule → Rule
  rule_later rule = record rule { id = later rule.id }

  abbrev pub dialog_later : Dialog → Dialog
  dialog_later dialog = record {
    node = node_later dialog.node;
    views = map node_later dialog.views;
    rules = map rule_later dialog.rules;
    own_kind = dialog.own_kind;
  }

  abbrev pub desc_later : Desc → Desc
  desc_later d = record d {
    menus = map menu_later d.menus;
    status = map status_later d.status;
    windows = map window_later d.windows;
    dialogs = map dialog_later d.dialogs;
  }

  abbrev declared_later : Declaration → Declaration
  declared_later (declared.Menu i title) = declared.Menu (later i) title
  declared_later (declared.Item item) = declared.Item (item_later item)
  declared_later (declared.Status item) = declared.Status (status_later item)
  declared_later (declared.Node node) = declared.Node (node_later node)
  declared_later (declared.Rule rule) = declared.Rule (rule_later rule)
  declared_later x = x

  -- ---- the declarations

  ends_later : (n : ℕ) → replicate n declared.End ≡ map declared_later (replicate n declared.End)
  ends_later zero = refl
  ends_later (suc n) = ap (λ ds. declared.End ∷ ds) (ends_later n)

  views_later : (panes : ℕ) (views : List Node) → view_declarations panes (map node_later views) ≡ map declared_later (view_declarations panes views)
  views_later panes [] = ends_later (panes - 0)
  views_later panes (view ∷ views) =
      both_append declared_later (ends_of_panes panes view.depth) (declared.Node view ∷ view_declarations (open_panes_after view) views) (ends_of_panes panes view.depth)
      (declared.Node (node_later view) ∷ view_declarations (open_panes_after view) (map node_later views)) (ends_later (panes - view.depth))
      (ap (λ ds. declared.Node (node_later view) ∷ ds) (views_later (open_panes_after view) views))

  in_menu : (menu : Menu) → menu_declarations (menu_later menu) ≡ map declared_later (menu_declarations menu)
  in_menu menu =
      ap (λ ds. declared.Menu (later menu.id) menu.title ∷ ds)
      (both_append declared_later (map (λ item. declared.Item item) menu.items) (declared.End ∷ []) (map (λ item. declared.Item item) (map item_later menu.items)) (declared.End ∷ [])
      (mapped_through item_later (λ item. declared.Item item) (λ item. declared.Item item) declared_later (λ item. refl) menu.items) refl)

  in_window : (window : Window) → window_declarations (window_later window) ≡ map declared_later (window_declarations window)
  in_window window =
      ap (λ ds. declared.Node (node_later window.node) ∷ ds)
      (both_append declared_later (map (λ view. declared.Node view) window.views) (declared.End ∷ []) (map (λ view. declared.Node view) (map node_later window.views)) (declared.End ∷ [])
      (mapped_through node_later (λ view. declared.Node view) (λ view. declared.Node view) declared_later (λ view. refl) window.views) refl)

  in_dialog : (dialog : Dialog) → dialog_declarations (dialog_later dialog) ≡ map declared_later (dialog_declarations dialog)
  in_dialog dialog =
      let rules = both_append declared_later (map (λ rule. declared.Rule rule) dialog.rules) (declared.End ∷ []) (map (λ rule. declared.Rule rule) (map rule_later dialog.rules)) (declared.End ∷ [])
      (mapped_through rule_later (λ rule. declared.Rule rule) (λ rule. declared.Rule rule) declared_later (λ rule. refl) dialog.rules) refl in
      ap (λ ds. declared.Node (node_later dialog.node) ∷ ds)
      (both_append declared_later (view_declarations 0 dialog.views) (map (λ rule. declared.Rule rule) dialog.rules ++ declared.End ∷ []) (view_declarations 0 (map node_later dialog.views)) _ (views_later 0 dialog.views) rules)

  -- those after the line that opens a dialog
  abbrev body : Desc → List Declaration
  body d =
      flat_map menu_declarations d.menus
      ++ (map (λ item. declared.Status item) d.status
      ++ (flat_map window_declarations d.windows
      ++ flat_map dialog_declarations d.dialogs))

  body_later : (d : Desc) → body (desc_later d) ≡ map declared_later (body d)
  body_later d =
      let dialogs = flat_through dialog_declarations dialog_later declared_later in_dialog d.dialogs in
      let windows = both_append declared_later (flat_map window_declarations d.windows) (flat_map dialog_declarations d.dialogs) _ _ (flat_through window_declarations window_later declared_later in_window d.windows) dialogs in
      let status = both_append declared_later (map (λ item. declared.Status item) d.status) _ (map (λ item. declared.Status item) (map status_later d.status)) _
      (mapped_through status_later (λ item. declared.Status item) (λ item. declared.Status item) declared_later (λ item. refl) d.status) windows in
      both_append declared_later (flat_map menu_declarations d.menus) _ (flat_map menu_declarations (map menu_later d.menus)) _ (flat_through menu_declarations menu_later declared_later in_menu d.menus) status

  -- ---- their words

  word_same : (x : Declaration) → declaration_words (declared_later x) ≡ declaration_words x
  word_same (declared.Version version) = refl
  word_same (declared.Screen width height) = refl
  word_same (declared.Start name) = refl
  word_same (declared.Menu i title) = refl
  word_same (declared.Item item) = refl
  word_same (declared.Status item) = refl
  word_same (declared.Node node) = refl
  word_same (declared.Rule rule) = refl
  word_same declared.End = refl

  words_same : (xs : List Declaration) → map declaration_words (map declared_later xs) ≡ map declaration_words xs
  words_same [] = refl
  words_same (x ∷ xs) = ap (λ ws. ws ∷ map declaration_words (map declared_later xs)) (word_same x) ∙ ap (λ wss. declaration_words x ∷ wss) (words_same xs)

  -- ---- what can be spelled

  one_declared : (line : ℕ) (x : Declaration) → IsDeclaration line x → IsDeclaration (line + k) (declared_later x)
  one_declared line (declared.Version version) is = is
  one_declared line (declared.Screen width height) is = is
  one_declared line (declared.Start name) is = is
  one_declared line (declared.Menu i title) is = (ap (λ n. n + k) is.0, is.1)
  one_declared line (declared.Item item) is = (ap (λ n. n + k) is.0, is.1, is.2)
  one_declared line (declared.Status item) is = (ap (λ n. n + k) is.0, is.1, is.2)
  one_declared line (declared.Node node) is = record { id = ap (λ n. n + k) is.id; x = is.x; y = is.y; w = is.w; kind = is.kind }
  one_declared line (declared.Rule rule) is = (ap (λ n. n + k) is.0, is.1, is.2, is.3)
  one_declared line declared.End is = is

  are_declared : (line : ℕ) (xs : List Declaration) → AreDeclarations line xs → AreDeclarations (line + k) (map declared_later xs)
  are_declared line [] are = tt
  are_declared line (x ∷ xs) are =
      (one_declared line x are.0, subst (λ n. AreDeclarations n (map declared_later xs)) (next line) (are_declared (line + 1) xs are.1))
    where
      next : (n : ℕ) → (n + 1) + k ≡ (n + k) + 1
      next n = omega arith

  menus_too : (menus : List Menu) → AllByRecursion HasAnItem menus → AllByRecursion HasAnItem (map menu_later menus)
  menus_too [] have = tt
  menus_too (menu ∷ menus) have = ((λ none. have.0 (unmapped menu.items none)), menus_too menus have.1)
    where
      unmapped : (items : List MenuItem) → map item_later items ≡ [] → items ≡ []
      unmapped [] none = refl
      unmapped (item ∷ items) none = absurd cc

  texts_too : (views : List Node) → AllByRecursion IsWindowText views → AllByRecursion IsWindowText (map node_later views)
  texts_too [] are = tt
  texts_too (view ∷ views) are = (record { depth = are.0.depth; kind = are.0.kind }, texts_too views are.1)

  windows_too : (windows : List Window) → AllByRecursion IsWindow windows → AllByRecursion IsWindow (map window_later windows)
  windows_too [] are = tt
  windows_too (window ∷ windows) are = (record { depth = are.0.depth; views = texts_too window.views are.0.views }, windows_too windows are.1)

  views_too : (panes : ℕ) (views : List Node) → AreViews panes views → AreViews panes (map node_later views)
  views_too panes [] are = tt
  views_too panes (view ∷ views) are = (are.0, are.1, are.2, views_too (open_panes_after view) views are.3)

  dialogs_too : (dialogs : List Dialog) → AllByRecursion IsDialog dialogs → AllByRecursion IsDialog (map dialog_later dialogs)
  dialogs_too [] are = tt
  dialogs_too (dialog ∷ dialogs) are = (record { depth = are.0.depth; views = views_too 0 dialog.views are.0.views }, dialogs_too dialogs are.1)

-- ---- the line that opens a dialog

-- how many lines later those after it stand
abbrev pub lines_later : Option (List ℕ) → ℕ
lines_later None = 1
lines_later (Some name) = 0

-- the description with the dialog open, each line with its number
abbrev pub begun_desc : Desc → List ℕ → Desc
begun_desc d name = record (desc_later (lines_later d.start) d) { start = Some name }

start_stands : (name : List ℕ) → IsName name → StandInLine (Bare (codes "start") ∷ Bare name ∷ [])
start_stands name is = ((name_stands (codes "start") refl, (name_stands name is, tt)), refl)

stands_after : (start : Option (List ℕ)) (ds : List Declaration) → AllByRecursion StandInLine (map declaration_words (start_declarations start ++ ds)) → AllByRecursion StandInLine (map declaration_words ds)
stands_after None ds h = h
stands_after (Some name) ds h = h.1

declared_after : (start : Option (List ℕ)) (ds : List Declaration) → AreDeclarations 3 (start_declarations start ++ ds) → AreDeclarations 4 (map (declared_later (lines_later start)) ds)
declared_after None ds are = are_declared 1 3 ds are
declared_after (Some name) ds are = are_declared 0 4 ds are.1

module _ (d : Desc) (can : CanBeSpelled d) (name : List ℕ) (is : IsName name) where
  abbrev k : ℕ
  k = lines_later d.start

  abbrev begun : Desc
  begun = record d { start = Some name }

  same_words : word_lines (begun_desc d name) ≡ word_lines begun
  same_words =
      ap (λ ds. map declaration_words (declared.Version d.version ∷ declared.Screen d.width d.height ∷ declared.Start name ∷ ds)) (body_later k d)
      ∙ ap (λ wss. declaration_words (declared.Version d.version) ∷ declaration_words (declared.Screen d.width d.height) ∷ declaration_words (declared.Start name) ∷ wss) (words_same k (body k d))

  pub is_begun : IsDescription (begun_desc d name)
  is_begun =
      let own = can.1.can in
      record {
        declarations = (own.declarations.0, (own.declarations.1.0, (is, subst (AreDeclarations 4) (sym (body_later k d)) (declared_after d.start (body k d) own.declarations.1.1))));
        menus = menus_too k d.menus own.menus;
        windows = windows_too k d.windows own.windows;
        dialogs = dialogs_too k d.dialogs own.dialogs;
      }

  stand : AllByRecursion StandInLine (word_lines begun)
  stand =
      let old : AllByRecursion StandInLine (word_lines d) = subst (AllByRecursion StandInLine) can.1.declared (declared_stand (lines_of can.0) can.1.words can.1.each) in
      (old.0, (old.1.0, (start_stands name is, stands_after d.start (body k d) old.1.1)))

  spelled : SpellsLines (lines_of (description_text begun)) (begun_desc d name)
  spelled = record {
    words = word_lines begun;
    each = stand_spelled (word_lines begun) stand;
    declared = all_declared (word_lines begun) stand ∙ sym same_words;
    can = is_begun;
  }

  -- its text spells no other
  pub begun_only : (e : Desc) → SpellsLines (lines_of (description_text begun)) e → e ≡ begun_desc d name
  begun_only e h = spelled_once (description_text begun) e (begun_desc d name) h spelled
