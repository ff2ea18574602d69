-- What is spelled as a description is read as it.
use Rattle.std.proofs.Common.{◌≡◌, ◌≢◌, ℕ, suc, zero, ◌+◌, ◌-◌, ◌<◌, ◌≤◌, ◌==◌, nat_lt, Bool, true, false, List, [], ◌∷◌, ◌++◌, length, replicate, Option, Some, None, refl, sym, ap, ◌∙◌, append_assoc, subst, arith}
use Rattle.std.specs.Prelude.{ℤ, map, flat_map}
use Rattle.std.specs.List.{AllByRecursion}
use Rattle.std.proofs.lemmas.List.{append-nil}
use Rattle.std.proofs.lemmas.Bool.{eqb-true}
use Rattle.std.proofs.lemmas.Bool.Decides.{nat_tests}
use Rattle.tv_model.specs.declared.node.Node.{Node}
use Rattle.tv_model.specs.declared.desc.Desc.{Desc}
use Rattle.tv_model.specs.declared.desc.Dialog.{Dialog}
use Rattle.tv_model.specs.declared.desc.Menu.{Menu}
use Rattle.tv_model.specs.declared.desc.MenuItem.{MenuItem}
use Rattle.tv_model.specs.declared.desc.Rule.{Rule}
use Rattle.tv_model.specs.declared.desc.StatusItem.{StatusItem}
use Rattle.tv_model.specs.declared.desc.Version.{Version}
use Rattle.tv_model.specs.declared.desc.Window.{Window}
use Rattle.tv_model.specs.Description.Nodes.{is_pane}
use Rattle.tv_declarations.specs.declared.declaration.Declaration.{Declaration}
use Rattle.tv_declarations.specs.declared.declaration.Declaration.TheVariants as declared
use Rattle.tv_lang.specs.declared.stage.Stage.{Stage}
use Rattle.tv_lang.specs.declared.stage.Stage.TheVariants as stages
use Rattle.tv_lang.specs.Reading.Stages.{no_dialogs, no_windows, no_status, panes_after, declaration_taken, nothing_read, open_panes}
use Rattle.tv_declarations.specs.Spelling.{start_declarations, menu_declarations, window_declarations, ends_of_panes, open_panes_after, view_declarations, dialog_declarations, declarations_of, word_lines, HasAnItem, IsWindowText, IsWindow, AreViews, IsDialog, IsDescription}
use Rattle.tv_declarations.specs.Spelling.Declarations.{declaration_words, AreDeclarations}
use Rattle.tv_declarations.proofs.DeclarationLemmas.{read_declaration}
use Rattle.tv_declarations.specs.Spelling.Declarations.{IsInside}
use Rattle.tv_lang.proofs.GivenLemmas.{given, at}
use Rattle.tv_lang.proofs.OpenedLemmas.{opens_window, opens_dialog}

-- from this stage on, the declarations give the description, whichever lines they stand on
abbrev Reaches : Stage → Desc → List Declaration → Desc → Type 0
Reaches stage d xs v = (line : ℕ) → AreDeclarations line xs → given (at line stage d) (map declaration_words xs) ≡ Some v

one : (stage : Stage) (d : Desc) (x : Declaration) (further : Stage) (e : Desc) (xs : List Declaration) (v : Desc) → IsInside (open_panes stage) x → declaration_taken stage d x ≡ Some (further, e) → Reaches further e xs v → Reaches stage d (x ∷ xs) v
one stage d x further e xs v inside took later = λ line are. rw (read_declaration line (open_panes stage) x are.0 inside, took) (later (line + 1) are.1)

-- the same declarations, put together otherwise
along : (stage : Stage) (d v : Desc) (xs ys : List Declaration) → xs ≡ ys → Reaches stage d ys v → Reaches stage d xs v
along stage d v xs ys e h = subst (λ l. Reaches stage d l v) (sym e) h

empty_if : {A : Type 0} (xs : List A) (b : Bool) → (length xs == 0) ≡ b → xs ≢ [] → (length xs == 0) ≡ false
empty_if [] b e some = absurd (some refl)
empty_if (x ∷ xs) true e some = absurd (omega (arith, eqb-true (length (x ∷ xs)) 0 e))
empty_if (x ∷ xs) false e some = e

is_some : {A : Type 0} (xs : List A) → xs ≢ [] → (length xs == 0) ≡ false
is_some xs some = empty_if xs (length xs == 0) refl some

-- ---- menus

items_reach : (items : List MenuItem) (menu : Menu) (d v : Desc) (xs : List Declaration) → Reaches (stages.InMenu (record menu { items = menu.items ++ items })) d xs v → Reaches (stages.InMenu menu) d (map (λ item. declared.Item item) items ++ xs) v
items_reach [] menu d v xs h = subst (λ l. Reaches (stages.InMenu (record menu { items = l })) d xs v) (append-nil menu.items) h
items_reach (item ∷ items) menu d v xs h =
    let longer : Menu = record menu { items = menu.items ++ item ∷ [] } in
    one (stages.InMenu menu) d (declared.Item item) (stages.InMenu longer) d (map (λ item. declared.Item item) items ++ xs) v tt refl
    (items_reach items longer d v xs (subst (λ l. Reaches (stages.InMenu (record menu { items = l })) d xs v) (sym (append_assoc menu.items (item ∷ []) items)) h))

menu_reach : (menu : Menu) (d v : Desc) (xs : List Declaration) → HasAnItem menu → no_status d ≡ true → Reaches stages.Between (record d { menus = d.menus ++ menu ∷ [] }) xs v → Reaches stages.Between d (menu_declarations menu ++ xs) v
menu_reach menu d v xs has none h =
    let opened : Menu = record { id = menu.id; title = menu.title; items = [] } in
    along stages.Between d v (menu_declarations menu ++ xs) (declared.Menu menu.id menu.title ∷ (map (λ item. declared.Item item) menu.items ++ (declared.End ∷ xs))) (ap (λ l. declared.Menu menu.id menu.title ∷ l) (append_assoc (map (λ item. declared.Item item) menu.items) (declared.End ∷ []) xs))
    (one stages.Between d (declared.Menu menu.id menu.title) (stages.InMenu opened) d (map (λ item. declared.Item item) menu.items ++ (declared.End ∷ xs)) v tt (rw none refl)
    (items_reach menu.items opened d v (declared.End ∷ xs)
    (one (stages.InMenu menu) d declared.End stages.Between (record d { menus = d.menus ++ menu ∷ [] }) xs v tt (rw (is_some menu.items has) refl) h)))

menus_reach : (menus : List Menu) (d v : Desc) (xs : List Declaration) → AllByRecursion HasAnItem menus → no_status d ≡ true → Reaches stages.Between (record d { menus = d.menus ++ menus }) xs v → Reaches stages.Between d (flat_map menu_declarations menus ++ xs) v
menus_reach [] d v xs have none h = subst (λ l. Reaches stages.Between (record d { menus = l }) xs v) (append-nil d.menus) h
menus_reach (menu ∷ menus) d v xs have none h =
    let longer : Desc = record d { menus = d.menus ++ menu ∷ [] } in
    along stages.Between d v (flat_map menu_declarations (menu ∷ menus) ++ xs) (menu_declarations menu ++ (flat_map menu_declarations menus ++ xs)) (append_assoc (menu_declarations menu) (flat_map menu_declarations menus) xs)
    (menu_reach menu d v (flat_map menu_declarations menus ++ xs) have.0 none
    (menus_reach menus longer v xs have.1 none (subst (λ l. Reaches stages.Between (record d { menus = l }) xs v) (sym (append_assoc d.menus (menu ∷ []) menus)) h)))

-- ---- status items

status_reach : (items : List StatusItem) (d v : Desc) (xs : List Declaration) → no_windows d ≡ true → Reaches stages.Between (record d { status = d.status ++ items }) xs v → Reaches stages.Between d (map (λ item. declared.Status item) items ++ xs) v
status_reach [] d v xs none h = subst (λ l. Reaches stages.Between (record d { status = l }) xs v) (append-nil d.status) h
status_reach (item ∷ items) d v xs none h =
    let longer : Desc = record d { status = d.status ++ item ∷ [] } in
    one stages.Between d (declared.Status item) stages.Between longer (map (λ item. declared.Status item) items ++ xs) v tt (rw none refl)
    (status_reach items longer v xs none (subst (λ l. Reaches stages.Between (record d { status = l }) xs v) (sym (append_assoc d.status (item ∷ []) items)) h))

-- ---- windows

texts_reach : (views : List Node) (window : Window) (d v : Desc) (xs : List Declaration) → AllByRecursion IsWindowText views → Reaches (stages.InWindow (record window { views = window.views ++ views })) d xs v → Reaches (stages.InWindow window) d (map (λ view. declared.Node view) views ++ xs) v
texts_reach [] window d v xs are h = subst (λ l. Reaches (stages.InWindow (record window { views = l })) d xs v) (append-nil window.views) h
texts_reach (view ∷ views) window d v xs are h =
    let longer : Window = record window { views = window.views ++ view ∷ [] } in
    one (stages.InWindow window) d (declared.Node view) (stages.InWindow longer) d (map (λ view. declared.Node view) views ++ xs) v are.0.depth (rw are.0.kind refl)
    (texts_reach views longer d v xs are.1 (subst (λ l. Reaches (stages.InWindow (record window { views = l })) d xs v) (sym (append_assoc window.views (view ∷ []) views)) h))

window_reach : (window : Window) (d v : Desc) (xs : List Declaration) → IsWindow window → no_dialogs d ≡ true → Reaches stages.Between (record d { windows = d.windows ++ window ∷ [] }) xs v → Reaches stages.Between d (window_declarations window ++ xs) v
window_reach window d v xs is none h =
    let opened : Window = record window { views = [] } in
    along stages.Between d v (window_declarations window ++ xs) (declared.Node window.node ∷ (map (λ view. declared.Node view) window.views ++ (declared.End ∷ xs))) (ap (λ l. declared.Node window.node ∷ l) (append_assoc (map (λ view. declared.Node view) window.views) (declared.End ∷ []) xs))
    (one stages.Between d (declared.Node window.node) (stages.InWindow opened) d (map (λ view. declared.Node view) window.views ++ (declared.End ∷ xs)) v is.depth (opens_window d window.node opened refl refl none)
    (texts_reach window.views opened d v (declared.End ∷ xs) is.views
    (one (stages.InWindow window) d declared.End stages.Between (record d { windows = d.windows ++ window ∷ [] }) xs v tt refl h)))

windows_reach : (windows : List Window) (d v : Desc) (xs : List Declaration) → AllByRecursion IsWindow windows → no_dialogs d ≡ true → Reaches stages.Between (record d { windows = d.windows ++ windows }) xs v → Reaches stages.Between d (flat_map window_declarations windows ++ xs) v
windows_reach [] d v xs are none h = subst (λ l. Reaches stages.Between (record d { windows = l }) xs v) (append-nil d.windows) h
windows_reach (window ∷ windows) d v xs are none h =
    let longer : Desc = record d { windows = d.windows ++ window ∷ [] } in
    along stages.Between d v (flat_map window_declarations (window ∷ windows) ++ xs) (window_declarations window ++ (flat_map window_declarations windows ++ xs)) (append_assoc (window_declarations window) (flat_map window_declarations windows) xs)
    (window_reach window d v (flat_map window_declarations windows ++ xs) are.0 none
    (windows_reach windows longer v xs are.1 none (subst (λ l. Reaches stages.Between (record d { windows = l }) xs v) (sym (append_assoc d.windows (window ∷ []) windows)) h)))

-- ---- dialogs

none_of : (n : ℕ) (b : Bool) → n == 0 ≡ b → 0 < n → n == 0 ≡ false
none_of n true e some = absurd (omega (arith, eqb-true n 0 e, some))
none_of n false e some = e

ends_reach : (k panes to : ℕ) (dialog : Dialog) (d v : Desc) (xs : List Declaration) → panes ≡ to + k → Reaches (stages.InViews dialog to) d xs v → Reaches (stages.InViews dialog panes) d (replicate k declared.End ++ xs) v
ends_reach zero panes to dialog d v xs e h = let same : to ≡ panes = omega (arith, e) in subst (λ n. Reaches (stages.InViews dialog n) d xs v) same h
ends_reach (suc k) panes to dialog d v xs e h =
    let less : panes - 1 ≡ to + k = omega (arith, e) in
    let some : 0 < panes = omega (arith, e) in
    one (stages.InViews dialog panes) d declared.End (stages.InViews dialog (panes - 1)) d (replicate k declared.End ++ xs) v tt (rw (none_of panes (panes == 0) refl some) refl)
    (ends_reach k (panes - 1) to dialog d v xs less h)

panes_end : (panes to : ℕ) (dialog : Dialog) (d v : Desc) (xs : List Declaration) → to ≤ panes → Reaches (stages.InViews dialog to) d xs v → Reaches (stages.InViews dialog panes) d (ends_of_panes panes to ++ xs) v
panes_end panes to dialog d v xs within h = ends_reach (panes - to) panes to dialog d v xs (omega (arith, within)) h

few : (n : ℕ) → n + 1 ≤ 16 → nat_lt n 16 ≡ true
few n h = grind (arith, nat_tests)

after_if : (n : Node) (b : Bool) → is_pane n.kind ≡ b → open_panes_after n ≤ 16 → panes_after n.depth n ≡ Some (open_panes_after n)
after_if n true e h =
    let after : open_panes_after n ≡ n.depth + 1 = rw e refl in
    rw (e, few n.depth (rw (← after) h)) refl
after_if n false e h = rw e refl

views_reach : (vs : List Node) (panes : ℕ) (dialog : Dialog) (d v : Desc) (xs : List Declaration) → AreViews panes vs → Reaches (stages.InViews (record dialog { views = dialog.views ++ vs }) 0) d xs v → Reaches (stages.InViews dialog panes) d (view_declarations panes vs ++ xs) v
views_reach [] panes dialog d v xs are h =
    panes_end panes 0 dialog d v xs (omega arith) (subst (λ l. Reaches (stages.InViews (record dialog { views = l }) 0) d xs v) (append-nil dialog.views) h)
views_reach (n ∷ ns) panes dialog d v xs (is, within, low, are) h =
    let longer : Dialog = record dialog { views = dialog.views ++ n ∷ [] } in
    along (stages.InViews dialog panes) d v (view_declarations panes (n ∷ ns) ++ xs) (ends_of_panes panes n.depth ++ (declared.Node n ∷ (view_declarations (open_panes_after n) ns ++ xs))) (append_assoc (ends_of_panes panes n.depth) (declared.Node n ∷ view_declarations (open_panes_after n) ns) xs)
    (panes_end panes n.depth dialog d v (declared.Node n ∷ (view_declarations (open_panes_after n) ns ++ xs)) within
    (one (stages.InViews dialog n.depth) d (declared.Node n) (stages.InViews longer (open_panes_after n)) d (view_declarations (open_panes_after n) ns ++ xs) v refl (rw (is, after_if n (is_pane n.kind) refl low) refl)
    (views_reach ns (open_panes_after n) longer d v xs are (subst (λ l. Reaches (stages.InViews (record dialog { views = l }) 0) d xs v) (sym (append_assoc dialog.views (n ∷ []) ns)) h))))

rules_reach : (rules : List Rule) (dialog : Dialog) (d v : Desc) (xs : List Declaration) → Reaches (stages.InRules (record dialog { rules = dialog.rules ++ rules })) d xs v → Reaches (stages.InRules dialog) d (map (λ rule. declared.Rule rule) rules ++ xs) v
rules_reach [] dialog d v xs h = subst (λ l. Reaches (stages.InRules (record dialog { rules = l })) d xs v) (append-nil dialog.rules) h
rules_reach (rule ∷ rules) dialog d v xs h =
    let longer : Dialog = record dialog { rules = dialog.rules ++ rule ∷ [] } in
    one (stages.InRules dialog) d (declared.Rule rule) (stages.InRules longer) d (map (λ rule. declared.Rule rule) rules ++ xs) v tt refl
    (rules_reach rules longer d v xs (subst (λ l. Reaches (stages.InRules (record dialog { rules = l })) d xs v) (sym (append_assoc dialog.rules (rule ∷ []) rules)) h))

-- the rules of a dialog, and its end
rest_reaches : (rules : List Rule) (dialog : Dialog) (d v : Desc) (xs : List Declaration) → Reaches stages.Between (record d { dialogs = d.dialogs ++ record dialog { rules = rules } ∷ [] }) xs v → Reaches (stages.InViews (record dialog { rules = [] }) 0) d (map (λ rule. declared.Rule rule) rules ++ (declared.End ∷ xs)) v
rest_reaches [] dialog d v xs h = one (stages.InViews (record dialog { rules = [] }) 0) d declared.End stages.Between (record d { dialogs = d.dialogs ++ record dialog { rules = [] } ∷ [] }) xs v tt refl h
rest_reaches (rule ∷ rules) dialog d v xs h =
    let first : Dialog = record dialog { rules = rule ∷ [] } in
    let all : Dialog = record dialog { rules = rule ∷ rules } in
    one (stages.InViews (record dialog { rules = [] }) 0) d (declared.Rule rule) (stages.InRules first) d (map (λ rule. declared.Rule rule) rules ++ (declared.End ∷ xs)) v tt refl
    (rules_reach rules first d v (declared.End ∷ xs)
    (one (stages.InRules all) d declared.End stages.Between (record d { dialogs = d.dialogs ++ all ∷ [] }) xs v tt refl h))

dialog_reach : (dialog : Dialog) (d v : Desc) (xs : List Declaration) → IsDialog dialog → Reaches stages.Between (record d { dialogs = d.dialogs ++ dialog ∷ [] }) xs v → Reaches stages.Between d (dialog_declarations dialog ++ xs) v
dialog_reach dialog d v xs is h =
    let opened : Dialog = record dialog { views = []; rules = [] } in
    let rules = map (λ rule. declared.Rule rule) dialog.rules in
    let lines : (view_declarations 0 dialog.views ++ (rules ++ declared.End ∷ [])) ++ xs ≡ view_declarations 0 dialog.views ++ (rules ++ (declared.End ∷ xs)) = append_assoc (view_declarations 0 dialog.views) (rules ++ declared.End ∷ []) xs ∙ ap (λ l. view_declarations 0 dialog.views ++ l) (append_assoc rules (declared.End ∷ []) xs) in
    along stages.Between d v (dialog_declarations dialog ++ xs) (declared.Node dialog.node ∷ (view_declarations 0 dialog.views ++ (rules ++ (declared.End ∷ xs)))) (ap (λ l. declared.Node dialog.node ∷ l) lines)
    (one stages.Between d (declared.Node dialog.node) (stages.InViews opened 0) d (view_declarations 0 dialog.views ++ (rules ++ (declared.End ∷ xs))) v is.depth (opens_dialog d dialog.node opened refl refl refl)
    (views_reach dialog.views 0 opened d v (rules ++ (declared.End ∷ xs)) is.views
    (rest_reaches dialog.rules dialog d v xs h)))

dialogs_reach : (dialogs : List Dialog) (d v : Desc) → AllByRecursion IsDialog dialogs → v ≡ record d { dialogs = d.dialogs ++ dialogs } → Reaches stages.Between d (flat_map dialog_declarations dialogs) v
dialogs_reach [] d v are e = λ line none. ap (λ l. Some (record d { dialogs = l })) (sym (append-nil d.dialogs)) ∙ ap (λ x. Some x) (sym e)
dialogs_reach (dialog ∷ dialogs) d v are e =
    let longer : Desc = record d { dialogs = d.dialogs ++ dialog ∷ [] } in
    dialog_reach dialog d v (flat_map dialog_declarations dialogs) are.0
    (dialogs_reach dialogs longer v are.1 (e ∙ ap (λ l. record d { dialogs = l }) (sym (append_assoc d.dialogs (dialog ∷ []) dialogs))))

-- ---- the whole description

abbrev sized : Version → ℤ → ℤ → Option (List ℕ) → Desc
sized version width height start = record { version = version; width = width; height = height; start = start; menus = []; status = []; windows = []; dialogs = [] }

start_reach : (version : Version) (width height : ℤ) (start : Option (List ℕ)) (v : Desc) (xs : List Declaration) → Reaches stages.Between (sized version width height start) xs v → Reaches stages.Between (sized version width height None) (start_declarations start ++ xs) v
start_reach version width height None v xs h = h
start_reach version width height (Some name) v xs h = one stages.Between (sized version width height None) (declared.Start name) stages.Between (sized version width height (Some name)) xs v tt refl h

-- what is spelled so is read
pub spelled_given : (v : Desc) → IsDescription v → given nothing_read (word_lines v) ≡ Some v
spelled_given v is =
    let with_menus : Desc = record (sized v.version v.width v.height v.start) { menus = v.menus } in
    let with_status : Desc = record with_menus { status = v.status } in
    let with_windows : Desc = record with_status { windows = v.windows } in
    let dialogs = flat_map dialog_declarations v.dialogs in
    let windows = flat_map window_declarations v.windows ++ dialogs in
    let status = map (λ item. declared.Status item) v.status ++ windows in
    let menus = flat_map menu_declarations v.menus ++ status in
    let parts = start_declarations v.start ++ menus in
    let all : Reaches stages.Version nothing_read.desc (declarations_of v) v =
    one stages.Version nothing_read.desc (declared.Version v.version) stages.Screen (record nothing_read.desc { version = v.version }) (declared.Screen v.width v.height ∷ parts) v tt refl
    (one stages.Screen (record nothing_read.desc { version = v.version }) (declared.Screen v.width v.height) stages.Between (sized v.version v.width v.height None) parts v tt refl
    (start_reach v.version v.width v.height v.start v menus
    (menus_reach v.menus (sized v.version v.width v.height v.start) v status is.menus refl
    (status_reach v.status with_menus v windows refl
    (windows_reach v.windows with_status v dialogs is.windows refl
    (dialogs_reach v.dialogs with_windows v is.dialogs refl)))))) in
    all 1 is.declarations
