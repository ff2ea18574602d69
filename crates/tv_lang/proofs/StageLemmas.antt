-- What is declared so far, at each stage, and what a further declaration adds to it.
use Rattle.std.proofs.Common.{◌≡◌, ◌≢◌, ℕ, ◌+◌, ◌-◌, ◌<◌, ◌≤◌, ◌==◌, nat_lt, Bool, true, false, ◌&&◌, cond, List, [], ◌∷◌, ◌++◌, length, Option, Some, None, refl, sym, ap, ◌∙◌, append_assoc, subst, arith}
use Rattle.std.specs.Prelude.{map, flat_map, is_none, IsTrue}
use Rattle.std.specs.Option.{option_map}
use Rattle.std.specs.List.{AllByRecursion}
use Rattle.std.proofs.lemmas.List.{append-nil, map-append}
use Rattle.std.proofs.lemmas.Grind.{flat_map-append, replicate_next}
use Rattle.std.proofs.lemmas.Bool.{eqb-true}
use Rattle.std.proofs.lemmas.Bool.Decides.{nat_tests}
use Rattle.tv_model.specs.declared.node.Node.{Node}
use Rattle.tv_model.specs.declared.desc.Desc.{Desc}
use Rattle.tv_model.specs.declared.desc.Dialog.{Dialog}
use Rattle.tv_model.specs.declared.desc.Menu.{Menu}
use Rattle.tv_model.specs.declared.desc.Rule.{Rule}
use Rattle.tv_model.specs.declared.desc.StatusItem.{StatusItem}
use Rattle.tv_model.specs.declared.desc.Window.{Window}
use Rattle.tv_model.specs.declared.desc.Version.{Version}
use Rattle.tv_model.specs.Description.Nodes.{is_pane, is_window, is_dialog}
use Rattle.tv_declarations.specs.declared.declaration.Declaration.{Declaration}
use Rattle.tv_declarations.specs.declared.declaration.Declaration.TheVariants as declared
use Rattle.tv_lang.specs.declared.stage.Stage.{Stage}
use Rattle.tv_lang.specs.declared.stage.Stage.TheVariants as stages
use Rattle.tv_lang.specs.Reading.Stages.{no_dialogs, no_windows, no_status, no_menus, version_taken, screen_taken, part_taken, menu_taken, window_taken, panes_after, views_taken, rules_taken, empty_window, dialog_of, opened_as, declaration_taken, nothing_read, open_panes}
use Rattle.tv_declarations.specs.Spelling.{start_declarations, menu_declarations, window_declarations, ends_of_panes, open_panes_after, view_declarations, dialog_declarations, declarations_of, is_text, is_view, HasAnItem, IsWindowText, IsWindow, AreViews, IsDialog}
use Rattle.tv_declarations.specs.Spelling.Declarations.{IsInside}

-- ---- lists

pub no_items : {A : Type 0} (xs : List A) → (length xs == 0) ≡ true → xs ≡ []
no_items [] e = refl
no_items (x ∷ xs) e = absurd (omega (arith, eqb-true (length (x ∷ xs)) 0 e))

some_items_if : {A : Type 0} (xs : List A) (b : Bool) → (length xs == 0) ≡ b → b ≡ false → xs ≢ []
some_items_if xs b eb e none = absurd (cc (eb, e, ap (λ l. length l == 0) none))

pub both : (a b : Bool) → (a && b) ≡ true → (a ≡ true) × (b ≡ true)
both true b e = (refl, e)
both false b e = absurd cc

all_end : {A : Type 0} (P : A → Type 0) (xs : List A) (x : A) → AllByRecursion P xs → P x → AllByRecursion P (xs ++ x ∷ [])
all_end P [] x are is = (is, tt)
all_end P (y ∷ ys) x are is = (are.0, all_end P ys x are.1 is)

-- one more at the end of a body
onto : {A : Type 0} (before : List A) (head : A) (longer body : List A) (x : A) → longer ≡ body ++ x ∷ [] → before ++ (head ∷ longer) ≡ (before ++ (head ∷ body)) ++ x ∷ []
onto before head longer body x e = ap (λ l. before ++ (head ∷ l)) e ∙ sym (append_assoc before (head ∷ body) (x ∷ []))

flat_end : {A B : Type 0} (f : A → List B) (xs : List A) (x : A) → flat_map f (xs ++ x ∷ []) ≡ flat_map f xs ++ f x
flat_end f xs x = flat_map-append f xs (x ∷ []) ∙ ap (λ l. flat_map f xs ++ l) (append-nil (f x))

-- ---- the parts of a description, one after the other

abbrev parts : List Declaration → List Declaration → List Declaration → List Declaration → List Declaration → List Declaration
parts a b c w d = a ++ (b ++ (c ++ (w ++ d)))

parts_end : (a b c w d x : List Declaration) → parts a b c w (d ++ x) ≡ parts a b c w d ++ x
parts_end a b c w d x =
    ap (λ z. a ++ z) (ap (λ z. b ++ z) (ap (λ z. c ++ z) (sym (append_assoc w d x)) ∙ sym (append_assoc c (w ++ d) x)) ∙ sym (append_assoc b (c ++ (w ++ d)) x)) ∙ sym (append_assoc a (b ++ (c ++ (w ++ d))) x)

abbrev whole : Desc → List Declaration → List Declaration
whole d l = declared.Version d.version ∷ declared.Screen d.width d.height ∷ l

abbrev starts : Desc → List Declaration
starts d = start_declarations d.start

abbrev menus_of : Desc → List Declaration
menus_of d = flat_map menu_declarations d.menus

abbrev status_of : Desc → List Declaration
status_of d = map (λ item. declared.Status item) d.status

abbrev windows_of : Desc → List Declaration
windows_of d = flat_map window_declarations d.windows

abbrev dialogs_of : Desc → List Declaration
dialogs_of d = flat_map dialog_declarations d.dialogs

dialog_added : (d : Desc) (x : Dialog) → declarations_of (record d { dialogs = d.dialogs ++ x ∷ [] }) ≡ declarations_of d ++ dialog_declarations x
dialog_added d x =
    ap (λ l. whole d (parts (starts d) (menus_of d) (status_of d) (windows_of d) l)) (flat_end dialog_declarations d.dialogs x)
    ∙ ap (whole d) (parts_end (starts d) (menus_of d) (status_of d) (windows_of d) (dialogs_of d) (dialog_declarations x))

window_added : (d : Desc) (x : Window) → d.dialogs ≡ [] → declarations_of (record d { windows = d.windows ++ x ∷ [] }) ≡ declarations_of d ++ window_declarations x
window_added d x e =
    rw (e, flat_end window_declarations d.windows x)
    (ap (λ z. whole d (starts d ++ (menus_of d ++ (status_of d ++ z)))) (append-nil (windows_of d ++ window_declarations x))
    ∙ ap (whole d) (parts_end (starts d) (menus_of d) (status_of d) (windows_of d) [] (window_declarations x)))

status_added : (d : Desc) (x : StatusItem) → d.windows ≡ [] → d.dialogs ≡ [] → declarations_of (record d { status = d.status ++ x ∷ [] }) ≡ declarations_of d ++ declared.Status x ∷ []
status_added d x ew e =
    rw (ew, e, map-append (λ item. declared.Status item) d.status (x ∷ []))
    (ap (λ z. whole d (starts d ++ (menus_of d ++ z))) (append-nil (status_of d ++ declared.Status x ∷ []))
    ∙ ap (whole d) (parts_end (starts d) (menus_of d) (status_of d) [] [] (declared.Status x ∷ [])))

menu_added : (d : Desc) (x : Menu) → d.status ≡ [] → d.windows ≡ [] → d.dialogs ≡ [] → declarations_of (record d { menus = d.menus ++ x ∷ [] }) ≡ declarations_of d ++ menu_declarations x
menu_added d x es ew e =
    rw (es, ew, e, flat_end menu_declarations d.menus x)
    (ap (λ z. whole d (starts d ++ z)) (append-nil (menus_of d ++ menu_declarations x))
    ∙ ap (whole d) (parts_end (starts d) (menus_of d) [] [] [] (menu_declarations x)))

start_added : (d : Desc) (name : List ℕ) → d.start ≡ None → d.menus ≡ [] → d.status ≡ [] → d.windows ≡ [] → d.dialogs ≡ [] → declarations_of (record d { start = Some name }) ≡ declarations_of d ++ declared.Start name ∷ []
start_added d name en em es ew e = rw (en, em, es, ew, e) refl

pub status_none : (d : Desc) → no_status d ≡ true → (d.status ≡ []) × (d.windows ≡ []) × (d.dialogs ≡ [])
status_none d e =
    let a = both (length d.status == 0) (no_windows d) e in
    let b = both (length d.windows == 0) (no_dialogs d) a.1 in
    (no_items d.status a.0, no_items d.windows b.0, no_items d.dialogs b.1)

windows_none : (d : Desc) → no_windows d ≡ true → (d.windows ≡ []) × (d.dialogs ≡ [])
windows_none d e = let b = both (length d.windows == 0) (no_dialogs d) e in (no_items d.windows b.0, no_items d.dialogs b.1)

-- ---- views, and the panes that they open and end

abbrev pub views_so_far : ℕ → List Node → List Declaration
views_so_far panes [] = []
views_so_far panes (n ∷ ns) = ends_of_panes panes n.depth ++ (declared.Node n ∷ views_so_far (open_panes_after n) ns)

-- the panes that are open after the last view
abbrev pub last_panes : ℕ → List Node → ℕ
last_panes panes [] = panes
last_panes panes (n ∷ ns) = last_panes (open_panes_after n) ns

all_views : (panes : ℕ) (ns : List Node) → view_declarations panes ns ≡ views_so_far panes ns ++ ends_of_panes (last_panes panes ns) 0
all_views panes [] = refl
all_views panes (n ∷ ns) =
    ap (λ l. ends_of_panes panes n.depth ++ (declared.Node n ∷ l)) (all_views (open_panes_after n) ns)
    ∙ sym (append_assoc (ends_of_panes panes n.depth) (declared.Node n ∷ views_so_far (open_panes_after n) ns) (ends_of_panes (last_panes (open_panes_after n) ns) 0))

views_more : (panes : ℕ) (ns : List Node) (v : Node) → views_so_far panes (ns ++ v ∷ []) ≡ views_so_far panes ns ++ (ends_of_panes (last_panes panes ns) v.depth ++ declared.Node v ∷ [])
views_more panes [] v = refl
views_more panes (n ∷ ns) v =
    ap (λ l. ends_of_panes panes n.depth ++ (declared.Node n ∷ l)) (views_more (open_panes_after n) ns v)
    ∙ sym (append_assoc (ends_of_panes panes n.depth) (declared.Node n ∷ views_so_far (open_panes_after n) ns) (ends_of_panes (last_panes (open_panes_after n) ns) v.depth ++ declared.Node v ∷ []))

last_more : (panes : ℕ) (ns : List Node) (v : Node) → last_panes panes (ns ++ v ∷ []) ≡ open_panes_after v
last_more panes [] v = refl
last_more panes (n ∷ ns) v = last_more (open_panes_after n) ns v

no_ends : (k : ℕ) → ends_of_panes k k ≡ []
no_ends k = let none : k - k ≡ 0 = omega arith in rw none refl

one_end : (k panes : ℕ) → 0 < panes → panes ≤ k → ends_of_panes k (panes - 1) ≡ ends_of_panes k panes ++ declared.End ∷ []
one_end k panes some within =
    let more : k - (panes - 1) ≡ (k - panes) + 1 = omega (arith, some, within) in
    rw more (replicate_next (k - panes) declared.End)

views_end : (panes : ℕ) (ns : List Node) (v : Node) → AreViews panes ns → IsTrue (is_view v.kind) → v.depth ≤ last_panes panes ns → open_panes_after v ≤ 16 → AreViews panes (ns ++ v ∷ [])
views_end panes [] v are is within few = (is, within, few, tt)
views_end panes (n ∷ ns) v (a, b, c, are) is within few = (a, b, c, views_end (open_panes_after n) ns v are is within few)

-- the lines of the views, with one more
with_view : (ns : List Node) (v : Node) → views_so_far 0 (ns ++ v ∷ []) ++ ends_of_panes (last_panes 0 (ns ++ v ∷ [])) (open_panes_after v) ≡ (views_so_far 0 ns ++ ends_of_panes (last_panes 0 ns) v.depth) ++ declared.Node v ∷ []
with_view ns v =
    ap (λ k. views_so_far 0 (ns ++ v ∷ []) ++ ends_of_panes k (open_panes_after v)) (last_more 0 ns v)
    ∙ ap (λ l. views_so_far 0 (ns ++ v ∷ []) ++ l) (no_ends (open_panes_after v))
    ∙ append-nil (views_so_far 0 (ns ++ v ∷ []))
    ∙ views_more 0 ns v
    ∙ sym (append_assoc (views_so_far 0 ns) (ends_of_panes (last_panes 0 ns) v.depth) (declared.Node v ∷ []))

-- ---- stages

-- what is declared up to a stage
abbrev pub so_far : Stage → Desc → List Declaration
so_far stages.Version d = []
so_far stages.Screen d = declared.Version d.version ∷ []
so_far stages.Between d = declarations_of d
so_far (stages.InMenu menu) d = declarations_of d ++ (declared.Menu menu.id menu.title ∷ map (λ item. declared.Item item) menu.items)
so_far (stages.InWindow window) d = declarations_of d ++ (declared.Node window.node ∷ map (λ view. declared.Node view) window.views)
so_far (stages.InViews dialog panes) d = declarations_of d ++ (declared.Node dialog.node ∷ (views_so_far 0 dialog.views ++ ends_of_panes (last_panes 0 dialog.views) panes))
so_far (stages.InRules dialog) d = declarations_of d ++ (declared.Node dialog.node ∷ (view_declarations 0 dialog.views ++ map (λ rule. declared.Rule rule) dialog.rules))

pub record HasParts (d : Desc) : Type 0 where
  pub menus : AllByRecursion HasAnItem d.menus
  pub windows : AllByRecursion IsWindow d.windows
  pub dialogs : AllByRecursion IsDialog d.dialogs

abbrev nothing : Desc
nothing = nothing_read.desc

-- nothing but the version
abbrev only_version : Version → Desc
only_version version = record nothing { version = version }

-- what holds at each stage
abbrev pub Sound : Stage → Desc → Type 0
Sound stages.Version d = d ≡ nothing
Sound stages.Screen d = d ≡ only_version d.version
Sound stages.Between d = HasParts d
Sound (stages.InMenu menu) d = HasParts d × (no_status d ≡ true)
Sound (stages.InWindow window) d = HasParts d × (no_dialogs d ≡ true) × IsWindow window
Sound (stages.InViews dialog panes) d = HasParts d × IsDialog dialog × (dialog.rules ≡ []) × (panes ≤ last_panes 0 dialog.views)
Sound (stages.InRules dialog) d = HasParts d × IsDialog dialog

-- a declaration leads soundly to this stage, and is declared there
abbrev pub Goes : Stage → Desc → Declaration → Stage × Desc → Type 0
Goes stage d declaration r = Sound r.0 r.1 × (so_far r.0 r.1 ≡ so_far stage d ++ declaration ∷ [])

goes_same : (stage : Stage) (d : Desc) (x : Declaration) (p r : Stage × Desc) → Some p ≡ Some r → Goes stage d x p → Goes stage d x r
goes_same stage d x p r e g = let same : p ≡ r = cc in subst (Goes stage d x) same g

version_step : (d : Desc) (x : Declaration) (r : Stage × Desc) → version_taken d x ≡ Some r → d ≡ nothing → Goes stages.Version d x r
version_step d (declared.Version version) r e s =
    let sound : record d { version = version } ≡ only_version version = ap {A = Desc} (λ n. record n { version = version }) s in
    goes_same stages.Version d (declared.Version version) (stages.Screen, record d { version = version }) r e (sound, refl)
version_step d (declared.Screen a b) r e s = absurd cc
version_step d (declared.Start a) r e s = absurd cc
version_step d (declared.Menu a b) r e s = absurd cc
version_step d (declared.Item a) r e s = absurd cc
version_step d (declared.Status a) r e s = absurd cc
version_step d (declared.Node a) r e s = absurd cc
version_step d (declared.Rule a) r e s = absurd cc
version_step d declared.End r e s = absurd cc

screen_step : (d : Desc) (x : Declaration) (r : Stage × Desc) → screen_taken d x ≡ Some r → d ≡ only_version d.version → Goes stages.Screen d x r
screen_step d (declared.Version a) r e s = absurd cc
screen_step d (declared.Screen w h) r e s =
    goes_same stages.Screen d (declared.Screen w h) (stages.Between, record d { width = w; height = h }) r e
    (subst (λ n. Goes stages.Screen n (declared.Screen w h) (stages.Between, record n { width = w; height = h })) (sym s) (record { menus = tt; windows = tt; dialogs = tt }, refl))
screen_step d (declared.Start a) r e s = absurd cc
screen_step d (declared.Menu a b) r e s = absurd cc
screen_step d (declared.Item a) r e s = absurd cc
screen_step d (declared.Status a) r e s = absurd cc
screen_step d (declared.Node a) r e s = absurd cc
screen_step d (declared.Rule a) r e s = absurd cc
screen_step d declared.End r e s = absurd cc

none_there : {A : Type 0} (o : Option A) → is_none o ≡ true → o ≡ None
none_there None e = refl
none_there (Some a) e = absurd cc

start_if : (d : Desc) (name : List ℕ) (r : Stage × Desc) (b : Bool) → (is_none d.start && no_menus d) ≡ b → cond b (Some (stages.Between, record d { start = Some name })) None ≡ Some r → HasParts d → Goes stages.Between d (declared.Start name) r
start_if d name r true eb e s =
    let a = both (is_none d.start) (no_menus d) eb in
    let m = both (length d.menus == 0) (no_status d) a.1 in
    let n = status_none d m.1 in
    goes_same stages.Between d (declared.Start name) (stages.Between, record d { start = Some name }) r e
    (record { menus = s.menus; windows = s.windows; dialogs = s.dialogs }, start_added d name (none_there d.start a.0) (no_items d.menus m.0) n.0 n.1 n.2)
start_if d name r false eb e s = absurd cc

menu_if : (d : Desc) (menu : Menu) (r : Stage × Desc) (b : Bool) → no_status d ≡ b → menu.items ≡ [] → cond b (Some (stages.InMenu menu, d)) None ≡ Some r → HasParts d → Goes stages.Between d (declared.Menu menu.id menu.title) r
menu_if d menu r true eb none e s = goes_same stages.Between d (declared.Menu menu.id menu.title) (stages.InMenu menu, d) r e ((s, eb), rw none refl)
menu_if d menu r false eb none e s = absurd cc

status_if : (d : Desc) (item : StatusItem) (r : Stage × Desc) (b : Bool) → no_windows d ≡ b → cond b (Some (stages.Between, record d { status = d.status ++ item ∷ [] })) None ≡ Some r → HasParts d → Goes stages.Between d (declared.Status item) r
status_if d item r true eb e s =
    let n = windows_none d eb in
    goes_same stages.Between d (declared.Status item) (stages.Between, record d { status = d.status ++ item ∷ [] }) r e
    (record { menus = s.menus; windows = s.windows; dialogs = s.dialogs }, status_added d item n.0 n.1)
status_if d item r false eb e s = absurd cc

window_if : (d : Desc) (node : Node) (is : IsTrue (is_window node.kind)) (r : Stage × Desc) (b : Bool) → no_dialogs d ≡ b → cond b (Some (stages.InWindow (empty_window node is), d)) None ≡ Some r → HasParts d → node.depth ≡ 0 → Goes stages.Between d (declared.Node node) r
window_if d node is r true eb e s inside = goes_same stages.Between d (declared.Node node) (stages.InWindow (empty_window node is), d) r e ((s, eb, record { depth = inside; views = tt }), refl)
window_if d node is r false eb e s inside = absurd cc

node_as : (d : Desc) (node : Node) (r : Stage × Desc) (window dialog : Bool) (ew : is_window node.kind ≡ window) (ed : is_dialog node.kind ≡ dialog) → opened_as d node window dialog ew ed ≡ Some r → HasParts d → node.depth ≡ 0 → Goes stages.Between d (declared.Node node) r
node_as d node r true dialog ew ed e s inside = window_if d node ew r (no_dialogs d) refl e s inside
node_as d node r false true ew ed e s inside = goes_same stages.Between d (declared.Node node) (stages.InViews (dialog_of node ed) 0, d) r e ((s, record { depth = inside; views = tt }, refl, omega arith), refl)
node_as d node r false false ew ed e s inside = absurd cc

part_step : (d : Desc) (x : Declaration) (r : Stage × Desc) → part_taken d x ≡ Some r → HasParts d → IsInside 0 x → Goes stages.Between d x r
part_step d (declared.Version a) r e s inside = absurd cc
part_step d (declared.Screen a b) r e s inside = absurd cc
part_step d (declared.Start name) r e s inside = start_if d name r (is_none d.start && no_menus d) refl e s
part_step d (declared.Menu i title) r e s inside = menu_if d (record { id = i; title = title; items = [] }) r (no_status d) refl refl e s
part_step d (declared.Item a) r e s inside = absurd cc
part_step d (declared.Status item) r e s inside = status_if d item r (no_windows d) refl e s
part_step d (declared.Node node) r e s inside = node_as d node r (is_window node.kind) (is_dialog node.kind) refl refl e s inside
part_step d (declared.Rule a) r e s inside = absurd cc
part_step d declared.End r e s inside = absurd cc

menu_end_if : (d : Desc) (menu : Menu) (r : Stage × Desc) (b : Bool) → (length menu.items == 0) ≡ b → cond b None (Some (stages.Between, record d { menus = d.menus ++ menu ∷ [] })) ≡ Some r → HasParts d → no_status d ≡ true → Goes (stages.InMenu menu) d declared.End r
menu_end_if d menu r true eb e s none = absurd cc
menu_end_if d menu r false eb e s none =
    let n = status_none d none in
    let body = map (λ item. declared.Item item) menu.items in
    goes_same (stages.InMenu menu) d declared.End (stages.Between, record d { menus = d.menus ++ menu ∷ [] }) r e (
      record { menus = all_end HasAnItem d.menus menu s.menus (some_items_if menu.items false eb refl); windows = s.windows; dialogs = s.dialogs },
      menu_added d menu n.0 n.1 n.2 ∙ onto (declarations_of d) (declared.Menu menu.id menu.title) (body ++ declared.End ∷ []) body declared.End refl,
    )

menu_step : (d : Desc) (menu : Menu) (x : Declaration) (r : Stage × Desc) → menu_taken d menu x ≡ Some r → HasParts d → no_status d ≡ true → Goes (stages.InMenu menu) d x r
menu_step d menu (declared.Version a) r e s none = absurd cc
menu_step d menu (declared.Screen a b) r e s none = absurd cc
menu_step d menu (declared.Start a) r e s none = absurd cc
menu_step d menu (declared.Menu a b) r e s none = absurd cc
menu_step d menu (declared.Item item) r e s none =
    goes_same (stages.InMenu menu) d (declared.Item item) (stages.InMenu (record menu { items = menu.items ++ item ∷ [] }), d) r e
    ((s, none), onto (declarations_of d) (declared.Menu menu.id menu.title) (map (λ item. declared.Item item) (menu.items ++ item ∷ [])) (map (λ item. declared.Item item) menu.items) (declared.Item item) (map-append (λ item. declared.Item item) menu.items (item ∷ [])))
menu_step d menu (declared.Status a) r e s none = absurd cc
menu_step d menu (declared.Node a) r e s none = absurd cc
menu_step d menu (declared.Rule a) r e s none = absurd cc
menu_step d menu declared.End r e s none = menu_end_if d menu r (length menu.items == 0) refl e s none

text_if : (d : Desc) (window : Window) (view : Node) (r : Stage × Desc) (b : Bool) → is_text view.kind ≡ b → cond b (Some (stages.InWindow (record window { views = window.views ++ view ∷ [] }), d)) None ≡ Some r → HasParts d → no_dialogs d ≡ true → IsWindow window → view.depth ≡ 0 → Goes (stages.InWindow window) d (declared.Node view) r
text_if d window view r true eb e s none is inside =
    goes_same (stages.InWindow window) d (declared.Node view) (stages.InWindow (record window { views = window.views ++ view ∷ [] }), d) r e (
      (s, none, record { depth = is.depth; views = all_end IsWindowText window.views view is.views (record { depth = inside; kind = eb }) }),
      onto (declarations_of d) (declared.Node window.node) (map (λ view. declared.Node view) (window.views ++ view ∷ [])) (map (λ view. declared.Node view) window.views) (declared.Node view) (map-append (λ view. declared.Node view) window.views (view ∷ [])),
    )
text_if d window view r false eb e s none is inside = absurd cc

window_step : (d : Desc) (window : Window) (x : Declaration) (r : Stage × Desc) → window_taken d window x ≡ Some r → HasParts d → no_dialogs d ≡ true → IsWindow window → IsInside 0 x → Goes (stages.InWindow window) d x r
window_step d window (declared.Version a) r e s none is inside = absurd cc
window_step d window (declared.Screen a b) r e s none is inside = absurd cc
window_step d window (declared.Start a) r e s none is inside = absurd cc
window_step d window (declared.Menu a b) r e s none is inside = absurd cc
window_step d window (declared.Item a) r e s none is inside = absurd cc
window_step d window (declared.Status a) r e s none is inside = absurd cc
window_step d window (declared.Node view) r e s none is inside = text_if d window view r (is_text view.kind) refl e s none is inside
window_step d window (declared.Rule a) r e s none is inside = absurd cc
window_step d window declared.End r e s none is inside =
    let body = map (λ view. declared.Node view) window.views in
    goes_same (stages.InWindow window) d declared.End (stages.Between, record d { windows = d.windows ++ window ∷ [] }) r e (
      record { menus = s.menus; windows = all_end IsWindow d.windows window s.windows is; dialogs = s.dialogs },
      window_added d window (no_items d.dialogs none) ∙ onto (declarations_of d) (declared.Node window.node) (body ++ declared.End ∷ []) body declared.End refl,
    )

-- a dialog that is ended
dialog_ended : (stage : Stage) (d : Desc) (dialog : Dialog) (body : List Declaration) → so_far stage d ≡ declarations_of d ++ (declared.Node dialog.node ∷ body) → view_declarations 0 dialog.views ++ map (λ rule. declared.Rule rule) dialog.rules ≡ body → HasParts d → IsDialog dialog → Goes stage d declared.End (stages.Between, record d { dialogs = d.dialogs ++ dialog ∷ [] })
dialog_ended stage d dialog body before eb s is =
    let lines : view_declarations 0 dialog.views ++ (map (λ rule. declared.Rule rule) dialog.rules ++ declared.End ∷ []) ≡ body ++ declared.End ∷ [] = sym (append_assoc (view_declarations 0 dialog.views) (map (λ rule. declared.Rule rule) dialog.rules) (declared.End ∷ [])) ∙ ap (λ l. l ++ declared.End ∷ []) eb in (
      record { menus = s.menus; windows = s.windows; dialogs = all_end IsDialog d.dialogs dialog s.dialogs is },
      dialog_added d dialog ∙ onto (declarations_of d) (declared.Node dialog.node) (view_declarations 0 dialog.views ++ (map (λ rule. declared.Rule rule) dialog.rules ++ declared.End ∷ [])) body declared.End lines ∙ ap (λ l. l ++ declared.End ∷ []) (sym before),
    )

-- the panes that are open after a view
panes_if : (panes : ℕ) (v : Node) (more : ℕ) (a b : Bool) → is_pane v.kind ≡ a → nat_lt panes 16 ≡ b → cond a (cond b (Some (panes + 1)) None) (Some panes) ≡ Some more → v.depth ≡ panes → panes ≤ 16 → (more ≡ open_panes_after v) × (open_panes_after v ≤ 16)
panes_if panes v more true true ea eb e inside few =
    let same : panes + 1 ≡ more = cc in
    let after : open_panes_after v ≡ panes + 1 = rw (ea, inside) refl in
    (sym same ∙ sym after, rw after (grind (arith, nat_tests)))
panes_if panes v more true false ea eb e inside few = absurd cc
panes_if panes v more false b ea eb e inside few =
    let same : panes ≡ more = cc in
    let after : open_panes_after v ≡ panes = rw (ea, inside) refl in
    (sym same ∙ sym after, rw after few)

last_few : (panes : ℕ) (ns : List Node) → panes ≤ 16 → AreViews panes ns → last_panes panes ns ≤ 16
last_few panes [] few are = few
last_few panes (n ∷ ns) few (a, b, c, are) = last_few (open_panes_after n) ns c are

view_if : (d : Desc) (dialog : Dialog) (panes : ℕ) (v : Node) (r : Stage × Desc) (b : Bool) (o : Option ℕ) → is_view v.kind ≡ b → panes_after panes v ≡ o → cond b (option_map (λ more. (stages.InViews (record dialog { views = dialog.views ++ v ∷ [] }) more, d)) o) None ≡ Some r → Sound (stages.InViews dialog panes) d → v.depth ≡ panes → Goes (stages.InViews dialog panes) d (declared.Node v) r
view_if d dialog panes v r true (Some more) eb eo e (s, is, none, within) inside =
    let views = dialog.views in
    let few : panes ≤ 16 = omega (arith, within, last_few 0 views (omega arith) is.views) in
    let after = panes_if panes v more (is_pane v.kind) (nat_lt panes 16) refl refl eo inside few in
    let below : v.depth ≤ last_panes 0 views = rw inside within in
    let last : more ≤ last_panes 0 (views ++ v ∷ []) = rw (last_more 0 views v, after.0) (omega arith) in
    let lines : views_so_far 0 (views ++ v ∷ []) ++ ends_of_panes (last_panes 0 (views ++ v ∷ [])) more ≡ (views_so_far 0 views ++ ends_of_panes (last_panes 0 views) panes) ++ declared.Node v ∷ [] = rw (after.0, ← inside) (with_view views v) in
    goes_same (stages.InViews dialog panes) d (declared.Node v) (stages.InViews (record dialog { views = views ++ v ∷ [] }) more, d) r e (
      (s, record { depth = is.depth; views = views_end 0 views v is.views eb below after.1 }, none, last),
      onto (declarations_of d) (declared.Node dialog.node) (views_so_far 0 (views ++ v ∷ []) ++ ends_of_panes (last_panes 0 (views ++ v ∷ [])) more) (views_so_far 0 views ++ ends_of_panes (last_panes 0 views) panes) (declared.Node v) lines,
    )
view_if d dialog panes v r true None eb eo e s inside = absurd cc
view_if d dialog panes v r false o eb eo e s inside = absurd cc

-- the views of a dialog whose panes have all ended
views_ended : (views : List Node) (panes : ℕ) → panes ≡ 0 → view_declarations 0 views ≡ views_so_far 0 views ++ ends_of_panes (last_panes 0 views) panes
views_ended views panes none = all_views 0 views ∙ ap (λ k. views_so_far 0 views ++ ends_of_panes (last_panes 0 views) k) (sym none)

rule_if : (d : Desc) (dialog : Dialog) (panes : ℕ) (rule : Rule) (r : Stage × Desc) (b : Bool) → panes == 0 ≡ b → cond b (Some (stages.InRules (record dialog { rules = dialog.rules ++ rule ∷ [] }), d)) None ≡ Some r → Sound (stages.InViews dialog panes) d → Goes (stages.InViews dialog panes) d (declared.Rule rule) r
rule_if d dialog panes rule r true eb e (s, is, none, within) =
    let before = view_declarations 0 dialog.views in
    let body = views_so_far 0 dialog.views ++ ends_of_panes (last_panes 0 dialog.views) panes in
    let lines : before ++ map (λ rule. declared.Rule rule) (dialog.rules ++ rule ∷ []) ≡ body ++ declared.Rule rule ∷ [] = ap (λ l. before ++ map (λ rule. declared.Rule rule) (l ++ rule ∷ [])) none ∙ ap (λ l. l ++ declared.Rule rule ∷ []) (views_ended dialog.views panes (eqb-true panes 0 eb)) in
    goes_same (stages.InViews dialog panes) d (declared.Rule rule) (stages.InRules (record dialog { rules = dialog.rules ++ rule ∷ [] }), d) r e (
      (s, record { depth = is.depth; views = is.views }),
      onto (declarations_of d) (declared.Node dialog.node) (before ++ map (λ rule. declared.Rule rule) (dialog.rules ++ rule ∷ [])) body (declared.Rule rule) lines,
    )
rule_if d dialog panes rule r false eb e s = absurd cc

above : (n : ℕ) → n == 0 ≡ false → 0 < n
above n e = grind (arith, nat_tests)

end_if : (d : Desc) (dialog : Dialog) (panes : ℕ) (r : Stage × Desc) (b : Bool) → panes == 0 ≡ b → cond b (Some (stages.Between, record d { dialogs = d.dialogs ++ dialog ∷ [] })) (Some (stages.InViews dialog (panes - 1), d)) ≡ Some r → Sound (stages.InViews dialog panes) d → Goes (stages.InViews dialog panes) d declared.End r
end_if d dialog panes r true eb e (s, is, none, within) =
    let views = dialog.views in
    let lines : view_declarations 0 views ++ map (λ rule. declared.Rule rule) dialog.rules ≡ views_so_far 0 views ++ ends_of_panes (last_panes 0 views) panes = ap (λ l. view_declarations 0 views ++ map (λ rule. declared.Rule rule) l) none ∙ append-nil (view_declarations 0 views) ∙ views_ended views panes (eqb-true panes 0 eb) in
    goes_same (stages.InViews dialog panes) d declared.End (stages.Between, record d { dialogs = d.dialogs ++ dialog ∷ [] }) r e
    (dialog_ended (stages.InViews dialog panes) d dialog (views_so_far 0 views ++ ends_of_panes (last_panes 0 views) panes) refl lines s is)
end_if d dialog panes r false eb e (s, is, none, within) =
    let views = dialog.views in
    let lines : views_so_far 0 views ++ ends_of_panes (last_panes 0 views) (panes - 1) ≡ (views_so_far 0 views ++ ends_of_panes (last_panes 0 views) panes) ++ declared.End ∷ [] = ap (λ l. views_so_far 0 views ++ l) (one_end (last_panes 0 views) panes (above panes eb) within) ∙ sym (append_assoc (views_so_far 0 views) (ends_of_panes (last_panes 0 views) panes) (declared.End ∷ [])) in
    goes_same (stages.InViews dialog panes) d declared.End (stages.InViews dialog (panes - 1), d) r e (
      (s, is, none, omega (arith, within)),
      onto (declarations_of d) (declared.Node dialog.node) (views_so_far 0 views ++ ends_of_panes (last_panes 0 views) (panes - 1)) (views_so_far 0 views ++ ends_of_panes (last_panes 0 views) panes) declared.End lines,
    )

views_step : (d : Desc) (dialog : Dialog) (panes : ℕ) (x : Declaration) (r : Stage × Desc) → views_taken d dialog panes x ≡ Some r → Sound (stages.InViews dialog panes) d → IsInside panes x → Goes (stages.InViews dialog panes) d x r
views_step d dialog panes (declared.Version a) r e s inside = absurd cc
views_step d dialog panes (declared.Screen a b) r e s inside = absurd cc
views_step d dialog panes (declared.Start a) r e s inside = absurd cc
views_step d dialog panes (declared.Menu a b) r e s inside = absurd cc
views_step d dialog panes (declared.Item a) r e s inside = absurd cc
views_step d dialog panes (declared.Status a) r e s inside = absurd cc
views_step d dialog panes (declared.Node v) r e s inside = view_if d dialog panes v r (is_view v.kind) (panes_after panes v) refl refl e s inside
views_step d dialog panes (declared.Rule rule) r e s inside = rule_if d dialog panes rule r (panes == 0) refl e s
views_step d dialog panes declared.End r e s inside = end_if d dialog panes r (panes == 0) refl e s

rules_step : (d : Desc) (dialog : Dialog) (x : Declaration) (r : Stage × Desc) → rules_taken d dialog x ≡ Some r → HasParts d → IsDialog dialog → Goes (stages.InRules dialog) d x r
rules_step d dialog (declared.Version a) r e s is = absurd cc
rules_step d dialog (declared.Screen a b) r e s is = absurd cc
rules_step d dialog (declared.Start a) r e s is = absurd cc
rules_step d dialog (declared.Menu a b) r e s is = absurd cc
rules_step d dialog (declared.Item a) r e s is = absurd cc
rules_step d dialog (declared.Status a) r e s is = absurd cc
rules_step d dialog (declared.Node a) r e s is = absurd cc
rules_step d dialog (declared.Rule rule) r e s is =
    let before = view_declarations 0 dialog.views in
    let rules = map (λ rule. declared.Rule rule) dialog.rules in
    let lines : before ++ map (λ rule. declared.Rule rule) (dialog.rules ++ rule ∷ []) ≡ (before ++ rules) ++ declared.Rule rule ∷ [] = ap (λ l. before ++ l) (map-append (λ rule. declared.Rule rule) dialog.rules (rule ∷ [])) ∙ sym (append_assoc before rules (declared.Rule rule ∷ [])) in
    goes_same (stages.InRules dialog) d (declared.Rule rule) (stages.InRules (record dialog { rules = dialog.rules ++ rule ∷ [] }), d) r e (
      (s, record { depth = is.depth; views = is.views }),
      onto (declarations_of d) (declared.Node dialog.node) (before ++ map (λ rule. declared.Rule rule) (dialog.rules ++ rule ∷ [])) (before ++ rules) (declared.Rule rule) lines,
    )
rules_step d dialog declared.End r e s is =
    goes_same (stages.InRules dialog) d declared.End (stages.Between, record d { dialogs = d.dialogs ++ dialog ∷ [] }) r e
    (dialog_ended (stages.InRules dialog) d dialog (view_declarations 0 dialog.views ++ map (λ rule. declared.Rule rule) dialog.rules) refl refl s is)

-- a declaration more
pub goes : (stage : Stage) (d : Desc) (x : Declaration) (r : Stage × Desc) → declaration_taken stage d x ≡ Some r → Sound stage d → IsInside (open_panes stage) x → Goes stage d x r
goes stages.Version d x r e s inside = version_step d x r e s
goes stages.Screen d x r e s inside = screen_step d x r e s
goes stages.Between d x r e s inside = part_step d x r e s inside
goes (stages.InMenu menu) d x r e s inside = menu_step d menu x r e s.0 s.1
goes (stages.InWindow window) d x r e s inside = window_step d window x r e s.0 s.1 s.2 inside
goes (stages.InViews dialog panes) d x r e s inside = views_step d dialog panes x r e s inside
goes (stages.InRules dialog) d x r e s inside = rules_step d dialog x r e s.0 s.1
