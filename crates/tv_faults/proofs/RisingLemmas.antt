-- The lines of a description that can be spelled rise.
use Rattle.std.proofs.Common.{◌≡◌, ℕ, zero, suc, ◌+◌, ◌-◌, ◌<◌, ◌≤◌, Option, Some, None, List, [], ◌∷◌, ◌++◌, append_assoc, get_or, map, flat_map, replicate, refl, ap, ◌∙◌, arith}
use Rattle.std.specs.List.{All, AllPairs}
use Rattle.std.proofs.lemmas.List.Elements.{All-nil, All-cons, All-head, All-tail, All-weaker}
use Rattle.std.proofs.lemmas.List.Kept.{AllPairs-cons}
use Rattle.std.proofs.lemmas.Grind.{flat_map-append}
use Rattle.tv_model.specs.declared.node.Node.{Node}
use Rattle.tv_model.specs.declared.desc.Desc.{Desc}
use Rattle.tv_model.specs.declared.desc.Dialog.{Dialog}
use Rattle.tv_model.specs.declared.desc.Menu.{Menu}
use Rattle.tv_model.specs.declared.desc.Window.{Window}
use Rattle.tv_model.specs.Description.Heads.{dialog_nodes}
use Rattle.tv_model.specs.Description.Nodes.{AreRising}
use Rattle.tv_declarations.specs.declared.declaration.Declaration.{Declaration}
use Rattle.tv_declarations.specs.declared.declaration.Declaration.TheVariants as declared
use Rattle.tv_declarations.specs.Spelling.{IsDescription, dialog_declarations, ends_of_panes, menu_declarations, open_panes_after, start_declarations, view_declarations, window_declarations}
use Rattle.tv_declarations.specs.Spelling.Declarations.{AreDeclarations, IsDeclaration}
use Rattle.tv_faults.specs.Order.{AreLinesRising, lines_of_dialog, lines_of_menu, lines_of_window, start_line}
use Rattle.tv_faults.proofs.PairLemmas.{pairs_head, pairs_nil, pairs_tail}

-- the number that a declaration has of its line, where it has one
abbrev numbers : Declaration → List ℕ
numbers (declared.Menu i title) = i.0 ∷ []
numbers (declared.Item item) = item.id.0 ∷ []
numbers (declared.Status item) = item.id.0 ∷ []
numbers (declared.Node node) = node.id.0 ∷ []
numbers (declared.Rule rule) = rule.id.0 ∷ []
numbers _ = []

abbrev all_numbers : List Declaration → List ℕ
all_numbers ds = flat_map numbers ds

-- ---- numbers of declarations on consecutive lines rise

record Rises (least : ℕ) (lines : List ℕ) : Type 0 where
  above : All (λ line. least ≤ line) lines
  rising : AllPairs (λ line later. line < later) lines

rises_nil : (least : ℕ) → Rises least []
rises_nil least = record { above = All-nil (λ line. least ≤ line); rising = pairs_nil (λ line later. line < later) }

lower : (least : ℕ) (lines : List ℕ) → Rises (least + 1) lines → Rises least lines
lower least lines r = record {
  above = All-weaker (λ line. least + 1 ≤ line) (λ line. least ≤ line) (λ line le. omega (arith, le)) lines r.above;
  rising = r.rising;
}

rises_cons : (line least : ℕ) (lines : List ℕ) → line ≡ least → Rises (least + 1) lines → Rises least (line ∷ lines)
rises_cons line least lines e r = record {
  above = All-cons (λ l. least ≤ l) line lines (omega (arith, e)) (lower least lines r).above;
  rising = AllPairs-cons (λ l later. l < later) line lines (All-weaker (λ l. least + 1 ≤ l) (λ l. line < l) (λ l le. omega (arith, le, e)) lines r.above) r.rising;
}

rises_next : (line : ℕ) (d : Declaration) (lines : List ℕ) → IsDeclaration line d → Rises (line + 1) lines → Rises line (numbers d ++ lines)
rises_next line (declared.Version version) lines is r = lower line lines r
rises_next line (declared.Screen width height) lines is r = lower line lines r
rises_next line (declared.Start name) lines is r = lower line lines r
rises_next line (declared.Menu i title) lines is r = rises_cons i.0 line lines is.0 r
rises_next line (declared.Item item) lines is r = rises_cons item.id.0 line lines is.0 r
rises_next line (declared.Status item) lines is r = rises_cons item.id.0 line lines is.0 r
rises_next line (declared.Node node) lines is r = rises_cons node.id.0 line lines is.id r
rises_next line (declared.Rule rule) lines is r = rises_cons rule.id.0 line lines is.0 r
rises_next line declared.End lines is r = lower line lines r

numbers_rise : (line : ℕ) (ds : List Declaration) → AreDeclarations line ds → Rises line (all_numbers ds)
numbers_rise line [] are = rises_nil line
numbers_rise line (d ∷ ds) are = rises_next line d (all_numbers ds) are.0 (numbers_rise (line + 1) ds are.1)

-- ---- they are the lines of the description

-- of declarations that each have a number
numbers_each : {A : Type 0} (declares : A → Declaration) (line : A → ℕ) → ((a : A) → numbers (declares a) ≡ line a ∷ []) → (xs : List A) → all_numbers (map declares xs) ≡ map line xs
numbers_each declares line has [] = refl
numbers_each declares line has (x ∷ xs) = rw (has x, numbers_each declares line has xs) refl

-- and of those before an end
numbers_ended : {A : Type 0} (declares : A → Declaration) (line : A → ℕ) → ((a : A) → numbers (declares a) ≡ line a ∷ []) → (xs : List A) → all_numbers (map declares xs ++ declared.End ∷ []) ≡ map line xs
numbers_ended declares line has [] = refl
numbers_ended declares line has (x ∷ xs) = rw (has x, numbers_ended declares line has xs) refl

numbers_ends : (n : ℕ) (ds : List Declaration) → all_numbers (replicate n declared.End ++ ds) ≡ all_numbers ds
numbers_ends zero ds = refl
numbers_ends (suc n) ds = numbers_ends n ds

numbers_views : (panes : ℕ) (views : List Node) (ds : List Declaration) → all_numbers (view_declarations panes views ++ ds) ≡ map (λ node. node.id.0) views ++ all_numbers ds
numbers_views panes [] ds = numbers_ends (panes - 0) ds
numbers_views panes (view ∷ views) ds =
    ap all_numbers (append_assoc (ends_of_panes panes view.depth) (declared.Node view ∷ view_declarations (open_panes_after view) views) ds)
    ∙ numbers_ends (panes - view.depth) (declared.Node view ∷ (view_declarations (open_panes_after view) views ++ ds))
    ∙ ap (λ lines. view.id.0 ∷ lines) (numbers_views (open_panes_after view) views ds)

menu_numbers : (menu : Menu) → all_numbers (menu_declarations menu) ≡ lines_of_menu menu
menu_numbers menu = ap (λ lines. menu.id.0 ∷ lines) (numbers_ended declared.Item (λ item. item.id.0) (λ item. refl) menu.items)

window_numbers : (window : Window) → all_numbers (window_declarations window) ≡ lines_of_window window
window_numbers window = ap (λ lines. window.node.id.0 ∷ lines) (numbers_ended declared.Node (λ node. node.id.0) (λ node. refl) window.views)

dialog_numbers : (dialog : Dialog) → all_numbers (dialog_declarations dialog) ≡ lines_of_dialog dialog
dialog_numbers dialog =
    ap (λ lines. dialog.node.id.0 ∷ lines)
    (numbers_views 0 dialog.views (map (λ rule. declared.Rule rule) dialog.rules ++ declared.End ∷ [])
    ∙ ap (λ lines. map (λ node. node.id.0) dialog.views ++ lines) (numbers_ended declared.Rule (λ rule. rule.id.0) (λ rule. refl) dialog.rules))

numbers_flat : {A : Type 0} (declares : A → List Declaration) (lines : A → List ℕ) → ((a : A) → all_numbers (declares a) ≡ lines a) → (xs : List A) → all_numbers (flat_map declares xs) ≡ flat_map lines xs
numbers_flat declares lines has [] = refl
numbers_flat declares lines has (x ∷ xs) = flat_map-append numbers (declares x) (flat_map declares xs) ∙ rw (has x, numbers_flat declares lines has xs) refl

-- the lines after the start
abbrev lines_after_start : Desc → List ℕ
lines_after_start d =
    flat_map lines_of_menu d.menus ++ (map (λ item. item.id.0) d.status ++ (flat_map lines_of_window d.windows ++ flat_map lines_of_dialog d.dialogs))

abbrev after_start : Desc → List Declaration
after_start d =
    flat_map menu_declarations d.menus
    ++ (map (λ item. declared.Status item) d.status
    ++ (flat_map window_declarations d.windows
    ++ flat_map dialog_declarations d.dialogs))

numbers_after_start : (d : Desc) → all_numbers (after_start d) ≡ lines_after_start d
numbers_after_start d =
    flat_map-append numbers (flat_map menu_declarations d.menus) _
    ∙ rw (numbers_flat menu_declarations lines_of_menu menu_numbers d.menus) (ap (λ lines. flat_map lines_of_menu d.menus ++ lines)
    (flat_map-append numbers (map (λ item. declared.Status item) d.status) _
    ∙ rw (numbers_each declared.Status (λ item. item.id.0) (λ item. refl) d.status) (ap (λ lines. map (λ item. item.id.0) d.status ++ lines)
    (flat_map-append numbers (flat_map window_declarations d.windows) _
    ∙ rw (numbers_flat window_declarations lines_of_window window_numbers d.windows, numbers_flat dialog_declarations lines_of_dialog dialog_numbers d.dialogs) refl))))

-- the screen stands on the second line, and the start on the third
with_start : (start : Option (List ℕ)) (ds : List Declaration) → AreDeclarations 3 (start_declarations start ++ ds) → Rises 2 (2 ∷ (start_line start ++ all_numbers ds))
with_start None ds are = rises_cons 2 2 (all_numbers ds) refl (numbers_rise 3 ds are)
with_start (Some name) ds are = rises_cons 2 2 (3 ∷ all_numbers ds) refl (rises_cons 3 3 (all_numbers ds) refl (numbers_rise 4 ds are.1))

pub rising_lines : (d : Desc) → IsDescription d → AreLinesRising d
rising_lines d is =
    let rise : Rises 2 (2 ∷ (start_line d.start ++ all_numbers (after_start d))) = with_start d.start (after_start d) is.declarations.1.1 in
    rw (numbers_after_start d) at rise.rising

-- ---- the lines of each dialog and its views rise

all_left : {A : Type 0} (P : A → Type 0) (xs ys : List A) → All P (xs ++ ys) → All P xs
all_left P [] ys all = All-nil P
all_left P (x ∷ xs) ys all = All-cons P x xs (All-head P x (xs ++ ys) all) (all_left P xs ys (All-tail P x (xs ++ ys) all))

all_unmap : {A B : Type 0} (P : B → Type 0) (f : A → B) (xs : List A) → All P (map f xs) → All (λ x. P (f x)) xs
all_unmap P f [] all = All-nil (λ x. P (f x))
all_unmap P f (x ∷ xs) all = All-cons (λ x. P (f x)) x xs (All-head P (f x) (map f xs) all) (all_unmap P f xs (All-tail P (f x) (map f xs) all))

pairs_left : {A : Type 0} (R : A → A → Type 0) (xs ys : List A) → AllPairs R (xs ++ ys) → AllPairs R xs
pairs_left R [] ys all = pairs_nil R
pairs_left R (x ∷ xs) ys all = AllPairs-cons R x xs (all_left (R x) xs ys (pairs_head R x (xs ++ ys) all)) (pairs_left R xs ys (pairs_tail R x (xs ++ ys) all))

pairs_right : {A : Type 0} (R : A → A → Type 0) (xs ys : List A) → AllPairs R (xs ++ ys) → AllPairs R ys
pairs_right R [] ys all = all
pairs_right R (x ∷ xs) ys all = pairs_right R xs ys (pairs_tail R x (xs ++ ys) all)

pairs_unmap : {A B : Type 0} (R : B → B → Type 0) (f : A → B) (xs : List A) → AllPairs R (map f xs) → AllPairs (λ x y. R (f x) (f y)) xs
pairs_unmap R f [] all = pairs_nil (λ x y. R (f x) (f y))
pairs_unmap R f (x ∷ xs) all =
    AllPairs-cons (λ x y. R (f x) (f y)) x xs (all_unmap (R (f x)) f xs (pairs_head R (f x) (map f xs) all)) (pairs_unmap R f xs (pairs_tail R (f x) (map f xs) all))

abbrev IsEarlier : ℕ → ℕ → Type 0
IsEarlier line later = line < later

rising_nodes : (dialogs : List Dialog) → AllPairs IsEarlier (flat_map lines_of_dialog dialogs) → All (λ dialog. AreRising (dialog_nodes dialog)) dialogs
rising_nodes [] rising = All-nil (λ dialog. AreRising (dialog_nodes dialog))
rising_nodes (dialog ∷ dialogs) rising =
    let own : AllPairs IsEarlier (lines_of_dialog dialog) = pairs_left IsEarlier (lines_of_dialog dialog) (flat_map lines_of_dialog dialogs) rising in
    let nodes : AllPairs IsEarlier (map (λ node. node.id.0) (dialog_nodes dialog)) =
    pairs_left IsEarlier (map (λ node. node.id.0) (dialog_nodes dialog)) (map (λ rule. rule.id.0) dialog.rules) own in
    All-cons (λ dialog. AreRising (dialog_nodes dialog)) dialog dialogs (pairs_unmap IsEarlier (λ node. node.id.0) (dialog_nodes dialog) nodes)
    (rising_nodes dialogs (pairs_right IsEarlier (lines_of_dialog dialog) (flat_map lines_of_dialog dialogs) rising))

-- each dialog and its views
pub nodes_rise : (d : Desc) → IsDescription d → All (λ dialog. AreRising (dialog_nodes dialog)) d.dialogs
nodes_rise d is =
    rising_nodes d.dialogs
    (pairs_right IsEarlier (flat_map lines_of_window d.windows) _
    (pairs_right IsEarlier (map (λ item. item.id.0) d.status) _
    (pairs_right IsEarlier (flat_map lines_of_menu d.menus) _
    (pairs_right IsEarlier (2 ∷ start_line d.start) _ (rising_lines d is)))))

-- its views alone
pub views_rise : (d : Desc) → IsDescription d → All (λ dialog. AreRising dialog.views) d.dialogs
views_rise d is k dialog less =
    let own : Dialog = get_or d.dialogs k dialog in
    pairs_tail (λ node later. node.id.0 < later.id.0) own.node own.views (nodes_rise d is k dialog less)
