-- What the names in the lines of a log mean.
use Rattle.std.proofs.Common.{◌≡◌, ℕ, zero, suc, ◌<◌, ◌&&◌, Bool, true, false, List, [], ◌∷◌, ◌++◌, length, map, flat_map, find, get_or, Some, None, IsTrue, refl, sym, ap, subst, ◌∙◌, append_assoc, All, AllPairs, arith}
use Rattle.std.specs.Prelude.{cond, nat_lt, position, slice_get, unwrap_or}
use Rattle.std.specs.List.{position_or_len}
use Rattle.std.proofs.lemmas.Bool.{false≢true, false_from_ne_true}
use Rattle.std.proofs.lemmas.Bool.Decides.{nat_tests}
use Rattle.std.proofs.lemmas.List.{map-append}
use Rattle.std.proofs.lemmas.List.Elements.{All-append, All-cons, All-head, All-nil, All-tail}
use Rattle.std.proofs.lemmas.List.Kept.{AllPairs-cons}
use Rattle.std.proofs.lemmas.List.Sums.{position_or_len_is}
use Rattle.std.proofs.lemmas.Option.{get_or_from_slice_get, slice_get_within}
use Rattle.std.proofs.lemmas.Slice.Eq.{bytes_eq-Decides}
use Rattle.tv_declarations.specs.Spelling.{IsDescription}
use Rattle.tv_faults.proofs.NameLemmas.{gives_decides}
use Rattle.tv_faults.proofs.PairLemmas.{pairs_head, pairs_nil, pairs_tail}
use Rattle.tv_faults.proofs.RisingLemmas.{rising_lines}
use Rattle.tv_faults.specs.Order.{lines_of_dialog, lines_of_menu, lines_of_window, start_line}
use Rattle.tv_faults.specs.Sound.Names.{HaveOtherNames}
use Rattle.tv_machine.proofs.ListLemmas.{find-member}
use Rattle.tv_machine.specs.Safe.{is_field}
use Rattle.tv_model.specs.declared.desc.Desc.{Desc}
use Rattle.tv_model.specs.declared.desc.Dialog.{Dialog}
use Rattle.tv_model.specs.declared.desc.Window.{Window}
use Rattle.tv_model.specs.declared.kind.Kind.{Kind}
use Rattle.tv_model.specs.declared.kind.Kind.TheVariants as kinds
use Rattle.tv_model.specs.declared.node.Node.{Node}
use Rattle.tv_model.specs.Description.Heads.{all_nodes, dialog_head, dialog_head_of, dialog_nodes, is_named, window_nodes}
use Rattle.tv_model.specs.Description.Names.{gives_name}
use Rattle.tv_model.specs.Description.Nodes.{AreRising, is_dialog, name_of, node_of}
use Rattle.tv_model.specs.Log.LogText.{bytes_of, name_of_node, name_text}
use Rattle.tv_answers.specs.ReadLogs.{is_field_named}
use Rattle.tv_answers.proofs.OpeningLemmas.{apart, view_id}

-- ---- pairs of a list of which a part is left out

abbrev IsEarlier : ℕ → ℕ → Type 0
IsEarlier line later = line < later

pub all_right : {A : Type 0} (P : A → Type 0) (xs ys : List A) → All P (xs ++ ys) → All P ys
all_right P [] ys all = all
all_right P (x ∷ xs) ys all = all_right P xs ys (All-tail P x (xs ++ ys) all)

pub all_left : {A : Type 0} (P : A → Type 0) (xs ys : List A) → All P (xs ++ ys) → All P xs
all_left P [] ys all = All-nil P
all_left P (x ∷ xs) ys all = All-cons P x xs (All-head P x (xs ++ ys) all) (all_left P xs ys (All-tail P x (xs ++ ys) all))

pub pairs_right : {A : Type 0} (R : A → A → Type 0) (xs ys : List A) → AllPairs R (xs ++ ys) → AllPairs R ys
pairs_right R [] ys all = all
pairs_right R (x ∷ xs) ys all = pairs_right R xs ys (pairs_tail R x (xs ++ ys) all)

all_without : {A : Type 0} (P : A → Type 0) (xs ys zs : List A) → All P (xs ++ (ys ++ zs)) → All P (xs ++ zs)
all_without P xs ys zs all = All-append P xs zs (all_left P xs (ys ++ zs) all) (all_right P ys zs (all_right P xs (ys ++ zs) all))

pairs_without : {A : Type 0} (R : A → A → Type 0) (xs ys zs : List A) → AllPairs R (xs ++ (ys ++ zs)) → AllPairs R (xs ++ zs)
pairs_without R [] ys zs all = pairs_right R ys zs all
pairs_without R (x ∷ xs) ys zs all =
    AllPairs-cons R x (xs ++ zs) (all_without (R x) xs ys zs (pairs_head R x (xs ++ (ys ++ zs)) all)) (pairs_without R xs ys zs (pairs_tail R x (xs ++ (ys ++ zs)) all))

pub all_unmap : {A B : Type 0} (P : B → Type 0) (f : A → B) (xs : List A) → All P (map f xs) → All (λ x. P (f x)) xs
all_unmap P f [] all = All-nil (λ x. P (f x))
all_unmap P f (x ∷ xs) all = All-cons (λ y. P (f y)) x xs (All-head P (f x) (map f xs) all) (all_unmap P f xs (All-tail P (f x) (map f xs) all))

pub pairs_unmap : {A B : Type 0} (R : B → B → Type 0) (f : A → B) (xs : List A) → AllPairs R (map f xs) → AllPairs (λ x y. R (f x) (f y)) xs
pairs_unmap R f [] all = pairs_nil (λ x y. R (f x) (f y))
pairs_unmap R f (x ∷ xs) all =
    AllPairs-cons (λ x y. R (f x) (f y)) x xs (all_unmap (R (f x)) f xs (pairs_head R (f x) (map f xs) all)) (pairs_unmap R f xs (pairs_tail R (f x) (map f xs) all))

-- ---- all nodes of a description have lines of their own

line_of_node : Node → ℕ
line_of_node node = node.id.0

window_lines : (windows : List Window) → flat_map lines_of_window windows ≡ map (λ node. node.id.0) (flat_map window_nodes windows)
window_lines [] = refl
window_lines (window ∷ windows) =
    ap (λ lines. lines_of_window window ++ lines) (window_lines windows) ∙ sym (map-append (λ (node : Node). node.id.0) (window_nodes window) (flat_map window_nodes windows))

-- without the lines of rules
without_rules : (dialogs : List Dialog) (before : List Node) → AllPairs IsEarlier (map (λ node. node.id.0) before ++ flat_map lines_of_dialog dialogs) → AllPairs IsEarlier (map (λ node. node.id.0) (before ++ flat_map dialog_nodes dialogs))
without_rules [] before pairs = subst (AllPairs IsEarlier) (sym (map-append (λ (node : Node). node.id.0) before [])) pairs
without_rules (dialog ∷ dialogs) before pairs =
    let own : List ℕ = map (λ (node : Node). node.id.0) (dialog_nodes dialog) in
    let rules : List ℕ = map (λ rule. rule.id.0) dialog.rules in
    let first : List ℕ = map (λ (node : Node). node.id.0) before in
    let rest : List ℕ = flat_map lines_of_dialog dialogs in
    let spread : first ++ ((own ++ rules) ++ rest) ≡ (first ++ own) ++ (rules ++ rest) =
    ap (λ lines. first ++ lines) (append_assoc own rules rest) ∙ sym (append_assoc first own (rules ++ rest)) in
    let less : AllPairs IsEarlier ((first ++ own) ++ rest) = pairs_without IsEarlier (first ++ own) rules rest (subst (AllPairs IsEarlier) spread pairs) in
    let joined : (first ++ own) ++ rest ≡ map (λ (node : Node). node.id.0) (before ++ dialog_nodes dialog) ++ rest =
    ap (λ lines. lines ++ rest) (sym (map-append (λ (node : Node). node.id.0) before (dialog_nodes dialog))) in
    subst (λ nodes. AllPairs IsEarlier (map (λ (node : Node). node.id.0) nodes)) (append_assoc before (dialog_nodes dialog) (flat_map dialog_nodes dialogs))
    (without_rules dialogs (before ++ dialog_nodes dialog) (subst (AllPairs IsEarlier) joined less))

module _ (d : Desc) (is : IsDescription d) where
  all_rise : AreRising (all_nodes d)
  all_rise =
      let frames : AllPairs IsEarlier (flat_map lines_of_window d.windows ++ flat_map lines_of_dialog d.dialogs) =
      pairs_right IsEarlier (map (λ item. item.id.0) d.status) _ (pairs_right IsEarlier (flat_map lines_of_menu d.menus) _ (pairs_right IsEarlier (2 ∷ start_line d.start) _ (rising_lines d is))) in
      pairs_unmap IsEarlier (λ node. node.id.0) (all_nodes d)
      (without_rules d.dialogs (flat_map window_nodes d.windows) (subst (λ lines. AllPairs IsEarlier (lines ++ flat_map lines_of_dialog d.dialogs)) (window_lines d.windows) frames))

  -- each is found by its line
  pub nodes_found : All (λ node. node_of (all_nodes d) node.id ≡ Some node) (all_nodes d)
  nodes_found = find-member view_id (all_nodes d) (apart (all_nodes d) all_rise)

-- what is so of all nodes is so of each dialog and its views
dialog_all : (P : Node → Type 0) (dialogs : List Dialog) (place : ℕ) (dialog : Dialog) → All P (flat_map dialog_nodes dialogs) → slice_get dialogs place ≡ Some dialog → All P (dialog_nodes dialog)
dialog_all P [] place dialog all there = absurd cc
dialog_all P (first ∷ dialogs) zero dialog all there =
    let same : first ≡ dialog = cc in
    subst (λ (x : Dialog). All P (dialog_nodes x)) same (all_left P (dialog_nodes first) (flat_map dialog_nodes dialogs) all)
dialog_all P (first ∷ dialogs) (suc place) dialog all there = dialog_all P dialogs place dialog (all_right P (dialog_nodes first) (flat_map dialog_nodes dialogs) all) there

pub nodes_at : (P : Node → Type 0) (d : Desc) (place : ℕ) (dialog : Dialog) → All P (all_nodes d) → slice_get d.dialogs place ≡ Some dialog → All P (dialog_nodes dialog)
nodes_at P d place dialog all there = dialog_all P d.dialogs place dialog (all_right P (flat_map window_nodes d.windows) (flat_map dialog_nodes d.dialogs) all) there

pub own_found : (d : Desc) → IsDescription d → (place : ℕ) (dialog : Dialog) → slice_get d.dialogs place ≡ Some dialog → All (λ node. node_of (all_nodes d) node.id ≡ Some node) (dialog_nodes dialog)
own_found d is place dialog there = nodes_at (λ node. node_of (all_nodes d) node.id ≡ Some node) d place dialog (nodes_found d is) there

-- its name is what a log has
pub name_logged : (d : Desc) (node : Node) (name : List ℕ) → node_of (all_nodes d) node.id ≡ Some node → name_of node.kind ≡ Some name → name_text d node.id ≡ bytes_of name
name_logged d node name found named = ap (λ o. bytes_of (name_of_node o)) found ∙ ap (λ o. bytes_of (unwrap_or o [])) named

-- ---- dialogs by their names

pub head_named : (kind : Kind) (own : IsTrue (is_dialog kind)) → name_of kind ≡ Some (dialog_head_of kind own).name
head_named (kinds.Dialog head) own = refl
head_named _ own = absurd (false≢true own)

-- a dialog is the first of its name
pub place_found : (dialogs : List Dialog) (place : ℕ) (dialog : Dialog) → AllPairs HaveOtherNames (map (λ own. own.node) dialogs) → slice_get dialogs place ≡ Some dialog
    → position (is_named (dialog_head dialog).name) dialogs ≡ Some place
place_found dialogs place dialog pairs there =
    let name = (dialog_head dialog).name in
    let within : place < length dialogs = slice_get_within dialogs place dialog there in
    let here : get_or dialogs place dialog ≡ dialog = get_or_from_slice_get dialogs place dialog dialog there in
    let at : position_or_len (is_named name) dialogs ≡ place =
    position_or_len_is (is_named name) dialogs place dialog (omega (arith, within)) (λ k less. others dialogs place dialog within here pairs k less)
    (λ more. ap (is_named name) here ∙ (bytes_eq-Decides name name).1 refl) in
    ap (λ n. cond (nat_lt n (length dialogs)) (Some n) None) at ∙ ap (λ b. cond b (Some place) None) (lt place (length dialogs) within)
  where
    lt : (a b : ℕ) → a < b → nat_lt a b ≡ true
    lt a b h = grind (arith, nat_tests, h)

    others : (ds : List Dialog) (place : ℕ) (own : Dialog) → place < length ds → get_or ds place own ≡ own → AllPairs HaveOtherNames (map (λ x. x.node) ds) → (k : ℕ) → k < place → is_named (dialog_head own).name (get_or ds k own) ≡ false
    others ds place own within here pairs k less =
        let other : Dialog = get_or ds k own in
        let apart_names : HaveOtherNames other.node (get_or ds place own).node = pairs_unmap HaveOtherNames (λ (x : Dialog). x.node) ds pairs k place own less within in
        false_from_ne_true (is_named (dialog_head own).name other)
        (λ same.
        let named : name_of other.node.kind ≡ Some (dialog_head own).name = head_named other.node.kind other.own_kind ∙ ap (λ (n : List ℕ). Some n) ((bytes_eq-Decides (dialog_head other).name (dialog_head own).name).0 same) in
        apart_names (dialog_head own).name named (ap (λ (x : Dialog). name_of x.node.kind) here ∙ head_named own.node.kind own.own_kind))

-- ---- fields by their names

abbrev pub FieldFound : List Node → Node → Type 0
FieldFound views view = is_field view.kind ≡ true → (name : List ℕ) → name_of view.kind ≡ Some name → find (is_field_named name) views ≡ Some view

pub fields_found : (views : List Node) → AllPairs HaveOtherNames views → All (FieldFound views) views
fields_found [] pairs = All-nil (FieldFound [])
fields_found (view ∷ views) pairs =
    All-cons (FieldFound (view ∷ views)) view views
    (λ field name named. ap (λ b. cond b (Some view) (find (is_field_named name) views)) (both_true (is_field view.kind) (gives_name name view) field ((gives_decides name view).1 named)))
    (λ k x less field name named.
    let other : Node = get_or views k x in
    ap (λ b. cond b (Some view) (find (is_field_named name) views))
    (second_false (is_field view.kind) (gives_name name view)
    (false_from_ne_true (gives_name name view) (λ gives. pairs_head HaveOtherNames view views pairs k x less name ((gives_decides name view).0 gives) named)))
    ∙ fields_found views (pairs_tail HaveOtherNames view views pairs) k x less field name named)
  where
    both_true : (a b : Bool) → a ≡ true → b ≡ true → (a && b) ≡ true
    both_true a b e f = rw (e, f) refl

    second_false : (a b : Bool) → b ≡ false → (a && b) ≡ false
    second_false true b e = e
    second_false false b e = refl
