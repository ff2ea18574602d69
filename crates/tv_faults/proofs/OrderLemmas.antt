-- The faults stand in their order where the lines rise.
use Rattle.std.proofs.Common.{◌≡◌, ℕ, suc, ◌<◌, ◌≤◌, inl, inr, Bool, true, false, not, cond, Option, Some, None, List, [], ◌∷◌, ◌++◌, get_or, map, filter, flat_map, refl, arith}
use Rattle.std.specs.List.{All, AllPairs}
use Rattle.std.proofs.lemmas.List.Elements.{All-nil, All-cons, All-head, All-tail, All-append, All-map, All-weaker}
use Rattle.std.proofs.lemmas.List.Kept.{AllPairs-cons}
use Rattle.tv_model.specs.declared.node.Node.{Node}
use Rattle.tv_model.specs.declared.desc.Desc.{Desc}
use Rattle.tv_model.specs.declared.desc.Dialog.{Dialog}
use Rattle.tv_model.specs.declared.fault.FaultKind.{FaultKind}
use Rattle.tv_model.specs.declared.fault.FaultKind.TheVariants as faults
use Rattle.tv_model.specs.declared.command.Ends.{Ends}
use Rattle.tv_model.specs.declared.desc.Menu.{Menu}
use Rattle.tv_model.specs.Description.Commands.{no_ends}
use Rattle.tv_model.specs.Description.Heads.{dialog_head}
use Rattle.tv_model.specs.declared.desc.Rule.{Rule}
use Rattle.tv_model.specs.declared.desc.Window.{Window}
use Rattle.tv_model.specs.Description.Sharing.{sharing_rules}
use Rattle.tv_model.specs.Faults.Starts.{means_dialog}
use Rattle.tv_model.specs.Faults.Lines.{after_seen, line_if, lines_where}
use Rattle.tv_model.specs.Faults.{all_kinds, dialog_has, dialog_lines, fault_at, fault_lines, fault_number, faults_at, faults_of, head_lines, item_has, menu_has, menu_lines, rule_has, rule_lines, status_has, view_has, view_lines, window_has, window_lines}
use Rattle.tv_model.specs.Faults.Limits.{is_lawful_screen}
use Rattle.tv_faults.specs.Order.{AreInOrder, AreLinesRising, IsBefore, declaration_lines, lines_of_dialog, lines_of_menu, lines_of_window, start_line}
use Rattle.tv_faults.proofs.PairLemmas.{pairs_head, pairs_nil, pairs_tail}

-- ---- pairs

pairs_append : {A : Type 0} (R : A → A → Type 0) (xs ys : List A) → AllPairs R xs → AllPairs R ys → All (λ x. All (R x) ys) xs → AllPairs R (xs ++ ys)
pairs_append R [] ys p q across = q
pairs_append R (x ∷ xs) ys p q across =
    AllPairs-cons R x (xs ++ ys) (All-append (R x) xs ys (pairs_head R x xs p) (across 0 x (omega arith)))
    (pairs_append R xs ys (pairs_tail R x xs p) q (λ k d less. across (suc k) d (omega arith)))

pairs_map : {A B : Type 0} (R : A → A → Type 0) (S : B → B → Type 0) (f : A → B) → ((a b : A) → R a b → S (f a) (f b)) → (xs : List A) → AllPairs R xs → AllPairs S (map f xs)
pairs_map R S f keeps [] p = pairs_nil S
pairs_map R S f keeps (x ∷ xs) p =
    AllPairs-cons S (f x) (map f xs) (All-map (S (f x)) f xs (All-weaker (R x) (λ y. S (f x) (f y)) (λ y. keeps x y) xs (pairs_head R x xs p)))
    (pairs_map R S f keeps xs (pairs_tail R x xs p))

-- ---- items that were kept, in their order

data Kept {A : Type 0} : List A → List A → Type 0 where
  none : Kept [] []
  keep : {x : A} {ys xs : List A} → Kept ys xs → Kept (x ∷ ys) (x ∷ xs)
  skip : {x : A} {ys xs : List A} → Kept ys xs → Kept ys (x ∷ xs)

kept_all : {A : Type 0} (P : A → Type 0) {ys xs : List A} → Kept ys xs → All P xs → All P ys
kept_all P none all = all
kept_all P (keep {x} {ys} {xs} k) all = All-cons P x ys (All-head P x xs all) (kept_all P k (All-tail P x xs all))
kept_all P (skip {x} {ys} {xs} k) all = kept_all P k (All-tail P x xs all)

kept_pairs : {A : Type 0} (R : A → A → Type 0) {ys xs : List A} → Kept ys xs → AllPairs R xs → AllPairs R ys
kept_pairs R none all = all
kept_pairs R (keep {x} {ys} {xs} k) all = AllPairs-cons R x ys (kept_all (R x) k (pairs_head R x xs all)) (kept_pairs R k (pairs_tail R x xs all))
kept_pairs R (skip {x} {ys} {xs} k) all = kept_pairs R k (pairs_tail R x xs all)

kept_append : {A : Type 0} {ys xs : List A} (vs us : List A) → Kept ys xs → Kept vs us → Kept (ys ++ vs) (xs ++ us)
kept_append vs us none l = l
kept_append vs us (keep k) l = keep (kept_append vs us k l)
kept_append vs us (skip k) l = skip (kept_append vs us k l)

-- ---- the lines of a fault

kept_if : (b : Bool) (line : ℕ) → Kept (line_if b line) (line ∷ [])
kept_if true line = keep none
kept_if false line = skip none

kept_next : {A : Type 0} (line : A → ℕ) (b : Bool) (pair : List A × A) (rest : List (List A × A)) (lines : List ℕ) → Kept (map (λ pair. line pair.1) rest) lines
    → Kept (map (λ pair. line pair.1) (cond b (pair ∷ rest) rest)) (line pair.1 ∷ lines)
kept_next line true pair rest lines k = keep k
kept_next line false pair rest lines k = skip k

kept_where : {A : Type 0} (line : A → ℕ) (p : List A → A → Bool) (seen items : List A) → Kept (lines_where line p seen items) (map line items)
kept_where line p seen [] = none
kept_where line p seen (x ∷ xs) =
    kept_next line (p seen x) (seen, x) (filter (λ pair. p pair.0 pair.1) (after_seen (seen ++ x ∷ []) xs)) (map line xs) (kept_where line p (seen ++ x ∷ []) xs)

-- part by part, each judged after those before it
kept_parts : {A : Type 0} (f : List A → A → List ℕ) (g : A → List ℕ) → ((before : List A) (x : A) → Kept (f before x) (g x)) → (seen xs : List A)
    → Kept (flat_map (λ pair. f pair.0 pair.1) (after_seen seen xs)) (flat_map g xs)
kept_parts f g each seen [] = none
kept_parts f g each seen (x ∷ xs) =
    kept_append (flat_map (λ pair. f pair.0 pair.1) (after_seen (seen ++ x ∷ []) xs)) (flat_map g xs) (each seen x) (kept_parts f g each (seen ++ x ∷ []) xs)

kept_menu : (kind : FaultKind) (before : List Menu) (menu : Menu) → Kept (menu_lines kind before menu) (lines_of_menu menu)
kept_menu kind before menu =
    kept_append (lines_where (λ item. item.id.0) (item_has kind) [] menu.items) (map (λ item. item.id.0) menu.items)
    (kept_if (menu_has kind before menu) menu.id.0) (kept_where (λ item. item.id.0) (item_has kind) [] menu.items)

kept_views : (kind : FaultKind) (frame : Node) (ends : Ends) (sharing : Option (List Rule)) (views : List Node) → Kept (view_lines kind frame ends sharing views) (map (λ node. node.id.0) views)
kept_views kind frame ends sharing views = kept_where (λ node. node.id.0) (view_has kind frame ends sharing views) [] views

kept_window : (kind : FaultKind) (before : List Window) (window : Window) → Kept (window_lines kind before window) (lines_of_window window)
kept_window kind before window =
    kept_append (view_lines kind window.node no_ends None window.views) (map (λ node. node.id.0) window.views)
    (kept_if (window_has kind before window) window.node.id.0) (kept_views kind window.node no_ends None window.views)

kept_dialog : (kind : FaultKind) (d : Desc) (before : List Dialog) (dialog : Dialog) → Kept (dialog_lines kind d before dialog) (lines_of_dialog dialog)
kept_dialog kind d before dialog =
    kept_append (view_lines kind dialog.node (dialog_head dialog).ends (sharing_rules d.version dialog.rules) dialog.views ++ rule_lines kind dialog) (map (λ node. node.id.0) dialog.views ++ map (λ rule. rule.id.0) dialog.rules)
    (kept_if (dialog_has kind d before dialog) dialog.node.id.0)
    (kept_append (rule_lines kind dialog) (map (λ rule. rule.id.0) dialog.rules) (kept_views kind dialog.node (dialog_head dialog).ends (sharing_rules d.version dialog.rules) dialog.views)
    (kept_where (λ rule. rule.id.0) (rule_has kind dialog.views) [] dialog.rules))

abbrev Heads : FaultKind → Desc → Type 0
Heads kind d = Kept (head_lines kind d) (2 ∷ start_line d.start)

kept_none : (start : Option (List ℕ)) → Kept [] (start_line start)
kept_none None = none
kept_none (Some name) = skip none

kept_start : (d : Desc) (start : Option (List ℕ)) → d.start ≡ start → Heads faults.BadOpening d
kept_start d None e = rw e (skip none)
kept_start d (Some name) e = rw e (skip (kept_if (not (means_dialog d name)) 3))

kept_screen : (d : Desc) → (b : Bool) → Kept (line_if b 2) (2 ∷ start_line d.start)
kept_screen d true = keep (kept_none d.start)
kept_screen d false = skip (kept_none d.start)

kept_head : (kind : FaultKind) (d : Desc) → Heads kind d
kept_head faults.OutsideLimits d = kept_screen d (not (is_lawful_screen d))
kept_head faults.BadOpening d = kept_start d d.start refl
kept_head _ d = skip (kept_none d.start)

kept_lines : (kind : FaultKind) (d : Desc) → Kept (fault_lines kind d) (declaration_lines d)
unfolding fault_lines
kept_lines kind d =
    kept_append _ _ (kept_head kind d)
    (kept_append _ _ (kept_parts (menu_lines kind) lines_of_menu (kept_menu kind) [] d.menus)
    (kept_append _ _ (kept_where (λ item. item.id.0) (status_has kind d) [] d.status)
    (kept_append _ _ (kept_parts (window_lines kind) lines_of_window (kept_window kind) [] d.windows)
    (kept_parts (dialog_lines kind d) lines_of_dialog (kept_dialog kind d) [] d.dialogs))))

-- ---- one fault after the other

-- numbers that rise from one above n
abbrev Above : ℕ → List FaultKind → Type 0
Above n [] = Unit {0}
Above n (kind ∷ kinds) = (n < fault_number kind) × Above (fault_number kind) kinds

above : (d : Desc) (n m : ℕ) (kinds : List FaultKind) → n ≤ m → Above m kinds → All (λ fault. n < fault_number fault.kind) (flat_map (λ kind. faults_at kind d) kinds)
above d n m [] le up = All-nil (λ fault. n < fault_number fault.kind)
above d n m (kind ∷ kinds) le up =
    let here : n < fault_number kind = omega (arith, up.0) in
    let next : n ≤ fault_number kind = omega arith in
    All-append (λ fault. n < fault_number fault.kind) (faults_at kind d) (flat_map (λ kind. faults_at kind d) kinds)
    (All-map (λ fault. n < fault_number fault.kind) (fault_at kind) (fault_lines kind d) (λ i line less. here))
    (above d n (fault_number kind) kinds next up.1)

module _ (d : Desc) (rising : AreLinesRising d) where
  one_kind : (kind : FaultKind) → AreInOrder (faults_at kind d)
  one_kind kind = pairs_map (λ line later. line < later) IsBefore (fault_at kind) (λ a b less. inr (refl, less)) (fault_lines kind d) (kept_pairs (λ line later. line < later) (kept_lines kind d) rising)

  many_kinds : (n : ℕ) (kinds : List FaultKind) → Above n kinds → AreInOrder (flat_map (λ kind. faults_at kind d) kinds)
  many_kinds n [] up = pairs_nil IsBefore
  many_kinds n (kind ∷ kinds) up =
      pairs_append IsBefore (faults_at kind d) (flat_map (λ kind. faults_at kind d) kinds) (one_kind kind) (many_kinds (fault_number kind) kinds up.1)
      (All-map (λ fault. All (IsBefore fault) (flat_map (λ kind. faults_at kind d) kinds)) (fault_at kind) (fault_lines kind d)
      (λ i line less. All-weaker (λ fault. fault_number kind < fault_number fault.kind) (IsBefore (fault_at kind (get_or (fault_lines kind d) i line))) (λ fault low. inl low) (flat_map (λ kind. faults_at kind d) kinds) (above d (fault_number kind) (fault_number kind) kinds (omega arith) up.1)))

pub in_order : (d : Desc) → AreLinesRising d → AreInOrder (faults_of d)
unfolding faults_of
in_order d rising = many_kinds d rising 0 all_kinds
    (omega arith, (omega arith, (omega arith, (omega arith, (omega arith, (omega arith, (omega arith, (omega arith, (omega arith, (omega arith, (omega arith, (omega arith, (omega arith, (omega arith, (omega arith, (omega arith, (omega arith, tt)))))))))))))))))
