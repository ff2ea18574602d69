-- A fault names no line exactly where no declaration has it.
use Rattle.std.proofs.Common.{◌≡◌, ◌↔◌, ℕ, Bool, true, false, cond, List, [], ◌∷◌, ◌++◌, map, filter, flat_map, None, refl}
use Rattle.std.specs.List.{All}
use Rattle.std.proofs.lemmas.List.Elements.{All-nil, All-cons, All-head, All-tail}
use Rattle.tv_model.specs.declared.desc.Desc.{Desc}
use Rattle.tv_model.specs.declared.desc.Menu.{Menu}
use Rattle.tv_model.specs.declared.desc.Dialog.{Dialog}
use Rattle.tv_model.specs.declared.fault.FaultKind.{FaultKind}
use Rattle.tv_model.specs.Description.Commands.{no_ends}
use Rattle.tv_model.specs.Description.Heads.{dialog_head}
use Rattle.tv_model.specs.Description.Sharing.{sharing_rules}
use Rattle.tv_model.specs.Faults.{dialog_has, dialog_lines, fault_lines, head_lines, item_has, menu_has, menu_lines, rule_has, rule_lines, status_has, status_lines, view_has, view_lines, window_has, window_lines}
use Rattle.tv_model.specs.Faults.Lines.{after_seen, line_if, lines_where}
use Rattle.tv_faults.specs.Sound.Bodies.{Body, EachBody, dialog_body, window_body}
use Rattle.tv_faults.proofs.PairLemmas.{after_own, all_and, all_append, all_map, both, chain, each}

-- ---- lists without items

pub append_nil : {A : Type 0} (a b : List A) → a ++ b ≡ [] ↔ ((a ≡ []) × (b ≡ []))
append_nil [] b = (λ e. (refl, e), λ h. h.1)
append_nil (x ∷ a) b = (λ e. absurd cc, λ h. let e = h.0 in absurd cc)

pub map_nil : {A B : Type 0} (f : A → B) (xs : List A) → map f xs ≡ [] ↔ (xs ≡ [])
map_nil f [] = (λ e. refl, λ e. refl)
map_nil f (x ∷ xs) = (λ e. absurd cc, λ e. absurd cc)

pub flat_nil : {A B : Type 0} (f : A → List B) (xs : List A) → flat_map f xs ≡ [] ↔ All (λ x. f x ≡ []) xs
flat_nil f [] = (λ e. All-nil (λ x. f x ≡ []), λ h. refl)
flat_nil f (x ∷ xs) =
    let split : f x ++ flat_map f xs ≡ [] ↔ ((f x ≡ []) × (flat_map f xs ≡ [])) = append_nil (f x) (flat_map f xs) in
    let rest : flat_map f xs ≡ [] ↔ All (λ x. f x ≡ []) xs = flat_nil f xs in (
      λ e. All-cons (λ x. f x ≡ []) x xs (split.0 e).0 (rest.0 (split.0 e).1),
      λ h. split.1 (All-head (λ x. f x ≡ []) x xs h, rest.1 (All-tail (λ x. f x ≡ []) x xs h)),
    )

pub if_nil : (b : Bool) (line : ℕ) → line_if b line ≡ [] ↔ (b ≡ false)
if_nil true line = (λ e. absurd cc, λ e. absurd cc)
if_nil false line = (λ e. refl, λ e. refl)

kept_nil : {A : Type 0} (b : Bool) (x : A) (xs : List A) → cond b (x ∷ xs) xs ≡ [] ↔ ((b ≡ false) × (xs ≡ []))
kept_nil true x xs = (λ e. absurd cc, λ h. let e = h.0 in absurd cc)
kept_nil false x xs = (λ e. (refl, e), λ h. h.1)

filter_nil : {A : Type 0} (p : A → Bool) (xs : List A) → filter p xs ≡ [] ↔ All (λ x. p x ≡ false) xs
filter_nil p [] = (λ e. All-nil (λ x. p x ≡ false), λ h. refl)
filter_nil p (x ∷ xs) =
    let split : cond (p x) (x ∷ filter p xs) (filter p xs) ≡ [] ↔ ((p x ≡ false) × (filter p xs ≡ [])) = kept_nil (p x) x (filter p xs) in
    let rest : filter p xs ≡ [] ↔ All (λ x. p x ≡ false) xs = filter_nil p xs in (
      λ e. All-cons (λ x. p x ≡ false) x xs (split.0 e).0 (rest.0 (split.0 e).1),
      λ h. split.1 (All-head (λ x. p x ≡ false) x xs h, rest.1 (All-tail (λ x. p x ≡ false) x xs h)),
    )

-- no item stands so to those before it
abbrev pub NoneAfter : {A : Type 0} → (List A → A → Bool) → List A → Type 0
NoneAfter p xs = All (λ pair. p pair.0 pair.1 ≡ false) (after_seen [] xs)

where_nil : {A : Type 0} (line : A → ℕ) (p : List A → A → Bool) (xs : List A) → lines_where line p [] xs ≡ [] ↔ NoneAfter p xs
where_nil line p xs = chain (map_nil (λ pair. line pair.1) (filter (λ pair. p pair.0 pair.1) (after_seen [] xs))) (filter_nil (λ pair. p pair.0 pair.1) (after_seen [] xs))

-- a line and the lines of what stands in it, for each item after those before it
parts_nil : {A : Type 0} (line : A → ℕ) (p : List A → A → Bool) (inner : A → List ℕ) (P : A → Type 0) → ((x : A) → inner x ≡ [] ↔ P x) → (xs : List A)
    → flat_map (λ pair. line_if (p pair.0 pair.1) (line pair.1) ++ inner pair.1) (after_seen [] xs) ≡ [] ↔ (NoneAfter p xs × All P xs)
parts_nil line p inner P f xs = chain
    (flat_nil (λ pair. line_if (p pair.0 pair.1) (line pair.1) ++ inner pair.1) (after_seen [] xs))
    (chain
    (each (λ pair. line_if (p pair.0 pair.1) (line pair.1) ++ inner pair.1 ≡ []) (λ pair. (p pair.0 pair.1 ≡ false) × P pair.1)
    (λ pair. chain (append_nil (line_if (p pair.0 pair.1) (line pair.1)) (inner pair.1)) (both (if_nil (p pair.0 pair.1) (line pair.1)) (f pair.1)))
    (after_seen [] xs))
    (chain
    (all_and (λ pair. p pair.0 pair.1 ≡ false) (λ pair. P pair.1) (after_seen [] xs))
    (both (λ h. h, λ h. h) (after_own P [] xs))))

-- ---- declarations without the fault

abbrev pub NoItem : FaultKind → Menu → Type 0
NoItem kind menu = NoneAfter (item_has kind) menu.items

abbrev pub NoView : FaultKind → Body → Type 0
NoView kind body = NoneAfter (view_has kind body.frame body.ends body.sharing body.views) body.views

abbrev pub NoRule : FaultKind → Dialog → Type 0
NoRule kind dialog = NoneAfter (rule_has kind dialog.views) dialog.rules

pub record Lacks (kind : FaultKind) (d : Desc) : Type 0 where
  pub head : head_lines kind d ≡ []
  pub menus : NoneAfter (menu_has kind) d.menus
  pub items : All (NoItem kind) d.menus
  pub status : NoneAfter (status_has kind d) d.status
  pub windows : NoneAfter (window_has kind) d.windows
  pub dialogs : NoneAfter (dialog_has kind d) d.dialogs
  pub views : EachBody d (NoView kind)
  pub rules : All (NoRule kind) d.dialogs

-- what holds of windows and dialogs by themselves holds of each body
pub bodies : (d : Desc) (P : Body → Type 0) → EachBody d P ↔ (All (λ window. P (window_body window)) d.windows × All (λ dialog. P (dialog_body d.version dialog)) d.dialogs)
bodies d P = chain (all_append P (map window_body d.windows) (map (dialog_body d.version) d.dialogs)) (both (all_map P window_body d.windows) (all_map P (dialog_body d.version) d.dialogs))

module _ (kind : FaultKind) (d : Desc) where
  menus_nil : flat_map (λ pair. menu_lines kind pair.0 pair.1) (after_seen [] d.menus) ≡ [] ↔ (NoneAfter (menu_has kind) d.menus × All (NoItem kind) d.menus)
  menus_nil = parts_nil (λ menu. menu.id.0) (menu_has kind) (λ menu. lines_where (λ item. item.id.0) (item_has kind) [] menu.items) (NoItem kind) (λ menu. where_nil (λ item. item.id.0) (item_has kind) menu.items) d.menus

  status_nil : status_lines kind d ≡ [] ↔ NoneAfter (status_has kind d) d.status
  status_nil = where_nil (λ item. item.id.0) (status_has kind d) d.status

  views_nil : (body : Body) → view_lines kind body.frame body.ends body.sharing body.views ≡ [] ↔ NoView kind body
  views_nil body = where_nil (λ node. node.id.0) (view_has kind body.frame body.ends body.sharing body.views) body.views

  windows_nil : flat_map (λ pair. window_lines kind pair.0 pair.1) (after_seen [] d.windows) ≡ [] ↔ (NoneAfter (window_has kind) d.windows × All (λ window. NoView kind (window_body window)) d.windows)
  windows_nil =
      parts_nil (λ window. window.node.id.0) (window_has kind) (λ window. view_lines kind window.node no_ends None window.views) (λ window. NoView kind (window_body window)) (λ window. views_nil (window_body window)) d.windows

  dialogs_nil : flat_map (λ pair. dialog_lines kind d pair.0 pair.1) (after_seen [] d.dialogs) ≡ [] ↔ (NoneAfter (dialog_has kind d) d.dialogs × All (λ dialog. NoView kind (dialog_body d.version dialog) × NoRule kind dialog) d.dialogs)
  dialogs_nil =
      parts_nil (λ dialog. dialog.node.id.0) (dialog_has kind d) (λ dialog. view_lines kind dialog.node (dialog_head dialog).ends (sharing_rules d.version dialog.rules) dialog.views ++ rule_lines kind dialog)
      (λ dialog. NoView kind (dialog_body d.version dialog) × NoRule kind dialog)
      (λ dialog. chain (append_nil (view_lines kind dialog.node (dialog_head dialog).ends (sharing_rules d.version dialog.rules) dialog.views) (rule_lines kind dialog)) (both (views_nil (dialog_body d.version dialog)) (where_nil (λ rule. rule.id.0) (rule_has kind dialog.views) dialog.rules)))
      d.dialogs

  forward : fault_lines kind d ≡ [] → Lacks kind d
  unfolding fault_lines
  forward e =
      let one = (append_nil (head_lines kind d) _).0 e in
      let two = (append_nil (flat_map (λ pair. menu_lines kind pair.0 pair.1) (after_seen [] d.menus)) _).0 one.1 in
      let three = (append_nil (status_lines kind d) _).0 two.1 in
      let four = (append_nil (flat_map (λ pair. window_lines kind pair.0 pair.1) (after_seen [] d.windows)) _).0 three.1 in
      let windows = windows_nil.0 four.0 in
      let dialogs = dialogs_nil.0 four.1 in
      record {
        head = one.0;
        menus = (menus_nil.0 two.0).0;
        items = (menus_nil.0 two.0).1;
        status = status_nil.0 three.0;
        windows = windows.0;
        dialogs = dialogs.0;
        views = (bodies d (NoView kind)).1 (windows.1, λ k dialog less. (dialogs.1 k dialog less).0);
        rules = λ k dialog less. (dialogs.1 k dialog less).1;
      }

  backward : Lacks kind d → fault_lines kind d ≡ []
  unfolding fault_lines
  backward h =
      let views = (bodies d (NoView kind)).0 h.views in
      (append_nil (head_lines kind d) _).1 (
        h.head,
        (append_nil (flat_map (λ pair. menu_lines kind pair.0 pair.1) (after_seen [] d.menus)) _).1 (
          menus_nil.1 (h.menus, h.items),
          (append_nil (status_lines kind d) _).1 (
            status_nil.1 h.status,
            (append_nil (flat_map (λ pair. window_lines kind pair.0 pair.1) (after_seen [] d.windows)) _).1 (
              windows_nil.1 (h.windows, views.0),
              dialogs_nil.1 (h.dialogs, λ k dialog less. (views.1 k dialog less, h.rules k dialog less)),
            ),
          ),
        ),
      )

  pub lacks : fault_lines kind d ≡ [] ↔ Lacks kind d
  lacks = (forward, backward)
