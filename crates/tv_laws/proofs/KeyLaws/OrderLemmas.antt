-- The order of Tab is the certificate's, and an input that keeps the focus keeps it.
use Rattle.std.proofs.Common.{◌≡◌, ◌≢◌, true, not, ◌&&◌, ◌++◌, ◌∷◌, ◌==◌, if◌then◌else◌, List, [], map, filter, reverse, Option, Some, None, option_map, refl, sym, ap, subst, ◌∙◌, All, IsTrue}
use Rattle.std.specs.Prelude.{IsSome, filter_map}
use Rattle.std.specs.List.{cons_option}
use Rattle.std.proofs.lemmas.Bool.{and_parts, false≢true}
use Rattle.std.proofs.lemmas.List.{reverse-append}
use Rattle.std.proofs.lemmas.List.Elements.{All-filter, All-head, All-map, All-tail, filter_passes}
use Rattle.tv_event.specs.declared.event.Event.TheVariants as events
use Rattle.tv_event.specs.declared.event.Key.TheVariants as keys
use Rattle.tv_model.specs.declared.node.Id.{Id}
use Rattle.tv_model.specs.declared.node.Node.{Node}
use Rattle.tv_model.specs.declared.kind.Kind.{Kind}
use Rattle.tv_model.specs.declared.kind.Kind.TheVariants as kinds
use Rattle.tv_model.specs.declared.desc.Dialog.{Dialog}
use Rattle.tv_model.specs.declared.log.LogLine.TheVariants as lines
use Rattle.tv_model.specs.Description.Certificates.{control_name}
use Rattle.tv_model.specs.Description.Nodes.{is_control, is_pane}
use Rattle.tv_machine.specs.State.{LeafState}
use Rattle.tv_machine.specs.Leaves.{leaf_list, leaves_in, open_after, open_at}
use Rattle.tv_machine.specs.Dialog.Focus.{Moved, NotFree, Refused, Same, after_request, is_free_at, is_free_leaf, keeps_focus, next_free, previous_free, request, stop_of, stops_of}
use Rattle.tv_machine.specs.Dialog.Modal.{Modal, leaf_at, with_line}
use Rattle.tv_machine.specs.Dialog.Rules.{is_enabled, is_visible}
use Rattle.tv_machine.specs.Dialog.Step.{step_by}
use Rattle.tv_laws.specs.Order.{FreeAreControls, RefusalStays, ShiftTabAsksPrevious, StopsAreTabs, control_named, free_controls, stop_name}
use Rattle.tv_laws.specs.Sound.{IsSoundDialog}
use Rattle.tv_machine.proofs.LeafLemmas.{ids-apart, leaves-are}
use Rattle.tv_laws.proofs.LeavingLemmas.{tab-next}
use Rattle.tv_machine.proofs.ListLemmas.{AreApart, bool_cases, find-map, has, map-map, option_cases, same-id}
use Rattle.tv_laws.proofs.KeyLaws.StopLemmas.{StandsFree, all-reverse, first, first-all, found-stands, previous-first, reverse-middle, stop_id}
use Rattle.tv_laws.proofs.TabLemmas.{next-is-free}

-- ---- the names of leaves

names-map : {A B C : Type 0} (f : A → B) (g : B → Option C) (xs : List A) → filter_map g (map f xs) ≡ filter_map (λ x. g (f x)) xs
names-map f g [] = refl
names-map f g (x ∷ xs) = ap (cons_option (g (f x))) (names-map f g xs)

names-same : {A C : Type 0} (f g : A → Option C) (xs : List A) → All (λ x. f x ≡ g x) xs → filter_map f xs ≡ filter_map g xs
names-same f g [] all = refl
names-same f g (x ∷ xs) all =
    ap (λ o. cons_option o (filter_map f xs)) (All-head (λ y. f y ≡ g y) x xs all)
    ∙ ap (cons_option (g x)) (names-same f g xs (All-tail (λ y. f y ≡ g y) x xs all))

pane-unnamed : (kind : Kind) → is_pane kind ≡ true → control_name kind ≡ None
pane-unnamed (kinds.Pane pane) is = refl
pane-unnamed _ is = absurd (false≢true is)

control-has-name : (kind : Kind) → is_control kind ≡ true → IsSome (control_name kind)
control-has-name (kinds.Button button) is = refl
control-has-name (kinds.Input input) is = refl
control-has-name (kinds.CheckBoxes boxes) is = refl
control-has-name (kinds.RadioButtons radios) is = refl
control-has-name (kinds.List list) is = refl
control-has-name _ is = absurd (false≢true is)

-- opened out panes are no controls
leaf-names : (panes views : List Node) → filter_map (λ leaf. control_name leaf.node.kind) (leaves_in panes views) ≡ filter_map (λ node. control_name node.kind) views
leaf-names panes [] = refl
leaf-names panes (view ∷ views) =
    let rest = leaves_in (open_after panes view) views in
    let more = leaf-names (open_after panes view) views in
    bool_cases (is_pane view.kind)
    (λ b. filter_map (λ leaf. control_name leaf.node.kind) (if b then rest else record { node = view; panes = open_at view.depth panes } ∷ rest)
    ≡ filter_map (λ node. control_name node.kind) (view ∷ views))
    (λ is. more ∙ sym (ap (λ o. cons_option o (filter_map (λ node. control_name node.kind) views)) (pane-unnamed view.kind is)))
    (λ is. ap (cons_option (control_name view.kind)) more)

-- ---- a refused request

pub shift-tab-previous : (d : Dialog) → ShiftTabAsksPrevious d
shift-tab-previous d m idle = ap (λ h. step_by d h (events.Key keys.ShiftTab) m) idle

refused : (d : Dialog) (m : Modal) (to : Id) → is_free_at d m.leaves to ≡ true → keeps_focus m (leaf_at d m.focus) ≡ true → to ≢ m.focus
    → request d to m ≡ with_line (lines.Invalid m.focus) m
refused d m to is stays apart =
    bool_cases (to.0 == m.focus.0)
    (λ b. after_request d to (if b then Same else if not (is_free_at d m.leaves to) then NotFree else if keeps_focus m (leaf_at d m.focus) then Refused else Moved) m
    ≡ with_line (lines.Invalid m.focus) m)
    (λ here. absurd (apart (same-id to m.focus here)))
    (λ there.
    ap (λ b. after_request d to (if not b then NotFree else if keeps_focus m (leaf_at d m.focus) then Refused else Moved) m) is
    ∙ ap (λ b. after_request d to (if b then Refused else Moved) m) stays)

module _ (d : Dialog) (sound : IsSoundDialog d) where
  -- ---- the stops are the controls of the certificate

  pub stops-are-tabs : StopsAreTabs d
  stops-are-tabs leaves =
      names-map (stop_of d leaves) (stop_name d) (leaf_list d.views)
      ∙ names-same (λ leaf. stop_name d (stop_of d leaves leaf)) (λ leaf. control_name leaf.node.kind) (leaf_list d.views)
      (leaves-are d sound.lawful (λ leaf. stop_name d (stop_of d leaves leaf) ≡ control_name leaf.node.kind) (λ leaf e. ap control_named e))
      ∙ leaf-names [] d.views

  pub free-are-controls : FreeAreControls d
  free-are-controls leaves =
      All-map (λ stop. IsTrue stop.is_free → IsSome (stop_name d stop)) (stop_of d leaves) (leaf_list d.views)
      (leaves-are d sound.lawful (λ leaf. IsTrue (stop_of d leaves leaf).is_free → IsSome (stop_name d (stop_of d leaves leaf)))
      (λ leaf e free. subst (λ o. IsSome (control_named o)) (sym e)
      (control-has-name leaf.node.kind (and_parts (is_control leaf.node.kind) (is_visible d leaves leaf && is_enabled d leaves leaf.node) free).0)))

  -- ---- free controls

  pub stops-apart : (leaves : List LeafState) → AreApart (map stop_id (stops_of d leaves))
  stops-apart leaves = subst AreApart (sym (map-map (stop_of d leaves) stop_id (leaf_list d.views))) (ids-apart d sound.lawful)

  -- the focus stands among them
  pub focus-stands : (leaves : List LeafState) (i : Id) → is_free_at d leaves i ≡ true → StandsFree (stops_of d leaves) i
  focus-stands leaves i free =
      option_cases (leaf_at d i) (λ o. is_free_leaf d leaves o ≡ true → StandsFree (stops_of d leaves) i) (λ none is. absurd (false≢true is))
      (λ leaf found is.
      found-stands (stops_of d leaves) i (stop_of d leaves leaf)
      (find-map (stop_of d leaves) (has stop_id i) (leaf_list d.views) ∙ ap (option_map (stop_of d leaves)) found) is)
      free

  free-at : (leaves : List LeafState) → All (λ i. is_free_at d leaves i ≡ true) (free_controls d leaves)
  free-at leaves =
      let stops = stops_of d leaves in
      let true_stops : All (λ stop. stop.is_free ≡ true → is_free_at d leaves stop.id ≡ true) stops =
      All-map (λ stop. stop.is_free ≡ true → is_free_at d leaves stop.id ≡ true) (stop_of d leaves) (leaf_list d.views)
      (leaves-are d sound.lawful (λ leaf. is_free_leaf d leaves (Some leaf) ≡ true → is_free_at d leaves leaf.node.id ≡ true) (λ leaf e is. ap (is_free_leaf d leaves) e ∙ is)) in
      All-map (λ i. is_free_at d leaves i ≡ true) stop_id (filter (λ stop. stop.is_free) stops)
      (λ k e h. All-filter (λ stop. stop.is_free) (λ stop. stop.is_free ≡ true → is_free_at d leaves stop.id ≡ true) stops true_stops k e h (filter_passes (λ stop. stop.is_free) stops k e h))

  -- the previous free control is free
  pub previous-is-free : (leaves : List LeafState) (focus : Id) → is_free_at d leaves focus ≡ true
      → is_free_at d leaves (previous_free (stops_of d leaves) focus) ≡ true
  previous-is-free leaves focus is =
      let s = focus-stands leaves focus is in
      let turned : reverse (free_controls d leaves) ≡ reverse s.1 ++ focus ∷ reverse s.0 = ap reverse s.2 ∙ reverse-middle s.0 s.1 focus in
      let all : All (λ i. is_free_at d leaves i ≡ true) (reverse s.1 ++ focus ∷ reverse s.0) =
      subst (All (λ i. is_free_at d leaves i ≡ true)) turned (all-reverse (λ i. is_free_at d leaves i ≡ true) (free_controls d leaves) (free-at leaves)) in
      ap (is_free_at d leaves) (previous-first (stops_of d leaves) focus s.0 s.1 (stops-apart leaves) s.2 ∙ ap (λ ids. first ids focus) (reverse-append s.1 s.0))
      ∙ first-all (λ i. is_free_at d leaves i ≡ true) (reverse s.1) (reverse s.0) focus all

  -- ---- an input that keeps the focus

  pub refusal-stays : RefusalStays d
  refusal-stays m fit idle stays = (
    λ apart. tab-next d m idle ∙ refused d m (next_free (stops_of d m.leaves) m.focus) (next-is-free d sound m.leaves m.focus fit.focus) stays apart,
    λ apart. shift-tab-previous d m idle ∙ refused d m (previous_free (stops_of d m.leaves) m.focus) (previous-is-free m.leaves m.focus fit.focus) stays apart,
  )
