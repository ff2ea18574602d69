-- A marker that can't act, or whose control the focus may not go to, acts on nothing.
use Rattle.std.proofs.Common.{◌≡◌, ◌⊎◌, inl, inr, false, not, ◌&&◌, ◌==◌, ℕ, if◌then◌else◌, Option, Some, None, refl, sym, ap, ◌∙◌}
use Rattle.std.proofs.lemmas.Bool.{true≢false}
use Rattle.tv_model.specs.declared.node.Id.{Id}
use Rattle.tv_model.specs.declared.node.Node.{Node}
use Rattle.tv_model.specs.declared.kind.Kind.{Kind}
use Rattle.tv_model.specs.declared.kind.Kind.TheVariants as kinds
use Rattle.tv_model.specs.Kinds.{behaviour}
use Rattle.tv_model.specs.declared.desc.Dialog.{Dialog}
use Rattle.tv_model.specs.declared.log.LogLine.TheVariants as lines
use Rattle.tv_model.specs.Controls.Shortcut.{item_marking, ClusterKind, Shortcut, NoMark, LinkMark, PressMark, ItemMarks}
use Rattle.tv_model.specs.Description.Commands.{command_number}
use Rattle.tv_model.specs.Description.Names.{meant}
use Rattle.tv_machine.specs.Leaves.{PlacedNode}
use Rattle.tv_machine.specs.Dialog.Ending.{press}
use Rattle.tv_machine.specs.Dialog.Focus.{Moved, NotFree, Refused, Same, after_request, is_free_at, is_granted, keeps_focus, request, requested}
use Rattle.tv_machine.specs.Dialog.Modal.{Modal, leaf_at, with_line}
use Rattle.tv_machine.specs.Dialog.Rules.{is_command_enabled, is_kind_enabled, is_visible}
use Rattle.tv_machine.specs.Dialog.Shortcuts.{call_item, called, called_by, press_item, request_link}
use Rattle.tv_laws.specs.Letters.{RefusedFocusChangesNothing, has_link, is_free_link}
use Rattle.tv_laws.proofs.KeyLaws.MarkerActs.{UnableMarkersDoNothing}
use Rattle.tv_machine.proofs.ListLemmas.{and-true, bool_cases}
use Rattle.tv_laws.proofs.KeyLaws.LetterLemmas.{control-in, control_in, is_press_mark, press-mark}

module _ (d : Dialog) where
  -- ---- what can't act

  unfree_same : (m : Modal) (to : Id) → is_free_at d m.leaves to ≡ false → request d to m ≡ m
  unfree_same m to unfree =
      bool_cases (to.0 == m.focus.0)
      (λ b. after_request d to (if b then Same else if not (is_free_at d m.leaves to) then NotFree else if keeps_focus m (leaf_at d m.focus) then Refused else Moved) m ≡ m)
      (λ here. refl)
      (λ there. ap (λ b. after_request d to (if not b then NotFree else if keeps_focus m (leaf_at d m.focus) then Refused else Moved) m) unfree)

  link_same : (link : Option Node) (m : Modal) → is_free_link d m.leaves link ≡ false → request_link d link m ≡ m
  link_same None m unfree = refl
  link_same (Some link) m unfree = unfree_same m link.id unfree

  disabled_same : (m : Modal) (marker : PlacedNode) (k : Kind) → marker.node.kind ≡ k → is_kind_enabled d m.leaves k ≡ false
      → (if is_kind_enabled d m.leaves marker.node.kind then press d marker m else m) ≡ m
  disabled_same m marker k is disabled = ap (λ b. if b then press d marker m else m) (ap (is_kind_enabled d m.leaves) is ∙ disabled)

  called_same : (m : Modal) (letter : ℕ) (marker : PlacedNode) (k : Kind) → marker.node.kind ≡ k
      → (is_kind_enabled d m.leaves k && has_link d m.leaves k) ≡ false → called d letter marker k m ≡ m
  called_same m letter marker (kinds.Label label) is none = link_same (meant d.views label.link) m none
  called_same m letter marker (kinds.Button button) is none =
      disabled_same m marker (kinds.Button button) is (sym (and-true (is_command_enabled d m.leaves (command_number button.command))) ∙ none)
  called_same m letter marker (kinds.CheckBoxes boxes) is none = absurd (true≢false none)
  called_same m letter marker (kinds.RadioButtons radios) is none = absurd (true≢false none)
  called_same m letter marker _ is none = refl

  pub acts-on-none : UnableMarkersDoNothing d
  acts-on-none m letter marker =
      bool_cases (is_visible d m.leaves marker)
      (λ b. (b && (is_kind_enabled d m.leaves marker.node.kind && has_link d m.leaves marker.node.kind)) ≡ false
      → (if b then called d letter marker marker.node.kind m else m) ≡ m)
      (λ shown none. called_same m letter marker marker.node.kind refl none) (λ hidden none. refl)

  -- ---- what the focus may not go to

  -- nothing changes but for a line of the log
  abbrev IsRefusal : Modal → Modal → Type 0
  IsRefusal m n = (n ≡ m) ⊎ (n ≡ with_line (lines.Invalid m.focus) m)

  item_refused : (kind : ClusterKind) (i : Id) (item : Option ℕ) (m : Modal) → requested d m i ≡ Refused
      → call_item d kind i item m ≡ with_line (lines.Invalid m.focus) m
  item_refused kind i item m refused =
      ap (λ r. if is_granted r then press_item d kind i item (after_request d i r m) else after_request d i r m) refused

  itself : (marker control : Node) (m : Modal) → Some marker ≡ Some control → requested d m control.id ≡ Refused
      → requested d m marker.id ≡ Refused
  itself marker control m e refused = let same : control ≡ marker = cc in ap (λ x. requested d m x.id) (sym same) ∙ refused

  called_refused : (m : Modal) (letter : ℕ) (marker : PlacedNode) (control : Node) (shortcut : Shortcut)
      → control_in d marker.node shortcut ≡ Some control → is_press_mark shortcut ≡ false → requested d m control.id ≡ Refused
      → IsRefusal m (called_by d letter marker shortcut m)
  called_refused m letter marker control NoMark e other refused = inl refl
  called_refused m letter marker control (LinkMark text name) e other refused =
      inr (ap (λ o. request_link d o m) e ∙ ap (λ r. after_request d control.id r m) refused)
  called_refused m letter marker control (PressMark text name) e other refused = absurd (true≢false other)
  called_refused m letter marker control (ItemMarks kind name items) e other refused =
      inr (item_refused kind marker.node.id (item_marking items letter) m (itself marker.node control m e refused))

  pub refused-acts-on-none : RefusedFocusChangesNothing d
  refused-acts-on-none m letter marker control e other refused =
      bool_cases (is_visible d m.leaves marker) (λ b. IsRefusal m (if b then called d letter marker marker.node.kind m else m))
      (λ shown.
      called_refused m letter marker control (behaviour marker.node.kind).shortcut (sym (control-in d marker.node marker.node.kind) ∙ e)
      (sym (press-mark marker.node.kind) ∙ other) refused)
      (λ hidden. inl refl)
