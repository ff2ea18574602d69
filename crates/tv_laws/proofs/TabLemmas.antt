-- Tab goes to the next free control.
use Rattle.std.proofs.Common.{◌≡◌, true, false, not, ◌+◌, ◌==◌, if◌then◌else◌, List, find, take, drop, option_map, unwrap_or, sym, ap, ◌∙◌, All}
use Rattle.std.proofs.lemmas.List.Elements.{All-append, All-drop, All-map, All-take}
use Rattle.tv_event.specs.declared.event.Event.TheVariants as events
use Rattle.tv_event.specs.declared.event.Key.TheVariants as keys
use Rattle.tv_model.specs.declared.node.Id.{Id}
use Rattle.tv_model.specs.declared.desc.Dialog.{Dialog}
use Rattle.tv_machine.specs.State.{LeafState}
use Rattle.tv_machine.specs.Leaves.{leaf_list}
use Rattle.tv_machine.specs.Dialog.Focus.{Moved, NotFree, Refused, Same, Stop, after_request, is_free_at, is_free_leaf, keeps_focus, next_free, others, stop_place, request, stop_of, stops_of}
use Rattle.tv_machine.specs.Dialog.Modal.{Modal, leaf_at}
use Rattle.tv_machine.specs.Dialog.Step.{step_by}
use Rattle.tv_laws.specs.Leaving.{TabGoesOn}
use Rattle.tv_laws.specs.Sound.{IsSoundDialog}
use Rattle.tv_machine.proofs.LeafLemmas.{leaves-are}
use Rattle.tv_machine.proofs.ListLemmas.{bool_cases, found-all, found-passes, option_cases, same-id}

module _ (d : Dialog) (sound : IsSoundDialog d) where
  module _ (leaves : List LeafState) where
    -- a stop that says that it is free is a leaf that is
    abbrev IsTrueStop : Stop → Type 0
    IsTrueStop stop = stop.is_free ≡ true → is_free_at d leaves stop.id ≡ true

    true_stops : All IsTrueStop (stops_of d leaves)
    true_stops = All-map IsTrueStop (stop_of d leaves) (leaf_list d.views) (leaves-are d sound.lawful (λ leaf. IsTrueStop (stop_of d leaves leaf)) (λ leaf e is. ap (is_free_leaf d leaves) e ∙ is))

    true_others : (focus : Id) → All IsTrueStop (others (stops_of d leaves) focus)
    true_others focus =
        let stops = stops_of d leaves in
        let n = stop_place stops focus in
        All-append IsTrueStop (drop (n + 1) stops) (take n stops) (All-drop IsTrueStop (n + 1) stops true_stops) (All-take IsTrueStop n stops true_stops)

    -- the next free control is free
    pub next-is-free : (focus : Id) → is_free_at d leaves focus ≡ true → is_free_at d leaves (next_free (stops_of d leaves) focus) ≡ true
    next-is-free focus is =
        option_cases (find (λ stop. stop.is_free) (others (stops_of d leaves) focus))
        (λ o. is_free_at d leaves (unwrap_or (option_map (λ stop. stop.id) o) focus) ≡ true) (λ none. is)
        (λ stop found.
        found-all IsTrueStop (λ s. s.is_free) (others (stops_of d leaves) focus) stop (true_others focus) found
        (found-passes (λ s. s.is_free) (others (stops_of d leaves) focus) stop found))

  request_focus : (m : Modal) (to : Id) → is_free_at d m.leaves to ≡ true → keeps_focus m (leaf_at d m.focus) ≡ false
      → (request d to m).focus ≡ to
  request_focus m to is goes =
      bool_cases (to.0 == m.focus.0)
      (λ b. (after_request d to (if b then Same else if not (is_free_at d m.leaves to) then NotFree else if keeps_focus m (leaf_at d m.focus) then Refused else Moved) m).focus ≡ to)
      (λ here. sym (same-id to m.focus here))
      (λ there.
      ap (λ b. (after_request d to (if not b then NotFree else if keeps_focus m (leaf_at d m.focus) then Refused else Moved) m).focus) is
      ∙ ap (λ b. (after_request d to (if b then Refused else Moved) m).focus) goes)

  pub tab-goes-on : TabGoesOn d
  tab-goes-on m fit idle goes =
      let to = next_free (stops_of d m.leaves) m.focus in
      ap (λ h. (step_by d h (events.Key keys.Tab) m).focus) idle ∙ request_focus m to (next-is-free m.leaves m.focus fit.focus) goes
