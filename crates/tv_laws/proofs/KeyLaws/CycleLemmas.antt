-- Tab and Shift-Tab go round the free controls.
use Rattle.std.proofs.Common.{◌≡◌, Bool, true, false, not, ◌&&◌, ◌==◌, if◌then◌else◌, List, [], ◌∷◌, ◌++◌, get_or, length, reverse, None, refl, sym, ap, subst, ◌∙◌, All, append_assoc, append-nil, arith}
use Rattle.std.proofs.lemmas.List.{length-append, length-reverse, reverse-append, reverse-reverse}
use Rattle.std.proofs.lemmas.List.Elements.{All-head}
use Rattle.tv_event.specs.declared.event.Event.TheVariants as events
use Rattle.tv_event.specs.declared.event.Key.{Key}
use Rattle.tv_event.specs.declared.event.Key.TheVariants as keys
use Rattle.tv_model.specs.declared.node.Id.{Id}
use Rattle.tv_model.specs.declared.kind.Kind.{Kind}
use Rattle.tv_model.specs.declared.kind.Kind.TheVariants as kinds
use Rattle.tv_model.specs.declared.desc.Dialog.{Dialog}
use Rattle.tv_model.specs.Controls.Contents.{Content}
use Rattle.tv_machine.specs.Dialog.Focus.{Moved, NotFree, Refused, Same, Stop, after_request, focus_moved, is_free_at, is_invalid, keeps_focus, next_free, previous_free, request, stop_of, stops_of, validates}
use Rattle.tv_machine.specs.Dialog.Modal.{Modal, content_at, leaf_at}
use Rattle.tv_machine.specs.Dialog.Step.{dialog_step}
use Rattle.tv_laws.specs.Fit.{IsFitModal}
use Rattle.tv_laws.specs.Order.{TabGoesRound, foci, free_among, free_controls}
use Rattle.tv_laws.specs.Sound.{IsSoundDialog}
use Rattle.tv_machine.proofs.RefocusLemmas.{content_at-moved, held-moved, hold-moved, moved_content}
use Rattle.tv_machine.proofs.LeafLemmas.{HasLeaves, leaf_at-in, leaves-same}
use Rattle.tv_laws.proofs.LeavingLemmas.{tab-next}
use Rattle.tv_machine.proofs.ListLemmas.{bool_cases, option_cases, same-id}
use Rattle.tv_machine.proofs.MarkLemmas.{free-same}
use Rattle.tv_laws.proofs.KeyLaws.OrderLemmas.{focus-stands, previous-is-free, shift-tab-previous, stops-apart}
use Rattle.tv_laws.proofs.KeyLaws.RisingLemmas.{free-rising}
use Rattle.tv_laws.proofs.StandLemmas.{fit-moved}
use Rattle.tv_laws.proofs.KeyLaws.StopLemmas.{all-right, first, next-first, previous-first, reverse-middle}
use Rattle.tv_laws.proofs.TabLemmas.{next-is-free}

-- ---- a ring of controls, one of which has the focus

-- the ring, seen from the one that comes next
abbrev Turned : List Id → List Id → Id → Id → List Id → Type 0
Turned before after i next rest =
    (front : List Id) × (back : List Id) × (first (after ++ before) i ≡ next) × (before ++ i ∷ after ≡ front ++ next ∷ back)
    × (back ++ front ++ next ∷ [] ≡ rest ++ next ∷ [])

turned : (before after : List Id) (i next : Id) (rest : List Id) → after ++ before ++ i ∷ [] ≡ next ∷ rest → Turned before after i next rest
turned before (x ∷ after) i next rest e =
    let here : x ≡ next = cc in
    let later : after ++ before ++ i ∷ [] ≡ rest = cc in (
      before ++ i ∷ [],
      after,
      here,
      ap (λ id. before ++ i ∷ id ∷ after) here ∙ sym (append_assoc before (i ∷ []) (next ∷ after)),
      ap (λ ids. ids ++ next ∷ []) (sym (append_assoc after before (i ∷ [])) ∙ later),
    )
turned (x ∷ before) [] i next rest e =
    let here : x ≡ next = cc in
    let later : before ++ i ∷ [] ≡ rest = cc in
    ([], before ++ i ∷ [], here, ap (λ id. id ∷ (before ++ i ∷ [])) here, ap (λ ids. ids ++ next ∷ []) (append-nil (before ++ i ∷ []) ∙ later))
turned [] [] i next rest e =
    let here : i ≡ next = cc in
    let later : [] ≡ rest = cc in ([], [], here, ap (λ id. id ∷ []) here, ap (λ ids. ids ++ next ∷ []) later)

-- a key that always goes to the next one in the ring, and keeps what that needs
module _ (d : Dialog) (k : Key) (ring : List Id) (Goes : Modal → Type 0)
    (turn : (m : Modal) (before after : List Id) → Goes m → ring ≡ before ++ m.focus ∷ after
    → Goes (dialog_step d (events.Key k) m) × ((dialog_step d (events.Key k) m).focus ≡ first (after ++ before) m.focus)) where
  pub goes-round : (ahead rest : List Id) (m : Modal) (before after : List Id) → Goes m → ring ≡ before ++ m.focus ∷ after
      → after ++ before ++ m.focus ∷ [] ≡ ahead ++ rest → foci d k (length ahead) m ≡ ahead
  goes-round [] rest m before after goes e round = refl
  goes-round (x ∷ ahead) rest m before after goes e round =
      let n = dialog_step d (events.Key k) m in
      let t = turned before after m.focus x (ahead ++ rest) round in
      let s = turn m before after goes e in
      let here : n.focus ≡ x = s.1 ∙ t.2 in
      let there : ring ≡ t.0 ++ n.focus ∷ t.1 = e ∙ t.3 ∙ ap (λ id. t.0 ++ id ∷ t.1) (sym here) in
      let on : t.1 ++ t.0 ++ n.focus ∷ [] ≡ ahead ++ (rest ++ x ∷ []) = ap (λ id. t.1 ++ t.0 ++ id ∷ []) here ∙ t.4 ∙ append_assoc ahead rest (x ∷ []) in
      ap (λ id. id ∷ foci d k (length ahead) n) here ∙ ap (λ ids. x ∷ ids) (goes-round ahead (rest ++ x ∷ []) n t.0 t.1 s.0 there on)

-- ---- what the focus that moves leaves alone

invalid-input : (to from : Bool) (k : Kind) (c : Content) → is_invalid k (moved_content to from k c) ≡ is_invalid k c
invalid-input true true (kinds.Input input) c = refl
invalid-input true false (kinds.Input input) c = refl
invalid-input false true (kinds.Input input) c = refl
invalid-input false false (kinds.Input input) c = refl
invalid-input to from _ c = refl

abbrev stop_at : Id → Bool → Stop
stop_at i free = record { id = i; is_free = free }

-- a dialog whose free controls are these, and none of them keeps the focus
record IsGoing (d : Dialog) (ring : List Id) (m : Modal) : Type 0 where
  pub fit : IsFitModal d m
  pub idle : m.held ≡ None
  pub goes : All (λ i. keeps_focus m (leaf_at d i) ≡ false) ring
  pub order : free_controls d m.leaves ≡ ring

module _ (d : Dialog) (sound : IsSoundDialog d) where
  keeps-moved : (m : Modal) (to : Id) → HasLeaves d m → (i : Id) → keeps_focus (focus_moved d to m) (leaf_at d i) ≡ keeps_focus m (leaf_at d i)
  keeps-moved m to leaves i =
      option_cases (leaf_at d i) (λ o. keeps_focus (focus_moved d to m) o ≡ keeps_focus m o) (λ none. refl)
      (λ leaf found.
      ap (λ b. validates leaf.node.kind && b)
      (ap (is_invalid leaf.node.kind) (content_at-moved d sound.lawful m to leaves leaf (leaf_at-in d sound.lawful i leaf found))
      ∙ invalid-input (leaf.node.id.0 == to.0) (leaf.node.id.0 == m.focus.0) leaf.node.kind (content_at m leaf.node.id)))

  stops-moved : (m : Modal) (to : Id) → HasLeaves d m → stops_of d (focus_moved d to m).leaves ≡ stops_of d m.leaves
  stops-moved m to leaves =
      let n = focus_moved d to m in
      leaves-same d sound.lawful (stop_of d n.leaves) (stop_of d m.leaves)
      (λ leaf e. ap (stop_at leaf.node.id) (sym (free-same d m.leaves n.leaves (hold-moved d sound.lawful m to leaves) leaf)))

  module _ (order : List Id) where
    going-moved : (m : Modal) (to : Id) → IsGoing d order m → is_free_at d m.leaves to ≡ true → IsGoing d order (focus_moved d to m)
    going-moved m to g is = record {
      fit = fit-moved d sound m to g.fit.standing is g.idle;
      idle = held-moved d sound.lawful m to ∙ g.idle;
      goes = λ k e h. keeps-moved m to g.fit.standing.leaves (get_or order k e) ∙ g.goes k e h;
      order = ap free_among (stops-moved m to g.fit.standing.leaves) ∙ g.order;
    }

    -- a request is granted
    abbrev GoesTo : Id → Modal → Type 0
    GoesTo to m = IsGoing d order m × (m.focus ≡ to)

    granted : (m : Modal) (to : Id) → IsGoing d order m → is_free_at d m.leaves to ≡ true → keeps_focus m (leaf_at d m.focus) ≡ false
        → GoesTo to (request d to m)
    granted m to g is goes =
        bool_cases (to.0 == m.focus.0)
        (λ b. GoesTo to (after_request d to (if b then Same else if not (is_free_at d m.leaves to) then NotFree else if keeps_focus m (leaf_at d m.focus) then Refused else Moved) m))
        (λ here. (g, sym (same-id to m.focus here)))
        (λ there.
        subst (λ b. GoesTo to (after_request d to (if not b then NotFree else if keeps_focus m (leaf_at d m.focus) then Refused else Moved) m)) (sym is)
        (subst (λ b. GoesTo to (after_request d to (if b then Refused else Moved) m)) (sym goes) (going-moved m to g is, refl)))

    focus-goes : (before after : List Id) (m : Modal) → IsGoing d order m → order ≡ before ++ m.focus ∷ after → keeps_focus m (leaf_at d m.focus) ≡ false
    focus-goes before after m g e =
        let P : Id → Type 0 = λ i. keeps_focus m (leaf_at d i) ≡ false in
        All-head P m.focus after (all-right P before (m.focus ∷ after) (subst (All P) e g.goes))

    tab-turns : (m : Modal) (before after : List Id) → IsGoing d order m → order ≡ before ++ m.focus ∷ after
        → GoesTo (first (after ++ before) m.focus) (dialog_step d (events.Key keys.Tab) m)
    tab-turns m before after g e =
        let to = next_free (stops_of d m.leaves) m.focus in
        let r = granted m to g (next-is-free d sound m.leaves m.focus g.fit.focus) (focus-goes before after m g e) in
        subst (GoesTo (first (after ++ before) m.focus)) (sym (tab-next d m g.idle))
        (r.0, r.1 ∙ next-first (stops_of d m.leaves) m.focus before after (stops-apart d sound m.leaves) (g.order ∙ e))

    shift-turns : (m : Modal) (before after : List Id) → IsGoing d order m → reverse order ≡ before ++ m.focus ∷ after
        → GoesTo (first (after ++ before) m.focus) (dialog_step d (events.Key keys.ShiftTab) m)
    shift-turns m before after g e =
        let to = previous_free (stops_of d m.leaves) m.focus in
        let ahead : order ≡ reverse after ++ m.focus ∷ reverse before = sym (reverse-reverse order) ∙ ap reverse e ∙ reverse-middle before after m.focus in
        let r = granted m to g (previous-is-free d sound m.leaves m.focus g.fit.focus) (focus-goes (reverse after) (reverse before) m g ahead) in
        let back : reverse (reverse before ++ reverse after) ≡ after ++ before =
        reverse-append (reverse before) (reverse after) ∙ ap (λ ids. ids ++ reverse (reverse before)) (reverse-reverse after) ∙ ap (λ ids. after ++ ids) (reverse-reverse before) in
        subst (GoesTo (first (after ++ before) m.focus)) (sym (shift-tab-previous d m g.idle)) (
          r.0,
          r.1 ∙ previous-first (stops_of d m.leaves) m.focus (reverse after) (reverse before) (stops-apart d sound m.leaves) (g.order ∙ ahead) ∙ ap (λ ids. first ids m.focus) back,
        )

  -- ---- round

  count : (order before after : List Id) (i : Id) → order ≡ before ++ i ∷ after → length order ≡ length (after ++ before ++ i ∷ [])
  count order before after i e =
      omega (arith, ap length e, length-append before (i ∷ after), length-append (after ++ before) (i ∷ []), length-append after before)

  pub tab-goes-round : TabGoesRound d
  tab-goes-round m fit idle goes =
      let order = free_controls d m.leaves in
      let s = focus-stands d sound m.leaves m.focus fit.focus in
      let g : IsGoing d order m = record { fit = fit; idle = idle; goes = goes; order = refl } in
      let turned_round : reverse order ≡ reverse s.1 ++ m.focus ∷ reverse s.0 = ap reverse s.2 ∙ reverse-middle s.0 s.1 m.focus in
      let ahead = s.1 ++ s.0 ++ m.focus ∷ [] in
      let back = reverse s.0 ++ reverse s.1 ++ m.focus ∷ [] in
      record {
        before = s.0;
        after = s.1;
        order = s.2;
        once = free-rising d sound m.leaves;
        tabs =
            ap (λ n. foci d keys.Tab n m) (count order s.0 s.1 m.focus s.2)
            ∙ goes-round d keys.Tab order (IsGoing d order) (tab-turns order) ahead [] m s.0 s.1 g s.2 (sym (append-nil ahead));
        shift_tabs =
            ap (λ n. foci d keys.ShiftTab n m) (sym (length-reverse order) ∙ count (reverse order) (reverse s.1) (reverse s.0) m.focus turned_round)
            ∙ goes-round d keys.ShiftTab (reverse order) (IsGoing d order) (shift-turns order) back [] m (reverse s.1) (reverse s.0) g turned_round (sym (append-nil back));
      }
