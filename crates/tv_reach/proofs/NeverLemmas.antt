-- What there is a reason against, by a closed list of masks, is reached by no events.
use Rattle.std.proofs.Common.{◌≡◌, ◌≢◌, ◌⊎◌, inl, inr, true, false, ◌&&◌, ℕ, List, [], ◌∷◌, find, get_or, Option, Some, None, option_map, refl, sym, ap, subst, ◌∙◌, All, Any}
use Rattle.std.specs.Prelude.{slice_get}
use Rattle.std.proofs.lemmas.Bool.{and_parts, false≢true}
use Rattle.tv_event.specs.declared.event.Command.{Command}
use Rattle.tv_event.specs.declared.event.Event.{Event}
use Rattle.tv_valid.specs.Asking.{domain_of}
use Rattle.tv_model.specs.declared.command.CommandSpec.{CommandSpec}
use Rattle.tv_model.specs.declared.node.Id.{Id}
use Rattle.tv_model.specs.declared.kind.Kind.{Kind}
use Rattle.tv_model.specs.declared.kind.Kind.TheVariants as kinds
use Rattle.tv_model.specs.declared.desc.Desc.{Desc}
use Rattle.tv_model.specs.declared.desc.Dialog.{Dialog}
use Rattle.tv_model.specs.Controls.Contents.{Content, text_of}
use Rattle.tv_model.specs.Controls.Private.{Plain}
use Rattle.tv_model.specs.Description.Commands.{command_number, command_of}
use Rattle.tv_model.specs.Description.Nodes.{is_button, is_control, is_default}
use Rattle.tv_model.specs.Kinds.InputLine.{is_outside_domain}
use Rattle.tv_machine.specs.Controls.Declared.{declared_value}
use Rattle.tv_machine.specs.State.{LeafState, OpenDialog, State}
use Rattle.tv_machine.specs.Leaves.{PlacedNode, leaf_list}
use Rattle.tv_machine.specs.Dialog.Ending.{first_invalid, is_invalid_leaf}
use Rattle.tv_machine.specs.Dialog.Focus.{is_free_leaf, is_invalid}
use Rattle.tv_machine.specs.Dialog.Modal.{Modal, content_at, leaf_at}
use Rattle.tv_machine.specs.Dialog.Rules.{is_among, is_enabled, is_enabled_by, is_free, is_visible, state_of}
use Rattle.tv_machine.specs.Output.{states}
use Rattle.tv_machine.specs.Session.Commands.{modal_of}
use Rattle.tv_machine.specs.Session.Start.{start}
use Rattle.tv_machine.specs.Session.Step.{step}
use Rattle.tv_machine.proofs.LeafLemmas.{leaf_at-is, leaf_id}
use Rattle.tv_machine.proofs.ListLemmas.{found-all, has, none-fails, option_cases}
use Rattle.tv_machine.proofs.MarkLemmas.{value_by}
use Rattle.tv_laws.specs.Runs.{HasSoundDialogs, IsFitState, state_after}
use Rattle.tv_laws.proofs.RunLemmas.{reached-fit, start-fit, steps-fit}
use Rattle.tv_laws.proofs.WorkLemmas.{nothing}
use Rattle.tv_reach.specs.declared.answer.Reason.{Reason}
use Rattle.tv_reach.specs.declared.answer.Reason.TheVariants as reasons
use Rattle.tv_reach.specs.declared.goal.Goal.{Goal}
use Rattle.tv_reach.specs.declared.goal.Goal.TheVariants as goals
use Rattle.tv_reach.specs.declared.mask.Mask.{Mask}
use Rattle.tv_reach.specs.Givers.{IsByDefault, IsGiven}
use Rattle.tv_reach.specs.Goals.{HasEndedAt, IsFocusedAt, IsNeverReached, IsOpenAt, IsShownAt}
use Rattle.tv_reach.specs.Marks.{text_in}
use Rattle.tv_reach.specs.Masks.{Covers, IsClosed, MayEnable, MayShow}
use Rattle.tv_reach.specs.Never.{Blocks, DialogsRise, GivesEnd, HasNoGiver, IsNeverFree, IsNeverGiven, IsNeverOpened, IsReason, MayBeFree, MayEnableBy, MayGive, MayPress, MayShowField, NeverReached}
use Rattle.tv_reach.specs.Runs.{IsNeverShown, IsWithin, StaysWithin}
use Rattle.tv_reach.proofs.EndLemmas.{IsEndOf, IsOrderedEnd, start-endless, step-ends}
use Rattle.tv_reach.proofs.MaskLemmas.{at-any, enabled-may, visible-may}
use Rattle.tv_reach.proofs.OpeningLemmas.{IsElsewhere, never-open, start-elsewhere, step_elsewhere}
use Rattle.tv_reach.proofs.OpenStepLemmas.{found-any}
use Rattle.tv_reach.proofs.WithinLemmas.{runs-within, start-within, step-within}

-- ---- by a mask that covers the leaves

module _ (d : Dialog) (leaves : List LeafState) (mask : Mask) (covers : Covers d leaves mask) where
  by_enabled : (o : Option CommandSpec) → is_enabled_by d leaves o ≡ true → MayEnableBy d o mask
  by_enabled None e = tt
  by_enabled (Some command) e = enabled-may d leaves mask covers (command_number command) e

  -- what is free may be free
  free_may : (leaf : PlacedNode) → is_free d leaves leaf ≡ true → (is_control leaf.node.kind ≡ true) × MayBeFree d leaf mask
  free_may leaf free =
      let parts = and_parts (is_control leaf.node.kind) (is_visible d leaves leaf && is_enabled d leaves leaf.node) free in
      let both = and_parts (is_visible d leaves leaf) (is_enabled d leaves leaf.node) parts.1 in
      (parts.0, (visible-may d leaves mask covers leaf both.0, by_enabled (command_of leaf.node.kind) both.1))

module _ (d : Dialog) (m : Modal) (mask : Mask) (covers : Covers d m.leaves mask) (number : ℕ) where
  -- the default may be pressed
  by_default : (leaf : PlacedNode) → IsByDefault d m leaf → MayShowField d mask
  by_default leaf b =
      let free = free_may d m.leaves mask covers b.focus b.free in
      found-any (λ x. (is_control x.node.kind ≡ true) × (is_button x.node.kind ≡ false) × MayShow d x mask) (has leaf_id b.focus.node.id)
      (leaf_list d.views) b.focus b.there (free.0, b.field, free.1.0)

  shown_may : (leaf : PlacedNode) → (is_visible d m.leaves leaf ≡ true) ⊎ IsByDefault d m leaf
      → MayShow d leaf mask ⊎ ((is_default leaf.node ≡ true) × MayShowField d mask)
  shown_may leaf (inl visible) = inl (visible-may d m.leaves mask covers leaf visible)
  shown_may leaf (inr b) = inr (b.default, by_default leaf b)

  enabled_may : (o : Option CommandSpec) → option_map command_number o ≡ Some number → is_enabled_by d m.leaves o ≡ true → MayEnable d number mask
  enabled_may None gives on = absurd (nothing number gives)
  enabled_may (Some command) gives on =
      let same : command_number command ≡ number = cc in
      subst (λ (n : ℕ). MayEnable d n mask) same (enabled-may d m.leaves mask covers (command_number command) on)

  -- the button that gives the command may be pressed
  given_may : IsGiven d m number → Any (MayPress d number mask) (leaf_list d.views)
  given_may g =
      found-any (MayPress d number mask) (has leaf_id g.leaf.node.id) (leaf_list d.views) g.leaf g.there
      (record { gives = g.gives; enabled = enabled_may (command_of g.leaf.node.kind) g.gives g.enabled; pressed = shown_may g.leaf g.shown })

-- ---- texts

-- whether a text lies outside the domain goes by the text alone
invalid_by_text : (k : Kind) (c e : Content) → text_of c.value ≡ text_of e.value → is_invalid k c ≡ is_invalid k e
invalid_by_text (kinds.Input input) c e same = ap (is_outside_domain (domain_of input.spec)) same
invalid_by_text _ c e same = refl

-- where no input refuses the end, each has a text of its domain
all_valid : (d : Dialog) (m : Modal) → first_invalid d m ≡ None → All (λ leaf. is_invalid_leaf m leaf ≡ false) (leaf_list d.views)
all_valid d m valid =
    option_cases (find (is_invalid_leaf m) (leaf_list d.views))
    (λ o. find (is_invalid_leaf m) (leaf_list d.views) ≡ o → option_map leaf_id o ≡ None → All (λ leaf. is_invalid_leaf m leaf ≡ false) (leaf_list d.views))
    (λ is none e. none-fails (is_invalid_leaf m) (leaf_list d.views) none) (λ leaf is found e. absurd (nothing (leaf_id leaf) (sym e))) refl valid

-- a hidden input that starts with a text outside its domain refuses the end
blocked : (d : Dialog) (masks : List Mask) (m : Modal) (i : Id) → StaysWithin d masks m.leaves → Any (Blocks d masks i) (leaf_list d.views)
    → first_invalid d m ≡ None → ⊥
blocked d masks m i stays blocks valid =
    at-any (λ leaf. (is_invalid_leaf m leaf ≡ false)
    × (IsNeverShown d masks leaf → text_in m.leaves leaf.node.id ≡ text_of (declared_value leaf.node.kind))) (Blocks d masks i) (leaf_list d.views)
    (λ k leaf h. (all_valid d m valid k leaf h, stays.hidden k leaf h)) blocks of
  where
    of : (leaf : PlacedNode)
        → (is_invalid_leaf m leaf ≡ false)
        × (IsNeverShown d masks leaf → text_in m.leaves leaf.node.id ≡ text_of (declared_value leaf.node.kind))
        → Blocks d masks i leaf → ⊥
    of leaf both b =
        let start : Content = record { value = declared_value leaf.node.kind; private = Plain; overwrites = false } in
        let text : text_of (content_at m leaf.node.id).value ≡ text_of start.value
        = ap text_of (value_by (is_among m.overwriting leaf.node.id) (state_of m.leaves leaf.node.id)) ∙ both.1 b.hidden in
        false≢true (sym both.0 ∙ invalid_by_text leaf.node.kind (content_at m leaf.node.id) start text ∙ b.invalid)

-- ---- every run

module _ (d : Desc) (sound : HasSoundDialogs d) (rise : DialogsRise d) (place : ℕ) (dialog : Dialog)
    (there : slice_get d.dialogs place ≡ Some dialog) where
  same_dialog : (x : Dialog) → slice_get d.dialogs place ≡ Some x → x ≡ dialog
  same_dialog x is = let both : Some x ≡ Some dialog = sym is ∙ there in cc

  -- what is kept of a run, and refutes its end, does so in the whole run
  never_ends : (c : Command) (Kept : State → Type 0) → ((s : State) (e : Event) → IsFitState d s → Kept s → Kept (step d s e))
      → ((s : State) → IsFitState d s → Kept s → IsEndOf d place dialog c.0 s → ⊥)
      → (events : List Event) (s : State) → IsFitState d s → Kept s → (HasEndedAt d place c s → ⊥)
      → HasEndedAt d place c (states (step d) s events) → ⊥
  never_ends c Kept keeps refutes [] s f kept none h = none h
  never_ends c Kept keeps refutes (e ∷ events) s f kept none h =
      never_ends c Kept keeps refutes events (step d s e) (steps-fit d sound s e f) (keeps s e f kept)
      (λ ended. refutes s f kept (step-ends d sound rise place dialog there c s f e ended)) h

  -- ---- a dialog that nothing opens

  module _ (never : IsNeverOpened d dialog) where
    not_opened : (goal : Goal) → IsNeverReached d place goal
    not_opened goals.Opens events h = never-open d place dialog there never sound events h.«open» h.is h.here
    not_opened (goals.Focuses i) events h = never-open d place dialog there never sound events h.at.«open» h.at.is h.at.here
    not_opened (goals.Shows i) events h = never-open d place dialog there never sound events h.at.«open» h.at.is h.at.here
    not_opened (goals.Ends c) events h =
        never_ends c (IsElsewhere d place dialog there never)
        (λ s e f elsewhere. step_elsewhere d place dialog there never sound s e f elsewhere)
        (λ s f elsewhere x. elsewhere x.«open» x.some x.at) events (start d) (start-fit d sound)
        (start-elsewhere d place dialog there never sound) (start-endless d sound place c) h

  module _ (masks : List Mask) (closed : IsClosed dialog masks) where
    -- ---- ends

    never_given : (c : Command) → c.0 ≢ 11 → ((s : State) (o : OpenDialog) → StaysWithin dialog masks o.leaves
        → IsGiven dialog (modal_of s o) c.0 ⊎ IsOrderedEnd d dialog (modal_of s o) c.0 → ⊥)
        → IsNeverReached d place (goals.Ends c)
    never_given c no_cancel refutes events h =
        never_ends c (IsWithin place dialog masks) (λ s e f w. step-within d sound place dialog there masks closed s f w e)
        (λ s f w x. of s w x x.how) events (start d) (start-fit d sound) (start-within d sound place dialog there masks closed)
        (start-endless d sound place c) h
      where
        of : (s : State) → IsWithin place dialog masks s → (x : IsEndOf d place dialog c.0 s)
            → (c.0 ≡ 11) ⊎ (IsGiven dialog (modal_of s x.«open») c.0 ⊎ IsOrderedEnd d dialog (modal_of s x.«open») c.0) → ⊥
        of s w x (inl cancel) = no_cancel cancel
        of s w x (inr given) = refutes s x.«open» (w.«open» x.«open» x.some x.at) given

    not_given : (c : Command) → c.0 ≢ 11 → IsNeverGiven d dialog masks c.0 → IsNeverReached d place (goals.Ends c)
    not_given c no_cancel never =
        never_given c no_cancel
        (λ s o stays given.
        at-any (λ mask. MayGive d dialog c.0 mask → ⊥) (Covers dialog o.leaves) masks never stays.rules
        (λ mask no covers. no (of s o mask covers given)))
      where
        of : (s : State) (o : OpenDialog) (mask : Mask) → Covers dialog o.leaves mask
            → IsGiven dialog (modal_of s o) c.0 ⊎ IsOrderedEnd d dialog (modal_of s o) c.0 → MayGive d dialog c.0 mask
        of s o mask covers (inl g) = inl (given_may dialog (modal_of s o) mask covers c.0 g)
        of s o mask covers (inr g) = inr (g.status, enabled-may dialog o.leaves mask covers c.0 g.enabled)

    no_giver : (number : ℕ) → HasNoGiver d dialog number → IsNeverGiven d dialog masks number
    no_giver number none = λ k mask h. of (get_or masks k mask)
      where
        of : (mask : Mask) → MayGive d dialog number mask → ⊥
        of mask (inl press) =
            at-any (λ leaf. GivesEnd number leaf → ⊥) (MayPress dialog number mask) (leaf_list dialog.views) none.buttons press
            (λ leaf no p. no p.gives)
        of mask (inr status) = none.status status.0

    is_blocked : (c : Command) (i : Id) → c.0 ≢ 11 → Any (Blocks dialog masks i) (leaf_list dialog.views) → IsNeverReached d place (goals.Ends c)
    is_blocked c i no_cancel blocks =
        never_given c no_cancel (λ s o stays given. blocked dialog masks (modal_of s o) i stays blocks (valid s o given))
      where
        valid : (s : State) (o : OpenDialog) → IsGiven dialog (modal_of s o) c.0 ⊎ IsOrderedEnd d dialog (modal_of s o) c.0
            → first_invalid dialog (modal_of s o) ≡ None
        valid s o (inl g) = g.valid
        valid s o (inr g) = g.valid

    -- ---- focus and views

    module _ (events : List Event) where
      abbrev reached : State
      reached = state_after d events

      stays_open : (at : IsOpenAt d place reached) → StaysWithin dialog masks at.«open».leaves
      stays_open at = (runs-within d sound place dialog masks events there closed).«open» at.«open» at.is at.here

      -- an id means one leaf
      of_id : (P : PlacedNode → Type 0) (i : Id) (leaf : PlacedNode) → All (λ x. x.node.id ≡ i → P x) (leaf_list dialog.views)
          → leaf_at dialog i ≡ Some leaf → P leaf
      of_id P i leaf all is =
          found-all (λ x. x.node.id ≡ i → P x) (has leaf_id i) (leaf_list dialog.views) leaf all is (leaf_at-is dialog i leaf is)

      refuses : (leaf : PlacedNode) (leaves : List LeafState) → StaysWithin dialog masks leaves → is_free dialog leaves leaf ≡ true
          → IsNeverFree dialog masks leaf → ⊥
      refuses leaf leaves stays free (inl none) =
          false≢true (sym none ∙ (and_parts (is_control leaf.node.kind) (is_visible dialog leaves leaf && is_enabled dialog leaves leaf.node) free).0)
      refuses leaf leaves stays free (inr never) =
          at-any (λ mask. MayBeFree dialog leaf mask → ⊥) (Covers dialog leaves) masks never stays.rules
          (λ mask no covers. no (free_may dialog leaves mask covers leaf free).1)

      not_free : (i : Id) → All (λ leaf. leaf.node.id ≡ i → IsNeverFree dialog masks leaf) (leaf_list dialog.views)
          → IsFocusedAt d place i reached → ⊥
      not_free i never h =
          let o = h.at.«open» in
          let x = (reached-fit d sound events).«open» o h.at.is in
          let both : Some x.dialog ≡ Some dialog = sym x.there ∙ ap (slice_get d.dialogs) h.at.here ∙ there in
          let same : x.dialog ≡ dialog = cc in
          let free : is_free_leaf dialog o.leaves (leaf_at dialog i) ≡ true
          = subst (λ j. is_free_leaf dialog o.leaves (leaf_at dialog j) ≡ true) h.focus
          (subst (λ y. is_free_leaf y o.leaves (leaf_at y o.focus) ≡ true) same x.fit.focus) in
          option_cases (leaf_at dialog i) (λ y. leaf_at dialog i ≡ y → is_free_leaf dialog o.leaves y ≡ true → ⊥)
          (λ is none e. false≢true e)
          (λ leaf is found e. refuses leaf o.leaves (stays_open h.at) e (of_id (IsNeverFree dialog masks) i leaf never found)) refl free

      not_shown : (i : Id) → All (λ leaf. leaf.node.id ≡ i → IsNeverShown dialog masks leaf) (leaf_list dialog.views)
          → IsShownAt d place i reached → ⊥
      not_shown i never h =
          let same = same_dialog h.at.dialog h.at.there in
          let found : leaf_at dialog i ≡ Some h.leaf = subst (λ y. leaf_at y i ≡ Some h.leaf) same h.there in
          let visible : is_visible dialog h.at.«open».leaves h.leaf ≡ true
          = subst (λ y. is_visible y h.at.«open».leaves h.leaf ≡ true) same h.visible in
          at-any (λ mask. MayShow dialog h.leaf mask → ⊥) (Covers dialog h.at.«open».leaves) masks
          (of_id (IsNeverShown dialog masks) i h.leaf never found) (stays_open h.at).rules
          (λ mask no covers. no (visible-may dialog h.at.«open».leaves mask covers h.leaf visible))

    -- ---- reasons

    by_reason : (goal : Goal) (why : Reason) → IsReason d dialog masks goal why → IsNeverReached d place goal
    by_reason goals.Opens reasons.NotOpened h = not_opened h goals.Opens
    by_reason (goals.Ends c) reasons.NotOpened h = not_opened h (goals.Ends c)
    by_reason (goals.Focuses i) reasons.NotOpened h = not_opened h (goals.Focuses i)
    by_reason (goals.Shows i) reasons.NotOpened h = not_opened h (goals.Shows i)
    by_reason (goals.Ends c) reasons.NoGiver h = not_given c h.1.0 (no_giver c.0 h.1.1)
    by_reason (goals.Ends c) reasons.NotGiven h = not_given c h.1.0 h.1.1
    by_reason (goals.Ends c) (reasons.Blocked i) h = is_blocked c i h.1.0 h.1.1
    by_reason (goals.Ends c) reasons.NotFree h = absurd h.1
    by_reason (goals.Ends c) reasons.NotShown h = absurd h.1
    by_reason (goals.Focuses i) reasons.NotFree h = λ events. not_free events i h.1
    by_reason (goals.Focuses i) reasons.NoGiver h = absurd h.1
    by_reason (goals.Focuses i) reasons.NotGiven h = absurd h.1
    by_reason (goals.Focuses i) (reasons.Blocked j) h = absurd h.1
    by_reason (goals.Focuses i) reasons.NotShown h = absurd h.1
    by_reason (goals.Shows i) reasons.NotShown h = λ events. not_shown events i h.1
    by_reason (goals.Shows i) reasons.NoGiver h = absurd h.1
    by_reason (goals.Shows i) reasons.NotGiven h = absurd h.1
    by_reason (goals.Shows i) (reasons.Blocked j) h = absurd h.1
    by_reason (goals.Shows i) reasons.NotFree h = absurd h.1
    by_reason goals.Opens reasons.NoGiver h = absurd h.1
    by_reason goals.Opens reasons.NotGiven h = absurd h.1
    by_reason goals.Opens (reasons.Blocked j) h = absurd h.1
    by_reason goals.Opens reasons.NotFree h = absurd h.1
    by_reason goals.Opens reasons.NotShown h = absurd h.1

pub never-reached : (d : Desc) → HasSoundDialogs d → DialogsRise d → NeverReached d
never-reached d sound rise place dialog masks goal why there closed reason = by_reason d sound rise place dialog there masks closed goal why reason
