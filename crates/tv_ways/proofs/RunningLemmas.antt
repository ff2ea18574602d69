-- What is read off a run reaches the goal.
use Rattle.std.proofs.Common.{◌≡◌, ◌∙◌, ℕ, suc, ◌+◌, ◌<◌, ◌==◌, Bool, true, false, ◌&&◌, ◌||◌, List, [], ◌∷◌, ◌++◌, Some, is_some, option_map, slice_get, refl, sym, ap, subst, Contains, arith}
use Rattle.std.specs.List.{list_any}
use Rattle.std.proofs.Common.{inl, inr}
use Rattle.std.proofs.lemmas.Bool.{cases_lt, false≢true}
use Rattle.tv_event.specs.declared.event.Command.{Command}
use Rattle.tv_model.specs.declared.desc.Desc.{Desc}
use Rattle.tv_model.specs.declared.desc.Dialog.{Dialog}
use Rattle.tv_model.specs.declared.log.LogLine.{LogLine}
use Rattle.tv_model.specs.declared.log.LogLine.TheVariants as lines
use Rattle.tv_model.specs.declared.node.Id.{Id}
use Rattle.tv_model.specs.Description.Nodes.{is_control, node_of}
use Rattle.tv_machine.proofs.LeafLemmas.{among-views, leaf_at-in, leaf_at-is}
use Rattle.tv_machine.proofs.ListLemmas.{bool_cases, found-among, id-itself, option_cases, same-id}
use Rattle.tv_machine.specs.Dialog.Focus.{is_free_at, is_free_leaf}
use Rattle.tv_machine.specs.Dialog.Modal.{leaf_at}
use Rattle.tv_machine.specs.Dialog.Rules.{is_enabled, is_visible}
use Rattle.tv_machine.specs.Dialog.Sound.{HasSoundDialogs, IsSoundDialog}
use Rattle.tv_machine.specs.Leaves.{PlacedNode}
use Rattle.tv_machine.specs.Output.{states}
use Rattle.tv_machine.specs.State.{LeafState, OpenDialog, State}
use Rattle.tv_laws.proofs.WorkLemmas.{get_all}
use Rattle.tv_laws.specs.Runs.{IsFitOpen, IsFitState}
use Rattle.tv_reach.specs.Goals.{IsOpenAt}
use Rattle.tv_ways.specs.Refusing.{IsRefusedAt}
use Rattle.tv_ways.specs.Running.{IsOnlyIn, IsReadAt, is_end_line}

-- ---- one event more

pub states_more : {S E : Type 0} (next : S → E → S) (s : S) (es : List E) (e : E) → states next s (es ++ e ∷ []) ≡ next (states next s es) e
states_more next s [] e = refl
states_more next s (first ∷ es) e = states_more next (next s first) es e

-- ---- the line of an end

both : (a b : Bool) → (a && b) ≡ true → (a ≡ true) × (b ≡ true)
both true b e = (refl, e)
both false b e = absurd (false≢true e)

same-command : (c d : Command) → (c.0 == d.0) ≡ true → c ≡ d
same-command c d e = ap (λ i. let command : Command = record { 0 = i.0 } in command) (same-id (record { 0 = c.0 }) (record { 0 = d.0 }) e)

line_is : (i : Id) (c : Command) (line : LogLine) → is_end_line i c line ≡ true → line ≡ lines.End i c
line_is i c (lines.End other by) e =
    let parts = both (other.0 == i.0) (by.0 == c.0) e in
    ap (λ id. lines.End id by) (same-id other i parts.0) ∙ ap (λ command. lines.End i command) (same-command by c parts.1)
line_is i c _ e = absurd (false≢true e)

pub contains_end : (i : Id) (c : Command) (log : List LogLine) → list_any (is_end_line i c) log ≡ true → Contains log (lines.End i c)
contains_end i c [] e = absurd (false≢true e)
contains_end i c (line ∷ log) e =
    bool_cases (is_end_line i c line) (λ b. (b || list_any (is_end_line i c) log) ≡ true → Contains (line ∷ log) (lines.End i c))
    (λ is f. (0, omega arith, line_is i c line is))
    (λ is f. let later = contains_end i c log f in (suc later.0, omega (arith, later.1), later.2)) e

-- ---- a view that no other dialog has

-- the dialogs before a place
abbrev pub IsOnlyBefore : List Dialog → ℕ → Id → ℕ → Type 0
IsOnlyBefore dialogs place i end =
    (at : ℕ) (dialog : Dialog) → at < end → slice_get dialogs at ≡ Some dialog → is_some (node_of dialog.views i) ≡ true → at ≡ place

pub only_more : (dialogs : List Dialog) (place n : ℕ) (i : Id) (dialog : Dialog) → slice_get dialogs n ≡ Some dialog
    → (is_some (node_of dialog.views i) ≡ true → n ≡ place) → IsOnlyBefore dialogs place i n → IsOnlyBefore dialogs place i (n + 1)
only_more dialogs place n i dialog there own before at other less found has =
    elim (cases_lt at n) [
      | inl earlier ↦ before at other earlier found has
      | inr here ↦
          let e : at ≡ n = omega (arith, less, here) in
          let both : Some other ≡ Some dialog = sym (subst (λ k. slice_get dialogs k ≡ Some other) e found) ∙ there in
          let same : other ≡ dialog = cc in
          e ∙ own (subst (λ d. is_some (node_of d.views i) ≡ true) same has)
    ]

-- ---- the focus

visible_of : (a b c : Bool) → (a && (b && c)) ≡ true → b ≡ true
visible_of true true c e = refl
visible_of true false c e = e
visible_of false b c e = absurd (false≢true e)

-- a leaf that is free to focus, by its id
free_leaf : (d : Dialog) (leaves : List LeafState) (i : Id) → is_free_at d leaves i ≡ true
    → (leaf : PlacedNode) × (leaf_at d i ≡ Some leaf) × (is_visible d leaves leaf ≡ true)
free_leaf d leaves i free =
    option_cases (leaf_at d i)
    (λ found. is_free_leaf d leaves found ≡ true → (leaf : PlacedNode) × (found ≡ Some leaf) × (is_visible d leaves leaf ≡ true))
    (λ none e. absurd (false≢true e))
    (λ leaf is e. (leaf, refl, visible_of (is_control leaf.node.kind) (is_visible d leaves leaf) (is_enabled d leaves leaf.node) e)) free

-- it is a view of the dialog
view_of : (d : Dialog) (i : Id) (leaf : PlacedNode) → IsSoundDialog d → leaf_at d i ≡ Some leaf → is_some (node_of d.views i) ≡ true
view_of d i leaf sound e =
    let among = among-views d sound.lawful leaf (leaf_at-in d sound.lawful i leaf e) in
    let own : is_some (node_of d.views leaf.node.id) ≡ true = found-among (λ view. view.id) d.views leaf.node.id ∙ among in
    subst (λ id. is_some (node_of d.views id) ≡ true) (leaf_at-is d i leaf e) own

focused_open : (d : Desc) (place : ℕ) (i : Id) (s : State) (o : OpenDialog) → HasSoundDialogs d → IsOnlyIn d place i → s.dialog ≡ Some o → IsFitOpen d s o → o.focus ≡ i
    → IsReadAt d place i s
focused_open d place i s o sound only is fit focus =
    let leaf = free_leaf fit.dialog o.leaves o.focus fit.fit.focus in
    let has = view_of fit.dialog o.focus leaf.0 (get_all IsSoundDialog d.dialogs o.place fit.dialog sound fit.there) leaf.1 in
    let here : o.place ≡ place = only o.place fit.dialog fit.there (subst (λ id. is_some (node_of fit.dialog.views id) ≡ true) focus has) in
    let at : IsOpenAt d place s = record {
      dialog = fit.dialog;
      there = subst (λ n. slice_get d.dialogs n ≡ Some fit.dialog) here fit.there;
      «open» = o;
      is = is;
      here = here;
    } in (
      record { at = at; focus = focus },
      record { at = at; leaf = leaf.0; there = subst (λ id. leaf_at fit.dialog id ≡ Some leaf.0) focus leaf.1; visible = leaf.2 },
    )

pub focused : (d : Desc) (place : ℕ) (i : Id) (s : State) → HasSoundDialogs d → IsFitState d s → IsOnlyIn d place i
    → option_map (λ (o : OpenDialog). o.focus) s.dialog ≡ Some i → IsReadAt d place i s
focused d place i s sound fit only e =
    option_cases s.dialog
    (λ found. option_map (λ (o : OpenDialog). o.focus) found ≡ Some i → s.dialog ≡ found → IsReadAt d place i s)
    (λ none f is. absurd cc)
    (λ o some f is. focused_open d place i s o sound only is (fit.«open» o is) cc) e refl

-- an input has refused, and another control has the focus
pub refused : (d : Desc) (place : ℕ) (focus input : Id) (s : State) → IsReadAt d place focus s → Contains s.log (lines.Invalid input)
    → (focus.0 == input.0) ≡ false → IsRefusedAt d place input s
refused d place focus input s read logged apart = record {
  at = read.0.at;
  logged = logged;
  elsewhere = λ same. absurd (false≢true (sym (subst (λ (i : Id). (focus.0 == i.0) ≡ false) (sym (sym read.0.focus ∙ same)) apart) ∙ id-itself focus));
}
