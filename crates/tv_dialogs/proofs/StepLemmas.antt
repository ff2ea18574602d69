-- What the open dialog makes of an event is what the machine makes of it.
use Rattle.std.proofs.Common.{◌≡◌, ◌<◌, ◌==◌, ◌++◌, ℕ, List, Bool, true, false, not, ◌&&◌, if◌then◌else◌, [], length, Option, Some, None, is_some, option_map, refl, sym, ap, subst, ◌∙◌}
use Rattle.std.specs.Prelude.{is_none, slice_get, slice_index_or, slice_set, unwrap_or}
use Rattle.std.specs.Bool.{then_some}
use Rattle.std.proofs.lemmas.List.Elements.{All-nil}
use Rattle.std.proofs.lemmas.Option.{slice_get_within}
use Rattle.tv_cells.specs.Layers.{cell_over}
use Rattle.tv_cells.specs.declared.rect.Rect.{Rect}
use Rattle.tv_event.specs.declared.event.Command.{Command}
use Rattle.tv_event.specs.declared.event.Event.{Event}
use Rattle.tv_model.specs.declared.desc.Desc.{Desc}
use Rattle.tv_model.specs.declared.desc.Dialog.{Dialog}
use Rattle.tv_view.specs.Meaning.{Leaf}
use Rattle.tv_machine.specs.State.{OpenDialog, State}
use Rattle.tv_machine.specs.Dialog.Ending.{fields_of}
use Rattle.tv_machine.specs.Dialog.Modal.{Modal}
use Rattle.tv_machine.specs.Dialog.Step.{dialog_step}
use Rattle.tv_machine.specs.Session.Commands.{after_work, modal_of, overwriting_at, works}
use Rattle.tv_machine.specs.Session.Step.{dialog_with_hold, event_from, to_dialog}
use Rattle.tv_machine.specs.Screen.Layers.{open_layers}
use Rattle.tv_machine.proofs.ListLemmas.{option_cases}
use Rattle.tv_group.specs.Calls.{all_gathered, any_holds}
use Rattle.tv_group.specs.Opened.{opened}
use Rattle.tv_laws.specs.Ends.{NamesEndOf}
use Rattle.tv_laws.specs.Steps.{RespectsHold}
use Rattle.tv_laws.proofs.StepLemmas.{stays-fit}
use Rattle.tv_group.proofs.Tree.Mouse.TakenLemmas.{any-holds}
use Rattle.tv_dialog.proofs.StandsLemmas.{some-kept}
use Rattle.tv_dialog.specs.Standing.{Stands, end_number}
use Rattle.tv_dialog.specs.Stepping.{begun_anew}
use Rattle.tv_dialogs.specs.Damage.{OpenAlike}
use Rattle.tv_dialogs.specs.Dialogs.{AreDialogs, AreOfRun, IsOpenAmong, at_work, lines_by, log_of_last, kept_at}
use Rattle.tv_dialogs.specs.Handed.{is_dropped}
use Rattle.tv_dialogs.specs.Kept.{IsReady, holds_after, may_hold, saves, values_after}
use Rattle.tv_dialogs.specs.declared.kept.Kept.{Kept}
use Rattle.tv_dialogs.specs.declared.dialogs.DialogsOf.{DialogsOf}
use Rattle.tv_dialogs.proofs.DroppedLemmas.{dropped-still}
use Rattle.tv_dialogs.proofs.HoldLemmas.{asked-where, respects-from, unheld-stays}
use Rattle.tv_dialogs.proofs.KeptLemmas.{has-ended, stays-open}
use Rattle.tv_dialogs.proofs.PlaceLemmas.{get-set-same, set-itself, there-is}
use Rattle.tv_dialogs.proofs.PlacedLemmas.{read-declared, read-kept}
use Rattle.tv_dialogs.proofs.RunLemmas.{open-fit, open-ready, sound-open}
use Rattle.tv_dialogs.proofs.ValueLemmas.{stands-values}

-- ---- what is read at its place

module _ {V : Type 0} (look : V → Leaf) (d : Desc) (s : State) (dialogs : DialogsOf V) (run : AreOfRun look d s dialogs) (o : OpenDialog) (is : s.dialog ≡ Some o)
    (place : ℕ) (opens : dialogs.open ≡ Some place) (declared : Dialog) (kept : Kept V)
    (reads : declared ≡ slice_index_or d.dialogs place declared) (has : kept ≡ slice_index_or dialogs.kept.items place kept) where
  abbrev open_one : IsOpenAmong look d s o dialogs.kept.items
  open_one = run.are.at o is

  declared_is : declared ≡ open_one.dialog
  declared_is = read-declared look d s dialogs run.are place opens o is declared reads

  kept_is : kept ≡ open_one.kept
  kept_is = read-kept look d s dialogs run.are place opens o is kept has

  -- it may be handed an event
  pub read-ready : IsReady look declared (at_work s o kept.dialog.log.items) kept.dialog
  read-ready =
      subst (λ k. IsReady look declared (at_work s o k.dialog.log.items) k.dialog) (sym kept_is)
      (subst (λ x. IsReady look x (at_work s o open_one.kept.dialog.log.items) open_one.kept.dialog) (sym declared_is) (open-ready look d s dialogs run o is))

  -- it stands where the machine's does
  pub read-corner : kept.dialog.corner ≡ o.origin
  read-corner = ap (λ k. k.dialog.corner) kept_is ∙ open_one.corner

  pub read-sheet : kept.dialog.sheet ≡ o.sheet
  read-sheet = ap (λ k. k.dialog.sheet) kept_is ∙ open_one.sheet

  -- what comes of it
  pub read-stands : (e : Event) (after : Kept V)
      → ((m : Modal) → IsReady look declared m kept.dialog
      → Stands look declared (dialog_step declared (event_from kept.dialog.corner e) (begun_anew m)).leaves
      (dialog_step declared (event_from kept.dialog.corner e) (begun_anew m)) after.dialog)
      → Stands look open_one.dialog (dialog_step open_one.dialog (event_from o.origin e) (modal_of s o)).leaves
      (dialog_step open_one.dialog (event_from o.origin e) (modal_of s o)) after.dialog
  read-stands e after steps =
      subst (λ p. Stands look open_one.dialog (dialog_step open_one.dialog (event_from p e) (modal_of s o)).leaves
      (dialog_step open_one.dialog (event_from p e) (modal_of s o)) after.dialog) read-corner
      (subst (λ x. Stands look x (dialog_step x (event_from kept.dialog.corner e) (modal_of s o)).leaves
      (dialog_step x (event_from kept.dialog.corner e) (modal_of s o)) after.dialog) declared_is
      (steps (at_work s o kept.dialog.log.items) read-ready))

-- ---- how it ended

-- an open dialog keeps what it had
saves-going : (ended : Option Command) → end_number ended ≡ None → saves ended ≡ false
saves-going None going = refl
saves-going (Some command) going = absurd cc

-- one that ended keeps its values unless by this command
saves-ended : (ended : Option Command) (number : ℕ) → end_number ended ≡ Some number → saves ended ≡ not (number == 11)
saves-ended None number ends = absurd cc
saves-ended (Some command) number ends = let same : command.0 ≡ number = cc in ap (λ n. not (n == 11)) same

turned-round : {A : Type 0} (b : Bool) (x y : A) → (if not b then y else x) ≡ (if b then x else y)
turned-round true x y = refl
turned-round false x y = refl

-- ---- the machine's work

-- what the machine logs of the work of its open dialog
worked-log : (s : State) (o : OpenDialog) (m : Modal) (over : Option ℕ) → (after_work s o m over).log ≡ s.log ++ m.log
worked-log s o m None = refl
worked-log s o m (Some number) = refl

module _ {V : Type 0} (look : V → Leaf) (d : Desc) (s : State) (old : DialogsOf V) (run : AreOfRun look d s old) (o : OpenDialog) (is : s.dialog ≡ Some o)
    (e : Event) where
  abbrev among : IsOpenAmong look d s o old.kept.items
  among = run.are.at o is

  -- the machine's dialog after the event
  abbrev pub stepped : Modal
  stepped = dialog_step among.dialog (event_from o.origin e) (modal_of s o)

  -- the state after it
  state-is : works s o (λ dialog m. dialog_step dialog (event_from o.origin e) m) (Some among.dialog) ≡ to_dialog d o e s
  state-is = ap (works s o (λ dialog m. dialog_step dialog (event_from o.origin e) m)) (sym among.there)

  pub stepped-log : (to_dialog d o e s).log ≡ s.log ++ stepped.log
  stepped-log = sym (ap (λ t. t.log) state-is) ∙ worked-log s o stepped stepped.ended

  -- ---- the mouse

  was-held : old.is_held ≡ is_some o.held
  was-held = run.are.held ∙ ap (λ x. is_some (dialog_with_hold x)) is ∙ some-kept (is_some o.held) o

  pub held-stepped : (after : Kept V) → Stands look among.dialog stepped.leaves stepped after.dialog → RespectsHold o.held e
      → holds_after look old.is_held e after.dialog ≡ (after.dialog.is_open && is_some stepped.held)
  held-stepped after stands given =
      let sound = sound-open look d s old run o is in
      let m : Modal = modal_of s o in
      let done = stays-fit among.dialog sound m (event_from o.origin e)
      (record { fit = open-fit d s o is run.fit among.dialog among.there; log = All-nil (NamesEndOf among.dialog); going = refl }) (respects-from o.held o.origin e given) in
      asked-where after.dialog.is_open (may_hold old.is_held e) (any_holds (opened look after.dialog.body)) stepped.held
      (λ may. ap any_holds stands.tree ∙ any-holds among.dialog stepped.leaves stepped (λ held h. ap is_some (done.fit.held held h).there))
      (λ may. unheld-stays among.dialog sound.lawful e o.origin m old.is_held was-held may)

  -- ---- an event that is handed to it

  module _ (new : DialogsOf V) (after : Kept V) (written : new.kept.items ≡ slice_set old.kept.items o.place after) (stands : Stands look among.dialog stepped.leaves stepped after.dialog) where
    pub handed-log : new.last ≡ Some o.place → (to_dialog d o e s).log ≡ s.log ++ log_of_last new
    handed-log last =
        let found : kept_at new new.last ≡ Some after =
        ap (kept_at new) last ∙ ap (λ xs. slice_get xs o.place) written
        ∙ get-set-same old.kept.items o.place after (slice_get_within old.kept.items o.place among.kept among.found) in
        stepped-log ∙ ap (λ ls. s.log ++ ls) (sym stands.log ∙ sym (ap lines_by found))

    module _ (lent : new.commands ≡ old.commands) (opens : new.open ≡ then_some after.dialog.is_open o.place)
        (holds : new.is_held ≡ (after.dialog.is_open && is_some stepped.held)) (corner : after.dialog.corner ≡ o.origin) (lies : after.dialog.sheet ≡ o.sheet)
        (values : after.values ≡ values_after look among.kept.values after.dialog) where
      values_going : stepped.ended ≡ None → after.values ≡ among.kept.values
      values_going going =
          values ∙ ap (λ b. if b then all_gathered (opened look after.dialog.body) [] else among.kept.values)
          (saves-going after.dialog.ended (stands.ended ∙ going))

      values_ended : (number : ℕ) → stepped.ended ≡ Some number
          → after.values ≡ (if number == 11 then among.kept.values else fields_of stepped.leaves)
      values_ended number ends =
          values ∙ ap (λ b. if b then all_gathered (opened look after.dialog.body) [] else among.kept.values)
          (saves-ended after.dialog.ended number (stands.ended ∙ ends))
          ∙ turned-round (number == 11) among.kept.values (all_gathered (opened look after.dialog.body) [])
          ∙ ap (λ xs. if number == 11 then among.kept.values else xs)
          (stands-values look among.dialog (sound-open look d s old run o is).lawful stepped.leaves stepped after.dialog stands)

      pub handed-dialogs : AreDialogs look d (to_dialog d o e s) new
      handed-dialogs =
          subst (λ t. AreDialogs look d t new) state-is
          (option_cases stepped.ended (λ over. AreDialogs look d (after_work s o stepped over) new)
          (λ none.
          let going : after.dialog.is_open ≡ true = stands.open ∙ ap is_none none in
          stays-open look d s old new run.are o.place among.dialog among.there among.kept after among.found written lent stepped
          o.origin o.sheet (s.log ++ stepped.log) corner lies among.near none (opens ∙ ap (λ b. then_some b o.place) going) (holds ∙ ap (λ b. b && is_some stepped.held) going) (values_going none)
          (subst (λ ls. Stands look among.dialog stepped.leaves (record stepped { log = ls }) after.dialog) (sym stands.log) stands))
          (λ number some.
          let shut : after.dialog.is_open ≡ false = stands.open ∙ ap is_none some in
          has-ended look d s old new run.are o.place among.dialog among.there among.kept after among.found written lent stepped
          number (s.log ++ stepped.log) (opens ∙ ap (λ b. then_some b o.place) shut) (holds ∙ ap (λ b. b && is_some stepped.held) shut)
          (values_ended number some) stands))

  -- ---- an event that is dropped

  module _ (new : DialogsOf V) (dropped : is_dropped e ≡ true) (kept : new.kept ≡ old.kept) where
    still : stepped ≡ modal_of s o
    still = dropped-still among.dialog o.origin e (modal_of s o) dropped

    pub dropped-log : new.last ≡ None → (to_dialog d o e s).log ≡ s.log ++ log_of_last new
    dropped-log last = stepped-log ∙ ap (λ m. s.log ++ m.log) still ∙ ap (λ ls. s.log ++ ls) (sym (ap lines_by (ap (kept_at new) last)))

    pub dropped-dialogs : new.commands ≡ old.commands → new.open ≡ old.open → new.is_held ≡ old.is_held → AreDialogs look d (to_dialog d o e s) new
    dropped-dialogs lent opens holds =
        subst (λ t. AreDialogs look d t new) state-is
        (subst (λ m. AreDialogs look d (after_work s o m m.ended) new) (sym still)
        (stays-open look d s old new run.are o.place among.dialog among.there among.kept among.kept among.found
        (ap (λ v. v.items) kept ∙ sym (set-itself old.kept.items o.place among.kept among.found)) lent (modal_of s o)
        o.origin o.sheet (s.log ++ []) among.corner among.sheet among.near refl (opens ∙ run.are.place ∙ ap (λ x. option_map (λ y. y.place) x) is) (holds ∙ was-held) refl among.stands))

  -- the dialog shows what it showed
  pub dropped-alike : is_dropped e ≡ true → (damage : List Rect) → OpenAlike d damage s (to_dialog d o e s)
  dropped-alike dropped damage =
      let less : o.place < length s.overwriting = subst (λ (n : ℕ). o.place < n) (sym run.are.overwriting) (slice_get_within d.dialogs o.place among.dialog among.there) in
      let there = there-is s.overwriting o.place less in
      let same : slice_set s.overwriting o.place (overwriting_at s o.place) ≡ s.overwriting =
      set-itself s.overwriting o.place (overwriting_at s o.place) (there.1 ∙ ap (λ x. Some (unwrap_or x [])) (sym there.1)) in
      subst (λ t. OpenAlike d damage s t) state-is
      (subst (λ m. OpenAlike d damage s (after_work s o m m.ended)) (sym (dropped-still among.dialog o.origin e (modal_of s o) dropped))
      (λ p. record {
        each = λ column row on off under.
            ap (λ x. cell_over (open_layers d s.overwriting x) column row under) is
            ∙ ap (λ ids. cell_over (open_layers d ids (Some o)) column row under) (sym same);
      }))
