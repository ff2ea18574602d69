-- A dialog stays steady, and what holds the mouse stays so, whatever a view asks for.
use Rattle.std.proofs.Common.{◌≡◌, ℕ, ◌||◌, ◌==◌, nat_le, Option, Some, None, if◌then◌else◌, refl, ◌∙◌}
use Rattle.tv_event.specs.declared.event.Event.TheVariants as events
use Rattle.tv_event.specs.declared.event.Key.{Key}
use Rattle.tv_model.specs.declared.node.Id.{Id}
use Rattle.tv_model.specs.declared.command.CommandSpec.{CommandSpec}
use Rattle.tv_model.specs.declared.desc.Dialog.{Dialog}
use Rattle.tv_model.specs.declared.log.LogLine.TheVariants as lines
use Rattle.tv_model.specs.Description.Commands.{command_number, command_of, is_declared}
use Rattle.tv_model.specs.Description.Heads.{dialog_head}
use Rattle.tv_machine.specs.Leaves.{PlacedNode}
use Rattle.tv_machine.specs.Dialog.Ending.{command, end_by, ended, first_invalid, press, pressed_by, shown_invalid}
use Rattle.tv_machine.specs.Dialog.Focus.{focus_moved, is_free_at, is_granted, request, request_then, requested}
use Rattle.tv_machine.specs.Dialog.Keys.{press_enabled}
use Rattle.tv_machine.specs.Dialog.Modal.{Modal, with_line}
use Rattle.tv_machine.specs.Dialog.Rules.{is_enabled}
use Rattle.tv_view.specs.declared.env.Env.{Env}
use Rattle.tv_view.specs.declared.reaction.Reaction.{Reaction}
use Rattle.tv_machine.specs.Dialog.Lawful.{IsLawfulDialog}
use Rattle.tv_group.specs.Tree.{IsSteady, tree_of}
use Rattle.tv_group.specs.TreeTurns.{phases_answer, pressed_at}
use Rattle.tv_group.proofs.Tree.FocusTreeLemmas.{steady-request}
use Rattle.tv_group.proofs.Tree.Keys.KeyLemmas.{KeyTurn}
use Rattle.tv_machine.proofs.ListLemmas.{bool_cases}
use Rattle.tv_group.proofs.Tree.RequestLemmas.{held-request}
use Rattle.tv_group.proofs.Tree.RuledLemmas.{held-pressed, steady-pressed}
use Rattle.tv_machine.proofs.RefocusLemmas.{held-moved}

module _ (d : Dialog) (lawful : IsLawfulDialog d) where
  -- ---- commands keep the hold

  held-shown_invalid : (i : Id) (m : Modal) → (shown_invalid d i m).held ≡ m.held
  held-shown_invalid i m =
      bool_cases (i.0 == m.focus.0) (λ b. (if b then m else if is_free_at d m.leaves i then focus_moved d i m else m).held ≡ m.held)
      (λ is. refl)
      (λ isnt.
      bool_cases (is_free_at d m.leaves i) (λ b. (if b then focus_moved d i m else m).held ≡ m.held)
      (λ is. held-moved d lawful m i) (λ isnt. refl))

  held-end_by : (number : ℕ) (invalid : Option Id) (m : Modal) → (end_by d number invalid m).held ≡ m.held
  held-end_by number None m = refl
  held-end_by number (Some i) m = held-shown_invalid i (with_line (lines.Invalid i) m)

  -- what a command comes to that is no end
  abbrev logged : ℕ → Modal → Modal
  logged number m = if nat_le 100 number then with_line (lines.Command number) m else m

  -- what one comes to that doesn't cancel the dialog
  abbrev otherwise : ℕ → Modal → Modal
  otherwise number m = if is_declared (dialog_head d).ends number then end_by d number (first_invalid d m) m else logged number m

  pub held-command : (number : ℕ) (m : Modal) → (command d number m).held ≡ m.held
  held-command number m =
      bool_cases ((number == 4) || (number == 11)) (λ b. (if b then ended d 11 m else otherwise number m).held ≡ m.held)
      (λ is. refl)
      (λ isnt.
      bool_cases (is_declared (dialog_head d).ends number)
      (λ b. (if b then end_by d number (first_invalid d m) m else logged number m).held ≡ m.held)
      (λ is. held-end_by number (first_invalid d m) m)
      (λ isnt.
      bool_cases (nat_le 100 number) (λ b. (if b then with_line (lines.Command number) m else m).held ≡ m.held)
      (λ is. refl) (λ isnt. refl)))

  -- ---- what views ask for

  module _ (i : Id) (item : ℕ) (m : Modal) where
    steady-then : IsSteady d m → IsSteady d (request_then d i (pressed_at d i item) m)
    steady-then steady =
        let moved : IsSteady d (request d i m) = steady-request d lawful i m steady in
        bool_cases (is_granted (requested d m i)) (λ b. IsSteady d (if b then pressed_at d i item (request d i m) else request d i m))
        (λ is. steady-pressed d lawful item (request d i m) i moved) (λ isnt. moved)

    held-then : (request_then d i (pressed_at d i item) m).held ≡ m.held
    held-then =
        bool_cases (is_granted (requested d m i)) (λ b. (if b then pressed_at d i item (request d i m) else request d i m).held ≡ m.held)
        (λ is. held-pressed d lawful item (request d i m) i ∙ held-request d lawful m i) (λ isnt. held-request d lawful m i)

  -- ---- so do keys

  module _ (m : Modal) (env : Env) (k : Key) (turn : KeyTurn d m env k) where
    -- what the views answer
    abbrev answered : Reaction
    answered = phases_answer (events.Key k) env (tree_of d m)

  module _ (m : Modal) where
    held_pressed : (i : Id) (o : Option CommandSpec) → (pressed_by d i o m).held ≡ m.held
    held_pressed i None = refl
    held_pressed i (Some c) = held-command (command_number c) (with_line (lines.Press i) m)

    pub held-enter : (o : Option PlacedNode) → (press_enabled d o m).held ≡ m.held
    held-enter None = refl
    held-enter (Some leaf) =
        bool_cases (is_enabled d m.leaves leaf.node) (λ b. (if b then press d leaf m else m).held ≡ m.held)
        (λ is. held_pressed leaf.node.id (command_of leaf.node.kind)) (λ isnt. refl)
