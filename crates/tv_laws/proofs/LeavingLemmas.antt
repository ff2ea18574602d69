-- A dialog can be left by Esc, and an up lets the mouse go.
use Rattle.std.proofs.Common.{◌≡◌, ◌||◌, ◌==◌, ℕ, if◌then◌else◌, Option, Some, None, refl, ap}
use Rattle.std.specs.Prelude.{nat_le}
use Rattle.tv_cells.specs.declared.rect.Point.{Point}
use Rattle.tv_event.specs.declared.event.Event.TheVariants as events
use Rattle.tv_event.specs.declared.event.Key.TheVariants as keys
use Rattle.tv_model.specs.declared.node.Id.{Id}
use Rattle.tv_model.specs.declared.command.CommandSpec.{CommandSpec}
use Rattle.tv_model.specs.declared.desc.Dialog.{Dialog}
use Rattle.tv_model.specs.declared.log.LogLine.TheVariants as lines
use Rattle.tv_model.specs.Description.Commands.{command_number, command_of, is_declared}
use Rattle.tv_model.specs.Description.Heads.{dialog_head}
use Rattle.tv_machine.specs.Leaves.{PlacedNode}
use Rattle.tv_model.specs.Controls.Behaviour.{Answer, Becomes, Passed, Presses}
use Rattle.tv_machine.specs.Controls.Tables.{up_answer}
use Rattle.tv_machine.specs.Dialog.Ending.{command, end_by, ended, first_invalid, pressed_by, shown_invalid}
use Rattle.tv_machine.specs.Dialog.Focus.{focus_moved, is_free_at}
use Rattle.tv_machine.specs.Dialog.Modal.{Modal, content_at, leaf_at, with_line}
use Rattle.tv_machine.specs.Dialog.Mouse.{held_up, is_inside, released, row_on}
use Rattle.tv_machine.specs.Dialog.Step.{step_by}
use Rattle.tv_laws.specs.Leaving.{EscCancels, TabAsksNext, UpLetsGo}
use Rattle.tv_laws.specs.Sound.{IsSoundDialog}
use Rattle.tv_machine.proofs.RefocusLemmas.{held-moved}
use Rattle.tv_machine.proofs.ListLemmas.{bool_cases, option_cases}

pub esc-cancels : (d : Dialog) → EscCancels d
esc-cancels d m idle = ap (λ h. step_by d h (events.Key keys.Esc) m) idle

pub tab-next : (d : Dialog) → TabAsksNext d
tab-next d m idle = ap (λ h. step_by d h (events.Key keys.Tab) m) idle

module _ (d : Dialog) (sound : IsSoundDialog d) where
  -- ---- commands leave the mouse alone

  abbrev Held_as : Modal → Modal → Type 0
  Held_as m n = n.held ≡ m.held

  shown_held : (i : Id) (m : Modal) → Held_as m (shown_invalid d i m)
  shown_held i m =
      bool_cases (i.0 == m.focus.0) (λ b. Held_as m (if b then m else if is_free_at d m.leaves i then focus_moved d i m else m)) (λ here. refl)
      (λ there. bool_cases (is_free_at d m.leaves i) (λ b. Held_as m (if b then focus_moved d i m else m)) (λ is. held-moved d sound.lawful m i) (λ is. refl))

  end_held : (number : ℕ) (invalid : Option Id) (m : Modal) → Held_as m (end_by d number invalid m)
  end_held number None m = refl
  end_held number (Some i) m = shown_held i (with_line (lines.Invalid i) m)

  command_held : (number : ℕ) (m : Modal) → Held_as m (command d number m)
  command_held number m =
      bool_cases ((number == 4) || (number == 11))
      (λ b. Held_as m (if b then ended d 11 m else if is_declared (dialog_head d).ends number then end_by d number (first_invalid d m) m
      else if nat_le 100 number then with_line (lines.Command number) m else m))
      (λ is. refl)
      (λ other. bool_cases (is_declared (dialog_head d).ends number)
      (λ b. Held_as m (if b then end_by d number (first_invalid d m) m else if nat_le 100 number then with_line (lines.Command number) m else m))
      (λ is. end_held number (first_invalid d m) m)
      (λ none. bool_cases (nat_le 100 number) (λ b. Held_as m (if b then with_line (lines.Command number) m else m)) (λ own. refl) (λ low. refl)))

  pressed_held : (i : Id) (given : Option CommandSpec) (m : Modal) → Held_as m (pressed_by d i given m)
  pressed_held i None m = refl
  pressed_held i (Some given) m = command_held (command_number given) (with_line (lines.Press i) m)

  -- ---- up

  released_held : (leaf : PlacedNode) (a : Answer) (m : Modal) → Held_as m (released d leaf a m)
  released_held leaf Passed m = refl
  released_held leaf (Becomes c) m = refl
  released_held leaf Presses m = pressed_held leaf.node.id (command_of leaf.node.kind) m

  up_held : (o : Option PlacedNode) (item : ℕ) (p : Point) (m : Modal) → (held_up d o item p m).held ≡ None
  up_held None item p m = refl
  up_held (Some leaf) item p m =
      let n : Modal = record m { held = None } in
      let a = up_answer leaf.node.kind item (row_on leaf p) (content_at m leaf.node.id) in
      bool_cases (is_inside leaf p) (λ b. Held_as n (if b then released d leaf a n else n)) (λ inside. released_held leaf a n) (λ outside. refl)

  pub up-lets-go : UpLetsGo d
  up-lets-go m p = option_cases m.held (λ h. m.held ≡ h → (step_by d h (events.Up p) m).held ≡ None) (λ none e. e) (λ held some e. up_held (leaf_at d held.id) held.item p m) refl
