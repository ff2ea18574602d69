-- Commands and pressed buttons: the dialog goes on, or it ends as it should.
use Rattle.std.proofs.Common.{◌≡◌, true, false, ◌&&◌, ◌||◌, ◌==◌, ℕ, if◌then◌else◌, ◌∷◌, ◌++◌, map, Option, Some, None, refl, ap, subst, IsTrue}
use Rattle.std.specs.Prelude.{nat_le}
use Rattle.std.proofs.lemmas.Bool.{or_right, true≢false}
use Rattle.std.proofs.lemmas.List.Elements.{All-append, All-cons, All-map}
use Rattle.tv_model.specs.declared.node.Id.{Id}
use Rattle.tv_model.specs.declared.command.CommandSpec.{CommandSpec}
use Rattle.tv_model.specs.declared.desc.Dialog.{Dialog}
use Rattle.tv_model.specs.declared.log.LogLine.{LogLine}
use Rattle.tv_model.specs.declared.log.LogLine.TheVariants as lines
use Rattle.tv_model.specs.Description.Commands.{command_number, command_of, is_declared, is_end}
use Rattle.tv_model.specs.Description.Heads.{dialog_head}
use Rattle.tv_machine.specs.Leaves.{PlacedNode}
use Rattle.tv_machine.specs.Dialog.Ending.{command, end_by, ended, field_line, fields_of, first_invalid, press, pressed_by, shown_invalid}
use Rattle.tv_machine.specs.Dialog.Focus.{focus_moved, is_free_at}
use Rattle.tv_machine.specs.Dialog.Modal.{Modal, with_line}
use Rattle.tv_machine.specs.Safe.{IsSafeRecord}
use Rattle.tv_laws.specs.Ends.{IsDone, IsEnding, NamesEndOf, IsOpen}
use Rattle.tv_laws.specs.Sound.{IsSoundDialog}
use Rattle.tv_laws.proofs.FreeLemmas.{IsFree, free-done, free-line, free-moved}
use Rattle.tv_machine.proofs.ListLemmas.{bool_cases, option_cases}
use Rattle.tv_laws.proofs.RecordLemmas.{record-safe}
use Rattle.tv_laws.proofs.StandLemmas.{fit-logged}

module _ (d : Dialog) (sound : IsSoundDialog d) where
  abbrev end_line : ℕ → LogLine
  end_line number = lines.End d.node.id (record { 0 = number })

  -- the dialog ends by a command that it declares
  pub ended-done : (number : ℕ) (m : Modal) → IsTrue (is_end (dialog_head d).ends number) → ((number == 11) ≡ false
      → IsSafeRecord d (fields_of m.leaves)) → IsOpen d m → IsDone d (ended d number m)
  ended-done number m declared saved o =
      let fields = map field_line (fields_of m.leaves) in
      record {
        fit = fit-logged d sound m (m.log ++ end_line number ∷ fields) (Some number) o.fit;
        log = All-append (NamesEndOf d) m.log (end_line number ∷ fields) o.log
            (All-cons (NamesEndOf d) (end_line number) fields (refl, declared) (All-map (NamesEndOf d) field_line (fields_of m.leaves) (λ k e h. tt)));
        ends = λ n e. let same : number ≡ n = cc in
            subst (λ x. IsEnding d x (ended d number m)) same (record { declared = declared; before = m.log; written = refl; saved = saved });
      }

  cancel_end : IsTrue (is_end (dialog_head d).ends 11)
  cancel_end = ap (λ b. b || is_declared (dialog_head d).ends 11) sound.cancel

  -- it is cancelled
  pub cancel-done : (m : Modal) → IsOpen d m → IsDone d (ended d 11 m)
  cancel-done m o = ended-done 11 m cancel_end (λ e. absurd (true≢false e)) o

  declared_end : (number : ℕ) → is_declared (dialog_head d).ends number ≡ true → IsTrue (is_end (dialog_head d).ends number)
  declared_end number is = or_right ((number == 11) && (dialog_head d).ends.cancel) (is_declared (dialog_head d).ends number) is

  free-shown : (i : Id) (m : Modal) → IsFree d m → IsFree d (shown_invalid d i m)
  free-shown i m f =
      bool_cases (i.0 == m.focus.0) (λ b. IsFree d (if b then m else if is_free_at d m.leaves i then focus_moved d i m else m)) (λ here. f)
      (λ there. bool_cases (is_free_at d m.leaves i) (λ b. IsFree d (if b then focus_moved d i m else m)) (λ is. free-moved d sound m i is f) (λ is. f))

  end_by-done : (number : ℕ) (m : Modal) → is_declared (dialog_head d).ends number ≡ true → IsFree d m
      → IsDone d (end_by d number (first_invalid d m) m)
  end_by-done number m is f =
      option_cases (first_invalid d m) (λ o. IsDone d (end_by d number o m))
      (λ none. ended-done number m (declared_end number is) (λ e. record-safe d sound m f.fit.standing none) (free_open m f))
      (λ i some. let n = with_line (lines.Invalid i) m in free-done d (shown_invalid d i n) (free-shown i n (free-line d sound (lines.Invalid i) m tt f)))
    where
      free_open : (n : Modal) → IsFree d n → IsOpen d n
      free_open n g = record { fit = g.fit; log = g.log; going = g.going }

  -- a command while nothing holds the mouse
  pub command-done : (number : ℕ) (m : Modal) → IsFree d m → IsDone d (command d number m)
  command-done number m f =
      bool_cases ((number == 4) || (number == 11))
      (λ b. IsDone d (if b then ended d 11 m else if is_declared (dialog_head d).ends number then end_by d number (first_invalid d m) m
      else if nat_le 100 number then with_line (lines.Command number) m else m))
      (λ is. cancel-done m (record { fit = f.fit; log = f.log; going = f.going }))
      (λ other. bool_cases (is_declared (dialog_head d).ends number)
      (λ b. IsDone d (if b then end_by d number (first_invalid d m) m else if nat_le 100 number then with_line (lines.Command number) m else m))
      (λ is. end_by-done number m is f)
      (λ none. bool_cases (nat_le 100 number) (λ b. IsDone d (if b then with_line (lines.Command number) m else m))
      (λ own. free-done d (with_line (lines.Command number) m) (free-line d sound (lines.Command number) m tt f)) (λ low. free-done d m f)))

  pressed_done : (i : Id) (given : Option CommandSpec) (m : Modal) → IsFree d m → IsDone d (pressed_by d i given m)
  pressed_done i None m f = free-done d m f
  pressed_done i (Some given) m f = command-done (command_number given) (with_line (lines.Press i) m) (free-line d sound (lines.Press i) m tt f)

  -- a button is pressed
  pub press-done : (leaf : PlacedNode) (m : Modal) → IsFree d m → IsDone d (press d leaf m)
  press-done leaf m f = pressed_done leaf.node.id (command_of leaf.node.kind) m f
