-- What is listed as idle does nothing.
use Rattle.std.proofs.Common.{◌≡◌, ◌∙◌, ℕ, ◌<◌, pos, nat_lt, Bool, true, false, true≢false, List, [], ◌∷◌, length, Option, Some, None, refl, sym, ap, subst, arith}
use Rattle.std.specs.Prelude.{ℤ, ◌≤ℤ◌, All, position, slice_index_or}
use Rattle.std.specs.List.{position_or_len}
use Rattle.std.specs.Ordering.{int_eq}
use Rattle.std.proofs.lemmas.Bool.Decides.{Decides-int_eq, nat_tests}
use Rattle.std.proofs.lemmas.Int.{ints}
use Rattle.std.proofs.lemmas.List.Elements.{All-head, All-tail}
use Rattle.tv_faults.proofs.SoundLemmas.{sound_says}
use Rattle.tv_event.specs.Commands.{is_own_command}
use Rattle.tv_machine.specs.Session.Commands.{command_by_dialog, opener_of, own_command}
use Rattle.tv_machine.specs.State.{State}
use Rattle.tv_model.specs.declared.command.CommandSpec.{CommandSpec}
use Rattle.tv_model.specs.declared.command.CommandSpec.TheVariants as commands
use Rattle.tv_model.specs.declared.desc.Desc.{Desc}
use Rattle.tv_model.specs.declared.desc.Dialog.{Dialog}
use Rattle.tv_model.specs.Description.Heads.{dialog_head}
use Rattle.tv_model.specs.Description.Numbers.{IsBetween}
use Rattle.tv_model.specs.Faults.{IsSound}
use Rattle.tv_model.specs.Faults.Starts.{is_option_number}
use Rattle.tv_ways.specs.Idle.{AreIdle, is_desktop_command, is_end_command, IsIdleAlone, IsIdleIn}

-- ---- where no item passes

len_of_none : {A : Type 0} (p : A → Bool) (xs : List A) → All (λ x. p x ≡ false) xs → position_or_len p xs ≡ length xs
len_of_none p [] none = refl
len_of_none p (x ∷ xs) none =
    let here = All-head (λ y. p y ≡ false) x xs none in
    rw here (omega (arith, len_of_none p xs (All-tail (λ y. p y ≡ false) x xs none)))

not_below : (n : ℕ) → nat_lt n n ≡ false
not_below n = grind (arith, nat_tests)

none_at : {A : Type 0} (p : A → Bool) (xs : List A) → All (λ x. p x ≡ false) xs → position p xs ≡ None
none_at p xs none = rw (len_of_none p xs none, not_below (length xs)) refl

-- ---- no dialog opens by a command below 100

other_command : (number : ℕ) (n : ℤ) (b : Bool) → int_eq n (pos number) ≡ b → IsBetween (pos 100) (pos 255) n → number < 100 → b ≡ false
other_command number n false test within small = refl
other_command number n true test within small =
    let same : n ≡ pos number = (Decides-int_eq n (pos number)).0 test in
    let least : pos 100 ≤ℤ pos number = subst (λ m. pos 100 ≤ℤ m) same within.0 in
    absurd (grind (arith, ints, least, small))

opens_by_none : (number : ℕ) (o : Option ℤ) → ((n : ℤ) → o ≡ Some n → IsBetween (pos 100) (pos 255) n) → number < 100 → is_option_number (pos number) o ≡ false
opens_by_none number None within small = refl
opens_by_none number (Some n) within small = other_command number n (int_eq n (pos number)) refl (within n refl) small

no_opener : (d : Desc) (number : ℕ) → IsSound d → number < 100 → opener_of d number ≡ None
no_opener d number sound small =
    let numbers = (sound_says d sound).openings.numbers in
    none_at (λ (dialog : Dialog). is_option_number (pos number) (dialog_head dialog).opens) d.dialogs
    (λ k dialog less. opens_by_none number (dialog_head (slice_index_or d.dialogs k dialog)).opens (numbers k dialog less) small)

-- ---- end commands while no dialog is open, and others in a dialog

own_idle : (d : Desc) (number : ℕ) (s : State) (o : Option ℕ) → o ≡ None → is_own_command number ≡ false → own_command d number o s ≡ s
own_idle d number s None none other = rw other refl
own_idle d number s (Some place) none other = absurd cc

alone : (d : Desc) (number : ℕ) (s : State) → IsSound d → number < 100 → is_own_command number ≡ false → own_command d number (opener_of d number) s ≡ s
alone d number s sound small other = own_idle d number s (opener_of d number) (no_opener d number sound small) other

idle_alone : (d : Desc) → IsSound d → (c : CommandSpec) → is_end_command c ≡ true → IsIdleAlone d c
idle_alone d sound commands.Ok is s closed = ap (λ o. command_by_dialog d 10 o s) closed ∙ alone d 10 s sound (omega arith) refl
idle_alone d sound commands.Cancel is s closed = ap (λ o. command_by_dialog d 11 o s) closed ∙ alone d 11 s sound (omega arith) refl
idle_alone d sound commands.Yes is s closed = ap (λ o. command_by_dialog d 12 o s) closed ∙ alone d 12 s sound (omega arith) refl
idle_alone d sound commands.No is s closed = ap (λ o. command_by_dialog d 13 o s) closed ∙ alone d 13 s sound (omega arith) refl
idle_alone d sound _ is s closed = absurd (true≢false (sym is))

idle_in : (dialog : Dialog) (c : CommandSpec) → is_desktop_command c ≡ true → IsIdleIn dialog c
idle_in dialog commands.Quit is m = refl
idle_in dialog commands.Menu is m = refl
idle_in dialog commands.Next is m = refl
idle_in dialog _ is m = absurd (true≢false (sym is))

pub are_idle : (d : Desc) → IsSound d → AreIdle d
are_idle d sound = record { items = idle_alone d sound; buttons = idle_in }
