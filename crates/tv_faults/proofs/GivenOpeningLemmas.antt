-- Commands that open dialogs, given before.
use Rattle.std.proofs.Common.{◌≡◌, Bool, not, ◌||◌, List, pos, ℤ, refl, ap}
use Rattle.std.specs.List.{list_any}
use Rattle.std.specs.Prelude.{Option, Some, None}
use Rattle.tv_model.specs.declared.desc.Dialog.{Dialog}
use Rattle.tv_model.specs.Description.Numbers.{is_between}
use Rattle.tv_model.specs.Faults.Starts.{is_option_number, opens_badly}
use Rattle.tv_model.specs.Description.Heads.{dialog_head}
use Rattle.tv_faults.specs.Opened.{is_bad_opening}

module _ (test : ℤ → Bool) (dialogs : List Dialog) (same : (n : ℤ) → test n ≡ list_any (λ dialog. is_option_number n (dialog_head dialog).opens) dialogs) where
  by_opening : (dialog : Dialog) (o : Option ℤ) → (dialog_head dialog).opens ≡ o → is_bad_opening test (dialog_head dialog).opens ≡ opens_badly dialogs dialog
  by_opening dialog None e = rw e refl
  by_opening dialog (Some n) e = rw e (ap (λ b. not (is_between (pos 100) (pos 255) n) || b) (same n))

  pub opens_badly_given : (dialog : Dialog) → is_bad_opening test (dialog_head dialog).opens ≡ opens_badly dialogs dialog
  opens_badly_given dialog = by_opening dialog (dialog_head dialog).opens refl
