-- The faults of descriptions: none, or the one that an edit brings in.
use Rattle.std.specs.Prelude.{[], ◌∷◌}
use Rattle.std.proofs.Common.{refl}
use Rattle.tv_model.specs.declared.fault.FaultKind.TheVariants as faults
use Rattle.tv_model.specs.Faults.{fault_at, faults_of, fault_lines}
use Rattle.tv_examples.specs.Descriptions.{replaced, inserted, removed, cancel, order, colour_form, windows, menus, two_panes}
use Rattle.tv_examples.specs.Running.{written, HasJustFaults}

-- what is unfolded where faults are computed
unfoldable judged : Unit {0}
unfolding written faults_of fault_lines
judged = tt

cancel_sound : HasJustFaults cancel []
unfolding judged
cancel_sound = refl

order_sound : HasJustFaults order []
unfolding judged
order_sound = refl

colour_sound : HasJustFaults colour_form []
unfolding judged
colour_sound = refl

windows_sound : HasJustFaults windows []
unfolding judged
windows_sound = refl

menus_sound : HasJustFaults menus []
unfolding judged
menus_sound = refl

two_panes_sound : HasJustFaults two_panes []
unfolding judged
two_panes_sound = refl

name_given_twice : HasJustFaults (replaced 11 "input amount 0 0 8 3 range 1 9 \"\"" order) (fault_at faults.NameTwice 11 ∷ [])
unfolding judged
name_given_twice = refl

dialog_below_desktop : HasJustFaults (replaced 4 "dialog a 2 2 14 8 \"Q\" ends cancel" cancel) (fault_at faults.OutsideOwner 4 ∷ [])
unfolding judged
dialog_below_desktop = refl

buttons_overlap : HasJustFaults (replaced 7 "button n 9 4 10 \"~C~ancel\" cancel" colour_form) (fault_at faults.Overlap 7 ∷ [])
unfolding judged
buttons_overlap = refl

-- a letter is marked in two panes of one dialog
letter_shared_in_panes : HasJustFaults (replaced 8 "button y 0 0 10 \"~C~lose\" close" (removed 3 two_panes)) (fault_at faults.LetterTwice 8 ∷ [])
unfolding judged
letter_shared_in_panes = refl

status_key_on_shortcut : HasJustFaults (inserted 3 "status \"Exit\" Alt-C quit" cancel) (fault_at faults.StatusKey 4 ∷ [])
unfolding judged
status_key_on_shortcut = refl

label_names_pane : HasJustFaults (replaced 7 "label 2 1 8 \"~A~mount\" more" order) (fault_at faults.LabelLink 7 ∷ [])
unfolding judged
label_names_pane = refl

rule_names_no_item : HasJustFaults (replaced 16 "show more when opts 3" order) (fault_at faults.UnknownInRule 16 ∷ [])
unfolding judged
rule_names_no_item = refl

rule_shows_itself : HasJustFaults (inserted 17 "show opts when opts 1" order) (fault_at faults.ShowsItself 18 ∷ [])
unfolding judged
rule_shows_itself = refl

nothing_to_focus : HasJustFaults (removed 5 cancel) (fault_at faults.NothingToFocus 4 ∷ [])
unfolding judged
nothing_to_focus = refl

no_cancel : HasJustFaults (replaced 4 "dialog a 2 2 14 4 \"Q\" ends ok" cancel) (fault_at faults.MissingEnd 4 ∷ [])
unfolding judged
no_cancel = refl

two_defaults : HasJustFaults (replaced 7 "button n 12 4 10 \"~C~ancel\" cancel default" colour_form) (fault_at faults.SecondDefault 7 ∷ [])
unfolding judged
two_defaults = refl

no_text_of_range : HasJustFaults (replaced 11 "input qty 0 0 8 3 range 1000 2000 \"\"" order) (fault_at faults.EmptyDomain 11 ∷ [])
unfolding judged
no_text_of_range = refl

no_such_start : HasJustFaults (replaced 5 "radios r 2 1 12 \"~R~ed\" \"~B~lue\" start 3" colour_form) (fault_at faults.BadStart 5 ∷ [])
unfolding judged
no_such_start = refl

wide_title : HasJustFaults (replaced 4 "dialog a 2 2 14 4 \"漢\" ends cancel" cancel) (fault_at faults.WideCharacter 4 ∷ [])
unfolding judged
wide_title = refl

narrow_screen : HasJustFaults (replaced 2 "screen 19 10" cancel) (fault_at faults.OutsideLimits 2 ∷ [])
unfolding judged
narrow_screen = refl

opening_command_too_small : HasJustFaults (replaced 6 "dialog b 2 2 34 10 \"Order\" opens 99 ends ok cancel" order) (fault_at faults.BadOpening 6 ∷ [])
unfolding judged
opening_command_too_small = refl

title_letter_twice : HasJustFaults (replaced 7 "menu \"~F~dit\"" menus) (fault_at faults.MenuLetter 7 ∷ [])
unfolding judged
title_letter_twice = refl
