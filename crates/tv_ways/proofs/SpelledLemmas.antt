-- What a description has that a text spells, and that has no faults.
use Rattle.std.proofs.Common.{◌<◌, ℕ, List, ◌∷◌, get_or, map, flat_map, arith, AllPairs}
use Rattle.tv_declarations.specs.Spelling.{IsDescription}
use Rattle.tv_faults.specs.Order.{lines_of_dialog, lines_of_menu, lines_of_window, start_line}
use Rattle.tv_faults.proofs.PairLemmas.{Across, pairs_append, pairs_flat}
use Rattle.tv_faults.proofs.RisingLemmas.{rising_lines}
use Rattle.tv_faults.proofs.SoundDialogLemmas.{sound_dialogs}
use Rattle.tv_machine.specs.Dialog.Sound.{HasSoundDialogs}
use Rattle.tv_model.specs.declared.desc.Desc.{Desc}
use Rattle.tv_model.specs.declared.desc.Dialog.{Dialog}
use Rattle.tv_app.specs.Opening.{IsSpelledSound}
use Rattle.tv_reach.specs.Never.{DialogsRise}

abbrev IsEarlier : ℕ → ℕ → Type 0
IsEarlier line later = line < later

dialogs_rise : (d : Desc) → IsDescription d → DialogsRise d
dialogs_rise d is =
    let all = (pairs_append IsEarlier (2 ∷ start_line d.start) _).0 (rising_lines d is) in
    let after_menus = (pairs_append IsEarlier (flat_map lines_of_menu d.menus) _).0 all.0.1 in
    let after_status = (pairs_append IsEarlier (map (λ item. item.id.0) d.status) _).0 after_menus.0.1 in
    let after_windows = (pairs_append IsEarlier (flat_map lines_of_window d.windows) _).0 after_status.0.1 in
    let each : AllPairs (λ dialog later. Across IsEarlier (lines_of_dialog dialog) (lines_of_dialog later)) d.dialogs =
    ((pairs_flat IsEarlier lines_of_dialog d.dialogs).0 after_windows.0.1).0 in
    λ i j dialog less within.
    let own : Dialog = get_or d.dialogs i dialog in
    let later : Dialog = get_or d.dialogs j dialog in
    each i j dialog less within 0 own.node.id.0 (omega arith) 0 later.node.id.0 (omega arith)

pub spelled_sound : (text : List ℕ) (d : Desc) → IsSpelledSound text d → HasSoundDialogs d
spelled_sound text d is = sound_dialogs d is.0.lines.can is.1

pub spelled_rise : (text : List ℕ) (d : Desc) → IsSpelledSound text d → DialogsRise d
spelled_rise text d is = dialogs_rise d is.0.lines.can
