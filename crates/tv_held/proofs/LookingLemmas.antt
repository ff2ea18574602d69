-- What a screen shows, as the bytes of its cells, and a record that is there.
use Rattle.std.proofs.Common.{◌≡◌, ◌∙◌, ℕ, ◌<◌, List, Some, ap, arith, position, slice_get, subst, sym}
use Rattle.std.specs.Option.{option_and_then}
use Rattle.tv_app.specs.Names.{record_named}
use Rattle.tv_cells.specs.Picture.{Picture, cell_at}
use Rattle.tv_dialogs.specs.Records.{next_record}
use Rattle.tv_held.specs.Looking.{IsRecordText, cell_bytes, record_text, row_bytes, screen_bytes}
use Rattle.tv_machine.specs.Output.{screen_cell}
use Rattle.tv_machine.specs.Run.{Session}
use Rattle.tv_model.specs.Description.Heads.{is_named}
use Rattle.tv_model.specs.Description.Numbers.{natural}
use Rattle.tv_model.specs.Log.Record.{Entries}
use Rattle.tv_model.specs.declared.desc.Desc.{Desc}
use Rattle.tv_model.specs.declared.desc.Dialog.{Dialog}
use Rattle.tv_script.proofs.ScreenLemmas.{flat_map-along}
use Rattle.tv_script.specs.Performed.{IsScreenOf}

module _ (s : Session) (p : Picture) (is : IsScreenOf s p) where
  cells : (column row : ℕ) → column < p.width → row < p.height → cell_bytes (cell_at p column row) ≡ cell_bytes (screen_cell s column row)
  cells column row across down = ap cell_bytes (is.cells.each column row (record { across = across; down = down }))

  rows : (row : ℕ) → row < p.height → row_bytes p.width (cell_at p) row ≡ row_bytes p.width (screen_cell s) row
  rows row down =
      flat_map-along (λ column. cell_bytes (cell_at p column row)) (λ column. cell_bytes (screen_cell s column row)) 0 p.width
      (λ k from to. cells k row (omega arith) down)

  pub screen-is : screen_bytes p.width p.height (cell_at p) ≡ screen_bytes (natural s.desc.width) (natural s.desc.height) (screen_cell s)
  screen-is =
      flat_map-along (row_bytes p.width (cell_at p)) (row_bytes p.width (screen_cell s)) 0 p.height (λ k from to. rows k (omega arith))
      ∙ ap (λ w. screen_bytes w p.height (screen_cell s)) is.width
      ∙ ap (λ h. screen_bytes (natural s.desc.width) h (screen_cell s)) is.height

-- the record of a dialog of the name, by the description that an application lends
pub record-is : (s : Session) (d : Desc) → d ≡ s.desc → (given name : List ℕ) → given ≡ name → (place : ℕ) (dialog : Dialog) (entries : Entries)
    → position (is_named given) d.dialogs ≡ Some place → slice_get d.dialogs place ≡ Some dialog → record_named s given ≡ Some entries
    → IsRecordText s name (record_text d dialog.views entries)
record-is s d own given name same place dialog entries first there named =
    let here : position (is_named given) s.desc.dialogs ≡ Some place = ap (λ (e : Desc). position (is_named given) e.dialogs) (sym own) ∙ first in
    subst (λ (n : List ℕ). IsRecordText s n (record_text d dialog.views entries)) same (record {
      place = place;
      first = here;
      dialog = dialog;
      there = ap (λ (e : Desc). slice_get e.dialogs place) (sym own) ∙ there;
      entries = entries;
      next = sym (ap (option_and_then (next_record s.desc s.state)) here) ∙ named;
      is = ap (λ (e : Desc). record_text e dialog.views entries) own;
    })
