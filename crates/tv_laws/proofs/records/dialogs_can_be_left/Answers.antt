use Rattle.tv_laws.proofs.RecordLaws.EscapeLemmas.{esc-cancels-open, stays-over, up-esc-cancels, up-esc-leaves, up-frees-frame, up-frees-mouse}
use Rattle.tv_laws.proofs.records.dialogs_can_be_left.Goals as goal

pub returns : goal.returns
returns c =
    let d = c.args._desc.now in
    let sound = c.requires.sound in
    record {
      cancels = esc-cancels-open d sound;
      frees = up-frees-mouse d sound;
      frees_frame = up-frees-frame d sound;
      leaves = up-esc-leaves d sound;
      cancels_left = up-esc-cancels d sound;
      over = stays-over d;
    }
