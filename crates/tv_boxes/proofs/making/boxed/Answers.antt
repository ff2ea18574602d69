use Rattle.std.proofs.Common.{string_bytes}
use Rattle.tv_boxes.proofs.SoundLemmas.{box_sound, box_unsound}
use Rattle.tv_boxes.proofs.making.boxed.Goals as goal

pub returns-then-branch-clause-sound : goal.returns-then-branch-clause-sound
returns-then-branch-clause-sound c =
    box_sound c.args.request.now (string_bytes c.in_ok-text.text) c.in_ok-desc.desc c.in_ok-is_sound.field-0
    c.in_ok-desc.ensures c.in_ok-text.ensures.text c.in_ok-is_sound.ensures c.if-branch.true

pub refusal-requires : goal.refusal-requires
refusal-requires c = record {
  unsound = box_unsound c.args.request.now (string_bytes c.in_ok-text.text) c.in_ok-desc.desc c.in_ok-is_sound.field-0
      c.in_ok-desc.ensures c.in_ok-text.ensures.text c.in_ok-is_sound.ensures c.if-branch.false;
  same = c.in_ok-desc.ensures;
}
