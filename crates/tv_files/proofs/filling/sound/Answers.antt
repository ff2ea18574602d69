use Rattle.std.proofs.Common.{refl}
use Rattle.tv_program.specs.Conversions.{fill_told}
use Rattle.tv_files.specs.Tasks.EndsFirst.{refused}
use Rattle.tv_files.proofs.filling.sound.Goals as goal

pub returns-in-Ok : goal.returns-in-Ok
returns-in-Ok g c = record {
  text = c.in_ok-text.text.items;
  gives = c.in_ok-text.ensures;
  follows_text = rw c.as_slice.ensures.value at c.in-Ok.ensures.sound;
}

pub returns : goal.returns
returns g c =
    refused c.in_ok-text.text.items (fill_told c.in-Err.fault) c.in_ok-text.ensures (c.in-Err.fault, rw c.as_slice.ensures.value at c.in-Err.ensures.fault, refl) (rw c.from.ensures refl)
