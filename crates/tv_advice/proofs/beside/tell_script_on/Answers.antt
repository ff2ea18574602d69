use Rattle.std.proofs.lemmas.Int.{to_z-of_z}
use Rattle.tv_advice.proofs.beside.tell_script_on.Goals.{in-Ok, in-Err}
use Rattle.tv_advice.proofs.beside.tell_script_on.Goals as goal

pub returns : goal.returns
returns c =
    elim c.match-parse_items.branch [
      | in-Ok w ↦
          let spelled = simp (to_z-of_z, c.ranges.width, c.ranges.height) at w.in-Ok.ensures.spelled in
          rw w.result-is (w.in-Ok.field-0, spelled)
      | in-Err w ↦
          let told = simp (to_z-of_z, c.ranges.width, c.ranges.height) at w.tell_unread_script.ensures in
          let refused = simp (to_z-of_z, c.ranges.width, c.ranges.height) at w.in-Err.ensures.fault in
          rw w.result-is (told refused)
    ]
