use Rattle.std.proofs.Common.{SFits, rules, w32}
use Rattle.std.proofs.lemmas.Int.{to_z-of_z}
use Rattle.tv_advice.proofs.beside.tell_script.Goals as goal

pub returns : goal.returns
returns c =
    let width : SFits w32 c.args.desc.now.width = search rules in
    let height : SFits w32 c.args.desc.now.height = search rules in
    simp (to_z-of_z, width, height) at c.tell_script_on.ensures
