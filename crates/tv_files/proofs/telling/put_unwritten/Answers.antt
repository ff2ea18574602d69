use Rattle.std.proofs.Common.{◌≡◌, [], ◌∷◌, ◌++◌, append_assoc, codes, decimal}
use Rattle.tv_io.proofs.PenLemmas.{Puts-along, Puts-then}
use Rattle.tv_model.specs.Log.LogText.{line_of}
use Rattle.tv_program.specs.Naming.{shot_name}
use Rattle.tv_files.proofs.telling.put_unwritten.Goals as goal

pub returns : goal.returns
unfolding line_of
returns g c =
    let script = c.args.script.now in
    let number = decimal c.args.number in
    let name : script ++ codes "-" ++ number ++ (codes ".svg" ++ 10 ∷ []) ≡ shot_name script c.args.number ++ 10 ∷ [] = simp (append_assoc) in
    let text = Puts-then (Puts-then (Puts-then c.put-2.ensures c.put-3.ensures) c.put_place.ensures) c.put-4.ensures in
    Puts-then c.put.ensures (Puts-along name text)
