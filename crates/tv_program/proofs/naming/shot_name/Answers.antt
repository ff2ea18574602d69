use Rattle.std.proofs.Common.{◌≡◌, ◌++◌, string_bytes, ◌∙◌, append_assoc, append-nil}
use Rattle.std.specs.Prelude.{codes, decimal}
use Rattle.std.proofs.lemmas.Result.{IfOk-weaker}
use Rattle.tv_program.specs.Naming.{shot_name}
use Rattle.tv_program.proofs.naming.shot_name.Goals as goal

pub returns : goal.returns
returns c =
    let script = c.args.script.now in
    let number = c.args.number in
    let text : script ++ (codes "-" ++ (decimal number ++ codes ".svg")) ≡ shot_name script number = simp (append_assoc, append-nil) in
    IfOk-weaker c.format.result (λ s. string_bytes s ≡ script ++ (codes "-" ++ (decimal number ++ codes ".svg"))) (λ s. string_bytes s ≡ shot_name script number) (λ s wrote. wrote ∙ text) c.format.ensures.ok
