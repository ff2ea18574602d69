use Rattle.std.proofs.Common.{inl, inr}
use Rattle.tv_files.proofs.EndLemmas.{EndsWith-weaker}
use Rattle.tv_files.specs.Files.{IsTapeOf}
use Rattle.tv_main.proofs.boxing.run_with_boxes.Goals as goal

-- the views are as they are declared, so that none is one that a session refuses
pub returns : goal.returns
returns g c =
    EndsWith-weaker _ (λ d. ⊥)
    (λ text d sound mismade.
    elim mismade [
      | inl makes ↦ (let told = makes.says.met.1.1 in absurd cc)
      | inr found ↦ found.2.says.met.1.0 found.1 (rw found.2.shows found.3)
    ])
    {T = IsTapeOf g.F.Made.Writer.seen g.F.FileStore.made_at} {U = IsTapeOf g.F.Made.Writer.seen g.F.FileStore.made_at}
    (λ path begun ended tape. tape)
    _ _ _ _ c.run_program.ensures
