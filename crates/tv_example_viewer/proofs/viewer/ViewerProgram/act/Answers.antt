use Rattle.std.proofs.Common.{◌∙◌}
use Rattle.tv_example_viewer.proofs.viewer.ViewerProgram.act.Goals as goal

-- one sheet after the other was laid
pub returns-then-self : goal.returns-then-self
returns-then-self c = record {
  goes = λ s runs.
      let one = c.lay.ensures.goes s runs in
      let two = c.lay-2.ensures.goes one.session one.runs in
      record { session = two.session; runs = two.runs; desc = two.desc ∙ one.desc; made = tt };
}

pub returns-else-self : goal.returns-else-self
returns-else-self c = record {
  goes = λ s runs.
      let one = c.lay.ensures.goes s runs in
      let two = c.lay-2.ensures.goes one.session one.runs in
      record { session = two.session; runs = two.runs; desc = two.desc ∙ one.desc; made = tt };
}
