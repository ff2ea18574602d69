use Rattle.std.proofs.Common.{refl, subst}
use Rattle.tv_io.specs.Writer.{Cuts, Takes}
use Rattle.tv_files.proofs.warning.write_warnings.Goals as goal

pub returns-in-Ok : goal.returns-in-Ok
returns-in-Ok g c = (
  c.in_ok-warned.warned,
  (c.in_ok-warned.ensures, subst (λ bytes. Takes (g.W.Writer.seen c.args.out.now) (g.W.Writer.seen c.write_all.new.out) bytes) c.as_bytes.ensures.value c.in-Ok.ensures),
  refl,
)

pub returns : goal.returns
returns g c = (
  c.in_ok-warned.warned,
  (c.in_ok-warned.ensures, subst (λ bytes. Cuts (g.W.Writer.seen c.args.out.now) (g.W.Writer.seen c.write_all.new.out) bytes) c.as_bytes.ensures.value c.in-Err.ensures),
)
