use Rattle.std.proofs.Common.{rules}
use Rattle.tv_program.proofs.ShotLemmas.{refused-ShotsFrom}
use Rattle.tv_script.specs.Scripts.{RefusesScript}
use Rattle.tv_program.proofs.shots.draw_script.Goals as goal

pub returns-in_err-script : goal.returns-in_err-script
returns-in_err-script g c = λ s stands.
    let same = c.desc-desc.ensures s stands in
    let refuses : RefusesScript s.desc.width s.desc.height c.in_ok-text.text.items c.in_err-script.field-0.0 = search rules in
    refused-ShotsFrom s c.args.name.now (g.R.Reader.seen c.args.script.now) (g.R.Reader.seen c.read_script.new.reader) c.in_ok-text.text.items c.in_ok-text.ensures
    (g.A.Album.hung c.args.album.now) c.in_err-script.field-0.0 refuses c.from_residual-in_err-script.result c.from_residual-in_err-script.ensures.1
