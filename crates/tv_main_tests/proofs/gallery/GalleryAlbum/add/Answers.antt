use Rattle.std.proofs.Common.{◌≡◌, refl, rules, string_bytes}
use Rattle.tv_program.specs.Albums.{drawn_as}
use Rattle.tv_terminal.specs.Svg.{svg_of}
use Rattle.tv_main_tests.proofs.GalleryLemmas.{gains-told}
use Rattle.tv_main_tests.proofs.gallery.GalleryAlbum.add.Goals as goal

pub returns : goal.returns
returns c =
    let drawn : c.write_svg.new.out.text.items ≡ svg_of c.args.screen.now = search rules in
    gains-told (λ picture. drawn_as (string_bytes picture.name) picture.text.items) c.args.self.now.failures c.args.self.now.hung.items c.hang.new.hung.items _ c.hang.result (drawn_as c.args.name.now (svg_of c.args.screen.now)) c.hang.ensures
    (rw (c.in-Ok.ensures.ok, drawn) refl)
