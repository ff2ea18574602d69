use Rattle.std.proofs.Common.{◌≡◌, ℕ, ◌+◌, List, [], ◌∷◌, length, subst, sym, arith}
use Rattle.tv_machine.specs.declared.script.Item.{Item}
use Rattle.tv_program.specs.Albums.{Gains}
use Rattle.tv_program.specs.Naming.{named_from}
use Rattle.tv_program.specs.Pictures.{item_svgs}
use Rattle.tv_program.proofs.PictureLemmas.{svg_of-session}
use Rattle.tv_program.proofs.drawing.draw_item.Goals as goal

pub returns-in_ok-draw_shot-in-Shot-clause-drawn : goal.returns-in_ok-draw_shot-in-Shot-clause-drawn
returns-in_ok-draw_shot-in-Shot-clause-drawn g c = λ s stands.
    let old = g.A.Album.hung c.args.album.now in
    let new = g.A.Album.hung c.draw_shot.new.album in
    let name = c.args.shot.script.now in
    let number = c.args.shot.number in
    subst (λ (item : Item). Gains old new (named_from name number (item_svgs s item)) × (number + 1 ≡ number + length (item_svgs s item))) (sym c.in-Shot.is) (
      subst (λ (text : List ℕ). Gains old new (named_from name number (text ∷ [])))
          (svg_of-session s c.screen.result.now (c.screen.ensures s stands))
          c.in_ok-draw_shot-in-Shot.ensures,
      omega arith,
    )
