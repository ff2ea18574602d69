use Rattle.std.proofs.Common.{[], ◌∷◌, ℕ, List, subst, ◌∙◌}
use Rattle.tv_program.specs.Albums.{Gains, drawn_as}
use Rattle.tv_terminal.specs.Svg.{svg_of}
use Rattle.tv_program.proofs.drawing.draw_shot.Goals as goal

pub returns-in-Ok-add : goal.returns-in-Ok-add
returns-in-Ok-add g c =
    subst (λ (name : List ℕ). Gains (g.A.Album.hung c.args.album.now) (g.A.Album.hung c.add.new.self) (drawn_as name (svg_of c.args.screen.now) ∷ []))
    (c.as_str.ensures.value ∙ c.in-Ok.ensures)
    c.in-Ok-add.ensures
