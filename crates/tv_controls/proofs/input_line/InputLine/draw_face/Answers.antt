use Rattle.std.proofs.Common.{◌≡◌, ◌∷◌, rules, subst}
use Rattle.tv_cells.specs.Layers.{Shows}
use Rattle.tv_faces.specs.Inputs.{colours_of}
use Rattle.tv_model.specs.Description.Numbers.{natural}
use Rattle.tv_view.specs.Colours.{has_focus}
use Rattle.tv_controls.proofs.FaceLemmas.{input_lays, painted-alike}
use Rattle.tv_controls.proofs.input_line.InputLine.draw_face.Goals as goal

pub returns : goal.returns
returns c canvas at =
    let s = c.args.self.now in
    let env = c.args.env.now in
    let width : c.natural-width.result ≡ natural s.core.node.w = search rules in
    let colours : c.of.result ≡ colours_of env.chain.now = search rules in
    let is_focused : c.has_focus.result ≡ has_focus env s.core.node.id = search rules in
    let text : c.as_slice.result.now ≡ s.edit.text = search rules in
    let cursor : c.cursor.result ≡ s.edit.cursor = search rules in
    let is_whole : c.is_whole.result ≡ s.edit.is_whole = search rules in
    input_lays env canvas s.core s.edit c.requires s.own_kind c.args.screen.now c.lay.new.screen c.lay.ensures.size
    (λ layers under. subst (λ layer. Shows (layer ∷ layers) c.lay.new.screen)
    (painted-alike _ _ _ _ _ _ _ _ _ _ _ _ _ _ at width colours is_focused text cursor is_whole) (c.lay.ensures.shows layers under))
