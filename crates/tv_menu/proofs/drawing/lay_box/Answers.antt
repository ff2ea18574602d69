use Rattle.tv_machine.specs.Screen.Bars.{box_face, box_height, box_width}
use Rattle.tv_menu.proofs.DrawingLemmas.{box_laid}
use Rattle.tv_menu.proofs.drawing.lay_box.Goals as goal

pub returns : goal.returns
returns c =
    let menu = c.args.menu.now in
    box_laid c.args.canvas (box_face menu c.args.current) (box_width menu) (box_height menu) c.box_width-width.result c.box_height-height.result c.sized.result
    c.args.screen.now c.lay_shadow.new.screen c.lay.new.screen c.box_width-width.ensures.is c.box_height-height.ensures.is c.sized.ensures.is
    c.lay_shadow.ensures.size c.lay_shadow.ensures.shows c.lay.ensures.size c.lay.ensures.shows
