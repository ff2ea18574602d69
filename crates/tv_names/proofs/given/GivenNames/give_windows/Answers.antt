use Rattle.std.proofs.Common.{◌<◌, [], map, take, length, ap, ◌∙◌, arith}
use Rattle.std.specs.List.{list_any}
use Rattle.tv_model.specs.Description.Names.{gives_name}
use Rattle.tv_model.proofs.ListLemmas.{mapped_more}
use Rattle.tv_names.proofs.given.GivenNames.give_windows.Goals as goal

pub loop-window-preserved : goal.loop-window-preserved
loop-window-preserved c = λ name.
    let windows = c.args.windows.now in
    let i = c.loop-window.window-index in
    let less : i < length windows = omega arith in
    let given = c.in_ok-give.ensures (map (λ window. window.node) (take i windows)) c.loop-window.invariant in
    given.1 name ∙ ap (list_any (gives_name name)) (mapped_more (λ window. window.node) [] windows i c.window-item.result less c.window-item.is)
