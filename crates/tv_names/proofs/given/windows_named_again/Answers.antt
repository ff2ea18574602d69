use Rattle.std.proofs.Common.{◌<◌, [], map, take, length, ap, ◌∙◌, arith}
use Rattle.std.specs.List.{list_any}
use Rattle.tv_model.specs.Description.Names.{gives_name, shares_name}
use Rattle.tv_model.specs.Faults.Names.{window_named_again}
use Rattle.tv_model.proofs.EachAfterLemmas.{each_more}
use Rattle.tv_model.proofs.ListLemmas.{any_map, mapped_more}
use Rattle.tv_names.proofs.given.windows_named_again.Goals as goal

pub loop-window-preserved : goal.loop-window-preserved
loop-window-preserved c =
    let windows = c.args.windows.now in
    let i = c.loop-window.window-index in
    let window = c.window-item.result in
    let less : i < length windows = omega arith in
    let given = c.in_ok-give.ensures (map (λ window. window.node) (take i windows)) c.loop-window.invariant.given in
    record {
      judged =
          each_more window_named_again windows i window less c.window-item.is c.loop-window.again.items c.push.new.self.items c.in_ok-give.field-0 c.loop-window.invariant.judged
          c.in_ok-push.ensures.items (given.0 ∙ any_map (shares_name window.node) (λ window. window.node) (take i windows));
      given = λ name. given.1 name ∙ ap (list_any (gives_name name)) (mapped_more (λ window. window.node) [] windows i window less c.window-item.is);
    }
