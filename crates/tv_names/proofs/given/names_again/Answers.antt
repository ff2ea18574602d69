use Rattle.std.proofs.Common.{◌<◌, ◌++◌, ◌∷◌, [], take, length, sym, ap, ◌∙◌, arith}
use Rattle.std.specs.List.{list_any}
use Rattle.std.proofs.lemmas.List.{take_more}
use Rattle.tv_model.specs.Description.Names.{gives_name}
use Rattle.tv_model.specs.Faults.Names.{names_again}
use Rattle.tv_model.proofs.EachAfterLemmas.{each_more}
use Rattle.tv_names.proofs.given.names_again.Goals as goal

pub loop-view-preserved : goal.loop-view-preserved
loop-view-preserved c =
    let views = c.args.views.now in
    let i = c.loop-view.view-index in
    let view = c.view-item.result in
    let less : i < length views = omega arith in
    let given = c.in_ok-give.ensures (take i views) c.loop-view.invariant.given in
    record {
      judged = each_more names_again views i view less c.view-item.is c.loop-view.again.items c.push.new.self.items c.in_ok-give.field-0 c.loop-view.invariant.judged c.in_ok-push.ensures.items given.0;
      given = λ name. given.1 name ∙ ap (list_any (gives_name name)) (ap (λ last. take i views ++ last ∷ []) c.view-item.is ∙ sym (take_more views i view less));
    }
