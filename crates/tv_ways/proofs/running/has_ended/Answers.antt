use Rattle.std.proofs.Common.{◌≡◌, ◌∙◌, List, Some, slice_get, subst, sym}
use Rattle.std.specs.Prelude.{Contains}
use Rattle.tv_model.specs.declared.desc.Desc.{Desc}
use Rattle.tv_model.specs.declared.log.LogLine.{LogLine}
use Rattle.tv_model.specs.declared.log.LogLine.TheVariants as lines
use Rattle.tv_ways.proofs.RunningLemmas.{contains_end}
use Rattle.tv_ways.proofs.running.has_ended.Goals as goal

pub returns-in-Some : goal.returns-in-Some
returns-in-Some c = λ e s runs.
    let dialog = c.in-Some.dialog.now in
    let logged = contains_end dialog.node.id c.args.command c.log.result.now (sym c.has_end.ensures ∙ e) in
    record {
      dialog = dialog;
      there = subst (λ (d : Desc). slice_get d.dialogs c.args.place ≡ Some dialog) (c.desc.ensures s runs) (sym c.in-Some.ensures);
      logged = subst (λ (log : List LogLine). Contains log (lines.End dialog.node.id c.args.command)) (c.log.ensures s runs) logged;
    }
