use Rattle.std.proofs.Common.{◌≡◌, ◌++◌, [], map, sym, ap, subst, ◌∙◌}
use Rattle.std.specs.Prelude.{OnOk}
use Rattle.tv_model.specs.Faults.{fault_at, rule_has}
use Rattle.tv_model.specs.Faults.Lines.{lines_where}
use Rattle.tv_model.specs.Faults.Each.{each_after}
use Rattle.tv_faults.proofs.list.add_rules.Goals as goal

pub returns : goal.returns
returns c =
    subst (λ lines. OnOk c.add_where.result (c.add_where.new.found ≡ c.args.found.now ++ map (fault_at c.args.kind) (lines_where (λ line. line.id.0) (rule_has c.args.kind c.args.dialog.now.views) [] lines)))
    c.as_slice-rules.ensures
    (c.add_where.ensures (rule_has c.args.kind c.args.dialog.now.views) (c.as_slice.ensures.value ∙ c.in_ok-faulty.ensures ∙ ap (each_after (rule_has c.args.kind c.args.dialog.now.views)) (sym c.as_slice-rules.ensures)))
