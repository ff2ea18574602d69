use Rattle.std.proofs.Common.{◌≡◌, ◌++◌, [], map, sym, ap, subst, ◌∙◌}
use Rattle.std.specs.Prelude.{OnOk}
use Rattle.tv_model.specs.Faults.{fault_at, status_has}
use Rattle.tv_model.specs.Faults.Lines.{lines_where}
use Rattle.tv_model.specs.Faults.Each.{each_after}
use Rattle.tv_faults.proofs.list.add_status.Goals as goal

pub returns : goal.returns
returns c =
    subst (λ lines. OnOk c.add_where.result (c.add_where.new.found ≡ c.args.found.now ++ map (fault_at c.args.kind) (lines_where (λ line. line.id.0) (status_has c.args.kind c.args.desc.now) [] lines)))
    c.as_slice-items.ensures
    (c.add_where.ensures (status_has c.args.kind c.args.desc.now) (c.as_slice.ensures.value ∙ c.in_ok-faulty.ensures ∙ ap (each_after (status_has c.args.kind c.args.desc.now)) (sym c.as_slice-items.ensures)))
