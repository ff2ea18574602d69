use Rattle.std.proofs.Common.{◌≡◌, ◌++◌, [], map, subst, ◌∙◌}
use Rattle.std.specs.Prelude.{OnOk}
use Rattle.tv_model.specs.Faults.{fault_at, item_has}
use Rattle.tv_model.specs.Faults.Lines.{lines_where}
use Rattle.tv_faults.proofs.list.add_items.Goals as goal

pub returns : goal.returns
returns c =
    subst (λ lines. OnOk c.add_where.result (c.add_where.new.found ≡ c.args.found.now ++ map (fault_at c.args.kind) (lines_where (λ line. line.id.0) (item_has c.args.kind) [] lines)))
    c.as_slice-items.ensures
    (c.add_where.ensures (item_has c.args.kind) (c.as_slice.ensures.value ∙ c.in_ok-faulty.ensures))
