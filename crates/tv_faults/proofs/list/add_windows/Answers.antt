use Rattle.std.proofs.Common.{rules, ◌++◌, map, None, ap, ◌∙◌}
use Rattle.tv_model.specs.Description.Commands.{no_ends}
use Rattle.tv_model.specs.Faults.{fault_at, view_lines, window_has}
use Rattle.tv_model.proofs.EachAfterLemmas.{parts_next}
use Rattle.tv_faults.proofs.list.add_windows.Goals as goal

pub loop-i-preserved : goal.loop-i-preserved
loop-i-preserved c =
    parts_next (fault_at c.args.kind) (λ window. window.node.id.0) (window_has c.args.kind) c.args.windows.now c.as_slice-faulty.result.now c.loop-i.i _ c.index-windows-i.result c.loop-i-test.true (search rules) c.index-windows-i.is
    (λ window. view_lines c.args.kind window.node no_ends None window.views)
    c.loop-i.found c.add_if.new.found c.add_views.new.found _ c.in_ok-add_if.ensures
    (c.in_ok-add_views.ensures ∙ ap (λ views. c.add_if.new.found ++ map (fault_at c.args.kind) (view_lines c.args.kind c.index-windows-i.result.node no_ends None views)) c.as_slice.ensures)
    c.loop-i.invariant
