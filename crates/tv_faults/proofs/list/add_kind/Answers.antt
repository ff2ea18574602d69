use Rattle.std.proofs.Common.{[], ◌++◌, map, flat_map, ap, ◌∙◌}
use Rattle.tv_model.specs.Faults.Lines.{after_seen}
use Rattle.tv_model.specs.Faults.{fault_at, fault_lines, menu_lines, window_lines}
use Rattle.tv_model.proofs.ListLemmas.{five_parts}
use Rattle.tv_faults.proofs.list.add_kind.Goals as goal

pub returns : goal.returns
unfolding fault_lines
returns c =
    five_parts (fault_at c.args.kind) c.args.found.now c.add_head.new.found c.add_menus.new.found c.add_status.new.found c.add_windows.new.found c.add_dialogs.new.found _ _ _ _ _
    c.in_ok-add_head.ensures
    (c.in_ok-add_menus.ensures ∙ ap (λ menus. c.add_head.new.found ++ map (fault_at c.args.kind) (flat_map (λ pair. menu_lines c.args.kind pair.0 pair.1) (after_seen [] menus))) c.as_slice.ensures)
    c.in_ok-add_status.ensures
    (c.in_ok-add_windows.ensures ∙ ap (λ windows. c.add_status.new.found ++ map (fault_at c.args.kind) (flat_map (λ pair. window_lines c.args.kind pair.0 pair.1) (after_seen [] windows))) c.as_slice-2.ensures)
    c.in_ok-add_dialogs.ensures
