use Rattle.std.proofs.Common.{rules, ◌++◌, map, ap, ◌∙◌}
use Rattle.std.specs.Prelude.{option_copied}
use Rattle.tv_model.specs.Description.Heads.{dialog_head}
use Rattle.tv_model.specs.Description.Sharing.{sharing_rules}
use Rattle.tv_model.specs.Faults.{dialog_has, fault_at, rule_lines, view_lines}
use Rattle.tv_model.proofs.EachAfterLemmas.{parts_next}
use Rattle.tv_model.proofs.ListLemmas.{joined}
use Rattle.tv_faults.proofs.list.add_dialogs.Goals as goal

pub loop-i-preserved : goal.loop-i-preserved
loop-i-preserved c =
    let kind = c.args.kind in
    let version = c.args.desc.now.version in
    let dialog = c.index-dialogs-i.result in
    parts_next (fault_at c.args.kind) (λ dialog. dialog.node.id.0) (dialog_has c.args.kind c.args.desc.now) c.as_slice-dialogs.result.now c.as_slice-faulty.result.now c.loop-i.i _ c.index-dialogs-i.result c.loop-i-test.true (search rules) c.index-dialogs-i.is
    (λ dialog. view_lines c.args.kind dialog.node (dialog_head dialog).ends (sharing_rules c.args.desc.now.version dialog.rules) dialog.views ++ rule_lines c.args.kind dialog)
    c.loop-i.found c.add_if.new.found c.add_rules.new.found _ c.in_ok-add_if.ensures
    (c.in_ok-add_rules.ensures
    ∙ ap (λ list. list ++ map (fault_at kind) (rule_lines kind dialog)) c.in_ok-add_views.ensures
    ∙ ap (λ head. (c.add_if.new.found ++ map (fault_at kind) (view_lines kind dialog.node head.ends (option_copied c.sharing_rules.result) c.as_slice.result.now)) ++ map (fault_at kind) (rule_lines kind dialog)) c.head.ensures
    ∙ ap (λ sharing. (c.add_if.new.found ++ map (fault_at kind) (view_lines kind dialog.node (dialog_head dialog).ends sharing c.as_slice.result.now)) ++ map (fault_at kind) (rule_lines kind dialog)) c.sharing_rules.ensures
    ∙ ap (λ views. (c.add_if.new.found ++ map (fault_at kind) (view_lines kind dialog.node (dialog_head dialog).ends (sharing_rules version dialog.rules) views)) ++ map (fault_at kind) (rule_lines kind dialog)) c.as_slice.ensures
    ∙ joined (fault_at kind) c.add_if.new.found (view_lines kind dialog.node (dialog_head dialog).ends (sharing_rules version dialog.rules) dialog.views) (rule_lines kind dialog))
    c.loop-i.invariant
