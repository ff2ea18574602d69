use Rattle.std.proofs.Common.{◌≡◌, ◌<◌, ◌||◌, List, ◌++◌, map, take, get_or, length, ap, ◌∙◌}
use Rattle.std.specs.List.{list_any}
use Rattle.std.proofs.lemmas.List.Folds.{list_any-append}
use Rattle.tv_model.specs.declared.desc.Desc.{Desc}
use Rattle.tv_model.specs.declared.desc.Dialog.{Dialog}
use Rattle.tv_model.specs.Faults.Names.{dialog_named_again, names_again}
use Rattle.tv_model.specs.Description.Names.{gives_name, shares_name}
use Rattle.tv_model.proofs.EachAfterLemmas.{each_more}
use Rattle.tv_model.proofs.ListLemmas.{any_map, mapped_more}
use Rattle.tv_names.proofs.given.dialogs_named_again.Goals as goal

-- the windows' names, and those of the dialogs before
both_named : (d : Desc) (before : List Dialog) (dialog : Dialog)
    → names_again (map (λ window. window.node) d.windows ++ map (λ other. other.node) before) dialog.node ≡ dialog_named_again d before dialog
both_named d before dialog =
    list_any-append (shares_name dialog.node) (map (λ window. window.node) d.windows) (map (λ other. other.node) before)
    ∙ ap (λ b. b || list_any (shares_name dialog.node) (map (λ other. other.node) before)) (any_map (shares_name dialog.node) (λ window. window.node) d.windows)
    ∙ ap (λ b. list_any (λ window. shares_name dialog.node window.node) d.windows || b) (any_map (shares_name dialog.node) (λ other. other.node) before)

pub loop-dialog-preserved : goal.loop-dialog-preserved
loop-dialog-preserved c =
    let d = c.args.desc.now in
    let i = c.loop-dialog.dialog-index in
    let dialog = c.dialog-item.result in
    let windows = map (λ window. window.node) d.windows in
    let less : i < length d.dialogs = rw c.as_slice-dialog-items.ensures at c.loop-dialog-test.true in
    let is : dialog ≡ get_or d.dialogs i dialog = c.dialog-item.is ∙ ap (λ dialogs. get_or dialogs i dialog) c.as_slice-dialog-items.ensures in
    let given = c.in_ok-give.ensures (windows ++ map (λ dialog. dialog.node) (take i d.dialogs)) c.loop-dialog.invariant.given in
    record {
      judged =
          each_more (dialog_named_again d) d.dialogs i dialog less is c.loop-dialog.again.items c.push.new.self.items c.in_ok-give.field-0 c.loop-dialog.invariant.judged
          c.in_ok-push.ensures.items (given.0 ∙ both_named d (take i d.dialogs) dialog);
      given = λ name. given.1 name ∙ ap (list_any (gives_name name)) (mapped_more (λ dialog. dialog.node) windows d.dialogs i dialog less is);
    }
