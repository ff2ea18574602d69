-- What the line of a window or of a dialog opens.
use Rattle.std.proofs.Common.{◌≡◌, Bool, true, false, [], Some, refl, sym, ap, ◌∙◌, subst}
use Rattle.std.specs.Prelude.{IsTrue}
use Rattle.std.proofs.Math.Bool.{Bool-set}
use Rattle.tv_model.specs.declared.node.Node.{Node}
use Rattle.tv_model.specs.declared.kind.Kind.{Kind}
use Rattle.tv_model.specs.declared.kind.Kind.TheVariants as kinds
use Rattle.tv_model.specs.declared.desc.Desc.{Desc}
use Rattle.tv_model.specs.declared.desc.Dialog.{Dialog}
use Rattle.tv_model.specs.declared.desc.Window.{Window}
use Rattle.tv_model.specs.Description.Nodes.{is_window, is_dialog}
use Rattle.tv_lang.specs.declared.stage.Stage.TheVariants as stages
use Rattle.tv_lang.specs.Reading.Stages.{dialog_of, no_dialogs, node_opened, opened_as, empty_window}

as_window : (d : Desc) (node : Node) (window dialog : Bool) (ew : is_window node.kind ≡ window) (ed : is_dialog node.kind ≡ dialog) (is : IsTrue (is_window node.kind)) → no_dialogs d ≡ true → opened_as d node window dialog ew ed ≡ Some (stages.InWindow (empty_window node is), d)
as_window d node true dialog ew ed is none = rw none (ap (λ own. Some (stages.InWindow (empty_window node own), d)) (Bool-set (is_window node.kind) true ew is))
as_window d node false dialog ew ed is none = let clash : false ≡ true = sym ew ∙ is in absurd cc

-- a window's line opens the window, where no dialog is declared
pub opens_window : (d : Desc) (node : Node) (window : Window) → window.node ≡ node → window.views ≡ [] → no_dialogs d ≡ true → node_opened d node ≡ Some (stages.InWindow window, d)
opens_window d node window en ev none =
    let own : node_opened d window.node ≡ Some (stages.InWindow (empty_window window.node window.own_kind), d) = as_window d window.node (is_window window.node.kind) (is_dialog window.node.kind) refl refl window.own_kind none in
    subst (λ n. node_opened d n ≡ Some (stages.InWindow window, d)) en (own ∙ ap (λ l. Some (stages.InWindow (record window { views = l }), d)) (sym ev))

-- a dialog's kind is no window's
not_window : (kind : Kind) → IsTrue (is_dialog kind) → is_window kind ≡ false
not_window (kinds.Window head) is = absurd cc
not_window _ is = refl

as_dialog : (d : Desc) (node : Node) (window dialog : Bool) (ew : is_window node.kind ≡ window) (ed : is_dialog node.kind ≡ dialog) (is : IsTrue (is_dialog node.kind)) → opened_as d node window dialog ew ed ≡ Some (stages.InViews (dialog_of node is) 0, d)
as_dialog d node true dialog ew ed is = let clash : true ≡ false = sym ew ∙ not_window node.kind is in absurd cc
as_dialog d node false true ew ed is = ap (λ own. Some (stages.InViews (dialog_of node own) 0, d)) (Bool-set (is_dialog node.kind) true ed is)
as_dialog d node false false ew ed is = let clash : false ≡ true = sym ed ∙ is in absurd cc

-- a dialog's line opens the dialog
pub opens_dialog : (d : Desc) (node : Node) (dialog : Dialog) → dialog.node ≡ node → dialog.views ≡ [] → dialog.rules ≡ [] → node_opened d node ≡ Some (stages.InViews dialog 0, d)
opens_dialog d node dialog en ev er =
    let own : node_opened d dialog.node ≡ Some (stages.InViews (dialog_of dialog.node dialog.own_kind) 0, d) = as_dialog d dialog.node (is_window dialog.node.kind) (is_dialog dialog.node.kind) refl refl dialog.own_kind in
    let views : Some (stages.InViews (dialog_of dialog.node dialog.own_kind) 0, d) ≡ Some (stages.InViews (record dialog { rules = [] }) 0, d) = ap (λ l. Some (stages.InViews (record dialog { views = l; rules = [] }) 0, d)) (sym ev) in
    subst (λ n. node_opened d n ≡ Some (stages.InViews dialog 0, d)) en (own ∙ views ∙ ap (λ l. Some (stages.InViews (record dialog { rules = l }) 0, d)) (sym er))
