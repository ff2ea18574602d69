-- A window or a dialog with one view or rule more, as it stands after the change in place.
use Rattle.std.proofs.Common.{◌≡◌, ℕ, true, [], ◌∷◌, ◌++◌, Some, refl, sym, ap, ◌∙◌, subst}
use Rattle.std.specs.Prelude.{IsTrue}
use Rattle.std.proofs.Math.Bool.{Bool-set}
use Rattle.tv_model.specs.declared.node.Node.{Node}
use Rattle.tv_model.specs.declared.desc.Desc.{Desc}
use Rattle.tv_model.specs.declared.desc.Dialog.{Dialog}
use Rattle.tv_model.specs.declared.desc.Rule.{Rule}
use Rattle.tv_model.specs.declared.desc.Window.{Window}
use Rattle.tv_model.specs.Description.Nodes.{is_window, is_dialog}
use Rattle.tv_declarations.specs.declared.declaration.Declaration.TheVariants as declared
use Rattle.tv_declarations.specs.Spelling.{is_text, is_view}
use Rattle.tv_lang.specs.declared.stage.Stage.TheVariants as stages
use Rattle.tv_lang.specs.Reading.Stages.{panes_after, rules_taken, view_taken, window_taken}

-- that a window's own node is a window's can be told in one way alone
same_window : (a b : Window) → a.node ≡ b.node → a.views ≡ b.views → a ≡ b
same_window a b en ev =
    let at_node : (own : IsTrue (is_window a.node.kind)) → record { node = a.node; views = b.views; own_kind = own } ≡ b = subst (λ n. (own : IsTrue (is_window n.kind)) → record { node = n; views = b.views; own_kind = own } ≡ b) (sym en) (λ own. ap (λ o. record b { own_kind = o }) (Bool-set (is_window b.node.kind) true own b.own_kind)) in
    ap (λ l. record a { views = l }) ev ∙ at_node a.own_kind

same_dialog : (a b : Dialog) → a.node ≡ b.node → a.views ≡ b.views → a.rules ≡ b.rules → a ≡ b
same_dialog a b en ev er =
    let at_node : (own : IsTrue (is_dialog a.node.kind)) → record { node = a.node; views = b.views; rules = b.rules; own_kind = own } ≡ b = subst (λ n. (own : IsTrue (is_dialog n.kind)) → record { node = n; views = b.views; rules = b.rules; own_kind = own } ≡ b) (sym en) (λ own. ap (λ o. record b { own_kind = o }) (Bool-set (is_dialog b.node.kind) true own b.own_kind)) in
    ap (λ l. record a { views = l }) ev ∙ ap (λ l. record a { views = b.views; rules = l }) er ∙ at_node a.own_kind

pub with_text : (d : Desc) (window a : Window) (view : Node) → is_text view.kind ≡ true → a.node ≡ window.node → a.views ≡ window.views ++ view ∷ [] → Some (stages.InWindow a, d) ≡ window_taken d window (declared.Node view)
with_text d window a view is en ev = rw (same_window a (record window { views = window.views ++ view ∷ [] }) en ev, is) refl

pub with_view : (d : Desc) (dialog a : Dialog) (panes more : ℕ) (view : Node) → is_view view.kind ≡ true → panes_after panes view ≡ Some more → a.node ≡ dialog.node → a.views ≡ dialog.views ++ view ∷ [] → a.rules ≡ dialog.rules → Some (stages.InViews a more, d) ≡ view_taken d dialog panes view
with_view d dialog a panes more view is after en ev er = rw (same_dialog a (record dialog { views = dialog.views ++ view ∷ [] }) en ev er, is, after) refl

pub with_rule : (d : Desc) (dialog a : Dialog) (rule : Rule) → a.node ≡ dialog.node → a.views ≡ dialog.views → a.rules ≡ dialog.rules ++ rule ∷ [] → Some (stages.InRules a, d) ≡ rules_taken d dialog (declared.Rule rule)
with_rule d dialog a rule en ev er = ap (λ x. Some (stages.InRules x, d)) (same_dialog a (record dialog { rules = dialog.rules ++ rule ∷ [] }) en ev er)
