-- What views may be made of, as those of every checked description are.
use Rattle.std.specs.Prelude.{◌≡◌, ◌≢◌, ◌≤◌, ℕ, zero, suc, IsTrue, List, [], ◌∷◌}
use Rattle.tv_declarations.specs.Spelling.{is_view, open_panes_after}
use Rattle.tv_model.specs.Description.LawfulNodes.{IsLawfulNode}
use Rattle.tv_model.specs.Description.Limits.{most_nested}
use Rattle.tv_model.specs.Description.Nodes.{is_pane}
use Rattle.tv_model.specs.declared.desc.Dialog.{Dialog}
use Rattle.tv_model.specs.declared.desc.Window.{Window}
use Rattle.tv_model.specs.declared.node.Node.{Node}

-- a lawful node of a view; no pane has so many panes around it as may be nested
pub record IsBuildable (node : Node) : Type 0 where
  pub lawful : IsLawfulNode node
  pub view : IsTrue (is_view node.kind)
  pub nested : IsTrue (is_pane node.kind) → node.depth ≢ most_nested

-- views each of which stands in some of the panes that are open before it
abbrev pub AreBuildable : (panes : ℕ) → List Node → Type 0
AreBuildable panes [] = Unit {0}
AreBuildable panes (node ∷ nodes) =
    IsBuildable node × (node.depth ≤ panes) × AreBuildable (open_panes_after node) nodes

-- what is left once all views in so many panes were made: views in fewer panes, and so none where no pane is
-- around
abbrev pub AreLeft : (panes : ℕ) → List Node → Type 0
AreLeft zero nodes = nodes ≡ []
AreLeft (suc panes) nodes = AreBuildable panes nodes

pub record IsBuildableWindow (window : Window) : Type 0 where
  pub lawful : IsLawfulNode window.node
  pub views : AreBuildable 0 window.views

pub record IsBuildableDialog (dialog : Dialog) : Type 0 where
  pub lawful : IsLawfulNode dialog.node
  pub views : AreBuildable 0 dialog.views
