-- The windows and dialogs of a checked description can be made.
use Rattle.std.proofs.Common.{◌≡◌, ◌≢◌, ℕ, false, ◌+◌, ◌≤◌, if◌then◌else◌, List, [], ◌∷◌, All, IsTrue, add-one, length, refl, sym, ap, subst, ◌∙◌, arith}
use Rattle.std.specs.List.{AllByRecursion}
use Rattle.std.proofs.lemmas.Bool.{false≢true}
use Rattle.std.proofs.lemmas.List.Elements.{All-from_recursion, All-head, All-tail}
use Rattle.tv_check.specs.Plan.{is_owner}
use Rattle.tv_declarations.specs.Spelling.{AreViews, IsDescription, IsDialog, IsWindow, IsWindowText, is_text, is_view, open_panes_after}
use Rattle.tv_faults.specs.Sound.{Sound}
use Rattle.tv_faults.specs.Sound.Bodies.{dialog_body, window_body}
use Rattle.tv_faults.proofs.LackLemmas.{bodies}
use Rattle.tv_faults.proofs.LimitLemmas.{OfBody, nodes_iff}
use Rattle.tv_faults.proofs.SoundLemmas.{lawful_nodes}
use Rattle.tv_model.specs.declared.desc.Desc.{Desc}
use Rattle.tv_model.specs.declared.kind.Kind.{Kind}
use Rattle.tv_model.specs.declared.kind.Kind.TheVariants as kinds
use Rattle.tv_model.specs.declared.kind.Pane.{Pane}
use Rattle.tv_model.specs.declared.node.Node.{Node}
use Rattle.tv_model.specs.Description.LawfulNodes.{IsLawfulNode}
use Rattle.tv_model.specs.Description.Limits.{most_nested}
use Rattle.tv_model.specs.Description.Nodes.{is_pane}
use Rattle.tv_app.specs.Making.{IsLeafNode}
use Rattle.tv_app.specs.Buildable.{AreBuildable, AreLeft, IsBuildable, IsBuildableDialog, IsBuildableWindow}

-- the view isn't nested too deep
abbrev IsNested : Node → Type 0
IsNested view = IsTrue (is_pane view.kind) → view.depth ≢ most_nested

-- ---- views

pub buildable : (panes : ℕ) (views : List Node) → AreViews panes views → All IsLawfulNode views → All IsNested views → AreBuildable panes views
buildable panes [] are lawful nested = tt
buildable panes (view ∷ views) are lawful nested = (
  record { lawful = All-head IsLawfulNode view views lawful; view = are.0; nested = All-head IsNested view views nested },
  are.1,
  buildable (open_panes_after view) views are.3 (All-tail IsLawfulNode view views lawful) (All-tail IsNested view views nested),
)

text_view : (kind : Kind) → IsTrue (is_text kind) → IsTrue (is_view kind) × (is_pane kind ≡ false)
text_view (kinds.Text own) is = (refl, refl)
text_view _ is = absurd (false≢true is)

-- texts of a window are views, of which none is a pane
texts_viewed : (views : List Node) → AllByRecursion IsWindowText views → AreViews 0 views
texts_viewed [] texts = tt
texts_viewed (view ∷ views) texts =
    let kind = text_view view.kind texts.0.kind in
    let none : open_panes_after view ≡ 0 = rw kind.1 texts.0.depth in
    (kind.0, omega (arith, texts.0.depth), omega (arith, none), rw none (texts_viewed views texts.1))

-- ---- windows and dialogs

module _ (d : Desc) (is : IsDescription d) (s : Sound d) where
  pub windows_buildable : All IsBuildableWindow d.windows
  windows_buildable =
      let own : All (λ window. OfBody IsLawfulNode (window_body window)) d.windows = ((bodies d (OfBody IsLawfulNode)).0 ((nodes_iff IsLawfulNode d).0 (lawful_nodes d s))).0 in
      let spelled : All IsWindow d.windows = All-from_recursion IsWindow d.windows is.windows in
      let nested : All (λ window. All IsNested window.views) d.windows = ((bodies d (λ body. All IsNested body.views)).0 s.limits.nested).0 in
      λ k window less.
      let lawful = own k window less in
      record { lawful = lawful.0; views = buildable 0 _ (texts_viewed _ (spelled k window less).views) lawful.1 (nested k window less) }

  pub dialogs_buildable : All IsBuildableDialog d.dialogs
  dialogs_buildable =
      let own : All (λ dialog. OfBody IsLawfulNode (dialog_body d.version dialog)) d.dialogs = ((bodies d (OfBody IsLawfulNode)).0 ((nodes_iff IsLawfulNode d).0 (lawful_nodes d s))).1 in
      let spelled : All IsDialog d.dialogs = All-from_recursion IsDialog d.dialogs is.dialogs in
      let nested : All (λ dialog. All IsNested dialog.views) d.dialogs = ((bodies d (λ body. All IsNested body.views)).0 s.limits.nested).1 in
      λ k dialog less.
      let lawful = own k dialog less in
      record { lawful = lawful.0; views = buildable 0 _ (spelled k dialog less).views lawful.1 (nested k dialog less) }

-- ---- kinds

-- a view that is no pane is no owner either
no_owner : (kind : Kind) → IsTrue (is_view kind) → is_pane kind ≡ false → is_owner kind ≡ false
no_owner (kinds.Window head) is pane = absurd (false≢true is)
no_owner (kinds.Dialog head) is pane = absurd (false≢true is)
no_owner (kinds.Pane own) is pane = absurd cc
no_owner _ is pane = refl

-- so it is the node of a leaf
pub leaf_node : (view : Node) → IsBuildable view → is_pane view.kind ≡ false → IsLeafNode view
leaf_node view own leaf = record { lawful = own.lawful; no_owner = no_owner view.kind own.view leaf }

-- ---- views that are left

module _ (panes : ℕ) (views : List Node) (view : Node) (behind : List Node) (is : views ≡ view ∷ behind) (are : AreBuildable panes views) where
  pub first_lawful : IsBuildable view
  first_lawful = let own = rw is at are in own.0

  pub depth_is : panes ≤ view.depth → view.depth ≡ panes
  depth_is deep = let own = rw is at are in let most : view.depth ≤ panes = own.1 in omega arith

  -- behind a leaf, and in a pane
  pub behind_leaf : is_pane view.kind ≡ false → view.depth ≡ panes → AreBuildable panes behind
  behind_leaf leaf depth = let own = rw is at are in subst (λ n. AreBuildable n behind) (ap (λ b. if b then view.depth + 1 else view.depth) leaf ∙ depth) own.2

pub after_pane : (panes : ℕ) (after : List Node) → AreLeft (panes + 1) after → AreBuildable panes after
after_pane panes after left = subst (λ n. AreLeft n after) (add-one panes) left

pub one_behind : (views : List Node) (view : Node) (behind : List Node) → views ≡ view ∷ behind → length views ≡ length behind + 1
one_behind views view behind is = ap length is ∙ sym (add-one (length behind))

pub not_pane : (kind : Kind) → ((pane : Pane) → kind ≡ kinds.Pane pane → ⊥) → is_pane kind ≡ false
not_pane (kinds.Pane pane) other = absurd (other pane refl)
not_pane _ other = refl
