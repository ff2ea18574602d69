-- What a dialog's plan keeps of its description.
use Rattle.std.proofs.Common.{◌≡◌, ℕ, ℤ, Bool, true, false, List, [], ◌∷◌, Option, refl, sym}
use Rattle.std.specs.Prelude.{find, option_map, if◌then◌else◌}
use Rattle.std.proofs.lemmas.Bool.{false≢true}
use Rattle.tv_model.specs.declared.node.Id.{Id}
use Rattle.tv_model.specs.declared.node.Node.{Node}
use Rattle.tv_model.specs.declared.kind.Kind.{Kind}
use Rattle.tv_model.specs.declared.kind.Kind.TheVariants as kinds
use Rattle.tv_model.specs.Description.Nodes.{is_default, is_pane}
use Rattle.tv_machine.specs.Leaves.{PlacedNode, leaves_in, open_after, open_at}
use Rattle.tv_dialog.specs.Plan.{default_of}

-- ---- the default button

-- no pane is a default button
default_no_pane : (id : Id) (depth : ℕ) (x y w : ℤ) (kind : Kind) → is_pane kind ≡ true → is_default (record { id = id; depth = depth; x = x; y = y; w = w; kind = kind }) ≡ false
default_no_pane id depth x y w (kinds.Button button) e = absurd (false≢true e)
default_no_pane id depth x y w _ e = refl

abbrev first_leaf : List PlacedNode → Option Id
first_leaf leaves = option_map (λ leaf. leaf.node.id) (find (λ leaf. is_default leaf.node) leaves)

abbrev first_view : List Node → Option Id
first_view views = option_map (λ view. view.id) (find is_default views)

-- one view more in front
one_more : (view : Node) (panes : List Node) (leaves : List PlacedNode) (views : List Node) (b q : Bool) → is_pane view.kind ≡ b → is_default view ≡ q → first_leaf leaves ≡ first_view views → first_leaf (if b then leaves else record { node = view; panes = panes } ∷ leaves) ≡ first_view (view ∷ views)
one_more view panes leaves views true q pane default rest =
    rw (default_no_pane view.id view.depth view.x view.y view.w view.kind pane) rest
one_more view panes leaves views false true pane default rest = rw default refl
one_more view panes leaves views false false pane default rest = rw default rest

default-leaves_in : (panes views : List Node) → first_leaf (leaves_in panes views) ≡ first_view views
default-leaves_in panes [] = refl
default-leaves_in panes (view ∷ views) =
    one_more view (open_at view.depth panes) (leaves_in (open_after panes view) views) views (is_pane view.kind) (is_default view) refl refl
    (default-leaves_in (open_after panes view) views)

-- the first default button among views is the first among their leaves
pub default-leaves : (views : List Node) → option_map (λ view. view.id) (find is_default views) ≡ default_of views
default-leaves views = sym (default-leaves_in [] views)
