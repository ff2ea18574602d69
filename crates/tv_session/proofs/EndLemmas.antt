-- What a node's end makes, by what its kind is.
use Rattle.std.proofs.Common.{◌≡◌, List, refl, subst, sym}
use Rattle.tv_group.specs.declared.group.GroupOf.{GroupOf}
use Rattle.tv_model.specs.declared.kind.DialogHead.{DialogHead}
use Rattle.tv_model.specs.declared.kind.Kind.{Kind}
use Rattle.tv_model.specs.declared.kind.Kind.TheVariants as kinds
use Rattle.tv_model.specs.declared.kind.Pane.{Pane}
use Rattle.tv_model.specs.declared.kind.WindowHead.{WindowHead}
use Rattle.tv_model.specs.declared.node.Node.{Node}
use Rattle.tv_session.specs.Building.{EndsAs, IsWrongPlace}
use Rattle.tv_session.specs.declared.begun.Begun.{Begun}
use Rattle.tv_session.specs.declared.building.Building.{Building}

pub by_kind : {V : Type 0} (kind known : Kind) → kind ≡ known → (node : Node) (group : GroupOf V) (outer : List (Begun V)) (old new : Building V) → EndsAs known node group outer old new → EndsAs kind node group outer old new
by_kind kind known is node group outer old new ends = subst (λ (k : Kind). EndsAs k node group outer old new) (sym is) ends

pub other_kind : {V : Type 0} (kind : Kind) (outer : List (Begun V)) → ((x : WindowHead) → kind ≡ kinds.Window x → ⊥) → ((x : DialogHead) → kind ≡ kinds.Dialog x → ⊥)
    → ((x : Pane) → kind ≡ kinds.Pane x → ⊥) → IsWrongPlace kind outer
other_kind (kinds.Window x) outer not_window not_dialog not_pane = absurd (not_window x refl)
other_kind (kinds.Dialog x) outer not_window not_dialog not_pane = absurd (not_dialog x refl)
other_kind (kinds.Pane x) outer not_window not_dialog not_pane = absurd (not_pane x refl)
other_kind _ outer not_window not_dialog not_pane = tt
