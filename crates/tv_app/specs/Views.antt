-- When views are those that a description declares.
use Rattle.std.specs.Prelude.{ℕ, List}
use Rattle.std.specs.List.{AllZip}
use Rattle.tv_group.specs.declared.group.GroupOf.{GroupOf}
use Rattle.tv_model.specs.declared.desc.Desc.{Desc}
use Rattle.tv_session.specs.Freshness.{IsFreshBodyFor, IsFreshFor}
use Rattle.tv_session.specs.Starting.{RefusesViews}
use Rattle.tv_session.specs.declared.fault.SessionFault.TheVariants.{ViewMismatch}
use Rattle.tv_view.specs.Meaning.{Leaf}
use Rattle.tv_window.specs.declared.window.WindowOf.{WindowOf}

-- one window for each that is declared, and one body for each dialog, in that order, and each stands as it is
-- declared, before any event
pub record AreAsDeclared {V : Type 0} (look : V → Leaf) (d : Desc) (windows : List (WindowOf V))
    (bodies : List (GroupOf V)) : Type 0 where
  pub windows_of : AllZip (IsFreshFor look) d.windows windows
  pub bodies_of : AllZip (IsFreshBodyFor look) d.dialogs bodies

-- whatever view a session might name as the first that isn't as declared, it is not
abbrev pub NoneMismatches : {V : Type 0} → (V → Leaf) → Desc → List (WindowOf V) → List (GroupOf V) → Type 0
NoneMismatches look d windows bodies =
    (place : ℕ) → RefusesViews look d windows bodies (ViewMismatch place) → ⊥
