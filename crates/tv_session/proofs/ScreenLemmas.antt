-- Screens of one size.
use Rattle.std.proofs.Common.{◌≡◌, subst, ◌∙◌}
use Rattle.tv_cells.specs.Layers.{Shows}
use Rattle.tv_cells.specs.Picture.{Picture, IsAlike}
use Rattle.tv_model.specs.Description.Numbers.{natural}
use Rattle.tv_model.specs.declared.desc.Desc.{Desc}
use Rattle.tv_machine.specs.Screen.Layers.{layers_of}
use Rattle.tv_machine.specs.State.{State}
use Rattle.tv_script.specs.Performed.{IsScreenOf}

-- a screen that is painted anew
pub shown_again : (d lent : Desc) (s t : State) (old new : Picture) → lent ≡ d → IsScreenOf (record { desc = d; state = s }) old
    → IsAlike old new × Shows (layers_of lent t) new → IsScreenOf (record { desc = d; state = t }) new
shown_again d lent s t old new same before painted = record {
  width = painted.0.width ∙ before.width;
  height = painted.0.height ∙ before.height;
  cells = subst (λ x. Shows (layers_of x t) new) same painted.1;
}

-- the first screen
pub shown_first : (d lent : Desc) (t : State) (old new : Picture) → lent ≡ d → old.width ≡ natural d.width → old.height ≡ natural d.height
    → IsAlike old new × Shows (layers_of lent t) new → IsScreenOf (record { desc = d; state = t }) new
shown_first d lent t old new same width height painted = record {
  width = painted.0.width ∙ width;
  height = painted.0.height ∙ height;
  cells = subst (λ x. Shows (layers_of x t) new) same painted.1;
}
