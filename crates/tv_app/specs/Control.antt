-- What a control of any kind means.
use Rattle.tv_choices.specs.Choices.{boxes_leaf, list_leaf, radios_leaf}
use Rattle.tv_controls.specs.InputLine.{input_leaf}
use Rattle.tv_controls.specs.StaticText.{text_leaf}
use Rattle.tv_view.specs.Core.{plain_leaf}
use Rattle.tv_app.specs.declared.control.Control.{Control}
use Rattle.tv_app.specs.declared.control.Control.TheVariants as controls
use Rattle.tv_view.specs.Meaning.{Leaf}

-- the leaf that it is
abbrev pub control_leaf : Control → Leaf
control_leaf (controls.Text view) = text_leaf view
control_leaf (controls.Label label) = plain_leaf label.core
control_leaf (controls.Button button) = plain_leaf button.core
control_leaf (controls.Input line) = input_leaf line.core line.edit
control_leaf (controls.CheckBoxes boxes) = boxes_leaf boxes.core boxes.marks boxes.selected
control_leaf (controls.RadioButtons radios) = radios_leaf radios.core radios.marked
control_leaf (controls.List list) = list_leaf list.core list.chosen
