-- The kinds of views, a file each: what each is, what it holds, what keys, letters and the mouse make of it,
-- and what it shows.
use Rattle.tv_model.specs.declared.kind.Kind.{Kind}
use Rattle.tv_model.specs.declared.kind.Kind.TheVariants as kinds
use Rattle.tv_model.specs.Controls.Behaviour.{Behaviour, Facts, plain_facts}
use Rattle.tv_model.specs.Kinds.StaticText.{static_text}
use Rattle.tv_model.specs.Kinds.Label.{label_behaviour}
use Rattle.tv_model.specs.Kinds.Button.{button_behaviour}
use Rattle.tv_model.specs.Kinds.InputLine.{input_behaviour, input_facts}
use Rattle.tv_model.specs.Kinds.Cluster.{boxes_behaviour, boxes_facts, radios_behaviour, radios_facts}
use Rattle.tv_model.specs.Kinds.ListBox.{list_behaviour, list_facts}
use Rattle.tv_model.specs.Kinds.Groups.{window_behaviour, window_facts, dialog_behaviour, pane_behaviour}
pub mod StaticText
pub mod Label
pub mod Button
pub mod InputLine
-- check boxes and radio buttons
pub mod Cluster
pub mod ListBox
-- windows, dialogs and panes
pub mod Groups

-- what a kind is and does
abbrev pub behaviour : Kind → Behaviour
behaviour (kinds.Window head) = window_behaviour head
behaviour (kinds.Dialog head) = dialog_behaviour head
behaviour (kinds.Text shown) = static_text shown
behaviour (kinds.Label label) = label_behaviour label
behaviour (kinds.Button button) = button_behaviour button
behaviour (kinds.Input input) = input_behaviour input
behaviour (kinds.CheckBoxes boxes) = boxes_behaviour boxes
behaviour (kinds.RadioButtons radios) = radios_behaviour radios
behaviour (kinds.List list) = list_behaviour list
behaviour (kinds.Pane pane) = pane_behaviour pane

-- what holds of it
abbrev pub facts : Kind → Facts
facts (kinds.Window head) = window_facts head
facts (kinds.Input input) = input_facts input
facts (kinds.CheckBoxes boxes) = boxes_facts boxes
facts (kinds.RadioButtons radios) = radios_facts radios
facts (kinds.List list) = list_facts list
facts _ = plain_facts
