-- Windows, dialogs and panes, in which other views stand.
use Rattle.std.specs.Prelude.{[], ◌∷◌, Some, pos}
use Rattle.tv_model.specs.declared.kind.DialogHead.{DialogHead}
use Rattle.tv_model.specs.declared.kind.Pane.{Pane}
use Rattle.tv_model.specs.declared.kind.WindowHead.{WindowHead}
use Rattle.tv_model.specs.Controls.Behaviour.{Behaviour, plain, Facts, plain_facts}
use Rattle.tv_model.specs.Description.Numbers.{IsBetween}

abbrev pub window_behaviour : WindowHead → Behaviour
window_behaviour head = record plain {
  name = Some head.name;
  rows = head.h;
  least_width = pos 12;
  least_height = pos 3;
  texts = head.title ∷ [];
}

-- a number that a window may have
abbrev pub window_facts : WindowHead → Facts
window_facts head = record plain_facts { HasLawfulAmount = IsBetween (pos 0) (pos 9) head.number }

abbrev pub dialog_behaviour : DialogHead → Behaviour
dialog_behaviour head = record plain {
  name = Some head.name;
  rows = head.h;
  least_width = pos 12;
  least_height = pos 3;
  texts = head.title ∷ [];
}

abbrev pub pane_behaviour : Pane → Behaviour
pane_behaviour pane = record plain { name = Some pane.name; rows = pane.h }
