-- The keys of a button, in each phase.
use Rattle.std.specs.Prelude.{Bool}
use Rattle.tv_event.specs.declared.event.Key.{Key}
use Rattle.tv_event.specs.declared.event.Phase.{Phase}
use Rattle.tv_event.specs.declared.event.Phase.TheVariants as phases
use Rattle.tv_model.specs.declared.kind.Button.{Button}
use Rattle.tv_model.specs.Kinds.Button.{is_press}
use Rattle.tv_view.specs.Reactions.{calling_letter, calls}

-- Space in the focus, and its letter before and after that, with Alt and without
abbrev pub is_pressed_by : Button → Phase → Key → Bool
is_pressed_by button phases.Focused k = is_press k
is_pressed_by button phases.Pre k = calls button.text (calling_letter phases.Pre k)
is_pressed_by button phases.Post k = calls button.text (calling_letter phases.Post k)
