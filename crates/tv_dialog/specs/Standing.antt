-- A dialog at work, where the machine's dialog stands so.
use Rattle.std.specs.Prelude.{◌≡◌, ◌<◌, ◌⊎◌, ◌||◌, ℕ, Bool, false, List, [], map, Option, Some, is_some}
use Rattle.std.specs.Prelude.{is_none, option_map, slice_index_or}
use Rattle.tv_event.specs.declared.event.Command.{Command}
use Rattle.tv_view.specs.Meaning.{Leaf}
use Rattle.tv_model.specs.declared.node.Id.{Id}
use Rattle.tv_model.specs.declared.desc.Dialog.{Dialog}
use Rattle.tv_model.specs.Log.Record.{Entries}
use Rattle.tv_machine.specs.Safe.{field_ids}
use Rattle.tv_machine.specs.State.{LeafState}
use Rattle.tv_machine.specs.Dialog.Focus.{next_free, previous_free, stops_of}
use Rattle.tv_machine.specs.Dialog.Modal.{Modal}
use Rattle.tv_machine.specs.Dialog.Rules.{is_command_enabled}
use Rattle.tv_group.specs.declared.focus.Dir.{Dir}
use Rattle.tv_group.specs.declared.focus.Dir.TheVariants as dirs
use Rattle.tv_group.specs.Opened.{opened}
use Rattle.tv_dialog.specs.Head.{declared_dialog_head}
use Rattle.tv_dialog.specs.Plan.{plan_of}
use Rattle.tv_group.specs.Tree.{IsSteady, tree_as}
use Rattle.tv_dialog.specs.declared.dialog.DialogOf.{DialogOf}

-- all commands are enabled once the dialog ended
abbrev pub is_enabled_in : Dialog → List LeafState → Modal → ℕ → Bool
is_enabled_in d ruled m number = is_some m.ended || is_command_enabled d ruled number

-- a record of no fields, or of the dialog's in order
abbrev pub AreFields : Dialog → Entries → Type 0
AreFields d entries = (entries ≡ []) ⊎ (map (λ entry. entry.id) entries ≡ field_ids d)

-- the number of the command by which a dialog ended
abbrev pub end_number : Option Command → Option ℕ
end_number ended = option_map (λ command. command.0) ended

-- the dialog stands as the machine's does, where its rules were last applied to the marks of these leaves
pub record Stands {V : Type 0} (look : V → Leaf) (d : Dialog) (ruled : List LeafState) (m : Modal)
    (dialog : DialogOf V) : Type 0 where
  pub head : Some dialog.head ≡ declared_dialog_head d.node
  pub plan : dialog.plan ≡ plan_of d.views d.rules
  pub tree : opened look dialog.body ≡ tree_as d ruled m
  pub steady : IsSteady d m
  pub focus : dialog.focus ≡ m.focus
  pub log : dialog.log.items ≡ m.log
  pub «open» : dialog.is_open ≡ is_none m.ended
  pub ended : end_number dialog.ended ≡ m.ended
  pub marks : AreFields d dialog.marks
  pub commands : (number : ℕ) → number < 256
      → slice_index_or dialog.ruled.commands number false ≡ is_enabled_in d ruled m number

-- ---- turns

-- the next free control in a direction, cyclically
abbrev pub stop_in : Dialog → Modal → Dir → Id
stop_in d m dirs.Forward = next_free (stops_of d m.leaves) m.focus
stop_in d m dirs.Backward = previous_free (stops_of d m.leaves) m.focus
