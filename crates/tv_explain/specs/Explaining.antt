-- Why a line has a fault, wherever it stands, and faults explained.
use Rattle.std.specs.Prelude.{ℕ, ◌==◌, List, Option, Some, None, option_map, option_and_then, unwrap_or}
use Rattle.std.specs.Prelude.{if◌then◌else◌}
use Rattle.std.specs.Option.{option_or}
use Rattle.tv_model.specs.declared.node.Node.{Node}
use Rattle.tv_model.specs.declared.desc.Desc.{Desc}
use Rattle.tv_model.specs.declared.desc.Menu.{Menu}
use Rattle.tv_model.specs.declared.desc.MenuItem.{MenuItem}
use Rattle.tv_model.specs.declared.desc.StatusItem.{StatusItem}
use Rattle.tv_model.specs.declared.desc.Window.{Window}
use Rattle.tv_model.specs.declared.desc.Dialog.{Dialog}
use Rattle.tv_model.specs.declared.desc.Rule.{Rule}
use Rattle.tv_model.specs.declared.fault.Fault.{Fault}
use Rattle.tv_model.specs.declared.fault.FaultKind.{FaultKind}
use Rattle.tv_model.specs.declared.fault.FaultKind.TheVariants as faults
use Rattle.tv_explain.specs.declared.why.Why.{Why}
use Rattle.tv_explain.specs.declared.why.Reason.TheVariants as reasons
use Rattle.tv_explain.specs.declared.explaining.Explained.{Explained}
use Rattle.tv_explain.specs.Places.{place}
use Rattle.tv_explain.specs.Whys.{because, from_line, itself}
use Rattle.tv_explain.specs.Inside.{Framed, Ruled, in_frame, ruled}
use Rattle.tv_explain.specs.Lines.{around_line, at_line}
use Rattle.tv_explain.specs.Letters.{item_why, title_why}
use Rattle.tv_explain.specs.Keys.{key_why, number_why}
use Rattle.tv_explain.specs.Rules.{focus_why, shown_why, unknown_why}
use Rattle.tv_explain.specs.Heads.{dialog_named, opening_why, start_why, window_named}
use Rattle.tv_explain.specs.Limits.{dialog_limit, item_limit, menu_limit, rule_limit, status_limit}
use Rattle.tv_explain.specs.Limits.{window_limit}
use Rattle.tv_explain.specs.Views.{view_why}

-- ---- why a declaration has a fault, those before it being these

abbrev pub menu_has_why : FaultKind → List Menu → Menu → Why
menu_has_why faults.OutsideLimits before menu = because (menu_limit before) None
menu_has_why faults.MenuLetter before menu = title_why before menu
menu_has_why _ before menu = itself

abbrev pub item_has_why : FaultKind → List MenuItem → MenuItem → Why
item_has_why faults.OutsideLimits before item = because (item_limit before item) None
item_has_why faults.MenuLetter before item = item_why before item
item_has_why _ before item = itself

abbrev pub status_has_why : FaultKind → Desc → List StatusItem → StatusItem → Why
status_has_why faults.StatusKey d before item = key_why d before item
status_has_why faults.OutsideLimits d before item = because (status_limit before item) None
status_has_why _ d before item = itself

abbrev pub window_has_why : FaultKind → List Window → Window → Why
window_has_why faults.NameTwice before window = from_line (window_named before window.node)
window_has_why faults.OutsideLimits before window = because (window_limit before window) None
window_has_why faults.MenuLetter before window = number_why before window
window_has_why _ before window = itself

-- the screen is the second line
abbrev pub dialog_has_why : FaultKind → Desc → List Dialog → Dialog → Why
dialog_has_why faults.NameTwice d before dialog = from_line (dialog_named d before dialog)
dialog_has_why faults.OutsideOwner d before dialog = from_line (Some 2)
dialog_has_why faults.NothingToFocus d before dialog = focus_why dialog
dialog_has_why faults.MissingEnd d before dialog = because reasons.NoCancel None
dialog_has_why faults.OutsideLimits d before dialog = because (dialog_limit before dialog) None
dialog_has_why faults.BadOpening d before dialog = opening_why before dialog
dialog_has_why _ d before dialog = itself

abbrev pub rule_has_why : FaultKind → List Node → List Rule → Rule → Why
rule_has_why faults.UnknownInRule views before rule = unknown_why views rule
rule_has_why faults.ShowsItself views before rule = shown_why views rule
rule_has_why faults.OutsideLimits views before rule = because (rule_limit before) None
rule_has_why faults.MenuLetter views before rule = because reasons.RulesCancel None
rule_has_why _ views before rule = itself

-- ---- why the declaration on a line has a fault, where it stands in this part of the description

-- the screen, which is the second line, and the `start`, which is the third
abbrev pub head_at : FaultKind → Desc → ℕ → Option Why
head_at faults.OutsideLimits d line = if line == 2 then Some (because reasons.Screen None) else None
head_at faults.BadOpening d line =
    if line == 3 then option_map (λ name. start_why name d.windows) d.start else None
head_at _ d line = None

abbrev pub menu_at : FaultKind → Desc → ℕ → Option Why
menu_at kind d line =
    option_map (λ pair. menu_has_why kind pair.0 pair.1) (at_line (λ menu. menu.id.0) line d.menus)

abbrev pub item_at : FaultKind → Desc → ℕ → Option Why
item_at kind d line =
    option_and_then (λ menu.
    option_map (λ pair. item_has_why kind pair.0 pair.1) (at_line (λ item. item.id.0) line menu.items))
    (around_line (λ menu. menu.id.0) line d.menus)

abbrev pub status_at : FaultKind → Desc → ℕ → Option Why
status_at kind d line =
    option_map (λ pair. status_has_why kind d pair.0 pair.1) (at_line (λ item. item.id.0) line d.status)

abbrev pub window_at : FaultKind → Desc → ℕ → Option Why
window_at kind d line =
    option_map
    (λ pair. window_has_why kind pair.0 pair.1) (at_line (λ window. window.node.id.0) line d.windows)

abbrev pub view_at : FaultKind → Framed → ℕ → Option Why
view_at kind inside line =
    option_map (λ pair. view_why kind inside pair.0 pair.1) (at_line (λ node. node.id.0) line inside.views)

abbrev pub in_window : FaultKind → Desc → ℕ → Option Why
in_window kind d line =
    option_and_then (λ window. view_at kind (in_frame window) line)
    (around_line (λ window. window.node.id.0) line d.windows)

abbrev pub dialog_at : FaultKind → Desc → ℕ → Option Why
dialog_at kind d line =
    option_map (λ pair. dialog_has_why kind d pair.0 pair.1)
    (at_line (λ dialog. dialog.node.id.0) line d.dialogs)

abbrev pub rule_at : FaultKind → Ruled → ℕ → Option Why
rule_at kind dialog line =
    option_map (λ pair. rule_has_why kind dialog.inside.views pair.0 pair.1)
    (at_line (λ rule. rule.id.0) line dialog.rules)

-- a view or a rule of this dialog
abbrev pub part_at : FaultKind → Ruled → ℕ → Option Why
part_at kind dialog line = option_or (view_at kind dialog.inside line) (rule_at kind dialog line)

abbrev pub in_dialog : FaultKind → Desc → ℕ → Option Why
in_dialog kind d line =
    option_and_then (λ dialog. part_at kind (ruled d.version dialog) line)
    (around_line (λ dialog. dialog.node.id.0) line d.dialogs)

-- what stands in no window and in no dialog, and the lines of windows and dialogs themselves
abbrev pub outside_at : FaultKind → Desc → ℕ → Option Why
outside_at kind d line =
    option_or (head_at kind d line)
    (option_or (menu_at kind d line)
    (option_or (item_at kind d line)
    (option_or (status_at kind d line)
    (option_or (window_at kind d line) (dialog_at kind d line)))))

-- ---- faults explained

-- why the line has the fault
unfoldable pub why_of : Desc → Fault → Why
why_of d fault =
    unwrap_or
    (option_or (outside_at fault.kind d fault.line)
    (option_or (in_window fault.kind d fault.line) (in_dialog fault.kind d fault.line)))
    itself

-- a fault of the description that this text spells: where it stands in the text, why, and where the other
-- line stands
abbrev pub explained : List ℕ → Desc → Fault → Explained
explained text d fault =
    record {
      fault = fault;
      line = place text fault.line;
      why = why_of d fault;
      other = option_map (place text) (why_of d fault).other;
    }
