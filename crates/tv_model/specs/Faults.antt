-- Sound descriptions: each fault is a condition on the lists of declarations. A fault names a line of the
-- canonical text.
use Rattle.std.specs.Prelude.{◌≡◌, ℕ, Bool, false, not, List, [], ◌∷◌, ◌++◌, codes, decimal, map, flat_map, Option, None}
use Rattle.tv_model.specs.declared.node.Node.{Node}
use Rattle.tv_model.specs.declared.desc.Desc.{Desc}
use Rattle.tv_model.specs.declared.desc.Menu.{Menu}
use Rattle.tv_model.specs.declared.desc.MenuItem.{MenuItem}
use Rattle.tv_model.specs.declared.desc.StatusItem.{StatusItem}
use Rattle.tv_model.specs.declared.desc.Window.{Window}
use Rattle.tv_model.specs.declared.desc.Dialog.{Dialog}
use Rattle.tv_model.specs.declared.desc.Rule.{Rule}
use Rattle.tv_model.specs.declared.command.Ends.{Ends}
use Rattle.tv_model.specs.declared.fault.Fault.{Fault}
use Rattle.tv_model.specs.declared.fault.FaultKind.{FaultKind}
use Rattle.tv_model.specs.declared.fault.FaultKind.TheVariants as faults
-- lines of declarations, each judged after those before it
pub mod Lines
-- items, each judged after those before it
pub mod Each
-- names: F1 and F6
pub mod Names
-- places: F2 and F3
pub mod Places
-- letters and keys: F4, F5 and F17
pub mod Letters
-- rules: F7, F8 and F9
pub mod Rules
-- texts: F14
pub mod Texts
-- limits: F15
pub mod Limits
-- ends, default buttons, starts and opening commands: F10, F11, F13 and F16
pub mod Starts
-- domains of inputs: F12 and F13
pub mod Domains
pub use Rattle.tv_model.specs.Faults.Lines.{after_seen, lines_where, line_if}
pub use Rattle.tv_model.specs.Faults.Names.{links_nothing, names_again, window_named_again}
pub use Rattle.tv_model.specs.Faults.Names.{dialog_named_again}
pub use Rattle.tv_model.specs.Faults.Places.{is_off_desktop, is_outside, overlaps_earlier}
pub use Rattle.tv_model.specs.Faults.Letters.{has_bad_key, item_again, marks_again, numbered_again}
pub use Rattle.tv_model.specs.Faults.Letters.{rules_cancel, titled_again}
pub use Rattle.tv_model.specs.Faults.Rules.{has_nothing_to_focus, names_unknown, shows_itself}
pub use Rattle.tv_model.specs.Faults.Texts.{has_wide, is_wide_text}
pub use Rattle.tv_model.specs.Faults.Limits.{dialog_outside_limits, is_lawful, is_lawful_number}
pub use Rattle.tv_model.specs.Faults.Limits.{is_lawful_screen, item_outside_limits, least_height}
pub use Rattle.tv_model.specs.Faults.Limits.{least_width, menu_outside_limits, rule_outside_limits}
pub use Rattle.tv_model.specs.Faults.Limits.{status_outside_limits, view_outside_limits}
pub use Rattle.tv_model.specs.Faults.Limits.{window_outside_limits}
pub use Rattle.tv_model.specs.Faults.Domains.{has_no_text, starts_badly}
pub use Rattle.tv_model.specs.Faults.Starts.{is_second_default, lacks_cancel, lacks_end, opens_badly}
pub use Rattle.tv_model.specs.Faults.Starts.{starts_nowhere}
use Rattle.tv_model.specs.Description.Commands.{no_ends}
use Rattle.tv_model.specs.Description.Heads.{dialog_head}
use Rattle.tv_model.specs.Description.Sharing.{is_shared_by, sharing_rules}

-- ---- the faults of each kind of line

-- the screen, which is the second line, and the `start`, which is the third
abbrev pub head_lines : FaultKind → Desc → List ℕ
head_lines faults.OutsideLimits d = line_if (not (is_lawful_screen d)) 2
head_lines faults.BadOpening d = line_if (starts_nowhere d) 3
head_lines _ d = []

-- a menu, after those before it
abbrev pub menu_has : FaultKind → List Menu → Menu → Bool
menu_has faults.WideCharacter before menu = is_wide_text menu.title.text
menu_has faults.OutsideLimits before menu = menu_outside_limits before menu
menu_has faults.MenuLetter before menu = titled_again before menu
menu_has _ before menu = false

-- an item of a menu
abbrev pub item_has : FaultKind → List MenuItem → MenuItem → Bool
item_has faults.WideCharacter before item = is_wide_text item.text.text
item_has faults.OutsideLimits before item = item_outside_limits before item
item_has faults.MenuLetter before item = item_again before item
item_has _ before item = false

-- a status item
abbrev pub status_has : FaultKind → Desc → List StatusItem → StatusItem → Bool
status_has faults.StatusKey d before item = has_bad_key d before item
status_has faults.WideCharacter d before item = is_wide_text item.text
status_has faults.OutsideLimits d before item = status_outside_limits before item
status_has _ d before item = false

-- a window
abbrev pub window_has : FaultKind → List Window → Window → Bool
window_has faults.NameTwice before window = window_named_again before window
window_has faults.WideCharacter before window = has_wide window.node
window_has faults.OutsideLimits before window = window_outside_limits before window
window_has faults.MenuLetter before window = numbered_again before window
window_has _ before window = false

-- a dialog
abbrev pub dialog_has : FaultKind → Desc → List Dialog → Dialog → Bool
dialog_has faults.NameTwice d before dialog = dialog_named_again d before dialog
dialog_has faults.OutsideOwner d before dialog = is_off_desktop d dialog
dialog_has faults.NothingToFocus d before dialog = has_nothing_to_focus dialog
dialog_has faults.MissingEnd d before dialog = lacks_cancel dialog
dialog_has faults.WideCharacter d before dialog = has_wide dialog.node
dialog_has faults.OutsideLimits d before dialog = dialog_outside_limits before dialog
dialog_has faults.BadOpening d before dialog = opens_badly before dialog
dialog_has _ d before dialog = false

-- a view of a window or dialog, its frame, with these ends and with rules by which letters may be shared, if
-- any, among all its views
abbrev pub view_has : FaultKind → Node → Ends → Option (List Rule) → List Node → List Node → Node → Bool
view_has faults.NameTwice frame ends sharing views before node = names_again before node
view_has faults.OutsideOwner frame ends sharing views before node = is_outside frame before node
view_has faults.Overlap frame ends sharing views before node = overlaps_earlier before node
view_has faults.LetterTwice frame ends sharing views before node =
    marks_again (is_shared_by sharing views) before node
view_has faults.LabelLink frame ends sharing views before node = links_nothing views node
view_has faults.MissingEnd frame ends sharing views before node = lacks_end ends node
view_has faults.SecondDefault frame ends sharing views before node = is_second_default before node
view_has faults.EmptyDomain frame ends sharing views before node = has_no_text node.kind
view_has faults.BadStart frame ends sharing views before node = starts_badly node.kind
view_has faults.WideCharacter frame ends sharing views before node = has_wide node
view_has faults.OutsideLimits frame ends sharing views before node = view_outside_limits before node
view_has _ frame ends sharing views before node = false

-- a rule of a dialog
abbrev pub rule_has : FaultKind → List Node → List Rule → Rule → Bool
rule_has faults.UnknownInRule views before rule = names_unknown views rule
rule_has faults.ShowsItself views before rule = shows_itself views rule
rule_has faults.OutsideLimits views before rule = rule_outside_limits before rule
rule_has faults.MenuLetter views before rule = rules_cancel rule
rule_has _ views before rule = false

-- ---- the lines that a fault names, in their order

abbrev pub menu_lines : FaultKind → List Menu → Menu → List ℕ
menu_lines kind before menu =
    line_if (menu_has kind before menu) menu.id.0
    ++ lines_where (λ item. item.id.0) (item_has kind) [] menu.items

abbrev pub status_lines : FaultKind → Desc → List ℕ
status_lines kind d = lines_where (λ item. item.id.0) (status_has kind d) [] d.status

abbrev pub view_lines : FaultKind → Node → Ends → Option (List Rule) → List Node → List ℕ
view_lines kind frame ends sharing views =
    lines_where (λ node. node.id.0) (view_has kind frame ends sharing views) [] views

abbrev pub window_lines : FaultKind → List Window → Window → List ℕ
window_lines kind before window =
    line_if (window_has kind before window) window.node.id.0
    ++ view_lines kind window.node no_ends None window.views

abbrev pub rule_lines : FaultKind → Dialog → List ℕ
rule_lines kind dialog = lines_where (λ rule. rule.id.0) (rule_has kind dialog.views) [] dialog.rules

abbrev pub dialog_lines : FaultKind → Desc → List Dialog → Dialog → List ℕ
dialog_lines kind d before dialog =
    line_if (dialog_has kind d before dialog) dialog.node.id.0
    ++ (view_lines kind dialog.node (dialog_head dialog).ends (sharing_rules d.version dialog.rules)
    dialog.views
    ++ rule_lines kind dialog)

unfoldable pub fault_lines : FaultKind → Desc → List ℕ
fault_lines kind d =
    head_lines kind d
    ++ (flat_map (λ pair. menu_lines kind pair.0 pair.1) (after_seen [] d.menus)
    ++ (status_lines kind d
    ++ (flat_map (λ pair. window_lines kind pair.0 pair.1) (after_seen [] d.windows)
    ++ flat_map (λ pair. dialog_lines kind d pair.0 pair.1) (after_seen [] d.dialogs))))

-- ---- all faults

abbrev pub fault_at : FaultKind → ℕ → Fault
fault_at kind line = record { kind = kind; line = line }

abbrev pub faults_at : FaultKind → Desc → List Fault
faults_at kind d = map (fault_at kind) (fault_lines kind d)

abbrev pub all_kinds : List FaultKind
all_kinds =
    faults.NameTwice ∷ faults.OutsideOwner ∷ faults.Overlap ∷ faults.LetterTwice ∷ faults.StatusKey
    ∷ faults.LabelLink
    ∷ faults.UnknownInRule ∷ faults.ShowsItself ∷ faults.NothingToFocus ∷ faults.MissingEnd
    ∷ faults.SecondDefault
    ∷ faults.EmptyDomain ∷ faults.BadStart ∷ faults.WideCharacter ∷ faults.OutsideLimits ∷ faults.BadOpening
    ∷ faults.MenuLetter ∷ []

-- all faults, by number, then by line
unfoldable pub faults_of : Desc → List Fault
faults_of d = flat_map (λ kind. faults_at kind d) all_kinds

-- a sound description has none
abbrev pub IsSound : Desc → Type 0
IsSound d = faults_of d ≡ []

-- ---- how faults are told

abbrev pub fault_number : FaultKind → ℕ
fault_number faults.NameTwice = 1
fault_number faults.OutsideOwner = 2
fault_number faults.Overlap = 3
fault_number faults.LetterTwice = 4
fault_number faults.StatusKey = 5
fault_number faults.LabelLink = 6
fault_number faults.UnknownInRule = 7
fault_number faults.ShowsItself = 8
fault_number faults.NothingToFocus = 9
fault_number faults.MissingEnd = 10
fault_number faults.SecondDefault = 11
fault_number faults.EmptyDomain = 12
fault_number faults.BadStart = 13
fault_number faults.WideCharacter = 14
fault_number faults.OutsideLimits = 15
fault_number faults.BadOpening = 16
fault_number faults.MenuLetter = 17

-- a fault by its number and line
abbrev pub fault_text : Fault → List ℕ
fault_text fault = codes "F" ++ (decimal (fault_number fault.kind) ++ (codes " line " ++ decimal fault.line))
