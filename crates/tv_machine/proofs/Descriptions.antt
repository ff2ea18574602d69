-- Small descriptions, each made for the rules that its examples show.
use Prim.Native.String.{String}
use Rattle.std.specs.Prelude.{[], ℕ, true, false, List, ◌∷◌, Some, None, pos, codes}
use Rattle.std.proofs.Common.{refl}
use Rattle.tv_event.specs.declared.event.Key.TheVariants as keys
use Rattle.tv_valid.specs.declared.input.DomainSpec.{DomainSpec}
use Rattle.tv_valid.specs.declared.input.DomainSpec.TheVariants as domains
use Rattle.tv_model.specs.declared.node.Node.{Node}
use Rattle.tv_model.specs.declared.kind.Kind.{Kind}
use Rattle.tv_model.specs.declared.kind.Kind.TheVariants as kinds
use Rattle.tv_model.specs.declared.kind.MarkedText.{MarkedText}
use Rattle.tv_model.specs.declared.command.CommandSpec.{CommandSpec}
use Rattle.tv_model.specs.declared.command.CommandSpec.TheVariants as commands
use Rattle.tv_model.specs.declared.desc.Desc.{Desc}
use Rattle.tv_model.specs.declared.desc.Dialog.{Dialog}
use Rattle.tv_model.specs.declared.desc.Effect.{Effect}
use Rattle.tv_model.specs.declared.desc.Effect.TheVariants as effects
use Rattle.tv_model.specs.declared.desc.Menu.{Menu}
use Rattle.tv_model.specs.declared.desc.Rule.{Rule}
use Rattle.tv_model.specs.declared.desc.StatusItem.{StatusItem}
use Rattle.tv_model.specs.declared.desc.Version.TheVariants.{One}
use Rattle.tv_model.specs.declared.desc.Window.{Window}

-- ---- declarations

-- a view by its line, the panes around it, its corner, its width and what it is
abbrev pub view : (line depth x y w : ℕ) → Kind → Node
view line depth x y w kind = record { id = record { 0 = line }; depth = depth; x = pos x; y = pos y; w = pos w; kind = kind }

-- a text whose first letter is its shortcut
abbrev pub marked : String → MarkedText
marked text = record { text = codes text; mark = Some 0 }

-- a button that isn't the default and grabs nothing
abbrev pub button : String → String → CommandSpec → Kind
button name text command = kinds.Button (record { name = codes name; text = marked text; command = command; is_default = false; grabs = false })

-- the default button of `ok`
abbrev ok_button : Kind
ok_button = kinds.Button (record { name = codes "o"; text = marked "OK"; command = commands.Ok; is_default = true; grabs = false })

-- check boxes of one item, which isn't marked at first
abbrev check : String → Kind
check text = kinds.CheckBoxes (record { name = codes "k"; items = marked text ∷ []; start = [] })

-- an input of at most four characters
abbrev input : String → DomainSpec → Kind
input start domain = kinds.Input (record {
  name = codes "i";
  spec = record { max = pos 4; domain = domain; optional = false; fill = false };
  start = codes start;
  validates = false;
})

-- a rule by its line
abbrev pub rule : ℕ → Effect → String → ℕ → Rule
rule line effect cluster item = record { id = record { 0 = line }; effect = effect; cluster = codes cluster; item = pos item }

-- a dialog `d` of 24 columns and 8 rows, which the command 100 opens and `ok` and `cancel` end
abbrev pub dialog : ℕ → List Node → List Rule → Dialog
dialog line views rules = record {
  node = view line 0 1 1 24 (kinds.Dialog (record {
    name = codes "d";
    h = pos 8;
    title = [];
    opens = Some (pos 100);
    ends = record { ok = true; cancel = true; yes = false; no = false };
  }));
  views = views;
  rules = rules;
  own_kind = refl;
}

-- F3, which gives the command 100
abbrev open_key : StatusItem
open_key = record { id = record { 0 = 4 }; text = codes "F3 Open"; key = keys.Function 3; command = commands.Number (pos 100) }

-- a screen of 30 columns and 12 rows with one dialog, which is open at the start
abbrev pub one_dialog : Dialog → Desc
one_dialog d = record {
  version = One;
  width = pos 30;
  height = pos 12;
  start = Some (codes "d");
  menus = [];
  status = open_key ∷ [];
  windows = [];
  dialogs = d ∷ [];
}

-- ---- descriptions

-- check boxes `k` show a pane with the input `i` and enable the default button `o`; a label stands for the input
abbrev pub shown_pane : Desc
shown_pane = one_dialog (dialog 5
    (view 6 0 1 1 12 (check "Show")
    ∷ view 7 0 1 3 20 (kinds.Pane (record { name = codes "p"; h = pos 1 }))
    ∷ view 8 1 1 0 8 (input "1" (domains.Range (pos 1) (pos 9)))
    ∷ view 10 0 1 5 8 (kinds.Label (record { text = marked "Item"; link = codes "i" }))
    ∷ view 11 0 1 6 8 ok_button
    ∷ view 12 0 12 6 10 (button "c" "Cancel" commands.Cancel)
    ∷ [])
    (rule 13 (effects.Show (codes "p")) "k" 1 ∷ rule 14 (effects.Enable commands.Ok) "k" 1 ∷ []))

-- check boxes `k` show the input `i`, whose text lies outside its domain; the default button `o` is always enabled
abbrev pub hidden_input : Desc
hidden_input = one_dialog (dialog 5
    (view 6 0 1 1 12 (check "Show")
    ∷ view 7 0 1 3 8 (input "" (domains.Range (pos 1) (pos 9)))
    ∷ view 8 0 1 6 8 ok_button
    ∷ view 9 0 12 6 10 (button "c" "Cancel" commands.Cancel)
    ∷ [])
    (rule 10 (effects.Show (codes "i")) "k" 1 ∷ []))

-- check boxes `k` show the button `b`
abbrev pub hidden_button : Desc
hidden_button = one_dialog (dialog 5
    (view 6 0 1 1 12 (check "Show")
    ∷ view 7 0 1 3 10 (button "b" "Press" (commands.Number (pos 120)))
    ∷ view 8 0 12 6 10 (button "c" "Cancel" commands.Cancel)
    ∷ [])
    (rule 9 (effects.Show (codes "b")) "k" 1 ∷ []))

-- check boxes `k` show the first of two buttons `b`; a rule on item 0, which there isn't, shows the button `z`
abbrev pub namesakes : Desc
namesakes = one_dialog (dialog 5
    (view 6 0 1 1 12 (check "Show")
    ∷ view 7 0 1 3 10 (button "b" "Press" (commands.Number (pos 120)))
    ∷ view 8 0 12 3 10 (button "b" "Again" (commands.Number (pos 121)))
    ∷ view 9 0 1 4 10 (button "z" "Zero" (commands.Number (pos 122)))
    ∷ view 10 0 12 6 10 (button "c" "Cancel" commands.Cancel)
    ∷ [])
    (rule 11 (effects.Show (codes "b")) "k" 1 ∷ rule 12 (effects.Show (codes "z")) "k" 0 ∷ []))

-- radio buttons `r` show the input `i` before them by their second item, the first being marked
abbrev pub hidden_first : Desc
hidden_first = one_dialog (dialog 5
    (view 6 0 1 1 8 (input "x" domains.Any)
    ∷ view 7 0 1 3 10 (kinds.RadioButtons (record { name = codes "r"; items = marked "A" ∷ marked "B" ∷ []; start = pos 1 }))
    ∷ view 8 0 12 6 10 (button "c" "Cancel" commands.Cancel)
    ∷ [])
    (rule 9 (effects.Show (codes "i")) "r" 2 ∷ []))

-- one menu of one item, and a dialog that isn't open
abbrev file_menu : Menu
file_menu = record {
  id = record { 0 = 3 };
  title = marked "File";
  items = record { id = record { 0 = 4 }; text = marked "New"; command = commands.Number (pos 120) } ∷ [];
}

-- a menu, and the dialog that isn't open at the start
abbrev pub closed_dialog : Desc
closed_dialog = record hidden_first { start = None; menus = file_menu ∷ [] }

-- F10, which quits
abbrev quit_key : StatusItem
quit_key = record { id = record { 0 = 3 }; text = codes "F10 Quit"; key = keys.Function 10; command = commands.Quit }

-- F10 ends the run, and F3 opens the dialog
abbrev pub quitting : Desc
quitting = record hidden_first { start = None; status = quit_key ∷ open_key ∷ [] }

-- a window without texts, by its line, its corner and its size
abbrev window : (line x y w h : ℕ) → String → Window
window line x y w h name = record {
  node = view line 0 x y w (kinds.Window (record { name = codes name; h = pos h; number = pos 0; title = [] }));
  views = [];
  own_kind = refl;
}

-- two windows, the second in front of the first and of its shadow
abbrev pub two_windows : Desc
two_windows = record {
  version = One;
  width = pos 24;
  height = pos 10;
  start = None;
  menus = [];
  status = [];
  windows = window 3 1 1 16 4 "one" ∷ window 5 8 3 14 4 "two" ∷ [];
  dialogs = [];
}

-- a menu above them
abbrev pub windows_under_menu : Desc
windows_under_menu = record two_windows { menus = file_menu ∷ [] }
