-- How a description is spelled: its declarations, and the words of each.
use Rattle.std.specs.Prelude.{◌≡◌, ◌≢◌, ℕ, ◌+◌, ◌-◌, ◌≤◌, Bool, true, false, not, ◌||◌, List, [], ◌∷◌, ◌++◌}
use Rattle.std.specs.Prelude.{map, flat_map, replicate, Option, Some, None, IsTrue, if◌then◌else◌}
use Rattle.std.specs.List.{AllByRecursion}
use Rattle.tv_model.specs.declared.node.Node.{Node}
use Rattle.tv_model.specs.declared.kind.Kind.{Kind}
use Rattle.tv_model.specs.declared.kind.Kind.TheVariants as kinds
use Rattle.tv_model.specs.declared.desc.Desc.{Desc}
use Rattle.tv_model.specs.declared.desc.Dialog.{Dialog}
use Rattle.tv_model.specs.declared.desc.Menu.{Menu}
use Rattle.tv_model.specs.declared.desc.MenuItem.{MenuItem}
use Rattle.tv_model.specs.declared.desc.Rule.{Rule}
use Rattle.tv_model.specs.declared.desc.StatusItem.{StatusItem}
use Rattle.tv_model.specs.declared.desc.Window.{Window}
use Rattle.tv_model.specs.Description.Nodes.{is_pane, is_window, is_dialog}
use Rattle.tv_words.specs.declared.word.Word.{Word}
use Rattle.tv_declarations.specs.declared.declaration.Declaration.{Declaration}
use Rattle.tv_declarations.specs.declared.declaration.Declaration.TheVariants as declared
use Rattle.tv_declarations.specs.Spelling.Declarations.{declaration_words, AreDeclarations}
pub mod Terms
pub mod Keys
pub mod Nodes
pub mod Declarations

-- the line of the dialog that is open at the start, where there is one
abbrev pub start_declarations : Option (List ℕ) → List Declaration
start_declarations None = []
start_declarations (Some name) = declared.Start name ∷ []

-- a menu's own line, those of its items, and the end
abbrev pub menu_declarations : Menu → List Declaration
menu_declarations m =
    declared.Menu m.id m.title ∷ (map (λ item. declared.Item item) m.items ++ declared.End ∷ [])

-- a window's own line, those of its texts, and the end
abbrev pub window_declarations : Window → List Declaration
window_declarations w = declared.Node w.node ∷ (map (λ view. declared.Node view) w.views ++ declared.End ∷ [])

-- the ends of the panes that are open, until only so many are
abbrev pub ends_of_panes : (panes depth : ℕ) → List Declaration
ends_of_panes panes depth = replicate (panes - depth) declared.End

-- the panes that are open after the node's line
abbrev pub open_panes_after : Node → ℕ
open_panes_after n = if is_pane n.kind then n.depth + 1 else n.depth

-- the lines of views, from where so many panes are open: before each the panes end that aren't around it, and
-- all in the end
abbrev pub view_declarations : ℕ → List Node → List Declaration
view_declarations panes [] = ends_of_panes panes 0
view_declarations panes (n ∷ ns) =
    ends_of_panes panes n.depth ++ (declared.Node n ∷ view_declarations (open_panes_after n) ns)

-- a dialog's own line, those of its views and of its rules, and the end
abbrev pub dialog_declarations : Dialog → List Declaration
dialog_declarations d =
    declared.Node d.node
    ∷ (view_declarations 0 d.views ++ (map (λ rule. declared.Rule rule) d.rules ++ declared.End ∷ []))

-- the declarations of a description, each on a line
abbrev pub declarations_of : Desc → List Declaration
declarations_of d =
    declared.Version d.version ∷ declared.Screen d.width d.height ∷ (start_declarations d.start
    ++ (flat_map menu_declarations d.menus
    ++ (map (λ item. declared.Status item) d.status
    ++ (flat_map window_declarations d.windows
    ++ flat_map dialog_declarations d.dialogs))))

-- the words of each declaration
abbrev pub word_lines : Desc → List (List Word)
word_lines d = map declaration_words (declarations_of d)

-- ---- what can be spelled

-- a static text
abbrev pub is_text : Kind → Bool
is_text (kinds.Text shown) = true
is_text _ = false

-- anything that can stand in a dialog
abbrev pub is_view : Kind → Bool
is_view kind = not (is_window kind || is_dialog kind)

-- a menu has an item
abbrev pub HasAnItem : Menu → Type 0
HasAnItem m = m.items ≢ []

-- a static text in no pane
pub record IsWindowText (n : Node) : Type 0 where
  pub depth : n.depth ≡ 0
  pub kind : IsTrue (is_text n.kind)

-- a window in no pane, with nothing but static texts
pub record IsWindow (w : Window) : Type 0 where
  pub depth : w.node.depth ≡ 0
  pub views : AllByRecursion IsWindowText w.views

-- views each of which stands in some of the panes that are open before it; at most 16 are
abbrev pub AreViews : ℕ → List Node → Type 0
AreViews panes [] = Unit {0}
AreViews panes (n ∷ ns) =
    IsTrue (is_view n.kind) × (n.depth ≤ panes) × (open_panes_after n ≤ 16) × AreViews (open_panes_after n) ns

-- a dialog in no pane, with such views
pub record IsDialog (d : Dialog) : Type 0 where
  pub depth : d.node.depth ≡ 0
  pub views : AreViews 0 d.views

-- a description that a text can spell: each declaration can be spelled and has its line as its number, and
-- each part has
-- what can stand in it
pub record IsDescription (d : Desc) : Type 0 where
  pub declarations : AreDeclarations 1 (declarations_of d)
  pub menus : AllByRecursion HasAnItem d.menus
  pub windows : AllByRecursion IsWindow d.windows
  pub dialogs : AllByRecursion IsDialog d.dialogs
