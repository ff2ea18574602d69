-- A letter that two markers share, shown by a run that another rule would change.
use Prim.Native.String.{String}
use Rattle.std.specs.Prelude.{[], ◌≡◌, ℕ, true, false, List, ◌∷◌, ◌++◌, flat_map, codes, pos}
use Rattle.std.proofs.Common.{refl}
use Rattle.std.specs.Char.{encode_utf8}
use Rattle.std.specs.Fmt.{digits}
use Rattle.unicode_width.specs.Width.{char_width}
use Rattle.tv_event.specs.declared.event.Event.TheVariants as events
use Rattle.tv_event.specs.declared.event.Key.{Key}
use Rattle.tv_event.specs.declared.event.Key.TheVariants as keys
use Rattle.tv_model.specs.declared.command.CommandSpec.TheVariants as commands
use Rattle.tv_model.specs.declared.desc.Effect.TheVariants as effects
use Rattle.tv_model.specs.declared.desc.Rule.{Rule}
use Rattle.tv_model.specs.declared.kind.Kind.{Kind}
use Rattle.tv_model.specs.declared.kind.Kind.TheVariants as kinds
use Rattle.tv_model.specs.declared.node.Node.{Node}
use Rattle.tv_machine.specs.declared.script.Item.{Item}
use Rattle.tv_machine.specs.declared.script.Item.TheVariants as items
use Rattle.tv_model.specs.Log.LogText.{line_of}
use Rattle.tv_model.specs.Description.Sharing.{is_shared}
use Rattle.tv_machine.specs.Run.{started}
use Rattle.tv_machine.specs.Output.{output}
use Rattle.tv_machine.proofs.Descriptions.{button, dialog, marked, one_dialog, rule, view}

-- radio buttons or check boxes show one of two panes, each with a button that marks `G`
abbrev views : Kind → List Node
views radios = view 6 0 2 1 12 radios
    ∷ view 7 0 2 4 20 (kinds.Pane (record { name = codes "p"; h = pos 1 }))
    ∷ view 8 1 0 0 8 (button "a" "Go" (commands.Number (pos 110)))
    ∷ view 10 0 2 5 20 (kinds.Pane (record { name = codes "q"; h = pos 1 }))
    ∷ view 11 1 0 0 8 (button "b" "Get" (commands.Number (pos 111)))
    ∷ view 13 0 12 6 10 (button "c" "Cancel" commands.Cancel)
    ∷ []

-- radio buttons of two items
abbrev radios : Kind
radios = kinds.RadioButtons (record { name = codes "r"; items = marked "One" ∷ marked "Two" ∷ []; start = pos 1 })

-- check boxes of the same items
abbrev boxes : Kind
boxes = kinds.CheckBoxes (record { name = codes "r"; items = marked "One" ∷ marked "Two" ∷ []; start = [] })

-- the panes are shown by the first item and by this one
abbrev rules : ℕ → List Rule
rules item = rule 14 (effects.Show (codes "p")) "r" 1 ∷ rule 15 (effects.Show (codes "q")) "r" item ∷ []

-- one name to unfold where a text is computed
unfoldable written : Unit {0}
unfolding line_of digits encode_utf8 char_width
written = tt

-- lines, each with its line end
abbrev text : List String → List ℕ
text lines = flat_map (λ line. codes line ++ 10 ∷ []) lines

-- a key of a script
abbrev key : Key → Item
key k = items.Event (events.Key k)

-- a letter with Alt, by its number
abbrev alt : ℕ → Item
alt letter = key (keys.Alt letter)

-- a character, by its number
abbrev char : ℕ → Item
char c = key (keys.Char c)

-- by different items of the same radio buttons; not by one item, nor by check boxes
shared_by_radios : is_shared (views radios) (rules 2) 71 ≡ true
shared_by_radios = refl

not_by_one_item : is_shared (views radios) (rules 1) 71 ≡ false
not_by_one_item = refl

not_by_boxes : is_shared (views boxes) (rules 2) 71 ≡ false
not_by_boxes = refl

-- a letter that one view marks isn't shared
not_alone : is_shared (views radios) (rules 2) 67 ≡ false
not_alone = refl

-- the letter acts on the marker that is shown
visible_marker_acts : output (started (one_dialog (dialog 5 (views radios) (rules 2))))
    (char 103 ∷ key keys.Down ∷ alt 71 ∷ alt 79 ∷ char 103 ∷ key keys.Esc ∷ []) ≡ text
    ("open d" ∷ "focus r" ∷ "press a" ∷ "command 110" ∷ "press b" ∷ "command 111" ∷ "press a" ∷ "command 110" ∷ "end d cancel" ∷ "field r 1" ∷ [])
unfolding written
visible_marker_acts = refl
