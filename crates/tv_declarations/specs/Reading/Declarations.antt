-- Reading the declaration of a line.
use Rattle.std.specs.Prelude.{List, [], ◌∷◌, Option, Some, None, option_and_then, codes, if◌then◌else◌}
use Rattle.std.specs.Option.{option_map}
use Rattle.tv_model.specs.declared.desc.Effect.{Effect}
use Rattle.tv_model.specs.declared.desc.Effect.TheVariants as effects
use Rattle.tv_model.specs.declared.desc.Version.TheVariants as versions
use Rattle.tv_declarations.specs.declared.declaration.Declaration.{Declaration}
use Rattle.tv_declarations.specs.declared.declaration.Declaration.TheVariants as declared
use Rattle.tv_declarations.specs.declared.place.Position.{Position}
use Rattle.tv_words.specs.declared.word.Word.{Word}
use Rattle.tv_words.specs.Fields.{is_bare_word, name_in, text_in}
use Rattle.tv_declarations.specs.Reading.Options.{with2, with3}
use Rattle.tv_words.specs.Reading.Numbers.{number_in}
use Rattle.tv_declarations.specs.Reading.Commands.{command_in}
use Rattle.tv_declarations.specs.Reading.Keys.{key_in}
use Rattle.tv_declarations.specs.Reading.Places.{mark_in}
use Rattle.tv_declarations.specs.Reading.Nodes.{node_in}

-- what follows `tvd`
abbrev pub version_in : List Word → Option Declaration
version_in (version ∷ []) =
    if is_bare_word version (codes "1") then Some (declared.Version versions.One)
    else if is_bare_word version (codes "2") then Some (declared.Version versions.Two)
    else None
version_in _ = None

-- what follows `screen`
abbrev pub screen_in : List Word → Option Declaration
screen_in (width ∷ height ∷ []) =
    with2 (λ width height. declared.Screen width height) (number_in width) (number_in height)
screen_in _ = None

-- what follows `start`
abbrev pub start_in : List Word → Option Declaration
start_in (name ∷ []) = option_map (λ name. declared.Start name) (name_in name)
start_in _ = None

-- what follows `menu`
abbrev pub menu_in : Position → List Word → Option Declaration
menu_in at (title ∷ []) = option_map (λ title. declared.Menu at.id title) (mark_in title)
menu_in at _ = None

-- what follows `item`
abbrev pub item_in : Position → List Word → Option Declaration
item_in at (text ∷ command ∷ []) =
    with2 (λ text command. declared.Item (record { id = at.id; text = text; command = command }))
    (mark_in text) (command_in command)
item_in at _ = None

-- what follows `status`
abbrev pub status_in : Position → List Word → Option Declaration
status_in at (text ∷ key ∷ command ∷ []) =
    with3 (λ text key command.
    declared.Status (record { id = at.id; text = text; key = key; command = command })) (text_in text)
    (key_in key) (command_in command)
status_in at _ = None

-- what follows the effect of a rule
abbrev pub rule_in : Position → Effect → List Word → Option Declaration
rule_in at effect (keyword ∷ cluster ∷ item ∷ []) =
    if is_bare_word keyword (codes "when")
    then with2 (λ cluster item.
    declared.Rule (record { id = at.id; effect = effect; cluster = cluster; item = item }))
    (name_in cluster) (number_in item)
    else None
rule_in at effect _ = None

-- what follows `show`
abbrev pub show_in : Position → List Word → Option Declaration
show_in at [] = None
show_in at (name ∷ fields) = option_and_then (λ name. rule_in at (effects.Show name) fields) (name_in name)

-- what follows `enable`
abbrev pub enable_in : Position → List Word → Option Declaration
enable_in at [] = None
enable_in at (command ∷ fields) =
    option_and_then (λ command. rule_in at (effects.Enable command) fields) (command_in command)

-- what follows `end`
abbrev pub end_in : List Word → Option Declaration
end_in [] = Some declared.End
end_in (w ∷ ws) = None

-- the declaration of a window, a dialog or a view
abbrev pub node_declared : Position → Word → List Word → Option Declaration
node_declared at keyword fields = option_map (λ node. declared.Node node) (node_in at keyword fields)

-- a line of this keyword
abbrev pub line_in : Position → Word → List Word → Option Declaration
line_in at keyword fields =
    if is_bare_word keyword (codes "tvd") then version_in fields
    else if is_bare_word keyword (codes "screen") then screen_in fields
    else if is_bare_word keyword (codes "start") then start_in fields
    else if is_bare_word keyword (codes "menu") then menu_in at fields
    else if is_bare_word keyword (codes "item") then item_in at fields
    else if is_bare_word keyword (codes "status") then status_in at fields
    else if is_bare_word keyword (codes "show") then show_in at fields
    else if is_bare_word keyword (codes "enable") then enable_in at fields
    else if is_bare_word keyword (codes "end") then end_in fields
    else node_declared at keyword fields

-- the declaration that the words are
abbrev pub declaration_in : Position → List Word → Option Declaration
declaration_in at [] = None
declaration_in at (keyword ∷ fields) = line_in at keyword fields
