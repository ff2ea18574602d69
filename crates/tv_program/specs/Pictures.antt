-- What is drawn of a run.
use Rattle.std.specs.Prelude.{ℕ, List, [], ◌∷◌, ◌++◌}
use Rattle.tv_machine.specs.declared.script.Item.{Item}
use Rattle.tv_machine.specs.declared.script.Item.TheVariants as items
use Rattle.tv_model.specs.Description.Numbers.{natural}
use Rattle.tv_machine.specs.Output.{screen_cell, session_after}
use Rattle.tv_machine.specs.Run.{Session, quiet}
use Rattle.tv_program.specs.Albums.{NamedPicture}
use Rattle.tv_program.specs.Naming.{named_from}
use Rattle.tv_terminal.specs.Svg.{svg_text}

-- the screen of a session
abbrev pub session_svg : Session → List ℕ
session_svg s = svg_text (natural s.desc.width) (natural s.desc.height) (screen_cell s)

-- the screen that an item asks for
abbrev pub item_svgs : Session → Item → List (List ℕ)
item_svgs s items.Shot = session_svg s ∷ []
item_svgs s _ = []

-- the screens that items ask for, one after the other
abbrev pub svgs_from : Session → List Item → List (List ℕ)
svgs_from s [] = []
svgs_from s (item ∷ rest) = item_svgs s item ++ svgs_from (session_after s item) rest

-- the screen at each `shot` of a script
abbrev pub shot_svgs : Session → List Item → List (List ℕ)
shot_svgs s script = svgs_from (quiet s) script

-- the same, each with its name, counted from 1
abbrev pub named_shots : (name : List ℕ) → Session → List Item → List NamedPicture
named_shots name s script = named_from name 1 (shot_svgs s script)
