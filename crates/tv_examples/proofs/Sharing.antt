-- Controls that share a letter, in version 2 of the language: radio buttons show the one or the other.
use Prim.Native.String.{String}
use Rattle.std.specs.Prelude.{[], List, ◌∷◌}
use Rattle.std.proofs.Common.{refl}
use Rattle.tv_model.specs.declared.fault.FaultKind.TheVariants as faults
use Rattle.tv_model.specs.Faults.{fault_at, faults_of, fault_lines}
use Rattle.tv_examples.specs.Descriptions.{replaced}
use Rattle.tv_examples.specs.Running.{written, HasJustFaults, Writes}
use Rattle.tv_examples.proofs.Certificates.{HasCertificate}

-- two buttons, each in a pane that another item shows: cases/in-turn.tvd
abbrev in_turn : List String
in_turn =
    "tvd 2"
    ∷ "screen 30 12"
    ∷ "start v"
    ∷ "dialog v 1 1 26 9 \"\" ends cancel"
    ∷ "radios r 2 1 12 \"~O~ne\" \"~T~wo\" start 1"
    ∷ "pane p 2 4 20 1"
    ∷ "button a 0 0 8 \"~G~o\" 110"
    ∷ "end"
    ∷ "pane q 2 5 20 1"
    ∷ "button b 0 0 8 \"~G~et\" 111"
    ∷ "end"
    ∷ "button c 2 7 10 \"~C~ancel\" cancel"
    ∷ "show p when r 1"
    ∷ "show q when r 2"
    ∷ "end"
    ∷ []

-- what is unfolded where faults are computed
unfoldable judged : Unit {0}
unfolding written faults_of fault_lines
judged = tt

-- the letter presses the button that is shown
visible_button_pressed : Writes in_turn ("type \"g\"" ∷ "key Down" ∷ "key Alt-G" ∷ "key Alt-O" ∷ "type \"g\"" ∷ "key Esc" ∷ []) (
    "open v" ∷ "focus r" ∷
    "press a" ∷ "command 110" ∷
    "press b" ∷ "command 111" ∷
    "press a" ∷ "command 110" ∷
    "end v cancel" ∷ "field r 1" ∷ [])
unfolding written
visible_button_pressed = refl

-- ---- faults

letter_shared : HasJustFaults in_turn []
unfolding judged
letter_shared = refl

-- version 1 shares no letter
unshared_in_one : HasJustFaults (replaced 1 "tvd 1" in_turn) (fault_at faults.LetterTwice 10 ∷ [])
unfolding judged
unshared_in_one = refl

-- both are shown by one item
unshared_by_one_item : HasJustFaults (replaced 14 "show q when r 1" in_turn) (fault_at faults.LetterTwice 10 ∷ [])
unfolding judged
unshared_by_one_item = refl

-- check boxes may show both at once
unshared_by_check_boxes : HasJustFaults (replaced 5 "checks r 2 1 12 \"~O~ne\" \"~T~wo\" start 1" in_turn) (fault_at faults.LetterTwice 10 ∷ [])
unfolding judged
unshared_by_check_boxes = refl

-- ---- certificates

-- a line for each of the two buttons, with the item that shows it
in_turn_certificate : HasCertificate in_turn (
    "tvcert 2" ∷ "dialog v" ∷ "tab r" ∷ "tab a" ∷ "tab b" ∷ "tab c" ∷
    "key C c" ∷ "key G a when r 1" ∷ "key G b when r 2" ∷ "key O r 1" ∷ "key T r 2" ∷ "end" ∷ [])
unfolding written
in_turn_certificate = refl

-- items of clusters keep their numbers before it: cases/share-03.tvd
abbrev mixed : List String
mixed =
    "tvd 2"
    ∷ "screen 40 14"
    ∷ "start d"
    ∷ "dialog d 1 1 38 11 \"Mix\" opens 100 ends ok cancel"
    ∷ "radios r 1 1 14 \"~A~lpha\" \"~B~eta\" \"~G~amma\" start 1"
    ∷ "pane p 17 1 18 2"
    ∷ "checks k 0 0 14 \"~W~arm\" \"~X~ray\" start 2"
    ∷ "end"
    ∷ "pane q 17 4 18 2"
    ∷ "radios z 0 0 14 \"~V~ote\" \"~X~ylo\" start 1"
    ∷ "end"
    ∷ "pane s 17 7 18 1"
    ∷ "button x 0 0 10 \"e~X~it\" 120"
    ∷ "end"
    ∷ "button k2 1 7 8 \"~O~k\" ok default"
    ∷ "show p when r 1"
    ∷ "show q when r 2"
    ∷ "show s when r 3"
    ∷ "end"
    ∷ []

mixed_certificate : HasCertificate mixed (
    "tvcert 2" ∷ "dialog d" ∷ "tab r" ∷ "tab k" ∷ "tab z" ∷ "tab x" ∷ "tab k2" ∷
    "key A r 1" ∷ "key B r 2" ∷ "key G r 3" ∷ "key O k2" ∷ "key V z 1" ∷ "key W k 1" ∷
    "key X k 2 when r 1" ∷ "key X z 2 when r 2" ∷ "key X x when r 3" ∷ "end" ∷ [])
unfolding written
mixed_certificate = refl

-- two radio buttons show nested panes: the first of them in the dialog are named, whichever rule comes first
-- cases/share-04.tvd
abbrev nested : List String
nested =
    "tvd 2"
    ∷ "screen 40 14"
    ∷ "start d"
    ∷ "dialog d 1 1 38 11 \"Nest\" ends cancel"
    ∷ "radios in 1 1 10 \"~U~p\" \"~D~own\" start 1"
    ∷ "radios out 13 1 10 \"~L~eft\" \"~R~ight\" start 1"
    ∷ "pane a 1 4 34 2"
    ∷ "pane b 1 0 20 1"
    ∷ "button one 0 0 8 \"~Z~oom\" 110"
    ∷ "end"
    ∷ "end"
    ∷ "pane c 1 6 34 2"
    ∷ "pane e 1 0 20 1"
    ∷ "button two 0 0 8 \"~Z~ero\" 111"
    ∷ "end"
    ∷ "end"
    ∷ "button k 1 8 8 \"~K~ill\" cancel"
    ∷ "show a when out 1"
    ∷ "show b when in 1"
    ∷ "show c when out 2"
    ∷ "show e when in 2"
    ∷ "end"
    ∷ []

-- cases/share-04.cert
nested_certificate : HasCertificate nested (
    "tvcert 2" ∷ "dialog d" ∷ "tab in" ∷ "tab out" ∷ "tab one" ∷ "tab two" ∷ "tab k" ∷
    "key D in 2" ∷ "key K k" ∷ "key L out 1" ∷ "key R out 2" ∷ "key U in 1" ∷
    "key Z one when in 1" ∷ "key Z two when in 2" ∷ "end" ∷ [])
unfolding written
nested_certificate = refl

-- the first rule in the text decides which item it is, over the control itself or over a pane around it
-- cases/first-rule.tvd
abbrev ruled : List String
ruled =
    "tvd 2"
    ∷ "screen 40 13"
    ∷ "start d"
    ∷ "dialog d 1 1 38 10 \"Rules\" ends cancel"
    ∷ "radios r 1 1 10 \"~A~\" \"~B~\" \"~C~\" start 1"
    ∷ "pane p 14 1 20 1"
    ∷ "button x 0 0 8 \"~M~ove\" 110"
    ∷ "end"
    ∷ "pane q 14 3 20 1"
    ∷ "button y 0 0 8 \"~M~ake\" 111"
    ∷ "end"
    ∷ "button k 1 7 8 \"~K~\" cancel"
    ∷ "show x when r 3"
    ∷ "show p when r 1"
    ∷ "show q when r 2"
    ∷ "show y when r 3"
    ∷ "end"
    ∷ []

-- cases/first-rule.cert
ruled_certificate : HasCertificate ruled (
    "tvcert 2" ∷ "dialog d" ∷ "tab r" ∷ "tab x" ∷ "tab y" ∷ "tab k" ∷
    "key A r 1" ∷ "key B r 2" ∷ "key C r 3" ∷ "key K k" ∷
    "key M x when r 3" ∷ "key M y when r 2" ∷ "end" ∷ [])
unfolding written
ruled_certificate = refl

-- ---- letters that aren't shared

-- of three markers two have one item: all but the first are named, also the one that another item shows
-- cases/same-item.tvd
abbrev same_item : List String
same_item =
    "tvd 2"
    ∷ "screen 34 13"
    ∷ "start d"
    ∷ "dialog d 1 1 32 10 \"Three\" opens 100 ends ok cancel"
    ∷ "radios m 2 1 12 \"~O~ne\" \"~T~wo\" \"t~H~ree\" \"~N~one\" start 2"
    ∷ "pane p 16 1 12 1"
    ∷ "button a 0 0 8 \"~S~ave\" 110"
    ∷ "end"
    ∷ "pane q 16 2 12 1"
    ∷ "button b 0 0 8 \"~S~end\" 111 grab"
    ∷ "end"
    ∷ "pane r 16 3 12 1"
    ∷ "button c 0 0 8 \"~S~top\" cancel"
    ∷ "end"
    ∷ "button k 2 7 8 \"O~K~\" ok default"
    ∷ "show p when m 1"
    ∷ "show q when m 2"
    ∷ "show r when m 2"
    ∷ "end"
    ∷ []

three_markers_of_two_items : HasJustFaults same_item (fault_at faults.LetterTwice 10 ∷ fault_at faults.LetterTwice 13 ∷ [])
unfolding judged
three_markers_of_two_items = refl

-- a cluster marks its letter twice, so that it isn't shared with others either. `E` is shared: cases/twice-on-one.tvd
abbrev twice_on_one : List String
twice_on_one =
    "tvd 2"
    ∷ "screen 40 13"
    ∷ "start d"
    ∷ "dialog d 1 1 38 10 \"Twice\" ends cancel"
    ∷ "radios r 1 1 10 \"~A~\" \"~B~\" start 1"
    ∷ "pane p 14 1 20 3"
    ∷ "checks c 0 0 12 \"~D~o\" \"un~D~o\""
    ∷ "button e 0 2 8 \"~E~nd\" 110"
    ∷ "end"
    ∷ "pane q 14 5 20 3"
    ∷ "button d2 0 0 8 \"~D~rop\" 111"
    ∷ "button e2 0 2 8 \"~E~at\" 112"
    ∷ "end"
    ∷ "button k 1 7 8 \"~K~\" cancel"
    ∷ "show p when r 1"
    ∷ "show q when r 2"
    ∷ "end"
    ∷ []

marked_twice_on_one : HasJustFaults twice_on_one (fault_at faults.LetterTwice 7 ∷ fault_at faults.LetterTwice 11 ∷ [])
unfolding judged
marked_twice_on_one = refl

-- in version 1 it is named too
unshared_letters : HasJustFaults (replaced 1 "tvd 1" twice_on_one) (
    fault_at faults.LetterTwice 7 ∷ fault_at faults.LetterTwice 11 ∷ fault_at faults.LetterTwice 12 ∷ [])
unfolding judged
unshared_letters = refl
