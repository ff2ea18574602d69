-- A line declares a text, a label, a button, a pane, a window or a dialog just where it is spelled so.
use Rattle.std.proofs.Common.{◌≡◌, ℕ, Bool, true, false, cond, List, [], ◌∷◌, ◌++◌, Option, Some, None, refl, ap, subst}
use Rattle.std.specs.Prelude.{ℤ, codes, IfSome}
use Rattle.std.specs.Option.{option_map}
use Rattle.tv_model.specs.declared.command.CommandSpec.{CommandSpec}
use Rattle.tv_model.specs.declared.command.Ends.{Ends}
use Rattle.tv_model.specs.declared.kind.MarkedText.{MarkedText}
use Rattle.tv_model.specs.declared.node.Node.{Node}
use Rattle.tv_model.specs.declared.kind.Kind.TheVariants as kinds
use Rattle.tv_declarations.specs.declared.place.Place.{Place}
use Rattle.tv_declarations.specs.declared.place.Position.{Position}
use Rattle.tv_words.specs.declared.word.Word.{Word}
use Rattle.tv_words.specs.declared.word.Word.TheVariants.{Bare}
use Rattle.tv_words.specs.Fields.{is_bare_word, name_in, text_in}
use Rattle.tv_words.specs.Reading.Numbers.{number_in}
use Rattle.tv_declarations.specs.Reading.Commands.{command_in, ends_in, button_options_in}
use Rattle.tv_declarations.specs.Reading.Places.{place_from, mark_in, node_at}
use Rattle.tv_declarations.specs.Reading.Nodes.{text_in_fields, label_in, button_in, pane_in, window_in, opened_in, commands_in, dialog_in}
use Rattle.tv_declarations.specs.Spelling.Terms.{ends_words}
use Rattle.tv_words.specs.Fields.{IsNumber}
use Rattle.tv_declarations.specs.Spelling.Nodes.{opens_words}
use Rattle.tv_declarations.proofs.OptionLemmas.{map_some, with2_some, with3_some, with5_some}
use Rattle.tv_words.proofs.FieldLemmas.{word_is, number_word_read, read_number_word, name_read, text_read}
use Rattle.tv_declarations.proofs.CommandLemmas.{command_read, ends_read, read_ends, button_options_read}
use Rattle.tv_declarations.proofs.PlaceLemmas.{IsNodeOf, node_made, mark_read}

-- texts
text_made : (at : Position) (x y w h t : Word) (n : Node) → ((p : Place) × (rows : ℤ) × (text : List ℕ) × (place_from x y w ≡ Some p) × (number_in h ≡ Some rows) × (text_in t ≡ Some text) × (node_at at p (kinds.Text (record { h = rows; text = text })) ≡ n)) → IsNodeOf at n (Bare (codes "text") ∷ x ∷ y ∷ w ∷ h ∷ t ∷ [])
text_made at x y w h t n (p, rows, text, ep, eh, et, same) =
    let high = number_word_read h rows eh in
    node_made at x y w p (kinds.Text (record { h = rows; text = text })) _ n ep high.1 (rw (high.0, text_read t text et) refl) same

pub text_line : (at : Position) (fields : List Word) (n : Node) → text_in_fields at fields ≡ Some n → IsNodeOf at n (Bare (codes "text") ∷ fields)
text_line at [] n e = absurd cc
text_line at (a ∷ []) n e = absurd cc
text_line at (a ∷ b ∷ []) n e = absurd cc
text_line at (a ∷ b ∷ c ∷ []) n e = absurd cc
text_line at (a ∷ b ∷ c ∷ d ∷ []) n e = absurd cc
text_line at (x ∷ y ∷ w ∷ h ∷ t ∷ []) n e = text_made at x y w h t n (with3_some _ (place_from x y w) (number_in h) (text_in t) n e)
text_line at (a ∷ b ∷ c ∷ d ∷ f ∷ g ∷ hs) n e = absurd cc

-- labels
label_made : (at : Position) (x y w t l : Word) (n : Node) → ((text : MarkedText) × (p : Place) × (link : List ℕ) × (mark_in t ≡ Some text) × (place_from x y w ≡ Some p) × (name_in l ≡ Some link) × (node_at at p (kinds.Label (record { text = text; link = link })) ≡ n)) → IsNodeOf at n (Bare (codes "label") ∷ x ∷ y ∷ w ∷ t ∷ l ∷ [])
label_made at x y w t l n (text, p, link, et, ep, el, same) =
    let marks = mark_read t text et in
    let named = name_read l link el in
    node_made at x y w p (kinds.Label (record { text = text; link = link })) _ n ep (marks.1, named.1) (rw (marks.0, named.0) refl) same

pub label_line : (at : Position) (fields : List Word) (n : Node) → label_in at fields ≡ Some n → IsNodeOf at n (Bare (codes "label") ∷ fields)
label_line at [] n e = absurd cc
label_line at (a ∷ []) n e = absurd cc
label_line at (a ∷ b ∷ []) n e = absurd cc
label_line at (a ∷ b ∷ c ∷ []) n e = absurd cc
label_line at (a ∷ b ∷ c ∷ d ∷ []) n e = absurd cc
label_line at (x ∷ y ∷ w ∷ t ∷ l ∷ []) n e = label_made at x y w t l n (with3_some _ (mark_in t) (place_from x y w) (name_in l) n e)
label_line at (a ∷ b ∷ c ∷ d ∷ f ∷ g ∷ hs) n e = absurd cc

-- buttons
button_made : (at : Position) (m x y w t c : Word) (os : List Word) (n : Node) → ((text : MarkedText) × (name : List ℕ) × (p : Place) × (command : CommandSpec) × (options : Bool × Bool) × (mark_in t ≡ Some text) × (name_in m ≡ Some name) × (place_from x y w ≡ Some p) × (command_in c ≡ Some command) × (button_options_in os ≡ Some options) × (node_at at p (kinds.Button (record { name = name; text = text; command = command; is_default = options.0; grabs = options.1 })) ≡ n)) → IsNodeOf at n (Bare (codes "button") ∷ m ∷ x ∷ y ∷ w ∷ t ∷ c ∷ os)
button_made at m x y w t c os n (text, name, p, command, options, et, em, ep, ec, eo, same) =
    let marks = mark_read t text et in
    let named = name_read m name em in
    let does = command_read c command ec in
    node_made at x y w p (kinds.Button (record { name = name; text = text; command = command; is_default = options.0; grabs = options.1 })) _ n ep (named.1, marks.1, does.1) (rw (marks.0, named.0, does.0, button_options_read os options eo) refl) same

pub button_line : (at : Position) (fields : List Word) (n : Node) → button_in at fields ≡ Some n → IsNodeOf at n (Bare (codes "button") ∷ fields)
button_line at [] n e = absurd cc
button_line at (a ∷ []) n e = absurd cc
button_line at (a ∷ b ∷ []) n e = absurd cc
button_line at (a ∷ b ∷ c ∷ []) n e = absurd cc
button_line at (a ∷ b ∷ c ∷ d ∷ []) n e = absurd cc
button_line at (a ∷ b ∷ c ∷ d ∷ f ∷ []) n e = absurd cc
button_line at (m ∷ x ∷ y ∷ w ∷ t ∷ c ∷ os) n e = button_made at m x y w t c os n (with5_some _ (mark_in t) (name_in m) (place_from x y w) (command_in c) (button_options_in os) n e)

-- panes
pane_made : (at : Position) (m x y w h : Word) (n : Node) → ((name : List ℕ) × (p : Place) × (rows : ℤ) × (name_in m ≡ Some name) × (place_from x y w ≡ Some p) × (number_in h ≡ Some rows) × (node_at at p (kinds.Pane (record { name = name; h = rows })) ≡ n)) → IsNodeOf at n (Bare (codes "pane") ∷ m ∷ x ∷ y ∷ w ∷ h ∷ [])
pane_made at m x y w h n (name, p, rows, em, ep, eh, same) =
    let named = name_read m name em in
    let high = number_word_read h rows eh in
    node_made at x y w p (kinds.Pane (record { name = name; h = rows })) _ n ep (named.1, high.1) (rw (named.0, high.0) refl) same

pub pane_line : (at : Position) (fields : List Word) (n : Node) → pane_in at fields ≡ Some n → IsNodeOf at n (Bare (codes "pane") ∷ fields)
pane_line at [] n e = absurd cc
pane_line at (a ∷ []) n e = absurd cc
pane_line at (a ∷ b ∷ []) n e = absurd cc
pane_line at (a ∷ b ∷ c ∷ []) n e = absurd cc
pane_line at (a ∷ b ∷ c ∷ d ∷ []) n e = absurd cc
pane_line at (m ∷ x ∷ y ∷ w ∷ h ∷ []) n e = pane_made at m x y w h n (with3_some _ (name_in m) (place_from x y w) (number_in h) n e)
pane_line at (a ∷ b ∷ c ∷ d ∷ f ∷ g ∷ hs) n e = absurd cc

-- windows
window_made : (at : Position) (m x y w h k t : Word) (n : Node) → ((name : List ℕ) × (p : Place) × (rows : ℤ) × (number : ℤ) × (title : List ℕ) × (name_in m ≡ Some name) × (place_from x y w ≡ Some p) × (number_in h ≡ Some rows) × (number_in k ≡ Some number) × (text_in t ≡ Some title) × (node_at at p (kinds.Window (record { name = name; h = rows; number = number; title = title })) ≡ n)) → IsNodeOf at n (Bare (codes "window") ∷ m ∷ x ∷ y ∷ w ∷ h ∷ k ∷ t ∷ [])
window_made at m x y w h k t n (name, p, rows, number, title, em, ep, eh, ek, et, same) =
    let named = name_read m name em in
    let high = number_word_read h rows eh in
    let numbered = number_word_read k number ek in
    node_made at x y w p (kinds.Window (record { name = name; h = rows; number = number; title = title })) _ n ep (named.1, high.1, numbered.1) (rw (named.0, high.0, numbered.0, text_read t title et) refl) same

pub window_line : (at : Position) (fields : List Word) (n : Node) → window_in at fields ≡ Some n → IsNodeOf at n (Bare (codes "window") ∷ fields)
window_line at [] n e = absurd cc
window_line at (a ∷ []) n e = absurd cc
window_line at (a ∷ b ∷ []) n e = absurd cc
window_line at (a ∷ b ∷ c ∷ []) n e = absurd cc
window_line at (a ∷ b ∷ c ∷ d ∷ []) n e = absurd cc
window_line at (a ∷ b ∷ c ∷ d ∷ f ∷ []) n e = absurd cc
window_line at (a ∷ b ∷ c ∷ d ∷ f ∷ g ∷ []) n e = absurd cc
window_line at (m ∷ x ∷ y ∷ w ∷ h ∷ k ∷ t ∷ []) n e = window_made at m x y w h k t n (with5_some _ (name_in m) (place_from x y w) (number_in h) (number_in k) (text_in t) n e)
window_line at (a ∷ b ∷ c ∷ d ∷ f ∷ g ∷ h ∷ i ∷ js) n e = absurd cc

-- the commands of a dialog
abbrev CommandsAre : List Word → Option ℤ × Ends → Type 0
CommandsAre ws c = (ws ≡ opens_words c.0 ++ (Bare (codes "ends") ∷ ends_words c.1)) × IfSome c.0 IsNumber

opened_made : (m : Word) (es : List Word) (c : Option ℤ × Ends) → ((number : ℤ) × (ends : Ends) × (number_in m ≡ Some number) × (ends_in es ≡ Some ends) × ((Some number, ends) ≡ c)) → CommandsAre (Bare (codes "opens") ∷ m ∷ Bare (codes "ends") ∷ es) c
opened_made m es c (number, ends, em, ee, same) =
    let r = number_word_read m number em in
    subst (CommandsAre (Bare (codes "opens") ∷ m ∷ Bare (codes "ends") ∷ es)) same (rw (r.0, ends_read es ends ee) refl, r.1)

opened_if : (m k : Word) (es : List Word) (c : Option ℤ × Ends) (b : Bool) → is_bare_word k (codes "ends") ≡ b → cond b (opened_in (m ∷ Bare (codes "ends") ∷ es)) None ≡ Some c → CommandsAre (Bare (codes "opens") ∷ m ∷ k ∷ es) c
opened_if m k es c true eb e = rw (word_is k (codes "ends") eb) (opened_made m es c (with2_some _ (number_in m) (ends_in es) c e))
opened_if m k es c false eb e = absurd cc

opened_read : (fs : List Word) (c : Option ℤ × Ends) → opened_in fs ≡ Some c → CommandsAre (Bare (codes "opens") ∷ fs) c
opened_read [] c e = absurd cc
opened_read (a ∷ []) c e = absurd cc
opened_read (m ∷ k ∷ es) c e = opened_if m k es c (is_bare_word k (codes "ends")) refl e

ends_made : (es : List Word) (c : Option ℤ × Ends) → ((ends : Ends) × (ends_in es ≡ Some ends) × ((None, ends) ≡ c)) → CommandsAre (Bare (codes "ends") ∷ es) c
ends_made es c (ends, ee, same) = subst (CommandsAre (Bare (codes "ends") ∷ es)) same (ap (λ x. Bare (codes "ends") ∷ x) (ends_read es ends ee), tt)

commands_if : (k : Word) (fs : List Word) (c : Option ℤ × Ends) (at_ends at_opens : Bool) → is_bare_word k (codes "ends") ≡ at_ends → is_bare_word k (codes "opens") ≡ at_opens → cond at_ends (option_map (λ ends. (None, ends)) (ends_in fs)) (cond at_opens (opened_in fs) None) ≡ Some c → CommandsAre (k ∷ fs) c
commands_if k fs c true b ea eb e = rw (word_is k (codes "ends") ea) (ends_made fs c (map_some _ (ends_in fs) c e))
commands_if k fs c false true ea eb e = rw (word_is k (codes "opens") eb) (opened_read fs c e)
commands_if k fs c false false ea eb e = absurd cc

commands_read : (ws : List Word) (c : Option ℤ × Ends) → commands_in ws ≡ Some c → CommandsAre ws c
commands_read [] c e = absurd cc
commands_read (k ∷ fs) c e = commands_if k fs c (is_bare_word k (codes "ends")) (is_bare_word k (codes "opens")) refl refl e

pub read_commands : (opens : Option ℤ) (ends : Ends) → IfSome opens IsNumber → commands_in (opens_words opens ++ (Bare (codes "ends") ∷ ends_words ends)) ≡ Some (opens, ends)
read_commands None ends is = rw (read_ends ends) refl
read_commands (Some number) ends is = rw (read_number_word number is, read_ends ends) refl

-- dialogs
dialog_made : (at : Position) (m x y w h t : Word) (cs : List Word) (n : Node) → ((name : List ℕ) × (p : Place) × (rows : ℤ) × (title : List ℕ) × (commands : Option ℤ × Ends) × (name_in m ≡ Some name) × (place_from x y w ≡ Some p) × (number_in h ≡ Some rows) × (text_in t ≡ Some title) × (commands_in cs ≡ Some commands) × (node_at at p (kinds.Dialog (record { name = name; h = rows; title = title; opens = commands.0; ends = commands.1 })) ≡ n)) → IsNodeOf at n (Bare (codes "dialog") ∷ m ∷ x ∷ y ∷ w ∷ h ∷ t ∷ cs)
dialog_made at m x y w h t cs n (name, p, rows, title, commands, em, ep, eh, et, ec, same) =
    let named = name_read m name em in
    let high = number_word_read h rows eh in
    let given = commands_read cs commands ec in
    node_made at x y w p (kinds.Dialog (record { name = name; h = rows; title = title; opens = commands.0; ends = commands.1 })) _ n ep (named.1, high.1, given.1) (rw (named.0, high.0, text_read t title et, given.0) refl) same

pub dialog_line : (at : Position) (fields : List Word) (n : Node) → dialog_in at fields ≡ Some n → IsNodeOf at n (Bare (codes "dialog") ∷ fields)
dialog_line at [] n e = absurd cc
dialog_line at (a ∷ []) n e = absurd cc
dialog_line at (a ∷ b ∷ []) n e = absurd cc
dialog_line at (a ∷ b ∷ c ∷ []) n e = absurd cc
dialog_line at (a ∷ b ∷ c ∷ d ∷ []) n e = absurd cc
dialog_line at (a ∷ b ∷ c ∷ d ∷ f ∷ []) n e = absurd cc
dialog_line at (m ∷ x ∷ y ∷ w ∷ h ∷ t ∷ cs) n e = dialog_made at m x y w h t cs n (with5_some _ (name_in m) (place_from x y w) (number_in h) (text_in t) (commands_in cs) n e)
