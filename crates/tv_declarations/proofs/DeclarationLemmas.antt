-- A line is a declaration just where it is spelled so.
use Rattle.std.proofs.Common.{◌≡◌, ℕ, Bool, true, false, cond, List, [], ◌∷◌, Option, Some, None, refl, sym, ap, ◌∙◌, subst}
use Rattle.std.specs.Prelude.{ℤ, IfSome, codes}
use Rattle.tv_model.specs.declared.desc.Effect.{Effect}
use Rattle.tv_model.specs.declared.desc.Effect.TheVariants as effects
use Rattle.tv_model.specs.declared.desc.Version.{Version}
use Rattle.tv_model.specs.declared.desc.Version.TheVariants as versions
use Rattle.tv_model.specs.declared.command.CommandSpec.{CommandSpec}
use Rattle.tv_model.specs.declared.kind.MarkedText.{MarkedText}
use Rattle.tv_model.specs.declared.node.Id.{Id}
use Rattle.tv_model.specs.declared.node.Node.{Node}
use Rattle.tv_model.specs.declared.kind.Kind.{Kind}
use Rattle.tv_model.specs.declared.kind.Kind.TheVariants as kinds
use Rattle.tv_model.specs.declared.desc.Rule.{Rule}
use Rattle.tv_event.specs.declared.event.Key.{Key}
use Rattle.tv_declarations.specs.declared.declaration.Declaration.{Declaration}
use Rattle.tv_declarations.specs.declared.declaration.Declaration.TheVariants as declared
use Rattle.tv_declarations.specs.declared.place.Position.{Position}
use Rattle.tv_words.specs.declared.word.Word.{Word}
use Rattle.tv_words.specs.declared.word.Word.TheVariants.{Bare}
use Rattle.tv_words.specs.Fields.{is_bare_word, name_in, text_in}
use Rattle.tv_words.specs.Reading.Numbers.{number_in}
use Rattle.tv_declarations.specs.Reading.Commands.{command_in}
use Rattle.tv_declarations.specs.Reading.Keys.{key_in}
use Rattle.tv_declarations.specs.Reading.Places.{mark_in}
use Rattle.tv_declarations.specs.Reading.Nodes.{control_in, node_in}
use Rattle.tv_declarations.specs.Reading.Declarations.{version_in, screen_in, start_in, menu_in, item_in, status_in, rule_in, show_in, enable_in, end_in, line_in, declaration_in}
use Rattle.tv_words.specs.Fields.{number_word}
use Rattle.tv_declarations.specs.Spelling.Nodes.{kind_words, IsSpelledKind}
use Rattle.tv_declarations.specs.Spelling.Declarations.{declaration_words, effect_words, version_word, IsEffect, IsNode, IsDeclaration, IsInside, IsDeclarationLine}
use Rattle.tv_declarations.proofs.OptionLemmas.{map_some, then_some, with2_some, with3_some}
use Rattle.tv_words.proofs.FieldLemmas.{word_is, number_word_read, read_number_word, name_read, read_name, text_read}
use Rattle.tv_declarations.proofs.CommandLemmas.{command_read, read_command, read_button_options}
use Rattle.tv_declarations.proofs.KeyLemmas.{key_read, read_key}
use Rattle.tv_declarations.proofs.PlaceLemmas.{IsNodeOf, mark_read, read_mark, on_line}
use Rattle.tv_declarations.proofs.NodeLemmas.{text_line, label_line, button_line, pane_line, window_line, dialog_line, read_commands}
use Rattle.tv_declarations.proofs.InputLemmas.{input_line, read_asked}
use Rattle.tv_declarations.proofs.ItemLemmas.{checks_line, radios_line, list_line, read_boxes, read_choices, read_rows}

-- ---- what is read is spelled so

-- the value of a line that begins with this keyword, or of another line
by_keyword : {D : Type 0} (P : Word → D → Type 0) (w : Word) (keyword : List ℕ) (first other : Option D) (d : D) (b : Bool) → is_bare_word w keyword ≡ b → (first ≡ Some d → P (Bare keyword) d) → (other ≡ Some d → P w d) → cond b first other ≡ Some d → P w d
by_keyword P w keyword first other d true eb here there e = rw (word_is w keyword eb) (here e)
by_keyword P w keyword first other d false eb here there e = there e

abbrev LineOf : Position → List Word → Word → Node → Type 0
LineOf at fields w n = IsNodeOf at n (w ∷ fields)

control_line : (at : Position) (w : Word) (fs : List Word) (n : Node) → control_in at w fs ≡ Some n → IsNodeOf at n (w ∷ fs)
control_line at w fs n e =
    by_keyword (LineOf at fs) w (codes "input") _ _ n (is_bare_word w (codes "input")) refl (input_line at fs n)
    (by_keyword (LineOf at fs) w (codes "checks") _ _ n (is_bare_word w (codes "checks")) refl (checks_line at fs n)
    (by_keyword (LineOf at fs) w (codes "radios") _ _ n (is_bare_word w (codes "radios")) refl (radios_line at fs n)
    (by_keyword (LineOf at fs) w (codes "list") _ None n (is_bare_word w (codes "list")) refl (list_line at fs n) (λ none. absurd cc)))) e

node_line : (at : Position) (w : Word) (fs : List Word) (n : Node) → node_in at w fs ≡ Some n → IsNodeOf at n (w ∷ fs)
node_line at w fs n e =
    by_keyword (LineOf at fs) w (codes "text") _ _ n (is_bare_word w (codes "text")) refl (text_line at fs n)
    (by_keyword (LineOf at fs) w (codes "label") _ _ n (is_bare_word w (codes "label")) refl (label_line at fs n)
    (by_keyword (LineOf at fs) w (codes "button") _ _ n (is_bare_word w (codes "button")) refl (button_line at fs n)
    (by_keyword (LineOf at fs) w (codes "pane") _ _ n (is_bare_word w (codes "pane")) refl (pane_line at fs n)
    (by_keyword (LineOf at fs) w (codes "window") _ _ n (is_bare_word w (codes "window")) refl (window_line at fs n)
    (by_keyword (LineOf at fs) w (codes "dialog") _ _ n (is_bare_word w (codes "dialog")) refl (dialog_line at fs n) (control_line at w fs n)))))) e

abbrev DeclarationOf : Position → List Word → Word → Declaration → Type 0
DeclarationOf at fields w d = IsDeclarationLine at d (w ∷ fields)

abbrev VersionLine : Position → Word → Declaration → Type 0
VersionLine at w d = IsDeclarationLine at d (Bare (codes "tvd") ∷ w ∷ [])

version_named : (at : Position) (version : Version) (d : Declaration) → Some (declared.Version version) ≡ Some d → VersionLine at (version_word version) d
version_named at version d e = let same : declared.Version version ≡ d = cc in subst (VersionLine at (version_word version)) same (record { is = tt; inside = tt; words = refl })

version_line : (at : Position) (fs : List Word) (d : Declaration) → version_in fs ≡ Some d → IsDeclarationLine at d (Bare (codes "tvd") ∷ fs)
version_line at [] d e = absurd cc
version_line at (v ∷ []) d e =
    by_keyword (VersionLine at) v (codes "1") _ _ d (is_bare_word v (codes "1")) refl (version_named at versions.One d)
    (by_keyword (VersionLine at) v (codes "2") _ None d (is_bare_word v (codes "2")) refl (version_named at versions.Two d) (λ none. absurd cc)) e
version_line at (a ∷ b ∷ cs) d e = absurd cc

screen_made : (at : Position) (a b : Word) (d : Declaration) → ((width : ℤ) × (height : ℤ) × (number_in a ≡ Some width) × (number_in b ≡ Some height) × (declared.Screen width height ≡ d)) → IsDeclarationLine at d (Bare (codes "screen") ∷ a ∷ b ∷ [])
screen_made at a b d (width, height, ea, eb, same) =
    let across = number_word_read a width ea in
    let down = number_word_read b height eb in
    subst (λ x. IsDeclarationLine at x (Bare (codes "screen") ∷ a ∷ b ∷ [])) same (record { is = (across.1, down.1); inside = tt; words = rw (across.0, down.0) refl })

screen_line : (at : Position) (fs : List Word) (d : Declaration) → screen_in fs ≡ Some d → IsDeclarationLine at d (Bare (codes "screen") ∷ fs)
screen_line at [] d e = absurd cc
screen_line at (a ∷ []) d e = absurd cc
screen_line at (a ∷ b ∷ []) d e = screen_made at a b d (with2_some _ (number_in a) (number_in b) d e)
screen_line at (a ∷ b ∷ c ∷ ds) d e = absurd cc

start_made : (at : Position) (a : Word) (d : Declaration) → ((name : List ℕ) × (name_in a ≡ Some name) × (declared.Start name ≡ d)) → IsDeclarationLine at d (Bare (codes "start") ∷ a ∷ [])
start_made at a d (name, ea, same) =
    let named = name_read a name ea in
    subst (λ x. IsDeclarationLine at x (Bare (codes "start") ∷ a ∷ [])) same (record { is = named.1; inside = tt; words = rw named.0 refl })

start_line : (at : Position) (fs : List Word) (d : Declaration) → start_in fs ≡ Some d → IsDeclarationLine at d (Bare (codes "start") ∷ fs)
start_line at [] d e = absurd cc
start_line at (a ∷ []) d e = start_made at a d (map_some _ (name_in a) d e)
start_line at (a ∷ b ∷ cs) d e = absurd cc

menu_made : (at : Position) (a : Word) (d : Declaration) → ((title : MarkedText) × (mark_in a ≡ Some title) × (declared.Menu at.id title ≡ d)) → IsDeclarationLine at d (Bare (codes "menu") ∷ a ∷ [])
menu_made at a d (title, ea, same) =
    let marks = mark_read a title ea in
    subst (λ x. IsDeclarationLine at x (Bare (codes "menu") ∷ a ∷ [])) same (record { is = (refl, marks.1); inside = tt; words = rw marks.0 refl })

menu_line : (at : Position) (fs : List Word) (d : Declaration) → menu_in at fs ≡ Some d → IsDeclarationLine at d (Bare (codes "menu") ∷ fs)
menu_line at [] d e = absurd cc
menu_line at (a ∷ []) d e = menu_made at a d (map_some _ (mark_in a) d e)
menu_line at (a ∷ b ∷ cs) d e = absurd cc

item_made : (at : Position) (a b : Word) (d : Declaration) → ((text : MarkedText) × (command : CommandSpec) × (mark_in a ≡ Some text) × (command_in b ≡ Some command) × (declared.Item (record { id = at.id; text = text; command = command }) ≡ d)) → IsDeclarationLine at d (Bare (codes "item") ∷ a ∷ b ∷ [])
item_made at a b d (text, command, ea, eb, same) =
    let marks = mark_read a text ea in
    let does = command_read b command eb in
    subst (λ x. IsDeclarationLine at x (Bare (codes "item") ∷ a ∷ b ∷ [])) same (record { is = (refl, marks.1, does.1); inside = tt; words = rw (marks.0, does.0) refl })

item_line : (at : Position) (fs : List Word) (d : Declaration) → item_in at fs ≡ Some d → IsDeclarationLine at d (Bare (codes "item") ∷ fs)
item_line at [] d e = absurd cc
item_line at (a ∷ []) d e = absurd cc
item_line at (a ∷ b ∷ []) d e = item_made at a b d (with2_some _ (mark_in a) (command_in b) d e)
item_line at (a ∷ b ∷ c ∷ ds) d e = absurd cc

status_made : (at : Position) (a b c : Word) (d : Declaration) → ((text : List ℕ) × (key : Key) × (command : CommandSpec) × (text_in a ≡ Some text) × (key_in b ≡ Some key) × (command_in c ≡ Some command) × (declared.Status (record { id = at.id; text = text; key = key; command = command }) ≡ d)) → IsDeclarationLine at d (Bare (codes "status") ∷ a ∷ b ∷ c ∷ [])
status_made at a b c d (text, key, command, ea, eb, ec, same) =
    let pressed = key_read b key eb in
    let does = command_read c command ec in
    subst (λ x. IsDeclarationLine at x (Bare (codes "status") ∷ a ∷ b ∷ c ∷ [])) same (record { is = (refl, pressed.1, does.1); inside = tt; words = rw (text_read a text ea, pressed.0, does.0) refl })

status_line : (at : Position) (fs : List Word) (d : Declaration) → status_in at fs ≡ Some d → IsDeclarationLine at d (Bare (codes "status") ∷ fs)
status_line at [] d e = absurd cc
status_line at (a ∷ []) d e = absurd cc
status_line at (a ∷ b ∷ []) d e = absurd cc
status_line at (a ∷ b ∷ c ∷ []) d e = status_made at a b c d (with3_some _ (text_in a) (key_in b) (command_in c) d e)
status_line at (a ∷ b ∷ c ∷ f ∷ gs) d e = absurd cc

-- a rule of this effect, before which other words stand
abbrev RuleOf : Position → Effect → List Word → Declaration → Type 0
RuleOf at effect fields d = (rule : Rule) × (d ≡ declared.Rule rule) × (rule.effect ≡ effect) × (fields ≡ Bare (codes "when") ∷ Bare rule.cluster ∷ number_word rule.item ∷ []) × (IsEffect effect → IsDeclaration at.id.0 (declared.Rule rule))

rule_made : (at : Position) (effect : Effect) (a b : Word) (d : Declaration) → ((cluster : List ℕ) × (item : ℤ) × (name_in a ≡ Some cluster) × (number_in b ≡ Some item) × (declared.Rule (record { id = at.id; effect = effect; cluster = cluster; item = item }) ≡ d)) → RuleOf at effect (Bare (codes "when") ∷ a ∷ b ∷ []) d
rule_made at effect a b d (cluster, item, ea, eb, same) =
    let named = name_read a cluster ea in
    let numbered = number_word_read b item eb in
    (record { id = at.id; effect = effect; cluster = cluster; item = item }, sym same, refl, rw (named.0, numbered.0) refl, λ is. (refl, is, named.1, numbered.1))

rule_if : (at : Position) (effect : Effect) (k a b : Word) (d : Declaration) (q : Bool) → is_bare_word k (codes "when") ≡ q → cond q (rule_in at effect (Bare (codes "when") ∷ a ∷ b ∷ [])) None ≡ Some d → RuleOf at effect (k ∷ a ∷ b ∷ []) d
rule_if at effect k a b d true eq e = rw (word_is k (codes "when") eq) (rule_made at effect a b d (with2_some _ (name_in a) (number_in b) d e))
rule_if at effect k a b d false eq e = absurd cc

rule_line : (at : Position) (effect : Effect) (fs : List Word) (d : Declaration) → rule_in at effect fs ≡ Some d → RuleOf at effect fs d
rule_line at effect [] d e = absurd cc
rule_line at effect (a ∷ []) d e = absurd cc
rule_line at effect (a ∷ b ∷ []) d e = absurd cc
rule_line at effect (k ∷ a ∷ b ∷ []) d e = rule_if at effect k a b d (is_bare_word k (codes "when")) refl e
rule_line at effect (a ∷ b ∷ c ∷ f ∷ gs) d e = absurd cc

rule_is : (at : Position) (effect : Effect) (fs ws : List Word) (d : Declaration) → IsEffect effect → ws ≡ effect_words effect fs → RuleOf at effect fs d → IsDeclarationLine at d ws
rule_is at effect fs ws d is words (rule, same, has, after, fits) =
    subst (λ x. IsDeclarationLine at x ws) (sym same) (record { is = fits is; inside = tt; words = words ∙ rw (after, has) refl })

show_line : (at : Position) (fs : List Word) (d : Declaration) → show_in at fs ≡ Some d → IsDeclarationLine at d (Bare (codes "show") ∷ fs)
show_line at [] d e = absurd cc
show_line at (a ∷ fs) d e =
    let t = then_some (λ name. rule_in at (effects.Show name) fs) (name_in a) d e in
    let named = name_read a t.0 t.1 in
    rule_is at (effects.Show t.0) fs (Bare (codes "show") ∷ a ∷ fs) d named.1 (ap (λ x. Bare (codes "show") ∷ x ∷ fs) named.0) (rule_line at (effects.Show t.0) fs d t.2)

enable_line : (at : Position) (fs : List Word) (d : Declaration) → enable_in at fs ≡ Some d → IsDeclarationLine at d (Bare (codes "enable") ∷ fs)
enable_line at [] d e = absurd cc
enable_line at (a ∷ fs) d e =
    let t = then_some (λ command. rule_in at (effects.Enable command) fs) (command_in a) d e in
    let does = command_read a t.0 t.1 in
    rule_is at (effects.Enable t.0) fs (Bare (codes "enable") ∷ a ∷ fs) d does.1 (ap (λ x. Bare (codes "enable") ∷ x ∷ fs) does.0) (rule_line at (effects.Enable t.0) fs d t.2)

end_line : (at : Position) (fs : List Word) (d : Declaration) → end_in fs ≡ Some d → IsDeclarationLine at d (Bare (codes "end") ∷ fs)
end_line at [] d e = let same : declared.End ≡ d = cc in subst (λ x. IsDeclarationLine at x (Bare (codes "end") ∷ [])) same (record { is = tt; inside = tt; words = refl })
end_line at (a ∷ fs) d e = absurd cc

node_made : (at : Position) (w : Word) (fs : List Word) (d : Declaration) → ((n : Node) × (node_in at w fs ≡ Some n) × (declared.Node n ≡ d)) → IsDeclarationLine at d (w ∷ fs)
node_made at w fs d (n, en, same) =
    let is = node_line at w fs n en in
    subst (λ x. IsDeclarationLine at x (w ∷ fs)) same (record { is = is.is; inside = is.depth; words = is.words })

line_read : (at : Position) (w : Word) (fs : List Word) (d : Declaration) → line_in at w fs ≡ Some d → IsDeclarationLine at d (w ∷ fs)
line_read at w fs d e =
    by_keyword (DeclarationOf at fs) w (codes "tvd") _ _ d (is_bare_word w (codes "tvd")) refl (version_line at fs d)
    (by_keyword (DeclarationOf at fs) w (codes "screen") _ _ d (is_bare_word w (codes "screen")) refl (screen_line at fs d)
    (by_keyword (DeclarationOf at fs) w (codes "start") _ _ d (is_bare_word w (codes "start")) refl (start_line at fs d)
    (by_keyword (DeclarationOf at fs) w (codes "menu") _ _ d (is_bare_word w (codes "menu")) refl (menu_line at fs d)
    (by_keyword (DeclarationOf at fs) w (codes "item") _ _ d (is_bare_word w (codes "item")) refl (item_line at fs d)
    (by_keyword (DeclarationOf at fs) w (codes "status") _ _ d (is_bare_word w (codes "status")) refl (status_line at fs d)
    (by_keyword (DeclarationOf at fs) w (codes "show") _ _ d (is_bare_word w (codes "show")) refl (show_line at fs d)
    (by_keyword (DeclarationOf at fs) w (codes "enable") _ _ d (is_bare_word w (codes "enable")) refl (enable_line at fs d)
    (by_keyword (DeclarationOf at fs) w (codes "end") _ _ d (is_bare_word w (codes "end")) refl (end_line at fs d)
    (λ other. node_made at w fs d (map_some _ (node_in at w fs) d other)))))))))) e

pub declaration_read : (at : Position) (ws : List Word) (d : Declaration) → declaration_in at ws ≡ Some d → IsDeclarationLine at d ws
declaration_read at [] d e = absurd cc
declaration_read at (w ∷ fs) d e = line_read at w fs d e

-- ---- what is spelled so is read

abbrev of_kind : Id → ℕ → ℤ → ℤ → ℤ → Kind → Node
of_kind i depth x y w kind = record { id = i; depth = depth; x = x; y = y; w = w; kind = kind }

same_node : (line panes : ℕ) (i : Id) (depth : ℕ) (x y w : ℤ) (kind : Kind) → i.0 ≡ line → depth ≡ panes → Some (declared.Node (of_kind (record { 0 = line }) panes x y w kind)) ≡ Some (declared.Node (of_kind i depth x y w kind))
same_node line panes i depth x y w kind e f = rw (← e, f) refl

node_again : (line panes : ℕ) (i : Id) (depth : ℕ) (x y w : ℤ) (kind : Kind) → IsNode line (of_kind i depth x y w kind) → depth ≡ panes → IsSpelledKind kind → declaration_in (on_line line panes) (kind_words kind (number_word x) (number_word y) (number_word w)) ≡ Some (declared.Node (of_kind i depth x y w kind))
node_again line panes i depth x y w (kinds.Text shown) p f is = rw (read_number_word x p.x, read_number_word y p.y, read_number_word w p.w, read_number_word shown.h is) (same_node line panes i depth x y w (kinds.Text shown) p.id f)
node_again line panes i depth x y w (kinds.Label label) p f (marks, named) = rw (read_number_word x p.x, read_number_word y p.y, read_number_word w p.w, read_mark label.text marks, read_name label.link named) (same_node line panes i depth x y w (kinds.Label label) p.id f)
node_again line panes i depth x y w (kinds.Button button) p f (named, marks, does) = rw (read_number_word x p.x, read_number_word y p.y, read_number_word w p.w, read_mark button.text marks, read_name button.name named, read_command button.command does, read_button_options button.is_default button.grabs) (same_node line panes i depth x y w (kinds.Button button) p.id f)
node_again line panes i depth x y w (kinds.Pane pane) p f (named, high) = rw (read_number_word x p.x, read_number_word y p.y, read_number_word w p.w, read_name pane.name named, read_number_word pane.h high) (same_node line panes i depth x y w (kinds.Pane pane) p.id f)
node_again line panes i depth x y w (kinds.Window head) p f (named, high, numbered) = rw (read_number_word x p.x, read_number_word y p.y, read_number_word w p.w, read_name head.name named, read_number_word head.h high, read_number_word head.number numbered) (same_node line panes i depth x y w (kinds.Window head) p.id f)
node_again line panes i depth x y w (kinds.Dialog head) p f (named, high, opened) = rw (read_number_word x p.x, read_number_word y p.y, read_number_word w p.w, read_name head.name named, read_number_word head.h high, read_commands head.opens head.ends opened) (same_node line panes i depth x y w (kinds.Dialog head) p.id f)
node_again line panes i depth x y w (kinds.Input input) p f (named, long, is) = rw (read_number_word x p.x, read_number_word y p.y, read_number_word w p.w, read_name input.name named, read_number_word input.spec.max long, read_asked input.spec.domain input.start input.validates input.spec.optional input.spec.fill is) (same_node line panes i depth x y w (kinds.Input input) p.id f)
node_again line panes i depth x y w (kinds.CheckBoxes boxes) p f (named, marks, some, fit, rising) = rw (read_number_word x p.x, read_number_word y p.y, read_number_word w p.w, read_name boxes.name named, read_boxes boxes.items boxes.start marks some fit rising) (same_node line panes i depth x y w (kinds.CheckBoxes boxes) p.id f)
node_again line panes i depth x y w (kinds.RadioButtons radios) p f (named, marks, some, fit) = rw (read_number_word x p.x, read_number_word y p.y, read_number_word w p.w, read_name radios.name named, read_choices radios.items radios.start marks some fit) (same_node line panes i depth x y w (kinds.RadioButtons radios) p.id f)
node_again line panes i depth x y w (kinds.List list) p f (named, high, some, fit) = rw (read_number_word x p.x, read_number_word y p.y, read_number_word w p.w, read_name list.name named, read_number_word list.h high, read_rows list.items list.start some fit) (same_node line panes i depth x y w (kinds.List list) p.id f)

same_line : (line : ℕ) (i : Id) → i.0 ≡ line → i ≡ record { 0 = line }
same_line line i e = rw (← e) refl

rule_again : (line panes : ℕ) (i : Id) (effect : Effect) (cluster : List ℕ) (item : ℤ) → IsDeclaration line (declared.Rule (record { id = i; effect = effect; cluster = cluster; item = item })) → declaration_in (on_line line panes) (declaration_words (declared.Rule (record { id = i; effect = effect; cluster = cluster; item = item }))) ≡ Some (declared.Rule (record { id = i; effect = effect; cluster = cluster; item = item }))
rule_again line panes i (effects.Show name) cluster item (ei, is, named, numbered) = rw (same_line line i ei, read_name name is, read_name cluster named, read_number_word item numbered) refl
rule_again line panes i (effects.Enable command) cluster item (ei, is, named, numbered) = rw (same_line line i ei, read_command command is, read_name cluster named, read_number_word item numbered) refl

pub read_declaration : (line panes : ℕ) (d : Declaration) → IsDeclaration line d → IsInside panes d → declaration_in (on_line line panes) (declaration_words d) ≡ Some d
read_declaration line panes (declared.Version versions.One) is inside = refl
read_declaration line panes (declared.Version versions.Two) is inside = refl
read_declaration line panes (declared.Screen width height) (across, down) inside = rw (read_number_word width across, read_number_word height down) refl
read_declaration line panes (declared.Start name) is inside = rw (read_name name is) refl
read_declaration line panes (declared.Menu i title) (ei, marks) inside = rw (same_line line i ei, read_mark title marks) refl
read_declaration line panes (declared.Item item) (ei, marks, does) inside = rw (read_mark item.text marks, read_command item.command does, ← same_line line item.id ei) refl
read_declaration line panes (declared.Status item) (ei, pressed, does) inside = rw (read_key item.key pressed, read_command item.command does, ← same_line line item.id ei) refl
read_declaration line panes (declared.Node node) is inside = node_again line panes node.id node.depth node.x node.y node.w node.kind is inside is.kind
read_declaration line panes (declared.Rule rule) is inside = rule_again line panes rule.id rule.effect rule.cluster rule.item is
read_declaration line panes declared.End is inside = refl

-- ---- what is found is the declaration of the line, and the only one

pub found_line : (at : Position) (ws : List Word) (found : Option Declaration) → found ≡ declaration_in at ws → IfSome found (λ d. IsDeclarationLine at d ws)
found_line at ws None e = tt
found_line at ws (Some d) e = declaration_read at ws d (sym e)

pub line_found : (at : Position) (ws : List Word) (found : Option Declaration) → found ≡ declaration_in at ws → (d : Declaration) → IsDeclarationLine at d ws → found ≡ Some d
line_found at ws found e d line = e ∙ ap (declaration_in at) line.words ∙ read_declaration at.id.0 at.depth d line.is line.inside
