-- What the words of commands and options are read as, and that it is their spelling.
use Rattle.std.proofs.Common.{◌≡◌, ℕ, Bool, true, false, cond, List, [], ◌∷◌, ◌++◌, Option, Some, None, refl, ap, ◌∙◌}
use Rattle.std.specs.Prelude.{ℤ, codes}
use Rattle.std.specs.List.{AllByRecursion}
use Rattle.std.proofs.lemmas.List.{append-nil}
use Rattle.tv_model.specs.declared.command.CommandSpec.{CommandSpec}
use Rattle.tv_model.specs.declared.command.CommandSpec.TheVariants as commands
use Rattle.tv_model.specs.declared.command.Ends.{Ends}
use Rattle.tv_words.specs.declared.word.Word.{Word}
use Rattle.tv_words.specs.declared.word.Word.TheVariants.{Bare}
use Rattle.tv_words.specs.Fields.{is_bare_word}
use Rattle.tv_words.specs.Reading.Numbers.{number_in}
use Rattle.tv_declarations.specs.Reading.Commands.{command_named, named_commands, named_command, numbered_command, command_in, is_next, after_next, at_end, ends_in, button_options_in}
use Rattle.tv_declarations.specs.Spelling.Terms.{command_name, command_word, word_if, ends_words, IsCommand}
use Rattle.tv_words.proofs.NumberLemmas.{read_number}
use Rattle.tv_words.proofs.FieldLemmas.{word_is, number_word_read}

-- commands
named_if : (w : Word) (keyword : List ℕ) (c d : CommandSpec) (rest : Option CommandSpec) (b : Bool) → is_bare_word w keyword ≡ b → Bare keyword ≡ command_word c → IsCommand c → (rest ≡ Some d → (w ≡ command_word d) × IsCommand d) → cond b (Some c) rest ≡ Some d → (w ≡ command_word d) × IsCommand d
named_if w keyword c d rest true eb spelled is other e = let same : c ≡ d = cc in rw (← same) (word_is w keyword eb ∙ spelled, is)
named_if w keyword c d rest false eb spelled is other e = other e

-- a command with a word
abbrev IsNamed : CommandSpec → Type 0
IsNamed c = (Bare (command_name c) ≡ command_word c) × IsCommand c

first_read : (cs : List CommandSpec) (w : Word) (d : CommandSpec) → AllByRecursion IsNamed cs → command_named cs w ≡ Some d → (w ≡ command_word d) × IsCommand d
first_read [] w d are e = absurd cc
first_read (c ∷ cs) w d are e = named_if w (command_name c) c d (command_named cs w) (is_bare_word w (command_name c)) refl are.0.0 are.0.1 (first_read cs w d are.1) e

named_read : (w : Word) (d : CommandSpec) → named_command w ≡ Some d → (w ≡ command_word d) × IsCommand d
named_read w d e = first_read named_commands w d ((refl, tt), ((refl, tt), ((refl, tt), ((refl, tt), ((refl, tt), ((refl, tt), ((refl, tt), ((refl, tt), tt)))))))) e

command_from : (w : Word) (d : CommandSpec) (o : Option ℤ) → number_in w ≡ o → numbered_command o w ≡ Some d → (w ≡ command_word d) × IsCommand d
command_from w d (Some n) eo e = let same : commands.Number n ≡ d = cc in rw (← same) (number_word_read w n eo)
command_from w d None eo e = named_read w d e

pub command_read : (w : Word) (d : CommandSpec) → command_in w ≡ Some d → (w ≡ command_word d) × IsCommand d
command_read w d e = command_from w d (number_in w) refl e

pub read_command : (d : CommandSpec) → IsCommand d → command_in (command_word d) ≡ Some d
read_command commands.Quit is = refl
read_command commands.Menu is = refl
read_command commands.Close is = refl
read_command commands.Next is = refl
read_command commands.Ok is = refl
read_command commands.Cancel is = refl
read_command commands.Yes is = refl
read_command commands.No is = refl
read_command (commands.Number n) is = rw (read_number n is) refl

-- end commands
next_if : (keyword : List ℕ) (w : Word) (ws : List Word) (b : Bool) → is_bare_word w keyword ≡ b → w ∷ ws ≡ word_if b keyword ++ cond b ws (w ∷ ws)
next_if keyword w ws true e = ap (λ x. x ∷ ws) (word_is w keyword e)
next_if keyword w ws false e = refl

pub next_word : (keyword : List ℕ) (ws : List Word) → ws ≡ word_if (is_next keyword ws) keyword ++ after_next keyword ws
next_word keyword [] = refl
next_word keyword (w ∷ ws) = next_if keyword w ws (is_bare_word w keyword) refl

pub nothing_more : {A : Type 0} (ws : List Word) (found ends : A) → at_end ws found ≡ Some ends → (ws ≡ []) × (found ≡ ends)
nothing_more [] found ends e = (refl, cc)
nothing_more (w ∷ ws) found ends e = absurd cc

pub ends_read : (ws : List Word) (ends : Ends) → ends_in ws ≡ Some ends → ws ≡ ends_words ends
ends_read ws ends e =
    let after_ok = after_next (command_name commands.Ok) ws in
    let after_cancel = after_next (command_name commands.Cancel) after_ok in
    let after_yes = after_next (command_name commands.Yes) after_cancel in
    let found : Ends = record { ok = is_next (command_name commands.Ok) ws; cancel = is_next (command_name commands.Cancel) after_ok; yes = is_next (command_name commands.Yes) after_cancel; no = is_next (command_name commands.No) after_yes } in
    let last = nothing_more (after_next (command_name commands.No) after_yes) found ends e in
    next_word (command_name commands.Ok) ws
    ∙ ap (λ x. word_if found.ok (command_name commands.Ok) ++ x) (next_word (command_name commands.Cancel) after_ok
    ∙ ap (λ x. word_if found.cancel (command_name commands.Cancel) ++ x) (next_word (command_name commands.Yes) after_cancel
    ∙ ap (λ x. word_if found.yes (command_name commands.Yes) ++ x) (next_word (command_name commands.No) after_yes
    ∙ ap (λ x. word_if found.no (command_name commands.No) ++ x) last.0 ∙ append-nil (word_if found.no (command_name commands.No)))))
    ∙ ap ends_words last.1

abbrev ends_of : Bool → Bool → Bool → Bool → Ends
ends_of a b c d = record { ok = a; cancel = b; yes = c; no = d }

read_ends_of : (ok cancel yes no : Bool) → ends_in (ends_words (ends_of ok cancel yes no)) ≡ Some (ends_of ok cancel yes no)
read_ends_of true true true true = refl
read_ends_of true true true false = refl
read_ends_of true true false true = refl
read_ends_of true true false false = refl
read_ends_of true false true true = refl
read_ends_of true false true false = refl
read_ends_of true false false true = refl
read_ends_of true false false false = refl
read_ends_of false true true true = refl
read_ends_of false true true false = refl
read_ends_of false true false true = refl
read_ends_of false true false false = refl
read_ends_of false false true true = refl
read_ends_of false false true false = refl
read_ends_of false false false true = refl
read_ends_of false false false false = refl

pub read_ends : (ends : Ends) → ends_in (ends_words ends) ≡ Some ends
read_ends ends = read_ends_of ends.ok ends.cancel ends.yes ends.no

-- the options of a button
pub button_options_read : (ws : List Word) (options : Bool × Bool) → button_options_in ws ≡ Some options → ws ≡ word_if options.0 (codes "default") ++ word_if options.1 (codes "grab")
button_options_read ws options e =
    let is_default = is_next (codes "default") ws in
    let after_default = after_next (codes "default") ws in
    let grabs = is_next (codes "grab") after_default in
    let last = nothing_more (after_next (codes "grab") after_default) (is_default, grabs) options e in
    next_word (codes "default") ws
    ∙ ap (λ x. word_if is_default (codes "default") ++ x) (next_word (codes "grab") after_default
    ∙ ap (λ x. word_if grabs (codes "grab") ++ x) last.0 ∙ append-nil (word_if grabs (codes "grab")))
    ∙ ap (λ o. word_if o.0 (codes "default") ++ word_if o.1 (codes "grab")) last.1

pub read_button_options : (is_default grabs : Bool) → button_options_in (word_if is_default (codes "default") ++ word_if grabs (codes "grab")) ≡ Some (is_default, grabs)
read_button_options true true = refl
read_button_options true false = refl
read_button_options false true = refl
read_button_options false false = refl
