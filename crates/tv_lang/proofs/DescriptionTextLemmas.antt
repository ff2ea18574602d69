-- A text is read as a description just where it spells it.
use Rattle.std.proofs.Common.{◌≡◌, ℕ, suc, zero, ◌+◌, ◌-◌, ◌==◌, Bool, true, false, List, [], ◌∷◌, ◌++◌, length, replicate, Option, Some, None, refl, ap, ◌∙◌, arith, length-append}
use Rattle.std.specs.Prelude.{pos, codes, option_and_then}
use Rattle.std.specs.Str.{is_utf8, chars}
use Rattle.std.proofs.lemmas.Bool.{eqb-true}
use lib.Utf8.{encode}
use Rattle.tv_model.specs.declared.command.CommandSpec.TheVariants as commands
use Rattle.tv_model.specs.declared.desc.Desc.{Desc}
use Rattle.tv_model.specs.declared.desc.Dialog.{Dialog}
use Rattle.tv_model.specs.declared.desc.MenuItem.{MenuItem}
use Rattle.tv_model.specs.declared.desc.Version.TheVariants as versions
use Rattle.tv_words.specs.declared.word.Word.TheVariants.{Bare, Quoted}
use Rattle.tv_lang.specs.declared.progress.Progress.{Progress}
use Rattle.tv_lang.specs.declared.stage.Stage.{Stage}
use Rattle.tv_lang.specs.declared.stage.Stage.TheVariants as stages
use Rattle.tv_words.specs.Reading.Steps.{steps}
use Rattle.tv_words.specs.Reading.LineWords.{line_words, line_taken}
use Rattle.tv_lang.specs.Reading.Stages.{nothing_read, description_line_taken, finished_description}
use Rattle.tv_declarations.specs.Spelling.{word_lines, IsDescription}
use Rattle.tv_lang.specs.Faults.{SpellsLines, BeginsDescription}
use Rattle.tv_words.proofs.TextLemmas as texts
use Rattle.tv_lang.proofs.GivenLemmas.{at, given_spelled}
use Rattle.tv_lang.proofs.ReachLemmas.{spelled_given}

-- the machine over lines, which passes over lines without words
abbrev pub taken_line : Progress → List ℕ → Option Progress
taken_line p line = line_taken description_line_taken p line

-- the description that the lines give
abbrev pub given_lines : List (List ℕ) → Option Desc
given_lines lines = option_and_then finished_description (steps taken_line nothing_read lines)

-- what the lines give is what they spell
pub lines_spelled : (lines : List (List ℕ)) (d : Desc) → given_lines lines ≡ Some d → SpellsLines lines d
lines_spelled = texts.lines_spelled description_line_taken nothing_read finished_description word_lines IsDescription given_spelled spelled_given

pub spelled_lines : (lines : List (List ℕ)) (d : Desc) → SpellsLines lines d → given_lines lines ≡ Some d
spelled_lines = texts.spelled_lines description_line_taken nothing_read finished_description word_lines IsDescription given_spelled spelled_given

-- the machine goes along lines that begin a description
pub begins_taken : (lines : List (List ℕ)) → BeginsDescription lines → (p : Progress) × (steps taken_line nothing_read lines ≡ Some p)
begins_taken = texts.begins_taken description_line_taken nothing_read finished_description word_lines IsDescription given_spelled spelled_given

-- lines that end a description at each stage
abbrev end_line : List ℕ
end_line = codes "end"

abbrev rest_of : Stage → List (List ℕ)
rest_of stages.Version = codes "tvd 1" ∷ codes "screen 1 1" ∷ []
rest_of stages.Screen = codes "screen 1 1" ∷ []
rest_of stages.Between = []
rest_of (stages.InMenu menu) = codes "item \"\" quit" ∷ end_line ∷ []
rest_of (stages.InWindow window) = end_line ∷ []
rest_of (stages.InViews dialog panes) = replicate panes end_line ++ end_line ∷ []
rest_of (stages.InRules dialog) = end_line ∷ []

end_words : line_words end_line ≡ Some (Bare (codes "end") ∷ [])
unfolding is_utf8 chars encode
end_words = refl

item_words : line_words (codes "item \"\" quit") ≡ Some (Bare (codes "item") ∷ Quoted [] ∷ Bare (codes "quit") ∷ [])
unfolding is_utf8 chars encode
item_words = refl

screen_words : line_words (codes "screen 1 1") ≡ Some (Bare (codes "screen") ∷ Bare (codes "1") ∷ Bare (codes "1") ∷ [])
unfolding is_utf8 chars encode
screen_words = refl

version_words : line_words (codes "tvd 1") ≡ Some (Bare (codes "tvd") ∷ Bare (codes "1") ∷ [])
unfolding is_utf8 chars encode
version_words = refl

abbrev Completes : Progress → List (List ℕ) → Type 0
Completes p lines = (d : Desc) × (option_and_then finished_description (steps taken_line p lines) ≡ Some d)

empty_if : {A : Type 0} (xs : List A) (x : A) (b : Bool) → (length (xs ++ x ∷ []) == 0) ≡ b → (length (xs ++ x ∷ []) == 0) ≡ false
empty_if xs x true e = let none : length (xs ++ x ∷ []) ≡ 0 = eqb-true (length (xs ++ x ∷ [])) 0 e in absurd (omega (arith, none, length-append xs (x ∷ [])))
empty_if xs x false e = e

open_if : (n k : ℕ) (b : Bool) → n == 0 ≡ b → n ≡ suc k → n == 0 ≡ false
open_if n k true eb e = absurd (omega (arith, eqb-true n 0 eb, e))
open_if n k false eb e = eb

views_complete : (k next : ℕ) (dialog : Dialog) (panes : ℕ) (d : Desc) → panes ≡ k → Completes (at next (stages.InViews dialog panes) d) (replicate k end_line ++ end_line ∷ [])
views_complete zero next dialog panes d e = (record d { dialogs = d.dialogs ++ dialog ∷ [] }, rw (e, end_words) refl)
views_complete (suc k) next dialog panes d e =
    let less : panes - 1 ≡ k = omega (arith, e) in
    let h = views_complete k (next + 1) dialog (panes - 1) d less in
    (h.0, rw (end_words, open_if panes k (panes == 0) refl e) h.1)

-- an item without a text
abbrev small_item : ℕ → MenuItem
small_item line = record { id = record { 0 = line }; text = record { text = []; mark = None }; command = commands.Quit }

complete : (next : ℕ) (stage : Stage) (d : Desc) → Completes (at next stage d) (rest_of stage)
complete next stages.Version d = (record d { version = versions.One; width = pos 1; height = pos 1 }, rw (version_words, screen_words) refl)
complete next stages.Screen d = (record d { width = pos 1; height = pos 1 }, rw screen_words refl)
complete next stages.Between d = (d, refl)
complete next (stages.InMenu menu) d = (record d { menus = d.menus ++ record menu { items = menu.items ++ small_item next ∷ [] } ∷ [] }, rw (item_words, end_words, empty_if menu.items (small_item next) (length (menu.items ++ small_item next ∷ []) == 0) refl) refl)
complete next (stages.InWindow window) d = (record d { windows = d.windows ++ window ∷ [] }, rw end_words refl)
complete next (stages.InViews dialog panes) d = views_complete panes next dialog panes d refl
complete next (stages.InRules dialog) d = (record d { dialogs = d.dialogs ++ dialog ∷ [] }, rw end_words refl)

-- lines along which the machine goes begin a description
pub taken_begins : (lines : List (List ℕ)) (p : Progress) → steps taken_line nothing_read lines ≡ Some p → BeginsDescription lines
taken_begins lines p e =
    let h = complete p.next p.stage p.desc in
    let all : given_lines (lines ++ rest_of p.stage) ≡ Some h.0 = ap (option_and_then finished_description) (texts.steps_append taken_line lines (rest_of p.stage) nothing_read ∙ ap (option_and_then (λ t. steps taken_line t (rest_of p.stage))) e) ∙ h.1 in
    (rest_of p.stage, h.0, lines_spelled (lines ++ rest_of p.stage) h.0 all)
