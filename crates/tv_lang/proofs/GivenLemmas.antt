-- Reading declarations gives just the description that is spelled so.
use Rattle.std.proofs.Common.{◌≡◌, ℕ, ◌+◌, List, [], ◌∷◌, ◌++◌, Option, Some, None, refl, sym, ap, ◌∙◌, append_assoc, subst}
use Rattle.std.specs.Prelude.{map, option_and_then}
use Rattle.std.specs.Option.{option_map}
use Rattle.std.proofs.lemmas.List.{append-nil}
use Rattle.tv_model.specs.declared.desc.Desc.{Desc}
use Rattle.tv_declarations.specs.declared.declaration.Declaration.{Declaration}
use Rattle.tv_words.specs.declared.word.Word.{Word}
use Rattle.tv_lang.specs.declared.progress.Progress.{Progress}
use Rattle.tv_lang.specs.declared.stage.Stage.{Stage}
use Rattle.tv_lang.specs.declared.stage.Stage.TheVariants as stages
use Rattle.tv_words.specs.Reading.Steps.{steps}
use Rattle.tv_declarations.specs.Reading.Declarations.{declaration_in}
use Rattle.tv_lang.specs.Reading.Stages.{nothing_read, progress, open_panes, declaration_taken, description_line_taken, finished_description}
use Rattle.tv_declarations.specs.Spelling.{declarations_of, word_lines, IsDescription}
use Rattle.tv_declarations.specs.Spelling.Declarations.{declaration_words, AreDeclarations}
use Rattle.tv_declarations.proofs.PlaceLemmas.{on_line}
use Rattle.tv_declarations.proofs.DeclarationLemmas.{declaration_read}
use Rattle.tv_lang.proofs.StageLemmas.{so_far, Sound, HasParts, goes}

-- the description that the declarations give
abbrev pub given : Progress → List (List Word) → Option Desc
given p wss = option_and_then finished_description (steps description_line_taken p wss)

abbrev pub at : ℕ → Stage → Desc → Progress
at line stage d = record { next = line; stage = stage; desc = d }

-- what is declared by lines from this stage on
record Told (line : ℕ) (stage : Stage) (d v : Desc) (wss : List (List Word)) : Type 0 where
  more : List Declaration
  words : wss ≡ map declaration_words more
  are : AreDeclarations line more
  all : declarations_of v ≡ so_far stage d ++ more
  parts : HasParts v

done_tells : (line : ℕ) (stage : Stage) (d v : Desc) → finished_description (at line stage d) ≡ Some v → Sound stage d → Told line stage d v []
done_tells line stages.Version d v e s = absurd cc
done_tells line stages.Screen d v e s = absurd cc
done_tells line stages.Between d v e s =
    let same : d ≡ v = cc in
    rw (← same) (record { more = []; words = refl; are = tt; all = sym (append-nil (declarations_of d)); parts = s })
done_tells line (stages.InMenu menu) d v e s = absurd cc
done_tells line (stages.InWindow window) d v e s = absurd cc
done_tells line (stages.InViews dialog panes) d v e s = absurd cc
done_tells line (stages.InRules dialog) d v e s = absurd cc

-- what the lines after a declaration tell, told from before it
abbrev Later : ℕ → Desc → List (List Word) → Type 0
Later line v wss = (stage : Stage) (d : Desc) → given (at (line + 1) stage d) wss ≡ Some v → Sound stage d → Told (line + 1) stage d v wss

step_told : (line : ℕ) (stage : Stage) (d v : Desc) (ws : List Word) (wss : List (List Word)) (x : Declaration) (o : Option (Stage × Desc)) → declaration_in (on_line line (open_panes stage)) ws ≡ Some x → declaration_taken stage d x ≡ o → Later line v wss → option_and_then finished_description (option_and_then (λ t. steps description_line_taken t wss) (option_map (progress (line + 1)) o)) ≡ Some v → Sound stage d → Told line stage d v (ws ∷ wss)
step_told line stage d v ws wss x None ex eo later e s = absurd cc
step_told line stage d v ws wss x (Some r) ex eo later e s =
    let is = declaration_read (on_line line (open_panes stage)) ws x ex in
    let went = goes stage d x r eo s is.inside in
    let t = later r.0 r.1 e went.0 in
    record { more = x ∷ t.more; words = ap (λ w. w ∷ wss) is.words ∙ ap (λ l. declaration_words x ∷ l) t.words; are = (is.is, t.are); all = t.all ∙ ap (λ l. l ++ t.more) went.1 ∙ append_assoc (so_far stage d) (x ∷ []) t.more; parts = t.parts }

line_told : (line : ℕ) (stage : Stage) (d v : Desc) (ws : List Word) (wss : List (List Word)) (o : Option Declaration) → declaration_in (on_line line (open_panes stage)) ws ≡ o → Later line v wss → option_and_then finished_description (option_and_then (λ t. steps description_line_taken t wss) (option_map (progress (line + 1)) (option_and_then (declaration_taken stage d) o))) ≡ Some v → Sound stage d → Told line stage d v (ws ∷ wss)
line_told line stage d v ws wss None eo later e s = absurd cc
line_told line stage d v ws wss (Some x) eo later e s = step_told line stage d v ws wss x (declaration_taken stage d x) eo refl later e s

tells : (wss : List (List Word)) (line : ℕ) (stage : Stage) (d v : Desc) → given (at line stage d) wss ≡ Some v → Sound stage d → Told line stage d v wss
tells [] line stage d v e s = done_tells line stage d v e s
tells (ws ∷ wss) line stage d v e s = line_told line stage d v ws wss (declaration_in (on_line line (open_panes stage)) ws) refl (λ stage d. tells wss (line + 1) stage d v) e s

-- what is read is spelled so
pub given_spelled : (wss : List (List Word)) (v : Desc) → given nothing_read wss ≡ Some v → (wss ≡ word_lines v) × IsDescription v
given_spelled wss v e =
    let t = tells wss 1 stages.Version nothing_read.desc v e refl in
    let all : t.more ≡ declarations_of v = sym t.all in
    (t.words ∙ ap (map declaration_words) all, record { declarations = subst (AreDeclarations 1) all t.are; menus = t.parts.menus; windows = t.parts.windows; dialogs = t.parts.dialogs })
