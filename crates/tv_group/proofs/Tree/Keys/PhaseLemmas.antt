-- An event in three phases: who takes it, and what becomes of the leaves.
use Rattle.std.proofs.Common.{◌≡◌, Bool, false, List, if◌then◌else◌, refl, sym, ap, ◌∙◌}
use Rattle.tv_event.specs.declared.event.Event.{Event}
use Rattle.tv_event.specs.declared.event.Phase.{Phase}
use Rattle.tv_event.specs.declared.event.Phase.TheVariants as phases
use Rattle.tv_view.specs.Meaning.{Placed}
use Rattle.tv_view.specs.declared.env.Env.{Env}
use Rattle.tv_view.specs.declared.reaction.Reaction.{Reaction}
use Rattle.tv_view.specs.declared.reaction.Reaction.TheVariants.{Pass}
use Rattle.tv_group.specs.Handling.{group_after, group_answer, is_pass}
use Rattle.tv_group.specs.TreeTurns.{first_taken, phases_after, phases_answer}
use Rattle.tv_machine.proofs.ListLemmas.{bool_cases}
use Rattle.tv_group.proofs.Tree.Keys.TurnLemmas.{passed}

first_taken-here : (r second : Reaction) → is_pass r ≡ false → first_taken r second ≡ r
first_taken-here r second taken = ap (λ b. if b then second else r) taken

first_taken-pass : (r : Reaction) → first_taken r Pass ≡ r
first_taken-pass r = bool_cases (is_pass r) (λ b. (if b then Pass else r) ≡ r) (λ is. sym (passed r is)) (λ is. refl)

module _ (e : Event) (env : Env) (xs : List Placed) where
  -- what is answered in a phase
  abbrev pub answer_in : Phase → Reaction
  answer_in p = group_answer e p env xs

  -- what the leaves become in it
  abbrev pub after_in : Phase → List Placed
  after_in p = group_after e p env xs

  -- what the leaves become from the focus on
  abbrev after_focus : Bool → List Placed
  after_focus b = if b then after_in phases.Post else after_in phases.Focused

  -- nobody takes it before the focus does
  pub phases_answer-focus : answer_in phases.Pre ≡ Pass
      → phases_answer e env xs ≡ first_taken (answer_in phases.Focused) (answer_in phases.Post)
  phases_answer-focus pre = ap (λ r. first_taken r (first_taken (answer_in phases.Focused) (answer_in phases.Post))) pre

  -- the focus takes it
  pub phases_answer-taken : answer_in phases.Pre ≡ Pass → (r : Reaction) → answer_in phases.Focused ≡ r → is_pass r ≡ false
      → phases_answer e env xs ≡ r
  phases_answer-taken pre r is taken =
      phases_answer-focus pre ∙ ap (λ s. first_taken s (answer_in phases.Post)) is ∙ first_taken-here r (answer_in phases.Post) taken

  pub phases_after-taken : answer_in phases.Pre ≡ Pass → (r : Reaction) → answer_in phases.Focused ≡ r → is_pass r ≡ false
      → phases_after e env xs ≡ after_in phases.Focused
  phases_after-taken pre r is taken =
      ap (λ s. if is_pass s then after_focus (is_pass (answer_in phases.Focused)) else after_in phases.Pre) pre
      ∙ ap after_focus (ap is_pass is ∙ taken)

  -- only after the focus anybody does
  pub phases_answer-post : answer_in phases.Pre ≡ Pass → answer_in phases.Focused ≡ Pass → phases_answer e env xs ≡ answer_in phases.Post
  phases_answer-post pre focus = phases_answer-focus pre ∙ ap (λ s. first_taken s (answer_in phases.Post)) focus

  -- only before the focus
  pub phases_answer-pre : answer_in phases.Focused ≡ Pass → answer_in phases.Post ≡ Pass → phases_answer e env xs ≡ answer_in phases.Pre
  phases_answer-pre focus post =
      ap (λ r. first_taken (answer_in phases.Pre) (first_taken r (answer_in phases.Post))) focus
      ∙ ap (first_taken (answer_in phases.Pre)) post
      ∙ first_taken-pass (answer_in phases.Pre)

  -- no leaf changes
  pub phases_after-still : after_in phases.Pre ≡ xs
      → (is_pass (answer_in phases.Focused) ≡ false → after_in phases.Focused ≡ xs) → after_in phases.Post ≡ xs
      → phases_after e env xs ≡ xs
  phases_after-still pre focus post =
      bool_cases (is_pass (answer_in phases.Pre))
      (λ b. (if b then after_focus (is_pass (answer_in phases.Focused)) else after_in phases.Pre) ≡ xs)
      (λ passes. bool_cases (is_pass (answer_in phases.Focused)) (λ b. after_focus b ≡ xs) (λ on. post) focus)
      (λ taken. pre)
