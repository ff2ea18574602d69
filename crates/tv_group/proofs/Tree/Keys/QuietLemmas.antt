-- Turns in which no leaf answers, or none changes.
use Rattle.std.proofs.Common.{◌≡◌, not, List, get_or, None, ap, ◌∙◌}
use Rattle.std.proofs.lemmas.Bool.{and_right}
use Rattle.tv_event.specs.declared.event.Command.{Command}
use Rattle.tv_event.specs.declared.event.Event.{Event}
use Rattle.tv_event.specs.declared.event.Event.TheVariants as events
use Rattle.tv_event.specs.declared.event.Key.{Key}
use Rattle.tv_event.specs.declared.event.Phase.{Phase}
use Rattle.tv_event.specs.declared.event.Phase.TheVariants as phases
use Rattle.tv_view.specs.Meaning.{Placed}
use Rattle.tv_view.specs.declared.env.Env.{Env}
use Rattle.tv_view.specs.declared.reaction.Reaction.TheVariants.{Pass}
use Rattle.tv_view.specs.Reactions.{calling_letter, letter_answer}
use Rattle.tv_group.specs.Handling.{found_answer, group_after, group_answer, is_offered, is_pass, placed_after, placed_answer, scan_after, scan_answer, takes}
use Rattle.tv_group.specs.TreeTurns.{phases_after, phases_answer}
use Rattle.tv_group.proofs.Tree.ChangedLemmas.{first_changed-same}
use Rattle.tv_group.proofs.Tree.Keys.LetterLemmas.{letter-none}
use Rattle.tv_machine.proofs.ListLemmas.{find-none}
use Rattle.tv_group.proofs.Tree.Keys.PhaseLemmas.{phases_after-still, phases_answer-post}
use Rattle.tv_group.proofs.Tree.Keys.TurnLemmas.{command-after, command-answer, key-after, key-answer}

-- ---- one phase

module _ (e : Event) (p : Phase) (env : Env) (xs : List Placed) where
  pub scan-quiet : ((x : Placed) → placed_answer e p env x ≡ Pass) → scan_answer e p env xs ≡ Pass
  scan-quiet quiet =
      ap (found_answer e p env)
      (find-none (takes e p env) xs
      (λ k d h. and_right (is_offered e p (get_or xs k d)) (not (is_pass (placed_answer e p env (get_or xs k d))))
      (ap (λ r. not (is_pass r)) (quiet (get_or xs k d)))))

  pub scan-still : ((x : Placed) → placed_after e p env x ≡ x) → scan_after e p env xs ≡ xs
  scan-still still = first_changed-same (takes e p env) (placed_after e p env) xs (λ x found. still x)

-- ---- keys

module _ (k : Key) (env : Env) (xs : List Placed) where
  -- before the focus, and after it, a key changes no leaf
  pub before-key : group_after (events.Key k) phases.Pre env xs ≡ xs
  unfolding group_after
  before-key = scan-still (events.Key k) phases.Pre env xs (λ x. key-after phases.Pre env x k)

  pub after-key : group_after (events.Key k) phases.Post env xs ≡ xs
  unfolding group_after
  after-key = scan-still (events.Key k) phases.Post env xs (λ x. key-after phases.Post env x k)

  -- a key without a letter isn't answered there
  pub before-none : calling_letter phases.Pre k ≡ None → group_answer (events.Key k) phases.Pre env xs ≡ Pass
  unfolding group_answer
  before-none none =
      scan-quiet (events.Key k) phases.Pre env xs
      (λ x. key-answer phases.Pre env x k ∙ ap (letter_answer env x.leaf x.leaf.node.kind) none ∙ letter-none env x.leaf x.leaf.node.kind)

  pub after-none : calling_letter phases.Post k ≡ None → group_answer (events.Key k) phases.Post env xs ≡ Pass
  unfolding group_answer
  after-none none =
      scan-quiet (events.Key k) phases.Post env xs
      (λ x. key-answer phases.Post env x k ∙ ap (letter_answer env x.leaf x.leaf.node.kind) none ∙ letter-none env x.leaf x.leaf.node.kind)

-- ---- commands

module _ (c : Command) (env : Env) (xs : List Placed) where
  command-passes : (p : Phase) → group_answer (events.Command c) p env xs ≡ Pass
  unfolding group_answer
  command-passes p = scan-quiet (events.Command c) p env xs (λ x. command-answer p env x c)

  command-still : (p : Phase) → group_after (events.Command c) p env xs ≡ xs
  unfolding group_after
  command-still p = scan-still (events.Command c) p env xs (λ x. command-after p env x c)

  -- a command passes through all views, which stay as they are
  pub phases_answer-command : phases_answer (events.Command c) env xs ≡ Pass
  phases_answer-command =
      phases_answer-post (events.Command c) env xs (command-passes phases.Pre) (command-passes phases.Focused) ∙ command-passes phases.Post

  pub phases_after-command : phases_after (events.Command c) env xs ≡ xs
  phases_after-command =
      phases_after-still (events.Command c) env xs (command-still phases.Pre) (λ taken. command-still phases.Focused)
      (command-still phases.Post)
