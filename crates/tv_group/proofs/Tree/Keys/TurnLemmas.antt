-- Whose turn an event is: where at most one leaf may take it, that one answers.
use Rattle.std.proofs.Common.{◌≡◌, Bool, true, false, ◌&&◌, not, List, [], ◌∷◌, map, find, Option, Some, None, option_map, refl, sym, ap, ◌∙◌, if◌then◌else◌}
use Rattle.tv_cells.specs.declared.rect.Rect.{Rect}
use Rattle.tv_event.specs.declared.event.Command.{Command}
use Rattle.tv_event.specs.declared.event.Event.{Event}
use Rattle.tv_event.specs.declared.event.Event.TheVariants as events
use Rattle.tv_event.specs.declared.event.Key.{Key}
use Rattle.tv_event.specs.declared.event.Phase.{Phase}
use Rattle.tv_view.specs.Meaning.{Placed}
use Rattle.tv_machine.specs.Leaves.{PlacedNode}
use Rattle.tv_view.specs.declared.env.Env.{Env}
use Rattle.tv_view.specs.declared.reaction.Reaction.{Reaction}
use Rattle.tv_view.specs.declared.reaction.Reaction.TheVariants as reactions
use Rattle.tv_view.specs.declared.reaction.Reaction.TheVariants.{Pass}
use Rattle.tv_view.specs.Effects.{handled, leaf_keyed}
use Rattle.tv_view.specs.Reactions.{answer, broadcast_answer, keyed_answer}
use Rattle.tv_group.specs.Handling.{seen_through, is_offered, is_pass, placed_answer, placed_after, takes, found_answer, scan_answer}
use Rattle.tv_group.proofs.Tree.FirstLemmas.{AtMostOne, find-only, kept_if}
use Rattle.tv_machine.proofs.ListLemmas.{bool_cases, find-map}

-- ---- events without a place are seen alike everywhere

seen-key : (around : List Rect) (k : Key) → seen_through around (events.Key k) ≡ events.Key k
seen-key [] k = refl
seen-key (bounds ∷ around) k = seen-key around k

seen-command : (around : List Rect) (c : Command) → seen_through around (events.Command c) ≡ events.Command c
seen-command [] c = refl
seen-command (bounds ∷ around) c = seen-command around c

seen-broadcast : (around : List Rect) (c : Command) → seen_through around (events.Broadcast c) ≡ events.Broadcast c
seen-broadcast [] c = refl
seen-broadcast (bounds ∷ around) c = seen-broadcast around c

module _ (p : Phase) (env : Env) (x : Placed) where
  pub key-answer : (k : Key) → placed_answer (events.Key k) p env x ≡ keyed_answer env x.leaf k p
  unfolding answer
  key-answer k = ap (λ e. answer e p env x.leaf) (seen-key x.around k)

  pub key-after : (k : Key) → placed_after (events.Key k) p env x ≡ record x { leaf = leaf_keyed k p x.leaf }
  unfolding handled
  key-after k = ap (λ e. record x { leaf = handled e p env x.leaf }) (seen-key x.around k)

  pub command-answer : (c : Command) → placed_answer (events.Command c) p env x ≡ Pass
  unfolding answer
  command-answer c = ap (λ e. answer e p env x.leaf) (seen-command x.around c)

  pub command-after : (c : Command) → placed_after (events.Command c) p env x ≡ x
  unfolding handled
  command-after c = ap (λ e. record x { leaf = handled e p env x.leaf }) (seen-command x.around c)

  pub broadcast-answer : (c : Command) → placed_answer (events.Broadcast c) p env x ≡ broadcast_answer env x.leaf c
  unfolding answer
  broadcast-answer c = ap (λ e. answer e p env x.leaf) (seen-broadcast x.around c)

  pub broadcast-after : (c : Command) → placed_after (events.Broadcast c) p env x ≡ x
  unfolding handled
  broadcast-after c = ap (λ e. record x { leaf = handled e p env x.leaf }) (seen-broadcast x.around c)

-- ---- the one that takes it

-- what a leaf answers, if it is there and it is its turn
abbrev pub turn_answer : Event → Phase → Env → Option Placed → Reaction
turn_answer e p env None = Pass
turn_answer e p env (Some x) = if is_offered e p x then placed_answer e p env x else Pass

pub passed : (r : Reaction) → is_pass r ≡ true → r ≡ Pass
passed reactions.Pass h = refl
passed reactions.Done h = cc
passed (reactions.Focus i) h = cc
passed (reactions.FocusPress i item) h = cc
passed (reactions.Post i c) h = cc
passed (reactions.Changed i) h = cc
passed (reactions.Capture i) h = cc
passed reactions.Release h = cc

module _ (e : Event) (p : Phase) (env : Env) where
  kept-answer : (o : Option Placed) → found_answer e p env (kept_if (takes e p env) o) ≡ turn_answer e p env o
  kept-answer None = refl
  kept-answer (Some x) = step (is_offered e p x) (is_pass (placed_answer e p env x)) refl
    where
      step : (b passes : Bool) → is_pass (placed_answer e p env x) ≡ passes
          → found_answer e p env (if b && not passes then Some x else None) ≡ (if b then placed_answer e p env x else Pass)
      step true true is = sym (passed (placed_answer e p env x) is)
      step true false is = refl
      step false passes is = refl

  module _ (g : PlacedNode → Placed) where
    kept-mapped : (o : Option PlacedNode)
        → option_map g (kept_if (λ leaf. takes e p env (g leaf)) o) ≡ kept_if (takes e p env) (option_map g o)
    kept-mapped None = refl
    kept-mapped (Some leaf) =
        bool_cases (takes e p env (g leaf)) (λ b. option_map g (if b then Some leaf else None) ≡ (if b then Some (g leaf) else None))
        (λ is. refl) (λ is. refl)

    -- where only those may take it of whom at most one is so, that one answers
    pub scan-turn : (q : PlacedNode → Bool) (leaves : List PlacedNode)
        → ((leaf : PlacedNode) → takes e p env (g leaf) ≡ true → q leaf ≡ true) → AtMostOne q leaves
        → scan_answer e p env (map g leaves) ≡ turn_answer e p env (option_map g (find q leaves))
    scan-turn q leaves implies alone =
        ap (found_answer e p env)
        (find-map g (takes e p env) leaves
        ∙ ap (option_map g) (find-only (λ leaf. takes e p env (g leaf)) q implies leaves alone)
        ∙ kept-mapped (find q leaves))
        ∙ kept-answer (option_map g (find q leaves))
