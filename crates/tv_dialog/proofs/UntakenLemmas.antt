-- An event in a phase in which no view may take it.
use Rattle.std.proofs.Common.{◌≡◌, false, List, Option, Some, None, is_some, refl}
use Rattle.tv_event.specs.declared.event.Event.{Event}
use Rattle.tv_event.specs.declared.event.Event.TheVariants as events
use Rattle.tv_event.specs.declared.event.Key.{Key}
use Rattle.tv_event.specs.declared.event.Phase.{Phase}
use Rattle.tv_event.specs.declared.event.Phase.TheVariants as phases
use Rattle.tv_view.specs.Meaning.{Placed}
use Rattle.tv_view.specs.Reactions.{calling_letter}
use Rattle.tv_view.specs.declared.env.Env.{Env}
use Rattle.tv_view.specs.declared.reaction.Reaction.TheVariants.{Pass}
use Rattle.tv_group.specs.Handling.{group_after, group_answer}
use Rattle.tv_group.proofs.Tree.Keys.QuietLemmas.{after-key, after-none, before-key, before-none}
use Rattle.tv_dialog.specs.Settling.{may_call, may_take}

nothing-there : {A : Type 0} (o : Option A) → is_some o ≡ false → o ≡ None
nothing-there None e = refl
nothing-there (Some x) e = absurd cc

key-answer : (k : Key) (p : Phase) (env : Env) (xs : List Placed) → may_call k p ≡ false → group_answer (events.Key k) p env xs ≡ Pass
key-answer k phases.Pre env xs none = before-none k env xs (nothing-there (calling_letter phases.Pre k) none)
key-answer k phases.Focused env xs none = absurd cc
key-answer k phases.Post env xs none = after-none k env xs (nothing-there (calling_letter phases.Post k) none)

key-after : (k : Key) (p : Phase) (env : Env) (xs : List Placed) → may_call k p ≡ false → group_after (events.Key k) p env xs ≡ xs
key-after k phases.Pre env xs none = before-key k env xs
key-after k phases.Focused env xs none = absurd cc
key-after k phases.Post env xs none = after-key k env xs

-- none answers
pub untaken-answer : (e : Event) (p : Phase) (env : Env) (xs : List Placed) → may_take e p ≡ false → group_answer e p env xs ≡ Pass
untaken-answer (events.Key k) p env xs none = key-answer k p env xs none
untaken-answer _ p env xs none = absurd cc

-- and none changes
pub untaken-after : (e : Event) (p : Phase) (env : Env) (xs : List Placed) → may_take e p ≡ false → group_after e p env xs ≡ xs
untaken-after (events.Key k) p env xs none = key-after k p env xs none
untaken-after _ p env xs none = absurd cc
