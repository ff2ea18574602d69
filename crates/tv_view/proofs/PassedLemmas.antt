-- A view that passes an event on stays as it is, once what it answers and becomes is said.
use Rattle.std.proofs.Common.{◌≡◌, ◌∙◌, sym}
use Rattle.tv_event.specs.declared.event.Event.{Event}
use Rattle.tv_event.specs.declared.event.Phase.{Phase}
use Rattle.tv_view.specs.Meaning.{Leaf}
use Rattle.tv_view.specs.declared.env.Env.{Env}
use Rattle.tv_view.specs.declared.reaction.Reaction.{Reaction}
use Rattle.tv_view.specs.Effects.{StaysWherePassed, handled}
use Rattle.tv_view.specs.Reactions.{answer}
use Rattle.tv_view.proofs.PassLemmas.{passed_stays}

pub passed : (e : Event) (p : Phase) (env : Env) (result : Reaction) (before after : Leaf) → result ≡ answer e p env before → after ≡ handled e p env before → StaysWherePassed result before after
passed e p env result before after says becomes pass = becomes ∙ passed_stays e p env before (sym says ∙ pass)
