-- Sessions, one event more, and what is written of them.
use Rattle.std.proofs.Common.{◌≡◌, ℕ, List, [], ◌∷◌, ◌++◌, Result, Ok, Err, refl, sym, ap, subst, ◌∙◌, append_assoc}
use Rattle.std.proofs.lemmas.List.{map-append}
use Rattle.tv_event.specs.declared.event.Event.{Event}
use Rattle.std.specs.Prelude.{MatchResult}
use Rattle.tv_io.specs.Writer.{Cuts, Seen, Takes}
use Rattle.tv_io.specs.declared.writer.WriteFailed.{WriteFailed}
use Rattle.tv_io.proofs.WriterLemmas.{Cuts-after, Cuts-along, Takes-then}
use Rattle.tv_machine.specs.Output.{after, event_text, item_text, output, session_after}
use Rattle.tv_machine.specs.Run.{Session, quiet, stepped}
use Rattle.tv_model.specs.Log.LogText.{log_text}
use Rattle.tv_machine.specs.declared.script.Item.{Item}
use Rattle.tv_machine.specs.declared.script.Item.TheVariants as items
use Rattle.tv_play.specs.Ends.{session_at}
use Rattle.tv_script.specs.Tapes.{script_with}
use Rattle.tv_script.proofs.RunLemmas.{states-push, texts-push}

pub session-push : (s : Session) (events : List Event) (e : Event) → session_at s (events ++ e ∷ []) ≡ stepped (session_at s events) e
session-push s events e = states-push stepped s events e

pub desc-at : (s : Session) (events : List Event) → (session_at s events).desc ≡ s.desc
desc-at s [] = refl
desc-at s (e ∷ events) = desc-at (stepped s e) events

-- the session that a script of events leaves
pub after-at : (s : Session) (events : List Event) → after s (script_with events) ≡ quiet (session_at s events)
after-at s [] = refl
after-at s (e ∷ events) = after-at (stepped s e) events

script-push : (events : List Event) (e : Event) → script_with (events ++ e ∷ []) ≡ script_with events ++ items.Event e ∷ []
script-push events e = map-append items.Event events (e ∷ [])

output-push : (s : Session) (script : List Item) (item : Item) → output s (script ++ item ∷ []) ≡ output s script ++ item_text (after s script) item
output-push s script item =
    ap (λ (x : List ℕ). log_text s.desc s.state.log ++ x) (texts-push session_after item_text (quiet s) script item)
    ∙ sym (append_assoc (log_text s.desc s.state.log) _ _)

pub output-event : (s : Session) (events : List Event) (e : Event) → output s (script_with (events ++ e ∷ [])) ≡ output s (script_with events) ++ event_text (after s (script_with events)) e
output-event s events e = ap (output s) (script-push events e) ∙ output-push s (script_with events) (items.Event e)

-- an event's log was written after that of those before it, or a part of it
module _ {a b c : Seen} (s : Session) (events : List Event) (e : Event) where
  pub takes-event : Takes a b (output s (script_with events)) → Takes b c (event_text (after s (script_with events)) e) → Takes a c (output s (script_with (events ++ e ∷ [])))
  takes-event p q = subst (Takes a c) (sym (output-event s events e)) (Takes-then _ _ p q)

  pub cuts-event : Takes a b (output s (script_with events)) → Cuts b c (event_text (after s (script_with events)) e) → Cuts a c (output s (script_with (events ++ e ∷ [])))
  cuts-event p q = Cuts-along (sym (output-event s events e)) (Cuts-after _ _ p q)

-- the same by whether it was written
pub logged-event : (from old new : Seen) (s : Session) (events : List Event) (e : Event) (written : Result (Unit {0}) WriteFailed) → Takes from old (output s (script_with events))
    → MatchResult written (λ _. Takes old new (event_text (after s (script_with events)) e)) (λ _. Cuts old new (event_text (after s (script_with events)) e))
    → MatchResult written (λ _. Takes from new (output s (script_with (events ++ e ∷ [])))) (λ _. Cuts from new (output s (script_with (events ++ e ∷ []))))
logged-event from old new s events e (Ok x) p q = takes-event s events e p q
logged-event from old new s events e (Err x) p q = cuts-event s events e p q

-- the session that is left after one event more
pub left-event : (Left : Session → Type 0) (s : Session) (events : List Event) (e : Event) → Left (quiet (stepped (session_at s events) e)) → Left (after s (script_with (events ++ e ∷ [])))
left-event Left s events e left = subst Left (ap quiet (sym (session-push s events e)) ∙ sym (after-at s (events ++ e ∷ []))) left
