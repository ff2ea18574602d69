-- Actions, one more: the events among them, the session to which they lead, and how many were refused.
use Rattle.std.proofs.Common.{ℕ, zero, suc, ◌≡◌, ◌+◌, ◌≤◌, arith, Bool, true, false, List, [], ◌∷◌, ◌++◌, Option, None, length, take, drop, refl, ap, subst, ◌∙◌}
use Rattle.std.specs.Prelude.{if◌then◌else◌}
use Rattle.std.specs.List.{list_any}
use Rattle.std.proofs.lemmas.Grind.{flat_map-append}
use Rattle.std.proofs.lemmas.List.{append-nil, drop-append-le, drop_all, length-drop, reverse-append, reverse-reverse, take-append-le}
use Rattle.tv_event.specs.declared.event.Event.{Event as Happening}
use Rattle.tv_machine.specs.Run.{Session, stepped}
use Rattle.tv_model.specs.declared.desc.Desc.{Desc}
use Rattle.tv_play.specs.Edge.{brought}
use Rattle.tv_play.specs.Ends.{event_in, events_in, is_refreshing, reached, session_at}
use Rattle.tv_play.specs.Notes.{refusal_behind, refusal_in, refusal_told, refusal_with, size_after, size_with}
use Rattle.tv_play.specs.Refusals.{is_refused, refusal_of, refusals}
use Rattle.tv_play.specs.Shown.{is_whole}
use Rattle.tv_play.proofs.SessionLemmas.{desc-at, session-push}
use Rattle.tv_terminal.specs.declared.action.Action.{Action}
use Rattle.tv_terminal.specs.declared.action.Size.{Size}
use Rattle.tv_terminal.specs.declared.action.Action.TheVariants.{Event}

-- ---- events

events-more : (d : Desc) (actions : List Action) (a : Action)
    → events_in d (actions ++ a ∷ []) ≡ events_in d actions ++ ((if is_refreshing d a then [] else event_in d a) ++ [])
events-more d actions a = flat_map-append (λ action. if is_refreshing d action then [] else event_in d action) actions (a ∷ [])

pub events-perform : (d : Desc) (actions : List Action) (e : Happening) → is_refreshing d (Event e) ≡ false
    → events_in d (actions ++ Event e ∷ []) ≡ events_in d actions ++ brought d e ∷ []
events-perform d actions e calm =
    events-more d actions (Event e) ∙ ap (λ test. events_in d actions ++ ((if test then [] else brought d e ∷ []) ++ [])) calm

pub events-refresh : (d : Desc) (actions : List Action) (a : Action) → is_refreshing d a ≡ true
    → events_in d (actions ++ a ∷ []) ≡ events_in d actions
events-refresh d actions a asked =
    events-more d actions a ∙ ap (λ test. events_in d actions ++ ((if test then [] else event_in d a) ++ [])) asked
    ∙ append-nil (events_in d actions)

-- ---- sessions

pub reached-perform : (s : Session) (actions : List Action) (e : Happening) → is_refreshing s.desc (Event e) ≡ false
    → reached s (actions ++ Event e ∷ []) ≡ stepped (reached s actions) (brought s.desc e)
reached-perform s actions e calm =
    ap (session_at s) (events-perform s.desc actions e calm) ∙ session-push s (events_in s.desc actions) (brought s.desc e)

pub reached-refresh : (s : Session) (actions : List Action) (a : Action) → is_refreshing s.desc a ≡ true
    → reached s (actions ++ a ∷ []) ≡ reached s actions
reached-refresh s actions a asked = ap (session_at s) (events-refresh s.desc actions a asked)

pub desc-reached : (s : Session) (actions : List Action) → (reached s actions).desc ≡ s.desc
desc-reached s actions = desc-at s (events_in s.desc actions)

-- ---- refusals

pub refusals-push : (s : Session) (events : List Happening) (e : Happening)
    → refusals s (events ++ e ∷ []) ≡ refusals s events + (if is_refused (session_at s events) e then 1 else 0)
refusals-push s [] e = omega arith
refusals-push s (first ∷ events) e = omega (arith, refusals-push (stepped s first) events e)

pub refusals-perform : (s : Session) (actions : List Action) (e : Happening) → is_refreshing s.desc (Event e) ≡ false
    → refusals s (events_in s.desc (actions ++ Event e ∷ []))
    ≡ refusals s (events_in s.desc actions) + (if is_refused (reached s actions) (brought s.desc e) then 1 else 0)
refusals-perform s actions e calm =
    ap (refusals s) (events-perform s.desc actions e calm) ∙ refusals-push s (events_in s.desc actions) (brought s.desc e)

pub refusals-refresh : (s : Session) (actions : List Action) (a : Action) → is_refreshing s.desc a ≡ true
    → refusals s (events_in s.desc (actions ++ a ∷ [])) ≡ refusals s (events_in s.desc actions)
refusals-refresh s actions a asked = ap (refusals s) (events-refresh s.desc actions a asked)

-- ---- what is known of the terminal

pub size-push : (was : Option Size) (actions : List Action) (a : Action) → size_after was (actions ++ a ∷ []) ≡ size_with (size_after was actions) a
size-push was [] a = refl
size-push was (first ∷ actions) a = size-push (size_with was first) actions a

refusal-push : (s : Session) (actions : List Action) (a : Action) → refusal_told s (actions ++ a ∷ []) ≡ refusal_with (reached s actions) a
refusal-push s actions a =
    ap (refusal_behind s) (reverse-append actions (a ∷ []))
    ∙ ap (λ x. refusal_with (reached s x) a) (reverse-reverse actions)

pub refusal-perform : (s : Session) (actions : List Action) (e : Happening) → is_refreshing s.desc (Event e) ≡ false
    → refusal_told s (actions ++ Event e ∷ []) ≡ refusal_of (reached s actions) (stepped (reached s actions) (brought s.desc e)) (brought s.desc e)
refusal-perform s actions e calm =
    refusal-push s actions (Event e)
    ∙ ap (λ (d : Desc). if is_refreshing d (Event e) then None else refusal_of (reached s actions) (stepped (reached s actions) (brought d e)) (brought d e)) (desc-reached s actions)
    ∙ ap (λ test. if test then None else refusal_of (reached s actions) (stepped (reached s actions) (brought s.desc e)) (brought s.desc e)) calm

pub refusal-refresh : (s : Session) (actions : List Action) (a : Action) → is_refreshing s.desc a ≡ true → refusal_told s (actions ++ a ∷ []) ≡ None
refusal-refresh s actions a asked =
    refusal-push s actions a
    ∙ ap (λ test. if test then None else refusal_in (reached s actions) a) (ap (λ (d : Desc). is_refreshing d a) (desc-reached s actions) ∙ asked)

-- ---- frames that paint the whole screen

pub whole-before : (d : Desc) (actions : List Action) (a : Action) (j : ℕ) → j ≤ length actions
    → is_whole d (actions ++ a ∷ []) j ≡ is_whole d actions j
whole-before d actions a zero le = refl
whole-before d actions a (suc i) le =
    ap (λ x. list_any (is_refreshing d) (take 1 x)) (drop-append-le i actions (a ∷ []) (omega arith))
    ∙ ap (list_any (is_refreshing d)) (take-append-le 1 (drop i actions) (a ∷ []) (omega (arith, length-drop i actions)))

or-false : (test : Bool) → list_any (λ (x : Bool). x) (test ∷ []) ≡ test
or-false true = refl
or-false false = refl

suc-is : (n : ℕ) → suc n ≡ n + 1
suc-is n = omega arith

pub whole-last : (d : Desc) (actions : List Action) (a : Action) → is_whole d (actions ++ a ∷ []) (length actions + 1) ≡ is_refreshing d a
whole-last d actions a =
    subst (λ j. is_whole d (actions ++ a ∷ []) j ≡ is_refreshing d a) (suc-is (length actions))
    (ap (λ x. list_any (is_refreshing d) (take 1 x))
    (drop-append-le (length actions) actions (a ∷ []) (omega arith) ∙ ap (λ x. x ++ a ∷ []) (drop_all (length actions) actions (omega arith)))
    ∙ or-false (is_refreshing d a))
