-- What comes of a thing that the user did.
use Rattle.std.proofs.Common.{◌≡◌, Bool, true, false, List, [], ◌∷◌, ◌++◌, Option, None, Result, Ok, Err, refl, sym, ap, subst, ◌∙◌}
use Rattle.tv_terminal.specs.declared.colour.Colours.{Colours}
use Rattle.tv_cells.specs.declared.rect.Rect.{Rect}
use Rattle.tv_event.specs.declared.event.Event.{Event as Happening}
use Rattle.std.specs.Prelude.{MatchResult}
use Rattle.std.proofs.lemmas.List.{append-nil}
use Rattle.std.proofs.lemmas.List.Concat.{flat_map-append}
use Rattle.tv_io.specs.Pen.{PutsBy}
use Rattle.tv_io.specs.Writer.{Cuts, Seen, Takes}
use Rattle.tv_play.proofs.ShownLemmas.{put-then}
use Rattle.tv_io.specs.declared.writer.WriteFailed.{WriteFailed}
use Rattle.tv_machine.specs.Output.{after, output}
use Rattle.tv_machine.specs.Run.{Session, quiet, stepped}
use Rattle.tv_model.specs.declared.desc.Desc.{Desc}
use Rattle.tv_script.specs.Tapes.{event_line, script_text, script_with}
use Rattle.tv_play.specs.Edge.{brought}
use Rattle.tv_play.specs.Ends.{IsTakenFor, events_in, is_finished, is_leaving, reached, script_of}
use Rattle.tv_play.specs.declared.ends.Step.TheVariants as steps
use Rattle.tv_play.specs.Notes.{IsMonitorOf}
use Rattle.tv_play.specs.Shown.{KeepsScreen}
use Rattle.tv_play.specs.declared.monitor.Monitor.{Monitor}
use Rattle.tv_play.specs.Steps.{HasPlayedOut, IsHeard, IsPlaying, HasBeenShown, Outside, TurnsTo, outcome_of, outside}
use Rattle.tv_play.specs.declared.parting.Parting.TheVariants as partings
use Rattle.tv_play.specs.declared.parting.Parting.{Parting}
use Rattle.tv_play.specs.declared.parting.PlayFault.{PlayFault}
use Rattle.tv_play.proofs.HeardLemmas.{heard-last, heard-more}
use Rattle.tv_play.proofs.ActionLemmas.{desc-reached, events-perform, events-refresh, reached-perform, reached-refresh}
use Rattle.tv_play.proofs.SessionLemmas.{after-at, left-event}
use Rattle.tv_terminal.specs.Decoding.{Symbol, decode}
use Rattle.tv_terminal.specs.declared.action.Action.{Action}
use Rattle.tv_terminal.specs.declared.action.Action.TheVariants.{Event}

-- an event and the taking of a log leave the size of the screen
pub size-stepped : (t : Session) (e : Happening) (monitor : Monitor) → IsMonitorOf t.desc monitor → IsMonitorOf (stepped t e).desc monitor
size-stepped t e monitor is = record { width = is.width; height = is.height; window = is.window; filled = is.filled; low = is.low }

pub size-quiet : (t : Session) (monitor : Monitor) → IsMonitorOf t.desc monitor → IsMonitorOf (quiet t).desc monitor
size-quiet t monitor is = record { width = is.width; height = is.height; window = is.window; filled = is.filled; low = is.low }

-- what an event changes of a screen, whose log was taken or not
pub keeps-loud : {rects : List Rect} (t : Session) (e : Happening) → KeepsScreen rects (quiet t) (stepped (quiet t) e) → KeepsScreen rects t (stepped t e)
keeps-loud {rects} t e keeps = record { within = λ column row here. let at = keeps.within column row here in record { across = at.across; down = at.down }; each = λ column row on apart. keeps.each column row (record { across = on.across; down = on.down }) apart }

-- an event's line was put after those of the events before it
taped-event : (a b c : Seen) (t u : Bool) (events : List Happening) (e : Happening) → PutsBy a false b t (script_text events) → PutsBy b t c u (event_line e) → PutsBy a false c u (script_text (events ++ e ∷ []))
taped-event a b c t u events e p q =
    let more : script_text (events ++ e ∷ []) ≡ script_text events ++ event_line e =
    flat_map-append event_line events (e ∷ []) ∙ ap (λ x. script_text events ++ x) (append-nil (event_line e)) in
    subst (PutsBy a false c u) (sym more) (put-then a b c t u (script_text events) (event_line e) p q)

module _ (s : Session) (symbols next : List Symbol) (from old : Outside) (Old : Session → Type 0) (p : IsPlaying s symbols from old Old) where
  pub stands-before : Old (quiet (reached s p.actions))
  stands-before = subst Old (after-at s (events_in s.desc p.actions)) p.performs.left

  pub desc-before : (d : Desc) → ((t : Session) → Old t → d ≡ t.desc) → d ≡ s.desc
  desc-before d is = is (quiet (reached s p.actions)) stands-before ∙ desc-reached s p.actions

  -- the user leaves
  pub leaves : (action : Action) → is_leaving s.desc action ≡ true → decode next ≡ decode symbols ++ action ∷ [] → HasPlayedOut s next from old Old (Ok partings.Left)
  leaves action is means = record {
    actions = p.actions;
    rest = action ∷ [];
    heard = heard-last s symbols next p.actions p.heard p.goes action means;
    shown = p.shown;
    left = p.performs.left;
    taped = p.taped;
    ended = (p.goes, is, p.performs.written, p.going, p.whole);
  }

  -- the screen was painted anew, and the writer failed or didn't
  module _ (a : Action) (taken : IsTakenFor s.desc a steps.Refresh) (means : decode next ≡ decode symbols ++ a ∷ []) (screen : Seen) (monitor : Monitor) where
    abbrev later : Bool → Outside
    later stop = outside old.log screen old.tape stop old.torn monitor

    same-events : events_in s.desc (p.actions ++ a ∷ []) ≡ events_in s.desc p.actions
    same-events = events-refresh s.desc p.actions a taken.1

    written-still : Takes from.log old.log (output s (script_of s.desc (p.actions ++ a ∷ [])))
    written-still = subst (λ x. Takes from.log old.log (output s (script_with x))) (sym same-events) p.performs.written

    taped-still : PutsBy from.tape false old.tape old.torn (script_text (events_in s.desc (p.actions ++ a ∷ [])))
    taped-still = subst (λ x. PutsBy from.tape false old.tape old.torn (script_text x)) (sym same-events) p.taped

    left-still : Old (after s (script_of s.desc (p.actions ++ a ∷ [])))
    left-still = subst (λ x. Old (after s (script_with x))) (sym same-events) p.performs.left

    pub refreshes : (stop : Bool) → HasBeenShown from.monitor.painter.colours s (p.actions ++ a ∷ []) from.screen screen stop monitor
        → (torn : Bool) → old.torn ≡ torn → TurnsTo s next from (later stop) Old (outcome_of false (Ok tt) stop torn)
    refreshes true shown torn same = record {
      actions = p.actions ++ a ∷ [];
      rest = [];
      heard = heard-more s symbols next p.actions p.heard p.goes a taken.0 means;
      shown = shown;
      left = left-still;
      taped = taped-still;
      ended = (written-still, refl);
    }
    refreshes false shown true same = let clash : false ≡ true = sym p.whole ∙ same in absurd cc
    refreshes false shown false same = record {
      actions = p.actions ++ a ∷ [];
      heard = heard-more s symbols next p.actions p.heard p.goes a taken.0 means;
      goes = ap is_finished (reached-refresh s p.actions a taken.1) ∙ p.goes;
      shown = shown;
      performs = record { written = written-still; left = left-still };
      taped = taped-still;
      going = refl;
      whole = p.whole;
    }

  -- an event was performed, brought to the screen
  module _ (now : Outside) (New : Session → Type 0) (told e : Happening) (comes : e ≡ brought s.desc told) (taken : IsTakenFor s.desc (Event told) (steps.Perform told)) (means : decode next ≡ decode symbols ++ Event told ∷ []) (stands : (t : Session) → Old t → New (quiet (stepped t e)))
      (shown : (colours : Colours) (actions : List Action) (from : Seen) → Old (quiet (reached s actions)) → HasBeenShown colours s actions from old.screen old.stopped old.monitor → HasBeenShown colours s (actions ++ Event told ∷ []) from now.screen now.stopped now.monitor)
      (tapes : PutsBy old.tape old.torn now.tape now.torn (event_line e)) where
    abbrev more : List Action
    more = p.actions ++ Event told ∷ []

    pushed : events_in s.desc more ≡ events_in s.desc p.actions ++ e ∷ []
    pushed = events-perform s.desc p.actions told taken.2 ∙ ap (λ x. events_in s.desc p.actions ++ x ∷ []) (sym comes)

    taped : PutsBy from.tape false now.tape now.torn (script_text (events_in s.desc more))
    taped = subst (λ x. PutsBy from.tape false now.tape now.torn (script_text x)) (sym pushed) (taped-event from.tape old.tape now.tape old.torn now.torn (events_in s.desc p.actions) e p.taped tapes)

    heard : IsHeard s next more []
    heard = heard-more s symbols next p.actions p.heard p.goes (Event told) taken.1 means

    left : New (after s (script_of s.desc more))
    left = subst (λ x. New (after s (script_with x))) (sym pushed) (left-event New s (events_in s.desc p.actions) e (stands (quiet (reached s p.actions)) stands-before))

    shows : HasBeenShown from.monitor.painter.colours s more from.screen now.screen now.stopped now.monitor
    shows = shown from.monitor.painter.colours p.actions from.screen stands-before p.shown

    finished-by : (answer b : Bool) → ((t : Session) → Old t → answer ≡ is_finished (stepped t e)) → answer ≡ b → is_finished (reached s more) ≡ b
    finished-by answer b is same = ap is_finished (reached-perform s p.actions told taken.2 ∙ ap (stepped (reached s p.actions)) (sym comes)) ∙ sym (is (quiet (reached s p.actions)) stands-before) ∙ same

    abbrev pub Logged : Result (Unit {0}) WriteFailed → List Happening → Type 0
    Logged written events = MatchResult written (λ _. Takes from.log now.log (output s (script_with events))) (λ _. Cuts from.log now.log (output s (script_with events)))

    turns-by : (answer : Bool) → ((t : Session) → Old t → answer ≡ is_finished (stepped t e)) → (written : Result (Unit {0}) WriteFailed) → (stop torn : Bool) → now.stopped ≡ stop → now.torn ≡ torn
        → Logged written (events_in s.desc more) → TurnsTo s next from now New (outcome_of answer written stop torn)
    turns-by answer is (Err failed) stop torn same alike cut = record { actions = more; rest = []; heard = heard; shown = shows; left = left; taped = taped; ended = cut }
    turns-by answer is (Ok written) true torn same alike takes = record { actions = more; rest = []; heard = heard; shown = shows; left = left; taped = taped; ended = (takes, same) }
    turns-by answer is (Ok written) false true same alike takes = record { actions = more; rest = []; heard = heard; shown = shows; left = left; taped = taped; ended = (takes, same, alike) }
    turns-by true is (Ok written) false false same alike takes = record { actions = more; rest = []; heard = heard; shown = shows; left = left; taped = taped; ended = (finished-by true true is refl, takes, same, alike) }
    turns-by false is (Ok written) false false same alike takes = record {
      actions = more;
      heard = heard;
      goes = finished-by false false is refl;
      shown = shows;
      performs = record { written = takes; left = left };
      taped = taped;
      going = same;
      whole = alike;
    }

    -- what came of the run with it
    pub turns : (answer : Bool) → ((t : Session) → Old t → answer ≡ is_finished (stepped t e)) → (written : Result (Unit {0}) WriteFailed) → (stop torn : Bool) → now.stopped ≡ stop → now.torn ≡ torn
        → Logged written (events_in s.desc p.actions ++ e ∷ []) → TurnsTo s next from now New (outcome_of answer written stop torn)
    turns answer is written stop torn same alike logged = turns-by answer is written stop torn same alike (subst (Logged written) (sym pushed) logged)

-- a run goes on only where the screen and the tape could be written
pub going-both : (answer : Bool) (written : Result (Unit {0}) WriteFailed) (stop torn : Bool) → outcome_of answer written stop torn ≡ None → (stop ≡ false) × (torn ≡ false)
going-both answer (Err failed) stop torn none = absurd cc
going-both answer (Ok written) true torn none = absurd cc
going-both answer (Ok written) false true none = absurd cc
going-both answer (Ok written) false false none = (refl, refl)

-- the same, where an answer is the one
pub turns-told : (s : Session) (next : List Symbol) (from now : Outside) (New : Session → Type 0) {told result : Option (Result Parting PlayFault)} → result ≡ told → TurnsTo s next from now New told → TurnsTo s next from now New result
turns-told s next from now New same turns = subst (TurnsTo s next from now New) (sym same) turns
