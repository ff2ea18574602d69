-- What is heard of a user can be said by a script.
use Rattle.std.proofs.Common.{◌≡◌, ℤ, pos, negsuc, ◌≤ℤ◌, ◌<ℤ◌, ◌-◌, int_lt, Bool, true, false, cond, List, [], ◌∷◌, ◌++◌, Option, Some, None, refl, subst, arith}
use Rattle.std.specs.Prelude.{FitsSigned, IfSome}
use Rattle.std.specs.Int.{w32}
use Rattle.std.specs.List.{AllByRecursion}
use Rattle.std.proofs.lemmas.Int.{ints}
use Rattle.tv_cells.specs.declared.rect.Point.{Point}
use Rattle.tv_event.specs.declared.event.Event.{Event as Happening}
use Rattle.tv_event.specs.declared.event.Event.TheVariants as events
use Rattle.tv_event.specs.declared.event.Key.{Key}
use Rattle.tv_event.specs.declared.event.Key.TheVariants as keys
use Rattle.tv_model.specs.Description.Numbers.{natural}
use Rattle.tv_model.specs.declared.desc.Desc.{Desc}
use Rattle.tv_play.specs.Edge.{brought, nearest, nearest_point, top_left}
use Rattle.tv_play.specs.Ends.{event_in, events_in, is_refreshing}
use Rattle.tv_play.specs.Taped.{HeardCanBeSaid}
use Rattle.tv_play.proofs.EdgeLemmas.{le-holds, lt-holds, lt-says, nearest-placed}
use Rattle.tv_script.specs.Lines.{is_on_axis, is_point_within}
use Rattle.tv_script.specs.Tapes.{IsPointOf, IsSayable, IsSayableKey}
use Rattle.tv_terminal.proofs.SentLemmas.{byte_is_sent, pause_is_sent}
use Rattle.tv_terminal.specs.Decoding.{Listening, Symbol, Byte, Pause, at_pause, before, between, decode_after, heard, heard_at_pause, left_by}
use Rattle.tv_terminal.specs.Points.{HasPlaces, IsMousePlace}
use Rattle.tv_terminal.specs.Sent.{IsSent, IsSentAction, IsSentKey}
use Rattle.tv_terminal.specs.declared.action.Action.{Action}
use Rattle.tv_terminal.specs.declared.action.Action.TheVariants.{Event, Quit, Ready, Resized}

-- ---- what is heard was sent

before-sent : (o : Option Action) (rest : List Action) → IfSome o IsSentAction → AllByRecursion IsSentAction rest → AllByRecursion IsSentAction (before o rest)
before-sent None rest first others = others
before-sent (Some action) rest first others = (first, others)

decoded-sent : (l : Listening) (symbols : List Symbol) → AllByRecursion IsSentAction (decode_after l symbols)
decoded-sent l [] = tt
decoded-sent l (Byte b ∷ symbols) = before-sent (heard l b) (decode_after (left_by l b) symbols) (byte_is_sent l b (heard l b) refl) (decoded-sent (left_by l b) symbols)
decoded-sent l (Pause ∷ symbols) =
    before-sent (heard_at_pause l) (decode_after (between l.is_pasting) symbols) (pause_is_sent l.is_pasting l.bytes (at_pause l.bytes) (heard_at_pause l) refl refl) (decoded-sent (between l.is_pasting) symbols)

first-sent : (actions rest : List Action) → AllByRecursion IsSentAction (actions ++ rest) → AllByRecursion IsSentAction actions
first-sent [] rest all = tt
first-sent (action ∷ actions) rest all = (all.0, first-sent actions rest all.1)

-- ---- what was sent can be said

key-sayable : (key : Key) → IsSentKey key → IsSayableKey key
key-sayable keys.Tab is = is
key-sayable keys.ShiftTab is = is
key-sayable keys.Enter is = is
key-sayable keys.Esc is = is
key-sayable keys.Up is = is
key-sayable keys.Down is = is
key-sayable keys.Left is = is
key-sayable keys.Right is = is
key-sayable keys.Home is = is
key-sayable keys.End is = is
key-sayable keys.PageUp is = is
key-sayable keys.PageDown is = is
key-sayable keys.CtrlPageUp is = is
key-sayable keys.CtrlPageDown is = is
key-sayable keys.Backspace is = is
key-sayable keys.Delete is = is
key-sayable keys.Insert is = is
key-sayable (keys.Ctrl letter) is = is
key-sayable (keys.Function number) is = is
key-sayable (keys.Alt ch) is = is
key-sayable (keys.Char ch) is = is

place-number : (z : ℤ) → IsMousePlace z → FitsSigned w32 z
place-number (pos n) is = record { sfits = omega (arith, ints, is.high) }
place-number (negsuc n) is = absurd (omega (arith, ints, is.low))

on-axis : (size at : ℤ) → pos 0 ≤ℤ at → at <ℤ size → is_on_axis size at ≡ true
on-axis size at low high = rw (le-holds (pos 0) at low, lt-holds at size high) refl

last-on : (size at : ℤ) (b : Bool) → (b ≡ true → at <ℤ size) → pos 1 ≤ℤ size → pos 0 ≤ℤ at → is_on_axis size (cond b at (pos (natural size - 1))) ≡ true
last-on size at true test some low = on-axis size at low (test refl)
last-on (pos n) at false test some low = on-axis (pos n) (pos (n - 1)) (omega (arith, ints)) (omega (arith, ints, some))
last-on (negsuc n) at false test some low = absurd (omega (arith, ints, some))

nearest-on : (size at : ℤ) → pos 1 ≤ℤ size → IsMousePlace at → is_on_axis size (nearest size at) ≡ true
nearest-on size at some is = last-on size at (int_lt at size) (lt-says at size) some is.low

module _ (d : Desc) (columns : pos 1 ≤ℤ d.width) (rows : pos 1 ≤ℤ d.height) where
  nearest-point-of : (p : Point) → HasPlaces p → IsPointOf d.width d.height (nearest_point d p)
  nearest-point-of p h = (
    (place-number (nearest d.width p.x) (nearest-placed d.width p.x h.x), place-number (nearest d.height p.y) (nearest-placed d.height p.y h.y)),
    rw (nearest-on d.width p.x columns h.x, nearest-on d.height p.y rows h.y) refl,
  )

  pressed-point-of : (b : Bool) (p : Point) → is_point_within d.width d.height p ≡ b → HasPlaces p → IsPointOf d.width d.height (cond b p top_left)
  pressed-point-of true p e h = ((place-number p.x h.x, place-number p.y h.y), e)
  pressed-point-of false p e h = (
    (record { sfits = omega (arith, ints) }, record { sfits = omega (arith, ints) }),
    rw (on-axis d.width (pos 0) (omega (arith, ints)) (omega (arith, ints, columns)), on-axis d.height (pos 0) (omega (arith, ints)) (omega (arith, ints, rows))) refl,
  )

  brought-sayable : (e : Happening) → IsSent e → IsSayable d.width d.height (brought d e)
  brought-sayable (events.Key key) sent = key-sayable key sent
  brought-sayable (events.Down p) sent = pressed-point-of (is_point_within d.width d.height p) p refl sent
  brought-sayable (events.Move p) sent = nearest-point-of p sent
  brought-sayable (events.Up p) sent = nearest-point-of p sent
  brought-sayable (events.Command command) sent = absurd sent
  brought-sayable (events.Broadcast command) sent = absurd sent

  one-sayable : (b : Bool) (action : Action) (rest : List Happening) → IsSentAction action → AllByRecursion (IsSayable d.width d.height) rest → AllByRecursion (IsSayable d.width d.height) (cond b [] (event_in d action) ++ rest)
  one-sayable true action rest sent all = all
  one-sayable false (Event e) rest sent all = (brought-sayable e sent, all)
  one-sayable false Quit rest sent all = all
  one-sayable false Ready rest sent all = all
  one-sayable false (Resized size) rest sent all = all

  events-sayable : (actions : List Action) → AllByRecursion IsSentAction actions → AllByRecursion (IsSayable d.width d.height) (events_in d actions)
  events-sayable [] sent = tt
  events-sayable (action ∷ actions) sent = one-sayable (is_refreshing d action) action (events_in d actions) sent.0 (events-sayable actions sent.1)

-- the events of what was heard
pub heard-sayable : HeardCanBeSaid
heard-sayable s symbols actions rest columns rows heard =
    events-sayable s.desc columns rows actions (first-sent actions rest (subst (AllByRecursion IsSentAction) heard.parts (decoded-sent (between false) symbols)))
