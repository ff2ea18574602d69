-- What a program's run comes to, with its input and its end.
use Rattle.std.proofs.Common.{◌≡◌, ℕ, ◌+◌, ◌≤◌, Bool, true, false, inl, inr, List, [], ◌∷◌, ◌++◌, map, length, length-append, arith, Some, None, Result, Ok, Err, refl, sym, ap, subst, ◌∙◌}
use Rattle.std.proofs.lemmas.List.{append-nil}
use Rattle.tv_app.specs.declared.app.App.{App}
use Rattle.tv_io.specs.Pen.{PutsBy}
use Rattle.tv_io.specs.Writer.{Seen}
use Rattle.tv_live.specs.Course.{Cause, Does, Moment, Promise, Turns, causes_of, symbols_in_all}
use Rattle.tv_live.specs.Host.{CameTo, HasLived, HasRun, IsEndedBy, IsLiving, Scene, SeesTo, place_in, place_with, told_with}
use Rattle.tv_live.specs.Living.{ComesOf, Lives, LivesTo, Place}
use Rattle.tv_live.specs.Shown.{HasBeenShown, text}
use Rattle.tv_live.proofs.CourseLemmas.{symbols-more, turn-more}
use Rattle.tv_live.proofs.ShownLemmas.{restores}
use Rattle.tv_machine.specs.Run.{Session}
use Rattle.tv_play.specs.Pieces.{ComesNot, FitsRoom, HasCome, Heard, symbols_in}
use Rattle.tv_play.specs.Playing.{IsShownBefore, IsShownOut, IsWrittenOrCut}
use Rattle.tv_play.specs.Steps.{IsAtEnd}
use Rattle.tv_play.specs.declared.parting.Parting.{Parting}
use Rattle.tv_play.specs.declared.parting.Parting.TheVariants as partings
use Rattle.tv_play.specs.declared.parting.PlayFault.{PlayFault}
use Rattle.tv_play.specs.declared.parting.PlayFault.TheVariants as faults
use Rattle.tv_play.specs.declared.pieces.Piece.{Piece}
use Rattle.tv_play.proofs.PlayLemmas.{come-then, some-symbols}
use Rattle.tv_play.proofs.ShownLemmas.{put-still, put-then, stays-stopped}
use Rattle.tv_terminal.specs.Decoding.{Listening, Symbol, between, decode_after, left_after}
use Rattle.tv_terminal.specs.Written.{end_bytes}
use Rattle.tv_terminal.specs.declared.colour.Colours.{Colours}

-- ---- the loop

-- a piece or the turn behind it ended it
came-by : {P : Type 0} (symbols : List Symbol) (input later : Heard) (stopped : Bool) (now : Moment P) (rest : List Cause) (outcome : Result Parting PlayFault) → HasCome input later symbols → IsEndedBy now rest stopped outcome → CameTo symbols now rest input later stopped outcome
came-by symbols input later stopped now rest (Ok partings.Over) come ended = (come, ended)
came-by symbols input later stopped now rest (Ok partings.Left) come ended = (come, ended)
came-by symbols input later stopped now rest (Ok partings.Ended) come ended = absurd ended
came-by symbols input later stopped now rest (Err faults.NoMemory) come ended = (come, ended)
came-by symbols input later stopped now rest (Err faults.Read) come ended = absurd ended
came-by symbols input later stopped now rest (Err faults.Log) come ended = (come, ended)
came-by symbols input later stopped now rest (Err faults.Screen) come ended = (come, ended)
came-by symbols input later stopped now rest (Err faults.Tape) come ended = (come, ended)

module _ {P : Type 0} {makes : Promise P} {colours : Colours} {program : P} {s : Session} {from : Seen} (pieces : List (List Symbol)) (input later : Heard) (scene : Scene P) where
  pub run-by : (outcome : Result Parting PlayFault) → HasCome input later (symbols_in_all pieces) → HasLived makes colours program s from (causes_of pieces) scene outcome → HasRun makes colours program s from input later scene outcome
  run-by outcome come l = record {
    pieces = pieces;
    first = l.first;
    rest = l.rest;
    parts = l.parts;
    now = l.now;
    earlier = l.earlier;
    done = l.done;
    came = came-by (symbols_in_all pieces) input later scene.stopped l.now l.rest outcome come l.ended;
    passed = λ unread. absurd (subst (IsEndedBy l.now l.rest scene.stopped) unread l.ended);
  }

  -- its input ended
  pub run-ended : HasCome input later (symbols_in_all pieces) → IsAtEnd later (symbols_in_all pieces) → IsLiving makes colours program s from (causes_of pieces) scene → HasRun makes colours program s from input later scene (Ok partings.Ended)
  run-ended come at_end l = record {
    pieces = pieces;
    first = causes_of pieces;
    rest = [];
    parts = sym (append-nil (causes_of pieces));
    now = l.now;
    earlier = l.earlier;
    done = l.done;
    came = (come, l.goes, refl, at_end, l.going);
    passed = λ unread. absurd cc;
  }

  -- its input failed
  pub run-unread : (mid : Heard) → HasCome input mid (symbols_in_all pieces) → ComesNot mid later → scene.screen.kept ≡ [] → IsLiving makes colours program s from (causes_of pieces) scene → HasRun makes colours program s from input later scene (Err faults.Read)
  run-unread mid come failed none l = record {
    pieces = pieces;
    first = causes_of pieces;
    rest = [];
    parts = sym (append-nil (causes_of pieces));
    now = l.now;
    earlier = l.earlier;
    done = l.done;
    came = ((mid, come, failed), l.goes, refl, l.going);
    passed = λ unread. none;
  }

-- one piece more
pub came-more : (pieces : List (List Symbol)) (piece : List Symbol) (input mid later : Heard) → HasCome input mid (symbols_in_all pieces) → HasCome mid later piece → HasCome input later (symbols_in_all (pieces ++ piece ∷ []))
came-more pieces piece input mid later came comes = subst (HasCome input later) (sym (symbols-more pieces piece)) (come-then (symbols_in_all pieces) piece came comes)

-- with the turn behind it
module _ {P : Type 0} {makes : Promise P} (pieces : List (List Symbol)) (piece : List Symbol) (l : Listening) (is : l ≡ left_after (between false) (symbols_in_all pieces)) (input mid later : Heard) (came : HasCome input mid (symbols_in_all pieces)) (comes : HasCome mid later piece) (old scene : Scene P) where
  pub run-turned : (colours : Colours) (program : P) (s : Session) (from : Seen) (outcome : Result Parting PlayFault) → SeesTo makes old scene (map Does (decode_after l piece) ++ Turns ∷ []) (Some outcome) → IsLiving makes colours program s from (causes_of pieces) old → HasRun makes colours program s from input later scene outcome
  run-turned colours program s from outcome sees living =
      run-by (pieces ++ piece ∷ []) input later scene outcome (came-more pieces piece input mid later came comes)
      (subst (λ x. HasLived makes colours program s from x scene outcome) (turn-more pieces piece l is) (sees colours program s from (causes_of pieces) living))

  pub living-turned : (colours : Colours) (program : P) (s : Session) (from : Seen) → SeesTo makes old scene (map Does (decode_after l piece) ++ Turns ∷ []) None → IsLiving makes colours program s from (causes_of pieces) old → IsLiving makes colours program s from (causes_of (pieces ++ piece ∷ [])) scene
  living-turned colours program s from sees living =
      subst (λ x. IsLiving makes colours program s from x scene) (turn-more pieces piece l is) (sees colours program s from (causes_of pieces) living)

-- so many symbols more
pub many-more : (pieces : List (List Symbol)) (piece : Piece) (room : List ℕ) (turn : ℕ) → FitsRoom piece room → turn ≤ length (symbols_in_all pieces) → turn + 1 ≤ length (symbols_in_all (pieces ++ symbols_in piece room ∷ []))
many-more pieces piece room turn within many =
    let some = some-symbols piece room within in
    let count = ap length (symbols-more pieces (symbols_in piece room)) ∙ length-append (symbols_in_all pieces) (symbols_in piece room) in
    omega (arith, some, count, many)

-- what was written is passed on, or the writer failed at that
abbrev pub passed : {P : Type 0} → Scene P → Seen → Bool → Scene P
passed scene screen stopped = record { app = scene.app; program = scene.program; painter = scene.painter; size = scene.size; screen = screen; stopped = stopped }

module _ {P : Type 0} {makes : Promise P} {colours : Colours} {program : P} {s : Session} {from : Seen} (causes : List Cause) (scene : Scene P) (screen : Seen) (stopped : Bool) (put : PutsBy scene.screen scene.stopped screen stopped []) where
  still : (l : IsLiving makes colours program s from causes scene) → HasBeenShown colours s.desc (l.now ∷ l.earlier) from screen stopped scene.painter
  still l = record {
    same = l.done.shown.same;
    shows = l.done.shown.shows;
    right = l.done.shown.right;
    put = put-still from scene.screen screen scene.stopped stopped (text (l.now ∷ l.earlier)) l.done.shown.put put;
  }

  pub living-passed : stopped ≡ false → IsLiving makes colours program s from causes scene → IsLiving makes colours program s from causes (passed scene screen stopped)
  living-passed going l = record {
    now = l.now;
    earlier = l.earlier;
    done = record { course = l.done.course; all = l.done.all; here = l.done.here; left = l.done.left; size = l.done.size; painter = l.done.painter; shown = still l };
    goes = l.goes;
    going = going;
  }

  pub lived-unpassed : stopped ≡ true → IsLiving makes colours program s from causes scene → HasLived makes colours program s from causes (passed scene screen stopped) (Err faults.Screen)
  lived-unpassed failed l = record {
    first = causes;
    rest = [];
    parts = sym (append-nil causes);
    now = l.now;
    earlier = l.earlier;
    done = record { course = l.done.course; all = l.done.all; here = l.done.here; left = l.done.left; size = l.done.size; painter = l.done.painter; shown = still l };
    ended = failed;
  }

-- ---- the end

ended-by : (from last : Seen) (stop : Bool) → PutsBy from false last stop end_bytes → (stop ≡ false → last.kept ≡ []) → IsWrittenOrCut from last end_bytes
ended-by from last true put none = inr put
ended-by from last false put none = inl (record { takes = put; none = none refl })

-- what was shown was passed on before the end was written
shown-out : (old screen mid last : Seen) (shown : List ℕ) (stopped between stop : Bool) → stopped ≡ false → screen.kept ≡ [] → PutsBy old false screen stopped shown → PutsBy screen stopped mid between end_bytes → PutsBy mid between last stop [] → (stop ≡ false → last.kept ≡ []) → IsShownOut old screen last shown
shown-out old screen mid last shown true between stop going clear put ends passes none = absurd cc
shown-out old screen mid last shown false between stop going clear put ends passes none = record {
  passed = record { takes = put; none = clear };
  ended = ended-by screen last stop (put-still screen mid last between stop end_bytes ends passes) none;
}

comes : {P : Type 0} (symbols : List Symbol) (now : Moment P) (rest : List Cause) (shown : List ℕ) (old new : Place P) (screen : Seen) (stopped stop : Bool) (outcome : Result Parting PlayFault) → CameTo symbols now rest old.input new.input stopped outcome → PutsBy old.screen false new.screen stop (shown ++ end_bytes) → (stop ≡ false → new.screen.kept ≡ []) → (stopped ≡ true → stop ≡ true) → (outcome ≡ Err faults.Read → IsShownOut old.screen screen new.screen shown)
    → ComesOf symbols now rest shown old new (told_with outcome stop)
comes symbols now rest shown old new screen stopped true (Ok partings.Over) came put none stays out = (came.0, put)
comes symbols now rest shown old new screen stopped false (Ok partings.Over) came put none stays out = (came.0, record { takes = put; none = none refl }, came.1.0)
comes symbols now rest shown old new screen stopped true (Ok partings.Left) came put none stays out = (came.0, put)
comes symbols now rest shown old new screen stopped false (Ok partings.Left) came put none stays out = (came.0, record { takes = put; none = none refl }, (came.1.0, came.1.1))
comes symbols now rest shown old new screen stopped true (Ok partings.Ended) came put none stays out = (came.0, put)
comes symbols now rest shown old new screen stopped false (Ok partings.Ended) came put none stays out = (came.0, record { takes = put; none = none refl }, (came.1, came.2, came.3))
comes symbols now rest shown old new screen stopped stop (Err faults.Read) came put none stays out = (came.0, came.1, came.2, (screen, out refl))
comes symbols now rest shown old new screen stopped true (Err faults.Screen) came put none stays out = (came.0, put)
comes symbols now rest shown old new screen stopped false (Err faults.Screen) came put none stays out = let yes : false ≡ true = stays came.1 in absurd cc
comes symbols now rest shown old new screen stopped stop (Err faults.NoMemory) came put none stays out = absurd came.1
comes symbols now rest shown old new screen stopped stop (Err faults.Log) came put none stays out = absurd came.1
comes symbols now rest shown old new screen stopped stop (Err faults.Tape) came put none stays out = absurd came.1

-- the end was written and passed on too
pub lives : {P : Type 0} {makes : Promise P} {colours : Colours} {s : Session} (input later : Heard) (old scene : Scene P) (mid last : Seen) (between stop : Bool) (outcome result : Result Parting PlayFault) → HasRun makes colours old.program s old.screen input later scene outcome
    → PutsBy scene.screen scene.stopped mid between end_bytes → PutsBy mid between last stop [] → (stop ≡ false → last.kept ≡ []) → result ≡ told_with outcome stop
    → Lives makes colours s (place_in input old) (place_with scene.app scene.program later last) result
lives {P} {makes} {colours} {s} input later old scene mid last between stop outcome result run ends passes none is =
    let moments = run.now ∷ run.earlier in
    let put = put-still old.screen mid last between stop (text moments ++ end_bytes) (put-then old.screen scene.screen mid scene.stopped between (text moments) end_bytes run.done.shown.put ends) passes in
    let out : outcome ≡ Err faults.Read → IsShownOut old.screen scene.screen last (text moments)
    = λ read. shown-out old.screen scene.screen mid last (text moments) scene.stopped between stop
    (subst (CameTo (symbols_in_all run.pieces) run.now run.rest input later scene.stopped) read run.came).3 (run.passed read) run.done.shown.put ends passes none in
    let stays : scene.stopped ≡ true → stop ≡ true = λ yes. stays-stopped mid last between stop [] passes (stays-stopped scene.screen mid scene.stopped between end_bytes ends yes) in
    record {
      pieces = run.pieces;
      now = run.now;
      earlier = run.earlier;
      rest = run.rest;
      course = run.done.course;
      causes = run.parts ∙ ap (λ x. x ++ run.rest) run.done.all;
      app = run.done.here;
      program = run.done.left;
      shows = run.done.shown.shows;
      restores = restores s.desc moments run.done.shown.shows;
      comes = subst (ComesOf (symbols_in_all run.pieces) run.now run.rest (text moments) (place_in input old) (place_with scene.app scene.program later last)) (sym is)
          (comes (symbols_in_all run.pieces) run.now run.rest (text moments) (place_in input old) (place_with scene.app scene.program later last) scene.screen scene.stopped stop outcome run.came put none stays out);
    }

-- a failed read came after all was passed on that was shown
told-shown : {T : Type 0} (seen : T → Seen) (old last : Seen) (outcome : Result Parting PlayFault) (stop : Bool) → (outcome ≡ Err faults.Read → IsShownBefore seen old last (Err faults.Read)) → IsShownBefore seen old last (told_with outcome stop)
told-shown seen old last (Ok parting) true read = tt
told-shown seen old last (Ok parting) false read = tt
told-shown seen old last (Err faults.Read) stop read = read refl
told-shown seen old last (Err faults.NoMemory) stop read = tt
told-shown seen old last (Err faults.Log) stop read = tt
told-shown seen old last (Err faults.Screen) stop read = tt
told-shown seen old last (Err faults.Tape) stop read = tt

pub shown-before : {P T : Type 0} {makes : Promise P} {colours : Colours} {s : Session} (seen : T → Seen) (before : T) (input later : Heard) (old scene : Scene P) (mid last : Seen) (between stop : Bool) (outcome result : Result Parting PlayFault) → seen before ≡ scene.screen → HasRun makes colours old.program s old.screen input later scene outcome
    → PutsBy scene.screen scene.stopped mid between end_bytes → PutsBy mid between last stop [] → (stop ≡ false → last.kept ≡ []) → result ≡ told_with outcome stop
    → IsShownBefore seen old.screen last result
shown-before seen before input later old scene mid last between stop outcome result same run ends passes none is =
    let shown = text (run.now ∷ run.earlier) in
    subst (IsShownBefore seen old.screen last) (sym is)
    (told-shown seen old.screen last outcome stop
    (λ read. (
      shown,
      (
        before,
        subst (λ (x : Seen). IsShownOut old.screen x last shown) (sym same)
            (shown-out old.screen scene.screen mid last shown scene.stopped between stop
            (subst (CameTo (symbols_in_all run.pieces) run.now run.rest input later scene.stopped) read run.came).3 (run.passed read) run.done.shown.put ends passes none),
      ),
    )))

pub lives-to : {P : Type 0} {makes : Promise P} {colours : Colours} {s : Session} (old new : Place P) (result : Result Parting PlayFault) → Lives makes colours s old new result → LivesTo makes colours s old new result
lives-to old new (Ok parting) l = l
lives-to old new (Err faults.NoMemory) l = absurd l.comes
lives-to old new (Err faults.Read) l = l
lives-to old new (Err faults.Log) l = l
lives-to old new (Err faults.Screen) l = l
lives-to old new (Err faults.Tape) l = l

-- as it stands once what was lent is back
pub lives-lent : {P : Type 0} {makes : Promise P} {colours : Colours} {s : Session} (old : Place P) (input : Heard) (app app' : App) (program program' : P) (screen screen' : Seen) (result : Result Parting PlayFault) → app ≡ app' → program ≡ program' → screen ≡ screen'
    → Lives makes colours s old (place_with app program input screen) result → Lives makes colours s old (place_with app' program' input screen') result
lives-lent {P} {makes} {colours} {s} old input app app' program program' screen screen' result one other same l =
    subst (λ (x : App). Lives makes colours s old (place_with x program' input screen') result) one
    (subst (λ (x : P). Lives makes colours s old (place_with app x input screen') result) other
    (subst (λ (x : Seen). Lives makes colours s old (place_with app program input x) result) same l))
