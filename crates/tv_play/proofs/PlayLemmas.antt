-- What a run comes to, with its begin and its end.
use Rattle.std.proofs.Common.{◌≡◌, ℕ, ◌<◌, Bool, true, false, inl, inr, List, [], ◌∷◌, ◌++◌, length, take, Option, Some, None, Result, Ok, Err, refl, sym, ap, subst, ◌∙◌, arith, append_assoc}
use Rattle.std.specs.List.{concat}
use Rattle.std.proofs.lemmas.List.{append-nil, length-map, length-take-le}
use Rattle.std.proofs.lemmas.List.Elements.{All-nil}
use Rattle.tv_terminal.specs.Written.{end_bytes}
use Rattle.tv_terminal.specs.declared.colour.Colours.{Colours}
use Rattle.tv_play.specs.declared.monitor.Monitor.{Monitor}
use Rattle.std.specs.Prelude.{MatchResult}
use Rattle.tv_io.specs.Pen.{PutsBy}
use Rattle.tv_io.specs.declared.writer.WriteFailed.{WriteFailed}
use Rattle.tv_io.proofs.WriterLemmas.{Cuts-after, Cuts-held, Takes-none, Takes-passed, Takes-then}
use Rattle.tv_io.specs.Writer.{Cuts, IsHeldBack, IsPassedOn, PassesOn, Seen, Takes}
use Rattle.tv_machine.specs.Output.{output}
use Rattle.tv_machine.specs.Run.{Session, quiet}
use Rattle.tv_model.specs.Log.LogText.{log_text}
use Rattle.tv_script.specs.Tapes.{script_text}
use Rattle.tv_play.specs.Ends.{events_in, is_finished, is_leaving, script_of}
use Rattle.tv_play.specs.Pieces.{Comes, ComesNot, HasCome, Heard, FitsRoom, Loses, symbols_in}
use Rattle.tv_play.specs.Playing.{ComesOf, IsShownBefore, IsShownOut, IsTakenOrCut, IsWrittenOrCut, PartsBy, Plays, PlaysTo, Ports, told_with}
use Rattle.tv_play.specs.Steps.{CameTo, HasPlayedOut, HasRun, IsAtEnd, IsEndedBy, IsHeard, IsPlaying, IsTaped, HasBeenShown, Outside, TurnsTo, or_end, outcome_of, outside}
use Rattle.tv_play.specs.declared.parting.Parting.{Parting}
use Rattle.tv_play.specs.declared.parting.Parting.TheVariants as partings
use Rattle.tv_play.specs.declared.parting.PlayFault.{PlayFault}
use Rattle.tv_play.specs.declared.parting.PlayFault.TheVariants as faults
use Rattle.tv_play.proofs.ShownLemmas.{put-still, restores, shown-still}
use Rattle.tv_play.specs.declared.pieces.Piece.{Piece}
use Rattle.tv_play.specs.declared.pieces.Piece.TheVariants as pieces
use Rattle.tv_terminal.specs.Decoding.{Symbol, Byte, Pause}
use Rattle.tv_terminal.specs.declared.action.Action.{Action}

-- ---- what comes

loses-then : (a b c : Option (List Symbol)) (x y : List Symbol) → Loses a b x → Loses b c y → Loses a c (x ++ y)
loses-then None b c x y p q = tt
loses-then (Some a) None c x y p q = absurd p
loses-then (Some a) (Some b) None x y p q = absurd q
loses-then (Some a) (Some b) (Some c) x y p q = p ∙ ap (λ (t : List Symbol). x ++ t) q ∙ sym (append_assoc x y c)

loses-none : (a : Option (List Symbol)) → Loses a a []
loses-none None = tt
loses-none (Some a) = refl

pub come-none : (h : Heard) → HasCome h h []
come-none h = record { took = loses-none h.left; count = refl }

pub come-then : {a b c : Heard} (x y : List Symbol) → HasCome a b x → HasCome b c y → HasCome a c (x ++ y)
come-then {a} {b} {c} x y p q = record { took = loses-then a.left b.left c.left x y p.took q.took; count = q.count ∙ p.count }

-- ---- the beginning

pub heard-none : (s : Session) → IsHeard s [] [] []
heard-none s = record { parts = refl; stays = All-nil (λ action. is_leaving s.desc action ≡ false); goes = λ k lt. absurd (omega (arith, lt)) }

pub log-first : {a b : Seen} (s : Session) → Takes a b (log_text s.desc s.state.log) → Takes a b (output s (script_of s.desc []))
log-first {a} {b} s p = subst (Takes a b) (sym (append-nil (log_text s.desc s.state.log))) p

pub log-first-cut : {a b : Seen} (s : Session) → Cuts a b (log_text s.desc s.state.log) → Cuts a b (output s (script_of s.desc []))
log-first-cut {a} {b} s p = subst (Cuts a b) (sym (append-nil (log_text s.desc s.state.log))) p

-- nothing was taped yet
pub taped-none : (a : Seen) (torn : Bool) → torn ≡ false → PutsBy a false a torn []
taped-none a true e = absurd cc
taped-none a false e = Takes-none a

-- a run that was begun: it ended before anything was read, or it goes on
pub first-turns : (s : Session) (from now : Outside) (Left : Session → Type 0) (answer : Bool) → answer ≡ is_finished s → (written : Result (Unit {0}) WriteFailed) (stop torn : Bool) → now.stopped ≡ stop → now.torn ≡ torn
    → MatchResult written (λ _. Takes from.log now.log (log_text s.desc s.state.log)) (λ _. Cuts from.log now.log (log_text s.desc s.state.log))
    → HasBeenShown from.monitor.painter.colours s [] from.screen now.screen now.stopped now.monitor → Left (quiet s) → IsTaped s [] from now → TurnsTo s [] from now Left (outcome_of answer written stop torn)
first-turns s from now Left answer is (Err failed) stop torn same alike cut shown left taped = record { actions = []; rest = []; heard = heard-none s; shown = shown; left = left; taped = taped; ended = log-first-cut s cut }
first-turns s from now Left answer is (Ok written) true torn same alike takes shown left taped = record { actions = []; rest = []; heard = heard-none s; shown = shown; left = left; taped = taped; ended = (log-first s takes, same) }
first-turns s from now Left answer is (Ok written) false true same alike takes shown left taped = record { actions = []; rest = []; heard = heard-none s; shown = shown; left = left; taped = taped; ended = (log-first s takes, same, alike) }
first-turns s from now Left true is (Ok written) false false same alike takes shown left taped = record { actions = []; rest = []; heard = heard-none s; shown = shown; left = left; taped = taped; ended = (sym is, log-first s takes, same, alike) }
first-turns s from now Left false is (Ok written) false false same alike takes shown left taped = record {
  actions = [];
  heard = heard-none s;
  goes = sym is;
  shown = shown;
  performs = record { written = log-first s takes; left = left };
  taped = taped;
  going = same;
  whole = alike;
}

-- ---- the loop

-- what was written is passed on
pub passed-on : {a b c : Seen} (text : List ℕ) → Takes a b text → IsPassedOn b c → Takes a c text
passed-on {a} {b} {c} text p same = subst (Takes a c) (append-nil text) (Takes-then text [] p (Takes-passed same))

held-back : {a b c : Seen} (text : List ℕ) → Takes a b text → IsHeldBack b c → Cuts a c text
held-back {a} {b} {c} text p held = subst (Cuts a c) (append-nil text) (Cuts-after text [] p (Cuts-held held))

-- what was written was passed on, or the run is over
pub turned-passed : (s : Session) (symbols : List Symbol) (from : Outside) (log log' screen screen' tape tape' : Seen) (stop stop' torn torn' : Bool) (monitor : Monitor) (Left : Session → Type 0) (passed : Result (Unit {0}) WriteFailed) → PassesOn log log' passed → PutsBy screen stop screen' stop' [] → PutsBy tape torn tape' torn' []
    → IsPlaying s symbols from (outside log screen tape stop torn monitor) Left → TurnsTo s symbols from (outside log' screen' tape' stop' torn' monitor) Left (outcome_of false passed stop' torn')
turned-passed s symbols from log log' screen screen' tape tape' stop stop' torn torn' monitor Left (Err failed) held put puts p = record {
  actions = p.actions;
  rest = [];
  heard = p.heard;
  shown = shown-still s p.actions from.screen screen screen' stop stop' monitor p.shown put;
  left = p.performs.left;
  taped = put-still from.tape tape tape' torn torn' (script_text (events_in s.desc p.actions)) p.taped puts;
  ended = held-back (output s (script_of s.desc p.actions)) p.performs.written held;
}
turned-passed s symbols from log log' screen screen' tape tape' stop true torn torn' monitor Left (Ok done) passed put puts p = record {
  actions = p.actions;
  rest = [];
  heard = p.heard;
  shown = shown-still s p.actions from.screen screen screen' stop true monitor p.shown put;
  left = p.performs.left;
  taped = put-still from.tape tape tape' torn torn' (script_text (events_in s.desc p.actions)) p.taped puts;
  ended = (passed-on (output s (script_of s.desc p.actions)) p.performs.written passed, refl);
}
turned-passed s symbols from log log' screen screen' tape tape' stop false torn true monitor Left (Ok done) passed put puts p = record {
  actions = p.actions;
  rest = [];
  heard = p.heard;
  shown = shown-still s p.actions from.screen screen screen' stop false monitor p.shown put;
  left = p.performs.left;
  taped = put-still from.tape tape tape' torn true (script_text (events_in s.desc p.actions)) p.taped puts;
  ended = (passed-on (output s (script_of s.desc p.actions)) p.performs.written passed, refl, refl);
}
turned-passed s symbols from log log' screen screen' tape tape' stop false torn false monitor Left (Ok done) passed put puts p = record {
  actions = p.actions;
  heard = p.heard;
  goes = p.goes;
  shown = shown-still s p.actions from.screen screen screen' stop false monitor p.shown put;
  performs = record { written = passed-on (output s (script_of s.desc p.actions)) p.performs.written passed; left = p.performs.left };
  taped = put-still from.tape tape tape' torn false (script_text (events_in s.desc p.actions)) p.taped puts;
  going = refl;
  whole = refl;
}

-- it goes on only where all were passed on
pub passes-on : (a b : Seen) (passed : Result (Unit {0}) WriteFailed) (stop torn : Bool) → None ≡ outcome_of false passed stop torn → PassesOn a b passed → b.kept ≡ []
passes-on a b (Err failed) stop torn is held = absurd cc
passes-on a b (Ok done) stop torn is passed = passed.none

-- what turned to nothing goes on
pub played-on : (s : Session) (symbols : List Symbol) (from now : Outside) (Left : Session → Type 0) (outcome : Option (Result Parting PlayFault)) → None ≡ outcome → TurnsTo s symbols from now Left outcome → IsPlaying s symbols from now Left
played-on s symbols from now Left (Some outcome) is turned = absurd cc
played-on s symbols from now Left None is turned = turned

pub played-out : (s : Session) (symbols : List Symbol) (from now : Outside) (Left : Session → Type 0) (told : Result Parting PlayFault) (outcome : Option (Result Parting PlayFault)) → Some told ≡ outcome → TurnsTo s symbols from now Left outcome → HasPlayedOut s symbols from now Left told
played-out s symbols from now Left told (Some outcome) is turned = let same : outcome ≡ told = cc in subst (HasPlayedOut s symbols from now Left) same turned
played-out s symbols from now Left told None is turned = absurd cc

-- each piece has a symbol
pub some-symbols : (piece : Piece) (room : List ℕ) → FitsRoom piece room → 0 < length (symbols_in piece room)
some-symbols (pieces.Bytes count) room within = omega (arith, within.0, length-map (take count room) Byte, length-take-le count room within.1)
some-symbols pieces.Pause room within = omega arith
some-symbols pieces.End room within = omega arith

-- a piece ended it
came-by : (s : Session) (symbols : List Symbol) (actions rest : List Action) (input left : Heard) (from now : Outside) (outcome : Result Parting PlayFault) → HasCome input left symbols → IsEndedBy s actions rest from now outcome → CameTo s symbols actions rest input left from now outcome
came-by s symbols actions rest input left from now (Ok partings.Over) come ended = (come, ended)
came-by s symbols actions rest input left from now (Ok partings.Left) come ended = (come, ended)
came-by s symbols actions rest input left from now (Ok partings.Ended) come ended = absurd ended
came-by s symbols actions rest input left from now (Err faults.NoMemory) come ended = (come, ended)
came-by s symbols actions rest input left from now (Err faults.Read) come ended = absurd ended
came-by s symbols actions rest input left from now (Err faults.Log) come ended = (come, ended)
came-by s symbols actions rest input left from now (Err faults.Screen) come ended = (come, ended)
came-by s symbols actions rest input left from now (Err faults.Tape) come ended = (come, ended)

pub run-by : (s : Session) (symbols : List Symbol) (input left : Heard) (from now : Outside) (Left : Session → Type 0) (outcome : Result Parting PlayFault) → HasCome input left symbols → HasPlayedOut s symbols from now Left outcome → HasRun s input left from now Left outcome
run-by s symbols input left from now Left outcome come p = record {
  symbols = symbols;
  actions = p.actions;
  rest = p.rest;
  heard = p.heard;
  shown = p.shown;
  left = p.left;
  taped = p.taped;
  came = came-by s symbols p.actions p.rest input left from now outcome come p.ended;
}

-- its input ended
pub run-ended : (s : Session) (symbols : List Symbol) (input left : Heard) (from now : Outside) (Left : Session → Type 0) → HasCome input left symbols → IsAtEnd left symbols → IsPlaying s symbols from now Left → HasRun s input left from now Left (Ok partings.Ended)
run-ended s symbols input left from now Left come at_end p = record {
  symbols = symbols;
  actions = p.actions;
  rest = [];
  heard = p.heard;
  shown = p.shown;
  left = p.performs.left;
  taped = p.taped;
  came = (come, p.goes, refl, at_end, p.performs.written, p.going, p.whole);
}

-- it goes on after a piece, or ended with it
abbrev pub GoesTo : (s : Session) (symbols : List Symbol) (input later : Heard) (from now : Outside) (Left : Session → Type 0) → Option (Result Parting PlayFault) → Type 0
GoesTo s symbols input later from now Left None = IsPlaying s symbols from now Left
GoesTo s symbols input later from now Left (Some outcome) = HasRun s input later from now Left outcome

goes-by : (s : Session) (symbols : List Symbol) (piece : Piece) (room : List ℕ) (input mid later : Heard) (from now : Outside) (Left : Session → Type 0) (outcome : Option (Result Parting PlayFault)) → HasCome input later (symbols ++ symbols_in piece room) → Comes mid later piece room
    → TurnsTo s (symbols ++ symbols_in piece room) from now Left outcome → GoesTo s (symbols ++ symbols_in piece room) input later from now Left (or_end outcome piece)
goes-by s symbols piece room input mid later from now Left (Some outcome) come comes turned = run-by s (symbols ++ symbols_in piece room) input later from now Left outcome come turned
goes-by s symbols (pieces.Bytes count) room input mid later from now Left None come comes turned = turned
goes-by s symbols pieces.Pause room input mid later from now Left None come comes turned = turned
goes-by s symbols pieces.End room input mid later from now Left None come comes turned = run-ended s (symbols ++ Pause ∷ []) input later from now Left come (inl (comes.ended refl)) turned

pub goes-to : (s : Session) (symbols : List Symbol) (piece : Piece) (room : List ℕ) (input mid later : Heard) (from now : Outside) (Left : Session → Type 0) (outcome told : Option (Result Parting PlayFault)) → told ≡ or_end outcome piece → HasCome input mid symbols → Comes mid later piece room
    → TurnsTo s (symbols ++ symbols_in piece room) from now Left outcome → GoesTo s (symbols ++ symbols_in piece room) input later from now Left told
goes-to s symbols piece room input mid later from now Left outcome told is come comes turned =
    subst (GoesTo s (symbols ++ symbols_in piece room) input later from now Left) (sym is)
    (goes-by s symbols piece room input mid later from now Left outcome (come-then symbols (symbols_in piece room) come comes.has) comes turned)

-- it goes on only where it went on with the piece
pub went-on : (outcome : Option (Result Parting PlayFault)) (piece : Piece) → None ≡ or_end outcome piece → outcome ≡ None
went-on (Some outcome) piece is = absurd cc
went-on None piece is = refl

pub plays-on : (s : Session) (symbols : List Symbol) (from now : Outside) (Left : Session → Type 0) (outcome : Option (Result Parting PlayFault)) (piece : Piece) → None ≡ or_end outcome piece → TurnsTo s symbols from now Left outcome → IsPlaying s symbols from now Left
plays-on s symbols from now Left (Some outcome) piece is turned = absurd cc
plays-on s symbols from now Left None piece is turned = turned

-- its input failed, before which all was passed on
pub run-unheard : (s : Session) (symbols : List Symbol) (input mid left : Heard) (from now : Outside) (Left : Session → Type 0) → HasCome input mid symbols → ComesNot mid left → now.log.kept ≡ [] → now.tape.kept ≡ [] → now.screen.kept ≡ [] → IsPlaying s symbols from now Left → HasRun s input left from now Left (Err faults.Read)
run-unheard s symbols input mid left from now Left come failed none clear shown p = record {
  symbols = symbols;
  actions = p.actions;
  rest = [];
  heard = p.heard;
  shown = p.shown;
  left = p.performs.left;
  taped = p.taped;
  came = ((mid, come, failed), p.goes, refl, p.performs.written, p.going, p.whole, none, clear, shown);
}

-- ---- the end

written-by : (from last : Seen) (bytes : List ℕ) (stop : Bool) → PutsBy from false last stop bytes → (stop ≡ false → last.kept ≡ []) → IsWrittenOrCut from last bytes
written-by from last bytes true put none = inr put
written-by from last bytes false put none = inl (record { takes = put; none = none refl })

taken-by : (from last : Seen) (text : List ℕ) (torn : Bool) → PutsBy from false last torn text → IsTakenOrCut from last text
taken-by from last text true put = inr put
taken-by from last text false put = inl put

taken-whole : (from last : Seen) (text : List ℕ) (torn : Bool) → torn ≡ false → PutsBy from false last torn text → Takes from last text
taken-whole from last text true e put = absurd cc
taken-whole from last text false e put = put

taken-cut : (from last : Seen) (text : List ℕ) (torn : Bool) → torn ≡ true → PutsBy from false last torn text → Cuts from last text
taken-cut from last text true e put = put
taken-cut from last text false e put = absurd cc

module _ (s : Session) (symbols : List Symbol) (actions rest : List Action) (input left : Heard) (from now : Outside) (last : Seen) (shown : List ℕ) (stop : Bool) (put : PutsBy from.screen false last stop (shown ++ end_bytes)) (none : stop ≡ false → last.kept ≡ []) where
  abbrev old : Ports
  old = record { input = input; log = from.log; screen = from.screen; tape = from.tape }

  abbrev new : (log tape : Seen) → Ports
  new log tape = record { input = left; log = log; screen = last; tape = tape }

  abbrev bytes : List ℕ
  bytes = shown ++ end_bytes

  abbrev taped-text : List ℕ
  taped-text = script_text (events_in s.desc actions)

  -- it ended by itself
  module _ (tape : Seen) (torn : Bool) (taped : PutsBy from.tape false tape torn taped-text) (clear : torn ≡ false → tape.kept ≡ []) where
    parted : (log : Seen) (parting : Parting) (passed : Result (Unit {0}) WriteFailed) (b t : Bool) → stop ≡ b → torn ≡ t → HasCome input left symbols → Takes from.log now.log (output s (script_of s.desc actions)) → PartsBy s actions left symbols rest parting → PassesOn now.log log passed → ComesOf s symbols actions rest shown old (new log tape) (told_with parting passed b t)
    parted log parting (Err failed) b t e f come takes parts held = (come, held-back (output s (script_of s.desc actions)) takes held, written-by from.screen last bytes stop put none, taken-by from.tape tape taped-text torn taped)
    parted log parting (Ok done) true t e f come takes parts passed = (come, passed-on (output s (script_of s.desc actions)) takes passed, subst (λ x. PutsBy from.screen false last x bytes) e put, taken-by from.tape tape taped-text torn taped)
    parted log parting (Ok done) false true e f come takes parts passed = (come, passed-on (output s (script_of s.desc actions)) takes passed, written-by from.screen last bytes stop put none, taken-cut from.tape tape taped-text torn f taped)
    parted log parting (Ok done) false false e f come takes parts passed = record {
      came = come;
      log = record { takes = passed-on (output s (script_of s.desc actions)) takes passed; none = passed.none };
      screen = record { takes = subst (λ x. PutsBy from.screen false last x bytes) e put; none = none e };
      tape = record { takes = taken-whole from.tape tape taped-text torn f taped; none = clear f };
      parts = parts;
    }

    comes-parted : (log : Seen) (parting : Parting) (passed : Result (Unit {0}) WriteFailed) → CameTo s symbols actions rest input left from now (Ok parting) → PassesOn now.log log passed → ComesOf s symbols actions rest shown old (new log tape) (told_with parting passed stop torn)
    comes-parted log partings.Over passed came passes = parted log partings.Over passed stop torn refl refl came.0 came.1.1 came.1.0 passes
    comes-parted log partings.Left passed came passes = parted log partings.Left passed stop torn refl refl came.0 came.1.2 (came.1.0, came.1.1) passes
    comes-parted log partings.Ended passed came passes = parted log partings.Ended passed stop torn refl refl came.0 came.4 (came.1, came.2, came.3) passes

  -- or was broken off
  shown-out : PutsBy from.screen false now.screen now.stopped shown → now.stopped ≡ false → now.screen.kept ≡ [] → PutsBy now.screen false last stop end_bytes → IsShownOut from.screen now.screen last shown
  shown-out before going clear ends = record {
    passed = record { takes = taken-whole from.screen now.screen shown now.stopped going before; none = clear };
    ended = written-by now.screen last end_bytes stop ends none;
  }

  comes-broken : (fault : PlayFault) (b : Bool) → stop ≡ b → PutsBy from.screen false now.screen now.stopped shown → (now.stopped ≡ false → PutsBy now.screen false last stop end_bytes) → IsTaped s actions from now → CameTo s symbols actions rest input left from now (Err fault) → (now.stopped ≡ true → stop ≡ true) → ComesOf s symbols actions rest shown old (new now.log now.tape) (Err fault)
  comes-broken faults.NoMemory b e before ends taped came stays = came.1
  comes-broken faults.Read b e before ends taped came stays = (came.0, came.1, came.2, record { takes = came.3; none = came.6 }, (now.screen, shown-out before came.4 came.8 (ends came.4)), record { takes = taken-whole from.tape now.tape taped-text now.torn came.5 taped; none = came.7 })
  comes-broken faults.Log b e before ends taped came stays = (came.0, came.1, written-by from.screen last bytes stop put none, taken-by from.tape now.tape taped-text now.torn taped)
  comes-broken faults.Screen true e before ends taped came stays = (came.0, came.1.0, subst (λ x. PutsBy from.screen false last x bytes) e put, taken-by from.tape now.tape taped-text now.torn taped)
  comes-broken faults.Screen false e before ends taped came stays = let yes = stays came.1.1 in absurd cc
  comes-broken faults.Tape b e before ends taped came stays = (came.0, came.1.0, written-by from.screen last bytes stop put none, taken-cut from.tape now.tape taped-text now.torn came.1.2 taped)

module _ (s : Session) (input left : Heard) (from now : Outside) (last : Seen) (stop : Bool) (Left : Session → Type 0)
    (put : (first : Seen) (frames : List (List ℕ)) → PutsBy first false now.screen now.stopped (concat frames) → PutsBy first false last stop (concat frames ++ end_bytes)) (stays : now.stopped ≡ true → stop ≡ true) (none : stop ≡ false → last.kept ≡ []) where
  abbrev pub begun : Ports
  begun = record { input = input; log = from.log; screen = from.screen; tape = from.tape }

  abbrev pub ended : (log tape : Seen) → Ports
  ended log tape = record { input = left; log = log; screen = last; tape = tape }

  -- the end was put where the screen's writer hadn't failed
  end-put : now.stopped ≡ false → PutsBy now.screen false last stop end_bytes
  end-put going = put now.screen [] (taped-none now.screen now.stopped going)

  -- a failed read came after all was passed on that was shown
  pub shown-before : {T : Type 0} (seen : T → Seen) (before : T) → seen before ≡ now.screen → (fault : PlayFault) → HasRun s input left from now Left (Err fault) → IsShownBefore seen from.screen last (Err fault)
  shown-before seen before is faults.Read run = (
    concat run.shown.frames,
    (
      before,
      subst (λ (x : Seen). IsShownOut from.screen x last (concat run.shown.frames)) (sym is)
          (shown-out s run.symbols run.actions run.rest input left from now last (concat run.shown.frames) stop (put from.screen run.shown.frames run.shown.put) none
          run.shown.put run.came.4 run.came.8 (end-put run.came.4)),
    ),
  )
  shown-before seen before is faults.NoMemory run = tt
  shown-before seen before is faults.Log run = tt
  shown-before seen before is faults.Screen run = tt
  shown-before seen before is faults.Tape run = tt

  pub plays-parted : (log tape : Seen) (torn : Bool) (parting : Parting) (passed : Result (Unit {0}) WriteFailed) (result : Result Parting PlayFault) → result ≡ told_with parting passed stop torn → HasRun s input left from now Left (Ok parting) → PassesOn now.log log passed → PutsBy now.tape now.torn tape torn [] → (torn ≡ false → tape.kept ≡ []) → Plays from.monitor.painter.colours s begun (ended log tape) Left result
  plays-parted log tape torn parting passed result is run passes puts clear = record {
    symbols = run.symbols;
    actions = run.actions;
    rest = run.rest;
    heard = run.heard;
    left = run.left;
    frames = run.shown.frames;
    shows = run.shown.shows;
    restores = restores s run.actions run.shown.frames run.shown.shows;
    comes = subst (ComesOf s run.symbols run.actions run.rest (concat run.shown.frames) begun (ended log tape)) (sym is)
        (comes-parted s run.symbols run.actions run.rest input left from now last (concat run.shown.frames) stop (put from.screen run.shown.frames run.shown.put) none
        tape torn (put-still from.tape now.tape tape now.torn torn (script_text (events_in s.desc run.actions)) run.taped puts) clear log parting passed run.came passes);
  }

  pub plays-broken : (fault : PlayFault) → HasRun s input left from now Left (Err fault) → Plays from.monitor.painter.colours s begun (ended now.log now.tape) Left (Err fault)
  plays-broken fault run = record {
    symbols = run.symbols;
    actions = run.actions;
    rest = run.rest;
    heard = run.heard;
    left = run.left;
    frames = run.shown.frames;
    shows = run.shown.shows;
    restores = restores s run.actions run.shown.frames run.shown.shows;
    comes = comes-broken s run.symbols run.actions run.rest input left from now last (concat run.shown.frames) stop (put from.screen run.shown.frames run.shown.put) none fault stop refl run.shown.put end-put run.taped run.came stays;
  }

-- a run that ended by itself met no failed read
told-unread : {T : Type 0} (seen : T → Seen) (first last : Seen) (parting : Parting) (passed : Result (Unit {0}) WriteFailed) (stop torn : Bool) → IsShownBefore seen first last (told_with parting passed stop torn)
told-unread seen first last parting (Err failed) stop torn = tt
told-unread seen first last parting (Ok done) true torn = tt
told-unread seen first last parting (Ok done) false true = tt
told-unread seen first last parting (Ok done) false false = tt

pub unread : {T : Type 0} (seen : T → Seen) (first last : Seen) (parting : Parting) (passed : Result (Unit {0}) WriteFailed) (stop torn : Bool) (result : Result Parting PlayFault) → result ≡ told_with parting passed stop torn → IsShownBefore seen first last result
unread seen first last parting passed stop torn result is = subst (IsShownBefore seen first last) (sym is) (told-unread seen first last parting passed stop torn)

pub shown-lent : {T : Type 0} (seen : T → Seen) (first last last' : Seen) (result : Result Parting PlayFault) → last ≡ last' → IsShownBefore seen first last result → IsShownBefore seen first last' result
shown-lent seen first last last' result same shown = subst (λ (x : Seen). IsShownBefore seen first x result) same shown

-- what was played, as it stands once what was lent is back
plays-told : (colours : Colours) (s : Session) (first last : Ports) (Left : Session → Type 0) (result : Result Parting PlayFault) → Plays colours s first last Left result → PlaysTo colours s first last Left result
plays-told colours s first last Left (Ok parting) p = p
plays-told colours s first last Left (Err faults.NoMemory) p = absurd p.comes
plays-told colours s first last Left (Err faults.Read) p = p
plays-told colours s first last Left (Err faults.Log) p = p
plays-told colours s first last Left (Err faults.Screen) p = p
plays-told colours s first last Left (Err faults.Tape) p = p

pub plays-lent : {L : Type 0} {colours : Colours} (stands : L → Session → Type 0) (stage stage' : L) (s : Session) (old : Ports) (input : Heard) (log log' screen screen' tape tape' : Seen) (result : Result Parting PlayFault) → stage ≡ stage' → log ≡ log' → screen ≡ screen' → tape ≡ tape' → Plays colours s old (record { input = input; log = log; screen = screen; tape = tape }) (stands stage) result
    → PlaysTo colours s old (record { input = input; log = log'; screen = screen'; tape = tape' }) (stands stage') result
plays-lent {L} {colours} stands stage stage' s old input log log' screen screen' tape tape' result one same alike kept p =
    plays-told colours s old (record { input = input; log = log'; screen = screen'; tape = tape' }) (stands stage') result
    (subst (λ (x : L). Plays colours s old (record { input = input; log = log'; screen = screen'; tape = tape' }) (stands x) result) one
    (subst (λ (x : Seen). Plays colours s old (record { input = input; log = log'; screen = screen'; tape = x }) (stands stage) result) kept
    (subst (λ (x : Seen). Plays colours s old (record { input = input; log = log'; screen = x; tape = tape }) (stands stage) result) alike
    (subst (λ (x : Seen). Plays colours s old (record { input = input; log = x; screen = screen; tape = tape }) (stands stage) result) same p))))
