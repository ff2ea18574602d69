-- What a line, a byte and a piece add to what was performed of a script.
use Rattle.std.proofs.Common.{◌≡◌, ◌≢◌, ℕ, ◌+◌, ◌<◌, ◌≤◌, true, false, List, [], ◌∷◌, ◌++◌, length, take, Result, Ok, Err, IsErrAnd, OnOk, refl, sym, ap, ◌∙◌, subst, arith, length-append}
use Rattle.std.specs.List.{AllByRecursion}
use Rattle.std.specs.Prelude.{IfErr, MatchResult}
use Rattle.std.proofs.lemmas.List.{append-nil}
use Rattle.std.specs.Io.KnownBytes.{IsAtEnd}
use Rattle.tv_io.proofs.ReaderLemmas.{HasGiven-then}
use Rattle.tv_io.specs.Reader.{Given, Gives, HasGiven, IsReadSoFar}
use Rattle.tv_io.specs.Writer.{Cuts, Seen, Takes}
use Rattle.tv_machine.specs.Output.{after}
use Rattle.tv_machine.specs.Run.{Session, quiet}
use Rattle.tv_model.specs.Log.LogText.{log_text}
use Rattle.tv_machine.specs.declared.script.Item.{Item}
use Rattle.tv_script.proofs.EndedLemmas.{all_push, ended_push}
use Rattle.tv_script.proofs.JudgingLemmas.{judged_push}
use Rattle.tv_script.proofs.PerformLemmas.{performs_on, stops_held}
use Rattle.tv_script.proofs.StreamLemmas.{breaks_mid, fed_first}
use Rattle.tv_script.specs.declared.feed.Feed.{Feed}
use Rattle.tv_script.specs.declared.script_text.ScriptFault.{ScriptFault}
use Rattle.tv_script.specs.declared.script_text.ScriptFault.TheVariants as scripts
use Rattle.tv_script.specs.declared.stream_fault.StreamFault.{StreamFault}
use Rattle.tv_script.specs.declared.stream_fault.StreamFault.TheVariants as streams
use Rattle.tv_script.specs.Performed.{Stops}
use Rattle.tv_script.specs.Judging.{judged_as, judged_lines, judgement}
use Rattle.tv_script.specs.Reading.Scripts.{with_bytes}
use Rattle.tv_script.specs.Reading.Streams.{BeginsLine, Breaks, Ends, HasPlayed, HasScreenOf, IsFed, IsTaken, IsUnended, IsUnplayed, Leaves, OfEach, PassedOn, is_nil, is_stopped_by, is_write, with_line_ends}
use Rattle.tv_script.specs.Reading.Streams.PassedOn.{failed as was_failed, held as was_held, passed as was_passed}
use Rattle.tv_script.specs.Streams.{AreFirstOf, ComesFrom, IsReadBefore, Performs, PerformsAll, stream_fault}
use Rattle.tv_script.specs.Streams.ComesFrom.{broken as comes_broken, cut as comes_cut, done as comes_done, faulty as comes_faulty, unbegun as comes_unbegun, unwritten as comes_unwritten}

-- ---- answers

-- an answer that is this fault
pub match_given : {T F : Type 0} (P : T → Type 0) (Q : F → Type 0) (fault : F) → Q fault → (r : Result T F) → IsErrAnd r (λ told. told ≡ fault) → MatchResult r P Q
match_given P Q fault is (Ok x) told = absurd told
match_given P Q fault is (Err other) told = rw told is

-- an answer of which each side says more
pub match_map : {T F : Type 0} {N : Type 0} {P P' : T → Type 0} {M Q Q' : F → Type 0} (r : Result T F) → OnOk r N → IfErr r M → ((x : T) → N → P x → P' x) → ((f : F) → M f → Q f → Q' f) → MatchResult r P Q → MatchResult r P' Q'
match_map (Ok x) next other good bad h = good x next h
match_map (Err f) next other good bad h = bad f other h

-- ---- a line

-- it is judged for the session's screen
pub judged_here : (s : Session) (feed : Feed) (lines : List (List ℕ)) (items : List Item) (r : Result (List Item) ScriptFault) → HasScreenOf s feed → feed.lines ≡ length lines → with_bytes feed.width feed.height (feed.lines + 1) items feed.line.items ≡ r → with_bytes s.desc.width s.desc.height (length lines + 1) items feed.line.items ≡ r
judged_here s feed lines items r screen number is = rw (← screen.width, ← screen.height, ← number) is

module _ (s : Session) (lines : List (List ℕ)) (line : List ℕ) (from now : Seen) (Left : Session → Type 0) where
  -- it is refused
  pub unplayed_refused : (begun : ℕ) (fault : ScriptFault) → fault ≢ scripts.NoMemory → (played : HasPlayed s lines begun from now Left) → with_bytes s.desc.width s.desc.height (length lines + 1) played.items line ≡ Err fault → IsUnplayed s lines line begun from now Left (stream_fault fault)
  unplayed_refused begun scripts.NoMemory other played is = absurd (other refl)
  unplayed_refused begun (scripts.Syntax n) other played is = record { played = played; refused = is }
  unplayed_refused begun (scripts.OffScreen n) other played is = record { played = played; refused = is }
  unplayed_refused begun scripts.TooLong other played is = record { played = played; refused = is }

  -- the writer failed in it
  pub unplayed_cut : (fault : StreamFault) (begun at : ℕ) (items longer : List Item) → judged_lines s.desc.width s.desc.height lines ≡ judgement items (Ok tt) → with_bytes s.desc.width s.desc.height (length lines + 1) items line ≡ Ok longer → fault ≡ streams.Write at → begun ≤ at → Stops s longer at from now Left → IsUnplayed s lines line begun from now Left fault
  unplayed_cut fault begun at items longer read is cut later stops = rw cut (record { items = longer; read = judged_push s.desc.width s.desc.height lines line items longer read is; later = later; stops = stops })

  -- it is performed
  pub played_line : (begun : ℕ) (items longer : List Item) → judged_lines s.desc.width s.desc.height lines ≡ judgement items (Ok tt) → with_bytes s.desc.width s.desc.height (length lines + 1) items line ≡ Ok longer → begun ≡ length longer → Performs s longer from now Left → HasPlayed s (lines ++ line ∷ []) begun from now Left
  played_line begun items longer read is count performs = record { items = longer; read = judged_push s.desc.width s.desc.height lines line items longer read is; count = count; performs = performs }

-- ---- the begin

-- before the first byte, once the log that isn't yet taken is written
pub fed_start : (s : Session) (feed : Feed) (from now : Seen) (Left : Session → Type 0) → HasScreenOf s feed → feed.line.items ≡ [] → (feed.lines ≡ 0) × (feed.items ≡ 0) × (feed.bytes ≡ 0) → Takes from now (log_text s.desc s.state.log) → Left (quiet s) → IsFed s feed [] from now Left
fed_start s feed from now Left screen empty start takes left = record {
  screen = screen;
  lines = [];
  parts = sym empty;
  whole = tt;
  open_line = subst IsUnended (sym empty) refl;
  number = start.0;
  bytes = start.2;
  played = record {
    items = [];
    read = refl;
    count = start.1;
    performs = record { written = subst (Takes from now) (sym (append-nil (log_text s.desc s.state.log))) takes; left = left };
  };
}

-- ---- a byte

-- a line end, after which the next line begins
pub fed_end : (s : Session) (from then : Seen) (After : Session → Type 0) (old new : Feed) (given : List ℕ) (byte : ℕ) (lines : List (List ℕ)) → HasScreenOf s old → byte ≡ 10 → given ≡ with_line_ends lines ++ old.line.items → AllByRecursion IsUnended lines → IsUnended old.line.items → old.lines ≡ length lines → old.bytes ≡ length given + 1 → BeginsLine old new → HasPlayed s (lines ++ old.line.items ∷ []) new.items from then After → IsFed s new (given ++ byte ∷ []) from then After
fed_end s from then After old new given byte lines screen is parts whole open_line number bytes next played = record {
  screen = record { width = next.width ∙ screen.width; height = next.height ∙ screen.height };
  lines = lines ++ old.line.items ∷ [];
  parts = ap (λ b. given ++ b ∷ []) is ∙ ap (λ x. x ++ 10 ∷ []) parts ∙ sym (ended_push lines old.line.items)
      ∙ sym (append-nil (with_line_ends (lines ++ old.line.items ∷ []))) ∙ ap (λ x. with_line_ends (lines ++ old.line.items ∷ []) ++ x) (sym next.empty);
  whole = all_push lines old.line.items whole open_line;
  open_line = subst IsUnended (sym next.empty) refl;
  number = next.number ∙ ap (λ n. n + 1) number ∙ sym (length-append lines (old.line.items ∷ []));
  bytes = omega (arith, next.bytes, bytes, length-append given (byte ∷ []));
  played = played;
}

-- a line end, whose line wasn't performed
pub breaks_end_of_line : (s : Session) (from then : Seen) (After : Session → Type 0) (line given : List ℕ) (byte begun : ℕ) (lines : List (List ℕ)) (fault : StreamFault) → byte ≡ 10 → given ≡ with_line_ends lines ++ line → length given < 1048576 → AllByRecursion IsUnended lines → IsUnended line → IsUnplayed s lines line begun from then After fault → Breaks s (given ++ byte ∷ []) false begun from then After fault
breaks_end_of_line s from then After line given byte begun lines fault is parts few whole open_line un =
    breaks_mid s from then After fault lines line (given ++ byte ∷ []) begun (ap (λ b. given ++ b ∷ []) is ∙ ap (λ x. x ++ 10 ∷ []) parts) (omega (arith, few, length-append given (byte ∷ []))) whole open_line un

-- ---- what is passed on

-- the same bytes, passed on
pub fed_on : (s : Session) (feed : Feed) (given : List ℕ) (from now then : Seen) (Left : Session → Type 0) → IsFed s feed given from now Left → Takes now then [] → IsFed s feed given from then Left
fed_on s feed given from now then Left fed takes = record {
  screen = fed.screen;
  lines = fed.lines;
  parts = fed.parts;
  whole = fed.whole;
  open_line = fed.open_line;
  number = fed.number;
  bytes = fed.bytes;
  played = record { items = fed.played.items; read = fed.played.read; count = fed.played.count; performs = performs_on s fed.played.items Left fed.played.performs takes };
}

-- a piece more, after which nothing is kept back: by the reader, what it has left, and what was read before
module _ (s : Session) (feed : Feed) (reader left : Given) (given piece : List ℕ) (from now then : Seen) (Left : Session → Type 0) (gave : IsReadSoFar reader left (given ++ piece)) (few : length (given ++ piece) ≤ 1048577) (before : (at : ℕ) → feed.items ≤ at → IsReadBefore s (given ++ piece) at) where
  abbrev all : List ℕ
  all = given ++ piece

  -- the script is at fault
  left_on : (fault : ScriptFault) → Leaves s all left.is_ended feed.items from now Left fault → Takes now then [] → then.kept ≡ [] → ComesFrom s reader left from then Left (Err (stream_fault fault))
  left_on fault leaves takes passed = comes_faulty all leaves.items fault gave few leaves.decided (record { performs = performs_on s leaves.items Left leaves.performs takes; passed = passed }) refl

  broken_on : (fault : StreamFault) → Breaks s all left.is_ended feed.items from now Left fault → is_write fault ≡ false → Takes now then [] → then.kept ≡ [] → ComesFrom s reader left from then Left (Err fault)
  broken_on streams.NoMemory b goes takes passed = absurd b
  broken_on streams.Read b goes takes passed = absurd b
  broken_on (streams.Syntax n) b goes takes passed = left_on (scripts.Syntax n) b takes passed
  broken_on (streams.OffScreen n) b goes takes passed = left_on (scripts.OffScreen n) b takes passed
  broken_on streams.TooLong b goes takes passed = left_on scripts.TooLong b takes passed
  broken_on (streams.Write at) b goes takes passed = absurd cc

  -- the writer failed at an item
  cut_off : (fault : StreamFault) → Breaks s all left.is_ended feed.items from now Left fault → is_write fault ≡ true → then ≡ now → ComesFrom s reader left from then Left (Err fault)
  cut_off (streams.Write at) b stops same = rw same (comes_cut all b.items at gave few b.first (before at b.later) b.stops refl)
  cut_off streams.NoMemory b stops same = absurd cc
  cut_off streams.Read b stops same = absurd cc
  cut_off (streams.Syntax n) b stops same = absurd cc
  cut_off (streams.OffScreen n) b stops same = absurd cc
  cut_off streams.TooLong b stops same = absurd cc

  -- or as it passed on what it took
  held_at : (items : List Item) → OfEach all left.is_ended (λ stream. AreFirstOf items (judged_as s.desc.width s.desc.height stream)) → feed.items ≡ length items → Performs s items from now Left → Cuts now then [] → ComesFrom s reader left from then Left (Err (streams.Write feed.items))
  held_at items first count performs held = comes_cut all items feed.items gave few first (before feed.items (omega arith)) (stops_held s items Left feed.items count performs held) refl

  held_left : (fault : ScriptFault) → Leaves s all left.is_ended feed.items from now Left fault → Cuts now then [] → ComesFrom s reader left from then Left (Err (streams.Write feed.items))
  held_left fault leaves held = held_at leaves.items (λ rest alone. ([], ap (λ j. j.items) (leaves.decided rest alone) ∙ sym (append-nil leaves.items))) leaves.count leaves.performs held

  held_broken : (fault : StreamFault) → Breaks s all left.is_ended feed.items from now Left fault → is_write fault ≡ false → Cuts now then [] → ComesFrom s reader left from then Left (Err (streams.Write feed.items))
  held_broken streams.NoMemory b goes held = absurd b
  held_broken streams.Read b goes held = absurd b
  held_broken (streams.Syntax n) b goes held = held_left (scripts.Syntax n) b held
  held_broken (streams.OffScreen n) b goes held = held_left (scripts.OffScreen n) b held
  held_broken streams.TooLong b goes held = held_left scripts.TooLong b held
  held_broken (streams.Write at) b goes held = absurd cc

-- ---- a piece

module _ (s : Session) (feed : Feed) (given : List ℕ) (from now : Seen) (Left : Session → Type 0) where
  pub taken_end : (piece : List ℕ) → piece ≡ [] → (r : Result (Unit {0}) StreamFault) → MatchResult r (λ x. Ends s given feed.items from now Left) (λ fault. Breaks s given true feed.items from now Left fault) → IsTaken s feed given piece from now Left r
  taken_end [] e (Ok x) m = m
  taken_end [] e (Err fault) m = subst (λ x. Breaks s x true feed.items from now Left fault) (sym (append-nil given)) m
  taken_end (c ∷ cs) e r m = absurd cc

  pub taken_piece : (piece : List ℕ) → 0 < length piece → (r : Result (Unit {0}) StreamFault) → MatchResult r (λ x. IsFed s feed (given ++ piece) from now Left) (λ fault. Breaks s (given ++ piece) false feed.items from now Left fault) → IsTaken s feed given piece from now Left r
  taken_piece [] some r m = absurd (omega (arith, some))
  taken_piece (c ∷ cs) some (Ok x) m = m
  taken_piece (c ∷ cs) some (Err fault) m = m

-- ---- the reader

-- its last call was the end just where it gave nothing
pub ended_by : (old new : Given) (piece : List ℕ) → Gives old new piece → new.is_ended ≡ is_nil piece
ended_by old new [] gives = (gives.ended refl).0
ended_by old new (c ∷ cs) gives = gives.going (λ e. absurd cc)

so_far_by : (old new : Given) (piece : List ℕ) → Gives old new piece → new.is_ended ≡ true → IsAtEnd new.left
so_far_by old new [] gives ended = (gives.ended refl).1
so_far_by old new (c ∷ cs) gives ended = let going = gives.going (λ e. absurd cc) in absurd cc

pub read_so_far : (reader old new : Given) (given piece : List ℕ) → HasGiven reader old given → Gives old new piece → IsReadSoFar reader new (given ++ piece)
read_so_far reader old new given piece gave gives = record { gave = HasGiven-then given piece gave gives.has; whole = so_far_by old new piece gives }

-- ---- an answer that is passed on

-- it was no fault, and nothing is kept back
pub answer_ok : {begun : ℕ} {answer : Result (Unit {0}) StreamFault} {now then : Seen} {x : Unit {0}} → PassedOn begun answer now then (Ok x) → (answer ≡ Ok x) × Takes now then [] × (then.kept ≡ [])
answer_ok (was_failed stops same is) = let stopped = ap is_stopped_by is in absurd cc
answer_ok (was_passed goes takes none is) = (sym is, takes, none)
answer_ok (was_held goes cuts is) = absurd cc

module _ (s : Session) (feed : Feed) (given : List ℕ) (from now then : Seen) (Left : Session → Type 0) where
  fed_by : (piece : List ℕ) (answer : Result (Unit {0}) StreamFault) (x : Unit {0}) → 0 < length piece → IsTaken s feed given piece from now Left answer → answer ≡ Ok x → IsFed s feed (given ++ piece) from now Left
  fed_by [] answer x some taken is = absurd (omega (arith, some))
  fed_by (c ∷ cs) (Ok _) x some taken is = taken
  fed_by (c ∷ cs) (Err fault) x some taken is = absurd cc

  -- a piece more
  pub goes_on : (piece : List ℕ) (answer : Result (Unit {0}) StreamFault) (x : Unit {0}) → 0 < length piece → IsTaken s feed given piece from now Left answer → PassedOn feed.items answer now then (Ok x) → IsFed s feed (given ++ piece) from then Left
  goes_on piece answer x some taken went = let ok = answer_ok went in fed_on s feed (given ++ piece) from now then Left (fed_by piece answer x some taken ok.0) ok.1

  ends_by : (piece : List ℕ) (answer : Result (Unit {0}) StreamFault) (x : Unit {0}) → piece ≡ [] → IsTaken s feed given piece from now Left answer → answer ≡ Ok x → Ends s given feed.items from now Left
  ends_by [] (Ok _) x none taken is = taken
  ends_by [] (Err fault) x none taken is = absurd cc
  ends_by (c ∷ cs) answer x none taken is = absurd cc

  -- nothing came any more
  pub comes_end : (reader left : Given) (piece : List ℕ) (answer : Result (Unit {0}) StreamFault) (x : Unit {0}) → piece ≡ [] → IsReadSoFar reader left (given ++ piece) → length given ≤ 1048576 → left.is_ended ≡ is_nil piece → IsTaken s feed given piece from now Left answer → PassedOn feed.items answer now then (Ok x) → ComesFrom s reader left from then Left (Ok tt)
  comes_end reader left piece answer x none gave few nil taken went =
      let ok = answer_ok went in
      let end = ends_by piece answer x none taken ok.0 in
      comes_done given end.items (subst (IsReadSoFar reader left) (ap (λ y. given ++ y) none ∙ append-nil given) gave) few (nil ∙ ap is_nil none) end.read
      (record { performs = performs_on s end.items Left end.performs ok.1; passed = ok.2 }) refl

-- the answer was a fault, or became one as what was written was passed on
module _ (s : Session) (feed : Feed) (reader left : Given) (given : List ℕ) (from now then : Seen) (Left : Session → Type 0) where
  passed_fault : (piece : List ℕ) (gave : IsReadSoFar reader left (given ++ piece)) (few : length (given ++ piece) ≤ 1048577) (before : (at : ℕ) → feed.items ≤ at → IsReadBefore s (given ++ piece) at) → left.is_ended ≡ is_nil piece → (answer : Result (Unit {0}) StreamFault) (fault : StreamFault) → IsTaken s feed given piece from now Left answer → is_stopped_by answer ≡ false → Takes now then [] → then.kept ≡ [] → Err fault ≡ answer → ComesFrom s reader left from then Left (Err fault)
  passed_fault piece gave few before nil (Ok _) fault taken goes takes passed is = absurd cc
  passed_fault piece gave few before nil (Err found) fault taken goes takes passed is =
      let same : found ≡ fault = cc in
      subst (λ x. ComesFrom s reader left from then Left (Err x)) same
      (broken_on s feed reader left given piece from now then Left gave few before found (subst (λ e. Breaks s (given ++ piece) e feed.items from now Left found) (sym nil) taken) goes takes passed)

  failed_fault : (piece : List ℕ) (gave : IsReadSoFar reader left (given ++ piece)) (few : length (given ++ piece) ≤ 1048577) (before : (at : ℕ) → feed.items ≤ at → IsReadBefore s (given ++ piece) at) → left.is_ended ≡ is_nil piece → (answer : Result (Unit {0}) StreamFault) (fault : StreamFault) → IsTaken s feed given piece from now Left answer → is_stopped_by answer ≡ true → then ≡ now → Err fault ≡ answer → ComesFrom s reader left from then Left (Err fault)
  failed_fault piece gave few before nil (Ok _) fault taken stops same is = absurd cc
  failed_fault piece gave few before nil (Err found) fault taken stops same is =
      let told : found ≡ fault = cc in
      subst (λ x. ComesFrom s reader left from then Left (Err x)) told
      (cut_off s feed reader left given piece from now then Left gave few before found (subst (λ e. Breaks s (given ++ piece) e feed.items from now Left found) (sym nil) taken) stops same)

  held_fault : (piece : List ℕ) (gave : IsReadSoFar reader left (given ++ piece)) (few : length (given ++ piece) ≤ 1048577) (before : (at : ℕ) → feed.items ≤ at → IsReadBefore s (given ++ piece) at) → left.is_ended ≡ is_nil piece → (answer : Result (Unit {0}) StreamFault) → IsTaken s feed given piece from now Left answer → is_stopped_by answer ≡ false → Cuts now then [] → ComesFrom s reader left from then Left (Err (streams.Write feed.items))
  held_fault piece gave few before nil (Err found) taken goes held =
      held_broken s feed reader left given piece from now then Left gave few before found (subst (λ e. Breaks s (given ++ piece) e feed.items from now Left found) (sym nil) taken) goes held
  held_fault [] gave few before nil (Ok _) taken goes held =
      let same = append-nil given in
      held_at s feed reader left given [] from now then Left gave few before taken.items
      (λ rest alone. ([], ap (λ x. (judged_as s.desc.width s.desc.height ((given ++ []) ++ x)).items) (alone nil) ∙ ap (λ x. (judged_as s.desc.width s.desc.height x).items) (append-nil (given ++ []) ∙ same) ∙ ap (λ j. j.items) taken.read ∙ sym (append-nil taken.items)))
      taken.count taken.performs held
  held_fault (c ∷ cs) gave few before nil (Ok _) taken goes held =
      let short : length (given ++ c ∷ cs) ≤ 1048576 = omega (arith, taken.bytes, feed.few) in
      held_at s feed reader left given (c ∷ cs) from now then Left gave few before taken.played.items
      (λ rest alone. fed_first s from now Left feed (given ++ c ∷ cs) short taken rest (λ clash. absurd cc)) taken.played.count taken.played.performs held

  pub comes_fault : (piece : List ℕ) → IsReadSoFar reader left (given ++ piece) → length (given ++ piece) ≤ 1048577 → ((at : ℕ) → feed.items ≤ at → IsReadBefore s (given ++ piece) at) → left.is_ended ≡ is_nil piece → (answer : Result (Unit {0}) StreamFault) (fault : StreamFault) → IsTaken s feed given piece from now Left answer → PassedOn feed.items answer now then (Err fault) → ComesFrom s reader left from then Left (Err fault)
  comes_fault piece gave few before nil answer fault taken (was_failed stops same is) = failed_fault piece gave few before nil answer fault taken stops same is
  comes_fault piece gave few before nil answer fault taken (was_passed goes takes none is) = passed_fault piece gave few before nil answer fault taken goes takes none is
  comes_fault piece gave few before nil answer fault taken (was_held goes cuts is) =
      let same : fault ≡ streams.Write feed.items = cc in
      rw same (held_fault piece gave few before nil answer taken goes cuts)

-- an answer that is this fault
pub comes_told : (s : Session) (fault : StreamFault) (reader left : Given) (from now : Seen) (Left : Session → Type 0) → ComesFrom s reader left from now Left (Err fault) → (r : Result (Unit {0}) StreamFault) → IsErrAnd r (λ told. told ≡ fault) → ComesFrom s reader left from now Left r
comes_told s fault reader left from now Left comes (Ok x) told = absurd told
comes_told s fault reader left from now Left comes (Err other) told = rw told comes

-- what is said of the session that is left may be less
module _ (s : Session) (reader left : Given) (old new : Seen) (Left Less : Session → Type 0) (less : (t : Session) → Left t → Less t) where
  all_weaker : (items : List Item) → PerformsAll s items old new Left → PerformsAll s items old new Less
  all_weaker items p = record { performs = record { written = p.performs.written; left = less (after s items) p.performs.left }; passed = p.passed }

  stops_weaker : (items : List Item) (begun : ℕ) → Stops s items begun old new Left → Stops s items begun old new Less
  stops_weaker items begun p = record { few = p.few; cut = p.cut; whole = p.whole; state = less (after s (take begun items)) p.state }

  pub comes_weaker : (r : Result (Unit {0}) StreamFault) → ComesFrom s reader left old new Left r → ComesFrom s reader left old new Less r
  comes_weaker r (comes_done given items gave few ended read performs is) = comes_done given items gave few ended read (all_weaker items performs) is
  comes_weaker r (comes_faulty given items fault gave few decided performs is) = comes_faulty given items fault gave few decided (all_weaker items performs) is
  comes_weaker r (comes_broken given items mid gave broke few read performs is) = comes_broken given items mid gave broke few read (all_weaker items performs) is
  comes_weaker r (comes_cut given items begun gave few first before stops is) = comes_cut given items begun gave few first before (stops_weaker items begun stops) is
  comes_weaker r (comes_unwritten unread stops is) = comes_unwritten unread (stops_weaker [] 0 stops) is
  comes_weaker r (comes_unbegun unread performs is) = comes_unbegun unread (all_weaker [] performs) is
