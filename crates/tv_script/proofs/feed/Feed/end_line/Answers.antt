use Rattle.std.proofs.Common.{◌≡◌, ◌++◌, length, Ok, Err, ap, ◌∙◌, arith, length-append}
use Rattle.std.proofs.lemmas.List.{append-nil}
use Rattle.tv_script.proofs.FeedLemmas.{judged_here, match_given, played_line, unplayed_cut, unplayed_refused}
use Rattle.tv_script.specs.Lines.{items_of_line}
use Rattle.tv_script.specs.ScriptLines.{line_meant}
use Rattle.tv_script.specs.Reading.Streams.{items_found}
use Rattle.tv_script.specs.Streams.{stream_fault}
use Rattle.tv_script.proofs.feed.Feed.end_line.Goals as goal
use Rattle.tv_script.proofs.feed.Feed.end_line.Goals.{in-Some+in_ok-items-in-Some, in-None}

pub returns-in_err-line-clause-played : goal.returns-in_err-line-clause-played
returns-in_err-line-clause-played g c = λ s from lines screen number played.
    let feed = c.args.self.now in
    let fault = c.in_err-line.field-0.0 in
    match_given _ _ (stream_fault fault)
    (unplayed_refused s lines feed.line.items from _ _ feed.items fault c.in_err-line.ensures.memory played
    (judged_here s feed lines played.items (Err fault) screen number (c.in_err-line.ensures.line played.items played.count)))
    c.from_residual.result c.from_residual.ensures.1

pub returns-in_err-items-in-Some-clause-played : goal.returns-in_err-items-in-Some-clause-played
returns-in_err-items-in-Some-clause-played g c = λ s from lines screen number played.
    let feed = c.args.self.now in
    let fault = c.in_err-items-in-Some.field-0.0 in
    let more = items_of_line (line_meant c.in-Some.line) in
    let cut = c.in_err-items-in-Some.ensures.performed s from played.items played.count played.performs in
    let judged = c.in_ok-line.ensures.line played.items played.count ∙ ap (λ x. Ok (played.items ++ items_found x)) c.in-Some.is in
    match_given _ _ fault
    (unplayed_cut s lines feed.line.items from _ _ fault feed.items cut.0 played.items (played.items ++ more) played.read
    (judged_here s feed lines played.items (Ok (played.items ++ more)) screen number judged) cut.1 cut.2 cut.3)
    c.from_residual-in_err-items-in-Some.result c.from_residual-in_err-items-in-Some.ensures.1

pub returns-clause-there : goal.returns-clause-there
returns-clause-there g c =
    elim c.match-branch-2.branch [
      | in-Some+in_ok-items-in-Some w ↦ rw w.stage-is w.perform_line.ensures.there
      | in-None w ↦ rw w.stage-is c.requires.there
    ]

pub returns-clause-played : goal.returns-clause-played
returns-clause-played g c = λ s from lines screen number played.
    let feed = c.args.self.now in
    elim c.match-branch-2.branch [
      | in-Some+in_ok-items-in-Some w ↦
          let more = items_of_line (line_meant w.in-Some.line) in
          let judged = c.in_ok-line.ensures.line played.items played.count ∙ ap (λ x. Ok (played.items ++ items_found x)) w.in-Some.is in
          let performed = w.in_ok-items-in-Some.ensures.performed s from played.items played.count played.performs in
          let count : c.match-branch-2.items ≡ length (played.items ++ more) = omega (arith, w.items-is, w.in_ok-items-in-Some.ensures.count, played.count, length-append played.items more) in
          rw (w.pen-is, w.stage-is)
          (played_line s lines feed.line.items from _ _ c.match-branch-2.items played.items (played.items ++ more) played.read
          (judged_here s feed lines played.items (Ok (played.items ++ more)) screen number judged) count performed)
      | in-None w ↦
          let judged = c.in_ok-line.ensures.line played.items played.count ∙ ap (λ x. Ok (played.items ++ items_found x)) w.in-None.is ∙ ap (λ x. Ok x) (append-nil played.items) in
          rw (w.pen-is, w.stage-is)
          (played_line s lines feed.line.items from _ _ c.match-branch-2.items played.items played.items played.read
          (judged_here s feed lines played.items (Ok played.items) screen number judged) (w.items-is ∙ played.count) played.performs)
    ]
