use Rattle.std.proofs.Common.{◌≡◌, ◌++◌, List, ℕ, ap, append_assoc, ◌∙◌}
use Rattle.tv_io.proofs.PenLemmas.{Puts-along, Puts-then}
use Rattle.tv_terminal.specs.Written.{going, showing}
use Rattle.std.proofs.Common.{true}
use Rattle.tv_terminal.proofs.hand.Hand.finish.Goals as goal

pub returns-in-Some-clause-puts : goal.returns-in-Some-clause-puts
returns-in-Some-clause-puts g c =
    let waited = c.args.self.now.waiting.items in
    let placing = going c.args.self.now.place c.in-Some.column c.in-Some.row in
    let last = showing c.args.was_on true in
    let there : c.go.new.self.waiting.items ≡ placing =
    c.go.ensures.bytes ∙ ap (λ (t : List ℕ). t ++ going c.flush.new.self.place c.in-Some.column c.in-Some.row) c.flush.ensures.bytes
    ∙ ap (λ place. going place c.in-Some.column c.in-Some.row) c.flush.ensures.place in
    let one = append_assoc waited c.go.new.self.waiting.items last ∙ ap (λ (t : List ℕ). waited ++ (t ++ last)) there in
    rw c.in-Some.is (Puts-along one (Puts-then (Puts-then c.flush.ensures.puts c.flush-in-Some.ensures.puts) c.show.ensures))

pub returns-in-None-clause-puts : goal.returns-in-None-clause-puts
returns-in-None-clause-puts g c = rw c.in-None.is (Puts-then c.flush.ensures.puts c.show-in-None.ensures)
