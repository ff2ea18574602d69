use Rattle.std.proofs.Common.{◌≡◌, ℕ, ◌<◌, ◌≤◌, ◌==◌, Bool, true, false, length, rules, sym, ap, ◌∙◌, arith}
use Rattle.std.specs.Prelude.{slice_index, slice_index_or}
use Rattle.std.specs.List.{list_all}
use Rattle.std.proofs.lemmas.List.{drop_all, get_or_default, get_or_read}
use Rattle.tv_model.specs.declared.node.Node.{Node}
use Rattle.tv_model.specs.Description.Sharing.{marked_times}
use Rattle.tv_names.proofs.SharingLemmas.{all_ends, all_next}
use Rattle.tv_names.proofs.sharing.mark_once.Goals as goal

pub loop-place-preserved : goal.loop-place-preserved
loop-place-preserved c = λ view.
    let views = c.args.views.now in
    let places = c.args.places.now in
    let i = c.loop-place.place-index in
    let place = slice_index places i in
    let once : ℕ → Bool = λ at. marked_times c.args.letter (slice_index_or views at view) == 1 in
    let less : i < length places = omega arith in
    let within : place < length views = c.requires i 0 less in
    let node : slice_index_or views place view ≡ c.index-views-place.result = sym (get_or_read views place c.index-views-place.result within c.index-views-place.is view) in
    let passes : c.marks_once.result ≡ true = search rules in
    all_next once places i place less (get_or_default places i 0 place less) (ap (λ (n : Node). marked_times c.args.letter n == 1) node ∙ sym c.marks_once.ensures ∙ passes) ∙ c.loop-place.invariant view

pub returns-then-not-marks_once : goal.returns-then-not-marks_once
returns-then-not-marks_once c = λ view.
    let views = c.args.views.now in
    let places = c.args.places.now in
    let i = c.loop-place.place-index in
    let place = slice_index places i in
    let once : ℕ → Bool = λ at. marked_times c.args.letter (slice_index_or views at view) == 1 in
    let less : i < length places = omega arith in
    let within : place < length views = c.requires i 0 less in
    let node : slice_index_or views place view ≡ c.index-views-place.result = sym (get_or_read views place c.index-views-place.result within c.index-views-place.is view) in
    let fails : c.marks_once.result ≡ false = search rules in
    sym (sym (c.loop-place.invariant view) ∙ all_ends once places i place less (get_or_default places i 0 place less) (ap (λ (n : Node). marked_times c.args.letter n == 1) node ∙ sym c.marks_once.ensures ∙ fails))

pub returns : goal.returns
returns c = λ view.
    let places = c.args.places.now in
    let once : ℕ → Bool = λ at. marked_times c.args.letter (slice_index_or c.args.views.now at view) == 1 in
    let past : length places ≤ c.loop-place.place-index = omega arith in
    ap (list_all once) (sym (drop_all c.loop-place.place-index places past)) ∙ c.loop-place.invariant view
