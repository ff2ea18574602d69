use Rattle.std.proofs.Common.{◌≡◌, ◌∙◌, false, List, Some, is_some, ap, sym, subst, slice_get, arith, rules}
use Rattle.std.proofs.lemmas.Bool.{true≢false}
use Rattle.std.proofs.lemmas.Option.{slice_get-get_or, slice_get_within}
use Rattle.tv_model.specs.declared.desc.Dialog.{Dialog}
use Rattle.tv_model.specs.Description.Nodes.{node_of}
use Rattle.tv_ways.proofs.RunningLemmas.{only_more}
use Rattle.tv_ways.proofs.running.is_only_in.Goals as goal
use Rattle.tv_ways.proofs.running.is_only_in.Goals.{else-at-place-via-then-at-place+else-is_some, else-at-place-via-else-at-place}

pub loop-at-preserved : goal.loop-at-preserved
loop-at-preserved c =
    let dialogs = c.as_slice-dialogs.result.now in
    let at = c.loop-at.at in
    let dialog = c.index-dialogs-at.result in
    let there : slice_get dialogs at ≡ Some dialog = slice_get-get_or dialogs at dialog c.loop-at-test.true ∙ ap (λ d. Some d) (sym c.index-dialogs-at.is) in
    elim c.else-at-place.branch [
      | else-at-place-via-then-at-place+else-is_some w ↦
          let none : is_some (node_of dialog.views c.args.id) ≡ false = search rules in
          only_more dialogs c.args.place at c.args.id dialog there (λ has. absurd (true≢false (sym has ∙ none))) c.loop-at.invariant
      | else-at-place-via-else-at-place w ↦
          let here : at ≡ c.args.place = search rules in
          only_more dialogs c.args.place at c.args.id dialog there (λ has. here) c.loop-at.invariant
    ]

pub returns : goal.returns
returns c = λ e at dialog found has.
    let dialogs = c.as_slice-dialogs.result.now in
    let here : slice_get dialogs at ≡ Some dialog
    = subst (λ (ds : List Dialog). slice_get ds at ≡ Some dialog) (sym c.as_slice-dialogs.ensures) found in
    let within = slice_get_within dialogs at dialog here in
    let past = c.loop-at-test.false in
    c.loop-at.invariant at dialog (omega (arith, within, past)) here has
