use Rattle.std.proofs.Common.{◌≡◌, rules, arith, not, ◌&&◌, ◌||◌, nat_eq, take, sym, ap, ◌∙◌}
use Rattle.std.proofs.lemmas.Grind.{common_steps}
use Rattle.std.proofs.lemmas.List.Folds.{list_any_more}
use Rattle.std.specs.HashSet as set
use Rattle.std.specs.List.{list_any}
use Rattle.tv_model.specs.Description.Marks.{marks_any, shares_letter}
use Rattle.tv_names.specs.Marked.{mark_again}
use Rattle.tv_model.proofs.EachAfterLemmas.{any_more}
use Rattle.tv_model.proofs.TestLemmas.{and_false, and_true}
use Rattle.tv_names.proofs.GivenLetterLemmas.{marks_given_on_line}
use Rattle.tv_names.proofs.marked.add_letters.Goals as goal
use Rattle.tv_names.proofs.marked.add_letters.Goals.{else-is_given, then-is_given}

pub loop-text-preserved : goal.loop-text-preserved
loop-text-preserved c =
    let old = set.contains nat_eq c.args.letters.now in
    let shared = set.contains nat_eq c.args.shared.now in
    let seen = take c.loop-text.text-index c.args.texts.now in
    let same = marks_given_on_line c.text-item.result (set.contains nat_eq c.loop-text.letters) old seen c.loop-text.invariant.added in
    let more = any_more (λ pair. not (marks_any shared pair.1) && (marks_any old pair.1 || list_any (shares_letter pair.1) pair.0)) c.args.texts.now c.loop-text.text-index c.text-item.result (search rules) (search rules) in
    let shares = marks_any shared c.text-item.result in
    let here : c.if-is_given.again ≡ (not shares && c.in_ok-is_given.is_given) = elim c.if-is_given.branch [
      | then-is_given w ↦ w.again-is ∙ ap not w.marks_any.ensures ∙ sym (ap (λ b. not shares && b) w.if-is_given.true ∙ and_true (not shares))
      | else-is_given w ↦ w.again-is ∙ w.if-is_given.false ∙ sym (ap (λ b. not shares && b) w.if-is_given.false ∙ and_false (not shares))
    ] in
    record {
      again = ap (λ b. b || c.if-is_given.again) c.loop-text.invariant.again
          ∙ ap (λ b. mark_again shared old seen || b) (here ∙ ap (λ b. not shares && b) (c.in_ok-is_given.ensures.again ∙ same))
          ∙ sym more;
      added = λ letter. grind (arith, common_steps, list_any_more, c.loop-text.invariant.added letter);
    }
