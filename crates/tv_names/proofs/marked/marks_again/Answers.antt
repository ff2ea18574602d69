use Rattle.std.proofs.Common.{◌<◌, ◌||◌, length, rules, nat_eq, take, sym, ap, ◌∙◌, arith}
use Rattle.std.proofs.lemmas.List.Folds.{list_any_more}
use Rattle.std.specs.HashSet as set
use Rattle.std.specs.Prelude.{option_copied}
use Rattle.tv_model.specs.declared.node.Node.{Node}
use Rattle.tv_model.specs.Description.Letters.{marked_of}
use Rattle.tv_model.specs.Description.Sharing.{is_shared_by}
use Rattle.tv_model.specs.Faults.Letters.{marks_again}
use Rattle.tv_names.specs.Marked.{is_marked_by, is_marked_in, mark_again}
use Rattle.tv_model.proofs.EachAfterLemmas.{each_more}
use Rattle.tv_names.proofs.GivenLetterLemmas.{view_marks_again}
use Rattle.tv_names.proofs.marked.marks_again.Goals as goal

pub loop-view-preserved : goal.loop-view-preserved
loop-view-preserved c =
    let views = c.args.views.now in
    let i = c.loop-view.view-index in
    let view = c.view-item.result in
    let less : i < length views = omega arith in
    let all = is_shared_by (option_copied c.args.sharing) views in
    let shared = set.contains nat_eq c.in_ok-shared.shared in
    let letters = set.contains nat_eq c.loop-view.letters in
    let same = view_marks_again shared all letters (take i views) c.in_ok-shared.ensures c.loop-view.invariant.given view in
    record {
      judged = each_more (marks_again all) views i view less (search rules) _ _ c.in_ok-add_letters.field-0 c.loop-view.invariant.judged (search rules)
          (c.in_ok-add_letters.ensures.again ∙ ap (mark_again shared letters) c.marked_of.ensures ∙ same);
      given = λ letter.
          c.in_ok-add_letters.ensures.added letter
          ∙ ap (λ texts. letters letter || is_marked_in texts letter) c.marked_of.ensures
          ∙ ap (λ b. b || is_marked_in (marked_of view.kind) letter) (c.loop-view.invariant.given letter)
          ∙ ap (λ (node : Node). is_marked_by (take i views) letter || is_marked_in (marked_of node.kind) letter) c.view-item.is
          ∙ sym (list_any_more (λ (node : Node). is_marked_in (marked_of node.kind) letter) views i view less);
    }
