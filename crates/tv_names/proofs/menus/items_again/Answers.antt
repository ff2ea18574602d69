use Rattle.std.proofs.Common.{rules, arith, nat_eq, take, ◌∙◌}
use Rattle.std.proofs.lemmas.Grind.{common_steps}
use Rattle.std.proofs.lemmas.List.Folds.{list_any_more}
use Rattle.std.specs.HashSet as set
use Rattle.tv_model.specs.Faults.Letters.{item_again}
use Rattle.tv_model.proofs.EachAfterLemmas.{each_more}
use Rattle.tv_names.proofs.GivenLetterLemmas.{marks_given}
use Rattle.tv_names.proofs.menus.items_again.Goals as goal

pub loop-item-preserved : goal.loop-item-preserved
loop-item-preserved c =
    let seen = take c.loop-item.item-index c.args.items.now in
    let same = marks_given (λ item. item.text) c.item-item.result.text (set.contains nat_eq c.loop-item.letters) seen c.loop-item.invariant.given in
    record {
      judged = each_more item_again c.args.items.now c.loop-item.item-index c.item-item.result (search rules) (search rules) _ _ c.in_ok-add_letter.field-0 c.loop-item.invariant.judged (search rules) (c.in_ok-add_letter.ensures.again ∙ same);
      given = λ letter. grind (arith, common_steps, list_any_more, c.loop-item.invariant.given letter);
    }
