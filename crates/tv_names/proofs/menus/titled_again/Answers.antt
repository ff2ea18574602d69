use Rattle.std.proofs.Common.{rules, arith, nat_eq, take, ◌∙◌}
use Rattle.std.proofs.lemmas.Grind.{common_steps}
use Rattle.std.proofs.lemmas.List.Folds.{list_any_more}
use Rattle.std.specs.HashSet as set
use Rattle.tv_model.specs.Faults.Letters.{titled_again}
use Rattle.tv_model.proofs.EachAfterLemmas.{each_more}
use Rattle.tv_names.proofs.GivenLetterLemmas.{marks_given}
use Rattle.tv_names.proofs.menus.titled_again.Goals as goal

pub loop-menu-preserved : goal.loop-menu-preserved
loop-menu-preserved c =
    let seen = take c.loop-menu.menu-index c.args.menus.now in
    let same = marks_given (λ menu. menu.title) c.menu-item.result.title (set.contains nat_eq c.loop-menu.letters) seen c.loop-menu.invariant.given in
    record {
      judged = each_more titled_again c.args.menus.now c.loop-menu.menu-index c.menu-item.result (search rules) (search rules) _ _ c.in_ok-add_letter.field-0 c.loop-menu.invariant.judged (search rules) (c.in_ok-add_letter.ensures.again ∙ same);
      given = λ letter. grind (arith, common_steps, list_any_more, c.loop-menu.invariant.given letter);
    }
