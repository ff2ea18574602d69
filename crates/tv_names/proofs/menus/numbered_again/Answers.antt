use Rattle.std.proofs.Common.{◌≡◌, ◌&&◌, rules, arith, pos, ap, ◌∙◌}
use Rattle.std.proofs.lemmas.Grind.{common_steps}
use Rattle.std.proofs.lemmas.List.Folds.{list_any_more}
use Rattle.std.specs.HashSet as set
use Rattle.std.specs.Ordering.{int_eq}
use Rattle.tv_model.specs.Description.Heads.{window_head}
use Rattle.tv_model.specs.Faults.Letters.{numbered_again}
use Rattle.tv_model.specs.Description.Numbers.{is_between}
use Rattle.tv_model.proofs.EachAfterLemmas.{each_more}
use Rattle.tv_names.proofs.menus.numbered_again.Goals as goal

pub loop-window-preserved : goal.loop-window-preserved
loop-window-preserved c =
    let number = (window_head c.window-item.result).number in
    let is_again : c.if-number-le9.push ≡ (is_between (pos 1) (pos 9) number && set.contains int_eq c.loop-window.numbers number) = grind (arith, common_steps, c.head.ensures, c.in_ok-is_given.ensures.added) in
    record {
      judged = each_more numbered_again c.args.windows.now c.loop-window.window-index c.window-item.result (search rules) (search rules) _ _ c.if-number-le9.push c.loop-window.invariant.judged (search rules) (is_again ∙ ap (λ b. is_between (pos 1) (pos 9) number && b) (c.loop-window.invariant.given number));
      given = λ n. grind (arith, common_steps, list_any_more, c.head.ensures, c.loop-window.invariant.given n);
    }
