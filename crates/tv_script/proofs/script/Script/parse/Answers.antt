use Rattle.std.proofs.Common.{◌≡◌}
use Rattle.tv_script.specs.Scripts.{SpellsAScript}
use Rattle.tv_script.proofs.EventLemmas.{shown_items}
use Rattle.tv_script.proofs.SizeLemmas.{passed}
use Rattle.tv_script.proofs.script.Script.parse.Goals as goal

pub invariant_of-result : goal.invariant_of-result
invariant_of-result c =
    shown_items c.args.width c.args.height c.requires.columns c.requires.rows c.args.text.now c.in_ok-items.items
    (passed (λ width height. SpellsAScript width height c.args.text.now c.in_ok-items.items) c.args.width c.args.height c.ranges.width c.ranges.height c.in_ok-items.ensures.spelled)

pub returns-clause-only : goal.returns-clause-only
returns-clause-only c = λ items spelled.
    passed (λ width height. SpellsAScript width height c.args.text.now items → c.in_ok-items.items ≡ items) c.args.width c.args.height c.ranges.width c.ranges.height (c.in_ok-items.ensures.only items) spelled
