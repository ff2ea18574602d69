use Rattle.std.proofs.Common.{◌≡◌, ◌+◌, ◌<◌, ◌++◌, ◌∙◌, sym, arith, ap, length, map-id}
use Rattle.std.proofs.lemmas.Iterator.{YieldsList-from_chars}
use Rattle.std.proofs.lemmas.Iterator.Consumers.{YieldsList-turn, YieldsList-end}
use Rattle.std.proofs.lemmas.List.{length-append}
use Rattle.std.proofs.lemmas.Grind.{common_steps}
use Rattle.std.specs.Str.{chars}
use Rattle.tv_cells.proofs.hot_text.push_all.Goals as goal

pub returns-in_err-push-clause-fault : goal.returns-in_err-push-clause-fault
returns-in_err-push-clause-fault c =
    let t = YieldsList-turn (YieldsList-from_chars c.args.text.now c.utf8.text cc) c.loop-ch.yielded _ c.loop-ch.yielded_by _ _ c.in-Some.ch c.in-Some.is c.next.ensures.steps in
    let fault = c.in_err-push.ensures.fault in
    let full : length c.loop-ch.items.items ≡ length c.args.items.now.items + length c.loop-ch.yielded = ap length c.loop-ch.invariant.0 ∙ length-append c.args.items.now.items c.loop-ch.yielded in
    let long : 120 < length c.args.items.now.items + length (chars c.args.text.now) = omega (arith, t.0, full, fault.1) in
    grind (arith, common_steps, long, fault.0)

pub returns-clause-ok : goal.returns-clause-ok
returns-clause-ok c =
    let end = YieldsList-end (YieldsList-from_chars c.args.text.now c.utf8.text cc) c.loop-ch.yielded _ c.loop-ch.yielded_by _ _ c.in-None.is c.next.ensures.steps in
    c.loop-ch.invariant.0 ∙ ap (λ xs. c.args.items.now.items ++ xs) (sym (map-id c.loop-ch.yielded) ∙ end.0)
