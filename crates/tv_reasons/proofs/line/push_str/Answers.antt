use Rattle.std.proofs.Common.{◌++◌, ◌∙◌, sym, ap, map, take, map-id}
use Rattle.std.proofs.lemmas.Iterator.{YieldsList-from_chars}
use Rattle.std.proofs.lemmas.Iterator.Consumers.{YieldsList-end}
use Rattle.tv_reasons.specs.Reasons.{printed}
use Rattle.tv_reasons.proofs.CutLemmas.{as_it_was, one_more}
use Rattle.tv_reasons.proofs.line.push_str.Goals as goal

pub loop-ch-init : goal.loop-ch-init
loop-ch-init c = as_it_was c.args.line.now.items c.requires

pub loop-ch-preserved : goal.loop-ch-preserved
loop-ch-preserved c =
    one_more c.args.line.now.items c.loop-ch.line.items c.loop-ch.yielded c.push.new.chars.items c.in-Some.ch c.loop-ch.invariant c.push.ensures

pub returns : goal.returns
returns c =
    let end = YieldsList-end (YieldsList-from_chars c.args.more.now c.utf8.more cc) c.loop-ch.yielded _ c.loop-ch.yielded_by _ _ c.in-None.is c.next.ensures.steps in
    c.loop-ch.invariant ∙ ap (λ chars. take 132 (c.args.line.now.items ++ map printed chars)) (sym (map-id c.loop-ch.yielded) ∙ end.0)
