use Rattle.std.proofs.Common.{◌∙◌, ◌++◌, List, ap, flat_map, rules, subst}
use Rattle.tv_ways.specs.declared.asking.Way.{Way}
use Rattle.tv_warnings.specs.declared.finding.Finding.{Finding}
use Rattle.tv_warnings.specs.Findings.{AddsRefused, way_findings}
use Rattle.tv_warnings.proofs.looking.findings_at.Goals as goal

pub returns : goal.returns
returns c =
    let d = c.args.placed.desc.now in
    let place = c.args.placed.place in
    let dialog = c.args.placed.dialog.now in
    let ways = c.in_ok-ways.ways.items in
    let told = c.in_ok-add_ways.ensures
    ∙ ap (λ (before : List Finding). before ++ flat_map (way_findings dialog c.deref.result.now) c.deref.result.now) c.new-found.ensures.items
    ∙ ap (λ (all : List Way). flat_map (way_findings dialog all) all) c.deref.ensures.value in
    record {
      ways = ways;
      right = search rules;
      all = subst (λ (before : List Finding). AddsRefused d place dialog ways before c.add_refused.new.found.items) told
          (subst (λ (all : List Way). AddsRefused d place dialog all c.add_ways.new.found.items c.add_refused.new.found.items) c.deref-2.ensures.value
          c.in_ok-add_refused.ensures);
    }
