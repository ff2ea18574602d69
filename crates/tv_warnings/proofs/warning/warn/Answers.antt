use Rattle.std.proofs.Common.{◌∙◌, List, ap, string_bytes, subst}
use Rattle.std.specs.List.{list_any}
use Rattle.tv_warnings.specs.Findings.{is_warning}
use Rattle.tv_warnings.specs.Warned.{IsWarningReport}
use Rattle.tv_warnings.specs.declared.finding.Finding.{Finding}
use Rattle.tv_warnings.proofs.warning.warn.Goals as goal

pub returns : goal.returns
returns c = record {
  findings = c.in_ok-found.found.items;
  found = c.in_ok-found.ensures;
  report = subst (λ (findings : List Finding). IsWarningReport c.args.manner c.args.name.now c.args.text.now c.args.desc.now findings (string_bytes c.in_ok-report.report)) c.deref.ensures.value c.in_ok-report.ensures;
  any = c.is_any_warning.ensures ∙ ap (list_any is_warning) c.deref-2.ensures.value;
}
