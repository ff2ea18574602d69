use Rattle.std.proofs.Common.{sym, ◌∙◌}
use Rattle.tv_model.specs.Faults.Texts.{is_wide_text}
use Rattle.tv_model.proofs.ListLemmas.{any_map}
use Rattle.tv_faults.proofs.wide.is_wide_cluster.Goals as goal

pub returns : goal.returns
returns c = c.has_wide_item.ensures ∙ sym (any_map is_wide_text (λ item. item.text) c.args.items.now)
