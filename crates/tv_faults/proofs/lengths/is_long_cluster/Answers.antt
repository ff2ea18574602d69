use Rattle.std.proofs.Common.{sym, ◌∙◌}
use Rattle.tv_model.specs.Faults.Limits.{is_too_long}
use Rattle.tv_model.proofs.ListLemmas.{any_map}
use Rattle.tv_faults.proofs.lengths.is_long_cluster.Goals as goal

pub returns : goal.returns
returns c = c.has_long_item.ensures ∙ sym (any_map is_too_long (λ item. item.text) c.args.items.now)
