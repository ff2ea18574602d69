use Rattle.std.proofs.Common.{◌≡◌, take}
use Rattle.std.specs.HashSet as set
use Rattle.std.specs.List.{list_any}
use Rattle.tv_event.specs.declared.event.Key.{Key}
use Rattle.tv_model.specs.Faults.Letters.{has_bad_key}
use Rattle.tv_model.specs.Faults.Each.{each_after}
use Rattle.tv_names.proofs.GivenKeyLemmas.{are_equal}
use Rattle.tv_names.proofs.keys.bad_keys.Given as goal

abbrev pub invariant-loop-item : goal.invariant-loop-item
invariant-loop-item l = record {
  judged : l.bad.items ≡ each_after (has_bad_key l.desc) (take l.item-index l.desc.status);
  given : (key : Key) → set.contains are_equal l.keys key ≡ list_any (λ item. are_equal item.key key) (take l.item-index l.desc.status);
}
