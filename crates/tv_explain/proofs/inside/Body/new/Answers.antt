use Rattle.std.proofs.Common.{◌≡◌, IsTrue, nat_eq, option_copied, subst, sym}
use Rattle.std.specs.HashSet as set
use Rattle.std.specs.List.Sorted.{IsNonDecreasingBy}
use Rattle.tv_model.specs.Description.Sharing.{is_shared_by}
use Rattle.tv_explain.proofs.inside.Body.new.Goals as goal

pub invariant_of-result : goal.invariant_of-result
invariant_of-result c =
    let same = sym c.in_ok-names.ensures in (
      subst (λ views. IsTrue c.are_in_order-are_in_order.result → IsNonDecreasingBy (λ node. node.id.0) views) same c.are_in_order-are_in_order.ensures,
      λ letter. subst (λ views. set.contains nat_eq c.in_ok-shared.shared letter ≡ is_shared_by (option_copied c.args.sharing) views letter) same (c.in_ok-shared.ensures letter),
    )
