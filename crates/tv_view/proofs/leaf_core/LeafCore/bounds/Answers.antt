use Rattle.std.proofs.Common.{◌≡◌, ◌+ℤ◌, ◌≤ℤ◌, IsTrue, pos, rules, sym, subst}
use Rattle.tv_model.specs.Description.Rectangles.{IsSmallRect, place_of_node}
use Rattle.tv_model.specs.Description.Nodes.{is_cluster}
use Rattle.tv_view.proofs.CoreLemmas.{cluster_rows, limited_small}
use Rattle.tv_view.proofs.leaf_core.LeafCore.bounds.Goals as goal

pub returns-clause-small : goal.returns-clause-small
returns-clause-small c =
    let node = c.self.inside.node in
    let is : c.self.inside.bounds ≡ place_of_node node = c.self.invariant.1 in
    subst IsSmallRect (sym is) (limited_small node c.self.invariant.0.limited)

pub returns-clause-cluster : goal.returns-clause-cluster
returns-clause-cluster c own =
    let node = c.self.inside.node in
    let is : c.self.inside.bounds ≡ place_of_node node = c.self.invariant.1 in
    let same : c.args.self.now.node.kind ≡ node.kind = search rules in
    let cluster : IsTrue (is_cluster node.kind) = subst (λ kind. IsTrue (is_cluster kind)) same own in
    subst (λ r. r.b.y ≤ℤ (r.a.y +ℤ pos 16)) (sym is) (cluster_rows node.kind node.y cluster c.self.invariant.0.limited.count)
