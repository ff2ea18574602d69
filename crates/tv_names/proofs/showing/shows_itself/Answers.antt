use Rattle.std.proofs.Common.{◌≡◌, ℕ, Bool, List, [], ◌∷◌, take, Some, arith}
use Rattle.std.specs.Prelude.{slice_index_or}
use Rattle.tv_model.specs.declared.desc.Rule.{Rule}
use Rattle.tv_model.specs.declared.node.Node.{Node}
use Rattle.tv_model.specs.Faults.Rules.{shows_cluster, shows_itself}
use Rattle.tv_names.specs.Named.{IsFirstAt, first_given}
use Rattle.tv_names.proofs.showing.shows_itself.Goals as goal

-- the cluster is the view at the place
there : (views : List Node) (rule : Rule) (i : ℕ) (d : Node) (b : Bool) → first_given views rule.cluster ≡ Some (take i views, slice_index_or views i d)
    → b ≡ shows_cluster views rule (take i views) (slice_index_or views i d) → b ≡ shows_itself views rule
there views rule i d b e is = rw e is

at : (views : List Node) (rule : Rule) (i : ℕ) (b : Bool) → IsFirstAt views rule.cluster i
    → ((cluster : Node) → b ≡ shows_cluster views rule (take i views) (slice_index_or views i cluster)) → b ≡ shows_itself views rule
at [] rule i b first is = absurd (omega (arith, first.0))
at (view ∷ views) rule i b first is = there (view ∷ views) rule i view b (first.1 view) (is view)

pub returns-in-Some : goal.returns-in-Some
returns-in-Some c = at c.args.names.now c.args.rule.now c.in-Some.place c.shows_cluster.result c.in-Some.ensures c.shows_cluster.ensures
