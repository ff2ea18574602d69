use Rattle.tv_picture.proofs.Joined.{gathered_alone, gathered_joined, places_parted}
use Rattle.tv_picture.proofs.table.Table.gather_more.Goals as goal

pub returns-then-contains_all : goal.returns-then-contains_all
returns-then-contains_all c = λ b text same cb g.
    gathered_joined b text c.args.places c.args.before c.without.result c.args.self.now c.args.gathered c.gather_all-more.result c.join.result
    (places_parted c.args.places c.args.before c.without.result (c.contains_all.ensures.0 c.if-contains_all.true) c.without.ensures)
    g
    (gathered_alone b text c.without.result c.args.self.now c.args.len c.gather_all-more.result same cb c.gather_all-more.ensures)
    c.join.ensures.ends c.join.ensures.next

pub returns-else-contains_all : goal.returns-else-contains_all
returns-else-contains_all c = λ b text same cb g. gathered_alone b text c.args.places c.args.self.now c.args.len c.gather_all.result same cb c.gather_all.ensures
