use Rattle.std.proofs.Common.{arith, ◌≡◌, ◌≤◌, ◌++◌, ◌∷◌, [], ◌∙◌, length, map, refl, ap, append_assoc, length-append}
use Rattle.std.proofs.lemmas.List.{length-map}
use Rattle.tv_model.specs.declared.log.LogLine.TheVariants as lines
use Rattle.tv_machine.specs.Leaves.{leaf_list}
use Rattle.tv_machine.specs.Dialog.Ending.{field_line, fields_of}
use Rattle.tv_group.specs.Calls.{gathered_within}
use Rattle.tv_group.specs.Opened.{opened}
use Rattle.tv_dialog.specs.Fields.{field_lines}
use Rattle.tv_dialog.specs.Plan.{leaf_plan, plan_of}
use Rattle.tv_group.proofs.Tree.EndingLemmas.{fewer_leaves, gathered-tree, steady-ended}
use Rattle.tv_dialog.proofs.FieldLemmas.{lines-fields}
use Rattle.tv_dialog.proofs.StandsLemmas.{head-parts, stands-ended}
use Rattle.tv_dialog.proofs.dialog.DialogOf.end.Goals as goal

pub returns-clause-stands : goal.returns-clause-stands
returns-clause-stands g c d m lawful short s =
    let old = c.args.self.now in
    let line = lines.End c.id.result c.args.command in
    let fields : c.gather.new.values ≡ fields_of m.leaves
    = c.gather.ensures ∙ (ap (gathered_within (opened g.V.View.meaning old.body)) c.new-fields.ensures ∙ (ap (λ xs. gathered_within xs []) s.tree ∙ gathered-tree d lawful m.leaves m s.steady.leaves)) in
    let first : length old.log.items ≤ 1 = omega (arith, ap length s.log) in
    let ended : c.note.new.log.items ≡ old.log.items ++ line ∷ [] = c.note.ensures (omega (arith, first)) in
    let count = lawful.count in
    let fewer = fewer_leaves [] d.views in
    let same : length (plan_of d.views d.rules).leaves ≡ length (leaf_list d.views) = length-map (leaf_list d.views) (leaf_plan d.views d.rules) in
    let few : length old.plan.leaves ≤ 64
    = omega (arith, ap (λ p. length p.leaves) s.plan, same, fewer, count) in
    let leaves : length c.as_slice.result.now ≤ 64 = omega (arith, ap length c.as_slice.ensures, few) in
    let short : length c.note.new.log.items ≤ 2 = omega (arith, ap length ended, length-append old.log.items (line ∷ []), first) in
    let rest : field_lines c.gather.new.values c.as_slice.result.now ≡ map field_line (fields_of m.leaves)
    = ap (field_lines c.gather.new.values) c.as_slice.ensures ∙ (ap (λ p. field_lines c.gather.new.values p.leaves) s.plan
    ∙ (ap (λ f. field_lines f (plan_of d.views d.rules).leaves) fields ∙ lines-fields d lawful m s.steady.leaves)) in
    let id : c.id.result ≡ d.node.id = c.id.ensures ∙ (head-parts d old.head s.head).1 in
    let log = c.note_fields.ensures (omega (arith, leaves, short)) ∙ (ap (λ l. l ++ field_lines c.gather.new.values c.as_slice.result.now) ended
    ∙ (append_assoc old.log.items (line ∷ []) _ ∙ (ap (λ ls. old.log.items ++ line ∷ ls) rest
    ∙ ap (λ i. old.log.items ++ lines.End i c.args.command ∷ map field_line (fields_of m.leaves)) id))) in
    stands-ended g.V.View.meaning d m c.args.command.0 old _ s (steady-ended d lawful c.args.command.0 m s.steady) refl refl refl refl refl refl refl c.enable_all.ensures.commands log
