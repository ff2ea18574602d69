use Rattle.std.proofs.Common.{◌≡◌, rules, sym, subst, ◌∙◌}
use Rattle.tv_model.specs.Faults.{all_kinds, faults_at, faults_of}
use Rattle.tv_faults.proofs.FoundLemmas.{more_found}
use Rattle.tv_faults.specs.Order.{AreInOrder}
use Rattle.tv_faults.proofs.OrderLemmas.{in_order}
use Rattle.tv_faults.proofs.RisingLemmas.{rising_lines}
use Rattle.tv_faults.proofs.SoundLemmas.{sound_holds, sound_says}
use Rattle.tv_faults.proofs.list.faults.Goals as goal

pub loop-kind-preserved : goal.loop-kind-preserved
loop-kind-preserved c =
    more_found (λ kind. faults_at kind c.args.desc.now) all_kinds c.loop-kind.kind-index _ c.loop-kind.found _ (faults_of c.args.desc.now) c.loop-kind-test.true c.loop-kind.invariant c.in_ok-add_kind.ensures

pub returns-clause-sound : goal.returns-clause-sound
returns-clause-sound c = let list : c.loop-kind.found ≡ faults_of c.args.desc.now = search rules in
    (λ none. sound_says c.args.desc.now (sym list ∙ none), λ sound. list ∙ sound_holds c.args.desc.now sound)

pub returns-clause-order : goal.returns-clause-order
returns-clause-order c spelled =
    let list : c.loop-kind.found ≡ faults_of c.args.desc.now = search rules in
    subst AreInOrder (sym list) (in_order c.args.desc.now (rising_lines c.args.desc.now spelled))
