use Rattle.std.proofs.Common.{arith, ◌++◌, ◌∷◌, [], ◌∙◌, subst, sym}
use Rattle.tv_machine.specs.Dialog.Sound.{IsSoundDialog}
use Rattle.tv_dialogs.proofs.BodyLemmas.{IsMaking, making-fresh, making-less, making-on, making-there}
use Rattle.tv_dialogs.proofs.bodies.keep_all.Goals as goal

-- the last body was taken
taken : (g : _) (c : goal.After-index-dialogs-len g) → IsMaking g.V.View.meaning c.args.dialogs.now c.args.bodies.items (c.pop.new.self.items ++ c.in-Some.body ∷ []) c.loop-body.kept.items
taken g c =
    subst (λ bodies. IsMaking g.V.View.meaning c.args.dialogs.now c.args.bodies.items bodies c.loop-body.kept.items) c.in-Some.ensures.items c.loop-body.invariant.0

pub new-requires-clause-sound : goal.new-requires-clause-sound
new-requires-clause-sound g c =
    let less = making-less g.V.View.meaning c.args.dialogs.now c.args.bodies.items c.requires.fresh c.pop.new.self.items c.in-Some.body c.loop-body.kept.items (taken g c) c.len.result
    (omega (arith, c.len.ensures, c.pop.new.self.ok.0)) in
    subst IsSoundDialog (sym c.index-dialogs-len.is) (c.requires.sound c.len.result c.index-dialogs-len.result less)

pub new-requires-clause-fresh : goal.new-requires-clause-fresh
new-requires-clause-fresh g c =
    let look = g.V.View.meaning in
    let dialogs = c.args.dialogs.now in
    let first = c.args.bodies.items in
    let rest = c.pop.new.self.items in
    let declared = c.index-dialogs-len.result in
    let is = taken g c in
    making-fresh look dialogs first c.requires.fresh rest c.in-Some.body c.loop-body.kept.items is declared
    (making-there look dialogs first c.requires.fresh rest c.in-Some.body c.loop-body.kept.items is c.len.result declared
    (omega (arith, c.len.ensures, c.pop.new.self.ok.0)) c.index-dialogs-len.is)

pub loop-body-preserved : goal.loop-body-preserved
loop-body-preserved g c =
    let look = g.V.View.meaning in
    let dialogs = c.args.dialogs.now in
    let first = c.args.bodies.items in
    let rest = c.pop.new.self.items in
    let declared = c.index-dialogs-len.result in
    let kept = c.loop-body.kept.items in
    let is = subst (λ bodies. IsMaking look dialogs first bodies kept) c.in-Some.ensures.items c.loop-body.invariant.0 in
    let there =
    making-there look dialogs first c.requires.fresh rest c.in-Some.body kept is c.len.result declared (omega (arith, c.len.ensures, c.pop.new.self.ok.0)) c.index-dialogs-len.is in (
      subst (IsMaking look dialogs first rest) (sym c.push_reserved.ensures.items)
          (making-on look dialogs first c.requires.fresh rest c.in-Some.body kept is declared c.in-Ok-new.made there c.in-Ok-new.ensures.kept c.in-Ok-new.ensures.body),
      c.pop.ensures.capacity ∙ c.loop-body.invariant.1,
      c.push_reserved.ensures.capacity ∙ c.loop-body.invariant.2,
    )
