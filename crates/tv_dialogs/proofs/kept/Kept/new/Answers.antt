use Rattle.std.proofs.Common.{◌∙◌, refl, ap, sym, subst}
use Rattle.tv_group.specs.Calls.{HasRoomForAll, all_gathered}
use Rattle.tv_group.specs.Opened.{opened}
use Rattle.tv_group.specs.Outline.{IsFreshBody}
use Rattle.tv_dialogs.proofs.CornerLemmas.{lawful-corner}
use Rattle.tv_dialogs.proofs.ValueLemmas.{lawful-limited, new-kept, new-room}
use Rattle.tv_dialogs.proofs.kept.Kept.new.Goals as goal

pub new-requires-clause-limited : goal.new-requires-clause-limited
new-requires-clause-limited g c = lawful-limited c.args.declared.now c.requires.sound.lawful

pub new-requires-clause-corner : goal.new-requires-clause-corner
new-requires-clause-corner g c = lawful-corner c.args.declared.now c.requires.sound.lawful

pub record-requires : goal.record-requires
record-requires g c =
    let look = g.V.View.meaning in
    subst (λ body. HasRoomForAll (opened look body) c.in-Ok.values) (sym c.in-Ok-new.ensures.body)
    (subst (λ entries. HasRoomForAll (opened look c.args.body) entries) (sym c.in-Ok.ensures)
    (new-room c.args.declared.now c.requires.sound look c.args.body c.requires.fresh))

pub returns-in-Ok-new-clause-kept : goal.returns-in-Ok-new-clause-kept
returns-in-Ok-new-clause-kept g c =
    let look = g.V.View.meaning in
    let declared = c.args.declared.now in
    let views = c.as_slice-views.ensures in
    new-kept declared c.requires.sound look c.args.body c.requires.fresh (record { dialog = c.in-Ok-new.dialog; values = c.record.new.values })
    (c.in-Ok-new.ensures.fresh declared refl (sym views) (sym c.as_slice-rules.ensures) c.requires.sound.lawful
    (subst (λ vs. IsFreshBody look declared.node vs c.args.body) (sym views) c.requires.fresh))
    c.in-Ok-new.ensures.body (c.record.ensures ∙ ap (all_gathered (opened look c.in-Ok-new.dialog.body)) c.in-Ok.ensures)
