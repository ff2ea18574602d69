use Rattle.std.proofs.Common.{◌∙◌, [], ap, is_some, subst, sym}
use Rattle.tv_group.specs.Calls.{HasRoomForAll, all_gathered}
use Rattle.tv_group.specs.Opened.{opened}
use Rattle.tv_laws.proofs.WorkLemmas.{sound-at}
use Rattle.tv_dialogs.specs.Dialogs.{at_work}
use Rattle.tv_dialogs.specs.Records.{current_of}
use Rattle.tv_dialogs.proofs.CurrentLemmas.{current-none, current-some}
use Rattle.tv_dialogs.proofs.ValueLemmas.{stands-room, stands-values}
use Rattle.tv_dialogs.proofs.dialogs.DialogsOf.current.Goals as goal

pub record-requires : goal.record-requires
record-requires g c =
    let look = g.V.View.meaning in
    let d = c.requires.run.0 in
    let s = c.requires.run.1 in
    let run = c.requires.run.2 in
    let k = c.in-Some.kept.now in
    let x = current-some look d s c.args.self.now run.are k c.in-Some.ensures in
    let sound = sound-at d run.sound x.o.place x.among.dialog x.among.there in
    subst (HasRoomForAll (opened look k.dialog.body)) (sym c.requires.empty)
    (subst (λ y. HasRoomForAll (opened look y.dialog.body) []) x.same
    (stands-room look x.among.dialog sound.lawful x.o.leaves (at_work s x.o x.among.kept.dialog.log.items) x.among.kept.dialog x.among.stands))

pub returns-in-Some : goal.returns-in-Some
returns-in-Some g c = λ d s run.
    let look = g.V.View.meaning in
    let k = c.in-Some.kept.now in
    let x = current-some look d s c.args.self.now run.are k c.in-Some.ensures in
    let sound = sound-at d run.sound x.o.place x.among.dialog x.among.there in (
      sym (ap is_some x.is),
      c.record.ensures ∙ ap (all_gathered (opened look k.dialog.body)) c.requires.empty ∙ sym (ap (λ y. all_gathered (opened look y.dialog.body) []) x.same)
          ∙ stands-values look x.among.dialog sound.lawful x.o.leaves (at_work s x.o x.among.kept.dialog.log.items) x.among.kept.dialog x.among.stands
          ∙ sym (ap current_of x.is),
    )

pub returns-in-None : goal.returns-in-None
returns-in-None g c = λ d s run.
    let none = current-none g.V.View.meaning d s c.args.self.now run.are c.in-None.ensures in
    (sym (ap is_some none), c.requires.empty ∙ sym (ap current_of none))
