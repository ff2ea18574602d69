use Rattle.std.proofs.Common.{arith, ◌∙◌, ◌<◌, length, Some, None, refl, ap, sym, subst, option_map, slice_index_or, slice_set}
use Rattle.std.specs.Bool.{then_some}
use Rattle.std.specs.Vec.{with_item}
use Rattle.std.proofs.lemmas.Option.{slice_get_read}
use Rattle.tv_dialogs.specs.Dialogs.{at_work, kept_at}
use Rattle.tv_dialogs.specs.Kept.{values_after}
use Rattle.tv_machine.specs.Session.Step.{to_dialog}
use Rattle.tv_dialogs.specs.Damage.{KeptDamages}
use Rattle.tv_dialogs.proofs.CornerLemmas.{same-bounds}
use Rattle.tv_dialogs.proofs.LineLemmas.{still-dialogs}
use Rattle.tv_dialogs.proofs.PlaceLemmas.{nothing-some, same-some}
use Rattle.tv_dialogs.proofs.DamageLemmas.{stepped-alike}
use Rattle.tv_dialogs.proofs.CurrentLemmas.{held-some}
use Rattle.tv_dialogs.proofs.StepLemmas.{dropped-alike, dropped-dialogs, dropped-log, handed-dialogs, handed-log, held-stepped, read-corner, read-ready, read-sheet, read-stands}
use Rattle.tv_dialogs.proofs.PlacedLemmas.{place-declared, place-kept, place-of, place-told, read-declared, read-kept}
use Rattle.tv_dialogs.proofs.dialogs.DialogsOf.step.Goals as goal

pub returns-then-is_dropped-clause-dialogs : goal.returns-then-is_dropped-clause-dialogs
returns-then-is_dropped-clause-dialogs g c s o is given run =
    dropped-dialogs g.V.View.meaning c.args.desc.now s c.args.self.now run o is c.args.event.now _ (sym c.is_dropped.ensures ∙ c.if-is_dropped.true) refl refl refl refl

pub returns-then-is_dropped-clause-log : goal.returns-then-is_dropped-clause-log
returns-then-is_dropped-clause-log g c s o is run =
    dropped-log g.V.View.meaning c.args.desc.now s c.args.self.now run o is c.args.event.now (record c.args.self.now { last = None })
    (sym c.is_dropped.ensures ∙ c.if-is_dropped.true) refl refl

pub returns-then-is_dropped-clause-damage : goal.returns-then-is_dropped-clause-damage
returns-then-is_dropped-clause-damage g c s o is given run =
    dropped-alike g.V.View.meaning c.args.desc.now s c.args.self.now run o is c.args.event.now (sym c.is_dropped.ensures ∙ c.if-is_dropped.true) c.args.damage.now

pub returns-then-is_dropped-clause-unopened : goal.returns-then-is_dropped-clause-unopened
returns-then-is_dropped-clause-unopened g c s none run = (still-dialogs g.V.View.meaning c.args.desc.now s c.args.self.now None run.are, refl, refl)

pub returns-in_default-clause-unopened : goal.returns-in_default-clause-unopened
returns-in_default-clause-unopened g c s none run = (still-dialogs g.V.View.meaning c.args.desc.now s c.args.self.now None run.are, refl, refl)

declared_less : (g : _) (c : goal.After-as_slice g) → c.in-Some.place < length c.args.desc.now.dialogs
declared_less g c = place-declared g.V.View.meaning c.args.desc.now c.requires.run.0 c.args.self.now c.requires.run.1.are c.in-Some.place c.in-Some.is

pub index_mut-kept-requires : goal.index_mut-kept-requires
index_mut-kept-requires g c =
    let items = c.args.self.now.kept in
    let less : c.in-Some.place < length items.items = place-kept g.V.View.meaning c.args.desc.now c.requires.run.0 c.args.self.now c.requires.run.1.are c.in-Some.place c.in-Some.is in
    omega (arith, items.ok.0)

pub offset_bounds-as_slice-place : goal.offset_bounds-as_slice-place
offset_bounds-as_slice-place g c = let less = declared_less g c in let same = ap length c.as_slice.ensures in omega (arith, less, same, c.as_slice.type_inv.1)

pub bounds-as_slice-place : goal.bounds-as_slice-place
bounds-as_slice-place g c = subst (λ ds. c.in-Some.place < length ds) (sym c.as_slice.ensures) (declared_less g c)

pub step-requires-clause-ready : goal.step-requires-clause-ready
step-requires-clause-ready g c =
    let s = c.requires.run.0 in
    let run = c.requires.run.1 in
    let told = place-told g.V.View.meaning c.args.desc.now s c.args.self.now run.are c.in-Some.place c.in-Some.is in (
      at_work s told.0 c.index_mut-kept.result.now.dialog.log.items,
      read-ready g.V.View.meaning c.args.desc.now s c.args.self.now run told.0 told.1 c.in-Some.place c.in-Some.is c.index-as_slice-place.result c.index_mut-kept.result.now
          (c.index-as_slice-place.is ∙ ap (λ ds. slice_index_or ds c.in-Some.place c.index-as_slice-place.result) c.as_slice.ensures) c.index_mut-kept.ensures.value,
    )

pub step-requires-clause-held : goal.step-requires-clause-held
step-requires-clause-held g c =
    let look = g.V.View.meaning in
    let old = c.args.self.now in
    let s = c.requires.run.0 in
    let run = c.requires.run.1 in
    let kept = c.index_mut-kept.result.now in
    let less = place-kept look c.args.desc.now s old run.are c.in-Some.place c.in-Some.is in
    let found = slice_get_read old.kept.items (length old.kept.items) c.in-Some.place kept refl less c.index_mut-kept.ensures.value in
    let here = ap (kept_at old) c.in-Some.is ∙ found in
    run.are.held ∙ sym (held-some look c.args.desc.now s old run kept (sym here))

pub returns-in-Some-clause-dialogs : goal.returns-in-Some-clause-dialogs
returns-in-Some-clause-dialogs g c s o is given run =
    let look = g.V.View.meaning in
    let d = c.args.desc.now in
    let old = c.args.self.now in
    let e = c.args.event.now in
    let kept = c.index_mut-kept.result.now in
    let at = place-of look d s old run.are c.in-Some.place c.in-Some.is o is in
    let reads = c.index-as_slice-place.is ∙ ap (λ ds. slice_index_or ds c.in-Some.place c.index-as_slice-place.result) c.as_slice.ensures in
    let same = read-kept look d s old run.are c.in-Some.place c.in-Some.is o is kept c.index_mut-kept.ensures.value in
    let stands = read-stands look d s old run o is c.in-Some.place c.in-Some.is c.index-as_slice-place.result kept reads c.index_mut-kept.ensures.value e c.step.new.self c.step.ensures.stands in
    handed-dialogs look d s old run o is e _ c.step.new.self (ap (λ n. slice_set old.kept.items n c.step.new.self) at) stands refl
    (c.then_some-self.ensures ∙ ap (λ b. then_some b c.in-Some.place) c.is_open.ensures ∙ ap (then_some c.step.new.self.dialog.is_open) at)
    (c.held_after-self.ensures ∙ held-stepped look d s old run o is e c.step.new.self stands given)
    (c.step.ensures.corner ∙ read-corner look d s old run o is c.in-Some.place c.in-Some.is c.index-as_slice-place.result kept reads c.index_mut-kept.ensures.value)
    (c.step.ensures.sheet ∙ read-sheet look d s old run o is c.in-Some.place c.in-Some.is c.index-as_slice-place.result kept reads c.index_mut-kept.ensures.value)
    (c.step.ensures.values ∙ ap (λ k. values_after look k.values c.step.new.self.dialog) same)

pub returns-in-Some-clause-log : goal.returns-in-Some-clause-log
returns-in-Some-clause-log g c s o is run =
    let look = g.V.View.meaning in
    let d = c.args.desc.now in
    let old = c.args.self.now in
    let e = c.args.event.now in
    let kept = c.index_mut-kept.result.now in
    let at = place-of look d s old run.are c.in-Some.place c.in-Some.is o is in
    let reads = c.index-as_slice-place.is ∙ ap (λ ds. slice_index_or ds c.in-Some.place c.index-as_slice-place.result) c.as_slice.ensures in
    let stands = read-stands look d s old run o is c.in-Some.place c.in-Some.is c.index-as_slice-place.result kept reads c.index_mut-kept.ensures.value e c.step.new.self c.step.ensures.stands in
    handed-log look d s old run o is e
    (record {
      kept = with_item old.kept c.in-Some.place c.step.new.self;
      «open» = c.then_some-self.result;
      is_held = c.held_after-self.result;
      last = Some c.in-Some.place;
      commands = old.commands;
      colours = old.colours;
    })
    c.step.new.self (ap (λ n. slice_set old.kept.items n c.step.new.self) at) stands (ap (λ n. Some n) at)

pub returns-in-Some-clause-damage : goal.returns-in-Some-clause-damage
returns-in-Some-clause-damage g c s o is given run =
    let look = g.V.View.meaning in
    let d = c.args.desc.now in
    let old = c.args.self.now in
    let e = c.args.event.now in
    let kept = c.index_mut-kept.result.now in
    let among = run.are.at o is in
    let at = place-of look d s old run.are c.in-Some.place c.in-Some.is o is in
    let declared = c.index-as_slice-place.result in
    let reads = c.index-as_slice-place.is ∙ ap (λ ds. slice_index_or ds c.in-Some.place declared) c.as_slice.ensures in
    let stands = read-stands look d s old run o is c.in-Some.place c.in-Some.is declared kept reads c.index_mut-kept.ensures.value e c.step.new.self c.step.ensures.stands in
    let told = subst (λ k. KeptDamages look among.dialog k.dialog c.step.new.self.dialog c.step.new.damage)
    (read-kept look d s old run.are c.in-Some.place c.in-Some.is o is kept c.index_mut-kept.ensures.value)
    (subst (λ x. KeptDamages look x kept.dialog c.step.new.self.dialog c.step.new.damage)
    (read-declared look d s old run.are c.in-Some.place c.in-Some.is o is declared reads) c.step.ensures.damage) in
    stepped-alike look d run.sound s (to_dialog d o e s) old _ run.are (returns-in-Some-clause-dialogs g c s o is given run) c.step.new.damage o is c.step.new.self
    (ap (λ n. slice_set old.kept.items n c.step.new.self) at)
    (c.then_some-self.ensures ∙ ap (λ b. then_some b c.in-Some.place) c.is_open.ensures ∙ ap (then_some c.step.new.self.dialog.is_open) at)
    (same-bounds among.kept.dialog c.step.new.self.dialog (same-some c.step.new.self.dialog.head among.kept.dialog.head (stands.head ∙ sym among.stands.head))
    (c.step.ensures.corner ∙ ap (λ k. k.dialog.corner) (read-kept look d s old run.are c.in-Some.place c.in-Some.is o is kept c.index_mut-kept.ensures.value))) told c.step.ensures.ended

-- one is open
pub returns-in-Some-clause-unopened : goal.returns-in-Some-clause-unopened
returns-in-Some-clause-unopened g c s none run =
    absurd (nothing-some c.in-Some.place (sym (ap (option_map (λ o. o.place)) none) ∙ sym run.are.place ∙ c.in-Some.is))
