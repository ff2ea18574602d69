use Rattle.std.proofs.Common.{◌≡◌, length, refl, slice_get, slice_set, ap}
use Rattle.std.proofs.lemmas.Bool.{false≢true}
use Rattle.std.proofs.lemmas.Option.{slice_get_read, slice_get_within}
use Rattle.tv_machine.proofs.ListLemmas.{option_cases}
use Rattle.tv_dialogs.specs.Dialogs.{AreDialogs}
use Rattle.tv_dialogs.proofs.LineLemmas.{same-lines}
use Rattle.tv_laws.specs.Runs.{with_saved}
use Rattle.tv_dialogs.specs.declared.kept.Kept.{Kept}
use Rattle.tv_dialogs.proofs.RecordLemmas.{given-dialogs, none-given}
use Rattle.tv_dialogs.proofs.dialogs.DialogsOf.keep_record.Goals as goal

pub returns-in-Some-clause-dialogs : goal.returns-in-Some-clause-dialogs
returns-in-Some-clause-dialogs g c d s are =
    let old = c.args.self.now in
    let kept = c.in-Some.kept.now in
    let found = slice_get_read old.kept.items (length old.kept.items) c.args.place kept refl c.in-Some.ensures.item.3.0 c.in-Some.ensures.value in
    let after : Kept g.row.V.Denot = record { dialog = kept.dialog; values = c.set.new.self } in
    given-dialogs g.V.View.meaning d s old are c.args.place kept found c.args.values _
    (ap (λ values. slice_set old.kept.items c.args.place (record after { values = values })) c.set.ensures) refl refl refl

pub returns-in-Some-clause-log : goal.returns-in-Some-clause-log
returns-in-Some-clause-log g c =
    let old = c.args.self.now in
    let kept = c.in-Some.kept.now in
    let found = slice_get_read old.kept.items (length old.kept.items) c.args.place kept refl c.in-Some.ensures.item.3.0 c.in-Some.ensures.value in
    same-lines old.kept.items c.args.place kept (record { dialog = kept.dialog; values = c.set.new.self }) found refl old.last

pub returns-in_default-clause-dialogs : goal.returns-in_default-clause-dialogs
returns-in_default-clause-dialogs g c d s are =
    let old = c.args.self.now in
    option_cases (slice_get old.kept.items c.args.place)
    (λ o. slice_get old.kept.items c.args.place ≡ o → AreDialogs g.V.View.meaning d (with_saved c.args.place c.args.values s) old)
    (λ none nothing. none-given g.V.View.meaning d s old are c.args.place nothing c.args.values)
    (λ kept some found. absurd (false≢true (c.in_default.ensures.item.2 (slice_get_within old.kept.items c.args.place kept found)))) refl
