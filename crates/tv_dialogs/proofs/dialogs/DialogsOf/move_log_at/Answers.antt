use Rattle.std.proofs.Common.{[], ◌≡◌, ◌++◌, ◌∙◌, length, refl, sym, ap}
use Rattle.std.specs.Prelude.{slice_get, slice_set}
use Rattle.std.proofs.lemmas.Bool.{false≢true}
use Rattle.std.proofs.lemmas.List.{append-nil}
use Rattle.std.proofs.lemmas.Option.{slice_get_read, slice_get_within}
use Rattle.tv_machine.proofs.ListLemmas.{option_cases}
use Rattle.tv_dialogs.specs.Dialogs.{lines_by}
use Rattle.tv_dialogs.specs.declared.kept.Kept.{Kept}
use Rattle.tv_dialogs.proofs.LineLemmas.{written-lines}
use Rattle.tv_dialogs.proofs.LogLemmas.{moved-dialogs}
use Rattle.tv_dialogs.proofs.dialogs.DialogsOf.move_log_at.Goals as goal

pub returns-in-Some-clause-lines : goal.returns-in-Some-clause-lines
returns-in-Some-clause-lines g c =
    let old = c.args.self.now in
    let kept = c.in-Some.kept.now in
    let found = slice_get_read old.kept.items (length old.kept.items) c.args.place kept refl c.in-Some.ensures.item.3.0 c.in-Some.ensures.value in
    c.move_log.ensures.lines ∙ ap (λ o. c.args.log.now.items ++ lines_by o) (sym found)

pub returns-in-Some-clause-dialogs : goal.returns-in-Some-clause-dialogs
returns-in-Some-clause-dialogs g c d s are =
    let old = c.args.self.now in
    let kept = c.in-Some.kept.now in
    let found = slice_get_read old.kept.items (length old.kept.items) c.args.place kept refl c.in-Some.ensures.item.3.0 c.in-Some.ensures.value in
    let after : Kept g.row.V.Denot = record { dialog = c.move_log.new.self; values = kept.values } in
    moved-dialogs g.V.View.meaning d s old are c.args.place kept found _
    (ap (λ dialog. slice_set old.kept.items c.args.place (record after { dialog = dialog })) c.move_log.ensures.rest) refl refl refl

pub returns-in-Some-clause-taken : goal.returns-in-Some-clause-taken
returns-in-Some-clause-taken g c =
    let old = c.args.self.now in
    let kept = c.in-Some.kept.now in
    let found = slice_get_read old.kept.items (length old.kept.items) c.args.place kept refl c.in-Some.ensures.item.3.0 c.in-Some.ensures.value in
    let after : Kept g.row.V.Denot = record { dialog = c.move_log.new.self; values = kept.values } in
    written-lines old.kept.items c.args.place kept after found ∙ ap (λ dialog. dialog.log.items) c.move_log.ensures.rest

-- nothing is there
pub returns-in_default-clause-taken : goal.returns-in_default-clause-taken
returns-in_default-clause-taken g c =
    let old = c.args.self.now in
    option_cases (slice_get old.kept.items c.args.place)
    (λ o. slice_get old.kept.items c.args.place ≡ o → lines_by o ≡ [])
    (λ none nothing. refl)
    (λ kept some found. absurd (false≢true (c.in_default.ensures.item.2 (slice_get_within old.kept.items c.args.place kept found)))) refl

pub returns-in_default-clause-lines : goal.returns-in_default-clause-lines
returns-in_default-clause-lines g c =
    let old = c.args.self.now in
    option_cases (slice_get old.kept.items c.args.place)
    (λ o. slice_get old.kept.items c.args.place ≡ o → c.args.log.now.items ≡ c.args.log.now.items ++ lines_by o)
    (λ none nothing. sym (append-nil c.args.log.now.items))
    (λ kept some found. absurd (false≢true (c.in_default.ensures.item.2 (slice_get_within old.kept.items c.args.place kept found)))) refl
