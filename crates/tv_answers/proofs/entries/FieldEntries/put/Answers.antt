use Rattle.std.proofs.Common.{sym, ◌∙◌, rules}
use Rattle.tv_model.proofs.RecordLemmas.{with_value-None, with_value-Some}
use Rattle.tv_answers.proofs.entries.FieldEntries.put.Goals as goal

pub returns-in-Some-clause-ok : goal.returns-in-Some-clause-ok
returns-in-Some-clause-ok c =
    let said = with_value-Some c.args.id c.args.value c.args.self.now c.in-Some.place c.index_mut-entry.result.now (sym c.place_of.ensures ∙ c.in-Some.is) in
    search (rules, sym said)

pub returns-in_ok-push-in-None-clause-ok : goal.returns-in_ok-push-in-None-clause-ok
returns-in_ok-push-in-None-clause-ok c =
    let said = with_value-None c.args.id c.args.value c.args.self.now (sym c.place_of.ensures ∙ c.in-None.is) in
    search (rules, sym said)
