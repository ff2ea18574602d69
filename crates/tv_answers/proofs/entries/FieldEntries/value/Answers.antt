use Rattle.std.proofs.Common.{rules, sym, ◌∙◌}
use Rattle.tv_model.proofs.RecordLemmas.{value_of-None, value_of-Some}
use Rattle.tv_answers.proofs.entries.FieldEntries.value.Goals as goal

pub returns-in-None : goal.returns-in-None
returns-in-None c = sym (value_of-None c.args.id.0 c.args.self.now (sym c.place_of.ensures ∙ c.in-None.is))

pub returns-in-Some : goal.returns-in-Some
returns-in-Some c = let found = value_of-Some c.args.id.0 c.args.self.now c.in-Some.place c.index.result.now (sym c.place_of.ensures ∙ c.in-Some.is) in search (rules, sym found)
