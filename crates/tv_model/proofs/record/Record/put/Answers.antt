use Rattle.std.proofs.Common.{sym, ◌∙◌, ap, arith, length, slice_set, slice_index_or, length-set}
use Rattle.arrayvec.proofs.ArrayVecLemmas.{items-with_items}
use Rattle.tv_model.specs.Log.Record.{value_of}
use Rattle.tv_model.proofs.RecordLemmas.{with_value-None, with_value-Some, value_of-with_value, room}
use Rattle.tv_model.proofs.record.Record.put.Goals as goal

pub push-requires : goal.push-requires
push-requires c = let fits = room c.args.id.0 c.args.self.now c.requires (sym c.place_of.ensures ∙ c.in-None.is) in (omega arith, rw c.self.view_is fits)

pub invariant_of-self-in-None : goal.invariant_of-self-in-None
invariant_of-self-in-None c = let fits = room c.args.id.0 c.args.self.now c.requires (sym c.place_of.ensures ∙ c.in-None.is) in omega (arith, c.push.ensures.len, ap length c.self.view_is, fits)

pub returns-in-Some-clause-entries : goal.returns-in-Some-clause-entries
returns-in-Some-clause-entries c =
    let entries = c.args.self.now in
    let said = with_value-Some c.args.id c.args.value entries c.in-Some.place c.index-deref_mut-place.result (sym c.place_of.ensures ∙ c.in-Some.is) in
    items-with_items c.self.inside.entries (slice_set c.deref_mut.result.now c.in-Some.place record { id = (slice_index_or c.deref_mut.result.now c.in-Some.place c.index-deref_mut-place.result).id; value = c.args.value }) (length-set _ _ _ ∙ ap length c.deref_mut.ensures.value) ∙ rw (c.deref_mut.ensures.value, c.self.view_is) (sym said)

pub returns-in-Some-clause-values : goal.returns-in-Some-clause-values
returns-in-Some-clause-values c = λ field. ap (λ es. value_of es field) (returns-in-Some-clause-entries c) ∙ value_of-with_value c.args.self.now c.args.id c.args.value field

pub returns-in-None-clause-entries : goal.returns-in-None-clause-entries
returns-in-None-clause-entries c = c.push.ensures.items ∙ rw c.self.view_is (sym (with_value-None c.args.id c.args.value c.args.self.now (sym c.place_of.ensures ∙ c.in-None.is)))

pub returns-in-None-clause-values : goal.returns-in-None-clause-values
returns-in-None-clause-values c = λ field. ap (λ es. value_of es field) (returns-in-None-clause-entries c) ∙ value_of-with_value c.args.self.now c.args.id c.args.value field
