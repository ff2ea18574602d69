use Rattle.std.proofs.Common.{inl, inr, refl}
use Rattle.tv_model.specs.declared.kind.Kind.TheVariants as kinds
use Rattle.tv_session.proofs.EndLemmas.{by_kind, other_kind}
use Rattle.tv_session.proofs.ListLemmas.{empty, some_in}
use Rattle.tv_session.proofs.ResultLemmas.{if_any, if_err, on_ok}
use Rattle.tv_session.proofs.building.Building.end.Goals as goal
use Rattle.tv_session.proofs.building.Building.end.Goals.{in_default-kind-via-in-Window+else-is_empty, in_default-kind-via-in-Dialog+else-is_empty-2, in_default-kind-via-in_default-kind}

pub returns-in_err-group-clause-refused : goal.returns-in_err-group-clause-refused
returns-in_err-group-clause-refused g c = if_any (λ _ _. inr (record { outer = c.pop.new.self.items; last = c.in-Some.last; was = c.in-Some.ensures.items; why = inl c.in_err-group.ensures.refused })) c.from_residual.result

pub returns-in-Pane-clause-ended : goal.returns-in-Pane-clause-ended
returns-in-Pane-clause-ended g c = on_ok (λ added. record {
  outer = c.pop.new.self.items;
  last = c.in-Some.last;
  was = c.in-Some.ensures.items;
  group = c.in_ok-group.group;
  is = c.in_ok-group.ensures.is;
  ends = rw c.in-Pane.is (record { windows = refl; bodies = refl }, added);
}) c.add_to.result c.add_to.ensures.added

pub returns-in-Pane-clause-refused : goal.returns-in-Pane-clause-refused
returns-in-Pane-clause-refused g c =
    if_err (λ _ refused wrong. inr (record { outer = c.pop.new.self.items; last = c.in-Some.last; was = c.in-Some.ensures.items; why = inr (rw c.in-Pane.is (refused wrong)) })) c.add_to.result c.add_to.ensures.refused

pub returns-in-Window-clause-ended : goal.returns-in-Window-clause-ended
returns-in-Window-clause-ended g c =
    let begun = c.pop.new.self in
    let none = empty begun.items begun.len begun.ok.0 c.if-is_empty.ensures in
    on_ok (λ stands. record {
      outer = begun.items;
      last = c.in-Some.last;
      was = c.in-Some.ensures.items;
      group = c.in_ok-group.group;
      is = c.in_ok-group.ensures.is;
      ends = by_kind c.in-Some.last.node.now.kind (kinds.Window c.in-Window.field-0) c.in-Window.is c.in-Some.last.node.now c.in_ok-group.group begun.items c.args.self.now
          (record { views = record { windows = c.stand_window.new.windows; bodies = c.args.self.now.views.bodies }; begun = begun }) (none, none, stands, refl);
    }) c.stand_window.result c.stand_window.ensures.stands

pub returns-in-Window-clause-same : goal.returns-in-Window-clause-same
returns-in-Window-clause-same g c = if_err (λ _ same. record { windows = same; bodies = refl }) c.stand_window.result c.stand_window.ensures.same

pub returns-in-Window-clause-refused : goal.returns-in-Window-clause-refused
returns-in-Window-clause-refused g c = if_err (λ _ refused wrong. let none = rw c.in-Window.is at (refused wrong) in absurd cc) c.stand_window.result c.stand_window.ensures.refused

pub returns-in_ok-push-in-Dialog-clause-ended : goal.returns-in_ok-push-in-Dialog-clause-ended
returns-in_ok-push-in-Dialog-clause-ended g c =
    let begun = c.pop.new.self in
    let none = empty begun.items begun.len begun.ok.0 c.if-is_empty-2.ensures in
    record {
      outer = begun.items;
      last = c.in-Some.last;
      was = c.in-Some.ensures.items;
      group = c.in_ok-group.group;
      is = c.in_ok-group.ensures.is;
      ends = rw c.in-Dialog.is (none, none, refl, c.in_ok-push-in-Dialog.ensures.items);
    }

pub returns-in_default-kind-clause-refused : goal.returns-in_default-kind-clause-refused
returns-in_default-kind-clause-refused g c =
    let begun = c.pop.new.self in
    λ _. inr (record {
      outer = begun.items;
      last = c.in-Some.last;
      was = c.in-Some.ensures.items;
      why = inr (elim c.in_default-kind.branch [
        | in_default-kind-via-in-Window+else-is_empty w ↦ rw w.in-Window.is (some_in begun.items begun.len begun.ok.0 w.if-is_empty.ensures)
        | in_default-kind-via-in-Dialog+else-is_empty-2 w ↦ rw w.in-Dialog.is (some_in begun.items begun.len begun.ok.0 w.if-is_empty-2.ensures)
        | in_default-kind-via-in_default-kind w ↦ other_kind c.in-Some.last.node.now.kind begun.items w.in_default-kind.not-Window w.in_default-kind.not-Dialog w.in_default-kind.not-Pane
      ]);
    })
