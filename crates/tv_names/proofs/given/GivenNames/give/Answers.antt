use Rattle.std.proofs.Common.{Some, sym, ap, ◌∙◌, bytes_eq}
use Rattle.std.specs.HashSet.{contains_by}
use Rattle.tv_names.proofs.GivenNameLemmas.{give_name, give_none}
use Rattle.tv_names.proofs.given.GivenNames.give.Goals as goal

pub returns-in_ok-is_new-in-Some : goal.returns-in_ok-is_new-in-Some
returns-in_ok-is_new-in-Some c = λ before kept.
    let inserted = c.in_ok-is_new-in-Some.ensures in
    give_name before c.args.node.now (λ name. contains_by (λ key. bytes_eq name key.now) c.args.self.now.names) kept c.as_slice.result.now c.in_ok-is_new-in-Some.is_new
    (λ name. contains_by (λ key. bytes_eq name key.now) c.insert.new.self) (sym c.in-Some.ensures ∙ ap Some (sym c.as_slice.ensures)) inserted.added
    (λ name. inserted.updates.0 (record { ref_ptr = (0, 0); now = name }))

pub returns-in-None : goal.returns-in-None
returns-in-None c = λ before kept.
    give_none before c.args.node.now (λ name. contains_by (λ key. bytes_eq name key.now) c.args.self.now.names) kept (sym c.in-None.ensures)
