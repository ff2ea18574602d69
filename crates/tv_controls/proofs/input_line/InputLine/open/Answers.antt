use Rattle.std.proofs.Common.{◌≡◌, ◌∙◌, None, false, sym, ap}
use Rattle.tv_model.specs.Log.Record.{value_of}
use Rattle.tv_view.specs.Core.{Core}
use Rattle.tv_controls.specs.InputLine.{input_leaf, edit_opened, text_of_value}
use Rattle.tv_controls.proofs.InputLemmas.{fitting_text, input_opened}
use Rattle.tv_controls.proofs.input_line.InputLine.open.Goals as goal

pub unreachable-requires : goal.unreachable-requires
unreachable-requires c =
    let s = c.args.self.now in
    let found = fitting_text c.args.values.now (input_leaf s.core s.edit) s.own_kind c.requires in
    let id = c.id.ensures ∙ ap (λ (core : Core). core.node.id) c.reset.ensures in
    let is = c.text_in.ensures ∙ ap (λ i. text_of_value (value_of c.args.values.now i.0)) id ∙ ap text_of_value found.1 in
    absurd cc

pub returns-clause-after : goal.returns-clause-after
returns-clause-after c =
    let s = c.args.self.now in
    let found = fitting_text c.args.values.now (input_leaf s.core s.edit) s.own_kind c.requires in
    let id = c.id.ensures ∙ ap (λ (core : Core). core.node.id) c.reset.ensures in
    let is = c.text_in.ensures ∙ ap (λ i. text_of_value (value_of c.args.values.now i.0)) id ∙ ap text_of_value found.1 in
    let same : c.in-Some.text ≡ found.0 = cc in
    ap (λ core. input_leaf core c.open.new.self) c.reset.ensures
    ∙ ap (input_leaf (record s.core { is_focused = false; held = None })) (c.open.ensures
    ∙ ap (λ text. edit_opened text s.edit.overwrites) same)
    ∙ sym (input_opened c.args.values.now s.core s.edit found.0 s.own_kind found.1)
