use Rattle.std.specs.Prelude.{Some, false}
use Rattle.tv_model.specs.Controls.Contents.{Content}
use Rattle.tv_model.specs.Controls.Private.{Plain}
use Rattle.tv_model.specs.declared.record.Value.TheVariants as values
use Rattle.tv_choices.proofs.radio_buttons.RadioButtonsView.draw.Goals as goal

pub returns-in_default : goal.returns-in_default
returns-in_default c =
    let s = c.args.self.now in
    let content : Content = record { value = Some (values.Item s.marked); private = Plain; overwrites = false } in
    c.in_default.ensures.none c.args.env.now content c.args.screen.now
