use Rattle.std.specs.Prelude.{Some, false}
use Rattle.tv_model.specs.Controls.Contents.{Content}
use Rattle.tv_model.specs.Controls.Private.{Scrolled}
use Rattle.tv_model.specs.declared.record.Value.TheVariants as values
use Rattle.tv_choices.proofs.list_box.ListBoxView.draw.Goals as goal

pub returns-in_default : goal.returns-in_default
returns-in_default c =
    let s = c.args.self.now in
    let content : Content = record { value = Some (values.Item s.chosen.item); private = Scrolled s.chosen.top; overwrites = false } in
    c.in_default.ensures.none c.args.env.now content c.args.screen.now
