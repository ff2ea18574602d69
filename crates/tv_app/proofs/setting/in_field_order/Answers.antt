use Rattle.std.proofs.Common.{◌∙◌, [], ap, fold}
use Rattle.tv_app.specs.Setting.{with_view}
use Rattle.tv_app.proofs.SettingLemmas.{ordered_fields}
use Rattle.tv_app.proofs.setting.in_field_order.Goals as goal

pub returns : goal.returns
returns c =
    c.ordered.ensures ∙ ap (fold (with_view c.args.values.now) []) c.as_slice.ensures ∙ ordered_fields c.args.values.now c.args.dialog.now c.requires
