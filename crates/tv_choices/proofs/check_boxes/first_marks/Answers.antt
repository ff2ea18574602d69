use Rattle.std.proofs.Common.{◌≡◌, length, rules, subst, sym}
use Rattle.std.specs.List.{All}
use Rattle.tv_choices.proofs.MarkLemmas.{items-few}
use Rattle.tv_choices.proofs.check_boxes.first_marks.Goals as goal
use Rattle.tv_model.specs.Controls.Contents.{IsItem}

pub marks_of-requires : goal.marks_of-requires
marks_of-requires c =
    let declared = c.args.declared.now in
    let same : c.as_slice.result.now ≡ declared.start = search rules in
    subst (λ items. All (λ item. IsItem item 16) items) (sym same) (items-few (length declared.items) c.requires.count declared.start c.requires.items)
