use Rattle.std.proofs.Common.{ap, nat_le, subst, sym, ◌∙◌}
use Rattle.std.specs.List.Sorted.{IsNonDecreasingBy}
use Rattle.tv_model.specs.declared.desc.Desc.{Desc}
use Rattle.tv_explain.specs.Lines.{around_line}
use Rattle.tv_explain.specs.Outline.{IsMenuInOrder}
use Rattle.tv_explain.proofs.LineLemmas.{found_has}
use Rattle.tv_explain.proofs.explaining.item_at.Goals as goal

pub new-items-requires : goal.new-items-requires
new-items-requires c = λ yes.
    let found = c.in_ok-menu.ensures ∙ ap (around_line (λ menu. menu.id.0) c.args.line) (c.as_slice.ensures ∙ ap (λ (d : Desc). d.menus) c.desc.ensures) in
    subst (IsNonDecreasingBy (λ item. item.id.0)) (sym c.as_slice-2.ensures)
    (found_has IsMenuInOrder (λ menu. nat_le (menu.id.0) c.args.line) c.args.desc.now.menus c.in_ok-menu.menu.now found ((c.is_in_order.ensures yes).items))
