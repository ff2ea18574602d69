use Rattle.std.proofs.Common.{◌≡◌, ◌++◌, ◌∙◌, ap, refl}
use Rattle.std.specs.Str.{chars}
use Rattle.tv_cells.proofs.HotTextLemmas.{hot_is}
use Rattle.tv_cells.proofs.hot_text.HotText.plain.Goals as goal

pub invariant_of-result : goal.invariant_of-result
invariant_of-result c =
    let text = chars c.args.text.now in
    let same : c.push_all.new.items.items ≡ text = c.in_ok-push_all.ensures.ok ∙ ap (λ xs. xs ++ text) c.new-items.ensures in
    (rw same c.requires, c.in_ok-push_all.ensures.fits)

pub returns-clause-ok : goal.returns-clause-ok
returns-clause-ok c =
    let text = chars c.args.text.now in
    let same : c.push_all.new.items.items ≡ text = c.in_ok-push_all.ensures.ok ∙ ap (λ xs. xs ++ text) c.new-items.ensures in
    (hot_is _ _ _ _ same refl, c.in_ok-push_all.ensures.fits)
