use Rattle.std.proofs.Common.{◌≡◌, All, rules, sym, ap, subst, ◌∙◌}
use Rattle.tv_model.specs.Description.Certificates.{tab_order}
use Rattle.tv_check.specs.Certificates.{NamesOwners, tab_lines}
use Rattle.tv_check.specs.Refusals.{IsFirstOwner}
use Rattle.tv_check.proofs.acceptance.compare.Goals as goal

pub returns-in-Some-2-clause-no : goal.returns-in-Some-2-clause-no
returns-in-Some-2-clause-no c =
    let desc = c.args.desc.now in
    let version : c.args.certificate.now.version ≡ desc.version = search rules in
    let same = c.blocks-blocks.ensures in
    let tabs : tab_lines c.blocks-blocks.result.now ≡ tab_order desc = rw c.in_default.is at c.in_ok-place.ensures in
    let owner : IsFirstOwner desc c.blocks-blocks.result.now c.in-Some-2.letter = rw c.in-Some-2.is at c.in_ok-letter.ensures in
    λ sound. (sound, version, ap tab_lines (sym same) ∙ tabs, subst (λ blocks. IsFirstOwner desc blocks c.in-Some-2.letter) same owner)

pub returns-in-None-clause-yes : goal.returns-in-None-clause-yes
returns-in-None-clause-yes c =
    let desc = c.args.desc.now in
    let version : c.args.certificate.now.version ≡ desc.version = search rules in
    let same = c.blocks-blocks.ensures in
    let tabs : tab_lines c.blocks-blocks.result.now ≡ tab_order desc = rw c.in_default.is at c.in_ok-place.ensures in
    let owners : All (NamesOwners desc.version c.blocks-blocks.result.now) desc.dialogs = rw c.in-None.is at c.in_ok-letter.ensures in
    record { version = version; tabs = ap tab_lines (sym same) ∙ tabs; owners = subst (λ blocks. All (NamesOwners desc.version blocks) desc.dialogs) same owners }
