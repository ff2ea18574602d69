use Rattle.std.proofs.Common.{◌≡◌, ◌++◌, ◌∙◌, sym, ap, map, take}
use Rattle.std.specs.Str.{chars}
use Rattle.tv_reasons.specs.Reasons.{between, first_words, printed}
use Rattle.tv_reasons.proofs.CutLemmas.{further_part, three_parts, spelled_between, spelled_first}
use Rattle.tv_reasons.proofs.telling.reason.Goals as goal

pub returns-in-Input : goal.returns-in-Input
returns-in-Input c =
    let hidden = c.args.is_hidden in
    let name = c.in-Input.input.name in
    let domain = c.in-Input.input.spec.domain in
    let words = c.push_shown.ensures.added.0 in
    let first : c.push_all.new.self ≡ take 132 (map printed name) = c.push_all.ensures ∙ rw (c.new-line.ensures, c.as_slice.ensures) cc in
    let second = c.push_str.ensures ∙ ap (λ l. take 132 (c.push_all.new.self ++ map printed l)) (ap chars c.between.ensures ∙ spelled_between hidden) in
    let third = c.push_str-in-Input.ensures ∙ ap (λ l. take 132 (c.push_str.new.self ++ map printed l)) (ap chars c.first_words.ensures ∙ spelled_first domain) in
    let begun = three_parts name (between hidden) (first_words domain) _ _ _ first second third in
    rw (sym c.node.ensures, c.in-Some.is, c.in-Input.is) (words, further_part (name ++ between hidden ++ first_words domain) words _ _ begun c.push_shown.ensures.added.1)
