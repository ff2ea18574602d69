use Rattle.std.proofs.Common.{rules, ◌≡◌, ◌∙◌, ◌+◌, None, ap, option_map, position}
use Rattle.tv_model.specs.Description.Marks.{marks, upper}
use Rattle.tv_choices.proofs.cluster.item_marking.Goals as goal

pub returns-in_err-place-clause-is : goal.returns-in_err-place-clause-is
returns-in_err-place-clause-is c =
    let capital : c.to_ascii_uppercase.result ≡ upper c.args.ch = search rules in
    let none : c.from_residual.result ≡ None = search rules in
    none ∙ ap (λ found. option_map (λ place. place + 1) found) (c.in_err-place.ensures.place ∙ ap (λ letter. position (marks letter) c.args.items.now) capital)

pub returns-clause-is : goal.returns-clause-is
returns-clause-is c =
    let capital : c.to_ascii_uppercase.result ≡ upper c.args.ch = search rules in
    ap (λ found. option_map (λ place. place + 1) found) (c.in_ok-place.ensures.place ∙ ap (λ letter. position (marks letter) c.args.items.now) capital)
