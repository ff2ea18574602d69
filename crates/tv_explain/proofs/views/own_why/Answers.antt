use Rattle.std.proofs.Common.{◌≡◌, ap, nat_eq, subst, sym, ◌∙◌}
use Rattle.std.specs.HashSet as set
use Rattle.tv_model.specs.Description.Sharing.{is_shared_by}
use Rattle.tv_explain.specs.Groups.{kind_of_view}
use Rattle.tv_explain.specs.Views.{view_why}
use Rattle.tv_explain.specs.Whys.{from_line}
use Rattle.tv_explain.proofs.LetterLemmas.{line_same}
use Rattle.tv_explain.proofs.views.own_why.Goals as goal

pub returns-in-LetterTwice : goal.returns-in-LetterTwice
returns-in-LetterTwice c =
    let inside = c.args.body.now in
    subst (λ fault. c.from_line-in-LetterTwice.result ≡ view_why (kind_of_view fault) inside c.args.before.now c.args.node.now) (sym c.in-LetterTwice.is)
    (c.from_line-in-LetterTwice.ensures
    ∙ ap from_line (c.letter_line.ensures ∙ line_same (set.contains nat_eq c.shared.result.now) (is_shared_by inside.sharing inside.views) c.shared.ensures c.args.before.now c.args.node.now))
