use Rattle.std.proofs.Common.{◌≡◌}
use Rattle.std.specs.Str.{chars}
use Rattle.tv_cells.proofs.MarkLemmas.{if_none, unmarkable, split_not_free}
use Rattle.tv_cells.proofs.hot_text.take_apart.Goals as goal
use Rattle.tv_cells.proofs.hot_text.take_apart.Goals.{else-is_ascii_alphanumeric-via-then-is_ascii_alphanumeric+then-end-eq126+else-is_none, else-is_ascii_alphanumeric-via-then-is_ascii_alphanumeric+else-end-eq126, else-is_ascii_alphanumeric-via-else-is_ascii_alphanumeric}

pub returns-in_err-letter-clause-none : goal.returns-in_err-letter-clause-none
returns-in_err-letter-clause-none c =
    let short = c.in_err-letter.ensures.none in
    if_none _ (unmarkable _ _ c.in-Some.ensures.some (λ l a sound free e. absurd cc))

pub returns-in_err-end-clause-none : goal.returns-in_err-end-clause-none
returns-in_err-end-clause-none c =
    let one = c.in_ok-letter.ensures.some in
    let short = c.in_err-end.ensures.none in
    if_none _ (unmarkable _ _ c.in-Some.ensures.some (λ l a sound free e. absurd cc))

pub returns-else-is_ascii_alphanumeric-clause-none : goal.returns-else-is_ascii_alphanumeric-clause-none
returns-else-is_ascii_alphanumeric-clause-none c =
    let one = c.in_ok-letter.ensures.some in
    let two = c.in_ok-end.ensures.some in
    unmarkable _ _ c.in-Some.ensures.some (λ l a sound free e. elim c.else-is_ascii_alphanumeric.branch [
      | else-is_ascii_alphanumeric-via-then-is_ascii_alphanumeric+then-end-eq126+else-is_none w ↦
          let same : chars c.in_ok-end.after.now ≡ a = cc in
          split_not_free _ _ w.if-is_none.ensures w.split_tilde-then-end-eq126.ensures.some (rw same free)
      | else-is_ascii_alphanumeric-via-then-is_ascii_alphanumeric+else-end-eq126 w ↦ let same : c.in_ok-end.end ≡ 126 = cc in w.if-end-eq126.false same
      | else-is_ascii_alphanumeric-via-else-is_ascii_alphanumeric w ↦ let value = w.if-is_ascii_alphanumeric.ensures.value in let same : c.in_ok-letter.letter ≡ l = cc in absurd cc
    ])
