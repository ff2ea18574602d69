use Rattle.std.proofs.Common.{sym, ◌∙◌}
use Rattle.std.proofs.lemmas.Str.{chars_past_char}
use Rattle.tv_cells.proofs.hot_text.next_char.Goals as goal

pub returns-clause-some : goal.returns-clause-some
returns-clause-some c = rw c.as_str.ensures (chars_past_char _ _ _ c.utf8.text (sym c.chars-chars.ensures.rest ∙ c.in_ok-first.ensures.steps.0))
