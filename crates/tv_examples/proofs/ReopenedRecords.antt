-- What a dialog opens with again: the record of its last end that was no cancel, else what is declared.
use Rattle.std.specs.Prelude.{[], ◌∷◌}
use Rattle.std.proofs.Common.{refl}
use Rattle.tv_examples.specs.Descriptions.{order}
use Rattle.tv_examples.specs.Running.{written, Writes}

-- after an end by ok
reopened_records : Writes order ("key Alt-G" ∷ "key Alt-N" ∷ "key Tab" ∷ "type \"07\"" ∷ "key F2" ∷ "key F3" ∷ "key Esc" ∷ []) (
    "open b" ∷ "focus amount" ∷ "focus opts" ∷ "focus qty" ∷ "end b ok" ∷ "field amount \"1\"" ∷
    "field opts 1 2" ∷ "field qty \"07\"" ∷ "open b" ∷ "focus amount" ∷ "end b cancel" ∷
    "field amount \"1\"" ∷ "field opts 1 2" ∷ "field qty \"07\"" ∷ [])
unfolding written
reopened_records = refl

-- after a cancel
reopened_after_cancel : Writes order ("type \"9\"" ∷ "key Esc" ∷ "key F3" ∷ "key Esc" ∷ []) (
    "open b" ∷ "focus amount" ∷ "end b cancel" ∷ "field amount \"9\"" ∷ "field opts -" ∷
    "field qty \"\"" ∷ "open b" ∷ "focus amount" ∷ "end b cancel" ∷ "field amount \"1\"" ∷
    "field opts -" ∷ "field qty \"\"" ∷ [])
unfolding written
reopened_after_cancel = refl
