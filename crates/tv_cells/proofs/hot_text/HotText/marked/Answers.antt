use Rattle.std.proofs.Common.{◌≡◌, ℕ, List, [], ◌∷◌, ◌++◌, length, Some, ◌∙◌, ap, append_assoc}
use Rattle.std.specs.Str.{chars}
use Rattle.tv_cells.proofs.HotTextLemmas.{hot_is}
use Rattle.tv_cells.proofs.hot_text.HotText.marked.Goals as goal

-- three pushes to an empty list
pushed : (none one two three before after : List ℕ) (letter : ℕ) → none ≡ [] → one ≡ none ++ before → two ≡ one ++ letter ∷ [] → three ≡ two ++ after → (one ≡ before) × (three ≡ before ++ letter ∷ after)
pushed none one two three before after letter e f g h =
    let first : one ≡ before = f ∙ ap (λ xs. xs ++ before) e in
    (first, h ∙ ap (λ xs. xs ++ after) (g ∙ ap (λ xs. xs ++ letter ∷ []) first) ∙ append_assoc before (letter ∷ []) after)

pub invariant_of-result : goal.invariant_of-result
invariant_of-result c =
    let same = pushed _ _ _ _ (chars c.args.before.now) (chars c.args.after.now) c.args.letter c.new-items.ensures c.in_ok-push_all.ensures.ok c.in_ok-push.ensures.ok c.in_ok-push_all-2.ensures.ok in
    (rw (same.1, c.len-place.ensures.value, same.0) c.requires, c.in_ok-push_all-2.ensures.fits)

pub returns-clause-ok : goal.returns-clause-ok
returns-clause-ok c =
    let same = pushed _ _ _ _ (chars c.args.before.now) (chars c.args.after.now) c.args.letter c.new-items.ensures c.in_ok-push_all.ensures.ok c.in_ok-push.ensures.ok c.in_ok-push_all-2.ensures.ok in
    (hot_is _ _ _ _ same.1 (ap Some (c.len-place.ensures.value ∙ ap length same.0)), c.in_ok-push_all-2.ensures.fits)
