-- Bodies that dialogs are made round, from the last one on, and the dialogs before a run.
use Rattle.std.proofs.Common.{arith, ◌≡◌, ◌<◌, ◌+◌, ℕ, zero, suc, true, false, List, [], ◌∷◌, ◌++◌, map, length, drop, Some, None, refl, sym, ap, subst, ◌∙◌, append_assoc}
use Rattle.std.specs.Prelude.{reverse, slice_get, slice_index_or}
use Rattle.std.proofs.lemmas.Option.{slice_get_read}
use Rattle.std.proofs.lemmas.List.{length-append, length-map, length-reverse, reverse-append}
use Rattle.tv_model.specs.declared.desc.Desc.{Desc}
use Rattle.tv_model.specs.declared.desc.Dialog.{Dialog}
use Rattle.tv_view.specs.Meaning.{Leaf}
use Rattle.tv_machine.specs.Session.Commands.{overwriting_at}
use Rattle.tv_machine.specs.Session.Start.{closed}
use Rattle.tv_group.specs.Outline.{IsFreshBody}
use Rattle.tv_group.specs.declared.group.GroupOf.{GroupOf}
use Rattle.tv_dialogs.specs.Bodies.{AreFreshBodies, AreNew, kept_body}
use Rattle.tv_dialogs.specs.Dialogs.{AreDialogs}
use Rattle.tv_dialogs.specs.Kept.{IsKeptAs}
use Rattle.tv_dialogs.specs.declared.kept.Kept.{Kept}
use Rattle.tv_dialogs.specs.declared.dialogs.DialogsOf.{DialogsOf}
use Rattle.tv_dialogs.proofs.PlaceLemmas.{copies-count, copy-at, nothing-some, same-some}

-- ---- lists

reverse-push : {A : Type 0} (xs : List A) (x : A) → reverse (xs ++ x ∷ []) ≡ x ∷ reverse xs
reverse-push xs x = reverse-append xs (x ∷ [])

get_last : {A : Type 0} (xs : List A) (x : A) (ys : List A) → slice_get ((xs ++ x ∷ []) ++ ys) (length xs) ≡ Some x
get_last [] x ys = refl
get_last (y ∷ xs) x ys = get_last xs x ys

drop_here : {A : Type 0} (xs : List A) (n : ℕ) (x : A) → slice_get xs n ≡ Some x → drop n xs ≡ x ∷ drop (suc n) xs
drop_here [] n x e = absurd cc
drop_here (y ∷ xs) zero x e = let same : y ≡ x = cc in ap (λ z. z ∷ xs) same
drop_here (y ∷ xs) (suc n) x e = drop_here xs n x e

-- ---- bodies that wait and dialogs that were made, the last body first

pub record IsMaking {V : Type 0} (look : V → Leaf) (dialogs : List Dialog) (first bodies : List (GroupOf V)) (kept : List (Kept V)) : Type 0 where
  pub made : AreNew look (drop (length bodies) dialogs) (reverse kept)
  pub back : bodies ++ map kept_body (reverse kept) ≡ first

module _ {V : Type 0} (look : V → Leaf) (dialogs : List Dialog) (first : List (GroupOf V)) (fresh : AreFreshBodies look dialogs first) where
  module _ (rest : List (GroupOf V)) (body : GroupOf V) (kept : List (Kept V)) (is : IsMaking look dialogs first (rest ++ body ∷ []) kept) where
    reversed_count : length (map kept_body (reverse kept)) ≡ length kept
    reversed_count = length-map (reverse kept) kept_body ∙ length-reverse kept

    -- so many wait and were made
    making-count : length rest + suc (length kept) ≡ length dialogs
    making-count =
        let all = ap length is.back ∙ fresh.count in
        let one = length-append (rest ++ body ∷ []) (map kept_body (reverse kept)) in
        let two = length-append rest (body ∷ []) in
        let made = reversed_count in
        omega (arith, all, one, two, made)

    -- the dialog of its place
    pub making-less : (n : ℕ) → n ≡ length rest → n < length dialogs
    making-less n here = let count = making-count in omega (arith, count, here)

    pub making-there : (n : ℕ) (d : Dialog) → n ≡ length rest → d ≡ slice_index_or dialogs n d → slice_get dialogs (length rest) ≡ Some d
    making-there n d here reads = subst (λ (k : ℕ). slice_get dialogs k ≡ Some d) here (slice_get_read dialogs (length dialogs) n d refl (making-less n here) reads)

    -- the body is fresh for it
    pub making-fresh : (d : Dialog) → slice_get dialogs (length rest) ≡ Some d → IsFreshBody look d.node d.views body
    making-fresh d there =
        fresh.fresh (length rest) d body there (ap (λ xs. slice_get xs (length rest)) (sym is.back) ∙ get_last rest body (map kept_body (reverse kept)))

    pub making-on : (d : Dialog) (k : Kept V) → slice_get dialogs (length rest) ≡ Some d → IsKeptAs look d None [] k → kept_body k ≡ body
        → IsMaking look dialogs first rest (kept ++ k ∷ [])
    making-on d k there new same =
        let long : length (rest ++ body ∷ []) ≡ suc (length rest) = let e = length-append rest (body ∷ []) in omega (arith, e) in
        let made : AreNew look (drop (suc (length rest)) dialogs) (reverse kept) = subst (λ (n : ℕ). AreNew look (drop n dialogs) (reverse kept)) long is.made in
        record {
          made = subst (λ ks. AreNew look (drop (length rest) dialogs) ks) (sym (reverse-push kept k))
              (subst (λ ds. AreNew look ds (k ∷ reverse kept)) (sym (drop_here dialogs (length rest) d there)) (new, made));
          back = ap (λ ks. rest ++ map kept_body ks) (reverse-push kept k) ∙ ap (λ b. rest ++ b ∷ map kept_body (reverse kept)) same
              ∙ sym (append_assoc rest (body ∷ []) (map kept_body (reverse kept))) ∙ is.back;
        }

-- ---- before a run

new_count : {V : Type 0} (look : V → Leaf) (dialogs : List Dialog) (kept : List (Kept V)) → AreNew look dialogs kept → length kept ≡ length dialogs
new_count look [] [] new = refl
new_count look [] (k ∷ kept) new = absurd new
new_count look (d ∷ dialogs) [] new = absurd new
new_count look (d ∷ dialogs) (k ∷ kept) new = ap (λ (n : ℕ). suc n) (new_count look dialogs kept new.1)

new_at : {V : Type 0} (look : V → Leaf) (dialogs : List Dialog) (kept : List (Kept V)) (place : ℕ) (d : Dialog) (k : Kept V) → AreNew look dialogs kept
    → slice_get dialogs place ≡ Some d → slice_get kept place ≡ Some k → IsKeptAs look d None [] k
new_at look [] kept place d k new there found = absurd cc
new_at look (x ∷ dialogs) [] place d k new there found = absurd new
new_at look (x ∷ dialogs) (y ∷ kept) zero d k new there found =
    subst (λ z. IsKeptAs look z None [] k) (same-some x d there) (subst (λ z. IsKeptAs look x None [] z) (same-some y k found) new.0)
new_at look (x ∷ dialogs) (y ∷ kept) (suc place) d k new there found = new_at look dialogs kept place d k new.1 there found

-- none of them is open
pub new-dialogs : {V : Type 0} (look : V → Leaf) (d : Desc) (dialogs : DialogsOf V) → AreNew look d.dialogs dialogs.kept.items → dialogs.open ≡ None → dialogs.is_held ≡ false
    → ((number : ℕ) → number < 256 → slice_index_or dialogs.commands number false ≡ true) → AreDialogs look d (closed d) dialogs
new-dialogs look d dialogs new shut held commands = record {
  count = new_count look d.dialogs dialogs.kept.items new;
  saved = copies-count (length d.dialogs) None;
  overwriting = copies-count (length d.dialogs) [];
  kept = λ place x k there found.
      subst (λ o. IsKeptAs look x o (overwriting_at (closed d) place) k) (sym (copy-at (length d.dialogs) None place))
      (subst (λ ids. IsKeptAs look x None ids k) (sym (copy-at (length d.dialogs) [] place))
      (new_at look d.dialogs dialogs.kept.items place x k new there found));
  place = shut;
  held = held;
  at = λ o e. absurd (nothing-some o e);
  commands = commands;
}
