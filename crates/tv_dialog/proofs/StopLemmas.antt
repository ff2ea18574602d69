-- The control that a walk finds is free.
use Rattle.std.proofs.Common.{◌≡◌, ◌==◌, Bool, true, false, ◌&&◌, ◌||◌, List, [], ◌∷◌, Option, Some, None, if◌then◌else◌, refl, sym, ap, ◌∙◌}
use Rattle.std.specs.Prelude.{find, option_map, reverse}
use Rattle.std.specs.List.{list_any}
use Rattle.std.specs.Option.{option_or}
use Rattle.std.proofs.lemmas.List.Sorted.{IsPermutation-reverse, list_any-IsPermutation}
use Rattle.tv_model.specs.declared.node.Id.{Id}
use Rattle.tv_model.specs.Description.Nodes.{is_control}
use Rattle.tv_view.specs.Meaning.{Placed}
use Rattle.tv_view.specs.Calls.{takes_focus}
use Rattle.tv_group.specs.Handling.{is_awake}
use Rattle.tv_group.specs.Calls.{after_current, first_free_leaf, first_in, is_free_control, is_free_id, next_in, ordered}
use Rattle.tv_group.specs.declared.focus.Dir.{Dir}
use Rattle.tv_group.specs.declared.focus.Dir.TheVariants as dirs
use Rattle.tv_machine.proofs.ListLemmas.{bool_cases, id-itself}

both-of : (a b : Bool) → a && b ≡ true → (a ≡ true) × (b ≡ true)
both-of true b h = (refl, h)
both-of false b h = cc

or-true : (a : Bool) → (a || true) ≡ true
or-true true = refl
or-true false = refl

module _ (id : Id) where
  -- a free control of the id
  abbrev here : Placed → Bool
  here x = takes_focus id x.leaf && is_free_control x.leaf

  found-here : (x : Placed) → is_free_control x.leaf ≡ true → x.leaf.node.id ≡ id → here x ≡ true
  found-here x free same =
      ap (λ b. (b && (x.leaf.node.id.0 == id.0)) && is_free_control x.leaf) (both-of (is_control x.leaf.node.kind) (is_awake x.leaf) free).0
      ∙ ap (λ b. b && is_free_control x.leaf) (ap (λ i. x.leaf.node.id.0 == i.0) (sym same) ∙ id-itself x.leaf.node.id)
      ∙ free

  first-free : (xs : List Placed) → first_free_leaf xs ≡ Some id → list_any here xs ≡ true
  first-free [] e = cc
  first-free (x ∷ xs) e =
      bool_cases (is_free_control x.leaf)
      (λ b. is_free_control x.leaf ≡ b → option_map (λ y. y.leaf.node.id) (if b then Some x else find (λ y. is_free_control y.leaf) xs) ≡ Some id → list_any here (x ∷ xs) ≡ true)
      (λ is free found. let same : x.leaf.node.id ≡ id = cc in ap (λ b. b || list_any here xs) (found-here x is same))
      (λ isnt busy found. ap (λ b. here x || b) (first-free xs found) ∙ or-true (here x)) refl e

  after-current : (xs : List Placed) → list_any here (after_current xs) ≡ true → list_any here xs ≡ true
  after-current [] h = h
  after-current (x ∷ xs) h =
      bool_cases x.is_current (λ b. list_any here (if b then xs else after_current xs) ≡ true → list_any here (x ∷ xs) ≡ true)
      (λ is rest. ap (λ b. here x || b) rest ∙ or-true (here x))
      (λ isnt rest. ap (λ b. here x || b) (after-current xs rest) ∙ or-true (here x)) h

  either-way : (dir : Dir) (xs : List Placed) → list_any here (ordered dir xs) ≡ list_any here xs
  either-way dirs.Forward xs = refl
  either-way dirs.Backward xs = sym (list_any-IsPermutation here xs (reverse xs) (IsPermutation-reverse xs))

  pub stop-free : (dir : Dir) (xs : List Placed) → Some id ≡ option_or (next_in dir xs) (first_in dir xs) → is_free_id id xs ≡ true
  unfolding next_in first_in is_free_id
  stop-free dir xs found = of (first_free_leaf (after_current (ordered dir xs))) refl found
    where
      of : (o : Option Id) → first_free_leaf (after_current (ordered dir xs)) ≡ o → Some id ≡ option_or o (first_free_leaf (ordered dir xs)) → list_any here xs ≡ true
      of None is e = sym (either-way dir xs) ∙ first-free (ordered dir xs) (sym e)
      of (Some i) is e = sym (either-way dir xs) ∙ after-current (ordered dir xs) (first-free (after_current (ordered dir xs)) (is ∙ sym e))
