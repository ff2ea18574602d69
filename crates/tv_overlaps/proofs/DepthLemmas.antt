-- Depths of views by their places.
use Rattle.std.proofs.Common.{◌≡◌, inl, inr, ℕ, suc, ◌<◌, ◌≤◌, Option, Some, None, List, get_or, length, sym, subst, arith}
use Rattle.std.proofs.lemmas.Bool.{cases_order}
use Rattle.std.proofs.lemmas.List.{get_or-map}
use Rattle.tv_model.specs.declared.node.Node.{Node}
use Rattle.tv_overlaps.specs.Standing.{IsOwningPane, depth_at}

pub depth_is : (views : List Node) (place : ℕ) (d : Node) → place < length views → (get_or views place d).depth ≡ depth_at views place
depth_is views place d less = sym (get_or-map (λ view. view.depth) views place d 0 less)

-- how many views there are up to this place, with it
abbrev pub up_to : Option ℕ → ℕ
up_to None = 0
up_to (Some place) = suc place

-- the views from one place to another are all deeper than so
abbrev pub AreDeeper : List Node → ℕ → ℕ → ℕ → Type 0
AreDeeper views depth from to = (k : ℕ) → from ≤ k → k < to → depth < depth_at views k

-- what holds of places before one, at it and after it
each_side : (P : ℕ → Type 0) (from place to : ℕ) → ((k : ℕ) → from ≤ k → k < place → P k) → P place → ((k : ℕ) → suc place ≤ k → k < to → P k) → (k : ℕ) → from ≤ k → k < to → P k
each_side P from place to before at after k low high = elim (cases_order k place) [ inl e ↦ subst P (sym e) at | inr (inl less) ↦ before k low less | inr (inr more) ↦ after k more high ]

since_owner : (views : List Node) (place : ℕ) (owner : Option ℕ) → IsOwningPane views place owner → (k : ℕ) → up_to owner ≤ k → k < place → depth_at views place ≤ depth_at views k
since_owner views place None owns k low high = owns k high
since_owner views place (Some last) owns k low high = owns.2 k low high

-- going on from a view that is deeper, to its owner
pub deeper_past : (views : List Node) (depth place : ℕ) (to : ℕ) (owner : Option ℕ) → IsOwningPane views place owner → depth < depth_at views place → AreDeeper views depth (suc place) to → AreDeeper views depth (up_to owner) to
deeper_past views depth place to owner owns deep all =
    each_side (λ k. depth < depth_at views k) (up_to owner) place to (λ k low high. omega (arith, since_owner views place owner owns k low high)) deep all

pub owner_before : (views : List Node) (place : ℕ) (owner : Option ℕ) → IsOwningPane views place owner → up_to owner ≤ place
owner_before views place None owns = omega arith
owner_before views place (Some last) owns = owns.0
