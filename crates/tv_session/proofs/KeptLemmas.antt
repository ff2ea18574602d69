-- What is begun after a refusal.
use Rattle.std.proofs.Common.{◌≡◌, List, [], ◌∷◌, ◌++◌, map, ap, refl}
use Rattle.tv_session.specs.Building.{AreSameGroups}
use Rattle.tv_session.specs.declared.begun.Begun.{Begun}

with_last : {T U : Type 0} (f : T → U) (outer : List T) (x y : T) → f y ≡ f x → map f (outer ++ y ∷ []) ≡ map f (outer ++ x ∷ [])
with_last f [] x y same = ap (λ one. one ∷ []) same
with_last f (a ∷ rest) x y same = ap (λ others. f a ∷ others) (with_last f rest x y same)

-- the innermost has the node and the members that it had
pub same_innermost : {V : Type 0} (outer : List (Begun V)) (before after : Begun V) (old new : List (Begun V)) → old ≡ outer ++ before ∷ [] → new ≡ outer ++ after ∷ []
    → after.node.now ≡ before.node.now → after.members.items ≡ before.members.items → AreSameGroups old new
same_innermost outer before after old new was is node members = rw was (rw is (record {
  nodes = with_last (λ begun. begun.node.now) outer before after node;
  members = with_last (λ begun. begun.members.items) outer before after members;
}))
