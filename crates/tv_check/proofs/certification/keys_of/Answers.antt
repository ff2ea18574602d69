use Rattle.std.proofs.Common.{◌≡◌, List, [], ◌∷◌, map, rules, sym, subst}
use Rattle.std.specs.List.{AllByRecursion}
use Rattle.std.proofs.lemmas.List.Elements.{All-from_recursion}
use Rattle.tv_model.specs.Description.Owners.{owners_of}
use Rattle.tv_check.specs.Certificates.{FitsOwner}
use Rattle.tv_check.specs.Lent.{lent_key_owner}
use Rattle.tv_check.proofs.OwnerLemmas.{owners_fit}
use Rattle.tv_check.proofs.certification.keys_of.Goals as goal

unmapped : {A B : Type 0} (f : A → B) (P : B → Type 0) (xs : List A) → AllByRecursion P (map f xs) → AllByRecursion (λ x. P (f x)) xs
unmapped f P [] are = tt
unmapped f P (x ∷ xs) are = (are.0, unmapped f P xs are.1)

pub add_keys-requires : goal.add_keys-requires
add_keys-requires c =
    let owners = c.args.owners.now in
    let own : map lent_key_owner c.deref.result.now ≡ owners_of owners.version owners.dialog c.letter-item.result = search rules in
    let fit = subst (AllByRecursion FitsOwner) (sym own) (owners_fit owners.version owners.dialog c.letter-item.result c.requires) in
    All-from_recursion (λ owner. FitsOwner (lent_key_owner owner)) c.deref.result.now (unmapped lent_key_owner FitsOwner c.deref.result.now fit)
