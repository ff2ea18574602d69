-- What a lawful dialog has of its rules and letters, from a sound description.
use Rattle.std.proofs.Common.{◌≡◌, ℕ, suc, ◌+◌, ◌<◌, nat_lt, IsTrue, Bool, true, false, cond, not, ◌||◌, List, [], ◌∷◌, get_or, length, Some, None, option_map, is_some, if◌then◌else◌, ℤ, refl, subst, arith}
use Rattle.std.specs.List.{All, AllPairs, list_any, position, position_or_len}
use Rattle.std.proofs.lemmas.Bool.{false≢true}
use Rattle.std.proofs.lemmas.Bool.Decides.{nat_tests}
use Rattle.std.proofs.lemmas.List.Folds.{Any-from_list_any}
use Rattle.tv_model.specs.declared.node.Node.{Node}
use Rattle.tv_model.specs.declared.kind.Kind.{Kind}
use Rattle.tv_model.specs.declared.kind.Kind.TheVariants as kinds
use Rattle.tv_model.specs.declared.kind.MarkedText.{MarkedText}
use Rattle.tv_model.specs.declared.desc.Rule.{Rule}
use Rattle.tv_model.specs.declared.desc.Effect.{Effect}
use Rattle.tv_model.specs.declared.desc.Effect.TheVariants as effects
use Rattle.tv_model.specs.Description.Letters.{marked_of}
use Rattle.tv_model.specs.Description.Marks.{marks}
use Rattle.tv_model.specs.Description.Names.{meant}
use Rattle.tv_model.specs.Description.Nodes.{is_cluster}
use Rattle.tv_model.specs.Controls.Owner.{LetterOwner}
use Rattle.tv_model.specs.Description.Owners.{owner_by}
use Rattle.tv_machine.specs.Dialog.Lawful.{Marks, NamesCluster}
use Rattle.tv_machine.specs.Dialog.Lawful as machine
use Rattle.tv_faults.specs.Sound.Letters.{MarkOthersUnlessShared, marked_texts}
use Rattle.tv_faults.specs.Sound.Limits.{EnablesLawfulCommand}
use Rattle.tv_faults.specs.Sound.Rules.{HasItem, NamesThings}
use Rattle.tv_faults.proofs.LetterLemmas.{marks_decides}
use Rattle.tv_faults.proofs.PairLemmas.{Across, pairs_flat}
use Rattle.tv_faults.proofs.SeenLemmas.{of_any}
use Rattle.tv_machine.proofs.ListLemmas.{bool_cases}

-- ---- rules

item_cluster : (n : ℤ) (kind : Kind) → HasItem n kind → IsTrue (is_cluster kind)
item_cluster n (kinds.CheckBoxes boxes) has = refl
item_cluster n (kinds.RadioButtons radios) has = refl
item_cluster n _ has = absurd has

pub names_cluster : (views : List Node) (rule : Rule) → NamesThings views rule → NamesCluster views rule
names_cluster views rule names node e =
    let h = names.item in
    let found : meant views rule.cluster ≡ Some h.0 = h.1 in
    let same : h.0 ≡ node = cc in
    subst (λ (node : Node). IsTrue (is_cluster node.kind)) same (item_cluster rule.item h.0.kind h.2)

pub lawful_effect : (effect : Effect) → EnablesLawfulCommand effect → machine.IsLawfulEffect effect
lawful_effect (effects.Show name) lawful = tt
lawful_effect (effects.Enable command) lawful = lawful

-- ---- letters

any_placed : {A : Type 0} (p : A → Bool) (xs : List A) → position_or_len p xs < length xs → list_any p xs ≡ true
any_placed p [] less = absurd (omega arith)
any_placed p (x ∷ xs) less =
    bool_cases (p x) (λ b. cond (not b) (1 + position_or_len p xs) 0 < suc (length xs) → (b || list_any p xs) ≡ true)
    (λ passes less. refl)
    (λ fails less. any_placed p xs (omega (arith, less)))
    less

lt_says : (a b : ℕ) → nat_lt a b ≡ true → a < b
lt_says a b h = grind (arith, nat_tests)

any_found : {A B : Type 0} (p : A → Bool) (f : ℕ → B) (xs : List A) → is_some (option_map f (position p xs)) ≡ true → list_any p xs ≡ true
any_found p f xs some =
    bool_cases (nat_lt (position_or_len p xs) (length xs))
    (λ b. nat_lt (position_or_len p xs) (length xs) ≡ b → is_some (option_map f (cond b (Some (position_or_len p xs)) None)) ≡ true
    → list_any p xs ≡ true)
    (λ is less some. any_placed p xs (lt_says (position_or_len p xs) (length xs) less))
    (λ is less some. absurd (false≢true some))
    refl some

any_own : (b : Bool) (o : LetterOwner) → is_some (if b then Some o else None) ≡ true → (b || false) ≡ true
any_own true o some = refl
any_own false o some = absurd (false≢true some)

-- a letter is marked by a text
pub marks_some : (letter : ℕ) (kind : Kind) → IsTrue (is_some (owner_by letter kind)) → list_any (marks letter) (marked_of kind) ≡ true
marks_some letter (kinds.Label label) some = any_own (marks letter label.text) _ some
marks_some letter (kinds.Button button) some = any_own (marks letter button.text) _ some
marks_some letter (kinds.CheckBoxes boxes) some = any_found (marks letter) _ boxes.items some
marks_some letter (kinds.RadioButtons radios) some = any_found (marks letter) _ radios.items some
marks_some letter _ some = absurd (false≢true some)

not_both : (shared : ℕ → Bool) (letter : ℕ) (texts others : List MarkedText) → Across (MarkOthersUnlessShared shared) texts others
    → shared letter ≡ false → list_any (marks letter) texts ≡ true → list_any (marks letter) others ≡ true → ⊥
not_both shared letter texts others apart alone one other =
    let h = Any-from_list_any (marks letter) texts one in
    let k = Any-from_list_any (marks letter) others other in
    let from : All (MarkOthersUnlessShared shared h.1) others =
    of_any (λ text. All (MarkOthersUnlessShared shared text) others) (λ text. marks letter text ≡ true) texts apart h in
    let differ : MarkOthersUnlessShared shared h.1 k.1 = of_any (MarkOthersUnlessShared shared h.1) (λ text. marks letter text ≡ true) others from k in
    differ letter alone ((marks_decides letter h.1).0 h.4) ((marks_decides letter k.1).0 k.4)

pub own_letters : (shared : ℕ → Bool) (views : List Node) → AllPairs (MarkOthersUnlessShared shared) (marked_texts views) → (letter : ℕ) → shared letter ≡ false
    → AllPairs (λ view other. Marks letter view → Marks letter other → ⊥) views
own_letters shared views apart letter alone i j view less below one other =
    let texts : List MarkedText = marked_of (get_or views i view).kind in
    let others : List MarkedText = marked_of (get_or views j view).kind in
    not_both shared letter texts others (((pairs_flat (MarkOthersUnlessShared shared) (λ view. marked_of view.kind) views).0 apart).0 i j view less below) alone
    (marks_some letter (get_or views i view).kind one) (marks_some letter (get_or views j view).kind other)
