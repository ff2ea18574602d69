-- Lists that are looked through.
use Rattle.std.proofs.Common.{◌≡◌, ℕ, ◌<◌, ◌+◌, Bool, ◌||◌, List, [], ◌∷◌, ◌++◌, map, take, get_or, length, refl, sym, ap, ◌∙◌, append_assoc}
use Rattle.std.specs.List.{list_any}
use Rattle.std.proofs.lemmas.List.{map-append, take_more}

pub any_map : {A B : Type 0} (p : B → Bool) (f : A → B) (xs : List A) → list_any p (map f xs) ≡ list_any (λ x. p (f x)) xs
any_map p f [] = refl
any_map p f (x ∷ xs) = ap (λ b. p (f x) || b) (any_map p f xs)

pub joined : {A B : Type 0} (f : A → B) (found : List B) (xs ys : List A) → (found ++ map f xs) ++ map f ys ≡ found ++ map f (xs ++ ys)
joined f found xs ys = append_assoc found (map f xs) (map f ys) ∙ ap (λ list. found ++ list) (sym (map-append f xs ys))

-- five parts that are added one after the other
pub five_parts : {A B : Type 0} (f : A → B) (found one two three four all : List B) (a b c d e : List A)
    → one ≡ found ++ map f a → two ≡ one ++ map f b → three ≡ two ++ map f c → four ≡ three ++ map f d → all ≡ four ++ map f e
    → all ≡ found ++ map f (a ++ (b ++ (c ++ (d ++ e))))
five_parts f found one two three four all a b c d e first second third fourth fifth =
    fifth ∙ ap (λ list. list ++ map f e) fourth ∙ joined f three d e
    ∙ ap (λ list. list ++ map f (d ++ e)) third ∙ joined f two c (d ++ e)
    ∙ ap (λ list. list ++ map f (c ++ (d ++ e))) second ∙ joined f one b (c ++ (d ++ e))
    ∙ ap (λ list. list ++ map f (b ++ (c ++ (d ++ e)))) first ∙ joined f found a (b ++ (c ++ (d ++ e)))

-- one item more, read by f
pub mapped_more : {A B : Type 0} (f : A → B) (before : List B) (xs : List A) (i : ℕ) (x : A) → i < length xs → x ≡ get_or xs i x
    → (before ++ map f (take i xs)) ++ f x ∷ [] ≡ before ++ map f (take (i + 1) xs)
mapped_more f before xs i x less is =
    append_assoc before (map f (take i xs)) (f x ∷ []) ∙ ap (λ list. before ++ list) (ap (λ y. map f (take i xs) ++ f y ∷ []) is
    ∙ sym (ap (map f) (take_more xs i x less) ∙ map-append f (take i xs) (get_or xs i x ∷ [])))
