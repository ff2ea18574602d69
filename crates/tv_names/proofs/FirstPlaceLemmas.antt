-- The first view that gives a name, and its place.
use Rattle.std.proofs.Common.{◌≡◌, ℕ, suc, ◌<◌, ◌+◌, Bool, true, false, cond, Option, Some, None, MatchOption, List, [], ◌∷◌, ◌++◌, take, get_or, length, Bor, refl, sym, ap, ◌∙◌, arith}
use Rattle.std.specs.List.{find}
use Rattle.std.specs.Slice.{IsItemAt}
use Rattle.std.specs.Option.{option_copied, option_map, option_or, IfSome}
use Rattle.std.proofs.lemmas.Bool.{false≢true}
use Rattle.std.proofs.lemmas.List.{append_assoc, length-append, length-take-le, take_more}
use Rattle.std.proofs.lemmas.List.Folds.{find-append}
use Rattle.std.proofs.Math.Seq.{get_or-append_seam, take-append_seam}
use Rattle.tv_model.specs.declared.node.Node.{Node}
use Rattle.tv_model.specs.Description.Nodes.{name_of}
use Rattle.tv_model.specs.Faults.Lines.{after_seen}
use Rattle.tv_model.specs.Description.Names.{gives_name, is_option_named, meant}
use Rattle.tv_names.specs.Named.{IsFirstAt, first_given}
use Rattle.tv_model.proofs.EachAfterLemmas.{after_push}

-- ---- the pairs

-- the pair is an item of the list, with those before it
abbrev IsItem : {A : Type 0} → List A → List A × A → Type 0
IsItem {A} all pair = (length pair.0 < length all) × (pair.0 ≡ take (length pair.0) all) × ((d : A) → pair.1 ≡ get_or all (length pair.0) d)

item_seam : {A : Type 0} (seen : List A) (x : A) (xs : List A) → IsItem (seen ++ x ∷ xs) (seen, x)
item_seam seen x xs = (
  let e : length (seen ++ x ∷ xs) ≡ length seen + suc (length xs) = length-append seen (x ∷ xs) in omega (arith, e),
  sym (take-append_seam seen (x ∷ xs)),
  λ d. sym (get_or-append_seam seen x xs d),
)

if_some : {A : Type 0} (P : A → Type 0) (b : Bool) (x : A) (o : Option A) → P x → IfSome o P → IfSome (cond b (Some x) o) P
if_some P true x o here there = here
if_some P false x o here there = there

found_item : {A : Type 0} (p : List A × A → Bool) (seen xs all : List A) → all ≡ seen ++ xs → IfSome (find p (after_seen seen xs)) (IsItem all)
found_item p seen [] all e = tt
found_item {A} p seen (x ∷ xs) all e =
    if_some (IsItem all) (p (seen, x)) (seen, x) (find p (after_seen (seen ++ x ∷ []) xs)) (rw e (item_seam seen x xs))
    (found_item p (seen ++ x ∷ []) xs all (e ∙ sym (append_assoc seen (x ∷ []) xs)))

-- ---- places

at_place : (views : List Node) (name : List ℕ) (found : Option (List Node × Node)) → first_given views name ≡ found → IfSome found (IsItem views)
    → MatchOption (option_map (λ (pair : List Node × Node). length pair.0) found) (first_given views name ≡ None) (IsFirstAt views name)
at_place views name None e item = e
at_place views name (Some pair) e item = (item.0, λ other. e ∙ ap Some (ap (λ before. (before, pair.1)) item.1 ∙ ap (λ view. (take (length pair.0) views, view)) (item.2 other)))

pub is_first : (views : List Node) (name : List ℕ) (place : Option ℕ) → place ≡ option_map (λ (pair : List Node × Node). length pair.0) (first_given views name)
    → MatchOption place (first_given views name ≡ None) (IsFirstAt views name)
is_first views name place e = rw e (at_place views name (first_given views name) refl (found_item (λ pair. gives_name name pair.1) [] views views refl))

-- ---- what the name means

map_cond : {A B : Type 0} (f : A → B) (b : Bool) (x : A) (o : Option A) → option_map f (cond b (Some x) o) ≡ cond b (Some (f x)) (option_map f o)
map_cond f true x o = refl
map_cond f false x o = refl

found_alone : {A : Type 0} (p : A → Bool) (seen xs : List A) → option_map (λ (pair : List A × A). pair.1) (find (λ (pair : List A × A). p pair.1) (after_seen seen xs)) ≡ find p xs
found_alone p seen [] = refl
found_alone {A} p seen (x ∷ xs) =
    map_cond (λ (pair : List A × A). pair.1) (p x) (seen, x) (find (λ (pair : List A × A). p pair.1) (after_seen (seen ++ x ∷ []) xs)) ∙ ap (cond (p x) (Some x)) (found_alone p (seen ++ x ∷ []) xs)

meant_first : (views : List Node) (name : List ℕ) (found : Option (List Node × Node)) → first_given views name ≡ found → meant views name ≡ option_map (λ (pair : List Node × Node). pair.1) found
meant_first views name found e = sym (found_alone (gives_name name) [] views) ∙ ap (option_map (λ (pair : List Node × Node). pair.1)) e

pub meant_nowhere : (views : List Node) (name : List ℕ) → first_given views name ≡ None → meant views name ≡ None
meant_nowhere views name e = meant_first views name None e

-- what stands at the place
pub meant_there : (views : List Node) (name : List ℕ) (i : ℕ) (found : Option (Bor Node)) → IsFirstAt views name i → IsItemAt views i found → option_copied found ≡ meant views name
meant_there views name i None first item = absurd (false≢true (item.2 first.0))
meant_there views name i (Some view) first item = ap Some item.1 ∙ sym (meant_first views name (Some (take i views, get_or views i view.now)) (first.1 view.now))

-- ---- one view more

abbrev pub place_of : List Node → List ℕ → Option ℕ
place_of views name = option_map (λ (pair : List Node × Node). length pair.0) (first_given views name)

map_or : {A B : Type 0} (f : A → B) (o p : Option A) → option_map f (option_or o p) ≡ option_or (option_map f o) (option_map f p)
map_or f None p = refl
map_or f (Some x) p = refl

length_cond : (views : List Node) (view : Node) (b : Bool)
    → option_map (λ (pair : List Node × Node). length pair.0) (cond b (Some (views, view)) None) ≡ cond b (Some (length views)) None
length_cond views view true = refl
length_cond views view false = refl

place_pushed : (views : List Node) (view : Node) (name : List ℕ) (own : Option (List ℕ)) → name_of view.kind ≡ own
    → place_of (views ++ view ∷ []) name ≡ option_or (place_of views name) (cond (is_option_named name own) (Some (length views)) None)
place_pushed views view name own e =
    let gives : List Node × Node → Bool = λ pair. gives_name name pair.1 in
    let last : List (List Node × Node) = (views, view) ∷ [] in
    ap (λ list. option_map (λ (pair : List Node × Node). length pair.0) (find gives list)) (after_push [] views view)
    ∙ ap (option_map (λ (pair : List Node × Node). length pair.0)) (find-append gives (after_seen [] views) last)
    ∙ map_or (λ (pair : List Node × Node). length pair.0) (first_given views name) (find gives last)
    ∙ ap (option_or (place_of views name)) (length_cond views view (gives_name name view))
    ∙ ap (λ (o : Option (List ℕ)). option_or (place_of views name) (cond (is_option_named name o) (Some (length views)) None)) e

pub option_or_none : {A : Type 0} (o : Option A) → option_or o None ≡ o
option_or_none None = refl
option_or_none (Some x) = refl

pub place_more : (views : List Node) (i : ℕ) (view : Node) (name : List ℕ) (own : Option (List ℕ)) → i < length views → view ≡ get_or views i view → name_of view.kind ≡ own
    → place_of (take (i + 1) views) name ≡ option_or (place_of (take i views) name) (cond (is_option_named name own) (Some i) None)
place_more views i view name own less is e =
    let long : length (take i views) ≡ i = length-take-le i views (omega arith) in
    ap (λ list. place_of list name) (take_more views i view less ∙ ap (λ last. take i views ++ last ∷ []) (sym is))
    ∙ place_pushed (take i views) view name own e
    ∙ ap (λ n. option_or (place_of (take i views) name) (cond (is_option_named name own) (Some n) None)) long
