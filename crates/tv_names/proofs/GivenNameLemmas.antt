-- Names that were given, kept in a set.
use Rattle.std.proofs.Common.{◌≡◌, Bool, true, false, not, cond, ◌||◌, Option, Some, None, List, [], ◌∷◌, ◌++◌, refl, sym, ap, ◌∙◌, bytes_eq}
use Rattle.std.specs.List.{list_any}
use Rattle.std.proofs.Common.{ℕ}
use Rattle.std.proofs.lemmas.List.Folds.{list_any-append}
use Rattle.tv_model.specs.declared.node.Node.{Node}
use Rattle.tv_model.specs.Description.Nodes.{name_of}
use Rattle.tv_model.specs.Description.Names.{gives_name, is_option_named, shares_name}
use Rattle.tv_model.specs.Faults.Names.{names_again}
use Rattle.tv_model.proofs.TestLemmas.{any_none, any_same}

-- the test of one node more
last_first : (a b : Bool) → (a || (b || false)) ≡ cond b true a
last_first true true = refl
last_first true false = refl
last_first false true = refl
last_first false false = refl

same_name : (node other : Node) (name : List ℕ) → name_of node.kind ≡ Some name → shares_name node other ≡ gives_name name other
same_name node other name e = rw e refl

no_name : (node other : Node) → name_of node.kind ≡ None → shares_name node other ≡ false
no_name node other e = rw e refl

more_given : (q : List ℕ) (before : List Node) (node : Node) (own : Option (List ℕ)) → name_of node.kind ≡ own
    → list_any (gives_name q) (before ++ node ∷ []) ≡ cond (is_option_named q own) true (list_any (gives_name q) before)
more_given q before node own e =
    list_any-append (gives_name q) before (node ∷ []) ∙ last_first (list_any (gives_name q) before) (gives_name q node)
    ∙ ap (λ (o : Option (List ℕ)). cond (is_option_named q o) true (list_any (gives_name q) before)) e

not_not : (a b : Bool) → a ≡ not b → not a ≡ b
not_not a true e = ap not e
not_not a false e = ap not e

module _ (before : List Node) (node : Node) (had : List ℕ → Bool) (kept : (q : List ℕ) → had q ≡ list_any (gives_name q) before) where
  -- a name that is put into the set
  pub give_name : (name : List ℕ) (new : Bool) (has : List ℕ → Bool) → name_of node.kind ≡ Some name → new ≡ not (had name)
      → ((q : List ℕ) → has q ≡ cond (bytes_eq name q) true (had q))
      → (not new ≡ names_again before node) × ((q : List ℕ) → has q ≡ list_any (gives_name q) (before ++ node ∷ []))
  give_name name new has e fresh put = (
    not_not new (had name) fresh ∙ kept name ∙ sym (any_same (shares_name node) (gives_name name) (λ other. same_name node other name e) before),
    λ q. put q ∙ ap (cond (bytes_eq name q) true) (kept q) ∙ sym (more_given q before node (Some name) e),
  )

  -- no name
  pub give_none : name_of node.kind ≡ None → (false ≡ names_again before node) × ((q : List ℕ) → had q ≡ list_any (gives_name q) (before ++ node ∷ []))
  give_none e = (
    sym (any_same (shares_name node) (λ _. false) (λ other. no_name node other e) before ∙ any_none (λ _. false) (λ other. refl) before),
    λ q. kept q ∙ sym (more_given q before node None e),
  )
