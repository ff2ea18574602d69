-- What the rules of a dialog enable goes by the fields of its leaves.
use Rattle.std.proofs.Common.{◌≡◌, Bool, false, ◌&&◌, ◌||◌, ◌==◌, not, ℕ, cond, get_or, if◌then◌else◌, List, [], ◌∷◌, map, Option, Some, None, option_map, refl, sym, ap, ◌∙◌}
use Rattle.std.specs.Prelude.{nat_lt}
use Rattle.std.specs.List.{cons_option, list_all}
use Rattle.std.proofs.lemmas.Bool.{or_parts}
use Rattle.tv_model.specs.declared.desc.Dialog.{Dialog}
use Rattle.tv_model.specs.declared.desc.Rule.{Rule}
use Rattle.tv_model.specs.declared.node.Id.{Id}
use Rattle.tv_model.specs.declared.node.Node.{Node}
use Rattle.tv_model.specs.Description.Names.{meant}
use Rattle.tv_model.specs.Description.Numbers.{natural}
use Rattle.tv_model.specs.Kinds.Cluster.{is_marked}
use Rattle.tv_model.specs.Log.Record.{Entries, value_of}
use Rattle.tv_machine.specs.State.{LeafState}
use Rattle.tv_machine.specs.Dialog.Ending.{fields_of}
use Rattle.tv_machine.specs.Dialog.Rules.{content_by, content_held, enables, is_among, is_command_enabled, is_marked_at, state_of}
use Rattle.tv_machine.proofs.EntryLemmas.{entry_with}
use Rattle.tv_machine.proofs.LeafLemmas.{state_id}
use Rattle.tv_machine.proofs.ListLemmas.{AreApart, all-same, bool_cases, option_cases, same-id}

-- ---- values

-- what has no leaf has no value
absent_value : (states : List LeafState) (i : Id) → is_among (map state_id states) i ≡ false → value_of (fields_of states) i.0 ≡ None
absent_value [] i none = refl
absent_value (x ∷ states) i none =
    let parts = or_parts (x.id.0 == i.0) (is_among (map state_id states) i) none in
    let more = absent_value states i parts.1 in
    option_cases x.value (λ o. value_of (cons_option (option_map (entry_with x.id) o) (fields_of states)) i.0 ≡ None) (λ is. more)
    (λ v is. ap (λ b. if b then Some v else value_of (fields_of states) i.0) parts.0 ∙ more)

-- the value of a leaf is that of its field
pub held_value : (states : List LeafState) → AreApart (map state_id states) → (i : Id) → (content_held states [] i).value ≡ value_of (fields_of states) i.0
held_value [] apart i = refl
held_value (x ∷ states) apart i =
    let more = held_value states apart.1 i in
    option_cases x.value
    (λ o. x.value ≡ o → (content_by false (cond (x.id.0 == i.0) (Some x) (state_of states i))).value ≡ value_of (cons_option (option_map (entry_with x.id) o) (fields_of states)) i.0)
    (λ none is. bool_cases (x.id.0 == i.0) (λ b. (x.id.0 == i.0) ≡ b → (content_by false (cond b (Some x) (state_of states i))).value ≡ value_of (fields_of states) i.0)
    (λ here e. is ∙ sym (absent_value states i (ap (is_among (map state_id states)) (sym (same-id x.id i e)) ∙ apart.0))) (λ there e. more) refl)
    (λ v some is. bool_cases (x.id.0 == i.0)
    (λ b. (content_by false (cond b (Some x) (state_of states i))).value ≡ (if b then Some v else value_of (fields_of states) i.0)) (λ here. is) (λ there. more)) refl

-- ---- rules

-- whether a cluster has the item marked in a record
abbrev pub is_marked_as : Entries → ℕ → Option Node → Bool
is_marked_as es item None = false
is_marked_as es item (Some cluster) = is_marked (value_of es cluster.id.0) item

abbrev pub holds_as : List Node → Entries → Rule → Bool
holds_as views es rule = nat_lt 0 (natural rule.item) && is_marked_as es (natural rule.item) (meant views rule.cluster)

-- whether the rules enable a command by a record
abbrev pub is_enabled_as : List Node → List Rule → Entries → ℕ → Bool
is_enabled_as views rules es number = list_all (λ rule. not (enables number rule.effect) || holds_as views es rule) rules

marked_is : (states : List LeafState) → AreApart (map state_id states) → (item : ℕ) (cluster : Option Node) → is_marked_at states item cluster ≡ is_marked_as (fields_of states) item cluster
marked_is states apart item None = refl
marked_is states apart item (Some cluster) = ap (λ v. is_marked v item) (held_value states apart cluster.id)

pub enabled_is : (d : Dialog) (states : List LeafState) (number : ℕ) → AreApart (map state_id states) → is_command_enabled d states number ≡ is_enabled_as d.views d.rules (fields_of states) number
enabled_is d states number apart =
    all-same (λ rule. not (enables number rule.effect) || (nat_lt 0 (natural rule.item) && is_marked_at states (natural rule.item) (meant d.views rule.cluster)))
    (λ rule. not (enables number rule.effect) || holds_as d.views (fields_of states) rule) d.rules
    (λ k rule less. let own : Rule = get_or d.rules k rule in
    ap (λ b. not (enables number own.effect) || (nat_lt 0 (natural own.item) && b)) (marked_is states apart (natural own.item) (meant d.views own.cluster)))
