-- Each dialog of a sound description that can be spelled has what the laws of its runs ask.
use Rattle.std.proofs.Common.{◌≡◌, ◌∙◌, ℕ, false, IsTrue, if◌then◌else◌, List, [], ◌∷◌, ◌++◌, map, filter, find, get_or, Some, refl, sym, ap, subst}
use Rattle.std.specs.List.{All, AllPairs}
use Rattle.std.proofs.lemmas.Bool.{false_from_ne_true}
use Rattle.std.proofs.lemmas.List.Elements.{All-nil, All-cons, All-filter, All-from_recursion, All-map, All-tail}
use Rattle.tv_model.specs.declared.node.Node.{Node}
use Rattle.tv_model.specs.declared.desc.Desc.{Desc}
use Rattle.tv_model.specs.declared.desc.Dialog.{Dialog}
use Rattle.tv_model.specs.declared.desc.Rule.{Rule}
use Rattle.tv_model.specs.declared.desc.Effect.{Effect}
use Rattle.tv_model.specs.declared.desc.Effect.TheVariants as effects
use Rattle.tv_model.specs.Description.LawfulNodes.{HasLawfulStart, IsNarrowNode}
use Rattle.tv_model.specs.Description.Names.{gives_name, meant}
use Rattle.tv_model.specs.Faults.{IsSound}
use Rattle.tv_model.specs.Faults.Lines.{after_seen}
use Rattle.tv_machine.specs.Dialog.Rules.{shows}
use Rattle.tv_machine.specs.Dialog.Sound.{HasSoundDialogs, ShowsOthers}
use Rattle.tv_machine.specs.Leaves.{PlacedNode}
use Rattle.tv_declarations.specs.Spelling.{AreViews, IsDescription, IsDialog}
use Rattle.tv_faults.specs.Sound.{Sound}
use Rattle.tv_faults.specs.Sound.Names.{HasName, HaveOtherNames}
use Rattle.tv_faults.specs.Sound.Rules.{NamesThings, ShowsOther, meant_after}
use Rattle.tv_faults.specs.Usable.{IsUsableDialog}
use Rattle.tv_faults.proofs.LackLemmas.{bodies}
use Rattle.tv_faults.proofs.LawfulDialogLemmas.{lawful_dialogs}
use Rattle.tv_faults.proofs.LawfulFocusLemmas.{MeansItself, all_mean, not_shown}
use Rattle.tv_faults.proofs.LawfulPartLemmas.{names_cluster}
use Rattle.tv_faults.proofs.LimitLemmas.{OfBody, nodes_iff}
use Rattle.tv_faults.proofs.NameLemmas.{gives_decides}
use Rattle.tv_faults.proofs.PairLemmas.{after_own, pairs_head, pairs_tail}
use Rattle.tv_faults.proofs.SeenLemmas.{is_leaf, leaf_list-after, placed_after}
use Rattle.tv_faults.proofs.SoundLemmas.{sound_says}
use Rattle.tv_faults.proofs.UsableLemmas.{usable}

-- ---- no cluster hides itself

-- its name finds the view itself, with the views before it
abbrev FindsItself : List Node → List Node → List Node × Node → Type 0
FindsItself seen views pair =
    (name : List ℕ) → HasName pair.1 name → find (λ other. gives_name name other.1) (after_seen seen views) ≡ Some pair

all_found : (seen views : List Node) → AllPairs HaveOtherNames views → All (FindsItself seen views) (after_seen seen views)
all_found seen [] apart = All-nil (FindsItself seen [])
all_found seen (view ∷ views) apart =
    let rest = after_seen (seen ++ view ∷ []) views in
    let others : All (λ pair. HaveOtherNames view pair.1) rest =
    (after_own (HaveOtherNames view) (seen ++ view ∷ []) views).1 (pairs_head HaveOtherNames view views apart) in
    All-cons (FindsItself seen (view ∷ views)) (seen, view) rest
    (λ name has.
    ap (λ b. if b then Some (seen, view) else find (λ other. gives_name name other.1) rest) ((gives_decides name view).1 has))
    (λ k other less name has.
    ap (λ b. if b then Some (seen, view) else find (λ other. gives_name name other.1) rest)
    (false_from_ne_true (gives_name name view) (λ t. others k other less name ((gives_decides name view).0 t) has))
    ∙ all_found (seen ++ view ∷ []) views (pairs_tail HaveOtherNames view views apart) k other less name has)

-- a view of the rule's own name is one that the rule doesn't show
abbrev IsSpared : List Node → Rule → PlacedNode → Type 0
IsSpared views rule leaf = IsTrue (gives_name rule.cluster leaf.node) → shows views leaf rule.effect ≡ false

module _ (views : List Node) (rule : Rule) (names : NamesThings views rule) (others : ShowsOther views rule) where
  spares : (before : List Node) (node : Node) → meant views rule.cluster ≡ Some node → meant_after views rule.cluster ≡ Some (before, node)
      → (effect : Effect) → rule.effect ≡ effect → shows views (placed_after (before, node)) effect ≡ false
  spares before node there found (effects.Enable command) is = refl
  spares before node there found (effects.Show name) is =
      not_shown views before node (effects.Show name) (λ reached.
      others name reached.0 before node is reached.1 found (names_cluster views rule names node there) reached.2)

  leaves_spared : AreViews 0 views → AllPairs HaveOtherNames views
      → All (IsSpared views rule) (map placed_after (filter is_leaf (after_seen [] views)))
  leaves_spared are apart =
      let pairs = after_seen [] views in
      let mean : All (λ pair. MeansItself views pair.1) pairs = (after_own (MeansItself views) [] views).1 (all_mean views apart) in
      All-map (IsSpared views rule) placed_after (filter is_leaf pairs)
      (All-filter is_leaf (λ pair. IsSpared views rule (placed_after pair)) pairs (λ k pair less named.
      let at : List Node × Node = get_or pairs k pair in
      let has : HasName at.1 rule.cluster = (gives_decides rule.cluster at.1).0 named in
      spares at.0 at.1 (mean k pair less rule.cluster has) (all_found [] views apart k pair less rule.cluster has) rule.effect refl))

shows_others : (d : Dialog) (rule : Rule) → AreViews 0 d.views → AllPairs HaveOtherNames d.views
    → NamesThings d.views rule → ShowsOther d.views rule → ShowsOthers d rule
shows_others d rule are apart names others =
    subst (All (IsSpared d.views rule)) (sym (leaf_list-after d.views are)) (leaves_spared d.views rule names others are apart)

-- ---- the whole

abbrev StartsWell : Node → Type 0
StartsWell node = HasLawfulStart node.kind

own_dialogs : (d : Desc) → IsDescription d → Sound d → HasSoundDialogs d
own_dialogs d is s k dialog less =
    let own : Dialog = get_or d.dialogs k dialog in
    let use_of : IsUsableDialog d own = (usable d s).dialogs k dialog less in
    let stands : IsDialog own = All-from_recursion IsDialog d.dialogs is.dialogs k dialog less in
    let apart : AllPairs HaveOtherNames own.views =
    ((bodies d (λ body. AllPairs HaveOtherNames body.views)).0 s.names.views).1 k dialog less in
    record {
      lawful = lawful_dialogs d is s k dialog less;
      narrow = All-tail IsNarrowNode own.node own.views use_of.narrow;
      starts = (((bodies d (OfBody StartsWell)).0 ((nodes_iff StartsWell d).0 s.starts)).1 k dialog less).1;
      shown = λ i rule within.
          shows_others own (get_or own.rules i rule) stands.views apart
          (s.rules k dialog less i rule within) (s.shown k dialog less i rule within);
      cancel = use_of.cancel;
    }

pub sound_dialogs : (d : Desc) → IsDescription d → IsSound d → HasSoundDialogs d
sound_dialogs d is sound = own_dialogs d is (sound_says d sound)
