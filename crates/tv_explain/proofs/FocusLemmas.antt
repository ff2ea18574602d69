-- Why rules may leave a dialog without a control to focus, by the place of its first control.
use Rattle.std.proofs.Common.{◌≡◌, ℕ, Option, Some, None, List, [], ◌∷◌, take, sym, ap, ◌∙◌}
use Rattle.std.specs.List.{position}
use Rattle.std.specs.Option.{option_map_or}
use Rattle.std.specs.Prelude.{slice_index_or}
use Rattle.tv_model.specs.declared.node.Node.{Node}
use Rattle.tv_model.specs.declared.desc.Rule.{Rule}
use Rattle.tv_model.specs.Description.Nodes.{is_control}
use Rattle.tv_explain.specs.declared.why.Why.{Why}
use Rattle.tv_explain.specs.declared.why.Reason.TheVariants as reasons
use Rattle.tv_explain.specs.Whys.{because}
use Rattle.tv_explain.specs.Rules.{focus_of, reaching_line}
use Rattle.tv_explain.proofs.LineLemmas.{found_at, found_nowhere}

-- why, by the first control with those before it
abbrev why_by : List Rule → List Node → Option (List Node × Node) → Why
why_by rules views found =
    option_map_or (λ (pair : List Node × Node). because reasons.AllReached (reaching_line rules views pair.0 pair.1)) found (because reasons.NoControl None)

pub none_reached : (rules : List Rule) (views : List Node) → None ≡ position (λ node. is_control node.kind) views → because reasons.NoControl None ≡ focus_of rules views
none_reached rules views e = ap (why_by rules views) (found_nowhere (λ node. is_control node.kind) views (sym e))

pub reached_by : (rules : List Rule) (views : List Node) (at : ℕ) (line : Option ℕ) → Some at ≡ position (λ node. is_control node.kind) views
    → ((view : Node) → line ≡ reaching_line rules views (take at views) (slice_index_or views at view)) → because reasons.AllReached line ≡ focus_of rules views
reached_by rules [] at line e lines = cc
reached_by rules (view ∷ views) at line e lines =
    ap (because reasons.AllReached) (lines view) ∙ ap (why_by rules (view ∷ views)) (found_at (λ node. is_control node.kind) (view ∷ views) at view (sym e))
