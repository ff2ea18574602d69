-- What is written of a description, declaration by declaration.
use Rattle.std.proofs.Common.{◌≡◌, ℕ, suc, ◌+◌, ◌-◌, ◌<◌, ◌≤◌, List, [], ◌∷◌, ◌++◌, length, get_or, drop, drop-cons, length-drop, replicate, refl, sym, ap, ◌∙◌, append_assoc, add-one, arith}
use Rattle.std.proofs.lemmas.List.{nil_from_length, replicate_more}
use Rattle.tv_model.specs.declared.node.Node.{Node}
use Rattle.tv_declarations.specs.declared.declaration.Declaration.{Declaration}
use Rattle.tv_declarations.specs.declared.declaration.Declaration.TheVariants as declared
use Rattle.tv_words.specs.Canonical.{ended_line}
use Rattle.tv_declarations.specs.CanonicalDescription.{declarations_text}
use Rattle.tv_declarations.specs.Spelling.Declarations.{declaration_words}
use Rattle.tv_declarations.specs.Spelling.{ends_of_panes, open_panes_after, view_declarations}

pub texts_joined : (ds es : List Declaration) → declarations_text (ds ++ es) ≡ declarations_text ds ++ declarations_text es
texts_joined [] es = refl
texts_joined (d ∷ ds) es = ap (λ x. ended_line (declaration_words d) ++ x) (texts_joined ds es) ∙ sym (append_assoc (ended_line (declaration_words d)) (declarations_text ds) (declarations_text es))

-- one end more
pub end_written : (old text new : List ℕ) (n : ℕ) → text ≡ old ++ declarations_text (replicate n declared.End) → new ≡ text ++ declarations_text (declared.End ∷ []) → new ≡ old ++ declarations_text (replicate (n + 1) declared.End)
end_written old text new n so_far more =
    let ends = replicate n declared.End in
    let last : List Declaration = declared.End ∷ [] in
    rw (more, so_far, ← replicate_more n declared.End) (append_assoc old (declarations_text ends) (declarations_text last) ∙ ap (λ x. old ++ x) (sym (texts_joined ends last)))

-- a view more, and before it the ends of panes
pub view_written : (old ended new all : List ℕ) (panes : ℕ) (ns : List Node) (i : ℕ) (n : Node) → i < length ns → n ≡ get_or ns i n → ended ≡ old ++ declarations_text (ends_of_panes panes n.depth) → new ≡ ended ++ declarations_text (declared.Node n ∷ []) → old ++ declarations_text (view_declarations panes (drop i ns)) ≡ all → new ++ declarations_text (view_declarations (open_panes_after n) (drop (i + 1) ns)) ≡ all
view_written old ended new all panes ns i n within is ends more so_far =
    let first : drop i ns ≡ n ∷ drop (suc i) ns = drop-cons ns i n within ∙ ap (λ x. x ∷ drop (suc i) ns) (sym is) in
    let closed = ends_of_panes panes n.depth in
    let line : List Declaration = declared.Node n ∷ [] in
    let rest = view_declarations (open_panes_after n) (drop (suc i) ns) in
    let joined : old ++ (declarations_text closed ++ (declarations_text line ++ declarations_text rest)) ≡ all =
    ap (λ x. old ++ x) (ap (λ x. declarations_text closed ++ x) (sym (texts_joined line rest)) ∙ sym (texts_joined closed (line ++ rest))) ∙ ap (λ x. old ++ declarations_text (view_declarations panes x)) (sym first) ∙ so_far in
    rw (more, ends, add-one i) (append_assoc (old ++ declarations_text closed) (declarations_text line) (declarations_text rest) ∙ append_assoc old (declarations_text closed) (declarations_text line ++ declarations_text rest) ∙ joined)

-- after the last view
pub views_written : (old all : List ℕ) (panes : ℕ) (ns : List Node) (i : ℕ) → length ns ≤ i → old ++ declarations_text (view_declarations panes (drop i ns)) ≡ all → old ++ declarations_text (replicate panes declared.End) ≡ all
views_written old all panes ns i past so_far =
    let none : drop i ns ≡ [] = nil_from_length (drop i ns) (omega (arith, length-drop i ns)) in
    let same : panes - 0 ≡ panes = omega arith in
    rw (none, same) at so_far
