-- A plan of building names each node once, in order.
use Rattle.std.proofs.Common.{◌≡◌, All, ℕ, zero, suc, ◌+◌, ◌-◌, ◌<◌, ◌≤◌, Bool, true, false, cond, List, [], ◌∷◌, ◌++◌, append_assoc, map, flat_map, filter_map, replicate, length, get_or, drop, Some, refl, sym, ap, ◌∙◌, add-zero, arith}
use Rattle.std.proofs.lemmas.List.{append-nil, drop_more, map-append}
use Rattle.tv_check.specs.declared.plan.BuildStep.{BuildStep}
use Rattle.tv_check.specs.declared.plan.BuildStep.TheVariants as steps
use Rattle.std.proofs.lemmas.List.Elements.{All-cons, All-head, All-nil, All-tail, filter_map-append}
use Rattle.tv_model.specs.declared.node.Node.{Node}
use Rattle.tv_model.specs.declared.desc.Desc.{Desc}
use Rattle.tv_model.specs.declared.desc.Dialog.{Dialog}
use Rattle.tv_model.specs.declared.desc.Rule.{Rule}
use Rattle.tv_model.specs.declared.desc.Window.{Window}
use Rattle.tv_model.specs.Description.LawfulNodes.{IsLawfulNode}
use Rattle.tv_model.specs.Description.Nodes.{is_pane}
use Rattle.tv_model.specs.Description.Heads.{all_nodes, window_nodes, dialog_nodes}
use Rattle.tv_declarations.specs.declared.declaration.Declaration.{Declaration}
use Rattle.tv_declarations.specs.declared.declaration.Declaration.TheVariants as declared
use Rattle.tv_declarations.specs.Spelling.{dialog_declarations, ends_of_panes, open_panes_after, view_declarations, window_declarations}
use Rattle.tv_check.specs.Plan.{Closes, IsLawfulStep, Makes, Opens, Planned, is_owner, lent_step, planned_node, node_step, build_plan_of, step_of, steps_of}

-- ---- the steps of declarations

pub steps_append : (ds es : List Declaration) → steps_of (ds ++ es) ≡ steps_of ds ++ steps_of es
steps_append ds es = filter_map-append step_of ds es

pub steps_ends : (n : ℕ) → steps_of (replicate n declared.End) ≡ replicate n Closes
steps_ends zero = refl
steps_ends (suc n) = ap (λ rest. Closes ∷ rest) (steps_ends n)

steps_nodes : (nodes : List Node) → steps_of (map (λ node. declared.Node node) nodes) ≡ map node_step nodes
steps_nodes [] = refl
steps_nodes (node ∷ nodes) = ap (λ rest. node_step node ∷ rest) (steps_nodes nodes)

steps_rules : (rules : List Rule) → steps_of (map (λ rule. declared.Rule rule) rules) ≡ []
steps_rules [] = refl
steps_rules (rule ∷ rules) = steps_rules rules

-- the panes end that aren't around a view, and the view follows
pub steps_view : (panes : ℕ) (view : Node) (views : List Node)
    → steps_of (view_declarations panes (view ∷ views)) ≡ replicate (panes - view.depth) Closes ++ (node_step view ∷ steps_of (view_declarations (open_panes_after view) views))
steps_view panes view views = steps_append (ends_of_panes panes view.depth) _ ∙ rw (steps_ends (panes - view.depth)) refl

pub window_steps : (window : Window) → steps_of (window_declarations window) ≡ node_step window.node ∷ (map node_step window.views ++ Closes ∷ [])
window_steps window =
    ap (λ rest. node_step window.node ∷ rest) (steps_append (map (λ node. declared.Node node) window.views) (declared.End ∷ []) ∙ rw (steps_nodes window.views) refl)

pub dialog_steps : (dialog : Dialog) → steps_of (dialog_declarations dialog) ≡ node_step dialog.node ∷ (steps_of (view_declarations 0 dialog.views) ++ Closes ∷ [])
dialog_steps dialog =
    ap (λ rest. node_step dialog.node ∷ rest)
    (steps_append (view_declarations 0 dialog.views) _
    ∙ ap (λ rest. steps_of (view_declarations 0 dialog.views) ++ rest) (steps_append (map (λ rule. declared.Rule rule) dialog.rules) (declared.End ∷ []) ∙ rw (steps_rules dialog.rules) refl))

-- ---- the nodes that they name

nodes_append : (xs ys : List Planned) → filter_map planned_node (xs ++ ys) ≡ filter_map planned_node xs ++ filter_map planned_node ys
nodes_append xs ys = filter_map-append planned_node xs ys

closes_none : (n : ℕ) → filter_map planned_node (replicate n Closes) ≡ []
closes_none zero = refl
closes_none (suc n) = closes_none n

step_named : (b : Bool) (node : Node) → planned_node (cond b (Opens node) (Makes node)) ≡ Some node
step_named true node = refl
step_named false node = refl

steps_named : (nodes : List Node) → filter_map planned_node (map node_step nodes) ≡ nodes
steps_named [] = refl
steps_named (node ∷ nodes) = rw (step_named (is_owner node.kind) node, steps_named nodes) refl

views_named : (panes : ℕ) (views : List Node) → filter_map planned_node (steps_of (view_declarations panes views)) ≡ views
views_named panes [] = ap (filter_map planned_node) (steps_ends (panes - 0)) ∙ closes_none (panes - 0)
views_named panes (view ∷ views) =
    ap (filter_map planned_node) (steps_view panes view views)
    ∙ nodes_append (replicate (panes - view.depth) Closes) _
    ∙ rw (closes_none (panes - view.depth), step_named (is_owner view.kind) view) (ap (λ rest. view ∷ rest) (views_named (open_panes_after view) views))

-- what stands between the step of a node and the end
between_named : (node : Node) (steps : List Planned) → filter_map planned_node (node_step node ∷ (steps ++ Closes ∷ [])) ≡ node ∷ filter_map planned_node steps
between_named node steps = rw (step_named (is_owner node.kind) node) (ap (λ rest. node ∷ rest) (nodes_append steps (Closes ∷ []) ∙ append-nil (filter_map planned_node steps)))

window_named : (window : Window) → filter_map planned_node (steps_of (window_declarations window)) ≡ window_nodes window
window_named window =
    ap (filter_map planned_node) (window_steps window) ∙ between_named window.node (map node_step window.views) ∙ ap (λ rest. window.node ∷ rest) (steps_named window.views)

dialog_named : (dialog : Dialog) → filter_map planned_node (steps_of (dialog_declarations dialog)) ≡ dialog_nodes dialog
dialog_named dialog =
    ap (filter_map planned_node) (dialog_steps dialog) ∙ between_named dialog.node (steps_of (view_declarations 0 dialog.views)) ∙ ap (λ rest. dialog.node ∷ rest) (views_named 0 dialog.views)

all_named : {A : Type 0} (plan : A → List Planned) (nodes : A → List Node) → ((x : A) → filter_map planned_node (plan x) ≡ nodes x) → (xs : List A) → filter_map planned_node (flat_map plan xs) ≡ flat_map nodes xs
all_named plan nodes each [] = refl
all_named plan nodes each (x ∷ xs) = nodes_append (plan x) (flat_map plan xs) ∙ rw (each x, all_named plan nodes each xs) refl

pub plan_names : (d : Desc) → filter_map planned_node (build_plan_of d) ≡ all_nodes d
plan_names d =
    nodes_append (flat_map (λ window. steps_of (window_declarations window)) d.windows) (flat_map (λ dialog. steps_of (dialog_declarations dialog)) d.dialogs)
    ∙ rw (
      all_named (λ window. steps_of (window_declarations window)) window_nodes window_named d.windows,
      all_named (λ dialog. steps_of (dialog_declarations dialog)) dialog_nodes dialog_named d.dialogs,
    ) refl

-- where all nodes that a plan names are lawful, each step is
pub steps_lawful : (plan : List BuildStep) → All IsLawfulNode (filter_map planned_node (map lent_step plan)) → All IsLawfulStep plan
steps_lawful [] lawful = All-nil IsLawfulStep
steps_lawful (steps.Open node ∷ plan) lawful =
    let nodes = filter_map planned_node (map lent_step plan) in
    All-cons IsLawfulStep (steps.Open node) plan (All-head IsLawfulNode node.now nodes lawful) (steps_lawful plan (All-tail IsLawfulNode node.now nodes lawful))
steps_lawful (steps.Leaf node ∷ plan) lawful =
    let nodes = filter_map planned_node (map lent_step plan) in
    All-cons IsLawfulStep (steps.Leaf node) plan (All-head IsLawfulNode node.now nodes lawful) (steps_lawful plan (All-tail IsLawfulNode node.now nodes lawful))
steps_lawful (steps.Close ∷ plan) lawful = All-cons IsLawfulStep steps.Close plan tt (steps_lawful plan lawful)

-- one of the closes that are left is made
pub one_closed : (before now : List BuildStep) (n : ℕ) (all : List Planned) → now ≡ before ++ steps.Close ∷ [] → map lent_step before ++ (Closes ∷ replicate n Closes) ≡ all → map lent_step now ++ replicate n Closes ≡ all
one_closed before now n all pushed left =
    ap (λ plan. map lent_step plan ++ replicate n Closes) pushed
    ∙ ap (λ plan. plan ++ replicate n Closes) (map-append lent_step before (steps.Close ∷ []))
    ∙ append_assoc (map lent_step before) (Closes ∷ []) (replicate n Closes)
    ∙ left

-- the panes that are open after a view, counted
pub counted_after : (view : Node) (b : Bool) (depth flag : ℕ) → is_pane view.kind ≡ b → depth ≡ view.depth → flag ≡ cond b 1 0 → depth + flag ≡ open_panes_after view
counted_after view true depth flag e f g = rw (e, ← f, g) refl
counted_after view false depth flag e f g = rw (e, ← f, g) (add-zero depth)

-- the panes end that aren't around the next view, and it is made
pub view_added : (old one two : List BuildStep) (step : BuildStep) (panes i : ℕ) (view : Node) (views : List Node) (all : List Planned) → i < length views → view ≡ get_or views i view
    → map lent_step old ++ steps_of (view_declarations panes (drop i views)) ≡ all
    → map lent_step one ≡ map lent_step old ++ replicate (panes - view.depth) Closes → two ≡ one ++ step ∷ [] → lent_step step ≡ node_step view
    → map lent_step two ++ steps_of (view_declarations (open_panes_after view) (drop (i + 1) views)) ≡ all
view_added old one two step panes i view views all less is before closed pushed same =
    let later : List Planned = steps_of (view_declarations (open_panes_after view) (drop (i + 1) views)) in
    let first : drop i views ≡ view ∷ drop (i + 1) views = drop_more views i view less ∙ ap (λ x. x ∷ drop (i + 1) views) (sym is) in
    let next : steps_of (view_declarations panes (drop i views)) ≡ replicate (panes - view.depth) Closes ++ (node_step view ∷ later) =
    ap (λ left. steps_of (view_declarations panes left)) first ∙ steps_view panes view (drop (i + 1) views) in
    let made : map lent_step two ≡ map lent_step one ++ node_step view ∷ [] = ap (map lent_step) pushed ∙ map-append lent_step one (step ∷ []) ∙ ap (λ x. map lent_step one ++ x ∷ []) same in
    ap (λ plan. plan ++ later) (made ∙ ap (λ plan. plan ++ node_step view ∷ []) closed)
    ∙ append_assoc (map lent_step old ++ replicate (panes - view.depth) Closes) (node_step view ∷ []) later
    ∙ append_assoc (map lent_step old) (replicate (panes - view.depth) Closes) (node_step view ∷ later)
    ∙ ap (λ steps. map lent_step old ++ steps) (sym next)
    ∙ before

sub-zero : (n : ℕ) → n - 0 ≡ n
sub-zero n = omega arith

nothing_left : {A : Type 0} (i : ℕ) (xs : List A) → length xs ≤ i → drop i xs ≡ []
nothing_left zero [] less = refl
nothing_left zero (x ∷ xs) less = absurd (omega (arith, less))
nothing_left (suc i) [] less = refl
nothing_left (suc i) (x ∷ xs) less = nothing_left i xs (omega (arith, less))

-- all views were added, and the panes that are open end
pub views_added : (old now : List BuildStep) (panes i : ℕ) (views : List Node) (all : List Planned) → length views ≤ i
    → map lent_step old ++ steps_of (view_declarations panes (drop i views)) ≡ all → map lent_step now ≡ map lent_step old ++ replicate panes Closes → map lent_step now ≡ all
views_added old now panes i views all done before closed =
    let none : drop i views ≡ [] = nothing_left i views done in
    closed
    ∙ ap (λ steps. map lent_step old ++ steps) (sym (ap (λ left. steps_of (view_declarations panes left)) none ∙ steps_ends (panes - 0) ∙ ap (λ n. replicate n Closes) (sub-zero panes)))
    ∙ before

-- the step of a window or dialog, those of what stands in it, and its end were added
pub owner_added : (old one two now : List BuildStep) (step : BuildStep) (node : Node) (inner all : List Planned)
    → one ≡ old ++ step ∷ [] → lent_step step ≡ node_step node → map lent_step two ≡ map lent_step one ++ inner → now ≡ two ++ steps.Close ∷ [] → all ≡ node_step node ∷ (inner ++ Closes ∷ [])
    → map lent_step now ≡ map lent_step old ++ all
owner_added old one two now step node inner all opened same filled closed is =
    let begun : map lent_step one ≡ map lent_step old ++ node_step node ∷ [] = ap (map lent_step) opened ∙ map-append lent_step old (step ∷ []) ∙ ap (λ x. map lent_step old ++ x ∷ []) same in
    ap (map lent_step) closed
    ∙ map-append lent_step two (steps.Close ∷ [])
    ∙ ap (λ plan. plan ++ Closes ∷ []) (filled ∙ ap (λ plan. plan ++ inner) begun)
    ∙ append_assoc (map lent_step old ++ node_step node ∷ []) inner (Closes ∷ [])
    ∙ append_assoc (map lent_step old) (node_step node ∷ []) (inner ++ Closes ∷ [])
    ∙ ap (λ steps. map lent_step old ++ steps) (sym is)
