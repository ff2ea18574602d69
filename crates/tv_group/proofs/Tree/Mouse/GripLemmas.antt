-- What a mouse down makes of the tree where its topmost leaf comes to hold the mouse, and where it doesn't.
use Rattle.std.proofs.Common.{◌≡◌, ℕ, Bool, true, false, ◌==◌, if◌then◌else◌, Option, Some, None, option_map, refl, sym, ap, subst, ◌∙◌}
use Rattle.tv_cells.specs.declared.rect.Point.{Point}
use Rattle.tv_event.specs.declared.event.Event.TheVariants as events
use Rattle.tv_event.specs.declared.event.Phase.TheVariants as phases
use Rattle.tv_model.specs.declared.kind.Kind.{Kind}
use Rattle.tv_model.specs.declared.kind.Kind.TheVariants as kinds
use Rattle.tv_model.specs.declared.desc.Dialog.{Dialog}
use Rattle.tv_view.specs.Meaning.{Leaf, Placed}
use Rattle.tv_model.specs.Description.Nodes.{is_cluster}
use Rattle.tv_machine.specs.Leaves.{PlacedNode}
use Rattle.tv_model.specs.Controls.Contents.{Content}
use Rattle.tv_machine.specs.Controls.Tables.{down_content, remembered}
use Rattle.tv_machine.specs.Dialog.Modal.{Modal, content_at, content_put}
use Rattle.tv_machine.specs.Dialog.Mouse as mouse
use Rattle.tv_machine.specs.Dialog.Rules.{is_enabled}
use Rattle.tv_view.specs.declared.env.Env.{Env}
use Rattle.tv_view.specs.declared.reaction.Reaction.{Reaction}
use Rattle.tv_view.specs.declared.reaction.Reaction.TheVariants.{Pass, Capture}
use Rattle.tv_view.specs.Effects as effects
use Rattle.tv_view.specs.Reactions.{captures, down_answer, down_focus, focus_on}
use Rattle.tv_group.specs.Handling.{hit_after, hit_answer, placed_after}
use Rattle.tv_machine.specs.Dialog.Lawful.{IsLawfulDialog}
use Rattle.tv_machine.specs.Dialog.Alike.{HoldSame}
use Rattle.tv_group.specs.Ready.{IsPointOf}
use Rattle.tv_group.specs.Tree.{IsSteady, IsSteadyContent, held_at, leaf_as, placed_as, tree_of}
use Rattle.tv_machine.proofs.ListLemmas.{either-same}
use Rattle.tv_machine.proofs.LeafLemmas.{IsIn}
use Rattle.tv_group.proofs.Tree.TreeLemmas.{steady-changed, steady-leaf}
use Rattle.tv_group.proofs.Tree.Mouse.HoldLemmas.{held-here, held-other, hold-kept, steady-held, tree-with_hold}
use Rattle.tv_group.proofs.Tree.Mouse.TopmostLemmas.{after-changed, after-same, after_down, answer-topmost, content_down, down-answer, down-captured, down-kept, down_answered, topmost-in, well-in}

-- ---- what a leaf holds that comes to hold the mouse

-- a cluster's value stays
pub down-value : (kind : Kind) (first column row : ℕ) (c : Content) → is_cluster kind ≡ true
    → (down_content kind first column row c).value ≡ c.value
down-value (kinds.Input input) first column row c e = absurd cc
down-value (kinds.List list) first column row c e = absurd cc
down-value _ first column row c e = refl

-- an input holds the mouse with the focus alone
pub down-steady : (leaf : Leaf) (kind : Kind) (first column row : ℕ) (c : Content) → captures leaf kind ≡ true
    → IsSteadyContent leaf.is_focused kind c
    → IsSteadyContent leaf.is_focused kind (down_content kind first column row c)
down-steady leaf (kinds.Input input) first column row c takes s = record {
  text = _;
  cursor = _;
  is_whole = _;
  value = refl;
  private = refl;
  rested = λ e. absurd cc;
}
down-steady leaf (kinds.List list) first column row c takes s = refl
down-steady leaf _ first column row c takes s = s

-- ---- the topmost leaf

module _ (d : Dialog) (lawful : IsLawfulDialog d) (p : Point) (at : IsPointOf p) (m : Modal) (env : Env) (leaf : PlacedNode)
    (found : mouse.topmost_leaf d m p ≡ Some leaf) where
  abbrev here : Leaf
  here = leaf_as d m.leaves m leaf

  abbrev placed : Placed
  placed = placed_as d m.leaves m leaf

  pub in-d : IsIn d leaf
  in-d = topmost-in d lawful p at m leaf found

  answer_found : down_answered d m env p ≡ (if is_enabled d m.leaves leaf.node then down_answer env here else Pass)
  answer_found =
      answer-topmost d lawful p at m env
      ∙ ap (λ o. hit_answer (events.Down p) phases.Focused env (option_map (placed_as d m.leaves m) o)) found
      ∙ ap (λ (r : Reaction). if is_enabled d m.leaves leaf.node then r else Pass)
      (down-answer d p at m.leaves m env leaf (well-in d lawful p at leaf in-d))

  -- a disabled leaf answers nothing
  pub answer-disabled : is_enabled d m.leaves leaf.node ≡ false → down_answered d m env p ≡ Pass
  answer-disabled e = answer_found ∙ ap (λ b. if b then down_answer env here else Pass) e

  answer_enabled : is_enabled d m.leaves leaf.node ≡ true → down_answered d m env p ≡ down_answer env here
  answer_enabled e = answer_found ∙ ap (λ b. if b then down_answer env here else Pass) e

  -- one that doesn't come to hold the mouse may ask for the focus
  pub answer-asks : is_enabled d m.leaves leaf.node ≡ true → captures here leaf.node.kind ≡ false
      → down_answered d m env p ≡ focus_on (down_focus env here)
  answer-asks e takes = answer_enabled e ∙ ap (λ b. if b then Capture leaf.node.id else focus_on (down_focus env here)) takes

  pub answer-holds : is_enabled d m.leaves leaf.node ≡ true → captures here leaf.node.kind ≡ true
      → down_answered d m env p ≡ Capture leaf.node.id
  answer-holds e takes = answer_enabled e ∙ ap (λ b. if b then Capture leaf.node.id else focus_on (down_focus env here)) takes

  stays : ((b : Bool) → (if b then placed_after (events.Down p) phases.Focused env placed else placed) ≡ placed)
      → after_down d m env p ≡ tree_of d m
  stays same =
      after-same d lawful p at m env
      (λ other is. let both : Some leaf ≡ Some other = sym found ∙ is in let one : leaf ≡ other = cc in
      subst (λ (y : PlacedNode). hit_after (events.Down p) phases.Focused env (placed_as d m.leaves m y) ≡ placed_as d m.leaves m y) one
      (same (is_enabled d m.leaves leaf.node)))

  -- the tree stays
  pub after-asked : captures here leaf.node.kind ≡ false → after_down d m env p ≡ tree_of d m
  after-asked takes =
      stays (λ b. ap (λ x. if b then x else placed) (down-kept d p at m.leaves m env leaf (well-in d lawful p at leaf in-d) takes)
      ∙ either-same b placed)

  pub after-disabled : is_enabled d m.leaves leaf.node ≡ false → after_down d m env p ≡ tree_of d m
  after-disabled e =
      after-same d lawful p at m env
      (λ other is. let both : Some leaf ≡ Some other = sym found ∙ is in let one : leaf ≡ other = cc in
      subst (λ (y : PlacedNode). hit_after (events.Down p) phases.Focused env (placed_as d m.leaves m y) ≡ placed_as d m.leaves m y) one
      (ap (λ b. if b then placed_after (events.Down p) phases.Focused env placed else placed) e))

  -- ---- it comes to hold the mouse

  module _ (steady : IsSteady d m) (free : m.held ≡ None) (enabled : is_enabled d m.leaves leaf.node ≡ true)
      (takes : captures here leaf.node.kind ≡ true) (first : ℕ) where
    abbrev content : Content
    content = content_down d p at m.leaves m env leaf (well-in d lawful p at leaf in-d) first

    abbrev item : ℕ
    item = remembered leaf.node.kind (mouse.row_on leaf p)

    -- the tree is that of the machine's dialog
    pub after-held : effects.first_shown_before env here ≡ first → after_down d m env p ≡ tree_of d (mouse.hold d leaf first p m)
    after-held from =
        after-changed d lawful p at m env leaf found
        ∙ tree-with_hold d lawful m steady leaf in-d content
        (down-value leaf.node.kind first (mouse.column_on leaf p) (mouse.row_on leaf p) (content_at m leaf.node.id))
        (Some (record { id = leaf.node.id; item = item })) (hit_after (events.Down p) phases.Focused env)
        (ap (λ b. if b then placed_after (events.Down p) phases.Focused env placed else placed) enabled
        ∙ down-captured d p at m.leaves m env leaf (well-in d lawful p at leaf in-d) first takes from
        ∙ ap (holding_here content) (sym (held-here d lawful leaf.node.id item)))
        (λ other apart. ap (λ h. held_at h other.node.id) free ∙ sym (held-other d lawful leaf.node.id other.node.id item apart))
      where
        holding_here : Content → Option ℕ → Placed
        holding_here c held = record placed {
          leaf = record here { value = c.value; private = c.private; overwrites = c.overwrites; held = held };
        }

    pub steady-hold : IsSteady d (mouse.hold d leaf first p m)
    steady-hold =
        steady-held d lawful (content_put d leaf.node.id content m) (Some (record { id = leaf.node.id; item = item }))
        (steady-changed d lawful m leaf.node.id content steady
        (λ other is. let both : Some leaf ≡ Some other = sym in-d ∙ is in let one : leaf ≡ other = cc in
        subst (λ (y : PlacedNode). IsSteadyContent (y.node.id.0 == m.focus.0) y.node.kind content) one
        (down-steady here leaf.node.kind first (mouse.column_on leaf p) (mouse.row_on leaf p) (content_at m leaf.node.id) takes
        (steady-leaf d lawful m steady leaf in-d))))

    -- every rule holds as it did
    pub hold-held : HoldSame d m.leaves (mouse.hold d leaf first p m).leaves
    hold-held =
        hold-kept d lawful m steady leaf in-d content
        (down-value leaf.node.kind first (mouse.column_on leaf p) (mouse.row_on leaf p) (content_at m leaf.node.id))
