-- What rules make of leaves doesn't change where no cluster has other items marked.
use Rattle.std.proofs.Common.{◌≡◌, Bool, false, not, nat_lt, ◌&&◌, ◌||◌, ◌==◌, ℕ, if◌then◌else◌, List, find, get_or, Option, Some, None, option_map, refl, sym, ap, ◌∙◌, IsTrue}
use Rattle.std.proofs.lemmas.Bool.{false≢true, false_from_ne_true}
use Rattle.tv_model.specs.declared.node.Id.{Id}
use Rattle.tv_model.specs.declared.node.Node.{Node}
use Rattle.tv_model.specs.declared.command.CommandSpec.{CommandSpec}
use Rattle.tv_model.specs.declared.desc.Dialog.{Dialog}
use Rattle.tv_model.specs.declared.desc.Rule.{Rule}
use Rattle.tv_model.specs.Description.Commands.{command_number, command_of}
use Rattle.tv_model.specs.Description.Names.{gives_name, meant}
use Rattle.tv_model.specs.Description.Nodes.{is_cluster, is_control}
use Rattle.tv_model.specs.Description.Numbers.{natural}
use Rattle.tv_machine.specs.State.{LeafState}
use Rattle.tv_machine.specs.Leaves.{PlacedNode}
use Rattle.tv_model.specs.Controls.Contents.{Content}
use Rattle.tv_machine.specs.Dialog.Rules.{content_by, enables, holds, is_among, is_command_enabled, is_enabled, is_enabled_by, is_free, is_marked_at, is_visible, shows, state_of}
use Rattle.tv_model.specs.Kinds.Cluster.{is_marked}
use Rattle.tv_machine.specs.Dialog.Modal.{Modal, content_at, holding, leaf_at, content_put}
use Rattle.tv_machine.specs.Dialog.Alike.{HoldSame}
use Rattle.tv_machine.specs.Dialog.Lawful.{IsLawfulDialog}
use Rattle.tv_machine.proofs.ListLemmas.{all-same, bool_cases, find-member, found-id, found-member, has, option_cases, same-id}
use Rattle.tv_machine.proofs.LeafLemmas.{HasLeaves, leaf_at-is, leaf_at-node, state-changed, state_id, views-apart}

pub hold-itself : (d : Dialog) (leaves : List LeafState) → HoldSame d leaves leaves
hold-itself d leaves = λ k e h. refl

pub hold-then : (d : Dialog) (leaves mid other : List LeafState) → HoldSame d leaves mid → HoldSame d mid other → HoldSame d leaves other
hold-then d leaves mid other p q = λ k e h. p k e h ∙ q k e h

-- ---- flags

module _ (d : Dialog) (leaves other : List LeafState) (same : HoldSame d leaves other) where
  pub visible-same : (leaf : PlacedNode) → is_visible d leaves leaf ≡ is_visible d other leaf
  visible-same leaf =
      all-same (λ rule. not (shows d.views leaf rule.effect) || holds d leaves rule)
      (λ rule. not (shows d.views leaf rule.effect) || holds d other rule) d.rules
      (λ k e h. ap (λ b. not (shows d.views leaf (get_or d.rules k e).effect) || b) (same k e h))

  pub command-same : (number : ℕ) → is_command_enabled d leaves number ≡ is_command_enabled d other number
  command-same number =
      all-same (λ rule. not (enables number rule.effect) || holds d leaves rule)
      (λ rule. not (enables number rule.effect) || holds d other rule) d.rules
      (λ k e h. ap (λ b. not (enables number (get_or d.rules k e).effect) || b) (same k e h))

  given-same : (command : Option CommandSpec) → is_enabled_by d leaves command ≡ is_enabled_by d other command
  given-same None = refl
  given-same (Some command) = command-same (command_number command)

  pub enabled-same : (node : Node) → is_enabled d leaves node ≡ is_enabled d other node
  enabled-same node = given-same (command_of node.kind)

  pub free-same : (leaf : PlacedNode) → is_free d leaves leaf ≡ is_free d other leaf
  free-same leaf =
      ap (λ b. is_control leaf.node.kind && (b && is_enabled d leaves leaf.node)) (visible-same leaf)
      ∙ ap (λ b. is_control leaf.node.kind && (is_visible d other leaf && b)) (enabled-same leaf.node)

-- ---- where a leaf holds something else

pub value_by : (overwrites : Bool) (o : Option LeafState) → (content_by overwrites o).value ≡ (content_by false o).value
value_by overwrites None = refl
value_by overwrites (Some leaf) = refl

module _ (d : Dialog) (lawful : IsLawfulDialog d) (m : Modal) (leaves : HasLeaves d m) (i : Id) (c : Content) where
  abbrev changed : List LeafState
  changed = (content_put d i c m).leaves

  -- with the same items marked
  pub hold-changed : ((item : ℕ) → is_marked (content_at m i).value item ≡ is_marked c.value item) → HoldSame d m.leaves changed
  hold-changed marks = λ k e h.
      let item = natural (get_or d.rules k e).item in
      ap (λ b. nat_lt 0 item && b) (at item (meant d.views (get_or d.rules k e).cluster))
    where
      held : (item : ℕ) (j : Id) (s : LeafState) → state_of m.leaves j ≡ Some s → s.id ≡ j
          → is_marked s.value item ≡ is_marked (holding i c s).value item
      held item j s found is =
          bool_cases (s.id.0 == i.0)
          (λ b. is_marked s.value item ≡ is_marked (if b then record s { value = c.value; private = c.private } else s).value item)
          (λ here.
          let there : state_of m.leaves i ≡ Some s = ap (state_of m.leaves) (sym (same-id s.id i here) ∙ is) ∙ found in
          sym (ap (λ v. is_marked v item)
          (value_by (is_among m.overwriting i) (state_of m.leaves i) ∙ ap (λ o. (content_by false o).value) there)) ∙ marks item)
          (λ there. refl)

      of : (item : ℕ) (j : Id)
          → is_marked (content_by false (state_of m.leaves j)).value item ≡ is_marked (content_by false (state_of changed j)).value item
      of item j =
          option_cases (state_of m.leaves j)
          (λ o. is_marked (content_by false o).value item ≡ is_marked (content_by false (option_map (holding i c) o)).value item)
          (λ none. refl) (λ s found. held item j s found (found-id state_id j m.leaves s found))
          ∙ ap (λ o. is_marked (content_by false o).value item) (sym (state-changed d lawful m leaves i c j))

      at : (item : ℕ) (node : Option Node) → is_marked_at m.leaves item node ≡ is_marked_at changed item node
      at item None = refl
      at item (Some node) = of item node.id

  -- where it is no cluster
  pub hold-unclustered : (leaf : PlacedNode) → leaf_at d i ≡ Some leaf → is_cluster leaf.node.kind ≡ false → HoldSame d m.leaves changed
  hold-unclustered leaf found no_cluster = λ k e h.
      ap (λ b. nat_lt 0 (natural (get_or d.rules k e).item) && b)
      (option_cases (meant d.views (get_or d.rules k e).cluster)
      (λ o. is_marked_at m.leaves (natural (get_or d.rules k e).item) o ≡ is_marked_at changed (natural (get_or d.rules k e).item) o)
      (λ none. refl)
      (λ node named. at (natural (get_or d.rules k e).item) node
      (other (get_or d.rules k e) node named (lawful.rules k e h node named))))
    where
      -- the node that a rule names isn't the leaf's
      other : (rule : Rule) (node : Node) → meant d.views rule.cluster ≡ Some node → IsTrue (is_cluster node.kind)
          → (node.id.0 == i.0) ≡ false
      other rule node named cluster = false_from_ne_true (node.id.0 == i.0)
          (λ here.
          let first : find (has (λ view. view.id) node.id) d.views ≡ Some node =
          found-member (λ view. view.id) (gives_name rule.cluster) d.views node (views-apart d lawful) named in
          let second : find (has (λ view. view.id) leaf.node.id) d.views ≡ Some leaf.node =
          leaf_at-node (λ view. find (has (λ other. other.id) view.id) d.views ≡ Some view) d i leaf
          (find-member (λ view. view.id) d.views (views-apart d lawful)) found in
          let ids : node.id ≡ leaf.node.id = same-id node.id i here ∙ sym (leaf_at-is d i leaf found) in
          let both : Some node ≡ Some leaf.node = sym first ∙ ap (λ id. find (has (λ view. view.id) id) d.views) ids ∙ second in
          let same : node ≡ leaf.node = cc in
          false≢true (sym (ap (λ n. is_cluster n.kind) same ∙ no_cluster) ∙ cluster))

      at : (item : ℕ) (node : Node) → (node.id.0 == i.0) ≡ false
          → is_marked_at m.leaves item (Some node) ≡ is_marked_at changed item (Some node)
      at item node apart =
          option_cases (state_of m.leaves node.id)
          (λ o. is_marked (content_by false o).value item ≡ is_marked (content_by false (option_map (holding i c) o)).value item)
          (λ none. refl)
          (λ s there.
          ap (λ b. is_marked (if b then record s { value = c.value; private = c.private } else s).value item)
          (sym (ap (λ id. id.0 == i.0) (found-id state_id node.id m.leaves s there) ∙ apart)))
          ∙ ap (λ o. is_marked (content_by false o).value item) (sym (state-changed d lawful m leaves i c node.id))
