-- How a dialog goes on standing as the machine's does.
use Rattle.std.proofs.Common.{arith, ◌≡◌, ◌<◌, ◌||◌, ◌==◌, not, Bool, true, false, ℕ, suc, length, List, [], ◌∷◌, ◌++◌, Some, None, is_some, slice_index_or, if◌then◌else◌, map, refl, sym, ap, subst, ◌∙◌, All, IsTrue}
use Rattle.std.specs.Prelude.{is_none, unwrap_or}
use Rattle.std.specs.Option.{option_or}
use Rattle.std.proofs.lemmas.Bool.{false≢true}
use Rattle.std.proofs.lemmas.Bool.Decides.{nat_tests}
use Rattle.std.proofs.lemmas.List.Elements.{All-nil}
use Rattle.tv_model.specs.declared.node.Id.{Id}
use Rattle.tv_model.specs.declared.node.Node.{Node}
use Rattle.tv_model.specs.declared.kind.Kind.{Kind}
use Rattle.tv_model.specs.declared.kind.Kind.TheVariants as kinds
use Rattle.tv_model.specs.declared.desc.Dialog.{Dialog}
use Rattle.tv_model.specs.declared.desc.Rule.{Rule}
use Rattle.tv_model.specs.declared.log.LogLine.TheVariants as lines
use Rattle.tv_model.specs.Kinds.InputLine.{entered, left}
use Rattle.tv_view.specs.Meaning.{Leaf}
use Rattle.tv_model.specs.Description.Heads.{dialog_head, dialog_head_of}
use Rattle.tv_model.specs.Description.Nodes.{is_dialog}
use Rattle.tv_machine.specs.State.{LeafState}
use Rattle.tv_machine.specs.Dialog.Focus.{Request, Same, NotFree, Refused, Moved, after_request, focus_moved, is_free_at, keeps_focus, refocused, request, requested}
use Rattle.tv_machine.specs.Dialog.Lawful.{IsLawfulDialog}
use Rattle.tv_machine.specs.Dialog.Modal.{Modal, leaf_at}
use Rattle.tv_machine.specs.Dialog.Rules.{holds, is_command_enabled}
use Rattle.tv_machine.specs.Dialog.Ending.{ended, field_line, fields_of, shown_invalid}
use Rattle.tv_group.specs.Calls.{all_focused, first_in, next_in}
use Rattle.tv_group.specs.declared.focus.Dir.{Dir}
use Rattle.tv_group.specs.declared.focus.Dir.TheVariants as dirs
use Rattle.tv_group.specs.Opened.{opened}
use Rattle.tv_dialog.specs.declared.dialog.DialogOf.{DialogOf}
use Rattle.tv_dialog.specs.Head.{KeptDialogHead, declared_dialog_head}
use Rattle.tv_dialog.specs.Plan.{has_rules}
use Rattle.tv_dialog.specs.Standing.{AreFields, Stands, end_number, stop_in}
use Rattle.tv_machine.specs.Dialog.Alike.{HoldSame}
use Rattle.tv_dialog.specs.Stepping.{begun_anew}
use Rattle.tv_group.specs.Tree.{IsSteady, tree_as, tree_of}
use Rattle.tv_group.proofs.Tree.FocusTreeLemmas.{focused-tree}
use Rattle.tv_machine.proofs.ListLemmas.{either-same, option_cases}
use Rattle.tv_machine.proofs.MarkLemmas.{command-same}
use Rattle.tv_group.proofs.Tree.FlagLemmas.{flags-same}
use Rattle.tv_group.proofs.Tree.NextLemmas.{next-tree, previous-tree}
use Rattle.tv_machine.proofs.RefocusLemmas.{hold-moved, refocused-keeps}
use Rattle.tv_group.proofs.Tree.StandingLemmas.{steady-moved}

-- ---- heads

kept_parts : (node : Node) (kind : Kind) (is : IsTrue (is_dialog kind)) (head : KeptDialogHead) → Some head ≡ declared_dialog_head (record node { kind = kind })
    → ((dialog_head_of kind is).ends ≡ head.ends) × (head.id ≡ node.id)
kept_parts node (kinds.Dialog own) is head e = (cc, cc)
kept_parts node _ is head e = absurd (false≢true is)

-- a dialog's head has the ends that it declares, and its id
pub head-parts : (d : Dialog) (head : KeptDialogHead) → Some head ≡ declared_dialog_head d.node → ((dialog_head d).ends ≡ head.ends) × (head.id ≡ d.node.id)
head-parts d head e = kept_parts d.node d.node.kind d.own_kind head e

-- ---- what moves and requests leave

pub log-moved : (d : Dialog) (m : Modal) (i : Id) → (focus_moved d i m).log ≡ m.log ++ lines.Focus i ∷ []
log-moved d m i =
    ap (λ log. log ++ lines.Focus i ∷ [])
    (refocused-keeps (λ n. n.log ≡ m.log) d (λ j c n p. p) entered (leaf_at d i) (refocused d left (leaf_at d m.focus) m)
    (refocused-keeps (λ n. n.log ≡ m.log) d (λ j c n p. p) left (leaf_at d m.focus) m refl))

pub ended-moved : (d : Dialog) (m : Modal) (i : Id) → (focus_moved d i m).ended ≡ m.ended
ended-moved d m i =
    refocused-keeps (λ n. n.ended ≡ m.ended) d (λ j c n p. p) entered (leaf_at d i) (refocused d left (leaf_at d m.focus) m)
    (refocused-keeps (λ n. n.ended ≡ m.ended) d (λ j c n p. p) left (leaf_at d m.focus) m refl)

module _ (d : Dialog) (m : Modal) (i : Id) where
  pub requested-same : (i.0 == m.focus.0) ≡ true → requested d m i ≡ Same
  requested-same here = rw here refl

  pub requested-busy : (i.0 == m.focus.0) ≡ false → is_free_at d m.leaves i ≡ false → requested d m i ≡ NotFree
  requested-busy there busy = rw (there, busy) refl

  pub requested-refused : (i.0 == m.focus.0) ≡ false → is_free_at d m.leaves i ≡ true → keeps_focus m (leaf_at d m.focus) ≡ true → requested d m i ≡ Refused
  requested-refused there free keeps = rw (there, free, keeps) refl

  pub requested-moved : (i.0 == m.focus.0) ≡ false → is_free_at d m.leaves i ≡ true → keeps_focus m (leaf_at d m.focus) ≡ false → requested d m i ≡ Moved
  requested-moved there free keeps = rw (there, free, keeps) refl

-- ---- dialogs

-- a call leaves what a dialog keeps of its description, whether it is open, how it ended, and its rules
pub record IsKept {V : Type 0} (old new : DialogOf V) : Type 0 where
  pub head : new.head ≡ old.head
  pub plan : new.plan ≡ old.plan
  pub «open» : new.is_open ≡ old.is_open
  pub ended : new.ended ≡ old.ended
  pub ruled : new.ruled ≡ old.ruled
  pub marks : new.marks ≡ old.marks

none-of : (rules : List Rule) (P : Rule → Type 0) → has_rules rules ≡ false → All P rules
none-of [] P none = All-nil P
none-of (rule ∷ rules) P none =
    let some : (suc (length rules) == 0) ≡ false = grind (arith, nat_tests) in
    absurd (false≢true (sym none ∙ ap not some))

-- without rules they hold alike whatever is marked
pub ruleless : (d : Dialog) (ruled other : List LeafState) → has_rules d.rules ≡ false → HoldSame d ruled other
ruleless d ruled other none = none-of d.rules (λ rule. holds d ruled rule ≡ holds d other rule) none

module _ {V : Type 0} (look : V → Leaf) (d : Dialog) where
  -- the same where the rules hold alike
  pub restands : (ruled other : List LeafState) (m : Modal) (dialog : DialogOf V) → HoldSame d ruled other → Stands look d ruled m dialog → Stands look d other m dialog
  restands ruled other m dialog same s = record {
    head = s.head;
    plan = s.plan;
    tree = s.tree ∙ flags-same d ruled other same m;
    steady = s.steady;
    focus = s.focus;
    log = s.log;
    «open» = s.open;
    ended = s.ended;
    marks = s.marks;
    commands = λ n less. s.commands n less ∙ ap (λ b. is_some m.ended || b) (command-same d ruled other same n);
  }

  -- a dialog of which only the body, the focus and the log changed
  pub stands-on : (ruled : List LeafState) (m n : Modal) (old new : DialogOf V) → IsKept old new → n.ended ≡ m.ended → Stands look d ruled m old
      → opened look new.body ≡ tree_as d ruled n → IsSteady d n → new.focus ≡ n.focus → new.log.items ≡ n.log → Stands look d ruled n new
  stands-on ruled m n old new kept ended s tree steady focus log = record {
    head = ap Some kept.head ∙ s.head;
    plan = kept.plan ∙ s.plan;
    tree = tree;
    steady = steady;
    focus = focus;
    log = log;
    «open» = kept.open ∙ s.open ∙ ap is_none (sym ended);
    ended = ap end_number kept.ended ∙ s.ended ∙ sym ended;
    marks = subst (AreFields d) (sym kept.marks) s.marks;
    commands = λ k less. ap (λ r. slice_index_or r.commands k false) kept.ruled ∙ s.commands k less ∙ ap (λ e. is_some e || is_command_enabled d ruled k) (sym ended);
  }

  -- the focus moved
  pub stands-moved : IsLawfulDialog d → (m : Modal) (i : Id) (old new : DialogOf V) → IsKept old new → Stands look d m.leaves m old → (i.0 == m.focus.0) ≡ false → is_free_at d m.leaves i ≡ true
      → opened look new.body ≡ all_focused i (opened look old.body) → new.focus ≡ i → new.log.items ≡ old.log.items ++ lines.Focus i ∷ []
      → Stands look d (focus_moved d i m).leaves (focus_moved d i m) new
  stands-moved lawful m i old new kept s elsewhere free body focus log =
      let n : Modal = focus_moved d i m in
      let same = hold-moved d lawful m i s.steady.leaves in
      let tree = body ∙ ap (all_focused i) s.tree ∙ focused-tree d lawful m i s.steady elsewhere free in
      restands m.leaves n.leaves n new same
      (stands-on m.leaves m n old new kept (ended-moved d m i) s (tree ∙ sym (flags-same d m.leaves n.leaves same n)) (steady-moved d lawful m i s.steady) focus
      (log ∙ ap (λ l. l ++ lines.Focus i ∷ []) s.log ∙ sym (log-moved d m i)))

  -- a request came to this
  pub stands-requested : (m : Modal) (i : Id) (r : Request) (new : DialogOf V) → requested d m i ≡ r
      → Stands look d (after_request d i r m).leaves (after_request d i r m) new → Stands look d (request d i m).leaves (request d i m) new
  stands-requested m i r new e s = subst (λ r. Stands look d (after_request d i r m).leaves (after_request d i r m) new) (sym e) s

-- ---- answers of the tree

-- the control to which Tab and Shift+Tab lead
pub stop-tree : (d : Dialog) → IsLawfulDialog d → (m : Modal) (dir : Dir)
    → unwrap_or (option_or (next_in dir (tree_of d m)) (first_in dir (tree_of d m))) m.focus ≡ stop_in d m dir
stop-tree d lawful m dirs.Forward = next-tree d m.leaves m
stop-tree d lawful m dirs.Backward = previous-tree d m.leaves m lawful

-- whether there is something, where a test says what it is
pub some-kept : {A : Type 0} (b : Bool) (x : A) → is_some (if b then Some x else None) ≡ b
some-kept true x = refl
some-kept false x = refl

-- ---- the end

module _ {V : Type 0} (look : V → Leaf) (d : Dialog) where
  -- a dialog that ended: its body, its focus and its rules stay
  pub stands-ended : (m : Modal) (number : ℕ) (old new : DialogOf V) → Stands look d m.leaves m old → IsSteady d (ended d number m)
      → new.head ≡ old.head → new.plan ≡ old.plan → new.body ≡ old.body → new.focus ≡ old.focus → new.marks ≡ old.marks → new.is_open ≡ false → new.ended ≡ Some (record { 0 = number })
      → ((k : ℕ) → k < 256 → slice_index_or new.ruled.commands k false ≡ true)
      → new.log.items ≡ old.log.items ++ lines.End d.node.id (record { 0 = number }) ∷ map field_line (fields_of m.leaves)
      → Stands look d m.leaves (ended d number m) new
  stands-ended m number old new s steady head plan body focus marks closed how commands log = record {
    head = ap Some head ∙ s.head;
    plan = plan ∙ s.plan;
    tree = ap (opened look) body ∙ s.tree;
    steady = steady;
    focus = focus ∙ s.focus;
    log = log ∙ ap (λ l. l ++ lines.End d.node.id (record { 0 = number }) ∷ map field_line (fields_of m.leaves)) s.log;
    «open» = closed;
    ended = ap end_number how;
    marks = subst (AreFields d) (sym marks) s.marks;
    commands = commands;
  }

-- an input that refuses the end, by whether it is the focus and whether it is free
module _ (d : Dialog) (i : Id) (n : Modal) where
  pub shown-same : (i.0 == n.focus.0) ≡ true → shown_invalid d i n ≡ n
  shown-same here = rw here refl

  pub shown-moved : (i.0 == n.focus.0) ≡ false → is_free_at d n.leaves i ≡ true → shown_invalid d i n ≡ focus_moved d i n
  shown-moved there free = rw (there, free) refl

  pub shown-busy : is_free_at d n.leaves i ≡ false → shown_invalid d i n ≡ n
  shown-busy busy = rw busy (either-same (i.0 == n.focus.0) n)

-- ---- the start of an event

module _ {V : Type 0} (look : V → Leaf) (d : Dialog) where
  goes_on : (m : Modal) → is_none m.ended ≡ true → None ≡ m.ended
  goes_on m on = option_cases m.ended (λ o. is_none o ≡ true → None ≡ o) (λ none e. refl) (λ x some e. absurd cc) on

  -- an open dialog whose log was emptied
  pub stands-started : (m : Modal) (old new : DialogOf V) → IsKept old new → new.body ≡ old.body → new.focus ≡ old.focus → new.log.items ≡ [] → old.is_open ≡ true
      → Stands look d m.leaves m old → Stands look d m.leaves (begun_anew m) new
  stands-started m old new kept body focus log opens s =
      stands-on look d m.leaves m (begun_anew m) old new kept (goes_on m (sym s.open ∙ opens)) s (ap (opened look) body ∙ s.tree)
      (record { leaves = s.steady.leaves; contents = s.steady.contents }) (focus ∙ s.focus) log
