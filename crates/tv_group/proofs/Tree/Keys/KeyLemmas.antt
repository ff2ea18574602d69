-- What a key makes of a dialog through the three phases of its views is what the machine makes of it.
use Rattle.std.proofs.Common.{◌≡◌, ℕ, Bool, true, false, ◌==◌, Option, Some, None, refl, sym, ap, subst, ◌∙◌}
use Rattle.std.proofs.lemmas.Bool.{false_from_ne_true}
use Rattle.tv_event.specs.declared.event.Event.TheVariants as events
use Rattle.tv_event.specs.declared.event.Key.{Key}
use Rattle.tv_event.specs.declared.event.Key.TheVariants as keys
use Rattle.tv_event.specs.declared.event.Phase.{Phase}
use Rattle.tv_event.specs.declared.event.Phase.TheVariants as phases
use Rattle.tv_model.specs.declared.kind.Kind.{Kind}
use Rattle.tv_model.specs.declared.kind.Kind.TheVariants as kinds
use Rattle.tv_model.specs.declared.command.CommandSpec.{CommandSpec}
use Rattle.tv_model.specs.declared.desc.Dialog.{Dialog}
use Rattle.tv_view.specs.Meaning.{Leaf}
use Rattle.tv_model.specs.Description.Commands.{command_of}
use Rattle.tv_model.specs.Description.Marks.{upper}
use Rattle.tv_machine.specs.Leaves.{PlacedNode}
use Rattle.tv_model.specs.Controls.Contents.{Content}
use Rattle.tv_model.specs.Controls.Behaviour.{Answer, Passed, Becomes, Presses}
use Rattle.tv_machine.specs.Controls.Tables.{key_answer}
use Rattle.tv_machine.specs.Dialog.Focus.{is_free_at, is_free_leaf}
use Rattle.tv_machine.specs.Dialog.Keys as machine
use Rattle.tv_machine.specs.Dialog.Keys.{alt_keyed, answered, focus_keyed, key, passed_on}
use Rattle.tv_machine.specs.Dialog.Modal.{Modal, content_at, leaf_at, content_put}
use Rattle.tv_machine.specs.Dialog.Rules.{is_free}
use Rattle.tv_machine.specs.Dialog.Shortcuts.{HaveOneMarker, act_on, marking_leaf}
use Rattle.tv_view.specs.declared.env.Env.{Env}
use Rattle.tv_view.specs.declared.reaction.Reaction.{Reaction}
use Rattle.tv_view.specs.declared.reaction.Reaction.TheVariants.{Pass}
use Rattle.tv_view.specs.Reactions.{calling_letter, consumed, focus_answer, may_mark_by, press_by, press_of}
use Rattle.tv_group.specs.Handling.{group_answer, is_pass}
use Rattle.tv_machine.specs.Dialog.Lawful.{IsLawfulDialog}
use Rattle.tv_machine.specs.Dialog.Alike.{HoldSame}
use Rattle.tv_group.specs.Ready.{KeepsMarks, is_own}
use Rattle.tv_group.specs.Tree.{IsSteady, IsSteadyContent, leaf_as, tree_as, tree_of}
use Rattle.tv_group.specs.TreeTurns.{IsLentBy, phases_after, phases_answer, reacted}
use Rattle.tv_group.proofs.Tree.Keys.EnterLemmas.{press-acts}
use Rattle.tv_group.proofs.Tree.Keys.FocusLemmas.{after-becomes, after-presses, focus-answers, focus-id}
use Rattle.tv_group.proofs.Tree.Keys.KeyContentLemmas.{hold-keyed, key-steady, tree-keyed}
use Rattle.tv_group.proofs.Tree.Keys.LetterLemmas.{letter_turn}
use Rattle.tv_machine.proofs.ListLemmas.{option_cases}
use Rattle.tv_machine.proofs.MarkLemmas.{hold-itself}
use Rattle.tv_group.proofs.Tree.Keys.PhaseLemmas.{phases_after-still, phases_after-taken, phases_answer-post, phases_answer-pre, phases_answer-taken}
use Rattle.tv_group.proofs.Tree.Keys.QuietLemmas.{after-key, after-none, before-key, before-none}
use Rattle.tv_machine.proofs.LeafLemmas.{IsIn, leaf_at-in}
use Rattle.tv_group.proofs.Tree.TreeLemmas.{steady-changed}

-- what comes of a key in the three phases
pub record KeyTurn (d : Dialog) (m : Modal) (env : Env) (k : Key) : Type 0 where
  -- the machine's dialog with what the key made of the leaf that has the focus, before what is asked for
  pub after : Modal
  pub leaves : phases_after (events.Key k) env (tree_of d m) ≡ tree_as d m.leaves after
  pub steady : IsSteady d after
  pub comes : reacted d (phases_answer (events.Key k) env (tree_of d m)) after ≡ key d k m
  -- where no mark may have changed, rules hold as they did, and leaves are shown and enabled as they say
  pub holds : KeepsMarks (phases_answer (events.Key k) env (tree_of d m)) → HoldSame d m.leaves after.leaves
  pub ruled : KeepsMarks (phases_answer (events.Key k) env (tree_of d m)) → tree_as d m.leaves after ≡ tree_of d after
  -- only leaves change
  pub focus : after.focus ≡ m.focus
  pub held : after.held ≡ m.held
  pub log : after.log ≡ m.log
  pub ended : after.ended ≡ m.ended

-- ---- what the focus answers

consumed-taken : (leaf : Leaf) (marks : Bool) → is_pass (consumed leaf marks) ≡ false
consumed-taken leaf true = refl
consumed-taken leaf false = refl

consumed-acts : (d : Dialog) (m : Modal) (leaf : Leaf) (marks : Bool) → reacted d (consumed leaf marks) m ≡ m
consumed-acts d m leaf true = refl
consumed-acts d m leaf false = refl

press-taken : (leaf : Leaf) (o : Option CommandSpec) → is_pass (press_by leaf o) ≡ false
press-taken leaf None = refl
press-taken leaf (Some c) = refl

-- no control has a key with Alt
alt-passed : (kind : Kind) (letter : ℕ) (c : Content) → key_answer kind (keys.Alt letter) c ≡ Passed
alt-passed (kinds.Button button) letter c = refl
alt-passed _ letter c = refl

module _ (d : Dialog) (lawful : IsLawfulDialog d) (m : Modal) (env : Env) (E : IsLentBy d m env) (S : IsSteady d m)
    (markers : HaveOneMarker d m.leaves) where
  -- what a key is answered in a phase
  abbrev answer_to : Key → Phase → Reaction
  answer_to k p = group_answer (events.Key k) p env (tree_of d m)

  -- a turn in which no leaf changes
  still-turn : (k : Key) → phases_after (events.Key k) env (tree_of d m) ≡ tree_of d m
      → reacted d (phases_answer (events.Key k) env (tree_of d m)) m ≡ key d k m → KeyTurn d m env k
  still-turn k still same = record {
    after = m;
    leaves = still;
    steady = S;
    comes = same;
    holds = λ keeps. hold-itself d m.leaves;
    ruled = λ keeps. refl;
    focus = refl;
    held = refl;
    log = refl;
    ended = refl;
  }

  module _ (leaf : PlacedNode) (at : leaf_at d m.focus ≡ Some leaf) («free» : is_free d m.leaves leaf ≡ true) where
    -- what the leaf that has the focus makes of a key, and whether that may change a mark
    abbrev own : Key → Answer
    own k = key_answer leaf.node.kind k (content_at m leaf.node.id)

    abbrev may : Key → Bool
    may k = may_mark_by leaf.node.kind k (content_at m leaf.node.id)

    abbrev seen : Leaf
    seen = leaf_as d m.leaves m leaf

    focus-is : (k : Key) (a : Answer) → own k ≡ a → answer_to k phases.Focused ≡ focus_answer seen (may k) a
    focus-is k a is = focus-answers d lawful m env k leaf at «free» ∙ ap (focus_answer seen (may k)) is

    machine-is : (k : Key) (a : Answer) → own k ≡ a → focus_keyed d k m ≡ answered d k leaf a m
    machine-is k a is = ap (λ o. machine.keyed d k o m) at ∙ ap (λ b. answered d k leaf b m) is

    own-taken : (k : Key) (a : Answer) → own k ≡ a → is_pass (focus_answer seen (may k) a) ≡ false
        → is_pass (focus_answer seen (may k) (own k)) ≡ false
    own-taken k a is taken = ap (λ b. is_pass (focus_answer seen (may k) b)) is ∙ taken

    -- where the focus passes it on, no leaf changes
    passed-after : (k : Key) → own k ≡ Passed → phases_after (events.Key k) env (tree_of d m) ≡ tree_of d m
    passed-after k is =
        phases_after-still (events.Key k) env (tree_of d m) (before-key k env (tree_of d m))
        (λ taken. absurd (let passes : is_pass (answer_to k phases.Focused) ≡ true = ap is_pass (focus-is k Passed is) in cc))
        (after-key k env (tree_of d m))

    -- ---- keys that no view takes before the focus

    module _ (k : Key) (none : calling_letter phases.Pre k ≡ None) (goes : key d k m ≡ focus_keyed d k m) where
      before : answer_to k phases.Pre ≡ Pass
      before = before-none k env (tree_of d m) none

      passed-turn : own k ≡ Passed → reacted d (answer_to k phases.Post) m ≡ passed_on d k m → KeyTurn d m env k
      passed-turn is post =
          still-turn k (passed-after k is)
          (ap (λ r. reacted d r m) (phases_answer-post (events.Key k) env (tree_of d m) before (focus-is k Passed is))
          ∙ post
          ∙ sym (goes ∙ machine-is k Passed is))

      presses-turn : own k ≡ Presses → KeyTurn d m env k
      presses-turn is =
          let pressed = press_of seen leaf.node.kind in
          let taken : is_pass (press_of seen leaf.node.kind) ≡ false = press-taken seen (command_of leaf.node.kind) in
          still-turn k
          (phases_after-taken (events.Key k) env (tree_of d m) before pressed (focus-is k Presses is) taken
          ∙ after-presses d lawful m env k leaf at «free» (own-taken k Presses is taken) is)
          (ap (λ r. reacted d r m) (phases_answer-taken (events.Key k) env (tree_of d m) before pressed (focus-is k Presses is) taken)
          ∙ press-acts d m seen leaf.node.kind
          ∙ sym (goes ∙ machine-is k Presses is))

      module _ (c : Content) (is : own k ≡ Becomes c) where
        found : IsIn d leaf
        found = leaf_at-in d lawful m.focus leaf at

        taken : is_pass (consumed seen (may k)) ≡ false
        taken = consumed-taken seen (may k)

        answer-is : phases_answer (events.Key k) env (tree_of d m) ≡ consumed seen (may k)
        answer-is = phases_answer-taken (events.Key k) env (tree_of d m) before (consumed seen (may k)) (focus-is k (Becomes c) is) taken

        -- the leaf holds what its kind does
        fits : (other : PlacedNode) → leaf_at d leaf.node.id ≡ Some other
            → IsSteadyContent (other.node.id.0 == m.focus.0) other.node.kind c
        fits other there =
            let both : Some leaf ≡ Some other = sym found ∙ there in
            let same : leaf ≡ other = cc in
            let focused : leaf.node.id.0 == m.focus.0 ≡ true = focus-id d lawful m env k leaf at «free» in
            subst (λ (l : PlacedNode). IsSteadyContent (l.node.id.0 == m.focus.0) l.node.kind c) same
            (subst (λ b. IsSteadyContent b leaf.node.kind c) (sym focused) (key-steady leaf.node.kind k (content_at m leaf.node.id) c is))

        keeps-may : KeepsMarks (phases_answer (events.Key k) env (tree_of d m)) → may k ≡ false
        keeps-may keeps = false_from_ne_true (may k) (λ changes. keeps leaf.node.id (answer-is ∙ ap (consumed seen) changes))

        becomes-turn : KeyTurn d m env k
        becomes-turn = record {
          after = content_put d leaf.node.id c m;
          leaves = phases_after-taken (events.Key k) env (tree_of d m) before (consumed seen (may k)) (focus-is k (Becomes c) is) taken
              ∙ after-becomes d lawful m env k leaf at «free» (own-taken k (Becomes c) is taken) S.leaves c is;
          steady = steady-changed d lawful m leaf.node.id c S fits;
          comes = ap (λ r. reacted d r (content_put d leaf.node.id c m)) answer-is
              ∙ consumed-acts d (content_put d leaf.node.id c m) seen (may k)
              ∙ sym (goes ∙ machine-is k (Becomes c) is);
          holds = λ keeps. hold-keyed d lawful m S leaf found k c is (keeps-may keeps);
          ruled = λ keeps. tree-keyed d lawful m S leaf found k c is (keeps-may keeps);
          focus = refl;
          held = refl;
          log = refl;
          ended = refl;
        }

      by_answer : reacted d (answer_to k phases.Post) m ≡ passed_on d k m → (a : Answer) → own k ≡ a → KeyTurn d m env k
      by_answer post Passed is = passed-turn is post
      by_answer post (Becomes c) is = becomes-turn c is
      by_answer post Presses is = presses-turn is

    -- ---- keys with Alt

    alt-machine : (letter : ℕ) (o : Option PlacedNode) → act_on d letter o m ≡ alt_keyed d letter o m
    alt-machine letter None = sym (machine-is (keys.Alt letter) Passed (alt-passed leaf.node.kind letter (content_at m leaf.node.id)))
    alt-machine letter (Some marker) = refl

    alt-turn : (letter : ℕ) → upper letter ≡ letter → KeyTurn d m env (keys.Alt letter)
    alt-turn letter capital =
        let k = keys.Alt letter in
        let passes : key_answer leaf.node.kind (keys.Alt letter) (content_at m leaf.node.id) ≡ Passed =
        alt-passed leaf.node.kind letter (content_at m leaf.node.id) in
        still-turn k (passed-after k passes)
        (ap (λ r. reacted d r m)
        (phases_answer-pre (events.Key k) env (tree_of d m) (focus-is k Passed passes) (after-none k env (tree_of d m) refl))
        ∙ letter_turn d m env E lawful markers k phases.Pre letter (λ l. refl) (λ x. refl)
        ∙ ap (λ c. act_on d c (marking_leaf d m.leaves c) m) capital
        ∙ alt-machine letter (marking_leaf d m.leaves letter))

    -- ---- each key

    char-turn : (ch : ℕ) → KeyTurn d m env (keys.Char ch)
    char-turn ch =
        by_answer (keys.Char ch) refl refl (letter_turn d m env E lawful markers (keys.Char ch) phases.Post ch (λ l. refl) (λ x. refl))
        (own (keys.Char ch)) refl

    -- one that calls no view
    plain-turn : (k : Key) → calling_letter phases.Pre k ≡ None → calling_letter phases.Post k ≡ None → key d k m ≡ focus_keyed d k m → passed_on d k m ≡ m
        → KeyTurn d m env k
    plain-turn k pre post goes stays =
        by_answer k pre goes (ap (λ r. reacted d r m) (after-none k env (tree_of d m) post) ∙ sym stays) (own k) refl

    each-turn : (k : Key) → is_own k ≡ false → ((letter : ℕ) → k ≡ keys.Alt letter → upper letter ≡ letter) → KeyTurn d m env k
    each-turn keys.Tab other capital = absurd cc
    each-turn keys.ShiftTab other capital = absurd cc
    each-turn keys.Enter other capital = absurd cc
    each-turn keys.Esc other capital = absurd cc
    each-turn (keys.Alt letter) other capital = alt-turn letter (capital letter refl)
    each-turn (keys.Char ch) other capital = char-turn ch
    each-turn k other capital = plain-turn k refl refl refl refl

  -- a key that a dialog hands to its views, where nothing holds the mouse
  pub key_turn : (k : Key) → is_own k ≡ false → is_free_at d m.leaves m.focus ≡ true
      → ((letter : ℕ) → k ≡ keys.Alt letter → upper letter ≡ letter) → KeyTurn d m env k
  key_turn k other «free» capital =
      option_cases (leaf_at d m.focus) (λ o. is_free_leaf d m.leaves o ≡ true → KeyTurn d m env k)
      (λ none h. absurd cc) (λ leaf at h. each-turn leaf at h k other capital) «free»
