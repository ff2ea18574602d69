-- A loop that hands an event to the members in order, until one takes it.
use Rattle.std.proofs.Common.{◌≡◌, ℕ, true, false, List, ◌++◌, ◌||◌, ◌+◌, ◌<◌, ◌≤◌, [], ◌∷◌, length, get_or, map, set, sym, ap, ◌∙◌, Option, None}
use Rattle.std.specs.Prelude.{find}
use Rattle.tv_event.specs.declared.event.Event.{Event}
use Rattle.tv_event.specs.declared.event.Phase.{Phase}
use Rattle.tv_view.specs.Meaning.{Leaf, Placed, alone, inside, kept}
use Rattle.tv_view.specs.declared.env.Env.{Env}
use Rattle.tv_view.specs.declared.reaction.Reaction.{Reaction}
use Rattle.tv_view.specs.declared.reaction.Reaction.TheVariants.{Pass}
use Rattle.tv_view.specs.Points.{moved_into}
use Rattle.tv_group.specs.Current.{is_at}
use Rattle.tv_group.specs.Handling.{found_answer, is_pass, scan_after, scan_answer, takes}
use Rattle.tv_group.specs.Opened.{opened, opened_member}
use Rattle.tv_group.specs.Turns.{goes_to_all}
use Rattle.tv_group.specs.declared.group.MemberOf.{MemberOf}
use Rattle.tv_group.specs.declared.group.GroupOf.{GroupOf}
use Rattle.tv_group.specs.declared.group.MemberOf.TheVariants.{Leaf as LeafM, Pane as PaneM}
use Rattle.tv_group.proofs.FirstLemmas.{find-append-unfound}
use Rattle.tv_group.proofs.HandlingLemmas.{pass_of, scan_after-append-taken, scan_after-append-untaken, scan_after-inside, scan_after-kept, scan_after-pass, scan_answer-append-taken, scan_answer-append-untaken, scan_answer-inside, scan_answer-kept, taker-none}
use Rattle.tv_group.proofs.OpenedLemmas.{member-leaf, member-pane, opened_member-leaf, opened_member-pane, opened_to, opened_to-next, opened_to-none}
use Rattle.tv_group.proofs.MembersLemmas.{leaves_of, leaves-same, leaves-split, leaves-written, opened-leaves, opened_from, opened_to-all}

module _ {V : Type 0} (look : V → Leaf) (e : Event) (p : Phase) (env : Env) where
  -- no leaf has changed, and none of the members before the i-th takes the event
  pub record Scanning (whole : List Placed) (current : Option ℕ) (i : ℕ) (ms : List (MemberOf V)) : Type 0 where
    pub same : leaves_of look current ms ≡ whole
    pub untaken : find (takes e p env) (opened_to look current i ms) ≡ None

  pub scanning-init : (current : Option ℕ) (ms xs : List (MemberOf V)) → xs ≡ ms → Scanning (leaves_of look current ms) current 0 xs
  scanning-init current ms xs is = record {
    same = ap (leaves_of look current) is;
    untaken = ap (find (takes e p env)) (opened_to-none look current xs);
  }

  module _ (whole : List Placed) (current : Option ℕ) (i : ℕ) (ms : List (MemberOf V)) (before : Scanning whole current i ms) where
    module _ (h : i < length ms) (m m' : MemberOf V) where
      -- the leaves of member i, the same as the group has them, and those of the members before it and after it
      abbrev own : List Placed
      own = opened_member look (get_or ms i m)

      abbrev here : List Placed
      here = kept (is_at current i) own

      abbrev first : List Placed
      first = opened_to look current i ms

      abbrev rest : List Placed
      rest = opened_from look current (i + 1) ms

      next : opened_member look m' ≡ own → find (takes e p env) (kept (is_at current i) (opened_member look m')) ≡ None
          → Scanning whole current (i + 1) (set ms i m')
      next stays none = record {
        same = leaves-same look current i ms m m' stays ∙ before.same;
        untaken =
            ap (find (takes e p env)) (opened_to-next look current i ms m' h)
            ∙ find-append-unfound (takes e p env) first (kept (is_at current i) (opened_member look m')) before.untaken
            ∙ none;
      }

      -- member i was asked
      module _ (asked : goes_to_all e p || is_at current i ≡ true) (r : Reaction) (told : r ≡ scan_answer e p env own) where
        here_is : scan_answer e p env here ≡ r
        here_is = scan_answer-kept e p env (is_at current i) own asked ∙ sym told

        module _ (does : opened_member look m' ≡ scan_after e p env own) where
          pub scanning-passed : is_pass r ≡ true → Scanning whole current (i + 1) (set ms i m')
          scanning-passed pass =
              let stays : opened_member look m' ≡ own = does ∙ scan_after-pass e p env own (sym told ∙ pass_of r pass) in
              next stays
              (ap (λ l. find (takes e p env) (kept (is_at current i) l)) stays ∙ taker-none e p env here (ap is_pass here_is ∙ pass))

          pub scanning-taken : is_pass r ≡ false
              → (r ≡ scan_answer e p env whole) × (leaves_of look current (set ms i m') ≡ scan_after e p env whole)
          scanning-taken taken =
              let all : whole ≡ first ++ (here ++ rest) = sym before.same ∙ leaves-split look current i ms m h in
              let here_taken : is_pass (scan_answer e p env here) ≡ false = ap is_pass here_is ∙ taken in (
                sym
                    (ap (scan_answer e p env) all
                    ∙ scan_answer-append-untaken e p env first (here ++ rest) before.untaken
                    ∙ scan_answer-append-taken e p env here rest here_taken
                    ∙ here_is),
                leaves-written look current i ms m' h
                    ∙ sym
                    (ap (scan_after e p env) all
                    ∙ scan_after-append-untaken e p env first (here ++ rest) before.untaken
                    ∙ ap (λ t. first ++ t)
                    (scan_after-append-taken e p env here rest here_taken
                    ∙ ap (λ t. t ++ rest) (scan_after-kept e p env (is_at current i) own asked ∙ ap (kept (is_at current i)) (sym does)))),
              )

    -- none takes the event
    pub scanning-done : length ms ≤ i → (Pass ≡ scan_answer e p env whole) × (leaves_of look current ms ≡ scan_after e p env whole)
    scanning-done h =
        let none : find (takes e p env) whole ≡ None =
        ap (find (takes e p env)) (sym before.same ∙ sym (opened_to-all look current i ms h)) ∙ before.untaken in
        let passes : scan_answer e p env whole ≡ Pass = ap (found_answer e p env) none in
        (sym passes, before.same ∙ sym (scan_after-pass e p env whole passes))

  -- ---- the group around the members

  -- the same in the group, which is written with its members
  pub scanned-group : (g new : GroupOf V) (r : Reaction) (inner : Event) → inner ≡ moved_into g.bounds e → new.bounds ≡ g.bounds
      → (r ≡ scan_answer inner p env (leaves_of look g.current g.members.items))
      × (leaves_of look new.current new.members.items ≡ scan_after inner p env (leaves_of look g.current g.members.items))
      → (r ≡ scan_answer e p env (opened look g)) × (opened look new ≡ scan_after e p env (opened look g))
  scanned-group g new r inner is bounds done =
      let xs = leaves_of look g.current g.members.items in (
        done.0
            ∙ ap (λ x. scan_answer x p env xs) is
            ∙ sym (ap (scan_answer e p env) (opened-leaves look g) ∙ scan_answer-inside e p env g.bounds xs),
        opened-leaves look new
            ∙ ap (λ b. map (inside b) (leaves_of look new.current new.members.items)) bounds
            ∙ ap (map (inside g.bounds)) (done.1 ∙ ap (λ x. scan_after x p env xs) is)
            ∙ sym (ap (scan_after e p env) (opened-leaves look g) ∙ scan_after-inside e p env g.bounds xs),
      )

  -- ---- a member by what it is

  pub scan_answer-leaf : (m : MemberOf V) (v : V) → m ≡ LeafM v
      → scan_answer e p env (alone (look v) ∷ []) ≡ scan_answer e p env (opened_member look m)
  scan_answer-leaf m v is = ap (scan_answer e p env) (sym (member-leaf look m v is))

  pub scan_after-leaf : (v new : V) → alone (look new) ∷ [] ≡ scan_after e p env (alone (look v) ∷ [])
      → opened_member look (LeafM new) ≡ scan_after e p env (opened_member look (LeafM v))
  scan_after-leaf v new does = opened_member-leaf look new ∙ does ∙ ap (scan_after e p env) (sym (opened_member-leaf look v))

  pub scan_answer-pane : (m : MemberOf V) (g : GroupOf V) → m ≡ PaneM g
      → scan_answer e p env (opened look g) ≡ scan_answer e p env (opened_member look m)
  scan_answer-pane m g is = ap (scan_answer e p env) (sym (member-pane look m g is))

  pub scan_after-pane : (g new : GroupOf V) → opened look new ≡ scan_after e p env (opened look g)
      → opened_member look (PaneM new) ≡ scan_after e p env (opened_member look (PaneM g))
  scan_after-pane g new does = opened_member-pane look new ∙ does ∙ ap (scan_after e p env) (sym (opened_member-pane look g))
