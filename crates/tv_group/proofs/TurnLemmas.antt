-- Where the current member alone is offered an event.
use Rattle.std.proofs.Common.{◌≡◌, ◌==◌, ℕ, true, false, ◌||◌, List, [], ◌∷◌, ◌++◌, ◌+◌, ◌<◌, ◌≤◌, length, get_or, map, set, take, drop, refl, sym, ap, ◌∙◌, arith, Option, Some, None}
use Rattle.std.specs.Prelude.{find}
use Rattle.std.proofs.lemmas.Bool.Decides.{nat_tests}
use Rattle.std.proofs.lemmas.List.{length-take-le}
use Rattle.tv_event.specs.declared.event.Event.{Event}
use Rattle.tv_event.specs.declared.event.Phase.{Phase}
use Rattle.tv_view.specs.Meaning.{Leaf, Placed, kept}
use Rattle.tv_view.specs.declared.env.Env.{Env}
use Rattle.tv_view.specs.declared.reaction.Reaction.{Reaction}
use Rattle.tv_view.specs.declared.reaction.Reaction.TheVariants.{Pass}
use Rattle.tv_machine.proofs.ListLemmas.{bool_cases}
use Rattle.tv_group.specs.Current.{is_at}
use Rattle.tv_group.specs.Handling.{found_answer, is_pass, scan_after, scan_answer, takes}
use Rattle.tv_group.specs.Opened.{joined, opened_member}
use Rattle.tv_group.specs.Turns.{goes_to_all}
use Rattle.tv_group.specs.declared.group.MemberOf.{MemberOf}
use Rattle.tv_group.proofs.FirstLemmas.{find-append-unfound}
use Rattle.tv_group.proofs.HandlingLemmas.{pass_of, scan_after-pass, scan_answer-kept, taker-none, taker-skipped}
use Rattle.tv_group.proofs.OpenedLemmas.{length_map, opened_to}
use Rattle.tv_group.proofs.MembersLemmas.{leaves_of, leaves-same, leaves-split, opened_from}
use Rattle.tv_group.proofs.ScanLemmas.{Scanning, scanning-taken}

module _ {V : Type 0} (look : V → Leaf) (e : Event) (p : Phase) (env : Env) (alone : goes_to_all e p ≡ false) where
  -- no leaf of members that aren't current takes the event
  apart : (current : Option ℕ) (i : ℕ) (xs : List (List Placed)) → ((j : ℕ) → i ≤ j → j < i + length xs → is_at current j ≡ false)
      → find (takes e p env) (joined current i xs) ≡ None
  apart current i [] other = refl
  apart current i (xs ∷ rest) other =
      let h : is_at current i ≡ false = other i (omega arith) (omega arith) in
      find-append-unfound (takes e p env) (kept (is_at current i) xs) (joined current (i + 1) rest)
      (taker-skipped e p env (is_at current i) xs (ap (λ b. b || is_at current i) alone ∙ h))
      ∙ apart current (i + 1) rest (λ j low high. other j (omega arith) (omega arith))

  other-before : (k j : ℕ) → j < k → is_at (Some k) j ≡ false
  other-before k j h = grind (arith, nat_tests)

  other-behind : (k j : ℕ) → k < j → is_at (Some k) j ≡ false
  other-behind k j h = grind (arith, nat_tests)

  -- no member is current
  abbrev Passes : List Placed → Type 0
  Passes whole = (Pass ≡ scan_answer e p env whole) × (whole ≡ scan_after e p env whole)

  all_pass : (whole : List Placed) → find (takes e p env) whole ≡ None → Passes whole
  all_pass whole none =
      let passes : scan_answer e p env whole ≡ Pass = ap (found_answer e p env) none in
      (sym passes, sym (scan_after-pass e p env whole passes))

  pub none-current : (ms : List (MemberOf V)) → Passes (leaves_of look None ms)
  unfolding leaves_of
  none-current ms = all_pass (leaves_of look None ms) (apart None 0 (map (opened_member look) ms) (λ j low high. refl))

  pub none-there : (k : ℕ) (ms : List (MemberOf V)) → length ms ≤ k → Passes (leaves_of look (Some k) ms)
  unfolding leaves_of
  none-there k ms h =
      let count = length_map (opened_member look) ms in
      all_pass (leaves_of look (Some k) ms) (apart (Some k) 0 (map (opened_member look) ms) (λ j low high. other-before k j (omega (arith, count))))

  -- member k is current, and was asked
  module _ (k : ℕ) (ms : List (MemberOf V)) (m m' : MemberOf V) (h : k < length ms) where
    abbrev whole : List Placed
    whole = leaves_of look (Some k) ms

    abbrev own : List Placed
    own = opened_member look (get_or ms k m)

    abbrev here : List Placed
    here = kept (is_at (Some k) k) own

    abbrev first : List Placed
    first = opened_to look (Some k) k ms

    abbrev rest : List Placed
    rest = opened_from look (Some k) (k + 1) ms

    first_untaken : find (takes e p env) first ≡ None
    unfolding opened_to
    first_untaken =
        let count = length_map (opened_member look) (take k ms) in
        let taken : length (take k ms) ≡ k = length-take-le k ms (omega arith) in
        apart (Some k) 0 (map (opened_member look) (take k ms)) (λ j low high. other-before k j (omega (arith, count, taken)))

    rest_untaken : find (takes e p env) rest ≡ None
    unfolding opened_from
    rest_untaken = apart (Some k) (k + 1) (map (opened_member look) (drop (k + 1) ms)) (λ j low high. other-behind k j (omega arith))

    asked : goes_to_all e p || is_at (Some k) k ≡ true
    asked = let same : (k == k) ≡ true = grind (arith, nat_tests) in ap (λ b. b || is_at (Some k) k) alone ∙ same

    module _ (r : Reaction) (told : r ≡ scan_answer e p env own) (does : opened_member look m' ≡ scan_after e p env own) where
      abbrev Answers : Type 0
      Answers = (r ≡ scan_answer e p env whole) × (leaves_of look (Some k) (set ms k m') ≡ scan_after e p env whole)

      passed : is_pass r ≡ true → Answers
      passed pass =
          let is : r ≡ Pass = pass_of r pass in
          let stays : opened_member look m' ≡ own = does ∙ scan_after-pass e p env own (sym told ∙ is) in
          let here_untaken = taker-none e p env here (ap is_pass (scan_answer-kept e p env (is_at (Some k) k) own asked ∙ sym told) ∙ pass) in
          let untaken : find (takes e p env) whole ≡ None =
          ap (find (takes e p env)) (leaves-split look (Some k) k ms m h)
          ∙ find-append-unfound (takes e p env) first (here ++ rest) first_untaken
          ∙ find-append-unfound (takes e p env) here rest here_untaken
          ∙ rest_untaken in
          let all = all_pass whole untaken in
          (is ∙ all.0, leaves-same look (Some k) k ms m m' stays ∙ all.1)

      pub current-asked : Answers
      current-asked =
          let before : Scanning look e p env whole (Some k) k ms = record { same = refl; untaken = first_untaken } in
          bool_cases (is_pass r) (λ b. Answers) passed
          (λ taken. scanning-taken look e p env whole (Some k) k ms before h m m' asked r told does taken)
