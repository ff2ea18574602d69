-- An event in three phases, where the leaves stay as they are until one takes it.
use Rattle.std.proofs.Common.{◌≡◌, Bool, true, false, cond, not, ◌&&◌, if◌then◌else◌, List, [], ◌∷◌, find, Some, None, refl, sym, ap, ◌∙◌}
use Rattle.std.proofs.lemmas.Bool.{false≢true}
use Rattle.tv_cells.specs.declared.rect.Point.{Point}
use Rattle.tv_event.specs.declared.event.Event.{Event}
use Rattle.tv_event.specs.declared.event.Event.TheVariants as events
use Rattle.tv_event.specs.declared.event.Phase.{Phase}
use Rattle.tv_event.specs.declared.event.Phase.TheVariants as phases
use Rattle.tv_view.specs.Meaning.{Placed}
use Rattle.tv_view.specs.declared.env.Env.{Env}
use Rattle.tv_group.specs.Handling.{first_changed, found_answer, group_after, group_answer, is_offered, is_pass, placed_after, scan_after, scan_answer, takes}
use Rattle.tv_group.specs.TreeTurns.{phases_after, phases_answer}
use Rattle.tv_machine.proofs.ListLemmas.{bool_cases, found-passes, option_cases}

first_changed-absent : {A : Type 0} (is_so : A → Bool) (change : A → A) (xs : List A) → find is_so xs ≡ None → first_changed is_so change xs ≡ xs
first_changed-absent is_so change [] e = refl
first_changed-absent is_so change (x ∷ xs) e =
    bool_cases (is_so x) (λ b. cond b (Some x) (find is_so xs) ≡ None → (if b then change x ∷ xs else x ∷ first_changed is_so change xs) ≡ x ∷ xs)
    (λ is h. absurd cc) (λ is h. ap (λ ys. x ∷ ys) (first_changed-absent is_so change xs h)) e

and_false : (b : Bool) → (b && false) ≡ false
and_false true = refl
and_false false = refl

module _ (e : Event) (p : Phase) (env : Env) (xs : List Placed) where
  -- where none takes it none changes
  scan-passed : is_pass (scan_answer e p env xs) ≡ true → scan_after e p env xs ≡ xs
  scan-passed passes =
      option_cases (find (takes e p env) xs) (λ o. find (takes e p env) xs ≡ o → is_pass (found_answer e p env o) ≡ true → scan_after e p env xs ≡ xs)
      (λ none is h. first_changed-absent (takes e p env) (placed_after e p env) xs is)
      (λ x some is h.
      let taken : takes e p env x ≡ true = found-passes (takes e p env) xs x is in
      absurd (false≢true (sym (ap (λ b. is_offered e p x && not b) h ∙ and_false (is_offered e p x)) ∙ taken)))
      refl passes

-- no leaf changes in a phase in which none takes the event
pub phase-passed : (e : Event) (p : Phase) (env : Env) (xs : List Placed) → ((point : Point) → e ≡ events.Down point → ⊥) → is_pass (group_answer e p env xs) ≡ true → group_after e p env xs ≡ xs
unfolding group_answer group_after
phase-passed (events.Down point) p env xs other passes = absurd (other point refl)
phase-passed (events.Key k) p env xs other passes = scan-passed (events.Key k) p env xs passes
phase-passed (events.Command c) p env xs other passes = scan-passed (events.Command c) p env xs passes
phase-passed (events.Move point) p env xs other passes = scan-passed (events.Move point) p env xs passes
phase-passed (events.Up point) p env xs other passes = scan-passed (events.Up point) p env xs passes
phase-passed (events.Broadcast c) p env xs other passes = scan-passed (events.Broadcast c) p env xs passes

module _ (e : Event) (env : Env) (xs : List Placed) where
  pub phases-first : is_pass (group_answer e phases.Pre env xs) ≡ false
      → (phases_answer e env xs ≡ group_answer e phases.Pre env xs) × (phases_after e env xs ≡ group_after e phases.Pre env xs)
  phases-first taken = (rw taken refl, rw taken refl)

  pub phases-second : is_pass (group_answer e phases.Pre env xs) ≡ true → is_pass (group_answer e phases.Focused env xs) ≡ false
      → (phases_answer e env xs ≡ group_answer e phases.Focused env xs) × (phases_after e env xs ≡ group_after e phases.Focused env xs)
  phases-second passed taken = (rw (passed, taken) refl, rw (passed, taken) refl)

  pub phases-third : is_pass (group_answer e phases.Pre env xs) ≡ true → is_pass (group_answer e phases.Focused env xs) ≡ true
      → (phases_answer e env xs ≡ group_answer e phases.Post env xs) × (phases_after e env xs ≡ group_after e phases.Post env xs)
  phases-third first second = (rw (first, second) refl, rw (first, second) refl)
