-- What events and commands make of what stands at a handle.
use Rattle.std.proofs.Common.{◌≡◌, ◌∙◌, ◌⊎◌, inl, inr, ℕ, ◌+◌, ◌<◌, ◌≤◌, ℤ, pos, negsuc, Bool, true, false, List, [], ◌∷◌, ◌++◌, All, map, take, drop, get_or, length, Option, None, Some, Result, Ok, Err, refl, sym, ap, subst, if◌then◌else◌, append_assoc, arith, to_z, w32}
use Rattle.std.proofs.lemmas.Int.{ints, to_z_pos}
use Rattle.std.proofs.lemmas.List.{length-take-le, map-append, take-append-drop, take_more}
use Rattle.std.proofs.lemmas.List.Elements.{All-head}
use Rattle.std.proofs.lemmas.Option.{same_Some}
use Rattle.tv_cells.specs.declared.rect.Point.{Point}
use Rattle.tv_dialogs.specs.Handed.{HasPointGiven, IsPointGiven}
use Rattle.tv_script.specs.Lines.{IsEventOnScreen, IsItemOnScreen, IsPointOnScreen}
use Rattle.tv_app.specs.Running.{Runs, Session, stepped}
use Rattle.tv_app.specs.declared.app.App.{App}
use Rattle.tv_event.specs.declared.event.Event.{Event}
use Rattle.tv_event.specs.declared.event.Event.TheVariants as events
use Rattle.tv_held.specs.Acting.{ActionActs, HasLine, HasNoLine, IsPerformed, IsSilent, LineActsBy, TakesTo, TakingActs, left_behind, refusal, sole_event}
use Rattle.tv_held.specs.Holding.{Holding, Running, answer_after}
use Rattle.tv_held.specs.declared.answer.Answer.{Answer}
use Rattle.tv_held.specs.declared.answer.Answer.TheVariants as answers
use Rattle.tv_machine.specs.declared.script.Item.{Item}
use Rattle.tv_machine.specs.declared.script.Item.TheVariants as items
use Rattle.tv_model.specs.Description.Numbers.{natural}
use Rattle.tv_play.specs.Edge.{brought}
use Rattle.tv_play.specs.Ends.{is_finished, is_leaving, is_refreshing}
use Rattle.tv_script.specs.Scripts.{GivesScript, SpellsAScript}
use Rattle.tv_script.specs.declared.script_text.ScriptFault.{ScriptFault}
use Rattle.tv_script.specs.declared.script_text.ScriptFault.TheVariants as faults
use Rattle.tv_terminal.proofs.DecodeLemmas.{decode_after-append, left_after-append}
use Rattle.tv_terminal.specs.Decoding.{Byte, Listening, before, decode_after, heard, left_after, left_by}
use Rattle.tv_terminal.specs.declared.action.Action.{Action}
use Rattle.tv_terminal.specs.declared.action.Action.TheVariants as actions

-- ---- events

abbrev ended : Bool → Answer
ended b = if b then answers.Over else answers.Event

done-by : (b : Bool) → answers.Done ≡ ended b → ⊥
done-by true e = absurd cc
done-by false e = absurd cc

done-is-none : (s : Session) → answers.Done ≡ answer_after s → ⊥
done-is-none s e = done-by (is_finished s) e

performed-so : (s : Session) (l : Listening) (e : Event) (b : Bool) → is_finished (stepped s e) ≡ b
    → IsPerformed s l e (Running (stepped s e) l) (ended b)
performed-so s l e b finished = record { goes_on = refl; told = sym (ap ended finished) }

-- an action for which an event is performed
module _ (s : Session) (l : Listening) (action : Action) (e : Event) (stays : is_leaving s.desc action ≡ false) (calm : is_refreshing s.desc action ≡ false)
    (is : action ≡ actions.Event e) where
  abbrev after : Session
  after = stepped s (brought s.desc e)

  acts-by : (b : Bool) → is_finished after ≡ b → ActionActs (ended b) s l action (Running after l)
  acts-by true finished = (stays, calm, (e, is, performed-so s l (brought s.desc e) true finished))
  acts-by false finished = (stays, calm, (e, is, performed-so s l (brought s.desc e) false finished))

  pub acts-performed : (answer : Answer) → answer ≡ answer_after after → ActionActs answer s l action (Running after l)
  acts-performed answer told = subst (λ (a : Answer). ActionActs a s l action (Running after l)) (sym told) (acts-by (is_finished after) refl)

-- a line whose event is performed
module _ (text : List ℕ) (s : Session) (l : Listening) (e : Event) (has : HasLine s text e) (used : ℕ) where
  line-by : (b : Bool) → is_finished (stepped s e) ≡ b → LineActsBy (ended b) text s l (Running (stepped s e) l) (record { answer = ended b; used = used })
  line-by true finished = (e, has, performed-so s l e true finished)
  line-by false finished = (e, has, performed-so s l e false finished)

  pub line-performed : (answer : Answer) → answer ≡ answer_after (stepped s e)
      → LineActsBy answer text s l (Running (stepped s e) l) (record { answer = answer; used = used })
  line-performed answer told =
      subst (λ (a : Answer). LineActsBy a text s l (Running (stepped s e) l) (record { answer = a; used = used })) (sym told) (line-by (is_finished (stepped s e)) refl)

-- a line that has no event, or for which there was no memory
pub line-refused : (text : List ℕ) (s : Session) (l : Listening) (used : ℕ) (answer : Answer)
    → (answer ≡ answers.NoMemory) ⊎ ((answer ≡ answers.Refused) × HasNoLine s text)
    → LineActsBy answer text s l (Running s l) (record { answer = answer; used = used })
line-refused text s l used answer (inl none) =
    subst (λ (a : Answer). LineActsBy a text s l (Running s l) (record { answer = a; used = used })) (sym none) refl
line-refused text s l used answer (inr refused) =
    subst (λ (a : Answer). LineActsBy a text s l (Running s l) (record { answer = a; used = used })) (sym refused.0) (refl, refused.1)

pub refused-so : (app : App) (text : List ℕ) (answer : Answer) (s : Session) → Runs app s
    → (answer ≡ answers.NoMemory) ⊎ ((answer ≡ answers.Refused) × ((t : Session) → Runs app t → HasNoLine t text))
    → (answer ≡ answers.NoMemory) ⊎ ((answer ≡ answers.Refused) × HasNoLine s text)
refused-so app text answer s runs (inl none) = inl none
refused-so app text answer s runs (inr refused) = inr (refused.0, refused.1 s runs)

-- ---- lines

is-pos : (z : ℤ) (n : ℕ) → n ≡ natural z → 1 ≤ n → z ≡ pos n
is-pos (pos m) n is some = ap pos (sym is)
is-pos (negsuc m) n is some = absurd (omega (arith, is, some))

-- so many columns or rows of the screen, as the program has them
pub size-is : (z : ℤ) (n : ℕ) → n ≡ natural z → 1 ≤ n → n ≤ 132 → z ≡ to_z w32 n
size-is z n is some small = is-pos z n is some ∙ sym (to_z_pos w32 n (omega (arith, small)))

pub line-on-screen : (s : Session) (text : List ℕ) (e : Event) (width height : ℤ) → s.desc.width ≡ width → s.desc.height ≡ height
    → HasLine s text e → SpellsAScript width height text (items.Event e ∷ [])
line-on-screen s text e width height columns rows has =
    subst (λ x. SpellsAScript x height text (items.Event e ∷ [])) columns (subst (λ y. SpellsAScript s.desc.width y text (items.Event e ∷ [])) rows has)

pub sole-is : (its : List Item) (e : Event) → sole_event its ≡ Some e → its ≡ items.Event e ∷ []
sole-is (items.Event own ∷ []) e is = ap (λ (x : Event). items.Event x ∷ []) (same_Some own e is)
sole-is (items.Event own ∷ b ∷ rest) e is = absurd cc
sole-is [] e is = absurd cc
sole-is (items.Shot ∷ rest) e is = absurd cc
sole-is (items.Colors ∷ rest) e is = absurd cc

some-none : {A : Type 0} (x : A) → Some x ≡ None → ⊥
some-none x is = absurd cc

pub sole-none : (its : List Item) (e : Event) → sole_event its ≡ None → its ≡ items.Event e ∷ [] → ⊥
sole-none its e none is = let q : Some e ≡ None = sym (ap sole_event is) ∙ none in absurd (some-none e q)

-- why a text has no such line
module _ (spells : List Item → Type 0) (read : Result (List Item) ScriptFault) (only : (its : List Item) → spells its → GivesScript read its) where
  pub none-read : (fault : ScriptFault) → read ≡ Err fault
      → (refusal fault ≡ answers.NoMemory) ⊎ ((refusal fault ≡ answers.Refused) × ((e : Event) → spells (items.Event e ∷ []) → ⊥))
  none-read faults.NoMemory is = inl refl
  none-read (faults.Syntax line) is = inr (refl, λ e sp. let gives = only (items.Event e ∷ []) sp in rw is at gives)
  none-read (faults.OffScreen line) is = inr (refl, λ e sp. let gives = only (items.Event e ∷ []) sp in rw is at gives)
  none-read faults.TooLong is = inr (refl, λ e sp. let gives = only (items.Event e ∷ []) sp in rw is at gives)

  pub other-read : (its : List Item) → read ≡ Ok its → sole_event its ≡ None → (e : Event) → spells (items.Event e ∷ []) → ⊥
  other-read its is none e sp = let gives = only (items.Event e ∷ []) sp in let same : its ≡ items.Event e ∷ [] = rw is at gives in sole-none its e none same

pub refused-by : (app : App) (text : List ℕ) (width height : ℤ) (answer : Answer)
    → ((s : Session) → Runs app s → s.desc.width ≡ width) → ((s : Session) → Runs app s → s.desc.height ≡ height)
    → (answer ≡ answers.NoMemory) ⊎ ((answer ≡ answers.Refused) × ((e : Event) → SpellsAScript width height text (items.Event e ∷ []) → ⊥))
    → (answer ≡ answers.NoMemory) ⊎ ((answer ≡ answers.Refused) × ((s : Session) → Runs app s → HasNoLine s text))
refused-by app text width height answer columns rows (inl none) = inl none
refused-by app text width height answer columns rows (inr refused) =
    inr (refused.0, λ s runs e has. refused.1 e (line-on-screen s text e width height (columns s runs) (rows s runs) has))

-- a point of the largest screen is one that an application takes
point-given : (p : Point) → IsPointOnScreen p → IsPointGiven p
point-given p on = record {
  x = record { low = omega (arith, ints, on.column.0); high = omega (arith, ints, on.column.1) };
  y = record { low = omega (arith, ints, on.row.0); high = omega (arith, ints, on.row.1) };
}

event-given : (e : Event) → IsEventOnScreen e → HasPointGiven e
event-given (events.Down p) on = point-given p on
event-given (events.Up p) on = point-given p on
event-given (events.Move p) on = point-given p on
event-given (events.Key k) on = tt
event-given (events.Command k) on = tt
event-given (events.Broadcast k) on = tt

pub sole-given : (its : List Item) (e : Event) → All IsItemOnScreen its → sole_event its ≡ Some e → HasPointGiven e
sole-given its e all is =
    let one : All IsItemOnScreen (items.Event e ∷ []) = subst (All IsItemOnScreen) (sole-is its e is) all in
    event-given e (All-head IsItemOnScreen (items.Event e) [] one)

-- ---- bytes

-- an action that is done is no silence
not-done : (s : Session) (l : Listening) (action : Action) (later : Holding) → ActionActs answers.Done s l action later → ⊥
not-done s l action later p = let done = p.2.2.told in done-is-none (stepped s (brought s.desc p.2.0)) done

pub taking-by : (answer : Answer) (bytes : List ℕ) (s : Session) (l : Listening) (later : Holding) (used : ℕ)
    → TakesTo bytes s l later (record { answer = answer; used = used }) → TakingActs bytes s l later (record { answer = answer; used = used })
taking-by answers.Done bytes s l later used p = absurd (not-done s _ p.action later p.acts)
taking-by answer bytes s l later used p = p

pub none-if : {A : Type 0} (o : Option A) → ((x : A) → o ≡ Some x → ⊥) → o ≡ None
none-if None not_some = refl
none-if (Some x) not_some = absurd (not_some x refl)

module _ (l : Listening) (bytes : List ℕ) (i : ℕ) (less : i < length bytes) where
  more : map Byte (take (i + 1) bytes) ≡ map Byte (take i bytes) ++ Byte (get_or bytes i 0) ∷ []
  more = ap (map Byte) (take_more bytes i 0 less) ∙ map-append Byte (take i bytes) (get_or bytes i 0 ∷ [])

  pub silent-more : IsSilent l (take i bytes) → heard (left_behind l (take i bytes)) (get_or bytes i 0) ≡ None → IsSilent l (take (i + 1) bytes)
  silent-more silent none =
      ap (decode_after l) more ∙ decode_after-append l (map Byte (take i bytes)) (Byte (get_or bytes i 0) ∷ [])
      ∙ ap (λ x. x ++ decode_after (left_behind l (take i bytes)) (Byte (get_or bytes i 0) ∷ [])) silent
      ∙ ap (λ x. before x []) none

  pub left-more : left_behind l (take (i + 1) bytes) ≡ left_by (left_behind l (take i bytes)) (get_or bytes i 0)
  left-more = ap (left_after l) more ∙ left_after-append l (map Byte (take i bytes)) (Byte (get_or bytes i 0) ∷ [])

  pub taken-count : i + 1 ≡ length (take i bytes) + 1
  taken-count = ap (λ n. n + 1) (sym (length-take-le i bytes (omega (arith, less))))

  pub taken-parts : bytes ≡ take i bytes ++ get_or bytes i 0 ∷ drop (i + 1) bytes
  taken-parts =
      sym (take-append-drop (i + 1) bytes) ∙ ap (λ x. x ++ drop (i + 1) bytes) (take_more bytes i 0 less)
      ∙ append_assoc (take i bytes) (get_or bytes i 0 ∷ []) (drop (i + 1) bytes)
