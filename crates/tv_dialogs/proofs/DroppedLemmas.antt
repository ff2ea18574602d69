-- Alt with a letter in lower case: no view marks one, and so no dialog does anything.
use Rattle.std.proofs.Common.{arith, ◌≡◌, Bool, true, false, ◌&&◌, ◌-◌, ◌==◌, ℕ, nat_le, if◌then◌else◌, List, [], ◌∷◌, get_or, Option, Some, None, option_map, option_and_then, is_some, refl, sym, ap, ◌∙◌}
use Rattle.std.specs.Prelude.{ℤ, ◌-ℤ◌, filter, position, slice_get}
use Rattle.std.proofs.lemmas.Bool.{eqb-true, false≢true}
use Rattle.std.proofs.lemmas.Bool.Decides.{nat_tests}
use Rattle.std.proofs.lemmas.Int.{ints}
use Rattle.std.proofs.lemmas.List.Quantifiers.{position-Some}
use Rattle.tv_cells.specs.declared.rect.Point.{Point}
use Rattle.tv_event.specs.declared.event.Event.{Event}
use Rattle.tv_event.specs.declared.event.Event.TheVariants as events
use Rattle.tv_event.specs.declared.event.Key.{Key}
use Rattle.tv_event.specs.declared.event.Key.TheVariants as keys
use Rattle.tv_model.specs.Description.Rectangles.{IsSmall}
use Rattle.tv_model.specs.declared.kind.Kind.{Kind}
use Rattle.tv_model.specs.declared.kind.Kind.TheVariants as kinds
use Rattle.tv_model.specs.declared.kind.MarkedText.{MarkedText}
use Rattle.tv_model.specs.declared.desc.Dialog.{Dialog}
use Rattle.tv_model.specs.Description.Marks.{is_option_letter, marks, upper}
use Rattle.tv_model.specs.Controls.Owner.{LetterOwner, control}
use Rattle.tv_model.specs.Description.Owners.{owner_by}
use Rattle.tv_machine.specs.Leaves.{PlacedNode, leaf_list}
use Rattle.tv_model.specs.Controls.Contents.{Content}
use Rattle.tv_machine.specs.Controls.Tables.{key_answer}
use Rattle.tv_machine.specs.Dialog.Keys.{alt_keyed, answered, keyed}
use Rattle.tv_machine.specs.Dialog.Modal.{Modal, content_at, leaf_at}
use Rattle.tv_machine.specs.Dialog.Shortcuts.{marker_among, marking_leaf}
use Rattle.tv_machine.specs.Dialog.Step.{dialog_step, step_by}
use Rattle.tv_machine.specs.Session.Step.{event_from}
use Rattle.tv_machine.proofs.ListLemmas.{bool_cases, option_cases}
use Rattle.tv_cells.specs.Rectangle.{LiesWithin}
use Rattle.tv_dialog.specs.Stepping.{IsHandedIn}
use Rattle.tv_dialogs.specs.Handed.{HasPointGiven, is_dropped, is_small_alt, is_small_letter}

-- ---- letters

raised : ℕ → Bool → ℕ
raised ch b = if b then ch - 32 else ch

-- a letter in upper case is none in lower case
upper-large : (ch : ℕ) → is_small_letter (upper ch) ≡ false
upper-large ch = by (nat_le 97 ch) (nat_le ch 122) refl refl
  where
    by : (a b : Bool) → nat_le 97 ch ≡ a → nat_le ch 122 ≡ b → is_small_letter (if a && b then ch - 32 else ch) ≡ false
    by true true low high = let below : nat_le 97 (ch - 32) ≡ false = grind (arith, nat_tests) in ap (λ c. c && nat_le (ch - 32) 122) below
    by true false low high = ap (λ c. nat_le 97 ch && c) high ∙ ap (λ c. c && false) low
    by false b low high = ap (λ c. c && nat_le ch 122) low

module _ (letter : ℕ) (small : is_small_letter letter ≡ true) where
  is-not : (ch : ℕ) → (upper ch == letter) ≡ true → ⊥
  is-not ch e =
      let same : upper ch ≡ letter = eqb-true (upper ch) letter e in
      false≢true (sym (upper-large ch) ∙ ap is_small_letter same ∙ small)

  unmarked : (text : MarkedText) → marks letter text ≡ true → ⊥
  unmarked text e = of (option_and_then (slice_get text.text) text.mark) e
    where
      of : (o : Option ℕ) → is_option_letter letter (option_map upper o) ≡ true → ⊥
      of None f = false≢true f
      of (Some ch) f = is-not ch f

  nothing : MarkedText
  nothing = record { text = []; mark = None }

  unmarked-items : (items : List MarkedText) (f : ℕ → LetterOwner) → is_some (option_map f (position (marks letter) items)) ≡ false
  unmarked-items items f =
      option_cases (position (marks letter) items) (λ o. is_some (option_map f o) ≡ false) (λ none. refl)
      (λ place found. absurd (unmarked (get_or items place nothing) (position-Some (marks letter) items place nothing found).1))

  unmarked-one : (text : MarkedText) (name : List ℕ) → is_some (if marks letter text then Some (control name) else None) ≡ false
  unmarked-one text name =
      bool_cases (marks letter text) (λ b. is_some (if b then Some (control name) else None) ≡ false)
      (λ is. absurd (unmarked text is)) (λ is. refl)

  unowned : (k : Kind) → is_some (owner_by letter k) ≡ false
  unowned (kinds.Label label) = unmarked-one label.text label.link
  unowned (kinds.Button button) = unmarked-one button.text button.name
  unowned (kinds.CheckBoxes boxes) = unmarked-items boxes.items _
  unowned (kinds.RadioButtons radios) = unmarked-items radios.items _
  unowned _ = refl

  -- ---- the dialog

  abbrev marks_it : PlacedNode → Bool
  marks_it leaf = is_some (owner_by letter leaf.node.kind)

  no-markers : (leaves : List PlacedNode) → filter marks_it leaves ≡ []
  no-markers [] = refl
  no-markers (leaf ∷ leaves) = ap (λ b. if b then leaf ∷ filter marks_it leaves else filter marks_it leaves) (unowned leaf.node.kind) ∙ no-markers leaves

  module _ (d : Dialog) (m : Modal) where
    no-marker : marking_leaf d m.leaves letter ≡ None
    no-marker = ap (marker_among d m.leaves) (no-markers (leaf_list d.views))

    unanswered : (leaf : PlacedNode) (k : Kind) (c : Content) → answered d (keys.Alt letter) leaf (key_answer k (keys.Alt letter) c) m ≡ m
    unanswered leaf (kinds.Button button) c = refl
    unanswered leaf _ c = refl

    alt-still : dialog_step d (events.Key (keys.Alt letter)) m ≡ m
    alt-still =
        option_cases m.held (λ held. step_by d held (events.Key (keys.Alt letter)) m ≡ m)
        (λ none. ap (λ o. alt_keyed d letter o m) no-marker
        ∙ option_cases (leaf_at d m.focus) (λ o. keyed d (keys.Alt letter) o m ≡ m) (λ lost. refl)
        (λ leaf found. unanswered leaf leaf.node.kind (content_at m leaf.node.id)))
        (λ held some. refl)

-- what is dropped changes nothing in the machine
pub dropped-still : (d : Dialog) (corner : Point) (e : Event) (m : Modal) → is_dropped e ≡ true → dialog_step d (event_from corner e) m ≡ m
dropped-still d corner (events.Key k) m is = of k is
  where
    of : (k : Key) → is_dropped (events.Key k) ≡ true → dialog_step d (events.Key k) m ≡ m
    of (keys.Alt letter) small = alt-still letter small d m
    of _ small = absurd (false≢true small)
dropped-still d corner _ m is = absurd (false≢true is)

-- ---- what is not dropped

near_moved : (x by : ℤ) → LiesWithin 10000 x → IsSmall by → LiesWithin 20000 (x -ℤ by)
near_moved x by near small = record { low = omega (arith, ints, near.low, small.high); high = omega (arith, ints, near.high, small.low) }

-- a dialog is handed Alt with a capital letter or a digit, and points near its corner
pub handed-in : (corner : Point) (e : Event) → IsSmall corner.x × IsSmall corner.y → HasPointGiven e → is_dropped e ≡ false → IsHandedIn (event_from corner e)
handed-in corner (events.Key k) small given other = λ letter e. ap (λ b. if b then letter - 32 else letter) (ap is_small_alt (sym e) ∙ other)
handed-in corner (events.Down p) small given other = record { x = near_moved p.x corner.x given.x small.0; y = near_moved p.y corner.y given.y small.1 }
handed-in corner (events.Up p) small given other = record { x = near_moved p.x corner.x given.x small.0; y = near_moved p.y corner.y given.y small.1 }
handed-in corner (events.Move p) small given other = record { x = near_moved p.x corner.x given.x small.0; y = near_moved p.y corner.y given.y small.1 }
handed-in corner (events.Command c) small given other = tt
handed-in corner (events.Broadcast c) small given other = tt
