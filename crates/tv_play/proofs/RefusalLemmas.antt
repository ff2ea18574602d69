-- Whether a typed character changed anything that shows.
use Rattle.std.proofs.Common.{◌≡◌, ℕ, zero, suc, ◌+◌, ◌<◌, ◌≤◌, Bool, true, false, not, ◌||◌, refl, sym, ap, ◌∙◌, arith, inl, inr}
use Rattle.std.specs.List.{list_any, range_with_len}
use Rattle.std.proofs.lemmas.Bool.{cases_lt, cases_Bool}
use Rattle.std.proofs.lemmas.Bool.Decides.{nat_tests}
use Rattle.tv_cells.specs.Glyph.{Glyph, glyph}
use Rattle.tv_cells.specs.Picture.{IsOn, Picture}
use Rattle.tv_cells.specs.Repainting.{has_cell}
use Rattle.tv_cells.specs.declared.rect.Rect.{Rect}
use Rattle.std.proofs.Common.{List, ◌∷◌, Some, None, length, get_or, drop}
use Rattle.std.proofs.lemmas.List.{at_drop_more, drop_all}
use Rattle.tv_model.specs.declared.log.LogLine.{LogLine}
use Rattle.tv_model.specs.declared.log.LogLine.TheVariants as lines
use Rattle.tv_model.specs.declared.node.Id.{Id}
use Rattle.tv_machine.specs.Output.{screen_cell}
use Rattle.tv_machine.specs.Run.{Session}
use Rattle.tv_model.specs.Description.Numbers.{natural}
use Rattle.tv_play.specs.Refusals.{has_changed, has_other_cell, has_other_in_row, invalid_in, is_same_cell}
use Rattle.tv_play.specs.Shown.{IsScreenPlace, KeepsScreen}
use Rattle.tv_play.specs.Steps.{HasTaken}
use Rattle.tv_script.specs.Performed.{IsScreenOf}
use Rattle.tv_terminal.specs.Sameness.{Differs, IsSaidSame, IsSameWithin}
use Rattle.tv_terminal.specs.declared.painter.Painter.{Painter}

-- ---- the log

skip : (line : LogLine) (log : List LogLine) → ((id : Id) → line ≡ lines.Invalid id → ⊥) → invalid_in (line ∷ log) ≡ invalid_in log
skip (lines.Open id) log other = refl
skip (lines.Focus id) log other = refl
skip (lines.Press id) log other = refl
skip (lines.Invalid id) log other = absurd (other id refl)
skip (lines.Close id) log other = refl
skip lines.Quit log other = refl
skip (lines.Command number) log other = refl
skip (lines.End id command) log other = refl
skip (lines.Field id value) log other = refl
skip (lines.Moved id point) log other = refl

module _ (log : List LogLine) (i : ℕ) (line : LogLine) (less : i < length log) (is : line ≡ get_or log i line) (so_far : invalid_in log ≡ invalid_in (drop i log)) where
  next : invalid_in log ≡ invalid_in (line ∷ drop (i + 1) log)
  next = so_far ∙ at_drop_more invalid_in log i line less ∙ ap (λ x. invalid_in (x ∷ drop (i + 1) log)) (sym is)

  pub invalid-here : (id : Id) → line ≡ lines.Invalid id → Some id ≡ invalid_in log
  invalid-here id here = sym (next ∙ ap (λ x. invalid_in (x ∷ drop (i + 1) log)) here)

  pub invalid-later : ((id : Id) → line ≡ lines.Invalid id → ⊥) → invalid_in log ≡ invalid_in (drop (i + 1) log)
  invalid-later other = next ∙ skip line (drop (i + 1) log) other

pub invalid-never : (log : List LogLine) (i : ℕ) → length log ≤ i → invalid_in log ≡ invalid_in (drop i log) → None ≡ invalid_in log
invalid-never log i all so_far = sym (so_far ∙ ap invalid_in (drop_all i log all))

-- ---- numbers in a row

none-from : (test : ℕ → Bool) (a n : ℕ) → ((k : ℕ) → a ≤ k → k < a + n → test k ≡ false) → list_any test (range_with_len a n) ≡ false
none-from test a zero none = refl
none-from test a (suc n) none =
    ap (λ b. b || list_any test (range_with_len (a + 1) n)) (none a (omega arith) (omega arith))
    ∙ none-from test (a + 1) n (λ k from to. none k (omega (arith, from)) (omega (arith, to)))

or-either : (a b : Bool) → b ≡ true → a || b ≡ true
or-either true b e = refl
or-either false b e = e

one-from : (test : ℕ → Bool) (a n k : ℕ) → a ≤ k → k < a + n → test k ≡ true → list_any test (range_with_len a n) ≡ true
one-from test a zero k from to is = absurd (omega (arith, from, to))
one-from test a (suc n) k from to is = elim (cases_lt a k) [
  | inl later ↦ or-either (test a) (list_any test (range_with_len (a + 1) n)) (one-from test (a + 1) n k (omega (arith, later)) (omega (arith, to)) is)
  | inr here ↦
      let same : k ≡ a = omega (arith, from, here) in
      ap (λ b. b || list_any test (range_with_len (a + 1) n)) (ap test (sym same) ∙ is)
]

-- ---- cells

same-test : (a b : Glyph) → a ≡ b → is_same_cell a b ≡ true
same-test a b e = rw e (grind (arith, nat_tests))

from-same : (a b : Glyph) → is_same_cell a b ≡ true → a ≡ b
from-same a b e =
    let x : a.ch ≡ b.ch = grind (arith, nat_tests, e) in
    let y : a.attr ≡ b.attr = grind (arith, nat_tests, e) in
    ap (λ (c : ℕ). glyph c a.attr) x ∙ ap (glyph b.ch) y

other-test : (a b : Glyph) → (a ≡ b → ⊥) → is_same_cell a b ≡ false
other-test a b apart = elim (cases_Bool (is_same_cell a b)) [
  | inl same ↦ absurd (apart (from-same a b same))
  | inr other ↦ other
]

-- ---- a screen

module _ (old new : Session) {screen : Picture} {rects : List Rect} {painter : Painter} (taken : HasTaken old painter) (is : IsScreenOf new screen) (keeps : KeepsScreen rects old new)
    (wide : natural new.desc.width ≡ natural old.desc.width) (high : natural new.desc.height ≡ natural old.desc.height) where
  abbrev Within : ℕ → ℕ → Type 0
  Within column row = has_cell rects column row ≡ true

  on-shown : {column row : ℕ} → IsScreenPlace old column row → IsOn painter.shown column row
  on-shown on = record { across = omega (arith, on.across, taken.size.width); down = omega (arith, on.down, taken.size.height) }

  on-new : {column row : ℕ} → IsScreenPlace old column row → IsOn screen column row
  on-new on = record { across = omega (arith, on.across, is.width, wide); down = omega (arith, on.down, is.height, high) }

  same-cell : IsSameWithin Within painter.shown screen → (column row : ℕ) → IsScreenPlace old column row → screen_cell old column row ≡ screen_cell new column row
  same-cell same column row on = elim (cases_Bool (has_cell rects column row)) [
    | inl here ↦ sym (taken.each column row (on-shown on)) ∙ same column row (on-shown on) here ∙ is.cells.each column row (on-new on)
    | inr off ↦ sym (keeps.each column row on off)
  ]

  unchanged : IsSameWithin Within painter.shown screen → has_changed old new ≡ false
  unchanged same =
      none-from (has_other_in_row old new) 0 (natural old.desc.height) (λ row from down.
      none-from (has_other_cell old new row) 0 (natural old.desc.width) (λ column after across.
      ap not (same-test (screen_cell old column row) (screen_cell new column row) (same-cell same column row (record { across = omega (arith, across); down = omega (arith, down) })))))

  changed : Differs Within painter.shown screen → has_changed old new ≡ true
  changed d =
      let here : IsScreenPlace old d.column d.row = record { across = omega (arith, d.on.across, taken.size.width); down = omega (arith, d.on.down, taken.size.height) } in
      let apart : screen_cell old d.column d.row ≡ screen_cell new d.column d.row → ⊥ = λ e.
      d.other (taken.each d.column d.row d.on ∙ e ∙ sym (is.cells.each d.column d.row (on-new here))) in
      one-from (has_other_in_row old new) 0 (natural old.desc.height) d.row (omega arith) (omega (arith, here.down))
      (one-from (has_other_cell old new d.row) 0 (natural old.desc.width) d.column (omega arith) (omega (arith, here.across))
      (ap not (other-test (screen_cell old d.column d.row) (screen_cell new d.column d.row) apart)))

  pub says-changed : (same : Bool) → IsSaidSame Within painter.shown screen same → same ≡ not (has_changed old new)
  says-changed true all = sym (ap not (unchanged all))
  says-changed false other = sym (ap not (changed other))
