-- What the whole screen shows otherwise after an event, and what of it lies on the screen.
use Rattle.std.proofs.Common.{◌≡◌, ℤ, pos, ◌+ℤ◌, Bool, true, false, not, List, [], ◌∷◌, refl, sym, ap, subst, arith}
use mathlib.Core.Bool.{beq}
use Rattle.std.specs.Prelude.{is_none, is_some}
use Rattle.std.proofs.lemmas.Int.{ints}
use Rattle.tv_cells.specs.Damage.{HasWithin, has}
use Rattle.tv_cells.specs.Layers.{Layer}
use Rattle.tv_cells.specs.Picture.{Picture}
use Rattle.tv_cells.specs.Rectangle.{IsIn}
use Rattle.tv_cells.specs.Repainting.{AreAlike}
use Rattle.tv_cells.specs.declared.rect.Rect.{Rect}
use Rattle.tv_cells.proofs.AddedLemmas.{lacks}
use Rattle.tv_view.specs.Meaning.{Leaf}
use Rattle.tv_model.specs.declared.desc.Desc.{Desc}
use Rattle.tv_model.specs.Description.Numbers.{natural}
use Rattle.tv_machine.specs.State.{State}
use Rattle.tv_machine.specs.Screen.Bodies.{whole_screen}
use Rattle.tv_machine.specs.Screen.Layers.{bar_layer, box_layers, stack_layers, status_layer}
use Rattle.tv_menu.specs.Lawful.{IsLawfulScreen}
use Rattle.tv_session.specs.Running.{ShowAlikeOff, IsRun}
use Rattle.tv_session.specs.Showing.{AreShownAlike}
use Rattle.tv_session.specs.declared.run.RunOf.{RunOf}
use Rattle.tv_session.proofs.MarkedLemmas.{alike-is, alike-refl, layers-alike, marked-more}
use Rattle.tv_session.proofs.PaintingLemmas.{on-whole}
use Rattle.tv_menu.proofs.DamageLemmas.{alike-more}

-- no point is lost
abbrev pub Keeps : List Rect → List Rect → Type 0
Keeps before after = (x y : ℤ) → has before x y ≡ true → has after x y ≡ true

-- ---- the front window

pub same-bools : (a b : Bool) → not (beq a b) ≡ false → a ≡ b
same-bools true true e = refl
same-bools true false e = e
same-bools false true e = sym e
same-bools false false e = refl

module _ (d : Desc) (p : Picture) (damage : List Rect) where
  back : (xs ys : List Layer) → AreAlike p damage xs ys → AreAlike p damage ys xs
  back xs ys a = record { each = λ column row on e under. sym (a.each column row on e under) }

  -- it may have become active or passive
  pub front-either : (s t : State) (a b : Bool) → AreAlike p damage (stack_layers d true t.windows) (stack_layers d false t.windows)
      → AreAlike p damage (stack_layers d a t.windows) (stack_layers d b t.windows)
  front-either s t true true alike = alike-refl p damage (stack_layers d true t.windows)
  front-either s t true false alike = alike
  front-either s t false true alike = back (stack_layers d true t.windows) (stack_layers d false t.windows) alike
  front-either s t false false alike = alike-refl p damage (stack_layers d false t.windows)

  -- it is active in both states, or in neither
  pub front-same : (s t : State) → is_some t.dialog ≡ is_some s.dialog
      → AreAlike p damage (stack_layers d (is_none s.dialog) t.windows) (stack_layers d (is_none t.dialog) t.windows)
  front-same s t same = alike-is p damage _ _ (ap (λ b. stack_layers d (not b) t.windows) (sym same))

-- ---- the whole screen

module _ {V : Type 0} (look : V → Leaf) (d : Desc) (s t : State) where
  -- the bars, then the status line, then the front window have told what they show otherwise
  pub changed : (run : RunOf V) (barred lined last : List Rect) → IsRun look d t run → ShowAlikeOff d s t run.damage
      → Keeps run.damage barred → Keeps barred lined → Keeps lined last
      → ((p : Picture) → AreAlike p barred (bar_layer d s.menu ∷ []) (bar_layer d t.menu ∷ []))
      → ((p : Picture) → AreAlike p barred (box_layers d s.menu) (box_layers d t.menu))
      → ((p : Picture) → AreAlike p lined (status_layer d s ∷ []) (status_layer d t ∷ []))
      → ((p : Picture) → AreAlike p last (stack_layers d (is_none s.dialog) t.windows) (stack_layers d (is_none t.dialog) t.windows))
      → IsRun look d t (record run { damage = last }) × AreShownAlike d s t last
  changed run barred lined last r marked first second third bar menu status front = (
    record { desk = r.desk; dialogs = r.dialogs; bar = r.bar; menu = r.menu; frame = r.frame; over = r.over; log = r.log },
    λ p.
        let later : Keeps barred last = λ x y e. third x y (second x y e) in
        layers-alike d s t p last (alike-more p barred last _ _ later (bar p)) (alike-more p lined last _ _ third (status p)) (alike-more p barred last _ _ later (menu p))
        (marked-more d s t run.damage last marked (λ x y e. later x y (first x y e))) (front p),
  )

-- ---- what of it lies on the screen

pub alike-within : (d : Desc) (s t : State) (inner damage : List Rect) (p : Picture) → IsLawfulScreen d.width d.height → p.width ≡ natural d.width → p.height ≡ natural d.height
    → HasWithin (whole_screen d) inner damage → (xs ys : List Layer) → AreAlike p inner xs ys → AreAlike p damage xs ys
alike-within d s t inner damage p size width height added xs ys alike = record {
  each = λ column row on off under.
      let across : (pos column +ℤ pos 0) ≡ pos column = omega (arith, ints) in
      let down : (pos row +ℤ pos 0) ≡ pos row = omega (arith, ints) in
      let whole : IsIn (whole_screen d) (pos column +ℤ pos 0) (pos row +ℤ pos 0) =
      subst (λ x. IsIn (whole_screen d) x (pos row +ℤ pos 0)) (sym across) (subst (λ y. IsIn (whole_screen d) (pos column) y) (sym down) (on-whole d s p size width height column row on)) in
      let seen : has inner (pos column) (pos row) ≡ true → has damage (pos column) (pos row) ≡ true = λ e.
      subst (λ x. has damage x (pos row) ≡ true) across (subst (λ y. has damage (pos column +ℤ pos 0) y ≡ true) down (added.each (pos column) (pos row) e whole)) in
      alike.each column row on (lacks inner damage (pos column) (pos row) seen off) under;
}
