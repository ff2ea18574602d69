-- The tests of lines by which scripts are told apart: lines that can be spelled, with points on the screen, and not too many items.
use Rattle.std.proofs.Common.{◌≡◌, ℕ, ℤ, ◌≤◌, ◌+◌, nat_le, Bool, true, false, ◌&&◌, List, [], ◌∷◌, ◌++◌, length, refl, sym, ap, ◌∙◌, append_assoc, subst, arith, length-append}
use Rattle.std.proofs.lemmas.Bool.Decides.{nat_tests}
use Rattle.std.proofs.lemmas.List.{append-nil}
use Rattle.std.proofs.lemmas.List.Concat.{flat_map-append}
use Rattle.tv_script.proofs.GrammarLemmas.{Allowed, Test}
use Rattle.tv_script.specs.Line.{Line}
use Rattle.tv_script.specs.Lines.{is_on_screen, items_of, items_of_line}
use Rattle.tv_script.specs.Scripts.{IsFitting, IsOnScreen, IsScript}

-- any line
abbrev pub stands : Test
stands ls l = true

-- one with its point on the screen
abbrev pub shows : (width height : ℤ) → Test
shows width height ls l = is_on_screen width height l

-- one with which the items are not too many
abbrev pub fits : (width height : ℤ) → Test
fits width height ls l = is_on_screen width height l && nat_le (length (items_of ls ++ items_of_line l)) 100000

both : (a b : Bool) → (a && b) ≡ true → (a ≡ true) × (b ≡ true)
both true b e = (refl, e)
both false b e = absurd cc

each : (a b : Bool) → a ≡ true → b ≡ true → (a && b) ≡ true
each a b ea eb = rw (ea, eb) refl

small_true : (n : ℕ) → nat_le n 100000 ≡ true → n ≤ 100000
small_true n e = grind (arith, nat_tests)

true_small : (n : ℕ) → n ≤ 100000 → nat_le n 100000 ≡ true
true_small n h = grind (arith, nat_tests)

pub items_push : (ls : List Line) (l : Line) → items_of (ls ++ l ∷ []) ≡ items_of ls ++ items_of_line l
items_push ls l = flat_map-append items_of_line ls (l ∷ []) ∙ ap (λ t. items_of ls ++ t) (append-nil (items_of_line l))

-- ---- lines that can be spelled

stand_from : (ls before : List Line) → Allowed stands before ls → IsScript ls
stand_from [] before h = tt
stand_from (l ∷ ls) before h = (h.0, stand_from ls (before ++ l ∷ []) h.2)

from_stand : (ls before : List Line) → IsScript ls → Allowed stands before ls
from_stand [] before h = tt
from_stand (l ∷ ls) before h = (h.0, refl, from_stand ls (before ++ l ∷ []) h.1)

pub into_script : (ls : List Line) → Allowed stands [] ls → IsScript ls
into_script ls h = stand_from ls [] h

pub from_script : (ls : List Line) → IsScript ls → Allowed stands [] ls
from_script ls h = from_stand ls [] h

module _ (width height : ℤ) where
  -- ---- with points on the screen

  show_from : (ls before : List Line) → Allowed (shows width height) before ls → IsOnScreen width height ls
  show_from [] before h = (tt, tt)
  show_from (l ∷ ls) before h = let r = show_from ls (before ++ l ∷ []) h.2 in ((h.0, r.0), (h.1, r.1))

  from_show : (ls before : List Line) → IsOnScreen width height ls → Allowed (shows width height) before ls
  from_show [] before h = tt
  from_show (l ∷ ls) before h = (h.0.0, h.1.0, from_show ls (before ++ l ∷ []) (h.0.1, h.1.1))

  pub into_shown : (ls : List Line) → Allowed (shows width height) [] ls → IsOnScreen width height ls
  into_shown ls h = show_from ls [] h

  pub from_shown : (ls : List Line) → IsOnScreen width height ls → Allowed (shows width height) [] ls
  from_shown ls h = from_show ls [] h

  -- ---- and not too many items
  fit_shown : (ls before : List Line) → Allowed (fits width height) before ls → Allowed (shows width height) before ls
  fit_shown [] before h = tt
  fit_shown (l ∷ ls) before h =
      (h.0, (both (shows width height before l) (nat_le (length (items_of before ++ items_of_line l)) 100000) h.1).0, fit_shown ls (before ++ l ∷ []) h.2)

  few_from : (ls before : List Line) → length (items_of before) ≤ 100000 → Allowed (fits width height) before ls → length (items_of (before ++ ls)) ≤ 100000
  few_from [] before few h = subst (λ x. length (items_of x) ≤ 100000) (sym (append-nil before)) few
  few_from (l ∷ ls) before few h =
      let here = small_true (length (items_of before ++ items_of_line l)) (both (shows width height before l) (nat_le (length (items_of before ++ items_of_line l)) 100000) h.1).1 in
      let longer : length (items_of (before ++ l ∷ [])) ≤ 100000 = subst (λ x. length x ≤ 100000) (sym (items_push before l)) here in
      subst (λ x. length (items_of x) ≤ 100000) (append_assoc before (l ∷ []) ls) (few_from ls (before ++ l ∷ []) longer h.2)

  few_here : (l : Line) (ls before : List Line) → length (items_of (before ++ l ∷ ls)) ≤ 100000 → length (items_of before ++ items_of_line l) ≤ 100000
  few_here l ls before few =
      let whole : items_of (before ++ l ∷ ls) ≡ (items_of before ++ items_of_line l) ++ items_of ls = flat_map-append items_of_line before (l ∷ ls) ∙ sym (append_assoc (items_of before) (items_of_line l) (items_of ls)) in
      let sum : length (items_of (before ++ l ∷ ls)) ≡ length (items_of before ++ items_of_line l) + length (items_of ls) = ap length whole ∙ length-append (items_of before ++ items_of_line l) (items_of ls) in
      omega (arith, few, sum)

  from_fit : (ls before : List Line) → IsOnScreen width height ls → length (items_of (before ++ ls)) ≤ 100000 → Allowed (fits width height) before ls
  from_fit [] before h few = tt
  from_fit (l ∷ ls) before h few =
      let here = true_small (length (items_of before ++ items_of_line l)) (few_here l ls before few) in
      let later = subst (λ x. length (items_of x) ≤ 100000) (sym (append_assoc before (l ∷ []) ls)) few in
      (h.0.0, each (shows width height before l) (nat_le (length (items_of before ++ items_of_line l)) 100000) h.1.0 here, from_fit ls (before ++ l ∷ []) (h.0.1, h.1.1) later)

  pub into_fitting : (ls : List Line) → Allowed (fits width height) [] ls → IsFitting width height ls
  into_fitting ls h = (into_shown ls (fit_shown ls [] h), few_from ls [] (omega arith) h)

  pub from_fitting : (ls : List Line) → IsFitting width height ls → Allowed (fits width height) [] ls
  from_fitting ls h = from_fit ls [] h.0 h.1
