-- The windows of a sound description, as they stand before any event.
use Rattle.std.proofs.Common.{◌≡◌, ◌≢◌, false, List, [], ◌∷◌, map, reverse, Some, All, AllPairs, sym, ◌∙◌, subst, arith}
use Rattle.std.proofs.lemmas.List.Elements.{All-head, All-map, All-tail, All-weaker}
use Rattle.std.proofs.lemmas.List.Kept.{AllPairs-cons}
use Rattle.tv_view.specs.Meaning.{Leaf}
use Rattle.tv_machine.specs.Screen.Bodies.{window_of}
use Rattle.tv_model.specs.declared.desc.Desc.{Desc}
use Rattle.tv_model.specs.declared.desc.Window.{Window}
use Rattle.tv_model.specs.declared.node.Id.{Id}
use Rattle.tv_machine.specs.Session.Start.{closed, open_window}
use Rattle.tv_machine.proofs.ListLemmas.{AreApart as AreApartIds, fails-absent, find-member, has, pairs-head, pairs-tail}
use Rattle.std.specs.Prelude.{IfSome}
use Rattle.tv_window.specs.DeclaredWindows.{AreDeclared}
use Rattle.tv_window.specs.Head.{IsLimitedWindowHead}
use Rattle.tv_window.specs.declared.window.WindowOf.{WindowOf}
use Rattle.tv_window.specs.Desk.{AreDistinct, AreFreshWindows, AreLawfulWindows, IsDesk, IsLawfulWindow}
use Rattle.tv_window.specs.declared.desk.DeskOf.{DeskOf}
use Rattle.tv_window.proofs.DeclaredLemmas.{declared-reverse}
use Rattle.tv_window.proofs.OrderLemmas.{numbers-differ, pairs-reverse}

-- ---- each is found by its id

abbrev window_id : Window → Id
window_id window = window.node.id

abbrev Differ : Window → Window → Type 0
Differ window other = window.node.id.0 ≢ other.node.id.0

ids-apart : (windows : List Window) → AllPairs Differ windows → AreApartIds (map window_id windows)
ids-apart [] apart = tt
ids-apart (window ∷ windows) apart = (
  fails-absent window_id windows window.node.id
      (All-weaker (Differ window) (λ other. has window_id window.node.id other ≡ false) (λ other d. numbers-differ other.node.id.0 window.node.id.0 (λ e. d (sym e))) windows (pairs-head Differ window windows apart)),
  ids-apart windows (pairs-tail Differ window windows apart),
)

-- ---- one for one

open-apart : (windows : List Window) → AllPairs Differ windows → AreDistinct (map open_window windows)
open-apart [] apart = apart_none
  where
    apart_none : AreDistinct []
    apart_none i j e less within = absurd (omega (arith, less, within))
open-apart (window ∷ windows) apart =
    AllPairs-cons (λ w other. w.id.0 ≢ other.id.0) (open_window window) (map open_window windows)
    (All-map (λ other. window.node.id.0 ≢ other.id.0) open_window windows (pairs-head Differ window windows apart)) (open-apart windows (pairs-tail Differ window windows apart))

module _ {V : Type 0} (look : V → Leaf) (d : Desc) where
  fresh-declared : (declared : List Window) (windows : List (WindowOf V)) → All (λ window. window_of d window.node.id ≡ Some window) declared → All IsLawfulWindow declared
      → AreFreshWindows look declared windows → AreDeclared look d (map open_window declared) windows
  fresh-declared [] [] found lawful fresh = tt
  fresh-declared [] (w ∷ windows) found lawful fresh = absurd fresh
  fresh-declared (window ∷ declared) [] found lawful fresh = absurd fresh
  fresh-declared (window ∷ declared) (w ∷ windows) found lawful fresh = (
    record {
      declared = window;
      named = All-head (λ one. window_of d one.node.id ≡ Some one) window declared found;
      corner = fresh.0.corner;
      sheet = fresh.0.sheet;
      of = fresh.0.of;
      limited = subst (λ head. IfSome head IsLimitedWindowHead) (sym fresh.0.of.head) (All-head IsLawfulWindow window declared lawful).head;
      texts = (All-head IsLawfulWindow window declared lawful).texts;
    },
    fresh-declared declared windows (All-tail (λ one. window_of d one.node.id ≡ Some one) window declared found) (All-tail IsLawfulWindow window declared lawful) fresh.1,
  )

  -- handed in in description order, and then reversed
  pub new-desk : (windows turned : List (WindowOf V)) (desk : DeskOf V) → turned ≡ reverse windows → desk.windows.items.items ≡ turned → AreLawfulWindows d.windows → AreFreshWindows look d.windows windows
      → IsDesk look d (closed d).windows desk
  new-desk windows turned desk back items lawful fresh = record {
    windows = subst (AreDeclared look d (reverse (map open_window d.windows))) (sym (items ∙ back))
        (declared-reverse look d (map open_window d.windows) windows
        (fresh-declared d.windows windows (find-member window_id d.windows (ids-apart d.windows lawful.apart)) lawful.each fresh));
    apart = pairs-reverse (λ w other. w.id.0 ≢ other.id.0) (λ w other d e. d (sym e)) (map open_window d.windows) (open-apart d.windows lawful.apart);
  }
