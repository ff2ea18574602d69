-- What a sound description that can be spelled has of windows.
use Rattle.std.proofs.Common.{◌≡◌, ◌≢◌, ◌<◌, ℕ, ℤ, if◌then◌else◌, nat_lt, IsTrue, find, get_or, List, [], ◌∷◌, map, flat_map, reverse, Some, None, refl, subst, arith, All, AllPairs}
use Rattle.std.proofs.lemmas.Bool.{false≢true}
use Rattle.std.proofs.lemmas.Bool.Decides.{nat_tests}
use Rattle.std.proofs.lemmas.List.Elements.{All-from_recursion}
use Rattle.tv_declarations.specs.Spelling.{IsDescription, IsWindow, IsWindowText, is_text}
use Rattle.tv_faults.specs.Order.{lines_of_menu, lines_of_window, start_line}
use Rattle.tv_faults.specs.Sound.{Sound}
use Rattle.tv_faults.specs.Sound.Places.{AreInside, IsPartOf}
use Rattle.tv_faults.proofs.LackLemmas.{bodies}
use Rattle.tv_faults.proofs.PairLemmas.{Across, after_own, pairs_append, pairs_flat}
use Rattle.tv_faults.proofs.RisingLemmas.{rising_lines}
use Rattle.tv_machine.proofs.ListLemmas.{bool_cases}
use Rattle.tv_model.specs.declared.desc.Desc.{Desc}
use Rattle.tv_model.specs.declared.desc.Window.{Window}
use Rattle.tv_model.specs.declared.kind.Kind.{Kind}
use Rattle.tv_model.specs.declared.kind.Kind.TheVariants as kinds
use Rattle.tv_model.specs.declared.node.Node.{Node}
use Rattle.tv_model.specs.Description.Panes.{owner_of, room_in}
use Rattle.tv_model.specs.Description.Rectangles.{place_of_node}
use Rattle.tv_model.specs.Faults.Lines.{after_seen}
use Rattle.tv_window.specs.DeclaredWindows.{IsTextInside}
use Rattle.tv_session.specs.Desk.{AreLawfulWindows}
use Rattle.tv_session.proofs.LimitLemmas.{window_head_limited}
use Rattle.tv_session.proofs.PartLemmas.{windows_limited}

-- ---- texts stand inside the frame

-- nothing is less deep than a view that stands in no pane
no_owner : (depth : ℕ) (back : List Node) → depth ≡ 0 → find (λ other. nat_lt other.depth depth) back ≡ None
no_owner depth [] is = refl
no_owner depth (other ∷ back) is =
    bool_cases (nat_lt other.depth depth)
    (λ b. nat_lt other.depth depth ≡ b → (if b then Some other else find (λ other. nat_lt other.depth depth) back) ≡ None)
    (λ less e. absurd (let below : other.depth < depth = grind (arith, nat_tests) in omega (arith, below, is)))
    (λ fails e. no_owner depth back is)
    refl

text_kind : (kind : Kind) → IsTrue (is_text kind) → (h : ℤ) × (text : List ℕ) × (kind ≡ kinds.Text (record { h = h; text = text }))
text_kind (kinds.Text own) is = (own.h, own.text, refl)
text_kind _ is = absurd (false≢true is)

module _ (frame : Node) where
  inside_frame : (pair : List Node × Node) → IsWindowText pair.1 → IsPartOf (place_of_node pair.1) (room_in frame (owner_of pair.0 pair.1))
      → IsTextInside frame pair.1
  inside_frame pair text lies =
      let kind = text_kind pair.1.kind text.kind in
      record {
        height = kind.0;
        text = kind.1;
        kind = kind.2;
        inside = subst (λ owner. IsPartOf (place_of_node pair.1) (room_in frame owner)) (no_owner pair.1.depth (reverse pair.0) text.depth) lies;
      }

  texts_inside : (views : List Node) → All IsWindowText views → AreInside frame views → All (IsTextInside frame) views
  texts_inside views texts inside =
      let pairs = after_seen [] views in
      let each : All (λ pair. IsWindowText pair.1) pairs = (after_own IsWindowText [] views).1 texts in
      (after_own (IsTextInside frame) [] views).0
      (λ k pair less. inside_frame (get_or pairs k pair) (each k pair less) (inside k pair less))

-- ---- no two have one line

abbrev IsEarlier : ℕ → ℕ → Type 0
IsEarlier line later = line < later

windows_apart : (d : Desc) → IsDescription d → AllPairs (λ window other. window.node.id.0 ≢ other.node.id.0) d.windows
windows_apart d is =
    let all = (pairs_append IsEarlier (2 ∷ start_line d.start) _).0 (rising_lines d is) in
    let after_menus = (pairs_append IsEarlier (flat_map lines_of_menu d.menus) _).0 all.0.1 in
    let after_status = (pairs_append IsEarlier (map (λ item. item.id.0) d.status) _).0 after_menus.0.1 in
    let windows = (pairs_append IsEarlier (flat_map lines_of_window d.windows) _).0 after_status.0.1 in
    let each : AllPairs (λ window other. Across IsEarlier (lines_of_window window) (lines_of_window other)) d.windows =
    ((pairs_flat IsEarlier lines_of_window d.windows).0 windows.0.0).0 in
    λ i j window less within same.
    let own : Window = get_or d.windows i window in
    let other : Window = get_or d.windows j window in
    let below : own.node.id.0 < other.node.id.0 = each i j window less within 0 own.node.id.0 (omega arith) 0 other.node.id.0 (omega arith) in
    omega (arith, below, same)

-- ---- the whole

pub windows_lawful : (d : Desc) → IsDescription d → Sound d → AreLawfulWindows d.windows
windows_lawful d is s =
    let inside : All (λ window. AreInside window.node window.views) d.windows = ((bodies d (λ body. AreInside body.frame body.views)).0 s.places.views).0 in
    let spelled : All IsWindow d.windows = All-from_recursion IsWindow d.windows is.windows in
    record {
      each = λ k window less.
          let own : Window = get_or d.windows k window in
          record {
            head = window_head_limited own.node (windows_limited d s k window less);
            texts = texts_inside own.node own.views (All-from_recursion IsWindowText own.views (spelled k window less).views) (inside k window less);
          };
      apart = windows_apart d is;
    }
