-- What dragging keeps of a run: a held frame stays one that the mouse holds, and the top row of a dialog stays on the desktop.
use Rattle.std.proofs.Common.{◌≡◌, true, false, ◌&&◌, not, List, [], ◌∷◌, Option, Some, None, is_some, option_map, refl, sym, ap, subst, ◌∙◌, if◌then◌else◌, arith}
use Rattle.std.specs.Prelude.{slice_get, ℤ, pos, ◌+ℤ◌, ◌-ℤ◌, ◌≤ℤ◌, ◌<ℤ◌, int_le, int_lt}
use Rattle.std.specs.Ordering.{int_eq}
use Rattle.std.proofs.lemmas.Bool.{and_parts}
use Rattle.std.proofs.lemmas.Int.{ints}
use Rattle.std.proofs.lemmas.List.Elements.{All-push}
use Rattle.tv_cells.specs.declared.rect.Point.{Point}
use Rattle.tv_event.specs.declared.event.Event.{Event}
use Rattle.tv_event.specs.declared.event.Event.TheVariants as events
use Rattle.tv_valid.proofs.DecidingLemmas.{int_le_decides, int_lt_decides}
use Rattle.tv_model.specs.declared.node.Id.{Id}
use Rattle.tv_model.specs.declared.desc.Desc.{Desc}
use Rattle.tv_model.specs.declared.desc.Dialog.{Dialog}
use Rattle.tv_model.specs.declared.log.LogLine.TheVariants as lines
use Rattle.tv_machine.specs.State.{HeldFrame, OpenDialog, OpenWindow, State}
use Rattle.tv_machine.specs.Dialog.Mouse.{is_close_mark}
use Rattle.tv_machine.specs.Safe.{HasDeclaredEnd, HasTopCell, IsSafeFrame, dragged_width}
use Rattle.tv_machine.specs.Session.Commands.{with_line_logged}
use Rattle.tv_machine.specs.Session.Desktop.{seen_from}
use Rattle.tv_machine.specs.Session.Dragging.{clamped, corner_at, dropped, front_at, grabbed, is_grip, is_same_point, let_go, moved_dialog, moved_frame, moved_front, placed, step_dragged}
use Rattle.tv_machine.specs.Session.Step.{dialog_with_hold}
use Rattle.tv_machine.proofs.ListLemmas.{bool_cases}
use Rattle.tv_laws.specs.Runs.{HasSoundDialogs, IsFitOpen, IsFitState}
use Rattle.tv_laws.proofs.WorkLemmas.{no-frame, nothing, relogged-fit}

-- ---- numbers

not_less : (a b : ℤ) → int_lt a b ≡ false → b ≤ℤ a
not_less a b e = grind (arith, ints)

clamped_least : (low high n : ℤ) → low ≤ℤ high → low ≤ℤ clamped low high n
clamped_least low high n order =
    bool_cases (int_lt n low) (λ b. low ≤ℤ (if b then low else if int_lt high n then high else n)) (λ below. omega (arith, ints))
    (λ from. bool_cases (int_lt high n) (λ b. low ≤ℤ (if b then high else n)) (λ above. order) (λ within. not_less n low from))

clamped_most : (low high n : ℤ) → low ≤ℤ high → clamped low high n ≤ℤ high
clamped_most low high n order =
    bool_cases (int_lt n low) (λ b. (if b then low else if int_lt high n then high else n) ≤ℤ high) (λ below. order)
    (λ from. bool_cases (int_lt high n) (λ b. (if b then high else n) ≤ℤ high) (λ above. omega (arith, ints)) (λ within. not_less high n within))

-- a grip is a column of the frame
grip_column : (width : ℤ) (p : Point) → is_grip width p ≡ true → (pos 0 ≤ℤ p.x) × (p.x <ℤ width)
grip_column width p grip =
    let parts = and_parts (int_le (pos 0) p.x && int_lt p.x width) (int_eq p.y (pos 0) && not (is_close_mark p)) grip in
    let sides = and_parts (int_le (pos 0) p.x) (int_lt p.x width) parts.0 in
    ((int_le_decides (pos 0) p.x).0 sides.0, (int_lt_decides p.x width).0 sides.1)

-- the column that is held stays on the screen, and the row on the desktop
top_moved : (d : Desc) (frame : HeldFrame) (p old : Point) (width : ℤ) → (pos 0 ≤ℤ frame.off) × (frame.off <ℤ width)
    → HasTopCell d old width → HasTopCell d (corner_at d frame p) width
top_moved d frame p old width held top =
    let right : ℤ = d.width -ℤ pos 1 in
    let bottom : ℤ = d.height -ℤ pos 2 in
    let x : ℤ = clamped (pos 0) right p.x in
    let from_left : pos 0 ≤ℤ right = omega (arith, ints, top.on_screen) in
    let from_top : pos 1 ≤ℤ bottom = omega (arith, ints, top.row) in
    let least : pos 0 ≤ℤ x = clamped_least (pos 0) right p.x from_left in
    let most : x ≤ℤ right = clamped_most (pos 0) right p.x from_left in
    record {
      row = (clamped_least (pos 1) bottom p.y from_top, clamped_most (pos 1) bottom p.y from_top);
      column = x;
      on_screen = (least, below_end d.width x most);
      in_frame = (left_of x frame.off held.0, right_of x frame.off width held.1);
    }
  where
    below_end : (end z : ℤ) → z ≤ℤ (end -ℤ pos 1) → z <ℤ end
    below_end end z h = omega (arith, ints)

    left_of : (z off : ℤ) → pos 0 ≤ℤ off → (z -ℤ off) ≤ℤ z
    left_of z off h = omega (arith, ints)

    right_of : (z off w : ℤ) → off <ℤ w → z <ℤ ((z -ℤ off) +ℤ w)
    right_of z off w h = omega (arith, ints)

-- ---- what moves

-- the corner of the dialog
abbrev pub moved_to : Point → OpenDialog → OpenDialog
moved_to corner o = record o { origin = corner }

pub placed-frame : (o : Option OpenDialog) (corner : Point) (s : State) → (placed o corner s).frame ≡ s.frame
placed-frame None corner s = refl
placed-frame (Some o) corner s = refl

same_width : (d : Desc) (o : Option OpenDialog) (windows : List OpenWindow) (corner : Point)
    → dragged_width d o (front_at corner windows) ≡ dragged_width d o windows
same_width d None [] corner = refl
same_width d None (front ∷ behind) corner = refl
same_width d (Some o) windows corner = refl

-- no leaf of it holds the mouse
still_loose : (o : OpenDialog) (corner : Point) → dialog_with_hold (Some o) ≡ None → dialog_with_hold (Some (moved_to corner o)) ≡ None
still_loose o corner =
    bool_cases (is_some o.held) (λ b. (if b then Some o else None) ≡ None → (if b then Some (moved_to corner o) else None) ≡ None)
    (λ holds e. absurd (nothing o (sym e))) (λ loose e. refl)

-- where a frame was let go, that it moved is logged, or nothing is
pub dropped-cases : (d : Desc) (P : State → Type 0) (frame : HeldFrame) (corner : Point) (s : State) → P s
    → ((i : Id) → P (with_line_logged (lines.Moved i corner) s)) → P (dropped d frame corner s)
dropped-cases d P frame corner s stays moved =
    bool_cases (is_same_point frame.from corner) (λ b. P (if b then s else moved_frame d s.dialog corner s)) (λ same. stays)
    (λ other. in_frame s.dialog)
  where
    in_dialog : (dialog : Option Dialog) → P (moved_dialog dialog corner s)
    in_dialog None = stays
    in_dialog (Some dialog) = moved dialog.node.id

    in_front : (windows : List OpenWindow) → P (moved_front windows corner s)
    in_front [] = stays
    in_front (front ∷ behind) = moved front.id

    in_frame : (o : Option OpenDialog) → P (moved_frame d o corner s)
    in_frame None = in_front s.windows
    in_frame (Some o) = in_dialog (slice_get d.dialogs o.place)

module _ (d : Desc) (sound : HasSoundDialogs d) where
  -- ---- a frame is held, or none any longer

  pub grabbed-fit : (corner p : Point) (s : State) (width : ℤ) → IsFitState d s → dragged_width d s.dialog s.windows ≡ Some width
      → is_grip width (seen_from corner p) ≡ true → dialog_with_hold s.dialog ≡ None → s.menu ≡ None → s.is_over ≡ false
      → IsFitState d (grabbed corner p s)
  grabbed-fit corner p s width f there grip leaf menu over =
      let frame : HeldFrame = record { off = p.x -ℤ corner.x; from = corner } in
      let t : State = record s { frame = Some frame } in
      let column = grip_column width (seen_from corner p) grip in
      let holds : IsSafeFrame d t frame = record { width = width; there = there; column = column; leaf = leaf; menu = menu; over = over } in
      record {
        kept = record { saved = f.kept.saved; records = f.kept.records; places = f.kept.places; ordered = f.kept.ordered; ends = f.kept.ends };
        «open» = λ o e. let x = f.«open» o e in record { dialog = x.dialog; there = x.there; fit = x.fit; menu = x.menu; over = x.over; top = x.top };
        frame = λ other e. let same : frame ≡ other = cc in subst (IsSafeFrame d t) same holds;
      }

  freed_fit : (s : State) → IsFitState d s → IsFitState d (let_go s)
  freed_fit s f = record {
    kept = record { saved = f.kept.saved; records = f.kept.records; places = f.kept.places; ordered = f.kept.ordered; ends = f.kept.ends };
    «open» = λ o e. let x = f.«open» o e in record { dialog = x.dialog; there = x.there; fit = x.fit; menu = x.menu; over = x.over; top = x.top };
    frame = no-frame d sound (let_go s) refl;
  }

  -- ---- it moves

  -- where the top row of the open dialog has a cell on the desktop, it has one with this corner
  abbrev KeepsTop : State → Point → Type 0
  KeepsTop s corner =
      (o : OpenDialog) (dialog : Dialog) → s.dialog ≡ Some o → slice_get d.dialogs o.place ≡ Some dialog
      → HasTopCell d o.origin dialog.node.w → HasTopCell d corner dialog.node.w

  keeps_top : (frame : HeldFrame) (p : Point) (s : State) → IsSafeFrame d s frame → KeepsTop s (corner_at d frame p)
  keeps_top frame p s x o dialog some there top =
      let both : Some dialog.node.w ≡ Some x.width =
      sym (ap (λ y. dragged_width d y s.windows) some ∙ ap (option_map (λ y. y.node.w)) there) ∙ x.there in
      let same : x.width ≡ dialog.node.w = cc in
      top_moved d frame p o.origin dialog.node.w (subst (λ (w : ℤ). (pos 0 ≤ℤ frame.off) × (frame.off <ℤ w)) same x.column) top

  placed_fit : (o : Option OpenDialog) (corner : Point) (s : State) → s.dialog ≡ o → KeepsTop s corner → IsFitState d s
      → IsFitState d (placed o corner s)
  placed_fit None corner s none tops f = record {
    kept = record { saved = f.kept.saved; records = f.kept.records; places = f.kept.places; ordered = f.kept.ordered; ends = f.kept.ends };
    «open» = λ o e. absurd (nothing o (sym none ∙ e));
    frame = λ frame e.
        let x = f.frame frame e in
        record {
          width = x.width;
          there = same_width d s.dialog s.windows corner ∙ x.there;
          column = x.column;
          leaf = x.leaf;
          menu = x.menu;
          over = x.over;
        };
  }
  placed_fit (Some o) corner s some tops f =
      let t : State = placed (Some o) corner s in
      let moved : OpenDialog = moved_to corner o in
      let x = f.«open» o some in
      let stands : IsFitOpen d t moved =
      record { dialog = x.dialog; there = x.there; fit = x.fit; menu = x.menu; over = x.over; top = λ top. tops o x.dialog some x.there (x.top top) } in
      record {
        kept = record { saved = f.kept.saved; records = f.kept.records; places = f.kept.places; ordered = f.kept.ordered; ends = f.kept.ends };
        «open» = λ other e. let same : moved ≡ other = cc in subst (IsFitOpen d t) same stands;
        frame = λ frame e.
            let y = f.frame frame e in
            record {
              width = y.width;
              there = sym (ap (λ z. dragged_width d z s.windows) some) ∙ y.there;
              column = y.column;
              leaf = still_loose o corner (sym (ap dialog_with_hold some) ∙ y.leaf);
              menu = y.menu;
              over = y.over;
            };
      }

  -- ---- while a frame is held

  dropped_fit : (frame : HeldFrame) (corner : Point) (s : State) → IsFitState d s → IsFitState d (dropped d frame corner s)
  dropped_fit frame corner s f =
      dropped-cases d (IsFitState d) frame corner s f
      (λ i. relogged-fit d sound s (with_line_logged (lines.Moved i corner) s).log (All-push (HasDeclaredEnd d) s.log (lines.Moved i corner) f.kept.ends tt) f)

  pub dragged-fit : (frame : HeldFrame) (e : Event) (s : State) → s.frame ≡ Some frame → IsFitState d s → IsFitState d (step_dragged d frame e s)
  dragged-fit frame (events.Move p) s held f = placed_fit s.dialog (corner_at d frame p) s refl (keeps_top frame p s (f.frame frame held)) f
  dragged-fit frame (events.Up p) s held f =
      let corner = corner_at d frame p in
      let t = let_go s in
      dropped_fit frame corner (placed s.dialog corner t) (placed_fit s.dialog corner t refl (keeps_top frame p s (f.frame frame held)) (freed_fit s f))
  dragged-fit frame (events.Key k) s held f = f
  dragged-fit frame (events.Down p) s held f = f
  dragged-fit frame (events.Command c) s held f = f
  dragged-fit frame (events.Broadcast c) s held f = f
