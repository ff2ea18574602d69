-- Where the open dialog hides what is below it: its frame leaves no cell of its rectangle out, and its shadow has none.
use Rattle.std.proofs.Common.{◌≡◌, ℕ, pos, ◌&&◌, ◌||◌, not, Bool, true, false, List, [], ◌∷◌, Some, if◌then◌else◌, refl, sym, ap, subst, ◌∙◌, arith}
use Rattle.std.specs.Prelude.{flat_map, filter, reverse, slice_index_or}
use Rattle.std.proofs.lemmas.Int.{ints}
use Rattle.tv_cells.specs.Damage.{is_part}
use Rattle.tv_cells.specs.Canvas.{aside}
use Rattle.tv_cells.specs.Glyph.{Glyph, shaded}
use Rattle.tv_cells.specs.Layers.{Lays, Shadow, cell_over, covers, is_in, over}
use Rattle.tv_cells.specs.Picture.{Picture}
use Rattle.tv_cells.specs.Rectangle.{IsIn, shifted, sized}
use Rattle.tv_cells.specs.Sheets.{inlaid}
use Rattle.tv_cells.specs.declared.canvas.Canvas.{Canvas}
use Rattle.tv_cells.specs.declared.rect.Rect.{Rect}
use Rattle.tv_cells.proofs.DamageLemmas.{is_in-true, part-all}
use Rattle.tv_cells.proofs.LayerLemmas.{is_in_true}
use Rattle.tv_cells.proofs.RepaintingLemmas.{covered-hides}
use Rattle.tv_model.specs.declared.desc.Desc.{Desc}
use Rattle.tv_model.specs.declared.desc.Dialog.{Dialog}
use Rattle.tv_model.specs.declared.node.Id.{Id}
use Rattle.tv_model.specs.Description.Heads.{dialog_head}
use Rattle.tv_model.specs.Description.Numbers.{natural}
use Rattle.tv_model.specs.Description.Rectangles.{desktop, rect}
use Rattle.tv_model.specs.Screen.Faces.{frame_face, frame_look}
use Rattle.tv_palette.specs.Attributes.{attribute_of}
use Rattle.tv_palette.specs.declared.role.Owner.TheVariants as owners
use Rattle.tv_machine.specs.Dialog.Rules.{is_visible}
use Rattle.tv_machine.specs.Leaves.{leaf_list}
use Rattle.tv_machine.specs.Screen.Bodies.{canvas_at}
use Rattle.tv_machine.specs.Screen.Layers.{dialog_layers, dialog_leaf, open_layers}
use Rattle.tv_machine.specs.State.{OpenDialog, State}
use Rattle.tv_group.proofs.Tree.Screen.OpenDialogLemmas.{dialog-tall}
use Rattle.tv_view.specs.Meaning.{Leaf}
use Rattle.tv_view.proofs.LayingLemmas.{lays_none}
use Rattle.tv_view.proofs.SameLayerLemmas.{lays_same, resized}
use Rattle.tv_dialog.specs.Bounds.{dialog_bounds}
use Rattle.tv_dialogs.specs.Damage.{HidesWithin}
use Rattle.tv_dialogs.specs.Dialogs.{AreDialogs, kept_at}
use Rattle.tv_dialogs.specs.declared.kept.Kept.{Kept}
use Rattle.tv_dialogs.specs.declared.dialogs.DialogsOf.{DialogsOf}
use Rattle.tv_dialogs.proofs.CornerLemmas.{bounds-at}
use Rattle.tv_dialogs.proofs.CurrentLemmas.{current-some}
use Rattle.tv_dialogs.proofs.ShownLemmas.{sizes_are}

-- ---- parts of rectangles

or-nothing : (b : Bool) → (b || false) ≡ true → b ≡ true
or-nothing true e = refl
or-nothing false e = e

nothing-or : (b : Bool) → b ≡ true → (b || false) ≡ true
nothing-or true e = refl
nothing-or false e = e

-- the points of a part are points of the whole
part-in : (r q : Rect) (column row : ℕ) → is_part r q ≡ true → IsIn r (pos column) (pos row) → IsIn q (pos column) (pos row)
part-in r q column row part i =
    is_in_true q (pos column) (pos row)
    (or-nothing (is_in q (pos column) (pos row)) ((part-all r (q ∷ []) (nothing-or (is_part r q) part)).each (pos column) (pos row) i))

-- ---- the shadow

dark-nowhere : (here moved under : Bool) → (here ≡ true → under ≡ true) → ((here && moved) && not under) ≡ false
dark-nowhere false moved under hides = refl
dark-nowhere true true under hides = rw (hides refl) refl
dark-nowhere true false under hides = refl

module _ (c : Canvas) (r : Rect) (part : is_part c.clip r ≡ true) (x : c.origin.x ≡ pos 0) (y : c.origin.y ≡ pos 0) where
  clip-in : (column row : ℕ) → is_in c.clip (pos column) (pos row) ≡ true → is_in (shifted r c.origin) (pos column) (pos row) ≡ true
  clip-in column row here =
      let i = part-in c.clip r column row part (is_in_true c.clip (pos column) (pos row) here) in
      is_in-true (shifted r c.origin) (pos column) (pos row)
      (record {
        after_left = omega (arith, ints, i.after_left, x);
        before_right = omega (arith, ints, i.before_right, x);
        after_top = omega (arith, ints, i.after_top, y);
        before_bottom = omega (arith, ints, i.before_bottom, y);
      })

  shadow-unseen : (column row : ℕ) (under : Glyph) → over (Shadow c r) column row under ≡ under
  shadow-unseen column row under =
      ap (λ (b : Bool). if b then shaded under else under)
      (dark-nowhere (is_in c.clip (pos column) (pos row)) (is_in (shifted (shifted r aside) c.origin) (pos column) (pos row))
      (is_in (shifted r c.origin) (pos column) (pos row)) (clip-in column row))

  -- through a canvas that lies in a rectangle, the shadow of the rectangle isn't seen
  pub no-shadow : (p : Picture) → Lays (Shadow c r ∷ []) p p
  no-shadow p = lays_same [] (Shadow c r ∷ []) p p (record { each = λ column row under. sym (shadow-unseen column row under) }) (lays_none p)

-- ---- the frame

module _ (d : Desc) (o : OpenDialog) (overwriting : List Id) (x : Dialog) (column row : ℕ) where
  abbrev place : Canvas
  place = canvas_at (desktop d) o.origin.x o.origin.y

  abbrev w : ℕ
  w = natural x.node.w

  abbrev h : ℕ
  h = natural (dialog_head x).h

  module _ (on : IsIn (desktop d) (pos column) (pos row)) (i : IsIn (rect o.origin.x o.origin.y x.node.w (dialog_head x).h) (pos column) (pos row)) where
    own-rect : IsIn (shifted (sized w h) o.origin) (pos column) (pos row)
    own-rect =
        resized o.origin.x o.origin.y x.node.w (dialog_head x).h (record { x = pos 0; y = pos 0 }) o.origin (omega (arith, ints)) (omega (arith, ints)) (pos column) (pos row)
        (record {
          after_left = omega (arith, ints, i.after_left);
          before_right = omega (arith, ints, i.before_right);
          after_top = omega (arith, ints, i.after_top);
          before_bottom = omega (arith, ints, i.before_bottom);
        })

    frame-covers : covers place (sized w h) column row ≡ true
    frame-covers =
        ap (λ b. b && is_in (shifted (sized w h) o.origin) (pos column) (pos row)) (is_in-true (desktop d) (pos column) (pos row) on)
        ∙ is_in-true (shifted (sized w h) o.origin) (pos column) (pos row) own-rect

    frame-hides : (under other : Glyph) → cell_over (dialog_layers d o overwriting x) column row under ≡ cell_over (dialog_layers d o overwriting x) column row other
    frame-hides under other =
        covered-hides (flat_map (dialog_leaf d x o overwriting) (reverse (filter (is_visible x o.leaves) (leaf_list x.views)))) (Shadow place (sized w h) ∷ []) place w h
        (inlaid o.sheet w h (frame_face w h (dialog_head x).title (frame_look attribute_of owners.Dialog 0 true))) column row under other frame-covers

-- ---- the open dialog

module _ {V : Type 0} (look : V → Leaf) (d : Desc) (s : State) (dialogs : DialogsOf V) (are : AreDialogs look d s dialogs) where
  pub hidden-below : (k : Kept V) → Some k ≡ kept_at dialogs dialogs.open → (bounds r : Rect) → bounds ≡ dialog_bounds k.dialog → is_part r bounds ≡ true → is_part r (desktop d) ≡ true
      → HidesWithin r (open_layers d s.overwriting s.dialog)
  hidden-below k e bounds r at part on =
      let x = current-some look d s dialogs are k e in
      let o = x.o in
      let dialog = x.among.dialog in
      let overwriting = slice_index_or s.overwriting o.place [] in
      let same : open_layers d s.overwriting (Some o) ≡ dialog_layers d o overwriting dialog = rw x.among.there refl in
      let layers : open_layers d s.overwriting s.dialog ≡ dialog_layers d o overwriting dialog = ap (open_layers d s.overwriting) x.is ∙ same in
      let place : bounds ≡ rect o.origin.x o.origin.y dialog.node.w (dialog_head dialog).h =
      at ∙ ap (λ (y : Kept V). dialog_bounds y.dialog) (sym x.same) ∙ bounds-at x.among.kept.dialog o.origin x.among.corner
      ∙ sizes_are dialog.node dialog.node.kind dialog.own_kind x.among.kept.dialog.head x.among.stands.head o.origin
      ∙ ap (rect o.origin.x o.origin.y dialog.node.w) (dialog-tall dialog) in
      record {
        each = λ column row here under other.
            let i = is_in_true r (pos column) (pos row) here in
            subst (λ ls. cell_over ls column row under ≡ cell_over ls column row other) (sym layers)
            (frame-hides d o overwriting dialog column row (part-in r (desktop d) column row on i)
            (subst (λ q. IsIn q (pos column) (pos row)) place (part-in r bounds column row part i)) under other);
      }
