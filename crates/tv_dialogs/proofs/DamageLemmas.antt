-- Where the open dialog shows otherwise, there it is to be painted again.
use Rattle.std.proofs.Common.{◌≡◌, ◌⊎◌, inl, inr, ℕ, pos, ◌-ℤ◌, Bool, true, false, List, [], ◌∷◌, ◌++◌, Some, None, option_map, refl, sym, ap, subst, ◌∙◌, arith}
use Rattle.std.specs.Bool.{then_some}
use Rattle.std.specs.Prelude.{slice_get, slice_index_or, slice_set}
use Rattle.std.proofs.lemmas.Int.{ints}
use Rattle.std.proofs.lemmas.Option.{slice_get_within, unwrap_or-slice_get}
use Rattle.tv_cells.specs.Canvas.{aside}
use Rattle.tv_cells.specs.Damage.{AddsAll, has, with_shadow}
use Rattle.tv_cells.specs.Glyph.{Glyph}
use Rattle.tv_cells.specs.Layers.{Layer, Shadow, ShowsSame, cell_over, is_in, over}
use Rattle.tv_cells.specs.Rectangle.{shifted}
use Rattle.tv_cells.specs.Repainting.{AreAlike, has_cell}
use Rattle.tv_cells.specs.declared.canvas.Canvas.{Canvas}
use Rattle.tv_cells.specs.declared.rect.Point.{Point}
use Rattle.tv_cells.specs.declared.rect.Rect.{Rect}
use Rattle.tv_cells.proofs.DamageLemmas.{has-left, has-one, has-right}
use Rattle.tv_cells.proofs.RepaintingLemmas.{over-append}
use Rattle.tv_model.specs.Description.Rectangles.{IsSmallRect}
use Rattle.tv_model.specs.declared.desc.Desc.{Desc}
use Rattle.tv_model.specs.declared.desc.Dialog.{Dialog}
use Rattle.tv_machine.specs.State.{OpenDialog, State}
use Rattle.tv_machine.specs.Dialog.Modal.{Modal}
use Rattle.tv_machine.specs.Screen.Layers.{dialog_layers, open_layers}
use Rattle.tv_machine.specs.Session.Dragging.{placed}
use Rattle.tv_machine.proofs.ListLemmas.{option_cases}
use Rattle.tv_laws.specs.Runs.{HasSoundDialogs}
use Rattle.tv_laws.proofs.WorkLemmas.{sound-at}
use Rattle.tv_palette.specs.Palettes.{application, dialog}
use Rattle.tv_palette.specs.declared.role.Owner.TheVariants as owners
use Rattle.tv_group.specs.Shown.{IsAtWork, desktop_canvas}
use Rattle.tv_view.specs.Damage.{IsDrawnAlike, has_seen}
use Rattle.tv_view.specs.Meaning.{Leaf}
use Rattle.tv_view.specs.declared.env.Env.{Env}
use Rattle.tv_view.proofs.DamageLemmas.{alike-more}
use Rattle.tv_dialog.specs.Bounds.{dialog_bounds, moved_dialog_rects}
use Rattle.tv_dialog.specs.Damage.{DialogDamages}
use Rattle.tv_dialog.specs.Drawn.{drawn_dialog}
use Rattle.tv_dialog.specs.declared.dialog.DialogOf.{DialogOf}
use Rattle.tv_view.proofs.OffLemmas.{damage-off}
use Rattle.tv_dialog.proofs.DamageLemmas.{dialog-outside}
use Rattle.tv_dialog.proofs.ShownLemmas.{dialog-shows}
use Rattle.tv_dialogs.specs.Damage.{HasShadowed, IsLentOpen, KeptDamages, Keeps, OpenAlike}
use Rattle.tv_dialogs.specs.Dialogs.{AreDialogs, IsOpenAmong, at_work}
use Rattle.tv_dialogs.specs.declared.kept.Kept.{Kept}
use Rattle.tv_dialogs.specs.declared.dialogs.DialogsOf.{DialogsOf}
use Rattle.tv_dialogs.proofs.CornerLemmas.{bounds-at, bounds-small}
use Rattle.tv_dialogs.proofs.PlaceLemmas.{get-set-same, nothing-some, same-some}

-- two rectangles have come in with their shadows: the first, and the second
left-shadowed : (r q : Rect) (old new : List Rect) → AddsAll (with_shadow r ++ with_shadow q) old new → HasShadowed r new
left-shadowed r q old new p = record {
  own = record { each = λ x y i. p.added x y (has-left (with_shadow r) (with_shadow q) x y (has-left (r ∷ []) (shifted r aside ∷ []) x y (has-one r x y i))) };
  shadow = record { each = λ x y i. p.added x y (has-left (with_shadow r) (with_shadow q) x y (has-right (r ∷ []) (shifted r aside ∷ []) x y (has-one (shifted r aside) x y i))) };
}

right-shadowed : (r q : Rect) (old new : List Rect) → AddsAll (with_shadow r ++ with_shadow q) old new → HasShadowed q new
right-shadowed r q old new p = record {
  own = record { each = λ x y i. p.added x y (has-right (with_shadow r) (with_shadow q) x y (has-left (q ∷ []) (shifted q aside ∷ []) x y (has-one q x y i))) };
  shadow = record { each = λ x y i. p.added x y (has-right (with_shadow r) (with_shadow q) x y (has-right (q ∷ []) (shifted q aside ∷ []) x y (has-one (shifted q aside) x y i))) };
}

-- a rectangle has come in with its shadow
pub shadowed-added : (r : Rect) (old new : List Rect) → AddsAll (with_shadow r) old new → HasShadowed r new
shadowed-added r old new p = record {
  own = record { each = λ x y i. p.added x y (has-left (r ∷ []) (shifted r aside ∷ []) x y (has-one r x y i)) };
  shadow = record { each = λ x y i. p.added x y (has-right (r ∷ []) (shifted r aside ∷ []) x y (has-one (shifted r aside) x y i)) };
}

-- ---- damage

-- a dialog that was handed an event, where the damage may have grown since
pub kept-damages : {V : Type 0} (look : V → Leaf) (d : Dialog) (env : Env) (old new : DialogOf V) (before mid after : List Rect) → DialogDamages look env old new before mid
    → Keeps mid after → IsLentOpen d env → KeptDamages look d old new after
kept-damages look d env old new before mid after told keeps lent = record {
  env = env;
  lent = lent;
  drawn = alike-more mid after (λ c. drawn_dialog look env c old) (λ c. drawn_dialog look env c new) keeps told.drawn;
}

-- ---- a dialog over its shadow

-- outside where it falls a shadow leaves each cell as it is
module _ (c : Canvas) (r : Rect) (column row : ℕ) (under : Glyph) (out : is_in (shifted (shifted r aside) c.origin) (pos column) (pos row) ≡ false) where
  unshaded : (b : Bool) → is_in c.clip (pos column) (pos row) ≡ b → over (Shadow c r) column row under ≡ under
  unshaded true clip = rw (clip, out) refl
  unshaded false clip = rw clip refl

  shadow-outside : over (Shadow c r) column row under ≡ under
  shadow-outside = unshaded (is_in c.clip (pos column) (pos row)) refl

-- the desktop is seen from the corner of the screen
seen-cell : (desc : Desc) (damage : List Rect) (column row : ℕ) → has_seen damage (desktop_canvas desc) column row ≡ has_cell damage column row
seen-cell desc damage column row =
    let across : pos column -ℤ pos 0 ≡ pos column = omega (arith, ints) in
    let down : pos row -ℤ pos 0 ≡ pos row = omega (arith, ints) in
    ap (λ x. has damage x (pos row -ℤ pos 0)) across ∙ ap (has damage (pos column)) down

module _ {V : Type 0} (look : V → Leaf) (desc : Desc) (env : Env) (damage : List Rect) (column row : ℕ) (off : has_cell damage column row ≡ false) (under : Glyph) where
  abbrev own_layers : DialogOf V → List Layer
  own_layers dialog = drawn_dialog look env (desktop_canvas desc) dialog

  abbrev shade : DialogOf V → Layer
  shade dialog = Shadow (desktop_canvas desc) (dialog_bounds dialog)

  unseen : has_seen damage (desktop_canvas desc) column row ≡ false
  unseen = seen-cell desc damage column row ∙ off

  pub block-alike : (old new : DialogOf V) → dialog_bounds new ≡ dialog_bounds old → IsDrawnAlike damage (λ c. drawn_dialog look env c old) (λ c. drawn_dialog look env c new)
      → cell_over (own_layers old ++ shade old ∷ []) column row under ≡ cell_over (own_layers new ++ shade new ∷ []) column row under
  block-alike old new bounds alike =
      over-append (own_layers old) (shade old ∷ []) column row under
      ∙ alike.each (desktop_canvas desc) column row unseen (over (shade old) column row under)
      ∙ ap (λ r. cell_over (own_layers new) column row (over (Shadow (desktop_canvas desc) r) column row under)) (sym bounds)
      ∙ sym (over-append (own_layers new) (shade new ∷ []) column row under)

  -- all of it is damaged
  block-outside : (dialog : DialogOf V) → HasShadowed (dialog_bounds dialog) damage → cell_over (own_layers dialog ++ shade dialog ∷ []) column row under ≡ under
  block-outside dialog all =
      let c = desktop_canvas desc in
      let r = dialog_bounds dialog in
      over-append (own_layers dialog) (shade dialog ∷ []) column row under
      ∙ dialog-outside look env c dialog column row (over (shade dialog) column row under) (damage-off r damage c column row all.own unseen)
      ∙ shadow-outside c r column row under (damage-off (shifted r aside) damage c column row all.shadow unseen)

-- ---- the open one

-- what the open dialog that is declared so may be lent
abbrev pub lent_open : Dialog → Env
lent_open d = record {
  owner = owners.Dialog;
  chain = record { ref_ptr = (0, 0); now = dialog ∷ application ∷ [] };
  views = record { ref_ptr = (0, 0); now = d.views };
  commands = record { ref_ptr = (0, 0); now = [] };
  focus = None;
  default_now = None;
  is_active = true;
}

pub is-lent : (d : Dialog) → IsLentOpen d (lent_open d)
is-lent d = record { views = refl; palettes = record { owner = refl; chain = refl }; active = refl }

module _ {V : Type 0} (look : V → Leaf) (d : Desc) (sound : HasSoundDialogs d) (s : State) (dialogs : DialogsOf V) (are : AreDialogs look d s dialogs)
    (o : OpenDialog) (is : s.dialog ≡ Some o) where
  abbrev among : IsOpenAmong look d s o dialogs.kept.items
  among = are.at o is

  -- it shows what the machine shows of it
  pub open-shows : (env : Env) → IsLentOpen among.dialog env
      → ShowsSame (drawn_dialog look env (desktop_canvas d) among.kept.dialog ++ Shadow (desktop_canvas d) (dialog_bounds among.kept.dialog) ∷ []) (open_layers d s.overwriting s.dialog)
  open-shows env lent =
      let x = among.dialog in
      let k = among.kept.dialog in
      let own = (sound-at d sound o.place x among.there).lawful in
      let overwriting = slice_index_or s.overwriting o.place [] in
      let m : Modal = at_work s o k.log.items in
      let work : IsAtWork o overwriting m = record { leaves = refl; focus = refl; overwriting_in = unwrap_or-slice_get s.overwriting o.place [] } in
      let same : open_layers d s.overwriting (Some o) ≡ dialog_layers d o overwriting x = rw among.there refl in
      subst (λ layers. ShowsSame (drawn_dialog look env (desktop_canvas d) k ++ Shadow (desktop_canvas d) (dialog_bounds k) ∷ []) layers)
      (sym (ap (open_layers d s.overwriting) is ∙ same))
      (dialog-shows look d x o overwriting m env k own among.stands
      (record { work = work; views = lent.views; palettes = lent.palettes; active = lent.active }) among.corner among.sheet (subst IsSmallRect (sym (bounds-at k o.origin among.corner)) (bounds-small x own k.head o.origin among.stands.head among.near)))

-- ---- what becomes of it

open-place : (b : Bool) (place other : ℕ) → then_some b place ≡ Some other → place ≡ other
open-place false place other e = absurd (nothing-some other e)
open-place true place other e = same-some place other e

open-then : (b : Bool) (place : ℕ) → then_some b place ≡ None → b ≡ false
open-then false place e = refl
open-then true place e = absurd (nothing-some place (sym e))

module _ {V : Type 0} (look : V → Leaf) (d : Desc) (sound : HasSoundDialogs d) (s t : State) (old new : DialogsOf V) (are : AreDialogs look d s old) (will : AreDialogs look d t new)
    (damage : List Rect) where
  -- a dialog opens where none was open
  module _ (none : s.dialog ≡ None) (place : ℕ) (after : Kept V) (found : slice_get new.kept.items place ≡ Some after) (opens : new.open ≡ Some place)
      (all : HasShadowed (dialog_bounds after.dialog) damage) where
    pub opened-alike : OpenAlike d damage s t
    opened-alike p =
        option_cases t.dialog (λ x. t.dialog ≡ x → AreAlike p damage (open_layers d s.overwriting s.dialog) (open_layers d t.overwriting t.dialog))
        (λ e is. absurd (nothing-some place (sym (sym opens ∙ will.place ∙ ap (option_map (λ o. o.place)) is))))
        (λ o e is.
        let x = will.at o is in
        let at : place ≡ o.place = same-some place o.place (sym opens ∙ will.place ∙ ap (option_map (λ o. o.place)) is) in
        let same : after ≡ x.kept = same-some after x.kept (sym found ∙ ap (slice_get new.kept.items) at ∙ x.found) in
        let env = lent_open x.dialog in
        let shows = open-shows look d sound t new will o is env (is-lent x.dialog) in
        record {
          each = λ column row on off under.
              ap (λ o. cell_over (open_layers d s.overwriting o) column row under) none
              ∙ sym (block-outside look d env damage column row off under x.kept.dialog (subst (λ k. HasShadowed (dialog_bounds k.dialog) damage) same all))
              ∙ shows.each column row under;
        })
        refl

  -- the open one has handled an event
  module _ (o : OpenDialog) (is : s.dialog ≡ Some o) (after : Kept V) where
    abbrev here : IsOpenAmong look d s o old.kept.items
    here = are.at o is

    module _ (written : new.kept.items ≡ slice_set old.kept.items o.place after) (opens : new.open ≡ then_some after.dialog.is_open o.place)
        (bounds : dialog_bounds after.dialog ≡ dialog_bounds here.kept.dialog) (told : KeptDamages look here.dialog here.kept.dialog after.dialog damage)
        (ended : after.dialog.is_open ≡ false → HasShadowed (dialog_bounds after.dialog) damage) where
      now_found : slice_get new.kept.items o.place ≡ Some after
      now_found =
          ap (λ xs. slice_get xs o.place) written ∙ get-set-same old.kept.items o.place after (slice_get_within old.kept.items o.place here.kept here.found)

      pub stepped-alike : OpenAlike d damage s t
      stepped-alike p =
          let env = told.env in
          let shows = open-shows look d sound s old are o is env told.lent in
          option_cases t.dialog (λ x. t.dialog ≡ x → AreAlike p damage (open_layers d s.overwriting s.dialog) (open_layers d t.overwriting t.dialog))
          (λ e gone.
          let shut = open-then after.dialog.is_open o.place (sym opens ∙ will.place ∙ ap (option_map (λ x. x.place)) gone) in
          let all = subst (λ r. HasShadowed r damage) bounds (ended shut) in
          record {
            each = λ column row on off under.
                sym (shows.each column row under)
                ∙ block-outside look d env damage column row off under here.kept.dialog all
                ∙ sym (ap (λ x. cell_over (open_layers d t.overwriting x) column row under) gone);
          })
          (λ q e going.
          let x = will.at q going in
          let at : o.place ≡ q.place = open-place after.dialog.is_open o.place q.place (sym opens ∙ will.place ∙ ap (option_map (λ y. y.place)) going) in
          let same : after ≡ x.kept = same-some after x.kept (sym now_found ∙ ap (slice_get new.kept.items) at ∙ x.found) in
          let declared : here.dialog ≡ x.dialog = same-some here.dialog x.dialog (sym here.there ∙ ap (slice_get d.dialogs) at ∙ x.there) in
          let later = open-shows look d sound t new will q going env (subst (λ y. IsLentOpen y env) declared told.lent) in
          record {
            each = λ column row on off under.
                sym (shows.each column row under)
                ∙ block-alike look d env damage column row off under here.kept.dialog after.dialog bounds told.drawn
                ∙ ap (λ (k : Kept V). cell_over (drawn_dialog look env (desktop_canvas d) k.dialog ++ Shadow (desktop_canvas d) (dialog_bounds k.dialog) ∷ []) column row under) same
                ∙ later.each column row under;
          })
          refl

-- ---- where it is moved

module _ {V : Type 0} (look : V → Leaf) (d : Desc) (sound : HasSoundDialogs d) (s : State) (old new : DialogsOf V) (are : AreDialogs look d s old)
    (o : OpenDialog) (is : s.dialog ≡ Some o) (corner : Point) (will : AreDialogs look d (placed (Some o) corner s) new) (before damage : List Rect) where
  abbrev moved_one : IsOpenAmong look d s o old.kept.items
  moved_one = are.at o is

  -- it stays
  unmoved-alike : o.origin ≡ corner → OpenAlike d damage s (placed (Some o) corner s)
  unmoved-alike same p = record {
    each = λ column row on off under.
        ap (λ x. cell_over (open_layers d s.overwriting x) column row under) (is ∙ ap (λ q. Some (record o { origin = q })) same);
  }

  -- it is damaged where it stood and where it stands
  module _ (after : Kept V) (found : slice_get new.kept.items o.place ≡ Some after)
      (all : AddsAll (moved_dialog_rects moved_one.kept.dialog after.dialog) before damage) where
    abbrev was_all : HasShadowed (dialog_bounds moved_one.kept.dialog) damage
    was_all = left-shadowed (dialog_bounds moved_one.kept.dialog) (dialog_bounds after.dialog) before damage all

    abbrev is_all : HasShadowed (dialog_bounds after.dialog) damage
    is_all = right-shadowed (dialog_bounds moved_one.kept.dialog) (dialog_bounds after.dialog) before damage all

    away-alike : OpenAlike d damage s (placed (Some o) corner s)
    away-alike p =
        let q : OpenDialog = record o { origin = corner } in
        let x = will.at q refl in
        let same : after ≡ x.kept = same-some after x.kept (sym found ∙ x.found) in
        let env = lent_open moved_one.dialog in
        let later = lent_open x.dialog in
        let shown = open-shows look d sound s old are o is env (is-lent moved_one.dialog) in
        let shows = open-shows look d sound (placed (Some o) corner s) new will q refl later (is-lent x.dialog) in
        record {
          each = λ column row on off under.
              sym (shown.each column row under)
              ∙ block-outside look d env damage column row off under moved_one.kept.dialog was_all
              ∙ sym (block-outside look d later damage column row off under x.kept.dialog (subst (λ k. HasShadowed (dialog_bounds k.dialog) damage) same is_all))
              ∙ shows.each column row under;
        }

  pub moved-alike : (after : Kept V) → slice_get new.kept.items o.place ≡ Some after
      → (moved_one.kept.dialog.corner ≡ corner) ⊎ AddsAll (moved_dialog_rects moved_one.kept.dialog after.dialog) before damage
      → OpenAlike d damage s (placed (Some o) corner s)
  moved-alike after found (inl same) = unmoved-alike (sym moved_one.corner ∙ same)
  moved-alike after found (inr all) = away-alike after found all
