-- What a dialog shows otherwise lies in its damage.
use Rattle.std.proofs.Common.{◌≡◌, ℕ, pos, false, List, ◌∷◌, [], ◌++◌, Option, sym, ap, subst, ◌∙◌}
use Rattle.tv_cells.specs.Damage.{Grows, HasAll, HasWithin}
use Rattle.tv_cells.specs.Canvas.{sub}
use Rattle.tv_cells.specs.Glyph.{Glyph}
use Rattle.tv_cells.specs.Layers.{Layer, Painted, cell_over, is_in}
use Rattle.tv_cells.specs.Picture.{Picture}
use Rattle.tv_cells.specs.Rectangle.{shifted}
use Rattle.tv_cells.specs.Sheets.{inlaid}
use Rattle.tv_cells.specs.declared.canvas.Canvas.{Canvas}
use Rattle.tv_cells.specs.declared.rect.Rect.{Rect}
use Rattle.tv_model.specs.Description.Numbers.{natural}
use Rattle.tv_model.specs.Description.Rectangles.{rect}
use Rattle.tv_model.specs.Screen.Faces.{FaceOf, FrameLook, frame_face, frame_look}
use Rattle.tv_palette.specs.Palettes.{colour_in}
use Rattle.tv_palette.specs.declared.role.Owner.TheVariants as owners
use Rattle.tv_view.specs.Damage.{AllDamages, AllDrawn, AllEnvDamages, IsDrawnAlike}
use Rattle.tv_view.specs.Drawing.{leaves_layers}
use Rattle.tv_view.specs.Meaning.{Leaf, Placed}
use Rattle.tv_view.specs.declared.env.Env.{Env}
use Rattle.tv_view.proofs.DamageLemmas.{alike-more, alike-then}
use Rattle.tv_group.specs.Opened.{group_bounds, opened}
use Rattle.tv_dialog.specs.Bounds.{dialog_bounds}
use Rattle.tv_dialog.specs.Damage.{BodyDrawn, DialogDamages, DialogEnvDamages}
use Rattle.tv_dialog.specs.Drawn.{drawn_dialog, lent}
use Rattle.tv_dialog.specs.Head.{KeptDialogHead}
use Rattle.tv_dialog.specs.declared.dialog.DialogOf.{DialogOf}
use Rattle.tv_dialog.proofs.AlikeLemmas.{all-drawn-of, all-drawn-then, framed-alike, framed-outside}
use Rattle.tv_view.proofs.OffLemmas.{damage-off}

-- where both environments are the same, nothing is drawn otherwise
pub told-none : (bounds : Rect) (old new : Env) (leaves : List Placed) (damage : List Rect) → old ≡ new → AllEnvDamages bounds old new leaves damage damage
told-none bounds old new leaves damage same = record {
  drawn = record { each = λ c column row e under. ap (λ (env : Env). cell_over (leaves_layers env c leaves) column row under) same };
  grown = record { kept = λ x y e. e; within = λ r h p. h };
}

module _ {V : Type 0} (look : V → Leaf) where
  -- ---- bodies

  -- one that a call changes
  pub body-called : (old new : DialogOf V) → new.head ≡ old.head → new.corner ≡ old.corner → new.sheet ≡ old.sheet → new.plan ≡ old.plan
      → AllDamages (group_bounds old.body) (opened look old.body) (opened look new.body) old.damage new.damage → BodyDrawn look old new
  body-called old new head corner sheet plan called = record {
    head = head;
    corner = corner;
    sheet = sheet;
    plan = plan;
    body = all-drawn-of (group_bounds old.body) (opened look old.body) (opened look new.body) old.damage new.damage called;
  }

  pub body-then : (old mid new : DialogOf V) → BodyDrawn look old mid → BodyDrawn look mid new → BodyDrawn look old new
  body-then old mid new p q = record {
    head = q.head ∙ p.head;
    corner = q.corner ∙ p.corner;
    sheet = q.sheet ∙ p.sheet;
    plan = q.plan ∙ p.plan;
    body = all-drawn-then (opened look old.body) (opened look mid.body) (opened look new.body) old.damage mid.damage new.damage p.body q.body;
  }

  -- ---- dialogs

  -- a frame with a sheet
  abbrev framed : KeptDialogHead → Option Picture → FrameLook → FaceOf
  framed head sheet seen = inlaid sheet (natural head.w) (natural head.h) (frame_face (natural head.w) (natural head.h) head.title seen)

  -- a dialog in a rectangle, with a head, a sheet and a frame's look
  abbrev shown : Rect → KeptDialogHead → Option Picture → FrameLook → Env → DialogOf V → Canvas → List Layer
  shown place head sheet seen env dialog c =
      leaves_layers env (sub c place) (opened look dialog.body)
      ++ Painted (sub c place) (natural head.w) (natural head.h) (framed head sheet seen) ∷ []

  abbrev seen_in : Env → FrameLook
  seen_in env = frame_look (colour_in env.chain.now) owners.Dialog 0 env.is_active

  -- outside its rectangle it draws nothing
  pub dialog-outside : (env : Env) (c : Canvas) (dialog : DialogOf V) (column row : ℕ) (under : Glyph)
      → is_in (shifted (dialog_bounds dialog) c.origin) (pos column) (pos row) ≡ false → cell_over (drawn_dialog look env c dialog) column row under ≡ under
  dialog-outside env c dialog column row under out =
      let head = dialog.head in
      framed-outside (lent dialog.plan dialog.focus env) (dialog_bounds dialog) (opened look dialog.body) (natural head.w) (natural head.h)
      (framed head dialog.sheet (seen_in env)) c column row under out

  -- the same head and corner have the same rectangle
  bounds-same : (old new : DialogOf V) → new.head ≡ old.head → new.corner ≡ old.corner → dialog_bounds new ≡ dialog_bounds old
  bounds-same old new head corner =
      ap (λ h. rect new.corner.x new.corner.y h.w h.h) head ∙ ap (λ p. rect p.x p.y old.head.w old.head.h) corner

  -- what its views show otherwise by an event and by what it lends them then
  pub dialog-damages : (env first last : Env) (old new : DialogOf V) (start mid inner before after : List Rect) (bounds : Rect)
      → new.head ≡ old.head → new.corner ≡ old.corner → new.sheet ≡ old.sheet
      → AllDrawn (opened look old.body) (opened look new.body) start mid → first ≡ lent old.plan old.focus env → last ≡ lent new.plan new.focus env
      → AllEnvDamages (group_bounds new.body) first last (opened look new.body) mid inner
      → bounds ≡ dialog_bounds new → HasWithin bounds inner after → Grows bounds before after → DialogDamages look env old new before after
  dialog-damages env first last old new start mid inner before after bounds head corner sheet body lends relends told is within grown =
      let xs = opened look old.body in
      let ys = opened look new.body in
      let place = dialog_bounds old in
      let same : dialog_bounds new ≡ place = bounds-same old new head corner in
      let at : bounds ≡ place = is ∙ same in
      let alike : IsDrawnAlike inner (λ c. leaves_layers first c xs) (λ c. leaves_layers last c ys) =
      alike-then inner (λ c. leaves_layers first c xs) (λ c. leaves_layers first c ys) (λ c. leaves_layers last c ys)
      (alike-more mid inner (λ c. leaves_layers first c xs) (λ c. leaves_layers first c ys) told.grown.kept (body.drawn first)) told.drawn in
      let same_frame : IsDrawnAlike after (shown place old.head old.sheet (seen_in env) first old) (shown place old.head old.sheet (seen_in env) last new) =
      framed-alike first last place xs ys (natural old.head.w) (natural old.head.h) (framed old.head old.sheet (seen_in env)) inner after
      (subst (λ r. HasWithin r inner after) at within) alike in
      record {
        drawn =
            subst (λ r. IsDrawnAlike after (λ c. drawn_dialog look env c old) (shown r new.head new.sheet (seen_in env) (lent new.plan new.focus env) new)) (sym same)
            (subst (λ h. IsDrawnAlike after (λ c. drawn_dialog look env c old) (shown place h new.sheet (seen_in env) (lent new.plan new.focus env) new)) (sym head)
            (subst (λ s. IsDrawnAlike after (λ c. drawn_dialog look env c old) (shown place old.head s (seen_in env) (lent new.plan new.focus env) new)) (sym sheet)
            (subst (λ e. IsDrawnAlike after (λ c. drawn_dialog look env c old) (shown place old.head old.sheet (seen_in env) e new)) relends
            (subst (λ e. IsDrawnAlike after (shown place old.head old.sheet (seen_in env) e old) (shown place old.head old.sheet (seen_in env) last new)) lends same_frame))));
        grown = subst (λ r. Grows r before after) at grown;
      }

  -- ---- with another sheet

  pub laid-drawn : (env : Env) (dialog : DialogOf V) (sheet : Option Picture) (damage : List Rect) → HasAll (dialog_bounds dialog) damage
      → IsDrawnAlike damage (λ c. drawn_dialog look env c dialog) (λ c. drawn_dialog look env c (record dialog { sheet = sheet }))
  laid-drawn env dialog sheet damage all = record {
    each = λ c column row off under.
        let out = damage-off (dialog_bounds dialog) damage c column row all off in
        dialog-outside env c dialog column row under out ∙ sym (dialog-outside env c (record dialog { sheet = sheet }) column row under out);
  }

  -- ---- under another environment

  module _ (old new : Env) (dialog : DialogOf V) (before after : List Rect) (bounds : Rect) (is : bounds ≡ dialog_bounds dialog) (grown : Grows bounds before after) where
    -- the frame looks the same
    pub views-told : seen_in new ≡ seen_in old → (first last : Env) (inner : List Rect)
        → first ≡ lent dialog.plan dialog.focus old → last ≡ lent dialog.plan dialog.focus new
        → AllEnvDamages (group_bounds dialog.body) first last (opened look dialog.body) [] inner → HasWithin bounds inner after
        → DialogEnvDamages look old new dialog before after
    views-told same first last inner lends relends told within =
        let head = dialog.head in
        let place = dialog_bounds dialog in
        let xs = opened look dialog.body in
        let sheet = dialog.sheet in
        let same_frame : IsDrawnAlike after (shown place head sheet (seen_in old) first dialog) (shown place head sheet (seen_in old) last dialog) =
        framed-alike first last place xs xs (natural head.w) (natural head.h) (framed head sheet (seen_in old)) inner after
        (subst (λ r. HasWithin r inner after) is within) told.drawn in
        record {
          drawn =
              subst (λ seen. IsDrawnAlike after (λ c. drawn_dialog look old c dialog) (shown place head sheet seen (lent dialog.plan dialog.focus new) dialog)) (sym same)
              (subst (λ e. IsDrawnAlike after (λ c. drawn_dialog look old c dialog) (shown place head sheet (seen_in old) e dialog)) relends
              (subst (λ e. IsDrawnAlike after (shown place head sheet (seen_in old) e dialog) (shown place head sheet (seen_in old) last dialog)) lends same_frame));
          grown = subst (λ r. Grows r before after) is grown;
        }

    -- the whole dialog is damaged
    pub whole-told : HasAll bounds after → DialogEnvDamages look old new dialog before after
    whole-told all = record {
      drawn = record {
        each = λ c column row off under.
            let out = damage-off (dialog_bounds dialog) after c column row (subst (λ r. HasAll r after) is all) off in
            dialog-outside old c dialog column row under out ∙ sym (dialog-outside new c dialog column row under out);
      };
      grown = subst (λ r. Grows r before after) is grown;
    }
