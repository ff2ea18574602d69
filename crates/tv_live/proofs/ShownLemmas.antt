-- What a terminal shows of a program's run, one moment more.
use Rattle.std.proofs.Common.{◌≡◌, ℕ, ◌≤◌, Bool, true, false, List, [], ◌∷◌, ◌++◌, get_or, drop, Option, Some, None, refl, sym, ap, subst, ◌∙◌, arith}
use Rattle.std.specs.Option.{unwrap_or}
use Rattle.std.proofs.lemmas.Bool.{leb-true}
use Rattle.tv_cells.specs.Picture.{IsOn, Picture}
use Rattle.tv_cells.specs.Rectangle.{sized}
use Rattle.tv_cells.specs.Repainting.{has_cell}
use Rattle.tv_io.specs.Writer.{Seen}
use Rattle.tv_io.specs.declared.pen.Pen.{Pen}
use Rattle.tv_io.proofs.WriterLemmas.{Takes-none}
use Rattle.tv_live.specs.Course.{Cause, Moment}
use Rattle.tv_live.specs.Shown.{BeginsSession, HasBeenShown, IsRestored, IsRightAfter, IsStretch, PaintsSession, ShowsEach, ShowsQuietly, is_whole, text, window_in}
use Rattle.tv_live.specs.declared.program.Next.{Next}
use Rattle.tv_machine.specs.Run.{Session}
use Rattle.tv_model.specs.Description.Numbers.{natural}
use Rattle.tv_model.specs.declared.desc.Desc.{Desc}
use Rattle.tv_play.specs.Notes.{FitsTold}
use Rattle.tv_play.specs.Shown.{HasSize, IsScreenPlace, ShowsSession, normal_of}
use Rattle.tv_play.proofs.CursorLemmas.{cursor-shown}
use Rattle.tv_play.proofs.ShownLemmas.{begun-shows, put-then}
use Rattle.tv_terminal.specs.Displays.{Becomes, HasSpace, tile_of}
use Rattle.tv_terminal.specs.Terminal.{Covered, Display, kept_of}
use Rattle.tv_terminal.specs.Writing.{Begun, Covers, IsRight, Painted, restored}
use Rattle.tv_terminal.specs.Written.{cursor_on}
use Rattle.tv_terminal.specs.declared.action.Size.{Size}
use Rattle.tv_terminal.specs.declared.colour.Colours.{Colours}
use Rattle.tv_terminal.specs.declared.painter.Painter.{Painter}
use Rattle.tv_terminal.proofs.DrawLemmas.{tells-as, tells-both, tells-then}
use Rattle.tv_terminal.proofs.PaintLemmas.{told-end, whole-rect}
use Rattle.tv_terminal.proofs.ToldLemmas.{and-left, and-right}

-- ---- lists

tail-is : {A : Type 0} (x y : A) (xs ys : List A) → x ∷ xs ≡ y ∷ ys → xs ≡ ys
tail-is x y xs ys e = ap (drop 1) e

head-is : {A : Type 0} (x y : A) (xs ys : List A) → x ∷ xs ≡ y ∷ ys → x ≡ y
head-is x y xs ys e = ap (λ l. get_or l 0 x) e

never : (b : Bool) → b ≡ true → b ≡ false → ⊥
never b one other = let both : true ≡ false = sym one ∙ other in absurd cc

-- ---- stretches, one moment more

module _ {P : Type 0} (colours : Colours) (d : Desc) (now : Moment P) (moments : List (Moment P)) (old new : Painter) (shows : ShowsEach colours d moments) (right : IsRightAfter d moments old) where
  abbrev After : Display → Display → Type 0
  After e g = ShowsQuietly colours now.session e g × IsRight new g

  module _ (next : (s : Session) (e f : Display) → natural d.width ≤ e.columns → natural d.height ≤ e.rows → FitsTold d now.size e → ShowsQuietly colours s e f → IsRight old f → Becomes now.bytes f (After e))
      (fresh : is_whole d now.cause ≡ true → (e : Display) → natural d.width ≤ e.columns → natural d.height ≤ e.rows → FitsTold d now.size e → Becomes now.bytes e (After e)) where
    at-last : (stretch before : List (Moment P)) → moments ≡ stretch ++ before → (e : Display) → IsStretch d e (now ∷ stretch) → Becomes (text (now ∷ stretch)) e (After e)
    at-last [] before is e s = fresh s.whole e s.across s.down s.fits.0
    at-last (n ∷ stretch) before is e s =
        let shorter : IsStretch d e (n ∷ stretch) = record { whole = s.whole; across = s.across; down = s.down; fits = s.fits.1 } in
        tells-then (text (n ∷ stretch)) (tells-both (shows.each n stretch before [] is e shorter) (right n stretch before is e shorter))
        (λ f law. next n.session e f s.across s.down s.fits.0 law.0 law.1)

    -- the last moment by another name
    last : (m : Moment P) (stretch before : List (Moment P)) → now ∷ moments ≡ m ∷ (stretch ++ before) → (e : Display) → IsStretch d e (m ∷ stretch)
        → Becomes (text (m ∷ stretch)) e (λ g. ShowsQuietly colours m.session e g × IsRight new g)
    last m stretch before is e s =
        let same : now ≡ m = head-is now m moments (stretch ++ before) is in
        subst (λ x. Becomes (text (x ∷ stretch)) e (λ g. ShowsQuietly colours x.session e g × IsRight new g)) same
        (at-last stretch before (tail-is now m moments (stretch ++ before) is) e (subst (λ x. IsStretch d e (x ∷ stretch)) (sym same) s))

    any : (m : Moment P) (stretch before after : List (Moment P)) → now ∷ moments ≡ after ++ m ∷ (stretch ++ before) → (e : Display) → IsStretch d e (m ∷ stretch) → Becomes (text (m ∷ stretch)) e (ShowsQuietly colours m.session e)
    any m stretch before [] is e s = tells-as (λ g law. law.0) (last m stretch before is e s)
    any m stretch before (a ∷ after) is e s = shows.each m stretch before after (tail-is now a moments (after ++ m ∷ (stretch ++ before)) is) e s

    pub shows-more : ShowsEach colours d (now ∷ moments)
    shows-more = record { each = any }

    pub right-more : IsRightAfter d (now ∷ moments) new
    right-more = λ m stretch before is e s. tells-as (λ g law. law.1) (last m stretch before is e s)

no-moments : {P : Type 0} (m : Moment P) (stretch before after : List (Moment P)) → [] ≡ after ++ m ∷ (stretch ++ before) → ⊥
no-moments m stretch before [] is = absurd cc
no-moments m stretch before (a ∷ after) is = absurd cc

-- before the first moment nothing is said
shows-none : {P : Type 0} (colours : Colours) (d : Desc) → ShowsEach {P = P} colours d []
shows-none colours d = record { each = λ m stretch before after is e s. absurd (no-moments m stretch before after is) }

right-none : {P : Type 0} (d : Desc) (painter : Painter) → IsRightAfter {P = P} d [] painter
right-none d painter = λ m stretch before is e s. absurd (no-moments m stretch before [] is)

-- ---- a screen

-- the whole screen lies in the window of a terminal that told that it has room
covers-told : (d : Desc) (size : Option Size) (window : Size) (p : Picture) (e : Display) → FitsTold d size e → window ≡ window_in d size → p.width ≡ natural d.width → p.height ≡ natural d.height → Covers window p
covers-told d None window p e fits is width height = rw is (record { across = omega (arith, width); down = omega (arith, height) })
covers-told d (Some size) window p e fits is width height =
    let room = fits.0 in
    let across : natural d.width ≤ size.columns = leb-true (natural d.width) size.columns (and-left _ _ room) in
    let down : natural d.height ≤ size.rows = leb-true (natural d.height) size.rows (and-right _ _ room) in
    rw is (record { across = omega (arith, width, across); down = omega (arith, height, down) })

-- so much is shown by what the terminal told
pub window-told : (d : Desc) (told : Option Size) (width height : ℕ) → width ≡ natural d.width → height ≡ natural d.height → unwrap_or told (record { columns = width; rows = height }) ≡ window_in d told
window-told d None width height wide high = rw (wide, high) refl
window-told d (Some size) width height wide high = refl

-- one session shows after another
shows-then : {colours : Colours} {s t : Session} {e f g : Display} → ShowsSession colours s e f → ShowsSession colours t f g → ShowsSession colours t e g
shows-then {colours} {s} {t} {e} {f} {g} before law = record {
  each = law.each;
  cursor = law.cursor;
  columns = law.columns ∙ before.columns;
  rows = law.rows ∙ before.rows;
  mouse = law.mouse;
  reports = law.reports;
  meta = law.meta;
  alt = law.alt;
  pastes = law.pastes;
  covered = law.covered ∙ ap (λ (o : Option Covered). Some (kept_of o f)) before.covered;
  lost = law.lost ∙ before.lost;
}

pub size-of : (d : Desc) (t : Session) (painter : Painter) → t.desc ≡ d → painter.shown.width ≡ natural d.width → painter.shown.height ≡ natural d.height → HasSize t painter
size-of d t painter same width height = record { width = width ∙ ap (λ (q : Desc). natural q.width) (sym same); height = height ∙ ap (λ (q : Desc). natural q.height) (sym same) }

same-width : (d e : Desc) → d ≡ e → natural d.width ≡ natural e.width
same-width d e same = ap (λ (q : Desc). natural q.width) same

same-height : (d e : Desc) → d ≡ e → natural d.height ≡ natural e.height
same-height d e same = ap (λ (q : Desc). natural q.height) same

module _ {P W : Type 0} {seen : W → Seen} (colours : Colours) (d : Desc) (cause : Cause) (next : Next) (program : P) (t : Session) (same : t.desc ≡ d) (size : Option Size) (moments : List (Moment P)) (from : Seen) {old new : Painter} {x z : Pen W} (still : old.colours ≡ colours) (width : old.shown.width ≡ natural d.width) (height : old.shown.height ≡ natural d.height) where
  -- ---- painted over what shows

  module _ (framed : old.window ≡ window_in d size) (p : PaintsSession seen t old new x z) where
    on-screen : {column row : ℕ} → IsScreenPlace t column row → IsOn p.screen column row
    on-screen on = record { across = omega (arith, on.across, p.is.width); down = omega (arith, on.down, p.is.height) }

    painted-shows : {s : Session} {e f g : Display} → ShowsSession new.colours s e f → Painted (λ column row. has_cell (sized p.screen.width p.screen.height ∷ []) column row ≡ true) p.screen (cursor_on p.screen.width p.screen.height p.cursor) new f g → ShowsSession new.colours t e g
    painted-shows {s} {e} {f} {g} law painted = record {
      each = λ column row on. painted.drawn.shows.inside column row (on-screen on) (whole-rect (sized p.screen.width p.screen.height) p.screen refl column row (on-screen on)) ∙ ap (tile_of new.colours) (p.is.cells.each column row (on-screen on));
      cursor = cursor-shown t p.screen p.is p.cursor p.finds g painted.points;
      columns = painted.drawn.stays.columns ∙ law.columns;
      rows = painted.drawn.stays.rows ∙ law.rows;
      mouse = painted.drawn.stays.mouse ∙ law.mouse;
      reports = painted.drawn.stays.reports ∙ law.reports;
      meta = painted.drawn.stays.meta ∙ law.meta;
      alt = painted.drawn.stays.alt ∙ law.alt;
      pastes = painted.drawn.stays.pastes ∙ law.pastes;
      covered = painted.drawn.stays.covered ∙ law.covered;
      lost = painted.drawn.stays.lost ∙ law.lost;
    }

    held : new.colours ≡ colours
    held = p.paints.colours ∙ still

    next-painted : (s : Session) (e f : Display) → natural d.width ≤ e.columns → natural d.height ≤ e.rows → FitsTold d size e → ShowsQuietly colours s e f → IsRight old f → Becomes p.paints.bytes f (λ g. ShowsQuietly colours t e g × IsRight new g)
    next-painted s e f across down fits law right =
        let space : HasSpace old.shown f = record { across = omega (arith, across, law.shows.columns, width); down = omega (arith, down, law.shows.rows, height) } in
        let before : ShowsSession new.colours s e f = subst (λ (c : Colours). ShowsSession c s e f) (sym held) law.shows in
        tells-as (λ g painted. (
          record { shows = subst (λ (c : Colours). ShowsSession c t e g) held (painted-shows before painted); bells = painted.drawn.stays.bells ∙ law.bells },
          painted.right,
        ))
        (p.paints.tells f (covers-told d size old.window old.shown e fits framed width height) space right)

    abbrev painted : Moment P
    painted = record { cause = cause; next = next; program = program; session = t; size = size; bytes = p.paints.bytes }

    pub shown-painted : is_whole d cause ≡ false → HasBeenShown colours d moments from (seen x.out.now) x.stopped old → HasBeenShown colours d (painted ∷ moments) from (seen z.out.now) z.stopped new
    shown-painted calm shown = record {
      same = held;
      shows = shows-more colours d painted moments old new shown.shows shown.right next-painted (λ whole e across down fits. absurd (never (is_whole d cause) whole calm));
      right = right-more colours d painted moments old new shown.shows shown.right next-painted (λ whole e across down fits. absurd (never (is_whole d cause) whole calm));
      put = put-then from (seen x.out.now) (seen z.out.now) x.stopped z.stopped (text moments) p.paints.bytes shown.put p.paints.puts.how;
    }

  -- ---- begun whatever shows

  module _ (p : BeginsSession seen t size old new x z) where
    kept : new.colours ≡ colours
    kept = p.begins.colours ∙ still

    space-for : {e : Display} → natural d.width ≤ e.columns → natural d.height ≤ e.rows → HasSpace p.screen e
    space-for across down = record { across = omega (arith, across, p.is.width, same-width t.desc d same); down = omega (arith, down, p.is.height, same-height t.desc d same) }

    covers-all : (e : Display) → FitsTold d size e → Covers (window_in t.desc size) p.screen
    covers-all e fits = covers-told d size (window_in t.desc size) p.screen e fits (ap (λ (q : Desc). window_in q size) same) (p.is.width ∙ same-width t.desc d same) (p.is.height ∙ same-height t.desc d same)

    begun : {f g : Display} → Begun p.screen (cursor_on p.screen.width p.screen.height p.cursor) new f g → ShowsSession colours t f g
    begun {f} {g} b = subst (λ (c : Colours). ShowsSession c t f g) kept (begun-shows t p.cursor p.is p.finds (size-of d t old same width height) p.begins b)

    fresh-begun : (e : Display) → natural d.width ≤ e.columns → natural d.height ≤ e.rows → FitsTold d size e → Becomes p.begins.bytes e (λ g. ShowsQuietly colours t e g × IsRight new g)
    fresh-begun e across down fits = tells-as (λ g b. (record { shows = begun b; bells = b.bells }, b.right)) (p.begins.tells e (covers-all e fits) (space-for across down))

    next-begun : (s : Session) (e f : Display) → natural d.width ≤ e.columns → natural d.height ≤ e.rows → FitsTold d size e → ShowsQuietly colours s e f → IsRight old f → Becomes p.begins.bytes f (λ g. ShowsQuietly colours t e g × IsRight new g)
    next-begun s e f across down fits law right =
        tells-as (λ g b. (record { shows = shows-then law.shows (begun b); bells = b.bells ∙ law.bells }, b.right))
        (p.begins.tells f (covers-all e fits) (space-for {e = f} (omega (arith, across, law.shows.columns)) (omega (arith, down, law.shows.rows))))

    abbrev begun-moment : Moment P
    begun-moment = record { cause = cause; next = next; program = program; session = t; size = size; bytes = p.begins.bytes }

    pub shown-begun : HasBeenShown colours d moments from (seen x.out.now) x.stopped old → HasBeenShown colours d (begun-moment ∷ moments) from (seen z.out.now) z.stopped new
    shown-begun shown = record {
      same = kept;
      shows = shows-more colours d begun-moment moments old new shown.shows shown.right next-begun (λ whole. fresh-begun);
      right = right-more colours d begun-moment moments old new shown.shows shown.right next-begun (λ whole. fresh-begun);
      put = put-then from (seen x.out.now) (seen z.out.now) x.stopped z.stopped (text moments) p.begins.bytes shown.put p.begins.puts.how;
    }

-- nothing was shown yet
pub shown-none : {P : Type 0} (colours : Colours) (d : Desc) (now : Seen) (painter : Painter) → painter.colours ≡ colours → HasBeenShown {P = P} colours d [] now now false painter
shown-none colours d now painter same = record { same = same; shows = shows-none colours d; right = right-none d painter; put = Takes-none now }

-- ---- the end

restored-is : (e f : Display) → f.columns ≡ e.columns → f.rows ≡ e.rows → f.is_lost ≡ e.is_lost → f.bells ≡ e.bells → restored (normal_of e) f ≡ restored (normal_of e) e
restored-is e f columns rows lost bells = rw (columns, rows, lost, bells) refl

pub restores : {P : Type 0} {colours : Colours} (d : Desc) (moments : List (Moment P)) → ShowsEach colours d moments → IsRestored d moments
restores {P} {colours} d moments shows = record {
  end = λ now stretch before is e s.
      tells-then (text (now ∷ stretch)) (shows.each now stretch before [] is e s) (λ f law. record {
        after = restored (normal_of e) f;
        is = told-end f (normal_of e) law.shows.covered;
        law = restored-is e f law.shows.columns law.shows.rows law.shows.lost law.bells;
      });
}
