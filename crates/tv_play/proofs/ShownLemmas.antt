-- What a terminal shows, one action more.
use Rattle.std.proofs.Common.{◌≡◌, ℕ, ◌+◌, ◌-◌, ◌<◌, ◌≤◌, Bool, true, false, ◌⊎◌, inl, inr, List, [], ◌∷◌, ◌++◌, length, take, drop, Option, Some, None, is_some, refl, sym, ap, subst, ◌∙◌, arith, length-append}
use Rattle.std.specs.Prelude.{if◌then◌else◌}
use Rattle.std.specs.List.{concat}
use Rattle.std.specs.Option.{option_or}
use Rattle.std.proofs.lemmas.Bool.{cases_lt, both_ways, cases_Bool}
use Rattle.std.proofs.lemmas.List.{append-nil, drop-append-le, drop_all, take-append-le, take_all}
use Rattle.std.proofs.lemmas.List.Folds.{concat-append}
use Rattle.tv_terminal.specs.Displays.{Becomes, HasSpace, Stays, tile_of}
use Rattle.tv_terminal.specs.Written.{bell_bytes, cursor_on, end_bytes}
use Rattle.tv_terminal.specs.Terminal.{Covered, Display, ground, kept_of, rung, told}
use Rattle.tv_terminal.specs.Writing.{Begun, Covers, IsRight, Painted, Paints, BeginsScreen, bare, restored}
use Rattle.tv_terminal.specs.declared.action.Action.{Action}
use Rattle.tv_terminal.specs.declared.action.Action.TheVariants as variants
use Rattle.tv_terminal.specs.declared.action.Size.{Size}
use Rattle.tv_terminal.specs.declared.colour.Colours.{Colours}
use Rattle.tv_terminal.specs.declared.painter.Painter.{Painter}
use Rattle.tv_terminal.proofs.DrawLemmas.{on-alike, tells-as, tells-both, tells-then}
use Rattle.tv_terminal.proofs.NoteLemmas.{blank-tile}
use Rattle.tv_terminal.proofs.PaintLemmas.{told-end}
use Rattle.tv_cells.specs.Picture.{IsAlike, IsOn, Picture, cell_at}
use Rattle.tv_cells.specs.Repainting.{has_cell}
use Rattle.tv_cells.specs.declared.rect.Point.{Point}
use Rattle.tv_cells.specs.declared.rect.Rect.{Rect}
use Rattle.tv_event.specs.declared.event.Event.{Event}
use Rattle.tv_io.specs.Pen.{Puts, PutsBy}
use Rattle.tv_io.specs.Writer.{Cuts, Seen}
use Rattle.tv_io.specs.declared.pen.Pen.{Pen}
use Rattle.tv_io.proofs.PenLemmas.{Puts-along, Puts-then}
use Rattle.tv_io.proofs.WriterLemmas.{Cuts-after, Cuts-longer, Takes-then}
use Rattle.tv_machine.specs.Output.{screen_cell}
use Rattle.tv_machine.specs.Run.{Session, quiet, stepped}
use Rattle.tv_model.specs.Description.Numbers.{natural}
use Rattle.tv_model.specs.declared.desc.Desc.{Desc}
use Rattle.tv_play.specs.Cursor.{FindsCursor}
use Rattle.tv_play.specs.Edge.{brought}
use Rattle.tv_play.specs.Ends.{events_in, is_refreshing, reached}
use Rattle.tv_play.specs.Notes.{FitsTold, IsMonitorOf, Renotes, SaysClipped, ShowsNote, refusal_told, size_told, size_with, window_of}
use Rattle.tv_play.specs.Refusals.{refusal_of, refusals}
use Rattle.tv_play.specs.declared.monitor.Monitor.{Monitor}
use Rattle.tv_play.specs.declared.refusal.Refusal.{Refusal}
use Rattle.tv_play.specs.Shown.{HasRoom, HasSize, IsAsTold, IsScreenPlace, IsRestored, KeepsScreen, ShowsEach, ShowsFrames, ShowsSession, is_whole, normal_of, refusals_to}
use Rattle.tv_play.specs.Steps.{HasTaken, HasBeenShown}
use Rattle.tv_play.proofs.ActionLemmas.{desc-reached, reached-perform, reached-refresh, refusal-perform, refusal-refresh, refusals-perform, refusals-refresh, size-push, whole-before, whole-last}
use Rattle.tv_play.proofs.CursorLemmas.{cursor-shown}
use Rattle.tv_script.specs.Performed.{IsScreenOf}

-- ---- what was put

-- one text after another, where the first writer was going
pub put-then : (a b c : Seen) (t u : Bool) (x y : List ℕ) → PutsBy a false b t x → PutsBy b t c u y → PutsBy a false c u (x ++ y)
put-then a b c true true x y p q = subst (λ (n : Seen). Cuts a n (x ++ y)) (sym q.0) (Cuts-longer x y p)
put-then a b c true false x y p q = let clash : false ≡ true = q.1 in absurd cc
put-then a b c false true x y p q = Cuts-after x y p q
put-then a b c false false x y p q = Takes-then x y p q

-- nothing more was put
pub put-still : (a b c : Seen) (t u : Bool) (x : List ℕ) → PutsBy a false b t x → PutsBy b t c u [] → PutsBy a false c u x
put-still a b c t u x p q = rw append-nil at (put-then a b c t u x [] p q)

pub shown-still : {colours : Colours} (s : Session) (actions : List Action) (from screen screen' : Seen) (stop stop' : Bool) (monitor : Monitor) → HasBeenShown colours s actions from screen stop monitor → PutsBy screen stop screen' stop' [] → HasBeenShown colours s actions from screen' stop' monitor
shown-still s actions from screen screen' stop stop' monitor shown put = record {
  frames = shown.frames;
  same = shown.same;
  told = shown.told;
  window = shown.window;
  noted = shown.noted;
  shows = shown.shows;
  put = put-still from screen screen' stop stop' (concat shown.frames) shown.put put;
  taken = shown.taken;
  right = shown.right;
}

concat-push : (frames : List (List ℕ)) (b : List ℕ) → concat (frames ++ b ∷ []) ≡ concat frames ++ b
concat-push frames b = concat-append frames (b ∷ []) ∙ ap (λ (x : List ℕ). concat frames ++ x) (append-nil b)

-- ---- sizes

pub same-width : (s : Session) (actions : List Action) → natural (reached s actions).desc.width ≡ natural s.desc.width
same-width s actions = ap (λ (d : Desc). natural d.width) (desc-reached s actions)

pub same-height : (s : Session) (actions : List Action) → natural (reached s actions).desc.height ≡ natural s.desc.height
same-height s actions = ap (λ (d : Desc). natural d.height) (desc-reached s actions)

-- ---- frames, one more

-- from each frame that paints the whole screen, a terminal that is told them shows what a painter takes it to show
abbrev pub RightFrom : (s : Session) → List Action → List (List ℕ) → Painter → Type 0
RightFrom s actions frames painter =
    (d : Display) → HasRoom s d → (j : ℕ) → IsAsTold s actions j (length actions) d → is_whole s.desc actions j ≡ true → j ≤ length actions → Becomes (concat (drop j frames)) d (IsRight painter)

-- an action more, and a frame that a terminal shows that showed the last one, and any terminal where it paints
-- the whole screen
module _ (colours : Colours) (s : Session) (actions : List Action) (a : Action) (old new : Painter) (frames : List (List ℕ)) (b : List ℕ) (shows : ShowsEach colours s actions frames) (right : RightFrom s actions frames old) where
  abbrev n : ℕ
  n = length actions

  abbrev more : List Action
  more = actions ++ a ∷ []

  abbrev longer : List (List ℕ)
  longer = frames ++ b ∷ []

  abbrev Next : (j : ℕ) → Display → Display → Type 0
  Next j d g = ShowsFrames colours s more j (n + 1) d g × IsRight new g

  taken-before : (i : ℕ) → i ≤ n → take i more ≡ take i actions
  taken-before i le = take-append-le i actions (a ∷ []) le

  taken-last : take (n + 1) more ≡ more
  taken-last = take_all (n + 1) more (omega (arith, length-append actions (a ∷ [])))

  told-before : (j k : ℕ) → k ≤ n → (d : Display) → IsAsTold s more j k d → IsAsTold s actions j k d
  told-before j k le d told = λ i from to. subst (λ x. FitsTold s.desc (size_told x) d) (taken-before i (omega (arith, to, le))) (told i from to)

  told-fewer : (j k l : ℕ) → l ≤ k → (d : Display) → IsAsTold s more j k d → IsAsTold s more j l d
  told-fewer j k l le d told = λ i from to. told i from (omega (arith, to, le))

  told-last : (j : ℕ) → j ≤ n + 1 → (d : Display) → IsAsTold s more j (n + 1) d → FitsTold s.desc (size_told more) d
  told-last j le d told = subst (λ x. FitsTold s.desc (size_told x) d) taken-last (told (n + 1) le (omega arith))

  module _ (next : (d f : Display) → HasRoom s d → FitsTold s.desc (size_told more) d → (j : ℕ) → j ≤ n → ShowsFrames colours s actions j n d f → IsRight old f → Becomes b f (Next j d))
      (fresh : is_refreshing s.desc a ≡ true → (d : Display) → HasRoom s d → FitsTold s.desc (size_told more) d → Becomes b d (Next (n + 1) d)) where
    shows-last : (d : Display) → HasRoom s d → (j : ℕ) → IsAsTold s actions j n d → is_whole s.desc actions j ≡ true → j ≤ n → Becomes (concat (drop j frames)) d (ShowsFrames colours s actions j n d)
    shows-last d room j told whole le =
        let all : take (n + 1) frames ≡ frames = take_all (n + 1) frames (omega (arith, shows.count)) in
        rw all at (shows.each d room j n told whole le (omega arith))

    from-before : (d : Display) → HasRoom s d → (j : ℕ) → IsAsTold s more j (n + 1) d → is_whole s.desc actions j ≡ true → j ≤ n → Becomes (concat (drop j longer)) d (Next j d)
    from-before d room j told whole le =
        let so_far : IsAsTold s actions j n d = told-before j n (omega arith) d (told-fewer j (n + 1) n (omega arith) d told) in
        let split : drop j longer ≡ drop j frames ++ b ∷ [] = drop-append-le j frames (b ∷ []) (omega (arith, shows.count)) in
        rw (split, concat-push (drop j frames) b)
        (tells-then (concat (drop j frames)) (tells-both (shows-last d room j so_far whole le) (right d room j so_far whole le))
        (λ f law. next d f room (told-last j (omega (arith, le)) d told) j le law.0 law.1))

    from-here : is_refreshing s.desc a ≡ true → (d : Display) → HasRoom s d → IsAsTold s more (n + 1) (n + 1) d → Becomes (concat (drop (n + 1) longer)) d (Next (n + 1) d)
    from-here is d room told =
        let split : drop (n + 1) longer ≡ b ∷ [] =
        drop-append-le (n + 1) frames (b ∷ []) (omega (arith, shows.count)) ∙ ap (λ x. x ++ b ∷ []) (drop_all (n + 1) frames (omega (arith, shows.count))) in
        rw (split, append-nil b) (fresh is d room (told-last (n + 1) (omega arith) d told))

    from-any : (d : Display) → HasRoom s d → (j : ℕ) → IsAsTold s more j (n + 1) d → is_whole s.desc more j ≡ true → j ≤ n + 1 → (j < n + 1) ⊎ (n + 1 ≤ j) → Becomes (concat (drop j longer)) d (Next j d)
    from-any d room j told whole le (inl few) = from-before d room j told (sym (whole-before s.desc actions a j (omega arith)) ∙ whole) (omega arith)
    from-any d room j told whole le (inr all) =
        let last : n + 1 ≡ j = omega arith in
        subst (λ x. Becomes (concat (drop x longer)) d (Next x d)) last (from-here (sym (whole-last s.desc actions a) ∙ ap (is_whole s.desc more) last ∙ whole) d room (subst (λ x. IsAsTold s more x (n + 1) d) (sym last) told))

    frames-before : (j k : ℕ) → j ≤ n → k ≤ n → (d e : Display) → ShowsFrames colours s actions j k d e → ShowsFrames colours s more j k d e
    frames-before j k few less d e law =
        let first : take j more ≡ take j actions = take-append-le j actions (a ∷ []) few in
        let last : take k more ≡ take k actions = take-append-le k actions (a ∷ []) less in
        record { shows = rw last law.shows; note = rw last law.note; bells = rw (first, last) law.bells }

    shows-at : (d : Display) → HasRoom s d → (j k : ℕ) → IsAsTold s more j k d → is_whole s.desc more j ≡ true → j ≤ k → k ≤ n + 1 → (k < n + 1) ⊎ (n + 1 ≤ k) → Becomes (concat (drop j (take (k + 1) longer))) d (ShowsFrames colours s more j k d)
    shows-at d room j k told whole le most (inl few) =
        let front : take (k + 1) longer ≡ take (k + 1) frames = take-append-le (k + 1) frames (b ∷ []) (omega (arith, shows.count)) in
        rw front
        (tells-as (frames-before j k (omega arith) (omega arith) d)
        (shows.each d room j k (told-before j k (omega arith) d told) (sym (whole-before s.desc actions a j (omega arith)) ∙ whole) le (omega arith)))
    shows-at d room j k told whole le most (inr all) =
        let last : n + 1 ≡ k = omega arith in
        let front : take (k + 1) longer ≡ longer = take_all (k + 1) longer (omega (arith, length-append frames (b ∷ []), shows.count)) in
        rw front
        (subst (λ x. Becomes (concat (drop j longer)) d (ShowsFrames colours s more j x d)) last
        (tells-as (λ g law. law.0) (from-any d room j (subst (λ x. IsAsTold s more j x d) (sym last) told) whole (omega arith) (cases_lt j (n + 1)))))

    pub shows-more : ShowsEach colours s more longer
    shows-more = record {
      count = omega (arith, length-append frames (b ∷ []), length-append actions (a ∷ []), shows.count);
      each = λ d room j k told whole le most. shows-at d room j k told whole le (omega (arith, length-append actions (a ∷ []))) (cases_lt k (n + 1));
    }

    pub right-more : RightFrom s more longer new
    right-more = λ d room j told whole le.
        tells-as (λ g law. law.1) (from-any d room j (subst (λ x. IsAsTold s more j x d) (length-append actions (a ∷ [])) told) whole (omega (arith, length-append actions (a ∷ []))) (cases_lt j (n + 1)))

-- all of the actions
taken-all : (s : Session) (actions : List Action) → take (length actions) actions ≡ actions
taken-all s actions = take_all (length actions) actions (omega arith)

taken-more : (s : Session) (actions : List Action) (a : Action) → take (length actions + 1) (actions ++ a ∷ []) ≡ actions ++ a ∷ []
taken-more s actions a = take_all (length actions + 1) (actions ++ a ∷ []) (omega (arith, length-append actions (a ∷ [])))

never : (b : Bool) → b ≡ true → b ≡ false → ⊥
never b one other = let both : true ≡ false = sym one ∙ other in absurd cc

-- ---- the bell

abbrev pub ringing : Bool → List ℕ
ringing true = bell_bytes
ringing false = []

abbrev rung_if : Bool → Display → Display
rung_if true d = rung d
rung_if false d = d

told-ringing : (r : Bool) (d : Display) → told (ground d) (ringing r) ≡ ground (rung_if r d)
told-ringing true d = refl
told-ringing false d = refl

rung-shows : {colours : Colours} (t : Session) (r : Bool) (d g : Display) → ShowsSession colours t d g → ShowsSession colours t d (rung_if r g)
rung-shows t true d g law = record {
  each = law.each;
  cursor = record { shown = law.cursor.shown; hidden = law.cursor.hidden };
  columns = law.columns;
  rows = law.rows;
  mouse = law.mouse;
  reports = law.reports;
  meta = law.meta;
  alt = law.alt;
  pastes = law.pastes;
  covered = law.covered;
  lost = law.lost;
}
rung-shows t false d g law = law

rung-right : (painter : Painter) (r : Bool) (g : Display) → IsRight painter g → IsRight painter (rung_if r g)
rung-right painter true g law = record {
  shows = λ known. let q = law.shows known in record { room = record { across = q.room.across; down = q.room.down }; each = q.each };
  knows = record { stands = law.knows.stands; writes = law.knows.writes };
  cursor = law.cursor;
}
rung-right painter false g law = law

rung-cells : (r : Bool) (g : Display) (column row : ℕ) → (rung_if r g).cells column row ≡ g.cells column row
rung-cells true g column row = refl
rung-cells false g column row = refl

rung-bells : (r : Bool) (g : Display) → (rung_if r g).bells ≡ g.bells + (if r then 1 else 0)
rung-bells true g = refl
rung-bells false g = omega arith

-- ---- the note

pub none-is : (o : Option Refusal) → is_some o ≡ false → o ≡ None
none-is None e = refl
none-is (Some refusal) e = absurd cc

fits-along : (desc : Desc) (size : Option Size) (d f : Display) → FitsTold desc size d → f.columns ≡ d.columns → f.rows ≡ d.rows → FitsTold desc size f
fits-along desc None d f fits columns rows = tt
fits-along desc (Some size) d f fits columns rows = (fits.0, omega (arith, fits.1, columns), omega (arith, fits.2, rows))

-- the whole screen lies in the window of a terminal that told that it has room
pub covers-told : (desc : Desc) (size : Option Size) (window : Size) (p : Picture) (d : Display) → FitsTold desc size d → window ≡ window_of desc size → p.width ≡ natural desc.width → p.height ≡ natural desc.height → Covers window p
covers-told desc None window p d fits is wide high = rw is (record { across = omega (arith, wide); down = omega (arith, high) })
covers-told desc (Some size) window p d fits is wide high = rw (is, fits.0) (record { across = omega (arith, wide); down = omega (arith, high) })

note-along : (d : Desc) (size : Option Size) (refusal : Option Refusal) (m g : Display) → ((column : ℕ) → g.cells column (natural d.height) ≡ m.cells column (natural d.height)) → ShowsNote d size refusal m → ShowsNote d size refusal g
note-along d None refusal m g same note = tt
note-along d (Some size) refusal m g same note = λ has. let shown = note has in record { line = shown.line; said = shown.said; row = λ column. same column ∙ shown.row column }

-- a row with nothing on it says nothing
pub blank-note : (d : Desc) (size : Option Size) (g : Display) → ((column : ℕ) → g.cells column (natural d.height) ≡ bare) → ShowsNote d size None g
blank-note d None g blank = tt
blank-note d (Some size) g blank = λ has. record { line = []; said = refl; row = λ column. blank column ∙ blank-tile (size.columns - 1) column }

-- the size that an action tells, or else the one before
pub size-or : (was : Option Size) (a : Action) → option_or (size_with None a) was ≡ size_with was a
size-or was (variants.Event e) = refl
size-or was variants.Quit = refl
size-or was variants.Ready = refl
size-or was (variants.Resized size) = refl

-- ---- one event more

module _ (s : Session) (actions : List Action) (e : Event) (calm : is_refreshing s.desc (variants.Event e) ≡ false) where
  abbrev pub before : Session
  before = reached s actions

  abbrev pub now : Session
  now = stepped (reached s actions) (brought s.desc e)

  same-place : {column row : ℕ} → IsScreenPlace now column row → IsScreenPlace before column row
  same-place on = record { across = on.across; down = on.down }

  module _ {screen : Picture} {rects : List Rect} (cursor : Option Point) (is : IsScreenOf now screen) (finds : FindsCursor screen cursor) (keeps : KeepsScreen rects before now) where
    -- a column and a row of one are those of the other
    on-picture : {column row : ℕ} → IsScreenPlace now column row → IsOn screen column row
    on-picture on = record { across = omega (arith, on.across, is.width); down = omega (arith, on.down, is.height) }

    cell-now : {column row : ℕ} → IsScreenPlace now column row → cell_at screen column row ≡ screen_cell now column row
    cell-now {column} {row} on = is.cells.each column row (on-picture on)

    module _ {new : Painter} {d f m g : Display} (law : ShowsSession new.colours before d f) (above : (column row : ℕ) → row < natural now.desc.height → m.cells column row ≡ f.cells column row) (steady : Stays f m)
        (painted : Painted (λ column row. has_cell rects column row ≡ true) screen (cursor_on screen.width screen.height cursor) new m g) where
      shown-cell : (column row : ℕ) → IsScreenPlace now column row → (has_cell rects column row ≡ true) ⊎ (has_cell rects column row ≡ false) → g.cells column row ≡ tile_of new.colours (screen_cell now column row)
      shown-cell column row on (inl here) = painted.drawn.shows.inside column row (on-picture on) here ∙ ap (tile_of new.colours) (cell-now on)
      shown-cell column row on (inr apart) =
          painted.drawn.shows.outside column row (both_ways (has_cell rects column row) apart)
          ∙ above column row on.down
          ∙ law.each column row (same-place on) ∙ ap (tile_of new.colours) (sym (keeps.each column row (same-place on) apart))

      shows-now : ShowsSession new.colours now d g
      shows-now = record {
        each = λ column row on. shown-cell column row on (cases_Bool (has_cell rects column row));
        cursor = cursor-shown now screen is cursor finds g painted.points;
        columns = painted.drawn.stays.columns ∙ steady.columns ∙ law.columns;
        rows = painted.drawn.stays.rows ∙ steady.rows ∙ law.rows;
        mouse = painted.drawn.stays.mouse ∙ steady.mouse ∙ law.mouse;
        reports = painted.drawn.stays.reports ∙ steady.reports ∙ law.reports;
        meta = painted.drawn.stays.meta ∙ steady.meta ∙ law.meta;
        alt = painted.drawn.stays.alt ∙ steady.alt ∙ law.alt;
        pastes = painted.drawn.stays.pastes ∙ steady.pastes ∙ law.pastes;
        covered = painted.drawn.stays.covered ∙ steady.covered ∙ law.covered;
        lost = painted.drawn.stays.lost ∙ steady.lost ∙ law.lost;
      }

    module _ {W : Type 0} {seen : W → Seen} {colours : Colours} {old mid new : Monitor} {a x z : Pen W} {refusal : Option Refusal}
        (still : old.painter.colours ≡ colours) (told : old.size ≡ size_told actions) (framed : old.painter.window ≡ window_of s.desc old.size) (was_noted : old.is_noted ≡ is_some (refusal_told s actions)) (taken : HasTaken before old.painter)
        (refused : refusal ≡ refusal_of before now (brought s.desc e)) (n : Renotes seen s.desc refusal old mid a x)
        (p : Paints seen (λ column row. has_cell rects column row ≡ true) screen (cursor_on screen.width screen.height cursor) mid.painter new.painter x z)
        (size : new.size ≡ mid.size) (noted : new.is_noted ≡ mid.is_noted) where
      taken-mid : HasTaken before mid.painter
      taken-mid = record {
        known = n.known ∙ taken.known;
        size = record { width = ap (λ (q : Picture). q.width) n.shown ∙ taken.size.width; height = ap (λ (q : Picture). q.height) n.shown ∙ taken.size.height };
        each = λ column row on. rw n.shown (taken.each column row (rw n.shown at on));
      }

      taken-cell : (column row : ℕ) → IsOn new.painter.shown column row → (has_cell rects column row ≡ true) ⊎ (has_cell rects column row ≡ false) → cell_at new.painter.shown column row ≡ screen_cell now column row
      taken-cell column row on which =
          let on-old : IsOn mid.painter.shown column row = record { across = omega (arith, on.across, p.changes.size.width); down = omega (arith, on.down, p.changes.size.height) } in
          let on-before : IsScreenPlace before column row = record { across = omega (arith, on-old.across, taken-mid.size.width); down = omega (arith, on-old.down, taken-mid.size.height) } in
          elim which [
            | inl within_it ↦ p.changes.inside column row on-old within_it ∙ cell-now (record { across = on-before.across; down = on-before.down })
            | inr off_it ↦ p.changes.outside column row on-old (both_ways (has_cell rects column row) off_it) ∙ taken-mid.each column row on-old ∙ sym (keeps.each column row on-before off_it)
          ]

      taken-now : HasTaken now new.painter
      taken-now = record {
        known = p.known ∙ taken-mid.known;
        size = record { width = p.changes.size.width ∙ taken-mid.size.width; height = p.changes.size.height ∙ taken-mid.size.height };
        each = λ column row on. taken-cell column row on (cases_Bool (has_cell rects column row));
      }

      abbrev with_event : List Action
      with_event = actions ++ variants.Event e ∷ []

      -- what is known of the terminal then
      size-more : new.size ≡ size_told with_event
      size-more = size ∙ n.size ∙ told ∙ sym (size-push None actions (variants.Event e))

      refusal-more : refusal ≡ refusal_told s with_event
      refusal-more = refused ∙ sym (refusal-perform s actions e calm)

      window-more : new.painter.window ≡ window_of s.desc new.size
      window-more = p.window ∙ n.window ∙ framed ∙ ap (window_of s.desc) (sym (size ∙ n.size))

      noted-more : new.is_noted ≡ is_some (refusal_told s with_event)
      noted-more = noted ∙ n.noted ∙ ap (λ (o : Option Refusal). is_some o) refusal-more

      -- the note is written, the screen is painted, and the bell rings where an input refused the event
      abbrev frame : List ℕ
      frame = n.bytes ++ (p.bytes ++ ringing (is_some refusal))

      rings : (j : ℕ) → j ≤ length actions → (d f g : Display) → f.bells + refusals_to s actions j ≡ d.bells + refusals_to s actions (length actions) → g.bells ≡ f.bells
          → (rung_if (is_some refusal) g).bells + refusals_to s with_event j ≡ d.bells + refusals_to s with_event (length actions + 1)
      rings j few d f g so_far same =
          let first : refusals_to s with_event j ≡ refusals_to s actions j =
          ap (λ x. refusals s (events_in s.desc x)) (take-append-le j actions (variants.Event e ∷ []) few) in
          let last : refusals_to s with_event (length actions + 1) ≡ refusals s (events_in s.desc actions) + (if is_some refusal then 1 else 0) =
          ap (λ x. refusals s (events_in s.desc x)) (taken-more s actions (variants.Event e))
          ∙ refusals-perform s actions e calm
          ∙ ap (λ (o : Option Refusal). refusals s (events_in s.desc actions) + (if is_some o then 1 else 0)) (sym refused) in
          let all : refusals_to s actions (length actions) ≡ refusals s (events_in s.desc actions) = ap (λ x. refusals s (events_in s.desc x)) (taken-all s actions) in
          omega (arith, first, last, all, so_far, same, rung-bells (is_some refusal) g)

      fits-then : (d f : Display) → FitsTold s.desc (size_told with_event) d → f.columns ≡ d.columns → f.rows ≡ d.rows → FitsTold s.desc old.size f
      fits-then d f fits columns rows = fits-along s.desc old.size d f (subst (λ o. FitsTold s.desc o d) (size-push None actions (variants.Event e) ∙ sym told) fits) columns rows

      blank-then : (f : Display) → ShowsNote s.desc (size_told (take (length actions) actions)) (refusal_told s (take (length actions) actions)) f → old.is_noted ≡ false → ShowsNote s.desc old.size None f
      blank-then f note none =
          let nothing : refusal_told s actions ≡ None = none-is (refusal_told s actions) (sym was_noted ∙ none) in
          let all : ShowsNote s.desc (size_told actions) (refusal_told s actions) f = subst (λ x. ShowsNote s.desc (size_told x) (refusal_told s x) f) (taken-all s actions) note in
          subst (λ o. ShowsNote s.desc o None f) (sym told) (subst (λ o. ShowsNote s.desc (size_told actions) o f) nothing all)

      note-then : (m g : Display) → ShowsNote s.desc mid.size refusal m → ((column row : ℕ) → (has_cell rects column row ≡ true → ⊥) → g.cells column row ≡ m.cells column row)
          → ShowsNote s.desc (size_told (take (length actions + 1) with_event)) (refusal_told s (take (length actions + 1) with_event)) (rung_if (is_some refusal) g)
      note-then m g note rest =
          let below : (column : ℕ) → (rung_if (is_some refusal) g).cells column (natural s.desc.height) ≡ m.cells column (natural s.desc.height) =
          λ column.
          rung-cells (is_some refusal) g column (natural s.desc.height)
          ∙ rest column (natural s.desc.height) (λ here. let at = keeps.within column (natural s.desc.height) here in absurd (omega (arith, at.down, same-height s actions))) in
          let so_far : ShowsNote s.desc mid.size refusal (rung_if (is_some refusal) g) = note-along s.desc mid.size refusal m (rung_if (is_some refusal) g) below note in
          let sized : ShowsNote s.desc (size_told with_event) refusal (rung_if (is_some refusal) g) = subst (λ o. ShowsNote s.desc o refusal (rung_if (is_some refusal) g)) (sym size ∙ size-more) so_far in
          let said : ShowsNote s.desc (size_told with_event) (refusal_told s with_event) (rung_if (is_some refusal) g) = subst (λ o. ShowsNote s.desc (size_told with_event) o (rung_if (is_some refusal) g)) refusal-more sized in
          subst (λ x. ShowsNote s.desc (size_told x) (refusal_told s x) (rung_if (is_some refusal) g)) (sym (taken-more s actions (variants.Event e))) said

      next-shows : (d f : Display) → HasRoom s d → FitsTold s.desc (size_told with_event) d → (j : ℕ) → j ≤ length actions → ShowsFrames colours s actions j (length actions) d f → IsRight old.painter f
          → Becomes frame f (λ g. ShowsFrames colours s with_event j (length actions + 1) d g × IsRight new.painter g)
      next-shows d f room fits j few law right =
          let held : new.painter.colours ≡ colours = p.colours ∙ n.colours ∙ still in
          let shows : ShowsSession colours before d f = subst (λ x. ShowsSession colours (reached s x) d f) (taken-all s actions) law.shows in
          let shows-new : ShowsSession new.painter.colours before d f = subst (λ (c : Colours). ShowsSession c before d f) (sym held) shows in
          tells-then n.bytes (n.tells f (fits-then d f fits shows.columns shows.rows) right (blank-then f law.note)) (λ m renoted.
          let space : HasSpace mid.painter.shown m = record {
            across = omega (arith, room.across, shows.columns, renoted.stays.columns, taken-mid.size.width, same-width s actions);
            down = omega (arith, room.down, shows.rows, renoted.stays.rows, taken-mid.size.height, same-height s actions);
          } in
          let covers : Covers mid.painter.window mid.painter.shown =
          covers-told s.desc old.size mid.painter.window mid.painter.shown f (fits-then d f fits shows.columns shows.rows) (n.window ∙ framed) (taken-mid.size.width ∙ same-width s actions) (taken-mid.size.height ∙ same-height s actions) in
          tells-then p.bytes (p.tells m covers space renoted.right) (λ g painted.
          let above : (column row : ℕ) → row < natural now.desc.height → m.cells column row ≡ f.cells column row = λ column row lt. renoted.above column row (omega (arith, lt, same-height s actions)) in
          record {
            after = rung_if (is_some refusal) g;
            is = told-ringing (is_some refusal) g;
            law = (
              record {
                shows = subst (λ x. ShowsSession colours x d (rung_if (is_some refusal) g))
                    (sym (reached-perform s actions e calm) ∙ ap (reached s) (sym (taken-more s actions (variants.Event e))))
                    (rung-shows now (is_some refusal) d g (subst (λ (c : Colours). ShowsSession c now d g) held (shows-now shows-new above renoted.stays painted)));
                note = note-then m g renoted.note painted.drawn.shows.outside;
                bells = rings j few d f g law.bells (painted.drawn.stays.bells ∙ renoted.stays.bells);
              },
              rung-right new.painter (is_some refusal) g painted.right,
            );
          }))

      frame-put : {y : Pen W} (r : Bool) → is_some refusal ≡ r → Puts seen z y (ringing r) → Puts seen a y frame
      frame-put r is put = Puts-along (ap (λ q. n.bytes ++ (p.bytes ++ ringing q)) (sym is)) (Puts-then n.puts (Puts-then p.puts put))

      shown-more : {y : Pen W} (from : Seen) → HasBeenShown colours s actions from (seen a.out.now) a.stopped old → Puts seen a y frame
          → HasBeenShown colours s with_event from (seen y.out.now) y.stopped new
      shown-more {y} from shown put = record {
        frames = shown.frames ++ frame ∷ [];
        same = p.colours ∙ n.colours ∙ still;
        told = size-more;
        window = window-more;
        noted = noted-more;
        shows = shows-more colours s actions (variants.Event e) old.painter new.painter shown.frames frame shown.shows shown.right next-shows (λ asked. absurd (never (is_refreshing s.desc (variants.Event e)) asked calm));
        put = rw (concat-push shown.frames frame) (put-then from (seen a.out.now) (seen y.out.now) a.stopped y.stopped (concat shown.frames) frame shown.put put.how);
        taken = subst (λ u. HasTaken u new.painter) (sym (reached-perform s actions e calm)) taken-now;
        right = right-more colours s actions (variants.Event e) old.painter new.painter shown.frames frame shown.shows shown.right next-shows (λ asked. absurd (never (is_refreshing s.desc (variants.Event e)) asked calm));
      }

      pub shown-event : {y : Pen W} (r : Bool) → is_some refusal ≡ r → Puts seen z y (ringing r) → (from : Seen) → HasBeenShown colours s actions from (seen a.out.now) a.stopped old
          → HasBeenShown colours s with_event from (seen y.out.now) y.stopped new
      shown-event r is put from shown = shown-more from shown (frame-put r is put)

-- ---- the whole screen

module _ {W : Type 0} {seen : W → Seen} (t : Session) {screen : Picture} (cursor : Option Point) {old new : Painter} {x z : Pen W} (is : IsScreenOf t screen) (finds : FindsCursor screen cursor) (size : HasSize t old) {frame : Size} (p : BeginsScreen seen screen (cursor_on screen.width screen.height cursor) frame old new x z) where
  on-first : {column row : ℕ} → IsScreenPlace t column row → IsOn screen column row
  on-first on = record { across = omega (arith, on.across, is.width); down = omega (arith, on.down, is.height) }

  pub begun-shows : {d e : Display} → Begun screen (cursor_on screen.width screen.height cursor) new d e → ShowsSession new.colours t d e
  begun-shows {d} {e} b = record {
    each = λ column row on. b.shows.each column row (on-first on) ∙ ap (tile_of new.colours) (is.cells.each column row (on-first on));
    cursor = cursor-shown t screen is cursor finds e b.points;
    columns = b.columns;
    rows = b.rows;
    mouse = b.mouse;
    reports = b.reports;
    meta = b.meta;
    alt = b.alt;
    pastes = b.pastes;
    covered = b.covered;
    lost = b.lost;
  }

  pub begun-taken : HasTaken t new
  begun-taken = record {
    known = p.known;
    size = record { width = p.size.width ∙ size.width; height = p.size.height ∙ size.height };
    each = λ column row on.
        let here : IsScreenPlace t column row = record { across = omega (arith, on.across, p.size.width, size.width); down = omega (arith, on.down, p.size.height, size.height) } in
        p.taken column row (on-first here) ∙ is.cells.each column row (on-first here);
  }

  begun-note : {d e : Display} (told : Option Size) → Begun screen (cursor_on screen.width screen.height cursor) new d e → ShowsNote t.desc told None e
  begun-note {d} {e} told b = blank-note t.desc told e (λ column. b.beside column (natural t.desc.height) (λ on. absurd (omega (arith, on.down, is.height))))

  space : {d : Display} → natural t.desc.width ≤ d.columns → natural t.desc.height ≤ d.rows → HasSpace screen d
  space across down = record { across = omega (arith, across, is.width); down = omega (arith, down, is.height) }

  -- ---- the beginning

  first-each : Covers frame screen → (d : Display) → HasRoom t d → (j k : ℕ) → IsAsTold t [] j k d → is_whole t.desc [] j ≡ true → j ≤ k → k ≤ 0 → Becomes (concat (drop j (take (k + 1) (p.bytes ∷ [])))) d (ShowsFrames new.colours t [] j k d)
  first-each covers d room j k told whole le none =
      let first : j ≡ 0 = omega (arith, le, none) in
      let last : k ≡ 0 = omega (arith, none) in
      rw (first, last, append-nil p.bytes)
      (tells-as (λ e b. record { shows = begun-shows b; note = tt; bells = omega (arith, b.bells) }) (p.tells d covers (space room.across room.down)))

  first-right : Covers frame screen → (d : Display) → HasRoom t d → (j : ℕ) → IsAsTold t [] j 0 d → is_whole t.desc [] j ≡ true → j ≤ 0 → Becomes (concat (drop j (p.bytes ∷ []))) d (IsRight new)
  first-right covers d room j told whole none =
      let first : j ≡ 0 = omega (arith, none) in
      rw (first, append-nil p.bytes) (tells-as (λ e b. b.right) (p.tells d covers (space room.across room.down)))

  -- the frame is the window of a terminal that told nothing
  shown-begun : {mid : Monitor} → mid.painter ≡ new → mid.size ≡ None → mid.is_noted ≡ false → frame ≡ window_of t.desc None → x.stopped ≡ false
      → HasBeenShown old.colours t [] (seen x.out.now) (seen z.out.now) z.stopped mid
  shown-begun {mid} is_new untold unnoted framed going =
      let covers : Covers frame screen = rw framed (record { across = omega (arith, is.width); down = omega (arith, is.height) }) in
      record {
        frames = p.bytes ∷ [];
        same = ap (λ (q : Painter). q.colours) is_new ∙ p.colours;
        told = untold;
        window = ap (λ (q : Painter). q.window) is_new ∙ p.window ∙ framed ∙ ap (window_of t.desc) (sym untold);
        noted = unnoted;
        shows = subst (λ (c : Colours). ShowsEach c t [] (p.bytes ∷ [])) p.colours (record { count = refl; each = first-each covers });
        put = rw (append-nil p.bytes) (subst (λ (b : Bool). PutsBy (seen x.out.now) b (seen z.out.now) z.stopped p.bytes) going p.puts.how);
        taken = rw is_new begun-taken;
        right = rw is_new (first-right covers);
      }

  pub shown-first : {mid last : Monitor} {y : Pen W} → mid.painter ≡ new → mid.size ≡ None → mid.is_noted ≡ false → frame ≡ window_of t.desc None → SaysClipped seen mid last z y → x.stopped ≡ false
      → HasBeenShown old.colours t [] (seen x.out.now) (seen y.out.now) y.stopped last
  shown-first {mid} {last} {y} is_new untold unnoted framed c going =
      let covers : Covers mid.painter.window mid.painter.shown =
      rw is_new (rw (p.window, framed) (record { across = omega (arith, begun-taken.size.width); down = omega (arith, begun-taken.size.height) })) in
      let q = c.still covers in
      rw q.0 (shown-still t [] (seen x.out.now) (seen z.out.now) (seen y.out.now) z.stopped y.stopped mid (shown-begun is_new untold unnoted framed going) (rw q.1 at c.puts.how))

-- another painter that shows the same
taken-alike : {t : Session} {old new : Painter} → new.is_known ≡ old.is_known → IsAlike old.shown new.shown
    → ((column row : ℕ) → IsOn old.shown column row → cell_at new.shown column row ≡ cell_at old.shown column row) → HasTaken t old → HasTaken t new
taken-alike known alike cells taken = record {
  known = known ∙ taken.known;
  size = record { width = alike.width ∙ taken.size.width; height = alike.height ∙ taken.size.height };
  each = λ column row on.
      let before = on-alike alike on in
      cells column row before ∙ taken.each column row before;
}

-- ---- the whole screen again

loud-screen : (t : Session) (screen : Picture) → IsScreenOf (quiet t) screen → IsScreenOf t screen
loud-screen t screen is = record { width = is.width; height = is.height; cells = is.cells }

module _ {W : Type 0} {seen : W → Seen} (s : Session) (actions : List Action) (a : Action) (asked : is_refreshing s.desc a ≡ true) {screen : Picture} (cursor : Option Point) {old new : Painter} {x z : Pen W} (quietly : IsScreenOf (quiet (reached s actions)) screen) (finds : FindsCursor screen cursor) (loud : HasSize (reached s actions) old) {colours : Colours} (still : old.colours ≡ colours) {frame : Size} (p : BeginsScreen seen screen (cursor_on screen.width screen.height cursor) frame old new x z)
    (framed : frame ≡ window_of s.desc (size_told (actions ++ a ∷ []))) where
  abbrev shown-now : Session
  shown-now = reached s actions

  is-screen : IsScreenOf shown-now screen
  is-screen = loud-screen shown-now screen quietly

  same-session : shown-now ≡ reached s (take (length actions + 1) (actions ++ a ∷ []))
  same-session = sym (reached-refresh s actions a asked) ∙ ap (reached s) (sym (taken-more s actions a))

  same-refusals : refusals_to s (actions ++ a ∷ []) (length actions + 1) ≡ refusals s (events_in s.desc actions)
  same-refusals = ap (λ x. refusals s (events_in s.desc x)) (taken-more s actions a) ∙ refusals-refresh s actions a asked

  covers-all : (d : Display) → FitsTold s.desc (size_told (actions ++ a ∷ [])) d → Covers frame screen
  covers-all d fits = covers-told s.desc (size_told (actions ++ a ∷ [])) frame screen d fits framed (quietly.width ∙ same-width s actions) (quietly.height ∙ same-height s actions)

  room-for : (d f : Display) → HasRoom s d → f.columns ≡ d.columns → f.rows ≡ d.rows → HasSpace screen f
  room-for d f room columns rows = record {
    across = omega (arith, room.across, columns, quietly.width, same-width s actions);
    down = omega (arith, room.down, rows, quietly.height, same-height s actions);
  }

  -- what showed is shown again
  again : {d f g : Display} → ShowsSession colours shown-now d f → ShowsSession colours shown-now f g → ShowsSession colours shown-now d g
  again {d} {f} {g} before law = record {
    each = law.each;
    cursor = law.cursor;
    columns = law.columns ∙ before.columns;
    rows = law.rows ∙ before.rows;
    mouse = law.mouse;
    reports = law.reports;
    meta = law.meta;
    alt = law.alt;
    pastes = law.pastes;
    covered = law.covered ∙ ap (λ (o : Option Covered). Some (kept_of o f)) before.covered;
    lost = law.lost ∙ before.lost;
  }

  now-shows : {f g : Display} → Begun screen (cursor_on screen.width screen.height cursor) new f g → ShowsSession colours shown-now f g
  now-shows {f} {g} b = subst (λ (c : Colours). ShowsSession c shown-now f g) (p.colours ∙ still) (begun-shows shown-now cursor is-screen finds loud p b)

  note-again : {f g : Display} → Begun screen (cursor_on screen.width screen.height cursor) new f g
      → ShowsNote s.desc (size_told (take (length actions + 1) (actions ++ a ∷ []))) (refusal_told s (take (length actions + 1) (actions ++ a ∷ []))) g
  note-again {f} {g} b =
      let all = taken-more s actions a in
      let size = size_told (take (length actions + 1) (actions ++ a ∷ [])) in
      let nothing : None ≡ refusal_told s (take (length actions + 1) (actions ++ a ∷ [])) = sym (refusal-refresh s actions a asked) ∙ ap (refusal_told s) (sym all) in
      let blank : ShowsNote s.desc size None g = subst (λ (d : Desc). ShowsNote d size None g) (desc-reached s actions) (begun-note shown-now cursor is-screen finds loud p size b) in
      subst (λ o. ShowsNote s.desc size o g) nothing blank

  next-again : (d f : Display) → HasRoom s d → FitsTold s.desc (size_told (actions ++ a ∷ [])) d → (j : ℕ) → j ≤ length actions → ShowsFrames colours s actions j (length actions) d f → IsRight old f
      → Becomes p.bytes f (λ g. ShowsFrames colours s (actions ++ a ∷ []) j (length actions + 1) d g × IsRight new g)
  next-again d f room fits j few law right =
      let shows : ShowsSession colours shown-now d f = subst (λ x. ShowsSession colours (reached s x) d f) (taken-all s actions) law.shows in
      let first : refusals_to s (actions ++ a ∷ []) j ≡ refusals_to s actions j = ap (λ x. refusals s (events_in s.desc x)) (take-append-le j actions (a ∷ []) few) in
      let all : refusals_to s actions (length actions) ≡ refusals s (events_in s.desc actions) = ap (λ x. refusals s (events_in s.desc x)) (taken-all s actions) in
      tells-as (λ g b. (
        record {
          shows = subst (λ x. ShowsSession colours x d g) same-session (again shows (now-shows b));
          note = note-again b;
          bells = omega (arith, first, all, same-refusals, law.bells, b.bells);
        },
        b.right,
      )) (p.tells f (covers-all d fits) (room-for d f room shows.columns shows.rows))

  fresh-again : is_refreshing s.desc a ≡ true → (d : Display) → HasRoom s d → FitsTold s.desc (size_told (actions ++ a ∷ [])) d
      → Becomes p.bytes d (λ g. ShowsFrames colours s (actions ++ a ∷ []) (length actions + 1) (length actions + 1) d g × IsRight new g)
  fresh-again is d room fits =
      tells-as (λ g b. (
        record {
          shows = subst (λ x. ShowsSession colours x d g) same-session (now-shows b);
          note = note-again b;
          bells = omega (arith, b.bells);
        },
        b.right,
      )) (p.tells d (covers-all d fits) (room-for d d room refl refl))

  module _ {mid last : Monitor} {y : Pen W} (is_new : mid.painter ≡ new) (unnoted : mid.is_noted ≡ false) (c : SaysClipped seen mid last z y) where
    abbrev frame-bytes : List ℕ
    frame-bytes = p.bytes ++ c.bytes

    taken-again : HasTaken shown-now new
    taken-again = begun-taken shown-now cursor is-screen finds loud p

    -- where the terminal has room nothing is said
    covers-mid : (d : Display) → FitsTold s.desc (size_told (actions ++ a ∷ [])) d → Covers mid.painter.window mid.painter.shown
    covers-mid d fits =
        rw is_new (covers-told s.desc (size_told (actions ++ a ∷ [])) new.window new.shown d fits (p.window ∙ framed) (taken-again.size.width ∙ same-width s actions) (taken-again.size.height ∙ same-height s actions))

    abbrev Again : (j : ℕ) → Painter → Display → Display → Type 0
    Again j painter d g = ShowsFrames colours s (actions ++ a ∷ []) j (length actions + 1) d g × IsRight painter g

    unclipped : (d f : Display) → FitsTold s.desc (size_told (actions ++ a ∷ [])) d → (j : ℕ) → Becomes p.bytes f (Again j new d) → Becomes frame-bytes f (Again j last.painter d)
    unclipped d f fits j becomes =
        let q = c.still (covers-mid d fits) in
        subst (λ (w : List ℕ). Becomes w f (Again j last.painter d)) (sym (append-nil p.bytes) ∙ ap (λ (w : List ℕ). p.bytes ++ w) (sym q.1))
        (subst (λ (m : Painter). Becomes p.bytes f (Again j m d)) (sym (ap (λ (m : Monitor). m.painter) q.0 ∙ is_new)) becomes)

    next-said : (d f : Display) → HasRoom s d → FitsTold s.desc (size_told (actions ++ a ∷ [])) d → (j : ℕ) → j ≤ length actions → ShowsFrames colours s actions j (length actions) d f → IsRight old f
        → Becomes frame-bytes f (Again j last.painter d)
    next-said d f room fits j few law right = unclipped d f fits j (next-again d f room fits j few law right)

    fresh-said : is_refreshing s.desc a ≡ true → (d : Display) → HasRoom s d → FitsTold s.desc (size_told (actions ++ a ∷ [])) d → Becomes frame-bytes d (Again (length actions + 1) last.painter d)
    fresh-said is d room fits = unclipped d d fits (length actions + 1) (fresh-again is d room fits)

    pub shown-again : {first : Monitor} → first.painter ≡ old → mid.size ≡ option_or (size_with None a) first.size → (from : Seen) → HasBeenShown colours s actions from (seen x.out.now) x.stopped first → HasBeenShown colours s (actions ++ a ∷ []) from (seen y.out.now) y.stopped last
    shown-again {first} is_old sized from shown =
        let told : last.size ≡ size_told (actions ++ a ∷ []) = c.size ∙ sized ∙ size-or first.size a ∙ ap (λ o. size_with o a) shown.told ∙ sym (size-push None actions a) in
        let right = rw is_old at shown.right in
        record {
          frames = shown.frames ++ frame-bytes ∷ [];
          same = c.colours ∙ ap (λ (q : Painter). q.colours) is_new ∙ p.colours ∙ still;
          told = told;
          window = c.window ∙ ap (λ (q : Painter). q.window) is_new ∙ p.window ∙ framed ∙ ap (window_of s.desc) (sym told);
          noted = c.noted ∙ unnoted ∙ ap (λ (o : Option Refusal). is_some o) (sym (refusal-refresh s actions a asked));
          shows = shows-more colours s actions a old last.painter shown.frames frame-bytes shown.shows right next-said fresh-said;
          put = rw (concat-push shown.frames frame-bytes) (put-then from (seen x.out.now) (seen y.out.now) x.stopped y.stopped (concat shown.frames) frame-bytes shown.put (Puts-then p.puts c.puts).how);
          taken = taken-alike {old = mid.painter} c.known c.alike c.cells (rw is_new (subst (λ u. HasTaken u new) (sym (reached-refresh s actions a asked)) taken-again));
          right = right-more colours s actions a old last.painter shown.frames frame-bytes shown.shows right next-said fresh-said;
        }

-- ---- the end

restored-is : (d f : Display) → f.columns ≡ d.columns → f.rows ≡ d.rows → f.is_lost ≡ d.is_lost → record (restored (normal_of d) f) { bells = d.bells } ≡ restored (normal_of d) d
restored-is d f columns rows lost = rw (columns, rows, lost) refl

pub restores : {colours : Colours} (s : Session) (actions : List Action) (frames : List (List ℕ)) → ShowsEach colours s actions frames → IsRestored s actions frames
restores {colours} s actions frames shows = record {
  end = λ d room j told whole le.
      let n : ℕ = length actions in
      let all : take (n + 1) frames ≡ frames = take_all (n + 1) frames (omega (arith, shows.count)) in
      let last : Becomes (concat (drop j frames)) d (ShowsFrames colours s actions j n d) = rw all at (shows.each d room j n told whole le (omega arith)) in
      tells-then (concat (drop j frames)) last (λ f law. record {
        after = restored (normal_of d) f;
        is = told-end f (normal_of d) law.shows.covered;
        law = record { is = restored-is d f law.shows.columns law.shows.rows law.shows.lost; bells = law.bells };
      });
}

-- the end was put too
pub put-end : (from now last : Seen) (stopped after : Bool) (frames : List (List ℕ)) → PutsBy from false now stopped (concat frames) → PutsBy now stopped last after end_bytes → PutsBy from false last after (concat frames ++ end_bytes)
put-end from now last stopped after frames p q = put-then from now last stopped after (concat frames) end_bytes p q

pub stays-stopped : (a b : Seen) (t u : Bool) (x : List ℕ) → PutsBy a t b u x → t ≡ true → u ≡ true
stays-stopped a b true u x p e = p.1
stays-stopped a b false u x p e = absurd cc

-- ---- what is known of a terminal

pub alike-size : {s : Session} {p : Picture} {monitor : Monitor} → IsScreenOf s p → IsMonitorOf s.desc monitor → IsAlike monitor.painter.shown p
alike-size is size = record { width = is.width ∙ sym size.width; height = is.height ∙ sym size.height }

pub size-of : (s : Session) (monitor : Monitor) → IsMonitorOf s.desc monitor → HasSize s monitor.painter
size-of s monitor is = record { width = is.width; height = is.height }

-- with a picture as large, and the same of the rest
pub size-alike : {d : Desc} {old new : Monitor} → IsAlike old.painter.shown new.painter.shown → new.painter.window ≡ window_of d new.size → IsMonitorOf d old → IsMonitorOf d new
size-alike alike window is = record { width = alike.width ∙ is.width; height = alike.height ∙ is.height; window = window; filled = is.filled; low = is.low }

-- two sessions of one screen
pub size-same : {s t : Session} {p : Picture} {monitor : Monitor} → IsScreenOf t p → IsScreenOf s p → IsMonitorOf t.desc monitor → HasSize s monitor.painter
size-same it is size = record { width = size.width ∙ sym it.width ∙ is.width; height = size.height ∙ sym it.height ∙ is.height }

-- the rectangles by another name
pub keeps-in : {old new : Session} {a b : List Rect} → a ≡ b → KeepsScreen b old new → KeepsScreen a old new
keeps-in {old} {new} e keeps = subst (λ (r : List Rect). KeepsScreen r old new) (sym e) keeps
