-- A screen that is painted, with its cursor, and the begin and the end.
use Rattle.std.proofs.Common.{◌≡◌, ℕ, pos, ◌<◌, ◌≤◌, Bool, true, false, subst, List, [], ◌∷◌, ◌++◌, Option, Some, None, IfSome, inl, inr, if◌then◌else◌, is_some, refl, sym, ap, ◌∙◌, arith, append_assoc}
use Rattle.std.proofs.lemmas.Int.{ints}
use Rattle.tv_cells.specs.Picture.{Picture, IsOn, IsAlike}
use Rattle.tv_cells.specs.Rectangle.{sized}
use Rattle.tv_cells.specs.Repainting.{has_cell}
use Rattle.tv_cells.specs.declared.rect.Rect.{Rect}
use Rattle.tv_cells.specs.Layers.{is_in}
use Rattle.tv_cells.proofs.DamageLemmas.{is_in-true, or_left, or_split}
use Rattle.tv_cells.proofs.LayerLemmas.{is_in_true}
use Rattle.tv_io.specs.Pen.{Puts, PutsPart}
use Rattle.tv_io.specs.Writer.{Seen}
use Rattle.tv_io.specs.declared.pen.Pen.{Pen}
use Rattle.tv_io.proofs.PenLemmas.{Puts-then, Puts-along}
use Rattle.tv_terminal.specs.Displays.{Becomes, HasCursor, HasSpace, Knows, tile_of}
use Rattle.tv_terminal.specs.Written.{begin_bytes, cursor_bytes, end_bytes, going, is_seen, place_after, seen, showing}
use Rattle.tv_terminal.specs.Terminal.{Covered, Display, Plain, Terminal, ground, kept_of, told}
use Rattle.tv_terminal.specs.Writing.{BeginsScreen, Covers, Drawn, Draws, IsRight, IsShown, Painted, Paints, restored}
use Rattle.tv_terminal.specs.declared.action.Size.{Size}
use Rattle.tv_terminal.specs.declared.colour.Colours.{Colours}
use Rattle.tv_terminal.specs.declared.hand.Hand.{Hand}
use Rattle.tv_terminal.specs.declared.painter.Painter.{Painter}
use Rattle.tv_terminal.proofs.ToldLemmas.{told-++, told-going}
use Rattle.tv_terminal.proofs.DrawLemmas.{displays-by, on-alike, seen-on, shows-by, tells-then}

true-not-false : {b : Bool} → b ≡ true → b ≡ false → ⊥
true-not-false e f = let g : true ≡ false = sym e ∙ f in absurd cc

-- ---- the cursor

abbrev with_cursor : Option (ℕ × ℕ) → Display → Display
with_cursor None d = record d { has_cursor = false }
with_cursor (Some p) d = record d { column = p.0; row = p.1; has_cursor = true }

told-showing : (was : Option Bool) (is_on : Bool) (d : Display) → IfSome was (λ on. d.has_cursor ≡ on) → told (ground d) (showing was is_on) ≡ ground (record d { has_cursor = is_on })
told-showing None true d is = refl
told-showing None false d is = refl
told-showing (Some true) true d is = ap (λ (on : Bool). ground (record d { has_cursor = on })) is
told-showing (Some true) false d is = refl
told-showing (Some false) true d is = refl
told-showing (Some false) false d is = ap (λ (on : Bool). ground (record d { has_cursor = on })) is

told-cursor : (place : Option (ℕ × ℕ)) (was : Option Bool) (cursor : Option (ℕ × ℕ)) (d : Display)
    → IfSome place (λ p. (d.column ≡ p.0) × (d.row ≡ p.1)) → IfSome was (λ on. d.has_cursor ≡ on)
    → IfSome cursor (λ p. (p.0 < d.columns) × (p.1 < d.rows)) → IfSome cursor (λ p. (p.0 < 999) × (p.1 < 999))
    → told (ground d) (cursor_bytes place was cursor) ≡ ground (with_cursor cursor d)
told-cursor place was None d stands is on small = told-showing was false d is
told-cursor place was (Some p) d stands is on small =
    told-++ (ground d) (going place p.0 p.1) (showing was true)
    ∙ ap (λ (t : Terminal). told t (showing was true)) (told-going place p.0 p.1 d stands on.0 on.1 small.0 small.1)
    ∙ told-showing was true (record d { column = p.0; row = p.1 }) is

has-cursor : (cursor : Option (ℕ × ℕ)) (d : Display) → HasCursor cursor (with_cursor cursor d)
has-cursor None d = refl
has-cursor (Some p) d = (refl, refl, refl)

-- another painter that took over the same
still-shown : (mid new : Painter) (e : Display) → new.shown ≡ mid.shown → new.is_known ≡ mid.is_known → new.colours ≡ mid.colours → (cursor : Option (ℕ × ℕ)) → IsShown mid e → IsShown new (with_cursor cursor e)
still-shown mid new e shown known colours None shows k = let there = shows (sym known ∙ k) in displays-by colours (rw shown (record { room = record { across = there.room.across; down = there.room.down }; each = there.each }))
still-shown mid new e shown known colours (Some p) shows k = let there = shows (sym known ∙ k) in displays-by colours (rw shown (record { room = record { across = there.room.across; down = there.room.down }; each = there.each }))

drawn-cursor : {Region : ℕ → ℕ → Type 0} {screen : Picture} {d : Display} (mid new : Painter) (e : Display) → new.shown ≡ mid.shown → new.is_known ≡ mid.is_known → new.colours ≡ mid.colours → (cursor : Option (ℕ × ℕ))
    → Drawn Region screen mid d e → Drawn Region screen new d (with_cursor cursor e)
drawn-cursor mid new e shown known colours None p = record {
  shows = shows-by colours (record { inside = p.shows.inside; outside = p.shows.outside });
  right = still-shown mid new e shown known colours None p.right;
  stays = record { columns = p.stays.columns; rows = p.stays.rows; mouse = p.stays.mouse; reports = p.stays.reports; meta = p.stays.meta; alt = p.stays.alt; pastes = p.stays.pastes; bells = p.stays.bells; covered = p.stays.covered; lost = p.stays.lost };
}
drawn-cursor mid new e shown known colours (Some q) p = record {
  shows = shows-by colours (record { inside = p.shows.inside; outside = p.shows.outside });
  right = still-shown mid new e shown known colours (Some q) p.right;
  stays = record { columns = p.stays.columns; rows = p.stays.rows; mouse = p.stays.mouse; reports = p.stays.reports; meta = p.stays.meta; alt = p.stays.alt; pastes = p.stays.pastes; bells = p.stays.bells; covered = p.stays.covered; lost = p.stays.lost };
}

-- what is known of the cursor and the colours then
knows-after : (colours : Colours) (place : Option (ℕ × ℕ)) (attr' : Option ℕ) (cursor : Option (ℕ × ℕ)) (e : Display) → Knows colours place attr' e → Knows colours (place_after place cursor) attr' (with_cursor cursor e)
knows-after colours place attr' None e k = record { stands = k.stands; writes = k.writes }
knows-after colours place attr' (Some p) e k = record { stands = (refl, refl); writes = k.writes }

cursor-on : (cursor : Option (ℕ × ℕ)) (e : Display) → (with_cursor cursor e).has_cursor ≡ is_some cursor
cursor-on None e = refl
cursor-on (Some p) e = refl

-- a place of the screen is one of the terminal, and its numbers are small
on-terminal : (cursor : Option (ℕ × ℕ)) (width height columns rows : ℕ) → width ≤ columns → height ≤ rows → IfSome cursor (λ p. (p.0 < width) × (p.1 < height)) → IfSome cursor (λ p. (p.0 < columns) × (p.1 < rows))
on-terminal None width height columns rows a b on = on
on-terminal (Some p) width height columns rows a b on = (omega (arith, on.0), omega (arith, on.1))

-- ---- a screen

puts-all : {W : Type 0} {seen : W → Seen} {x y z : Pen W} (waited waits text last : List ℕ) → waited ≡ [] → PutsPart seen x y waited text waits → Puts seen y z (waits ++ last) → Puts seen x z (text ++ last)
puts-all waited waits text last empty p q =
    let parts : p.0 ++ waits ≡ text = p.2 ∙ ap (λ (w : List ℕ). w ++ text) empty in
    Puts-along (sym (append_assoc p.0 waits last) ∙ ap (λ (t : List ℕ). t ++ last) parts) (Puts-then p.1 q)

-- a painter that took the cells over, and what the hand knows
pub record HasFinished (mid new : Painter) (after : Hand) (cursor : Option (ℕ × ℕ)) : Type 0 where
  pub shown : new.shown ≡ mid.shown
  pub known : new.is_known ≡ mid.is_known
  pub colours : new.colours ≡ mid.colours
  pub window : new.window ≡ mid.window
  pub place : new.place ≡ place_after after.place cursor
  pub attr : new.attr ≡ after.attr
  pub shows : new.has_cursor ≡ Some (is_some cursor)

right-after : (mid new : Painter) (after : Hand) (cursor : Option (ℕ × ℕ)) (e : Display) → HasFinished mid new after cursor → Knows mid.colours after.place after.attr e → IsShown mid e → IsRight new (with_cursor cursor e)
right-after mid new after cursor e f knows shows = record {
  shows = still-shown mid new e f.shown f.known f.colours cursor shows;
  knows = rw (f.place, f.attr, f.colours) (knows-after mid.colours after.place after.attr cursor e knows);
  cursor = rw f.shows (cursor-on cursor e);
}

module _ {W : Type 0} {seen : W → Seen} {Region : ℕ → ℕ → Type 0} {screen : Picture} {old mid new : Painter} {hand after : Hand} {x y z : Pen W} where
  pub paints : (cursor : Option (ℕ × ℕ)) → hand.waiting.items ≡ [] → hand.place ≡ old.place → hand.attr ≡ old.attr → hand.colours ≡ old.colours → IsAlike old.shown screen
      → (screen.width < 999) × (screen.height < 999) → IfSome cursor (λ p. (p.0 < screen.width) × (p.1 < screen.height))
      → Draws seen Region screen old mid hand after x y → Puts seen y z (after.waiting.items ++ cursor_bytes after.place old.has_cursor cursor)
      → HasFinished mid new after cursor → Paints seen Region screen cursor old new x z
  paints cursor empty place attr held alike small on p q f = record {
    known = f.known ∙ p.known;
    colours = f.colours ∙ p.colours;
    window = f.window ∙ p.window;
    changes = rw f.shown p.changes;
    bytes = p.text ++ cursor_bytes after.place old.has_cursor cursor;
    puts = puts-all hand.waiting.items after.waiting.items p.text (cursor_bytes after.place old.has_cursor cursor) empty p.puts q;
    tells = λ d covers room right.
        tells-then p.text (p.tells d covers held (rw (place, attr) right.knows) room right.shows)
        (λ e law. record {
          after = with_cursor cursor e;
          is = told-cursor after.place old.has_cursor cursor e law.0.stands (rw law.1 right.cursor)
              (on-terminal cursor screen.width screen.height e.columns e.rows
              (omega (arith, alike.width, room.across, law.2.stays.columns)) (omega (arith, alike.height, room.down, law.2.stays.rows)) on)
              (on-terminal cursor screen.width screen.height 999 999 (omega (arith, small.0)) (omega (arith, small.1)) on);
          law = record {
            drawn = drawn-cursor mid new e f.shown f.known f.colours cursor law.2;
            right = right-after mid new after cursor e f law.0 law.2.right;
            points = has-cursor cursor e;
          };
        });
  }

-- the cursor by another word, where the window has all of the screen
pub paints-for : {W : Type 0} {seen : W → Seen} {Region : ℕ → ℕ → Type 0} {screen : Picture} {cursor wanted : Option (ℕ × ℕ)} {old new : Painter} {x z : Pen W} → (Covers old.window old.shown → cursor ≡ wanted)
    → Paints seen Region screen cursor old new x z → Paints seen Region screen wanted old new x z
paints-for {Region = Region} {screen = screen} {new = new} same p = record {
  known = p.known;
  colours = p.colours;
  window = p.window;
  changes = p.changes;
  bytes = p.bytes;
  puts = p.puts;
  tells = λ d covers room right. subst (λ (q : Option (ℕ × ℕ)). Becomes p.bytes d (Painted Region screen q new d)) (same covers) (p.tells d covers room right);
}

within-by : (p : ℕ × ℕ) (width height : ℕ) → (p.0 < width) × (p.1 < height) → (b : Bool) → IfSome (if b then Some p else None) (λ q. (q.0 < width) × (q.1 < height))
within-by p width height on true = on
within-by p width height on false = tt

pub seen-within : (window : Size) (cursor : Option (ℕ × ℕ)) (width height : ℕ) → IfSome cursor (λ p. (p.0 < width) × (p.1 < height)) → IfSome (seen window cursor) (λ p. (p.0 < width) × (p.1 < height))
seen-within window None width height on = on
seen-within window (Some p) width height on = within-by p width height on (is_seen window p)

pub seen-whole : (window : Size) (p : Picture) (cursor : Option (ℕ × ℕ)) → IfSome cursor (λ q. (q.0 < p.width) × (q.1 < p.height)) → Covers window p → seen window cursor ≡ cursor
seen-whole window p None on covers = refl
seen-whole window p (Some q) on covers = rw (seen-on window p q.0 q.1 (record { across = on.0; down = on.1 }) covers) refl

-- ---- the begin

abbrev begun : Display → Display
begun d = record d {
  cells = λ _ _. record { ch = 32; front = Plain; back = Plain };
  front = Plain;
  back = Plain;
  covered = Some (kept_of d.covered d);
  has_mouse = true;
  has_long_reports = true;
  has_meta_escapes = true;
  has_alt_escapes = true;
  has_paste_brackets = true;
}

told-begin : (d : Display) → told (ground d) begin_bytes ≡ ground (begun d)
told-begin d = refl

whole-has : (screen : Picture) (column row : ℕ) → IsOn screen column row → has_cell (sized screen.width screen.height ∷ []) column row ≡ true
whole-has screen column row on = or_left _ _ (is_in-true (sized screen.width screen.height) (pos column) (pos row) (record { after_left = omega (arith, ints); before_right = omega (arith, ints, on.across); after_top = omega (arith, ints); before_bottom = omega (arith, ints, on.down) }))

pub whole-rect : (r : Rect) (screen : Picture) → r ≡ sized screen.width screen.height → (column row : ℕ) → IsOn screen column row → has_cell (r ∷ []) column row ≡ true
whole-rect r screen e column row on = subst (λ (q : Rect). has_cell (q ∷ []) column row ≡ true) (sym e) (whole-has screen column row on)

pub whole-only : (r : Rect) (screen : Picture) → r ≡ sized screen.width screen.height → (column row : ℕ) → has_cell (r ∷ []) column row ≡ true → IsOn screen column row
whole-only r screen same column row e = elim (or_split (is_in r (pos column) (pos row)) false e) [
  | inl here ↦
      let at = is_in_true (sized screen.width screen.height) (pos column) (pos row) (subst (λ (q : Rect). is_in q (pos column) (pos row) ≡ true) same here) in
      record { across = omega (arith, ints, at.before_right); down = omega (arith, ints, at.before_bottom) }
  | inr off ↦ absurd cc
]

-- a painter that knows nothing isn't wrong
blind-right : {blind : Painter} (d : Display) → blind.is_known ≡ false → (blind.place ≡ None) × (blind.attr ≡ None) × (blind.has_cursor ≡ None) → IsRight blind d
blind-right d unknown nothing = record {
  shows = λ k. absurd (true-not-false k unknown);
  knows = rw (nothing.0, nothing.1) (record { stands = tt; writes = tt });
  cursor = rw nothing.2 tt;
}

module _ {W : Type 0} {seen : W → Seen} {screen : Picture} {cursor : Option (ℕ × ℕ)} (window : Size) {old blind new last : Painter} {x y z : Pen W} where
  pub begins : blind.window ≡ window → last.window ≡ new.window → IsAlike old.shown screen → blind.shown ≡ old.shown → blind.colours ≡ old.colours → blind.is_known ≡ false → (blind.place ≡ None) × (blind.attr ≡ None) × (blind.has_cursor ≡ None)
      → last.shown ≡ new.shown → last.colours ≡ new.colours → last.is_known ≡ true → (last.place ≡ new.place) × (last.attr ≡ new.attr) × (last.has_cursor ≡ new.has_cursor) → Puts seen x y begin_bytes
      → (rects : List Rect) → ((column row : ℕ) → IsOn screen column row → has_cell rects column row ≡ true)
      → ((column row : ℕ) → has_cell rects column row ≡ true → IsOn screen column row)
      → Paints seen (λ column row. has_cell rects column row ≡ true) screen cursor blind new y z → BeginsScreen seen screen cursor window old last x z
  begins framed ends_framed alike same still unknown nothing end held known kept opened rects all only p = record {
    known = known;
    colours = held ∙ p.colours ∙ still;
    window = ends_framed ∙ p.window ∙ framed;
    size = record { width = ap (λ (q : Picture). q.width) end ∙ p.changes.size.width ∙ ap (λ (q : Picture). q.width) same; height = ap (λ (q : Picture). q.height) end ∙ p.changes.size.height ∙ ap (λ (q : Picture). q.height) same };
    taken = λ column row on. rw end (p.changes.inside column row (rw same (on-alike alike on)) (all column row on));
    bytes = begin_bytes ++ p.bytes;
    puts = Puts-then opened p.puts;
    tells = λ d covers room.
        let covers' : Covers blind.window blind.shown = record { across = omega (arith, covers.across, alike.width, ap (λ (q : Picture). q.width) same, ap (λ (v : Size). v.columns) framed); down = omega (arith, covers.down, alike.height, ap (λ (q : Picture). q.height) same, ap (λ (v : Size). v.rows) framed) } in
        let room' : HasSpace blind.shown (begun d) = rw same (record { across = omega (arith, alike.width, room.across); down = omega (arith, alike.height, room.down) }) in
        let q = p.tells (begun d) covers' room' (blind-right (begun d) unknown nothing) in
        record {
          after = q.after;
          is = told-++ (ground d) begin_bytes p.bytes ∙ ap (λ (t : Terminal). told t p.bytes) (told-begin d) ∙ q.is;
          law = record {
            shows = displays-by held (record {
              room = record { across = omega (arith, room.across, q.law.drawn.stays.columns); down = omega (arith, room.down, q.law.drawn.stays.rows) };
              each = λ column row on. q.law.drawn.shows.inside column row on (all column row on);
            });
            beside = λ column row off. q.law.drawn.shows.outside column row (λ e. off (only column row e));
            right = record {
              shows = λ k. displays-by held (rw end (record {
                room = record { across = omega (arith, room.across, q.law.drawn.stays.columns, p.changes.size.width, ap (λ (o : Picture). o.width) same, alike.width); down = omega (arith, room.down, q.law.drawn.stays.rows, p.changes.size.height, ap (λ (o : Picture). o.height) same, alike.height) };
                each = λ column row on.
                    let there : IsOn screen column row = record { across = omega (arith, on.across, p.changes.size.width, ap (λ (o : Picture). o.width) same, alike.width); down = omega (arith, on.down, p.changes.size.height, ap (λ (o : Picture). o.height) same, alike.height) } in
                    q.law.drawn.shows.inside column row there (all column row there)
                    ∙ ap (tile_of new.colours) (sym (p.changes.inside column row (rw same (on-alike alike there)) (all column row there)));
              }));
              knows = rw (kept.0, kept.1, held) q.law.right.knows;
              cursor = rw kept.2 q.law.right.cursor;
            };
            points = q.law.points;
            columns = q.law.drawn.stays.columns;
            rows = q.law.drawn.stays.rows;
            mouse = q.law.drawn.stays.mouse;
            reports = q.law.drawn.stays.reports;
            meta = q.law.drawn.stays.meta;
            alt = q.law.drawn.stays.alt;
            pastes = q.law.drawn.stays.pastes;
            bells = q.law.drawn.stays.bells;
            covered = q.law.drawn.stays.covered;
            lost = q.law.drawn.stays.lost;
          };
        };
  }

-- ---- the end

pub told-end : (d : Display) (c : Covered) → d.covered ≡ Some c → told (ground d) end_bytes ≡ ground (restored c d)
told-end d c kept = subst (λ (o : Option Covered). told (ground (record d { covered = o })) end_bytes ≡ ground (restored c (record d { covered = o }))) (sym kept) refl
