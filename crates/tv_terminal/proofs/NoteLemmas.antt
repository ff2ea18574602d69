-- What a terminal makes of a note.
use Rattle.std.proofs.Common.{◌≡◌, ◌≢◌, ℕ, zero, suc, ◌+◌, ◌<◌, ◌≤◌, true, false, List, [], ◌∷◌, ◌++◌, Option, Some, None, IfSome, length, map, take, slice_index_or, encode_utf8, nat_le, refl, sym, ap, ◌∙◌, arith, inl, inr, All}
use Rattle.std.specs.Prelude.{flat_map}
use Rattle.std.proofs.lemmas.Bool.{cases_lt, ne_eqb}
use Rattle.std.proofs.lemmas.Bool.Decides.{nat_tests}
use Rattle.std.proofs.lemmas.List.Elements.{All-cons, All-head, All-nil, All-tail}
use Rattle.unicode_width.specs.Width.{char_width}
use Rattle.tv_cells.specs.Glyph.{shown_char}
use Rattle.tv_io.specs.Pen.{Puts}
use Rattle.tv_io.specs.Writer.{Seen}
use Rattle.tv_io.specs.declared.pen.Pen.{Pen}
use Rattle.tv_io.proofs.PenLemmas.{Puts-along, Puts-then}
use Rattle.tv_terminal.specs.Displays.{Stays}
use Rattle.tv_terminal.specs.Notes.{IsShowable, Notes, note_bytes, note_tile, plain_bytes, rest_cleared_bytes, shown_bytes}
use Rattle.tv_terminal.specs.Terminal.{Display, Plain, Terminal, Tile, ground, row_cleared, told, with_tile}
use Rattle.tv_terminal.specs.Writing.{Covers, IsRight, IsShown, bare}
use Rattle.tv_terminal.specs.Written.{going}
use Rattle.tv_terminal.specs.declared.painter.Painter.{Painter}
use Rattle.tv_terminal.proofs.SpotLemmas.{spot-here, spot-other}
use Rattle.tv_terminal.proofs.ToldLemmas.{eq-true, moved, narrow-plain, put-within, told-++, told-char, told-going}

-- ---- characters one after the other

abbrev tile_in : Display → (ch : ℕ) → Tile
tile_in d ch = record { ch = ch; front = d.front; back = d.back }

abbrev typed_one : (ch : ℕ) → Display → Display
typed_one ch d = record d { cells = with_tile d.cells d.column d.row (tile_in d ch); column = d.column + 1 }

abbrev typed : List ℕ → Display → Display
typed [] d = d
typed (ch ∷ chars) d = typed chars (typed_one ch d)

told-typed : (chars : List ℕ) (d : Display) → All IsShowable chars → d.column + length chars ≤ d.columns
    → told (ground d) (flat_map encode_utf8 chars) ≡ ground (typed chars d)
told-typed [] d all fits = refl
told-typed (ch ∷ chars) d all fits =
    let first = All-head IsShowable ch chars all in
    told-++ (ground d) (encode_utf8 ch) (flat_map encode_utf8 chars)
    ∙ ap (λ (t : Terminal). told t (flat_map encode_utf8 chars)) (told-char ch d first.scalar (narrow-plain ch first.narrow) ∙ ap ground (put-within ch d first.narrow (omega (arith, fits))))
    ∙ told-typed chars (typed_one ch d) (All-tail IsShowable ch chars all) (omega (arith, fits))

-- a place before the cursor, or in another row
abbrev IsKept : Display → (column row : ℕ) → Type 0
IsKept d column row = row ≡ d.row → column < d.column

record Typed (chars : List ℕ) (d e : Display) : Type 0 where
  inside : (i : ℕ) → i < length chars → e.cells (d.column + i) d.row ≡ tile_in d (slice_index_or chars i 32)
  outside : (column row : ℕ) → IsKept d column row → e.cells column row ≡ d.cells column row
  column : e.column ≡ d.column + length chars
  row : e.row ≡ d.row
  front : e.front ≡ d.front
  back : e.back ≡ d.back
  cursor : e.has_cursor ≡ d.has_cursor
  stays : Stays d e

stays-typed : (ch : ℕ) (d e : Display) → Stays (typed_one ch d) e → Stays d e
stays-typed ch d e s = record { columns = s.columns; rows = s.rows; mouse = s.mouse; reports = s.reports; meta = s.meta; alt = s.alt; pastes = s.pastes; bells = s.bells; covered = s.covered; lost = s.lost }

first-or-rest : (ch : ℕ) (chars : List ℕ) (d : Display) → Typed chars (typed_one ch d) (typed chars (typed_one ch d))
    → (i : ℕ) → i < length (ch ∷ chars) → (typed chars (typed_one ch d)).cells (d.column + i) d.row ≡ tile_in d (slice_index_or (ch ∷ chars) i 32)
first-or-rest ch chars d rest zero lt =
    let here : d.column + 0 ≡ d.column = omega arith in
    rw here (rest.outside d.column d.row (λ e. omega arith) ∙ spot-here d.cells d.column d.row (tile_in d ch))
first-or-rest ch chars d rest (suc i) lt =
    let there : d.column + suc i ≡ d.column + 1 + i = omega arith in
    rw there (rest.inside i (omega (arith, lt)))

is-typed : (chars : List ℕ) (d : Display) → Typed chars d (typed chars d)
is-typed [] d = record {
  inside = λ i lt. absurd (omega (arith, lt));
  outside = λ column row kept. refl;
  column = omega arith;
  row = refl;
  front = refl;
  back = refl;
  cursor = refl;
  stays = record { columns = refl; rows = refl; mouse = refl; reports = refl; meta = refl; alt = refl; pastes = refl; bells = refl; covered = refl; lost = refl };
}
is-typed (ch ∷ chars) d =
    let next = typed_one ch d in
    let rest = is-typed chars next in
    record {
      inside = first-or-rest ch chars d rest;
      outside = λ column row kept.
          rest.outside column row (λ e. omega (arith, kept e))
          ∙ spot-other d.cells d.column d.row (tile_in d ch) column row (λ same. absurd (omega (arith, kept same.1, same.0)));
      column = omega (arith, rest.column);
      row = rest.row;
      front = rest.front;
      back = rest.back;
      cursor = rest.cursor;
      stays = stays-typed ch d (typed chars next) rest.stays;
    }

-- ---- the row

beyond : (chars : List ℕ) (i : ℕ) → length chars ≤ i → slice_index_or chars i 32 ≡ 32
beyond [] i le = refl
beyond (ch ∷ chars) zero le = absurd (omega (arith, le))
beyond (ch ∷ chars) (suc i) le = beyond chars i (omega (arith, le))

cleared-behind : (d : Display) (column row : ℕ) → d.row ≡ row → d.column ≤ column → (row_cleared d).cells column row ≡ tile_in d 32
cleared-behind d column row e le =
    let a : nat_le d.column column ≡ true = grind (arith, nat_tests) in
    rw (eq-true row d.row (sym e), a) refl

kept-before : (d : Display) (column row : ℕ) → d.row ≡ row → column < d.column → (row_cleared d).cells column row ≡ d.cells column row
kept-before d column row e lt =
    let a : nat_le d.column column ≡ false = grind (arith, nat_tests) in
    rw (eq-true row d.row (sym e), a) refl

kept-apart : (d : Display) (column row : ℕ) → row ≢ d.row → (row_cleared d).cells column row ≡ d.cells column row
kept-apart d column row apart = rw (ne_eqb row d.row apart) refl

abbrev plain : Display → Display
plain d = record d { front = Plain; back = Plain }

module _ (row : ℕ) (chars : List ℕ) (d : Display) where
  abbrev begun : Display
  begun = plain (moved 0 row d)

  abbrev ended : Display
  ended = row_cleared (typed chars begun)

  is : Typed chars begun (typed chars begun)
  is = is-typed chars begun

  text-shown : (column : ℕ) → ended.cells column row ≡ record { ch = slice_index_or chars column 32; front = Plain; back = Plain }
  text-shown column = elim (cases_lt column (length chars)) [
    | inl lt ↦
        let here : 0 + column ≡ column = omega arith in
        kept-before (typed chars begun) column row is.row (omega (arith, is.column, lt)) ∙ (rw here at (is.inside column lt))
    | inr ge ↦
        cleared-behind (typed chars begun) column row is.row (omega (arith, is.column, ge))
        ∙ rw (is.front, is.back, beyond chars column ge) refl
  ]

  others-kept : (column other : ℕ) → other ≢ row → ended.cells column other ≡ d.cells column other
  others-kept column other apart =
      kept-apart (typed chars begun) column other (λ e. apart (e ∙ is.row))
      ∙ is.outside column other (λ e. absurd (apart e))

  told-note : (place : Option (ℕ × ℕ)) → IfSome place (λ p. (d.column ≡ p.0) × (d.row ≡ p.1)) → 0 < d.columns → row < d.rows → row < 999 → All IsShowable chars → length chars ≤ d.columns
      → told (ground d) (going place 0 row ++ (plain_bytes ++ (flat_map encode_utf8 chars ++ rest_cleared_bytes))) ≡ ground ended
  told-note place stands across down small all fits =
      let rest = flat_map encode_utf8 chars ++ rest_cleared_bytes in
      told-++ (ground d) (going place 0 row) (plain_bytes ++ rest)
      ∙ ap (λ (t : Terminal). told t (plain_bytes ++ rest)) (told-going place 0 row d stands across down (omega arith) small)
      ∙ told-++ (ground (moved 0 row d)) plain_bytes rest
      ∙ told-++ (ground begun) (flat_map encode_utf8 chars) rest_cleared_bytes
      ∙ ap (λ (t : Terminal). told t rest_cleared_bytes) (told-typed chars begun all (omega (arith, fits)))

-- what a painter knows that wrote it
pub record HasNoted (row : ℕ) (text : List ℕ) (old new : Painter) : Type 0 where
  pub known : new.is_known ≡ old.is_known
  pub window : new.window ≡ old.window
  pub colours : new.colours ≡ old.colours
  pub shown : new.shown ≡ old.shown
  pub place : new.place ≡ Some (record { 0 = length text; 1 = row })
  pub attr : new.attr ≡ None
  pub cursor : new.has_cursor ≡ old.has_cursor

length-shown : (text : List ℕ) → length (map shown_char text) ≡ length text
length-shown [] = refl
length-shown (ch ∷ text) = ap suc (length-shown text)

abbrev IsShown_char : ℕ → Type 0
IsShown_char ch = IsShowable (shown_char ch)

all-shown : (text : List ℕ) → All IsShown_char text → All IsShowable (map shown_char text)
all-shown [] all = All-nil IsShowable
all-shown (ch ∷ text) all = All-cons IsShowable (shown_char ch) (map shown_char text) (All-head IsShown_char ch text all) (all-shown text (All-tail IsShown_char ch text all))

bytes-shown : (text : List ℕ) → flat_map encode_utf8 (map shown_char text) ≡ shown_bytes text
bytes-shown [] = refl
bytes-shown (ch ∷ text) = ap (λ (t : List ℕ). encode_utf8 (shown_char ch) ++ t) (bytes-shown text)

at-shown : (text : List ℕ) (i : ℕ) → slice_index_or (map shown_char text) i 32 ≡ shown_char (slice_index_or text i 32)
unfolding char_width
at-shown [] i = refl
at-shown (ch ∷ text) zero = refl
at-shown (ch ∷ text) (suc i) = at-shown text i

module _ (row : ℕ) (text : List ℕ) (old new : Painter) (below : old.window.rows ≤ row) (f : HasNoted row text old new) where
  still-shown : (d : Display) → Covers old.window old.shown → IsShown old d → IsShown new (ended row (map shown_char text) d)
  still-shown d covers shows known =
      let there = shows (sym f.known ∙ known) in
      let is = is-typed (map shown_char text) (begun row (map shown_char text) d) in
      rw (f.shown, f.colours) (record {
        room = record { across = omega (arith, there.room.across, is.stays.columns); down = omega (arith, there.room.down, is.stays.rows) };
        each = λ column other on. others-kept row (map shown_char text) d column other (λ e. omega (arith, e, on.down, below, covers.down)) ∙ there.each column other on;
      })

  right-after : (d : Display) → Covers old.window old.shown → IsRight old d → IsRight new (ended row (map shown_char text) d)
  right-after d covers right =
      let is = is-typed (map shown_char text) (begun row (map shown_char text) d) in
      record {
        shows = still-shown d covers right.shows;
        knows = rw (f.place, f.attr) (record { stands = (omega (arith, is.column, length-shown text), is.row); writes = tt });
        cursor = rw f.cursor (rw is.cursor right.cursor);
      }

  pub notes : {W : Type 0} {seen : W → Seen} {x y : Pen W} → row < 999 → length text < 999 → All (λ ch. IsShowable (shown_char ch)) text → Puts seen x y (note_bytes old.place row text)
      → Notes seen row text old new x y
  notes small short all puts = record {
    known = f.known;
    window = f.window;
    colours = f.colours;
    shown = f.shown;
    puts = puts;
    tells = λ d covers down fits right.
        let is = is-typed (map shown_char text) (begun row (map shown_char text) d) in
        record {
          after = ended row (map shown_char text) d;
          is = rw (bytes-shown text) at (told-note row (map shown_char text) d old.place right.knows.stands (omega (arith, fits)) down small (all-shown text all) (omega (arith, fits, length-shown text)));
          law = record {
            note = record { inside = λ column. rw (at-shown text column) at (text-shown row (map shown_char text) d column); outside = others-kept row (map shown_char text) d };
            right = right-after d covers right;
            stays = record { columns = is.stays.columns; rows = is.stays.rows; mouse = is.stays.mouse; reports = is.stays.reports; meta = is.stays.meta; alt = is.stays.alt; pastes = is.stays.pastes; bells = is.stays.bells; covered = is.stays.covered; lost = is.stays.lost };
          };
        };
  }

-- what was written, by parts
pub puts-note : {W : Type 0} {seen : W → Seen} {a b c e f : Pen W} (place known : Option (ℕ × ℕ)) (row : ℕ) (text waited waits : List ℕ) → place ≡ known → waited ≡ [] → waits ≡ waited ++ going place 0 row
    → Puts seen a b waits → Puts seen b c plain_bytes → Puts seen c e (shown_bytes text) → Puts seen e f rest_cleared_bytes → Puts seen a f (note_bytes known row text)
puts-note place known row text waited waits same empty is p q r s =
    let went : waits ≡ going known 0 row = is ∙ ap (λ (w : List ℕ). w ++ going place 0 row) empty ∙ ap (λ (at : Option (ℕ × ℕ)). going at 0 row) same in
    Puts-along (ap (λ (w : List ℕ). w ++ (plain_bytes ++ (shown_bytes text ++ rest_cleared_bytes))) went) (Puts-then p (Puts-then q (Puts-then r s)))

-- nothing is said by a row with nothing on it
pub blank-tile : (n column : ℕ) → bare ≡ note_tile (take n []) column
unfolding char_width
blank-tile zero column = refl
blank-tile (suc n) column = refl
