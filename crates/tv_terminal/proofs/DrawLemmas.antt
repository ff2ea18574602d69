-- How what is drawn is put together.
use Rattle.std.proofs.Common.{◌≡◌, ℕ, ◌+◌, ◌<◌, nat_lt, Bool, true, false, ◌⊎◌, inl, inr, List, [], ◌++◌, Some, refl, sym, ap, subst, ◌∙◌, arith, append_assoc, not, ◌==◌, ◌&&◌}
use Rattle.std.proofs.lemmas.Bool.Decides.{nat_tests}
use Rattle.std.proofs.lemmas.List.{append-nil}
use Rattle.tv_cells.specs.Glyph.{Glyph, glyph}
use Rattle.tv_cells.specs.Picture.{Picture, IsOn, IsAlike, IsPlace, Changes, cell_at}
use Rattle.tv_cells.proofs.ChangeLemmas.{changes_none, changes_along, on_new}
use Rattle.tv_cells.proofs.LayerLemmas.{on_old}
use Rattle.tv_io.specs.Pen.{PutsPart}
use Rattle.tv_io.specs.Writer.{Seen}
use Rattle.tv_io.specs.declared.pen.Pen.{Pen}
use Rattle.tv_io.proofs.PenLemmas.{Puts-none, Puts-then}
use Rattle.tv_terminal.specs.Displays.{Displays, HasSpace, IsPrintable, ShowsIn, Stays, Becomes, drawn, tile_of}
use Rattle.tv_terminal.specs.Written.{cell_bytes, is_seen}
use Rattle.tv_terminal.specs.Terminal.{Display, Terminal, ground, told}
use Rattle.tv_terminal.specs.Writing.{Covers, Drawn, Draws, IsShown}
use Rattle.tv_terminal.specs.declared.action.Size.{Size}
use Rattle.tv_terminal.specs.declared.colour.Colours.{Colours}
use Rattle.tv_terminal.specs.declared.hand.Hand.{Hand}
use Rattle.tv_terminal.specs.declared.painter.Painter.{Painter}
use Rattle.tv_terminal.proofs.ToldLemmas.{told-++, told-cell, from-eq, and-left, and-right}
use Rattle.tv_terminal.proofs.SpotLemmas.{place-test, spot-here, spot-other}

-- ---- one text after another

pub tells-as : {P Q : Display → Type 0} {a : List ℕ} {d : Display} → ((e : Display) → P e → Q e) → Becomes a d P → Becomes a d Q
tells-as to p = record { after = p.after; is = p.is; law = to p.after p.law }

-- what meets two laws after the same bytes
pub tells-both : {P Q : Display → Type 0} {a : List ℕ} {d : Display} → Becomes a d P → Becomes a d Q → Becomes a d (λ e. P e × Q e)
tells-both {Q = Q} p q = record {
  after = p.after;
  is = p.is;
  law = (p.law, subst Q (ap (λ (t : Terminal). t.display) (sym q.is ∙ p.is)) q.law);
}

pub tells-then : {P Q : Display → Type 0} {b : List ℕ} {d : Display} (a : List ℕ) → Becomes a d P → ((e : Display) → P e → Becomes b e Q) → Becomes (a ++ b) d Q
tells-then {b = b} {d = d} a p next = record {
  after = (next p.after p.law).after;
  is = told-++ (ground d) a b ∙ ap (λ (t : Terminal). told t b) p.is ∙ (next p.after p.law).is;
  law = (next p.after p.law).law;
}

module _ {W : Type 0} {seen : W → Seen} where
  pub puts-none : {a : Pen W} (waits : List ℕ) → PutsPart seen a a waits [] waits
  puts-none waits = ([], Puts-none, sym (append-nil waits))

  pub puts-then : {a b c : Pen W} (waited mid waits x y : List ℕ) → PutsPart seen a b waited x mid → PutsPart seen b c mid y waits → PutsPart seen a c waited (x ++ y) waits
  puts-then waited mid waits x y p q = (
    p.0 ++ q.0,
    Puts-then p.1 q.1,
    append_assoc p.0 q.0 waits ∙ ap (λ (t : List ℕ). p.0 ++ t) q.2 ∙ sym (append_assoc p.0 mid y) ∙ ap (λ (t : List ℕ). t ++ y) p.2 ∙ append_assoc waited x y,
  )

pub stays-none : (d : Display) → Stays d d
stays-none d = record { columns = refl; rows = refl; mouse = refl; reports = refl; meta = refl; alt = refl; pastes = refl; bells = refl; covered = refl; lost = refl }

pub stays-then : {a b c : Display} → Stays a b → Stays b c → Stays a c
stays-then p q = record {
  columns = q.columns ∙ p.columns;
  rows = q.rows ∙ p.rows;
  mouse = q.mouse ∙ p.mouse;
  reports = q.reports ∙ p.reports;
  meta = q.meta ∙ p.meta;
  alt = q.alt ∙ p.alt;
  pastes = q.pastes ∙ p.pastes;
  bells = q.bells ∙ p.bells;
  covered = q.covered ∙ p.covered;
  lost = q.lost ∙ p.lost;
}

pub covers-still : {p q : Picture} {v w : Size} → IsAlike p q → w ≡ v → Covers v p → Covers w q
covers-still alike same covers = record { across = rw (alike.width, same) covers.across; down = rw (alike.height, same) covers.down }

pub room-still : {p q : Picture} {d e : Display} → IsAlike p q → Stays d e → HasSpace p d → HasSpace q e
room-still alike stays room = record {
  across = rw (alike.width, stays.columns) room.across;
  down = rw (alike.height, stays.rows) room.down;
}

-- the same colours by another word
pub shows-by : {Region : ℕ → ℕ → Type 0} {p : Picture} {d e : Display} {a b : Colours} → b ≡ a → ShowsIn a Region p d e → ShowsIn b Region p d e
shows-by {Region = Region} {p = p} {d = d} {e = e} same s = subst (λ (c : Colours). ShowsIn c Region p d e) (sym same) s

pub displays-by : {p : Picture} {d : Display} {a b : Colours} → b ≡ a → Displays a p d → Displays b p d
displays-by {p = p} {d = d} same s = subst (λ (c : Colours). Displays c p d) (sym same) s

-- two pictures are as large as a third
pub alike-still : {a b c : Picture} → IsAlike a c → IsAlike a b → IsAlike b c
alike-still p q = record { width = p.width ∙ sym q.width; height = p.height ∙ sym q.height }

pub on-alike : {a b : Picture} {column row : ℕ} → IsAlike a b → IsOn b column row → IsOn a column row
on-alike p on = record { across = rw p.width at on.across; down = rw p.height at on.down }

-- ---- one region after another

module _ {A B Whole : ℕ → ℕ → Type 0} (test : (column row : ℕ) → B column row ⊎ (B column row → ⊥)) (parts : (column row : ℕ) → Whole column row → A column row ⊎ B column row)
    (first : (column row : ℕ) → A column row → Whole column row) (second : (column row : ℕ) → B column row → Whole column row) where
  only-first : (column row : ℕ) → Whole column row → (B column row → ⊥) → A column row
  only-first column row here apart = elim (parts column row here) [ inl a ↦ a | inr b ↦ absurd (apart b) ]

  changes-over : (screen : Picture) {old mid new : Picture} → Changes A (λ column row _. cell_at screen column row) old mid → Changes B (λ column row _. cell_at screen column row) mid new
      → Changes Whole (λ column row _. cell_at screen column row) old new
  changes-over screen p q = record {
    size = record { width = q.size.width ∙ p.size.width; height = q.size.height ∙ p.size.height };
    inside = λ column row on here. elim (test column row) [
      | inl b ↦ q.inside column row (on_new p on) b
      | inr apart ↦ q.outside column row (on_new p on) apart ∙ p.inside column row on (only-first column row here apart)
    ];
    outside = λ column row on other. q.outside column row (on_new p on) (λ b. other (second column row b)) ∙ p.outside column row on (λ a. other (first column row a));
  }

  shows-over : {colours : Colours} {screen : Picture} {d e f : Display} → ShowsIn colours A screen d e → ShowsIn colours B screen e f → ShowsIn colours Whole screen d f
  shows-over p q = record {
    inside = λ column row on here. elim (test column row) [
      | inl b ↦ q.inside column row on b
      | inr apart ↦ q.outside column row apart ∙ p.inside column row on (only-first column row here apart)
    ];
    outside = λ column row other. q.outside column row (λ b. other (second column row b)) ∙ p.outside column row (λ a. other (first column row a));
  }

  pub draws-then : {W : Type 0} {seen : W → Seen} {screen : Picture} {old mid new : Painter} {hand between after : Hand} {x y z : Pen W}
      → Draws seen A screen old mid hand between x y → Draws seen B screen mid new between after y z → Draws seen Whole screen old new hand after x z
  draws-then {screen = screen} {hand = hand} {between = between} {after = after} p q = record {
    known = q.known ∙ p.known;
    colours = q.colours ∙ p.colours;
    window = q.window ∙ p.window;
    same = q.same ∙ p.same;
    changes = changes-over screen p.changes q.changes;
    text = p.text ++ q.text;
    puts = puts-then hand.waiting.items between.waiting.items after.waiting.items p.text q.text p.puts q.puts;
    tells = λ d covers held knows room right.
        tells-then p.text (p.tells d covers held knows room right)
        (λ e law. tells-as (λ f more. (
          more.0,
          more.1 ∙ law.1,
          record {
            shows = shows-over (shows-by q.colours law.2.shows) more.2.shows;
            right = more.2.right;
            stays = stays-then law.2.stays more.2.stays;
          },
        )) (q.tells e (covers-still p.changes.size p.window covers) (p.same ∙ held ∙ sym p.colours) law.0 (room-still p.changes.size law.2.stays room) law.2.right));
  }

-- the same region of the screen by other words
pub draws-along : {A B : ℕ → ℕ → Type 0} {W : Type 0} {seen : W → Seen} {screen : Picture} {old new : Painter} {hand after : Hand} {x y : Pen W} → IsAlike old.shown screen
    → ((column row : ℕ) → A column row → B column row) → ((column row : ℕ) → IsOn screen column row → B column row → A column row)
    → Draws seen A screen old new hand after x y → Draws seen B screen old new hand after x y
draws-along alike to back p = record {
  known = p.known;
  colours = p.colours;
  window = p.window;
  same = p.same;
  changes = changes_along (λ column row on a. to column row a) (λ column row on b. back column row (record { across = rw alike.width on.across; down = rw alike.height on.down }) b) p.changes;
  text = p.text;
  puts = p.puts;
  tells = λ d covers held knows room right. tells-as (λ e law. (
    law.0,
    law.1,
    record {
      shows = record {
        inside = λ column row on b. law.2.shows.inside column row on (back column row on b);
        outside = λ column row other. law.2.shows.outside column row (λ a. other (to column row a));
      };
      right = law.2.right;
      stays = law.2.stays;
    },
  )) (p.tells d covers held knows room right);
}

pub draws-none : {Region : ℕ → ℕ → Type 0} {W : Type 0} {seen : W → Seen} {screen : Picture} {painter : Painter} (hand : Hand) {x : Pen W} → ((column row : ℕ) → Region column row → ⊥)
    → Draws seen Region screen painter painter hand hand x x
draws-none hand empty = record {
  known = refl;
  colours = refl;
  window = refl;
  same = refl;
  changes = changes_none (λ column row on here. empty column row here);
  text = [];
  puts = puts-none hand.waiting.items;
  tells = λ d covers held knows room right. record {
    after = d;
    is = refl;
    law = (
      knows,
      refl,
      record {
        shows = record { inside = λ column row on here. absurd (empty column row here); outside = λ column row other. refl };
        right = right;
        stays = stays-none d;
      },
    );
  };
}

-- ---- one cell

pub seen-on : (window : Size) (p : Picture) (column row : ℕ) → IsOn p column row → Covers window p → is_seen window (column, row) ≡ true
seen-on window p column row on covers =
    let a : nat_lt column window.columns ≡ true = grind (arith, nat_tests, on.across, covers.across) in
    let b : nat_lt row window.rows ≡ true = grind (arith, nat_tests, on.down, covers.down) in
    rw (a, b) refl

unseen-on : (window : Size) (p : Picture) (column row : ℕ) → IsOn p column row → Covers window p → is_seen window (column, row) ≡ false → ⊥
unseen-on window p column row on covers apart = let clash : true ≡ false = sym (seen-on window p column row on covers) ∙ apart in absurd cc

-- nothing is written where the terminal is known to show it
pub draws-same : {W : Type 0} {seen : W → Seen} {screen : Picture} {painter : Painter} (hand : Hand) {x : Pen W} (column row : ℕ) → IsAlike painter.shown screen → painter.is_known ≡ true
    → cell_at painter.shown column row ≡ cell_at screen column row → Draws seen (IsPlace column row) screen painter painter hand hand x x
draws-same {painter = painter} hand column row alike known same = record {
  known = refl;
  colours = refl;
  window = refl;
  same = refl;
  changes = record {
    size = record { width = refl; height = refl };
    inside = λ a b on here. rw (here.0, here.1) same;
    outside = λ a b on other. refl;
  };
  text = [];
  puts = puts-none hand.waiting.items;
  tells = λ d covers held knows room right. record {
    after = d;
    is = refl;
    law = (
      knows,
      refl,
      record {
        shows = record {
          inside = λ a b on here. (right known).each a b (on-alike alike on) ∙ ap (tile_of painter.colours) (rw (here.0, here.1) same);
          outside = λ a b other. refl;
        };
        right = right;
        stays = stays-none d;
      },
    );
  };
}

module _ (screen : Picture) (old new : Painter) (column row : ℕ) (cell : Glyph) (on : IsOn old.shown column row) (is : cell ≡ cell_at screen column row)
    (took : Changes (IsPlace column row) (λ _ _ _. cell) old.shown new.shown) (known : new.is_known ≡ old.is_known) (colours : new.colours ≡ old.colours) (window : new.window ≡ old.window) where
  taken : cell_at new.shown column row ≡ cell
  taken = took.inside column row on (refl, refl)

  shown-cell : (d : Display) (a b : ℕ) → Displays old.colours old.shown d → IsOn new.shown a b → (drawn old.colours column row cell d).cells a b ≡ tile_of old.colours (cell_at new.shown a b)
  shown-cell d a b shows there = elim (place-test column row a b) [
    | inl here ↦ rw (here.0, here.1) (spot-here d.cells column row (tile_of old.colours cell) ∙ ap (tile_of old.colours) (sym taken))
    | inr other ↦
        spot-other d.cells column row (tile_of old.colours cell) a b other
        ∙ shows.each a b (on_old took there)
        ∙ ap (tile_of old.colours) (sym (took.outside a b (on_old took there) other))
  ]

  drawn-cell : (d : Display) → HasSpace old.shown d → IsShown old d → Drawn (IsPlace column row) screen new d (drawn old.colours column row cell d)
  drawn-cell d room right = record {
    shows = shows-by colours (record {
      inside = λ a b there here. rw (here.0, here.1) (spot-here d.cells column row (tile_of old.colours cell) ∙ ap (tile_of old.colours) is);
      outside = λ a b other. spot-other d.cells column row (tile_of old.colours cell) a b other;
    });
    right = λ k. displays-by colours (record {
      room = record { across = rw took.size.width room.across; down = rw took.size.height room.down };
      each = λ a b there. shown-cell d a b (right (sym known ∙ k)) there;
    });
    stays = record { columns = refl; rows = refl; mouse = refl; reports = refl; meta = refl; alt = refl; pastes = refl; bells = refl; covered = refl; lost = refl };
  }

  cell-changes : Changes (IsPlace column row) (λ a b _. cell_at screen a b) old.shown new.shown
  cell-changes = record {
    size = took.size;
    inside = λ a b there here. rw (here.0, here.1) (taken ∙ is);
    outside = took.outside;
  }

  pub draws-cell : {W : Type 0} {seen : W → Seen} {hand after : Hand} {x y : Pen W} → (column < 999) × (row < 999) → IsPrintable cell
      → PutsPart seen x y hand.waiting.items (cell_bytes hand.colours hand.place hand.attr column row cell) after.waiting.items
      → after.place ≡ Some (record { 0 = column + 1; 1 = row }) → after.attr ≡ Some cell.attr → after.colours ≡ hand.colours → Draws seen (IsPlace column row) screen old new hand after x y
  draws-cell {hand = hand} small printable puts place attr same = record {
    known = known;
    colours = colours;
    window = window;
    same = same;
    changes = cell-changes;
    text = cell_bytes hand.colours hand.place hand.attr column row cell;
    puts = puts;
    tells = λ d covers held knows room right. record {
      after = drawn old.colours column row cell d;
      is =
          ap (λ (c : Colours). told (ground d) (cell_bytes c hand.place hand.attr column row cell)) held
          ∙ told-cell old.colours hand.place hand.attr column row cell d knows printable.narrow printable.scalar printable.attr
          (omega (arith, on.across, room.across)) (omega (arith, on.down, room.down)) small.0 small.1;
      law = (record { stands = rw place (refl, refl); writes = rw (attr, colours) (refl, refl) }, refl, drawn-cell d room right);
    };
  }

-- a place that isn't in the window is taken over, and not written: then the window has not all of the screen
pub draws-unseen : {W : Type 0} {seen : W → Seen} {screen : Picture} {old new : Painter} (hand : Hand) {x : Pen W} (column row : ℕ) (cell : Glyph) → IsOn old.shown column row → cell ≡ cell_at screen column row
    → Changes (IsPlace column row) (λ _ _ _. cell) old.shown new.shown → new.is_known ≡ old.is_known → new.colours ≡ old.colours → new.window ≡ old.window → is_seen new.window (column, row) ≡ false
    → Draws seen (IsPlace column row) screen old new hand hand x x
draws-unseen {screen = screen} {old = old} {new = new} hand column row cell on is took known colours window apart = record {
  known = known;
  colours = colours;
  window = window;
  same = refl;
  changes = cell-changes screen old new column row cell on is took known colours window;
  text = [];
  puts = puts-none hand.waiting.items;
  tells = λ d covers held knows room right. absurd (unseen-on old.window old.shown column row on covers (rw window at apart));
}

not-false : (b : Bool) → not b ≡ false → b ≡ true
not-false true e = refl
not-false false e = absurd cc

-- the test of two cells
pub same-glyph : (a b : Glyph) → not ((a.ch == b.ch) && (a.attr == b.attr)) ≡ false → a ≡ b
same-glyph a b e =
    let both = not-false ((a.ch == b.ch) && (a.attr == b.attr)) e in
    let x = from-eq a.ch b.ch (and-left (a.ch == b.ch) (a.attr == b.attr) both) in
    let y = from-eq a.attr b.attr (and-right (a.ch == b.ch) (a.attr == b.attr) both) in
    ap (λ (c : ℕ). glyph c a.attr) x ∙ ap (glyph b.ch) y
