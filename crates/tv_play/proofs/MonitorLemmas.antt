-- What is written below the screen.
use Rattle.std.proofs.Common.{◌≡◌, ℕ, ◌<◌, ◌≤◌, ◌-◌, Bool, true, false, ◌&&◌, if◌then◌else◌, List, [], ◌∷◌, ◌++◌, length, take, Option, Some, None, is_some, min, nat_lt, inl, inr, refl, sym, ap, subst, ◌∙◌, arith}
use Rattle.std.proofs.lemmas.Bool.Decides.{nat_tests}
use Rattle.std.proofs.lemmas.List.{take_all}
use Rattle.std.proofs.lemmas.Bool.{cases_lt}
use Rattle.std.specs.Option.{option_or}
use Rattle.tv_cells.specs.Picture.{IsAlike, Picture, cell_at}
use Rattle.tv_cells.specs.Repainting.{has_cell}
use Rattle.tv_io.specs.Writer.{Seen}
use Rattle.tv_io.specs.declared.pen.Pen.{Pen}
use Rattle.tv_io.proofs.PenLemmas.{Puts-none, Puts-then}
use Rattle.tv_model.specs.Description.Numbers.{natural}
use Rattle.tv_model.specs.declared.desc.Desc.{Desc}
use Rattle.tv_machine.specs.Run.{Session}
use Rattle.tv_play.proofs.ActionLemmas.{desc-reached, size-push}
use Rattle.tv_play.specs.Ends.{reached}
use Rattle.tv_play.specs.Shown.{HasSize}
use Rattle.tv_terminal.specs.declared.action.Action.{Action}
use Rattle.tv_play.specs.Notes.{FitsTold, IsMonitorOf, IsSaid, Renotes, SaysClipped, ShowsNote, WritesNote, has_room, size_told, size_with, window_of}
use Rattle.tv_play.specs.declared.monitor.Monitor.{Monitor}
use Rattle.tv_play.specs.declared.refusal.Refusal.{Refusal}
use Rattle.tv_play.proofs.ShownLemmas.{covers-told, size-alike, size-or}
use Rattle.tv_terminal.specs.Notes.{Notes, note_tile}
use Rattle.tv_terminal.specs.Terminal.{Display}
use Rattle.tv_terminal.specs.Writing.{Covers, Paints}
use Rattle.tv_terminal.specs.declared.action.Size.{Size}
use Rattle.tv_terminal.specs.declared.painter.Painter.{Painter}
use Rattle.tv_terminal.proofs.DrawLemmas.{stays-none, tells-as}

not-both : (b : Bool) → b ≡ true → b ≡ false → ⊥
not-both b one other = let clash : true ≡ false = sym one ∙ other in absurd cc

right-of : (a b : Bool) → a && b ≡ true → b ≡ true
right-of true b e = e
right-of false b e = absurd cc

rows-of : (d : Desc) (size : Size) (window : Size) → has_room d size ≡ true → window ≡ window_of d (Some size) → window.rows ≡ natural d.height
rows-of d size window room is = ap (λ (w : Size). w.rows) (rw room at is)

few-by : (d : Desc) (size : Size) (b : Bool) (w : Size) → w ≡ (if b then record { columns = natural d.width; rows = natural d.height } else record { columns = size.columns; rows = min (natural d.height) (size.rows - 1) })
    → w.rows ≤ natural d.height
few-by d size true w e = omega (arith, ap (λ (v : Size). v.rows) e)
few-by d size false w e = grind (arith, ap (λ (v : Size). v.rows) e)

-- a window has no more rows than the screen
pub few-rows : (d : Desc) (size : Option Size) (window : Size) → window ≡ window_of d size → window.rows ≤ natural d.height
few-rows d None window is = omega (arith, ap (λ (v : Size). v.rows) is)
few-rows d (Some size) window is = few-by d size (has_room d size) window is

-- nothing was written
nothing-written : {W : Type 0} {seen : W → Seen} {d : Desc} {refusal : Option Refusal} {monitor : Monitor} {x : Pen W} → ((f : Display) → FitsTold d monitor.size f → ShowsNote d monitor.size refusal f)
    → WritesNote seen d refusal monitor monitor x x
nothing-written blank = record {
  size = refl;
  window = refl;
  known = refl;
  colours = refl;
  shown = refl;
  bytes = [];
  puts = Puts-none;
  tells = λ f fits right. record { after = f; is = refl; law = record { note = blank f fits; above = λ column row lt. refl; right = right; stays = stays-none f } };
}

pub untold-unwritten : {W : Type 0} {seen : W → Seen} {d : Desc} {refusal : Option Refusal} {monitor : Monitor} {x : Pen W} → monitor.size ≡ None → WritesNote seen d refusal monitor monitor x x
untold-unwritten {d = d} {refusal = refusal} untold = nothing-written (λ f fits. subst (λ o. ShowsNote d o refusal f) (sym untold) tt)

-- there is no row for it
pub roomless-unwritten : {W : Type 0} {seen : W → Seen} {d : Desc} {refusal : Option Refusal} {monitor : Monitor} {x : Pen W} (size : Size) → monitor.size ≡ Some size → monitor.painter.window ≡ window_of d monitor.size
    → size.rows ≤ monitor.painter.window.rows → WritesNote seen d refusal monitor monitor x x
roomless-unwritten {d = d} {refusal = refusal} {monitor = monitor} size told framed few = nothing-written (λ f fits.
    let room : has_room d size ≡ true = (subst (λ o. FitsTold d o f) told fits).0 in
    let rows : monitor.painter.window.rows ≡ natural d.height = rows-of d size monitor.painter.window room (framed ∙ ap (window_of d) told) in
    let none : nat_lt (natural d.height) size.rows ≡ false = grind (arith, nat_tests, few, rows) in
    subst (λ o. ShowsNote d o refusal f) (sym told) (λ has. absurd (not-both (nat_lt (natural d.height) size.rows) (right-of (has_room d size) (nat_lt (natural d.height) size.rows) has) none)))

pub take-least : (n : ℕ) (line : List ℕ) → take (min (length line) n) line ≡ take n line
take-least n line = elim (cases_lt n (length line)) [
  | inl less ↦ let e : min (length line) n ≡ n = grind (arith, less) in rw e refl
  | inr more ↦ let e : min (length line) n ≡ length line = grind (arith, more) in rw e (take_all (length line) line (omega arith) ∙ sym (take_all n line more))
]

-- it was written
pub note-written : {W : Type 0} {seen : W → Seen} {x y : Pen W} (d : Desc) (refusal : Option Refusal) (old new : Monitor) (size : Size) (row : ℕ) (line text : List ℕ) → old.size ≡ Some size → new.size ≡ old.size
    → IsMonitorOf d old → row ≡ old.painter.window.rows → row < size.rows → text ≡ take (size.columns - 1) line → length text ≤ size.columns - 1
    → (Covers old.painter.window old.painter.shown → IsSaid d refusal line) → Notes seen row text old.painter new.painter x y → WritesNote seen d refusal old new x y
note-written d refusal old new size row line text told still is at less cut short said n = record {
  size = still;
  window = n.window;
  known = n.known;
  colours = n.colours;
  shown = n.shown;
  bytes = _;
  puts = n.puts;
  tells = λ f fits right.
      let fits' = subst (λ o. FitsTold d o f) told fits in
      let covers : Covers old.painter.window old.painter.shown = covers-told d old.size old.painter.window old.painter.shown f fits is.window is.width is.height in
      let rows : row ≡ natural d.height = at ∙ rows-of d size old.painter.window fits'.0 (is.window ∙ ap (window_of d) told) in
      let wide : natural d.width ≤ size.columns = grind (arith, nat_tests, fits'.0) in
      tells-as (λ e noted. record {
        note = subst (λ o. ShowsNote d o refusal e) (sym (still ∙ told)) (λ has. record {
          line = line;
          said = said covers;
          row = λ column. subst (λ r. e.cells column r ≡ note_tile (take (size.columns - 1) line) column) rows (noted.note.inside column ∙ ap (λ t. note_tile t column) cut);
        });
        above = λ column other lt. noted.note.outside column other (λ e. omega (arith, e, lt, rows));
        right = noted.right;
        stays = noted.stays;
      }) (n.tells f covers (omega (arith, less, fits'.2)) (omega (arith, short, fits'.1, wide, is.filled)) right);
}

-- ---- unless there is none and was none

pub renotes-written : {W : Type 0} {seen : W → Seen} {d : Desc} {refusal : Option Refusal} {old mid new : Monitor} {x y : Pen W} → new.painter ≡ mid.painter → new.size ≡ mid.size → new.is_noted ≡ is_some refusal
    → WritesNote seen d refusal old mid x y → Renotes seen d refusal old new x y
renotes-written {d = d} {refusal = refusal} {old = old} {mid = mid} {new = new} same sized noted w = record {
  size = sized ∙ w.size;
  noted = noted;
  window = ap (λ (q : Painter). q.window) same ∙ w.window;
  known = ap (λ (q : Painter). q.is_known) same ∙ w.known;
  colours = ap (λ (q : Painter). q.colours) same ∙ w.colours;
  shown = ap (λ (q : Painter). q.shown) same ∙ w.shown;
  bytes = w.bytes;
  puts = w.puts;
  tells = λ f fits right before. tells-as (λ e law. record {
    note = subst (λ o. ShowsNote d o refusal e) (sym sized) law.note;
    above = law.above;
    right = rw same law.right;
    stays = law.stays;
  }) (w.tells f fits right);
}

pub renotes-none : {W : Type 0} {seen : W → Seen} {d : Desc} {refusal : Option Refusal} {monitor : Monitor} {x : Pen W} → monitor.is_noted ≡ false → refusal ≡ None → Renotes seen d refusal monitor monitor x x
renotes-none {d = d} {refusal = refusal} {monitor = monitor} unnoted none = record {
  size = refl;
  noted = unnoted ∙ ap (λ (o : Option Refusal). is_some o) (sym none);
  window = refl;
  known = refl;
  colours = refl;
  shown = refl;
  bytes = [];
  puts = Puts-none;
  tells = λ f fits right before. record {
    after = f;
    is = refl;
    law = record { note = subst (λ o. ShowsNote d monitor.size o f) (sym none) (before unnoted); above = λ column row lt. refl; right = right; stays = stays-none f };
  };
}

-- ---- a terminal that is too small

pub says-clipped : {W : Type 0} {seen : W → Seen} {d : Desc} {old mid new : Monitor} {screen : Picture} {cursor : Option (ℕ × ℕ)} {x y z : Pen W} → WritesNote seen d None old mid x y → mid.is_noted ≡ old.is_noted
    → Paints seen (λ column row. has_cell [] column row ≡ true) screen cursor mid.painter new.painter y z → new.size ≡ mid.size → new.is_noted ≡ mid.is_noted
    → (Covers old.painter.window old.painter.shown → ⊥) → SaysClipped seen old new x z
says-clipped {old = old} {mid = mid} {new = new} w noted p sized still clipped = record {
  size = sized ∙ w.size;
  noted = still ∙ noted;
  window = p.window ∙ w.window;
  known = p.known ∙ w.known;
  colours = p.colours ∙ w.colours;
  alike = record { width = p.changes.size.width ∙ ap (λ (q : Picture). q.width) w.shown; height = p.changes.size.height ∙ ap (λ (q : Picture). q.height) w.shown };
  cells = λ column row on. p.changes.outside column row (rw w.shown on) (λ e. absurd cc) ∙ ap (λ (q : Picture). cell_at q column row) w.shown;
  bytes = w.bytes ++ p.bytes;
  puts = Puts-then w.puts p.puts;
  still = λ covers. absurd (clipped covers);
}

pub clipped-monitor : {W : Type 0} {seen : W → Seen} {x y : Pen W} (d : Desc) (old new : Monitor) → SaysClipped seen old new x y → IsMonitorOf d old → IsMonitorOf d new
clipped-monitor d old new c is = size-alike c.alike (c.window ∙ is.window ∙ ap (window_of d) (sym c.size)) is

-- ---- one event more

-- what is known is of the session that some actions reach
pub monitor-reached : (s t : Session) (actions : List Action) (monitor : Monitor) → IsMonitorOf t.desc monitor → HasSize (reached s actions) monitor.painter → monitor.painter.window ≡ window_of s.desc monitor.size
    → IsMonitorOf (reached s actions).desc monitor
monitor-reached s t actions monitor is size framed = record {
  width = size.width;
  height = size.height;
  window = framed ∙ ap (λ (d : Desc). window_of d monitor.size) (sym (desc-reached s actions));
  filled = omega (arith, is.filled, is.width, size.width);
  low = omega (arith, is.low, is.height, size.height);
}

-- ---- the whole screen

pub begun-monitor : (d : Desc) (old mid : Monitor) (screen : Picture) (frame : Size) → IsAlike old.painter.shown screen → IsAlike old.painter.shown mid.painter.shown → mid.painter.window ≡ frame
    → ((e : Desc) → screen.width ≡ natural e.width → screen.height ≡ natural e.height → frame ≡ window_of e mid.size) → IsMonitorOf d old → IsMonitorOf d mid
begun-monitor d old mid screen frame screened alike window framed is =
    size-alike alike (window ∙ framed d (screened.width ∙ is.width) (screened.height ∙ is.height)) is

pub sized-told : (actions : List Action) (a : Action) (told size : Option Size) → told ≡ size_with None a → size ≡ size_told actions → option_or told size ≡ size_told (actions ++ a ∷ [])
sized-told actions a told size is so_far = ap (λ o. option_or o size) is ∙ size-or size a ∙ ap (λ o. size_with o a) so_far ∙ sym (size-push None actions a)
