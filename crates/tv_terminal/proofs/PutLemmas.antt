-- The strips of a row, put one after the other.
use Rattle.std.proofs.Common.{◌≡◌, ℕ, ◌+◌, ◌-◌, ◌≤◌, List, [], ◌∷◌, ◌++◌, flat_map, length, refl, sym, ap, ◌∙◌, append_assoc, arith}
use Rattle.std.proofs.lemmas.List.{append-nil, map-id}
use Rattle.std.proofs.lemmas.List.Concat.{flat_map-append}
use Rattle.std.proofs.lemmas.List.FromFn.{map-range_with_len_more}
use Rattle.std.specs.List.{range_with_len}
use Rattle.tv_cells.specs.Glyph.{Glyph}
use Rattle.tv_io.specs.Pen.{Puts, PutsPart}
use Rattle.tv_io.specs.Writer.{Seen}
use Rattle.tv_io.specs.declared.pen.Pen.{Pen}
use Rattle.tv_io.proofs.PenLemmas.{Puts-none, Puts-then, Puts-along}
use Rattle.tv_terminal.specs.Strips.{cells_from, chars_from, strip_from, strips_of, IsFirstStrip}
use Rattle.tv_terminal.specs.Svg.{cursor_element, ground_element, row_elements, strip_elements, strips_elements}
use Rattle.tv_terminal.proofs.StripLemmas.{length-chars_from, strips-first}

-- ---- rows

range-more : (n : ℕ) → range_with_len 0 (n + 1) ≡ range_with_len 0 n ++ n ∷ []
range-more n = sym (map-id (range_with_len 0 (n + 1))) ∙ map-range_with_len_more (λ x. x) 0 n n (omega arith) ∙ ap (λ xs. xs ++ n ∷ []) (map-id (range_with_len 0 n))

pub rows-more : (f : ℕ → List ℕ) (n : ℕ) → flat_map f (range_with_len 0 n) ++ f n ≡ flat_map f (range_with_len 0 (n + 1))
rows-more f n = sym (ap (flat_map f) (range-more n) ∙ flat_map-append f (range_with_len 0 n) (n ∷ []) ∙ ap (λ (t : List ℕ). flat_map f (range_with_len 0 n) ++ t) (append-nil (f n)))

-- ---- the parts of a strip

pub ground-along : (column row : ℕ) {m n a b : ℕ} → m ≡ n → a ≡ b → ground_element column row m a ≡ ground_element column row n b
ground-along column row {m} {n} {a} {b} e f = ap (λ (x : ℕ). ground_element column row x a) e ∙ ap (λ (x : ℕ). ground_element column row n x) f

pub cursor-along : (column row : ℕ) {m n a b : ℕ} → m ≡ n → a ≡ b → cursor_element column row m a ≡ cursor_element column row n b
cursor-along column row {m} {n} {a} {b} e f = ap (λ (x : ℕ). cursor_element column row x a) e ∙ ap (λ (x : ℕ). cursor_element column row n x) f

-- ---- the strips of a row

strips-next : (at : ℕ → ℕ → Glyph) (row width column end rest : ℕ) → column + rest ≡ width → IsFirstStrip width at row column end
    → strip_elements column row (strip_from at row column (end - column)) ++ strips_elements end row (strips_of (cells_from at row end (width - end)))
    ≡ strips_elements column row (strips_of (cells_from at row column rest))
strips-next at row width column end rest e is =
    let some = is.some in
    let there : end ≡ column + length (chars_from at row column (end - column)) = omega (arith, length-chars_from at row column (end - column)) in
    let one = strip_elements column row (strip_from at row column (end - column)) in
    let others = strips_of (cells_from at row end (width - end)) in
    ap (λ (x : ℕ). one ++ strips_elements x row others) there
    ∙ ap (strips_elements column row) (sym (strips-first at row width column end rest e is))

-- of a row the strips before a column were put
pub record PutsBefore {W : Type 0} (seen : W → Seen) (width : ℕ) (at : ℕ → ℕ → Glyph) (row column : ℕ) (old new : Pen W) : Type 0 where
  pub rest : ℕ
  pub all : column + rest ≡ width
  pub puts : PutsPart seen old new [] (row_elements width at row) (strips_elements column row (strips_of (cells_from at row column rest)))

module _ {W : Type 0} {seen : W → Seen} (width : ℕ) (at : ℕ → ℕ → Glyph) (row : ℕ) where
  pub puts-no_strip : (pen : Pen W) → PutsBefore seen width at row 0 pen pen
  puts-no_strip pen = record { rest = width; all = omega arith; puts = ([], Puts-none, refl) }

  pub puts-next_strip : {a b c : Pen W} (column end : ℕ) → IsFirstStrip width at row column end → PutsBefore seen width at row column a b
      → Puts seen b c (strip_elements column row (strip_from at row column (end - column))) → PutsBefore seen width at row end a c
  puts-next_strip column end is before puts =
      let within = is.within in
      let one = strip_elements column row (strip_from at row column (end - column)) in
      let others = strips_elements end row (strips_of (cells_from at row end (width - end))) in record {
        rest = width - end;
        all = omega arith;
        puts = (
          before.puts.0 ++ one,
          Puts-then before.puts.1 puts,
          append_assoc before.puts.0 one others
              ∙ ap (λ (t : List ℕ). before.puts.0 ++ t) (strips-next at row width column end before.rest before.all is)
              ∙ before.puts.2,
        );
      }

  pub puts-all_strips : {a b : Pen W} (column : ℕ) → width ≤ column → PutsBefore seen width at row column a b → Puts seen a b (row_elements width at row)
  puts-all_strips column le before =
      let all = before.all in
      let none : 0 ≡ before.rest = omega arith in
      Puts-along (
      sym (append-nil before.puts.0)
      ∙ ap (λ (x : ℕ). before.puts.0 ++ strips_elements column row (strips_of (cells_from at row column x))) none
      ∙ before.puts.2
      ) before.puts.1
