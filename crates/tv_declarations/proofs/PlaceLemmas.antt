-- Where a node stands, and its marked text, are read just where they are spelled so.
use Rattle.std.proofs.Common.{◌≡◌, ℕ, List, Some, refl, sym, ap, ◌∙◌, subst}
use Rattle.std.specs.Prelude.{ℤ}
use Rattle.tv_model.specs.declared.kind.MarkedText.{MarkedText}
use Rattle.tv_model.specs.declared.node.Node.{Node}
use Rattle.tv_model.specs.declared.kind.Kind.{Kind}
use Rattle.tv_declarations.specs.declared.place.Place.{Place}
use Rattle.tv_declarations.specs.declared.place.Position.{Position}
use Rattle.tv_words.specs.declared.word.Word.{Word}
use Rattle.tv_words.specs.declared.word.Word.TheVariants.{Quoted}
use Rattle.tv_words.specs.Fields.{text_in}
use Rattle.tv_words.specs.Reading.Numbers.{number_in}
use Rattle.tv_declarations.specs.Reading.Marks.{marked_text_in}
use Rattle.tv_declarations.specs.Reading.Places.{place_from, node_at, mark_in}
use Rattle.tv_words.specs.Fields.{number_word, IsNumber}
use Rattle.tv_declarations.specs.Spelling.Terms.{marked_word, IsMarked}
use Rattle.tv_declarations.specs.Spelling.Nodes.{kind_words, node_words, IsSpelledKind}
use Rattle.tv_declarations.specs.Spelling.Declarations.{IsNode}
use Rattle.tv_declarations.proofs.OptionLemmas.{then_some, with3_some}
use Rattle.tv_words.proofs.FieldLemmas.{number_word_read, text_read}
use Rattle.tv_declarations.proofs.MarkLemmas.{marked_read, read_marked}

pub record PlaceIs (x y w : Word) (p : Place) : Type 0 where
  pub column : x ≡ number_word p.x
  pub row : y ≡ number_word p.y
  pub across : w ≡ number_word p.w
  pub x_fits : IsNumber p.x
  pub y_fits : IsNumber p.y
  pub w_fits : IsNumber p.w

place_made : (x y w : Word) (p : Place) → ((a : ℤ) × (b : ℤ) × (c : ℤ) × (number_in x ≡ Some a) × (number_in y ≡ Some b) × (number_in w ≡ Some c) × (record { x = a; y = b; w = c } ≡ p)) → PlaceIs x y w p
place_made x y w p (a, b, c, ex, ey, ew, same) =
    let rx = number_word_read x a ex in
    let ry = number_word_read y b ey in
    let rw' = number_word_read w c ew in
    subst (PlaceIs x y w) same (record { column = rx.0; row = ry.0; across = rw'.0; x_fits = rx.1; y_fits = ry.1; w_fits = rw'.1 })

pub place_read : (x y w : Word) (p : Place) → place_from x y w ≡ Some p → PlaceIs x y w p
place_read x y w p e = place_made x y w p (with3_some _ (number_in x) (number_in y) (number_in w) p e)

pub mark_read : (w : Word) (m : MarkedText) → mark_in w ≡ Some m → (w ≡ marked_word m) × IsMarked m
mark_read w m e =
    let t = then_some marked_text_in (text_in w) m e in
    let r = marked_read t.0 m t.2 in
    (text_read w t.0 t.1 ∙ ap (λ x. Quoted x) (sym r.0), r.1)

pub read_mark : (m : MarkedText) → IsMarked m → mark_in (marked_word m) ≡ Some m
read_mark m is = read_marked m is

-- a node at this position, with these words
pub record IsNodeOf (at : Position) (n : Node) (ws : List Word) : Type 0 where
  pub is : IsNode at.id.0 n
  pub depth : n.depth ≡ at.depth
  pub words : ws ≡ node_words n

pub node_made : (at : Position) (x y w : Word) (p : Place) (kind : Kind) (ws : List Word) (n : Node) → place_from x y w ≡ Some p → IsSpelledKind kind → ws ≡ kind_words kind x y w → node_at at p kind ≡ n → IsNodeOf at n ws
node_made at x y w p kind ws n ep is words same =
    let place = place_read x y w p ep in
    let spelled : ws ≡ node_words (node_at at p kind) = rw (← place.column, ← place.row, ← place.across) words in
    subst (λ v. IsNodeOf at v ws) same (record { is = record { id = refl; x = place.x_fits; y = place.y_fits; w = place.w_fits; kind = is }; depth = refl; words = spelled })

-- the position of a line
abbrev pub on_line : ℕ → ℕ → Position
on_line line depth = record { id = record { 0 = line }; depth = depth }
