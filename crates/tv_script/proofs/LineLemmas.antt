-- The words of a line are read as the line that they spell.
use Rattle.std.proofs.Common.{◌≡◌, ℕ, Bool, true, false, cond, List, [], ◌∷◌, Option, Some, None, refl, sym, ap, ◌∙◌, subst}
use Rattle.std.specs.Prelude.{codes}
use Rattle.std.specs.Option.{option_map}
use Rattle.std.specs.List.{list_any}
use Rattle.tv_cells.specs.declared.rect.Point.{Point}
use Rattle.tv_declarations.proofs.KeyLemmas.{key_read, read_key}
use Rattle.tv_declarations.proofs.OptionLemmas.{with2_some}
use Rattle.tv_declarations.specs.Reading.Keys.{key_in}
use Rattle.tv_declarations.specs.Spelling.Keys.{key_word}
use Rattle.tv_event.specs.declared.event.Key.{Key}
use Rattle.tv_script.specs.Line.{Line}
use Rattle.tv_script.specs.Line as lines
use Rattle.tv_script.specs.Lines.{IsLine, IsPoint, ends_line, point_words, words_of_line}
use Rattle.tv_script.specs.Reading.Lines.{script_line_in, point_in, typed_line}
use Rattle.tv_words.proofs.FieldLemmas.{number_word_read, read_number_word, text_read, word_is}
use Rattle.tv_words.specs.declared.word.Word.{Word}
use Rattle.tv_words.specs.declared.word.Word.TheVariants.{Bare, Quoted}
use Rattle.tv_words.specs.Fields.{is_bare_word, number_word, text_in}
use Rattle.tv_words.specs.Reading.Numbers.{number_in}

-- ---- what is read is spelled

abbrev LineOf : Line → List Word → Type 0
LineOf l ws = (words_of_line l ≡ ws) × IsLine l

screen_if : (k : Word) (l : Line) (a b : Bool) → is_bare_word k (codes "shot") ≡ a → is_bare_word k (codes "colors") ≡ b → cond a (Some lines.Shot) (cond b (Some lines.Colors) None) ≡ Some l → LineOf l (k ∷ [])
screen_if k l true b ea eb e = let same : lines.Shot ≡ l = cc in subst (λ x. LineOf x (k ∷ [])) same (ap (λ w. w ∷ []) (sym (word_is k (codes "shot") ea)), tt)
screen_if k l false true ea eb e = let same : lines.Colors ≡ l = cc in subst (λ x. LineOf x (k ∷ [])) same (ap (λ w. w ∷ []) (sym (word_is k (codes "colors") eb)), tt)
screen_if k l false false ea eb e = absurd cc

keyed : (k w : Word) (l : Line) (o : Option Key) → k ≡ Bare (codes "key") → key_in w ≡ o → option_map lines.Key o ≡ Some l → LineOf l (k ∷ w ∷ [])
keyed k w l None ek eo e = absurd cc
keyed k w l (Some key) ek eo e =
    let same : lines.Key key ≡ l = cc in
    let r = key_read w key eo in
    let words : words_of_line (lines.Key key) ≡ k ∷ w ∷ [] = ap (λ x. x ∷ key_word key ∷ []) (sym ek) ∙ ap (λ x. k ∷ x ∷ []) (sym r.0) in
    subst (λ x. LineOf x (k ∷ w ∷ [])) same (words, r.1)

typed_if : (k w : Word) (l : Line) (text : List ℕ) (b : Bool) → k ≡ Bare (codes "type") → w ≡ Quoted text → list_any ends_line text ≡ b → cond b None (Some (lines.Typed text)) ≡ Some l → LineOf l (k ∷ w ∷ [])
typed_if k w l text false ek ew eb e =
    let same : lines.Typed text ≡ l = cc in
    let words : words_of_line (lines.Typed text) ≡ k ∷ w ∷ [] = ap (λ x. x ∷ Quoted text ∷ []) (sym ek) ∙ ap (λ x. k ∷ x ∷ []) (sym ew) in
    subst (λ x. LineOf x (k ∷ w ∷ [])) same (words, eb)
typed_if k w l text true ek ew eb e = absurd cc

typed_read : (k w : Word) (l : Line) (o : Option (List ℕ)) → k ≡ Bare (codes "type") → text_in w ≡ o → typed_line o ≡ Some l → LineOf l (k ∷ w ∷ [])
typed_read k w l None ek eo e = absurd cc
typed_read k w l (Some text) ek eo e = typed_if k w l text (list_any ends_line text) ek (text_read w text eo) refl e

two_if : (k w : Word) (l : Line) (a b : Bool) → is_bare_word k (codes "key") ≡ a → is_bare_word k (codes "type") ≡ b → cond a (option_map lines.Key (key_in w)) (cond b (typed_line (text_in w)) None) ≡ Some l → LineOf l (k ∷ w ∷ [])
two_if k w l true b ea eb e = keyed k w l (key_in w) (word_is k (codes "key") ea) refl e
two_if k w l false true ea eb e = typed_read k w l (text_in w) (word_is k (codes "type") eb) refl e
two_if k w l false false ea eb e = absurd cc

abbrev Places : Word → Word → Point → Type 0
Places x y p = (x ≡ number_word p.x) × (y ≡ number_word p.y) × IsPoint p

point_read : (x y : Word) (p : Point) → point_in x y ≡ Some p → Places x y p
point_read x y p e =
    let r = with2_some (λ x y. record { x = x; y = y }) (number_in x) (number_in y) p e in
    let a = number_word_read x r.0 r.2 in
    let b = number_word_read y r.1 r.3 in
    subst (Places x y) r.4 (a.0, b.0, (a.1, b.1))

pointed : (keyword : List ℕ) (k x y : Word) (make : Point → Line) → ((p : Point) → IsPoint p → LineOf (make p) (point_words keyword p)) → k ≡ Bare keyword → (o : Option Point) (l : Line) → point_in x y ≡ o → option_map make o ≡ Some l → LineOf l (k ∷ x ∷ y ∷ [])
pointed keyword k x y make spelled ek None l eo e = absurd cc
pointed keyword k x y make spelled ek (Some p) l eo e =
    let same : make p ≡ l = cc in
    let r = point_read x y p eo in
    let s = spelled p r.2 in
    let words : point_words keyword p ≡ k ∷ x ∷ y ∷ [] = rw (ek, r.0, r.1) refl in
    subst (λ m. LineOf m (k ∷ x ∷ y ∷ [])) same (s.0 ∙ words, s.1)

three_if : (k x y : Word) (l : Line) (a b c : Bool) → is_bare_word k (codes "down") ≡ a → is_bare_word k (codes "move") ≡ b → is_bare_word k (codes "up") ≡ c → cond a (option_map lines.Down (point_in x y)) (cond b (option_map lines.Move (point_in x y)) (cond c (option_map lines.Up (point_in x y)) None)) ≡ Some l → LineOf l (k ∷ x ∷ y ∷ [])
three_if k x y l true b c ea eb ec e = pointed (codes "down") k x y lines.Down (λ p is. (refl, is)) (word_is k (codes "down") ea) (point_in x y) l refl e
three_if k x y l false true c ea eb ec e = pointed (codes "move") k x y lines.Move (λ p is. (refl, is)) (word_is k (codes "move") eb) (point_in x y) l refl e
three_if k x y l false false true ea eb ec e = pointed (codes "up") k x y lines.Up (λ p is. (refl, is)) (word_is k (codes "up") ec) (point_in x y) l refl e
three_if k x y l false false false ea eb ec e = absurd cc

pub line_read : (ws : List Word) (l : Line) → script_line_in ws ≡ Some l → (words_of_line l ≡ ws) × IsLine l
line_read [] l e = absurd cc
line_read (k ∷ []) l e = screen_if k l (is_bare_word k (codes "shot")) (is_bare_word k (codes "colors")) refl refl e
line_read (k ∷ w ∷ []) l e = two_if k w l (is_bare_word k (codes "key")) (is_bare_word k (codes "type")) refl refl e
line_read (k ∷ x ∷ y ∷ []) l e = three_if k x y l (is_bare_word k (codes "down")) (is_bare_word k (codes "move")) (is_bare_word k (codes "up")) refl refl refl e
line_read (a ∷ b ∷ c ∷ d ∷ es) l e = absurd cc

-- ---- what is spelled is read

read_point : (p : Point) → IsPoint p → point_in (number_word p.x) (number_word p.y) ≡ Some p
read_point p is = rw (read_number_word p.x is.0, read_number_word p.y is.1) refl

pub read_line : (l : Line) → IsLine l → script_line_in (words_of_line l) ≡ Some l
read_line (lines.Key key) is = ap (option_map lines.Key) (read_key key is)
read_line (lines.Typed text) is = rw is refl
read_line (lines.Down p) is = ap (option_map lines.Down) (read_point p is)
read_line (lines.Move p) is = ap (option_map lines.Move) (read_point p is)
read_line (lines.Up p) is = ap (option_map lines.Up) (read_point p is)
read_line lines.Shot is = refl
read_line lines.Colors is = refl
