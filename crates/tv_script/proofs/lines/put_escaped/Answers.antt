use Rattle.std.proofs.Common.{◌≡◌, ◌==◌, ◌||◌, ℕ, List, [], ◌∷◌, ◌++◌, false, refl, ap, sym, ◌∙◌, encode_utf8, flat_map, arith}
use Rattle.std.proofs.lemmas.Bool.{or_parts}
use Rattle.std.specs.List.{list_any}
use Rattle.tv_model.specs.Log.LogText.{escaped_in_log}
use Rattle.tv_io.proofs.PenLemmas.{Puts-along}
use Rattle.tv_script.proofs.lines.put_escaped.Goals as goal

-- a character that isn't escaped, and a text of such characters
plain_char : (ch : ℕ) → (ch == 34 || ch == 92) ≡ false → encode_utf8 ch ≡ escaped_in_log ch
plain_char ch none = grind arith

plain_text : (text : List ℕ) → list_any (λ ch. ch == 34 || ch == 92) text ≡ false → flat_map encode_utf8 text ≡ flat_map escaped_in_log text
plain_text [] none = refl
plain_text (ch ∷ text) none =
    let both = or_parts (ch == 34 || ch == 92) (list_any (λ c. c == 34 || c == 92) text) none in
    ap (λ (t : List ℕ). t ++ flat_map encode_utf8 text) (plain_char ch both.0) ∙ ap (λ (t : List ℕ). escaped_in_log ch ++ t) (plain_text text both.1)

pub returns-else-has_escapes : goal.returns-else-has_escapes
returns-else-has_escapes g c = Puts-along (plain_text c.args.text.now (sym c.has_escapes.ensures ∙ c.if-has_escapes.false)) c.put_chars.ensures
