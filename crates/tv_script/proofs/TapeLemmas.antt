-- The lines of events spell the script of these events.
use Rattle.std.proofs.Common.{◌≡◌, ◌≢◌, ℕ, suc, lit≤, ◌^◌, ◌<◌, ◌≤◌, nat_le, nat_lt, ◌==◌, Bool, true, false, cond, ◌&&◌, ◌||◌, List, [], ◌∷◌, ◌++◌, length, map, refl, sym, ap, subst, ◌∙◌, append_assoc, arith}
use Rattle.std.specs.Prelude.{ℤ, pos, negsuc, IsAscii, IsTrue, codes, decimal, encode_utf8, encode_utf8_all}
use Rattle.std.specs.Char.{is_ascii_digit, is_ascii_uppercase, is_control}
use Rattle.std.specs.Fmt.{signed_decimal}
use Rattle.std.specs.Int.{IsInRange}
use Rattle.std.specs.List.{AllByRecursion, list_all}
use Rattle.std.specs.Str.Parse.{AllDigits, digits_value}
use Rattle.std.proofs.lemmas.Bool.{and_parts}
use Rattle.std.proofs.lemmas.Bool.Decides.{nat_tests}
use Rattle.std.proofs.lemmas.Fmt.{decimal_nonempty, digits_decimal}
use Rattle.std.proofs.lemmas.List.{append-nil, length-map}
use Rattle.std.proofs.lemmas.Str.{IsAscii-append, encode_ascii, encodes-IsAscii, encodes-append}
use Rattle.std.proofs.lemmas.Str.Ascii.{IsAscii-cons, IsAscii-nil}
use Rattle.std.proofs.lemmas.Str.Parse.{IsNumeralModel, digit_from_value, numerals_by_value, tells_digits}
use lib.Utf8.{scalar}
use Rattle.tv_cells.specs.declared.rect.Point.{Point}
use Rattle.tv_declarations.specs.Spelling.Keys.{IsKey, key_name, key_text}
use Rattle.tv_event.specs.declared.event.Event.{Event}
use Rattle.tv_event.specs.declared.event.Event.TheVariants as events
use Rattle.tv_event.specs.declared.event.Key.{Key}
use Rattle.tv_event.specs.declared.event.Key.TheVariants as keys
use Rattle.tv_machine.specs.declared.script.Item.TheVariants as items
use Rattle.tv_model.specs.Log.LogText.{escaped_in_log, line_of, quoted_text}
use Rattle.tv_script.specs.Line.{Line}
use Rattle.tv_script.specs.Line as lines
use Rattle.tv_script.specs.Lines.{IsLine, IsPoint, is_on_screen, items_of, items_of_line, words_of_line}
use Rattle.tv_script.specs.Scripts.{IsScript, SpellsAScript, script_words}
use Rattle.tv_script.specs.Tapes.{IsPointOf, IsSayable, IsSayableKey, TapesAreScripts, event_line, key_line, key_rest, key_words, point_line, said, script_text, script_with}
use Rattle.tv_words.proofs.CanonicalLineLemmas.{Stands, is_plain}
use Rattle.tv_words.proofs.CanonicalTextLemmas.{StandInLine, stand_spelled}
use Rattle.tv_words.specs.Canonical.{canonical_line, canonical_text, ended_line}
use Rattle.tv_words.specs.Fields.{IsNumber, number_word}
use Rattle.tv_words.specs.Lines.{lines_of}
use Rattle.tv_words.specs.Texts.{EachSpells, declarations}
use Rattle.tv_words.specs.Words.{escaped, is_bare}
use Rattle.tv_words.specs.declared.word.Word.{Word}
use Rattle.tv_words.specs.declared.word.Word.TheVariants.{Bare, Quoted}

-- ---- lines

-- a line is its words and the line end
pub said_line : (keyword rest : List ℕ) → said keyword rest ++ 10 ∷ [] ≡ line_of keyword rest
unfolding line_of said
said_line keyword rest = refl

pub key_line_words : (key : Key) → key_words key ++ 10 ∷ [] ≡ key_line key
key_line_words (keys.Char ch) = said_line (codes "type ") (quoted_text (ch ∷ []))
key_line_words key = said_line (codes "key ") (key_name key ++ key_rest key)

-- ---- characters of bare words

-- from `-` to `z`
abbrev is_common : ℕ → Bool
is_common c = nat_le 45 c && nat_le c 122

bare_char : (c : ℕ) → is_common c ≡ true → is_bare c ≡ true
bare_char c e = grind (arith, nat_tests)

plain_char : (c : ℕ) → is_common c ≡ true → is_plain c ≡ true
plain_char c e = grind (arith, nat_tests)

small_char : (c : ℕ) → is_common c ≡ true → c < 128
small_char c e = grind (arith, nat_tests)

all_chars : (p : ℕ → Bool) → ((c : ℕ) → is_common c ≡ true → p c ≡ true) → (cs : List ℕ) → list_all is_common cs ≡ true → list_all p cs ≡ true
all_chars p f [] e = refl
all_chars p f (c ∷ cs) e = let h = and_parts (is_common c) (list_all is_common cs) e in rw (f c h.0, all_chars p f cs h.1) refl

pub common_stands : (cs : List ℕ) → cs ≢ [] → list_all is_common cs ≡ true → Stands (Bare cs)
common_stands cs some e = ((some, all_chars is_bare bare_char cs e), all_chars is_plain plain_char cs e)

common_ascii : (cs : List ℕ) → list_all is_common cs ≡ true → IsAscii cs
common_ascii [] e = IsAscii-nil
common_ascii (c ∷ cs) e = let h = and_parts (is_common c) (list_all is_common cs) e in IsAscii-cons c cs (small_char c h.0) (common_ascii cs h.1)

-- ---- numbers

own : IsNumeralModel (AllDigits 10) (digits_value 10)
own = numerals_by_value (AllDigits 10) tells_digits

digit_char : (c : ℕ) → IsInRange 48 57 c → is_common c ≡ true
digit_char c r = grind (arith, nat_tests, r.0, r.1)

digit_chars : (cs : List ℕ) → AllDigits 10 cs → list_all is_common cs ≡ true
digit_chars [] all = refl
digit_chars (c ∷ cs) all = rw (digit_char c (digit_from_value c all.0), digit_chars cs all.1) refl

decimal_chars : (n : ℕ) → n < 2 ^ 64 → list_all is_common (decimal n) ≡ true
decimal_chars n small = digit_chars (decimal n) (digits_decimal own n small)

number_chars : (z : ℤ) → IsNumber z → list_all is_common (signed_decimal z) ≡ true
number_chars (pos n) fits = decimal_chars n (omega (arith, fits.sfits))
number_chars (negsuc n) fits = decimal_chars (suc n) (omega (arith, fits.sfits))

some_digits : (n : ℕ) → n < 2 ^ 64 → decimal n ≢ []
some_digits n small e = omega (arith, decimal_nonempty n small, ap length e)

some_number : (z : ℤ) → IsNumber z → signed_decimal z ≢ []
some_number (pos n) fits = some_digits n (omega (arith, fits.sfits))
some_number (negsuc n) fits = λ e. cc

number_stands : (z : ℤ) → IsNumber z → Stands (number_word z)
number_stands z fits = common_stands (signed_decimal z) (some_number z fits) (number_chars z fits)

-- ---- bytes

pub small_chars : (cs : List ℕ) → list_all (λ c. nat_lt c 128) cs ≡ true → IsAscii cs
small_chars [] e = IsAscii-nil
small_chars (c ∷ cs) e =
    let h = and_parts (nat_lt c 128) (list_all (λ c. nat_lt c 128) cs) e in
    let small : c < 128 = grind (arith, nat_tests, h.0) in
    IsAscii-cons c cs small (small_chars cs h.1)

ended : (ws : List Word) → IsAscii (canonical_line ws) → ended_line ws ≡ canonical_line ws ++ 10 ∷ []
unfolding ended_line
ended ws ascii = ap (λ x. x ++ 10 ∷ []) (encodes-IsAscii (canonical_line ws) ascii)

-- the line of a keyword and a bare word
key_text_line : (name : List ℕ) → list_all is_common name ≡ true → line_of (codes "key ") name ≡ ended_line (Bare (codes "key") ∷ Bare name ∷ [])
unfolding line_of
key_text_line name common =
    let ascii : IsAscii (codes "key " ++ (name ++ [])) =
    IsAscii-append (codes "key ") (name ++ []) (small_chars (codes "key ") refl) (IsAscii-append name [] (common_ascii name common) IsAscii-nil) in
    ap (λ x. (codes "key " ++ x) ++ 10 ∷ []) (sym (append-nil name)) ∙ sym (ended (Bare (codes "key") ∷ Bare name ∷ []) ascii)

-- the line of a keyword and a point
point_text_line : (word : List ℕ) (p : Point) → list_all is_common word ≡ true → IsPoint p → point_line (word ++ 32 ∷ []) p ≡ ended_line (Bare word ∷ number_word p.x ∷ number_word p.y ∷ [])
unfolding line_of
point_text_line word p common is =
    let x = signed_decimal p.x in
    let y = signed_decimal p.y in
    let last : IsAscii (32 ∷ (y ++ [])) = IsAscii-cons 32 (y ++ []) (lit≤ tt) (IsAscii-append y [] (common_ascii y (number_chars p.y is.1)) IsAscii-nil) in
    let both : IsAscii (32 ∷ (x ++ (32 ∷ (y ++ [])))) = IsAscii-cons 32 _ (lit≤ tt) (IsAscii-append x _ (common_ascii x (number_chars p.x is.0)) last) in
    ap (λ t. t ++ 10 ∷ [])
    (append_assoc word (32 ∷ []) ((x ++ (32 ∷ [])) ++ y)
    ∙ ap (λ t. word ++ (32 ∷ t)) (append_assoc x (32 ∷ []) y ∙ ap (λ t. x ++ (32 ∷ t)) (sym (append-nil y))))
    ∙ sym (ended (Bare word ∷ number_word p.x ∷ number_word p.y ∷ []) (IsAscii-append word _ (common_ascii word common) both))

-- a character between quotes
pub escaped_if : (ch : ℕ) (a b c : Bool) → c ≡ false → encode_utf8_all (cond a (92 ∷ 34 ∷ []) (cond b (92 ∷ 92 ∷ []) (cond c (92 ∷ 110 ∷ []) (ch ∷ [])))) ≡ cond a (92 ∷ 34 ∷ []) (cond b (92 ∷ 92 ∷ []) (encode_utf8 ch))
escaped_if ch true b c e = encodes-IsAscii (92 ∷ 34 ∷ []) (small_chars (92 ∷ 34 ∷ []) refl)
escaped_if ch false true c e = encodes-IsAscii (92 ∷ 92 ∷ []) (small_chars (92 ∷ 92 ∷ []) refl)
escaped_if ch false false true e = absurd cc
escaped_if ch false false false e = append-nil (encode_utf8 ch)

pub no_end : (ch : ℕ) → is_control ch ≡ false → (ch == 10) ≡ false
no_end ch clean = grind (arith, nat_tests)

typed_text_line : (ch : ℕ) → is_control ch ≡ false → key_line (keys.Char ch) ≡ ended_line (Bare (codes "type") ∷ Quoted (ch ∷ []) ∷ [])
unfolding line_of ended_line
typed_text_line ch clean =
    let front = codes "type " ++ 34 ∷ [] in
    let e = escaped ch in
    let l = escaped_in_log ch in
    let same : encode_utf8_all e ≡ l = escaped_if ch (ch == 34) (ch == 92) (ch == 10) (no_end ch clean) in
    let line : canonical_line (Bare (codes "type") ∷ Quoted (ch ∷ []) ∷ []) ≡ front ++ (e ++ 34 ∷ []) =
    ap (λ x. front ++ x) (append-nil ((e ++ []) ++ 34 ∷ []) ∙ ap (λ x. x ++ 34 ∷ []) (append-nil e)) in
    let quoted : encode_utf8_all (e ++ 34 ∷ []) ≡ l ++ 34 ∷ [] =
    encodes-append e (34 ∷ []) ∙ ap (λ x. x ++ encode_utf8_all (34 ∷ [])) same ∙ ap (λ x. l ++ x) (encodes-IsAscii (34 ∷ []) (small_chars (34 ∷ []) refl)) in
    let bytes : encode_utf8_all (front ++ (e ++ 34 ∷ [])) ≡ front ++ (l ++ 34 ∷ []) =
    encodes-append front (e ++ 34 ∷ []) ∙ ap (λ x. x ++ encode_utf8_all (e ++ 34 ∷ [])) (encodes-IsAscii front (small_chars front refl)) ∙ ap (λ x. front ++ x) quoted in
    ap (λ x. (front ++ (x ++ 34 ∷ [])) ++ 10 ∷ []) (append-nil l) ∙ ap (λ x. x ++ 10 ∷ []) (sym bytes ∙ ap encode_utf8_all (sym line))

plain_if : (ch : ℕ) (a b c : Bool) → c ≡ false → is_plain ch ≡ true → list_all is_plain (cond a (92 ∷ 34 ∷ []) (cond b (92 ∷ 92 ∷ []) (cond c (92 ∷ 110 ∷ []) (ch ∷ []))) ++ 34 ∷ []) ≡ true
plain_if ch true b c e plain = refl
plain_if ch false true c e plain = refl
plain_if ch false false true e plain = absurd cc
plain_if ch false false false e plain = rw plain refl

typed_stands : (ch : ℕ) → scalar ch ≡ true → is_control ch ≡ false → Stands (Quoted (ch ∷ []))
typed_stands ch is clean =
    let plain : is_plain ch ≡ true = rw (clean, is) refl in
    (tt, ap (λ x. list_all is_plain (34 ∷ (x ++ 34 ∷ []))) (append-nil (escaped ch)) ∙ plain_if ch (ch == 34) (ch == 92) (ch == 10) (no_end ch clean) plain)

-- ---- events

-- the event's line is that of this line of a script, which stands in a text and has this event alone
pub record IsLineOf (width height : ℤ) (e : Event) (l : Line) : Type 0 where
  pub text : event_line e ≡ ended_line (words_of_line l)
  pub stands : StandInLine (words_of_line l)
  pub line : IsLine l
  pub shown : IsTrue (is_on_screen width height l)
  pub item : items_of_line l ≡ items.Event e ∷ []

abbrev key_for : Key → Line
key_for (keys.Char ch) = lines.Typed (ch ∷ [])
key_for key = lines.Key key

-- no event that a script can say is a command
abbrev pub line_for : Event → Line
line_for (events.Key key) = key_for key
line_for (events.Down p) = lines.Down p
line_for (events.Move p) = lines.Move p
line_for (events.Up p) = lines.Up p
line_for (events.Command command) = lines.Shot
line_for (events.Broadcast command) = lines.Shot

module _ (width height : ℤ) where
  named : (key : Key) → IsKey key → (name : List ℕ) → name ≢ [] → list_all is_common name ≡ true → key_text key ≡ name → key_line key ≡ line_of (codes "key ") name → IsLineOf width height (events.Key key) (lines.Key key)
  named key is name some common same line = record {
    text = line ∙ key_text_line name common ∙ ap (λ x. ended_line (Bare (codes "key") ∷ Bare x ∷ [])) (sym same);
    stands = ((common_stands (codes "key") (λ e. cc) refl, (subst (λ x. Stands (Bare x)) (sym same) (common_stands name some common), tt)), refl);
    line = is;
    shown = refl;
    item = refl;
  }

  letter_common : (ch : ℕ) → (is_ascii_uppercase ch || is_ascii_digit ch) ≡ true → is_common ch ≡ true
  letter_common ch is = grind (arith, nat_tests)

  upper_common : (ch : ℕ) → is_ascii_uppercase ch ≡ true → is_common ch ≡ true
  upper_common ch is = grind (arith, nat_tests)

  key_said : (key : Key) → IsSayableKey key → IsLineOf width height (events.Key key) (key_for key)
  key_said keys.Tab is = named keys.Tab is (codes "Tab") (λ e. cc) refl refl refl
  key_said keys.ShiftTab is = named keys.ShiftTab is (codes "Shift-Tab") (λ e. cc) refl refl refl
  key_said keys.Enter is = named keys.Enter is (codes "Enter") (λ e. cc) refl refl refl
  key_said keys.Esc is = named keys.Esc is (codes "Esc") (λ e. cc) refl refl refl
  key_said keys.Up is = named keys.Up is (codes "Up") (λ e. cc) refl refl refl
  key_said keys.Down is = named keys.Down is (codes "Down") (λ e. cc) refl refl refl
  key_said keys.Left is = named keys.Left is (codes "Left") (λ e. cc) refl refl refl
  key_said keys.Right is = named keys.Right is (codes "Right") (λ e. cc) refl refl refl
  key_said keys.Home is = named keys.Home is (codes "Home") (λ e. cc) refl refl refl
  key_said keys.End is = named keys.End is (codes "End") (λ e. cc) refl refl refl
  key_said keys.PageUp is = named keys.PageUp is (codes "PgUp") (λ e. cc) refl refl refl
  key_said keys.PageDown is = named keys.PageDown is (codes "PgDn") (λ e. cc) refl refl refl
  key_said keys.CtrlPageUp is = named keys.CtrlPageUp is (codes "Ctrl-PgUp") (λ e. cc) refl refl refl
  key_said keys.CtrlPageDown is = named keys.CtrlPageDown is (codes "Ctrl-PgDn") (λ e. cc) refl refl refl
  key_said keys.Backspace is = named keys.Backspace is (codes "Backspace") (λ e. cc) refl refl refl
  key_said keys.Delete is = named keys.Delete is (codes "Del") (λ e. cc) refl refl refl
  key_said keys.Insert is = named keys.Insert is (codes "Ins") (λ e. cc) refl refl refl
  key_said (keys.Ctrl letter) is =
      let common = upper_common letter is in
      named (keys.Ctrl letter) is (codes "Ctrl-" ++ letter ∷ []) (λ e. cc) (rw common refl) refl
      (ap (λ x. line_of (codes "key ") (codes "Ctrl-" ++ x)) (encode_ascii letter (small_char letter common)))
  key_said (keys.Function number) is =
      named (keys.Function number) is (codes "F" ++ decimal number) (λ e. cc) (decimal_chars number (omega (arith, is.1))) refl refl
  key_said (keys.Alt ch) is =
      let common = letter_common ch is in
      named (keys.Alt ch) is (codes "Alt-" ++ ch ∷ []) (λ e. cc) (rw common refl) refl
      (ap (λ x. line_of (codes "key ") (codes "Alt-" ++ x)) (encode_ascii ch (small_char ch common)))
  key_said (keys.Char ch) is = record {
    text = typed_text_line ch is.1;
    stands = ((common_stands (codes "type") (λ e. cc) refl, (typed_stands ch is.0 is.1, tt)), refl);
    line = rw (no_end ch is.1) refl;
    shown = refl;
    item = refl;
  }

  pointed : (word : List ℕ) (p : Point) → word ≢ [] → list_all is_common word ≡ true → IsPointOf width height p → AllByRecursion Stands (Bare word ∷ number_word p.x ∷ number_word p.y ∷ [])
  pointed word p some common is = (common_stands word some common, (number_stands p.x is.0.0, (number_stands p.y is.0.1, tt)))

  pub event_said : (e : Event) → IsSayable width height e → IsLineOf width height e (line_for e)
  event_said (events.Key key) is = key_said key is
  event_said (events.Down p) is = record {
    text = point_text_line (codes "down") p refl is.0;
    stands = (pointed (codes "down") p (λ e. cc) refl is, refl);
    line = is.0;
    shown = is.1;
    item = refl;
  }
  event_said (events.Move p) is = record {
    text = point_text_line (codes "move") p refl is.0;
    stands = (pointed (codes "move") p (λ e. cc) refl is, refl);
    line = is.0;
    shown = is.1;
    item = refl;
  }
  event_said (events.Up p) is = record {
    text = point_text_line (codes "up") p refl is.0;
    stands = (pointed (codes "up") p (λ e. cc) refl is, refl);
    line = is.0;
    shown = is.1;
    item = refl;
  }
  event_said (events.Command command) is = absurd is
  event_said (events.Broadcast command) is = absurd is

  -- ---- scripts

  record IsTape (events : List Event) : Type 0 where
    text : script_text events ≡ canonical_text (script_words (map line_for events))
    stands : AllByRecursion StandInLine (script_words (map line_for events))
    script : IsScript (map line_for events)
    shown : AllByRecursion (λ l. IsTrue (is_on_screen width height l)) (map line_for events)
    are : script_with events ≡ items_of (map line_for events)

  taped : (events : List Event) → AllByRecursion (IsSayable width height) events → IsTape events
  taped [] say = record { text = refl; stands = tt; script = tt; shown = tt; are = refl }
  taped (e ∷ events) say =
      let first = event_said e say.0 in
      let rest = taped events say.1 in
      record {
        text = ap (λ x. x ++ script_text events) first.text ∙ ap (λ x. ended_line (words_of_line (line_for e)) ++ x) rest.text;
        stands = (first.stands, rest.stands);
        script = (first.line, rest.script);
        shown = (first.shown, rest.shown);
        are = ap (λ x. x ++ script_with events) (sym first.item) ∙ ap (λ x. items_of_line (line_for e) ++ x) rest.are;
      }

  pub all_declared : (wss : List (List Word)) → AllByRecursion StandInLine wss → declarations wss ≡ wss
  all_declared [] stand = refl
  all_declared ([] ∷ wss) stand = absurd stand.0
  all_declared ((w ∷ ws) ∷ wss) stand = ap (λ x. (w ∷ ws) ∷ x) (all_declared wss stand.1)

  tape_spells : (events : List Event) → AllByRecursion (IsSayable width height) events → length events ≤ 100000 → length (script_text events) ≤ 1048576 → SpellsAScript width height (script_text events) (script_with events)
  tape_spells events say few short =
      let tape = taped events say in
      let script = map line_for events in
      let words = script_words script in
      record {
        short = short;
        lines = script;
        spelled = record {
          words = words;
          each = subst (λ t. EachSpells (lines_of t) words) (sym tape.text) (stand_spelled words tape.stands);
          declared = all_declared words tape.stands;
          can = ((tape.script, tape.shown), omega (arith, few, length-map events items.Event, ap length tape.are));
        };
        are = tape.are;
      }

pub tapes : TapesAreScripts
tapes width height events say few short = tape_spells width height events say few short
