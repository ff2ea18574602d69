-- Events as a script spell the script of these events.
use Rattle.std.proofs.Common.{◌≡◌, ℕ, ◌≤◌, ◌==◌, Bool, true, false, All, cond, ◌&&◌, ◌||◌, List, [], ◌∷◌, ◌++◌, Some, None, length, map, flat_map, refl, sym, ap, subst, ◌∙◌, append_assoc, arith}
use Rattle.std.specs.Prelude.{ℤ, IsTrue, codes, encode_utf8, encode_utf8_all, if◌then◌else◌}
use Rattle.std.specs.Char.{is_control}
use Rattle.std.specs.Fmt.{signed_decimal}
use Rattle.std.specs.List.{AllByRecursion, list_all, list_any}
use Rattle.std.proofs.lemmas.Bool.Decides.{nat_tests}
use Rattle.std.proofs.lemmas.List.{append-nil, length-map, map-append}
use Rattle.std.proofs.lemmas.List.Elements.{All-head, All-tail}
use Rattle.std.proofs.lemmas.List.Concat.{flat_map-append}
use Rattle.std.proofs.lemmas.Str.{encodes-IsAscii, encodes-append}
use lib.Utf8.{scalar}
use Rattle.tv_event.specs.declared.event.Event.{Event}
use Rattle.tv_event.specs.declared.event.Event.TheVariants as events
use Rattle.tv_event.specs.declared.event.Key.{Key}
use Rattle.tv_event.specs.declared.event.Key.TheVariants as keys
use Rattle.tv_machine.specs.declared.script.Item.TheVariants as items
use Rattle.tv_model.specs.Log.LogText.{escaped_in_log}
use Rattle.tv_script.specs.Line.{Line}
use Rattle.tv_script.specs.Line as lines
use Rattle.tv_script.specs.Lines.{ends_line, is_on_screen, item_typed, items_of, items_of_line, words_of_line}
use Rattle.tv_script.specs.Scripts.{IsScript, SpellsAScript, script_words}
use Rattle.tv_script.specs.Tapes.{IsSayable, IsSayableKey, event_line, event_words, script_with}
use Rattle.tv_script.proofs.TapeLemmas.{all_declared, common_stands, escaped_if, event_said, key_line_words, line_for, no_end, said_line, small_chars}
use Rattle.tv_words.proofs.CanonicalLineLemmas.{Stands, is_plain}
use Rattle.tv_words.proofs.CanonicalTextLemmas.{StandInLine, stand_spelled}
use Rattle.tv_words.specs.Canonical.{canonical_line, canonical_text, ended_line}
use Rattle.tv_words.specs.Lines.{lines_of}
use Rattle.tv_words.specs.Texts.{EachSpells}
use Rattle.tv_words.specs.Words.{escaped}
use Rattle.tv_words.specs.declared.word.Word.{Word}
use Rattle.tv_words.specs.declared.word.Word.TheVariants.{Bare, Quoted}
use Rattle.tv_ways.specs.Wording.{WaysAreScripts, is_typed, script_text, words_after}

-- ---- characters that are typed in one line

abbrev IsClean : ℕ → Type 0
IsClean ch = (scalar ch ≡ true) × (is_control ch ≡ false)

abbrev AreClean : List ℕ → Type 0
AreClean cs = AllByRecursion IsClean cs

clean_more : (cs : List ℕ) (ch : ℕ) → AreClean cs → IsClean ch → AreClean (cs ++ ch ∷ [])
clean_more [] ch all clean = (clean, tt)
clean_more (c ∷ cs) ch all clean = (all.0, clean_more cs ch all.1 clean)

-- what stands between the quotes, in bytes
typed_bytes : (cs : List ℕ) → AreClean cs → encode_utf8_all (flat_map escaped cs) ≡ flat_map escaped_in_log cs
typed_bytes [] all = refl
typed_bytes (c ∷ cs) all =
    encodes-append (escaped c) (flat_map escaped cs)
    ∙ ap (λ x. x ++ encode_utf8_all (flat_map escaped cs)) (escaped_if c (c == 34) (c == 92) (c == 10) (no_end c all.0.1))
    ∙ ap (λ x. escaped_in_log c ++ x) (typed_bytes cs all.1)

-- the line
typed_line : (cs : List ℕ) → AreClean cs
    → codes "type \"" ++ ((flat_map escaped_in_log cs ++ 34 ∷ []) ++ 10 ∷ []) ≡ ended_line (words_of_line (lines.Typed cs))
unfolding ended_line
typed_line cs all =
    let front = codes "type \"" in
    let e = flat_map escaped cs in
    let l = flat_map escaped_in_log cs in
    let line : canonical_line (Bare (codes "type") ∷ Quoted cs ∷ []) ≡ front ++ (e ++ 34 ∷ []) =
    ap (λ x. front ++ x) (append-nil (e ++ 34 ∷ [])) in
    let quoted : encode_utf8_all (e ++ 34 ∷ []) ≡ l ++ 34 ∷ [] =
    encodes-append e (34 ∷ []) ∙ ap (λ x. x ++ encode_utf8_all (34 ∷ [])) (typed_bytes cs all)
    ∙ ap (λ x. l ++ x) (encodes-IsAscii (34 ∷ []) (small_chars (34 ∷ []) refl)) in
    let bytes : encode_utf8_all (front ++ (e ++ 34 ∷ [])) ≡ front ++ (l ++ 34 ∷ []) =
    encodes-append front (e ++ 34 ∷ []) ∙ ap (λ x. x ++ encode_utf8_all (e ++ 34 ∷ [])) (encodes-IsAscii front (small_chars front refl))
    ∙ ap (λ x. front ++ x) quoted in
    ap (λ x. x ++ 10 ∷ []) (sym bytes ∙ ap encode_utf8_all (sym line))

plain_escaped : (ch : ℕ) (a b c : Bool) → c ≡ false → is_plain ch ≡ true → (rest : List ℕ) → list_all is_plain rest ≡ true
    → list_all is_plain (cond a (92 ∷ 34 ∷ []) (cond b (92 ∷ 92 ∷ []) (cond c (92 ∷ 110 ∷ []) (ch ∷ []))) ++ rest) ≡ true
plain_escaped ch true b c e plain rest all = all
plain_escaped ch false true c e plain rest all = all
plain_escaped ch false false true e plain rest all = absurd cc
plain_escaped ch false false false e plain rest all = rw (plain, all) refl

typed_plain : (cs : List ℕ) → AreClean cs → list_all is_plain (flat_map escaped cs ++ 34 ∷ []) ≡ true
typed_plain [] all = refl
typed_plain (c ∷ cs) all =
    let plain : is_plain c ≡ true = rw (all.0.1, all.0.0) refl in
    ap (list_all is_plain) (append_assoc (escaped c) (flat_map escaped cs) (34 ∷ []))
    ∙ plain_escaped c (c == 34) (c == 92) (c == 10) (no_end c all.0.1) plain (flat_map escaped cs ++ 34 ∷ []) (typed_plain cs all.1)

typed_stand : (cs : List ℕ) → AreClean cs → StandInLine (words_of_line (lines.Typed cs))
typed_stand cs all = ((common_stands (codes "type") (λ e. cc) refl, ((tt, typed_plain cs all), tt)), refl)

typed_is_line : (cs : List ℕ) → AreClean cs → list_any ends_line cs ≡ false
typed_is_line [] all = refl
typed_is_line (c ∷ cs) all = rw (no_end c all.0.1, typed_is_line cs all.1) refl

-- ---- the lines of events

-- a line of typed characters, if there are some
abbrev typed_if : List ℕ → List Line
typed_if [] = []
typed_if (c ∷ cs) = lines.Typed (c ∷ cs) ∷ []

abbrev typed_chars : Event → List ℕ
typed_chars (events.Key (keys.Char ch)) = ch ∷ []
typed_chars _ = []

-- the lines of events that come after these characters
abbrev lines_after : List ℕ → List Event → List Line
lines_after cs [] = typed_if cs
lines_after cs (e ∷ rest) =
    if is_typed e then lines_after (cs ++ typed_chars e) rest else typed_if cs ++ (line_for e ∷ lines_after [] rest)

lines_untyped : (cs : List ℕ) (e : Event) (rest : List Event) → is_typed e ≡ false
    → lines_after cs (e ∷ rest) ≡ typed_if cs ++ (line_for e ∷ lines_after [] rest)
lines_untyped cs e rest h = rw h refl

abbrev text_of : List Line → List ℕ
text_of ls = canonical_text (script_words ls)

-- ---- their text

abbrev feed : List ℕ
feed = 10 ∷ []

-- after an event that types nothing
abbrev AfterUntyped : List Event → Type 0
AfterUntyped rest = (before : Event) → is_typed before ≡ false → words_after feed (Some before) rest ++ feed ≡ feed ++ text_of (lines_after [] rest)

-- after typed characters, whose quotes are open
abbrev AfterTyped : List Event → Type 0
AfterTyped rest =
    (c : ℕ) (cs : List ℕ) → AreClean (c ∷ cs) → (before : Event) → is_typed before ≡ true
    → codes "type \"" ++ (flat_map escaped_in_log (c ∷ cs) ++ (words_after feed (Some before) rest ++ feed)) ≡ text_of (lines_after (c ∷ cs) rest)

abbrev HasText : List Event → Type 0
HasText rest = AfterUntyped rest × AfterTyped rest

no_more : HasText []
no_more = (
  λ before h. rw h refl,
  λ c cs all before h.
      let l = flat_map escaped_in_log (c ∷ cs) in
      rw h
      (ap (λ x. codes "type \"" ++ x) (sym (append_assoc l (34 ∷ []) feed)) ∙ typed_line (c ∷ cs) all
      ∙ sym (append-nil (ended_line (words_of_line (lines.Typed (c ∷ cs)))))),
)

abbrev typing : ℕ → Event
typing ch = events.Key (keys.Char ch)

-- a character, and what follows it
typed_more : (ch : ℕ) (rest : List Event) → IsClean ch → AfterTyped rest
    → codes "type \"" ++ ((escaped_in_log ch ++ words_after feed (Some (typing ch)) rest) ++ feed) ≡ text_of (lines_after (ch ∷ []) rest)
typed_more ch rest clean after =
    let more = words_after feed (Some (typing ch)) rest in
    ap (λ x. codes "type \"" ++ x)
    (append_assoc (escaped_in_log ch) more feed ∙ ap (λ x. x ++ (more ++ feed)) (sym (append-nil (escaped_in_log ch))))
    ∙ after ch [] (clean, tt) (typing ch) refl

typed_next : (ch : ℕ) (rest : List Event) → IsClean ch → HasText rest → HasText (typing ch ∷ rest)
typed_next ch rest clean text = (
  λ before h. rw h (ap (λ x. feed ++ x) (typed_more ch rest clean text.1)),
  λ c cs all before h.
      let l = flat_map escaped_in_log (c ∷ cs) in
      let esc = escaped_in_log ch in
      let more = words_after feed (Some (typing ch)) rest in
      let longer : flat_map escaped_in_log ((c ∷ cs) ++ ch ∷ []) ≡ l ++ esc
      = flat_map-append escaped_in_log (c ∷ cs) (ch ∷ []) ∙ ap (λ x. l ++ x) (append-nil esc) in
      rw h
      (ap (λ x. codes "type \"" ++ x)
      (ap (λ x. l ++ x) (append_assoc esc more feed) ∙ (sym (append_assoc l esc (more ++ feed)) ∙ ap (λ x. x ++ (more ++ feed)) (sym longer)))
      ∙ text.1 c (cs ++ ch ∷ []) (all.0, clean_more cs ch all.1 clean) (typing ch) refl),
)

module _ (width height : ℤ) where
  abbrev AreSayable : List Event → Type 0
  AreSayable events = AllByRecursion (IsSayable width height) events

  words_line : (e : Event) → IsSayable width height e → event_words e ++ 10 ∷ [] ≡ event_line e
  words_line (events.Key key) say = key_line_words key
  words_line (events.Down p) say = said_line (codes "down ") (signed_decimal p.x ++ codes " " ++ signed_decimal p.y)
  words_line (events.Move p) say = said_line (codes "move ") (signed_decimal p.x ++ codes " " ++ signed_decimal p.y)
  words_line (events.Up p) say = said_line (codes "up ") (signed_decimal p.x ++ codes " " ++ signed_decimal p.y)
  words_line (events.Command command) say = absurd say
  words_line (events.Broadcast command) say = absurd say

  -- an event that types nothing, and what follows it
  untyped_more : (e : Event) (rest : List Event) → is_typed e ≡ false → IsSayable width height e → AfterUntyped rest
      → (event_words e ++ words_after feed (Some e) rest) ++ feed ≡ ended_line (words_of_line (line_for e)) ++ text_of (lines_after [] rest)
  untyped_more e rest h say after =
      let words = event_words e in
      let more = words_after feed (Some e) rest in
      let text = text_of (lines_after [] rest) in
      append_assoc words more feed ∙ ap (λ x. words ++ x) (after e h) ∙ sym (append_assoc words feed text)
      ∙ ap (λ x. x ++ text) (words_line e say ∙ (event_said width height e say).text)

  untyped_next : (e : Event) (rest : List Event) → is_typed e ≡ false → IsSayable width height e → HasText rest → HasText (e ∷ rest)
  untyped_next e rest h say text =
      let line = untyped_more e rest h say text.0 in (
        λ before b. rw (b, h) (ap (λ x. feed ++ x) line),
        λ c cs all before b.
            let l = flat_map escaped_in_log (c ∷ cs) in
            let rest_of = ended_line (words_of_line (line_for e)) ++ text_of (lines_after [] rest) in
            rw (b, h)
            (ap (λ x. codes "type \"" ++ (l ++ (34 ∷ 10 ∷ x))) line
            ∙ ap (λ x. codes "type \"" ++ x) (sym (append_assoc (l ++ 34 ∷ []) feed rest_of ∙ append_assoc l (34 ∷ []) (10 ∷ rest_of)))
            ∙ ap (λ x. x ++ rest_of) (typed_line (c ∷ cs) all)),
      )

  key_next : (key : Key) (rest : List Event) → IsSayableKey key → HasText rest → HasText (events.Key key ∷ rest)
  key_next (keys.Char ch) rest say text = typed_next ch rest say text
  key_next key rest say text = untyped_next (events.Key key) rest refl say text

  has_text : (rest : List Event) → AreSayable rest → HasText rest
  has_text [] say = no_more
  has_text (events.Key key ∷ rest) say = key_next key rest say.0 (has_text rest say.1)
  has_text (events.Down p ∷ rest) say = untyped_next (events.Down p) rest refl say.0 (has_text rest say.1)
  has_text (events.Move p ∷ rest) say = untyped_next (events.Move p) rest refl say.0 (has_text rest say.1)
  has_text (events.Up p ∷ rest) say = untyped_next (events.Up p) rest refl say.0 (has_text rest say.1)
  has_text (events.Command command ∷ rest) say = absurd say.0
  has_text (events.Broadcast command ∷ rest) say = absurd say.0

  -- ---- the script

  record IsGrouped (cs : List ℕ) (events : List Event) (ls : List Line) : Type 0 where
    stands : AllByRecursion StandInLine (script_words ls)
    script : IsScript ls
    shown : AllByRecursion (λ l. IsTrue (is_on_screen width height l)) ls
    are : items_of ls ≡ map item_typed cs ++ script_with events

  abbrev Grouped : List ℕ → List Event → Type 0
  Grouped cs events = IsGrouped cs events (lines_after cs events)

  untyped_grouped : (cs : List ℕ) (e : Event) (rest : List Event) → AreClean cs → is_typed e ≡ false → IsSayable width height e → Grouped [] rest → Grouped cs (e ∷ rest)
  untyped_grouped [] e rest all h say more =
      let said = event_said width height e say in
      subst (λ ls. IsGrouped [] (e ∷ rest) ls) (sym (lines_untyped [] e rest h))
      (record {
        stands = (said.stands, more.stands);
        script = (said.line, more.script);
        shown = (said.shown, more.shown);
        are = ap (λ x. x ++ items_of (lines_after [] rest)) said.item ∙ ap (λ x. items.Event e ∷ x) more.are;
      })
  untyped_grouped (c ∷ cs) e rest all h say more =
      let said = event_said width height e say in
      subst (λ ls. IsGrouped (c ∷ cs) (e ∷ rest) ls) (sym (lines_untyped (c ∷ cs) e rest h))
      (record {
        stands = (typed_stand (c ∷ cs) all, (said.stands, more.stands));
        script = (typed_is_line (c ∷ cs) all, (said.line, more.script));
        shown = (refl, (said.shown, more.shown));
        are = ap (λ x. map item_typed (c ∷ cs) ++ x)
            (ap (λ x. x ++ items_of (lines_after [] rest)) said.item ∙ ap (λ x. items.Event e ∷ x) more.are);
      })

  typed_grouped : (cs : List ℕ) (ch : ℕ) (rest : List Event) → Grouped (cs ++ ch ∷ []) rest → Grouped cs (typing ch ∷ rest)
  typed_grouped cs ch rest more = record {
    stands = more.stands;
    script = more.script;
    shown = more.shown;
    are = more.are ∙ ap (λ x. x ++ script_with rest) (map-append item_typed cs (ch ∷ [])) ∙ append_assoc (map item_typed cs) (item_typed ch ∷ []) (script_with rest);
  }

  grouped : (cs : List ℕ) (events : List Event) → AreClean cs → AreSayable events → Grouped cs events
  grouped [] [] all say = record { stands = tt; script = tt; shown = tt; are = refl }
  grouped (c ∷ cs) [] all say = record {
    stands = (typed_stand (c ∷ cs) all, tt);
    script = (typed_is_line (c ∷ cs) all, tt);
    shown = (refl, tt);
    are = refl;
  }
  grouped cs (events.Key (keys.Char ch) ∷ rest) all say =
      typed_grouped cs ch rest (grouped (cs ++ ch ∷ []) rest (clean_more cs ch all say.0) say.1)
  grouped cs (events.Key key ∷ rest) all say = untyped_grouped cs (events.Key key) rest all refl say.0 (grouped [] rest tt say.1)
  grouped cs (events.Down p ∷ rest) all say = untyped_grouped cs (events.Down p) rest all refl say.0 (grouped [] rest tt say.1)
  grouped cs (events.Move p ∷ rest) all say = untyped_grouped cs (events.Move p) rest all refl say.0 (grouped [] rest tt say.1)
  grouped cs (events.Up p ∷ rest) all say = untyped_grouped cs (events.Up p) rest all refl say.0 (grouped [] rest tt say.1)
  grouped cs (events.Command command ∷ rest) all say = absurd say.0
  grouped cs (events.Broadcast command ∷ rest) all say = absurd say.0

  -- the first event has no line end before it
  key_first : (key : Key) (rest : List Event) → IsSayableKey key → HasText rest
      → words_after feed None (events.Key key ∷ rest) ++ feed ≡ text_of (lines_after [] (events.Key key ∷ rest))
  key_first (keys.Char ch) rest say text = typed_more ch rest say text.1
  key_first key rest say text = untyped_more (events.Key key) rest refl say text.0

  some_text : (e : Event) (rest : List Event) → script_text (e ∷ rest) ≡ words_after feed None (e ∷ rest) ++ feed
  some_text e rest =
      let some : (length (e ∷ rest) == 0) ≡ false = grind (arith, nat_tests) in
      rw some refl

  whole_text : (events : List Event) → AreSayable events → script_text events ≡ text_of (lines_after [] events)
  whole_text [] say = refl
  whole_text (events.Key key ∷ rest) say = some_text (events.Key key) rest ∙ key_first key rest say.0 (has_text rest say.1)
  whole_text (events.Down p ∷ rest) say = some_text (events.Down p) rest ∙ untyped_more (events.Down p) rest refl say.0 (has_text rest say.1).0
  whole_text (events.Move p ∷ rest) say = some_text (events.Move p) rest ∙ untyped_more (events.Move p) rest refl say.0 (has_text rest say.1).0
  whole_text (events.Up p ∷ rest) say = some_text (events.Up p) rest ∙ untyped_more (events.Up p) rest refl say.0 (has_text rest say.1).0
  whole_text (events.Command command ∷ rest) say = absurd say.0
  whole_text (events.Broadcast command ∷ rest) say = absurd say.0

  way_spells : (events : List Event) → AreSayable events → length events ≤ 100000 → length (script_text events) ≤ 1048576 → SpellsAScript width height (script_text events) (script_with events)
  way_spells events say few short =
      let script = lines_after [] events in
      let words = script_words script in
      let group = grouped [] events tt say in
      record {
        short = short;
        lines = script;
        spelled = record {
          words = words;
          each = subst (λ t. EachSpells (lines_of t) words) (sym (whole_text events say)) (stand_spelled words group.stands);
          declared = all_declared width height words group.stands;
          can = ((group.script, group.shown), omega (arith, few, length-map events items.Event, ap length group.are));
        };
        are = sym group.are;
      }

by_recursion : {A : Type 0} (P : A → Type 0) (xs : List A) → All P xs → AllByRecursion P xs
by_recursion P [] all = tt
by_recursion P (x ∷ xs) all = (All-head P x xs all, by_recursion P xs (All-tail P x xs all))

pub ways : WaysAreScripts
ways d events say few short = way_spells d.width d.height events (by_recursion (IsSayable d.width d.height) events say) few short
