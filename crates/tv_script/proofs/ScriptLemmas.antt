-- A script is read just where a text spells it.
use Rattle.std.proofs.Common.{◌≡◌, ℕ, ℤ, suc, ◌+◌, ◌<◌, ◌≤◌, inl, inr, nat_le, Bool, true, false, cond, ◌&&◌, List, [], ◌∷◌, ◌++◌, length, take, Option, Some, None, Result, Ok, Err, refl, sym, ap, ◌∙◌, add-one, add-zero, subst, arith}
use Rattle.std.specs.Prelude.{option_and_then, IfOk, IfErr}
use Rattle.std.proofs.lemmas.Bool.Decides.{nat_tests}
use Rattle.tv_machine.specs.declared.script.Item.{Item}
use Rattle.tv_script.proofs.EndedLemmas.{judged_le}
use Rattle.tv_script.proofs.FitLemmas.{fits, from_fitting, from_script, from_shown, into_fitting, into_script, into_shown, items_push, shows, stands}
use Rattle.tv_script.proofs.GrammarLemmas.{Test, added, begins_weaker, faulty_unspelled, lines_spelled, no_begin, spelled_lines, taken_begins, tested}
use Rattle.tv_script.specs.Line.{Line}
use Rattle.tv_script.specs.declared.script_text.ScriptFault.{ScriptFault}
use Rattle.tv_script.specs.declared.script_text.ScriptFault.TheVariants.{NoMemory, Syntax, OffScreen, TooLong}
use Rattle.tv_script.specs.Lines.{is_on_screen, items_of, items_of_line}
use Rattle.tv_script.specs.Reading.Lines.{script_line_in}
use Rattle.tv_script.specs.Judging.{Judgement, answer_by_length, is_short, judged_as, judged_from, judged_lines, judged_part, judged_whole, judgement}
use Rattle.tv_script.specs.Reading.Scripts.{ScriptOutcome, IsAnswered, with_bytes, with_found, with_words}
use Rattle.tv_script.specs.Scripts.{GivesScript, IsFirstFaulty, IsFitting, IsOnScreen, IsScript, RefusesScript, SpellsAScript, script_words}
use Rattle.tv_script.specs.Spelled.{HasItems, IsLeft, SaysOf}
use Rattle.tv_words.specs.declared.word.Word.{Word}
use Rattle.tv_words.specs.Lines.{lines_of}
use Rattle.tv_words.specs.Reading.LineWords.{line_taken, line_words, words_taken}
use Rattle.tv_words.specs.Reading.Steps.{steps}
use Rattle.tv_words.specs.Texts.{BeginsBy, IsFirstFaultyLine, SpellsBy}

-- ---- one line

-- the answer at the line n, by what the tests of lines come to: that of what can be spelled, that of points too, and that of all
abbrev Tells : ℕ → Option (List Line) → Option (List Line) → Option (List Line) → ScriptOutcome → Type 0
Tells n stood shown fitted (Ok longer) = (further : List Line) × (stood ≡ Some further) × (shown ≡ Some further) × (fitted ≡ Some further) × (longer ≡ items_of further)
Tells n stood shown fitted (Err NoMemory) = ⊥
Tells n stood shown fitted (Err (Syntax line)) = (line ≡ n) × (stood ≡ None)
Tells n stood shown fitted (Err (OffScreen line)) = (line ≡ n) × ((further : List Line) × (stood ≡ Some further)) × (shown ≡ None)
Tells n stood shown fitted (Err TooLong) = ((further : List Line) × (shown ≡ Some further)) × (fitted ≡ None)

Tells-along : (n m : ℕ) (a b c x y z : Option (List Line)) (r : ScriptOutcome) → n ≡ m → a ≡ x → b ≡ y → c ≡ z → Tells n a b c r → Tells m x y z r
Tells-along n m a b c x y z r en ea eb ec h =
    subst (λ v. Tells m x y v r) ec (subst (λ v. Tells m x v c r) eb (subst (λ v. Tells m v b c r) ea (subst (λ v. Tells v a b c r) en h)))

by_tests : (n : ℕ) (longer : List Item) (further : List Line) (b c : Bool) → longer ≡ items_of further → Tells n (Some further) (cond b (Some further) None) (cond (b && c) (Some further) None) (cond b (cond c (Ok longer) (Err TooLong)) (Err (OffScreen n)))
by_tests n longer further true true e = (further, refl, refl, refl, e)
by_tests n longer further true false e = ((further, refl), refl)
by_tests n longer further false c e = (refl, (further, refl), refl)

module _ (width height : ℤ) where
  by_line : (n : ℕ) (ls : List Line) (o : Option Line) → Tells n (tested stands ls o) (tested (shows width height) ls o) (tested (fits width height) ls o) (with_found width height n (items_of ls) o)
  by_line n ls None = (refl, refl)
  by_line n ls (Some l) =
      by_tests n (items_of ls ++ items_of_line l) (ls ++ l ∷ []) (is_on_screen width height l) (nat_le (length (items_of ls ++ items_of_line l)) 100000) (sym (items_push ls l))

  by_words : (n : ℕ) (ls : List Line) (o : Option (List Word)) → Tells n (words_taken (added stands) ls o) (words_taken (added (shows width height)) ls o) (words_taken (added (fits width height)) ls o) (with_words width height n (items_of ls) o)
  by_words n ls None = (refl, refl)
  by_words n ls (Some []) = (ls, refl, refl, refl, refl)
  by_words n ls (Some (w ∷ ws)) = by_line n ls (script_line_in (w ∷ ws))

  -- ---- lines

  abbrev along : Test → List Line → List (List ℕ) → Option (List Line)
  along can ls lines = steps (line_taken (added can)) ls lines

  -- the judgement of the line n and those after it, by what that line is read as
  abbrev went : ℕ → List Item → List (List ℕ) → ScriptOutcome → Judgement
  went n items rest r = elim r as (λ _. Judgement) [ Err fault ↦ judgement items (Err fault) | Ok longer ↦ judged_from width height (n + 1) longer rest ]

  -- the lines are taken, whichever test they are put to, and have these items
  record Takes (ls : List Line) (lines : List (List ℕ)) (all : List Item) : Type 0 where
    further : List Line
    stood : along stands ls lines ≡ Some further
    shown : along (shows width height) ls lines ≡ Some further
    fitted : along (fits width height) ls lines ≡ Some further
    are : all ≡ items_of further

  takes_line : (n : ℕ) (ls : List Line) (l : List ℕ) (rest : List (List ℕ)) (all : List Item) (r : ScriptOutcome) → Tells n (line_taken (added stands) ls l) (line_taken (added (shows width height)) ls l) (line_taken (added (fits width height)) ls l) r → ((m : ℕ) (further : List Line) → judged_from width height m (items_of further) rest ≡ judgement all (Ok tt) → Takes further rest all) → went n (items_of ls) rest r ≡ judgement all (Ok tt) → Takes ls (l ∷ rest) all
  takes_line n ls l rest all (Err fault) tells later e = let clash = ap (λ j. j.answer) e in absurd cc
  takes_line n ls l rest all (Ok longer) tells later e =
      let r = later (n + 1) tells.0 (ap (λ x. judged_from width height (n + 1) x rest) (sym tells.4) ∙ e) in
      record {
        further = r.further;
        stood = ap (option_and_then (λ t. along stands t rest)) tells.1 ∙ r.stood;
        shown = ap (option_and_then (λ t. along (shows width height) t rest)) tells.2 ∙ r.shown;
        fitted = ap (option_and_then (λ t. along (fits width height) t rest)) tells.3 ∙ r.fitted;
        are = r.are;
      }

  -- the items that are read are those of the lines that are taken
  takes : (lines : List (List ℕ)) (n : ℕ) (ls : List Line) (all : List Item) → judged_from width height n (items_of ls) lines ≡ judgement all (Ok tt) → Takes ls lines all
  takes [] n ls all e = record { further = ls; stood = refl; shown = refl; fitted = refl; are = sym (ap (λ j. j.items) e) }
  takes (l ∷ rest) n ls all e =
      takes_line n ls l rest all (with_bytes width height n (items_of ls) l) (by_words n ls (line_words l)) (λ m further. takes rest m further all) e

  -- reading stops at a line: those before it are taken, with these items, and with it the fault is told
  record Halts (ls : List Line) (lines : List (List ℕ)) (n : ℕ) (items : List Item) (fault : ScriptFault) : Type 0 where
    before : ℕ
    within : before < length lines
    longer : List Line
    are : items ≡ items_of longer
    goes : along (fits width height) ls (take before lines) ≡ Some longer
    tells : Tells (n + before) (along stands ls (take (before + 1) lines)) (along (shows width height) ls (take (before + 1) lines)) (along (fits width height) ls (take (before + 1) lines)) (Err fault)

  alone : (o : Option (List Line)) → o ≡ option_and_then (λ t. Some t) o
  alone None = refl
  alone (Some s) = refl

  one_on : (can : Test) (ls further : List Line) (l : List ℕ) (rest : List (List ℕ)) (b : ℕ) → line_taken (added can) ls l ≡ Some further → along can further (take (b + 1) rest) ≡ along can ls (take (suc b + 1) (l ∷ rest))
  one_on can ls further l rest b e = rw (add-one b, add-one (suc b), e) refl

  halts_at : (n : ℕ) (ls : List Line) (l : List ℕ) (rest : List (List ℕ)) (items : List Item) (fault : ScriptFault) (r : ScriptOutcome) → Tells n (line_taken (added stands) ls l) (line_taken (added (shows width height)) ls l) (line_taken (added (fits width height)) ls l) r → ((m : ℕ) (further : List Line) → judged_from width height m (items_of further) rest ≡ judgement items (Err fault) → Halts further rest m items fault) → went n (items_of ls) rest r ≡ judgement items (Err fault) → Halts ls (l ∷ rest) n items fault
  halts_at n ls l rest items fault (Err found) tells later e =
      let told = ap (λ j. j.answer) e in
      let same : found ≡ fault = cc in
      record {
        before = 0;
        within = omega arith;
        longer = ls;
        are = sym (ap (λ j. j.items) e);
        goes = refl;
        tells = subst (λ f. Tells (n + 0) (along stands ls (l ∷ [])) (along (shows width height) ls (l ∷ [])) (along (fits width height) ls (l ∷ [])) (Err f)) same
            (Tells-along n (n + 0) _ _ _ _ _ _ (Err found) (sym (add-zero n)) (alone (line_taken (added stands) ls l)) (alone (line_taken (added (shows width height)) ls l)) (alone (line_taken (added (fits width height)) ls l)) tells);
      }
  halts_at n ls l rest items fault (Ok longer) tells later e =
      let r = later (n + 1) tells.0 (ap (λ x. judged_from width height (n + 1) x rest) (sym tells.4) ∙ e) in
      let number : n + 1 + r.before ≡ n + suc r.before = omega arith in
      record {
        before = suc r.before;
        within = omega (arith, r.within);
        longer = r.longer;
        are = r.are;
        goes = rw tells.3 r.goes;
        tells = Tells-along (n + 1 + r.before) (n + suc r.before) _ _ _ _ _ _ (Err fault) number (one_on stands ls tells.0 l rest r.before tells.1) (one_on (shows width height) ls tells.0 l rest r.before tells.2) (one_on (fits width height) ls tells.0 l rest r.before tells.3) r.tells;
      }

  halts : (lines : List (List ℕ)) (n : ℕ) (ls : List Line) (items : List Item) (fault : ScriptFault) → judged_from width height n (items_of ls) lines ≡ judgement items (Err fault) → Halts ls lines n items fault
  halts [] n ls items fault e = let clash = ap (λ j. j.answer) e in absurd cc
  halts (l ∷ rest) n ls items fault e = halts_at n ls l rest items fault (with_bytes width height n (items_of ls) l) (by_words n ls (line_words l)) (λ m further. halts rest m further items fault) e

  -- ---- the first faulty line

  abbrev spells_fitting : (lines : List (List ℕ)) (ls : List Line) → along (fits width height) [] lines ≡ Some ls → SpellsBy script_words (IsFitting width height) lines ls
  spells_fitting = lines_spelled (fits width height) (IsFitting width height) (into_fitting width height) (from_fitting width height)

  first : (lines : List (List ℕ)) (items : List Item) (fault : ScriptFault) (h : Halts [] lines 1 items fault) (line : ℕ) → line ≡ h.before + 1 → (BeginsBy script_words (IsFitting width height) (take line lines) → ⊥) → IsFirstFaultyLine script_words (IsFitting width height) lines line
  first lines items fault h line number unbegun = record {
    before = h.before;
    number = number;
    within = omega (arith, h.within);
    begins = taken_begins (fits width height) (IsFitting width height) (into_fitting width height) (from_fitting width height) (take h.before lines) h.longer h.goes;
    stops = λ less b. unbegun b;
    missing = λ same ls spelled. absurd (omega (arith, same, h.within));
  }

  no_script : (lines : List (List ℕ)) → along stands [] lines ≡ None → BeginsBy script_words IsScript lines → ⊥
  no_script = no_begin stands IsScript into_script from_script

  some_script : (lines : List (List ℕ)) (ls : List Line) → along stands [] lines ≡ Some ls → BeginsBy script_words IsScript lines
  some_script = taken_begins stands IsScript into_script from_script

  none_shown : (lines : List (List ℕ)) → along (shows width height) [] lines ≡ None → BeginsBy script_words (IsOnScreen width height) lines → ⊥
  none_shown = no_begin (shows width height) (IsOnScreen width height) (into_shown width height) (from_shown width height)

  some_shown : (lines : List (List ℕ)) (ls : List Line) → along (shows width height) [] lines ≡ Some ls → BeginsBy script_words (IsOnScreen width height) lines
  some_shown = taken_begins (shows width height) (IsOnScreen width height) (into_shown width height) (from_shown width height)

  none_fitting : (lines : List (List ℕ)) → along (fits width height) [] lines ≡ None → BeginsBy script_words (IsFitting width height) lines → ⊥
  none_fitting = no_begin (fits width height) (IsFitting width height) (into_fitting width height) (from_fitting width height)

  refused : (text : List ℕ) (items : List Item) (fault : ScriptFault) → length text ≤ 1048576 → Halts [] (lines_of text) 1 items fault → RefusesScript width height text fault
  refused text items NoMemory short h = tt
  refused text items (Syntax line) short h =
      let number : line ≡ h.before + 1 = omega (arith, h.tells.0) in
      let unbegun = no_script (take line (lines_of text)) (rw number h.tells.1) in
      (short, first (lines_of text) items (Syntax line) h line number (λ b. unbegun (begins_weaker (IsFitting width height) IsScript (λ ls is. is.0.0) (take line (lines_of text)) b)), unbegun)
  refused text items (OffScreen line) short h =
      let number : line ≡ h.before + 1 = omega (arith, h.tells.0) in
      let unbegun = none_shown (take line (lines_of text)) (rw number h.tells.2) in (
        short,
        first (lines_of text) items (OffScreen line) h line number (λ b. unbegun (begins_weaker (IsFitting width height) (IsOnScreen width height) (λ ls is. is.0) (take line (lines_of text)) b)),
        some_script (take line (lines_of text)) h.tells.1.0 (rw number h.tells.1.1),
        unbegun,
      )
  refused text items TooLong short h =
      let unbegun = none_fitting (take (h.before + 1) (lines_of text)) h.tells.1 in
      inr (h.before + 1, first (lines_of text) items TooLong h (h.before + 1) refl unbegun, some_shown (take (h.before + 1) (lines_of text)) h.tells.0.0 h.tells.0.1)

  -- ---- what a judgement says

  faulty_at : (text : List ℕ) (items : List Item) (fault : ScriptFault) → length text ≤ 1048576 → (h : Halts [] (lines_of text) 1 items fault) → IsFirstFaulty width height text (h.before + 1)
  faulty_at text items NoMemory short h = absurd h.tells
  faulty_at text items (Syntax line) short h =
      let number : line ≡ h.before + 1 = omega (arith, h.tells.0) in
      subst (IsFirstFaulty width height text) number (refused text items (Syntax line) short h).1
  faulty_at text items (OffScreen line) short h =
      let number : line ≡ h.before + 1 = omega (arith, h.tells.0) in
      subst (IsFirstFaulty width height text) number (refused text items (OffScreen line) short h).1
  faulty_at text items TooLong short h =
      let unbegun = none_fitting (take (h.before + 1) (lines_of text)) h.tells.1 in
      first (lines_of text) items TooLong h (h.before + 1) refl unbegun

  -- a text that is read up to a line is left there
  left_there : (text : List ℕ) (items : List Item) (fault : ScriptFault) → length text ≤ 1048576 → (h : Halts [] (lines_of text) 1 items fault) → IsLeft width height text items fault
  left_there text items fault short h = record {
    refused = refused text items fault short h;
    before = h.before;
    faulty = faulty_at text items fault short h;
    performed = record { script = h.longer; spelled = spells_fitting (take h.before (lines_of text)) h.longer h.goes; are = h.are };
  }

  -- the lines that were read are those of a script with these items
  read_items : (lines : List (List ℕ)) (items : List Item) → judged_lines width height lines ≡ judgement items (Ok tt) → HasItems width height lines items
  read_items lines items e = let r = takes lines 1 [] items e in record { script = r.further; spelled = spells_fitting lines r.further r.fitted; are = r.are }

  read_spelled : (text : List ℕ) (items : List Item) → length text ≤ 1048576 → judged_lines width height (lines_of text) ≡ judgement items (Ok tt) → SpellsAScript width height text items
  read_spelled text items short e = let has = read_items (lines_of text) items e in record { short = short; lines = has.script; spelled = has.spelled; are = has.are }

  -- a fault of the part that is judged is one of the text
  says_left : (text : List ℕ) (items : List Item) (fault : ScriptFault) → length (judged_part text) ≤ 1048576 → Halts [] (lines_of (judged_part text)) 1 items fault → SaysOf width height text items (Err fault)
  says_left text items NoMemory short h = h.tells
  says_left text items (Syntax line) short h = left_there (judged_part text) items (Syntax line) short h
  says_left text items (OffScreen line) short h = left_there (judged_part text) items (OffScreen line) short h
  says_left text items TooLong short h = inr (left_there (judged_part text) items TooLong short h)

  says_by : (text : List ℕ) (items : List Item) (b : Bool) (answer : Result (Unit {0}) ScriptFault) → is_short text ≡ b → judged_lines width height (lines_of (judged_part text)) ≡ judgement items answer → SaysOf width height text items (answer_by_length b answer)
  says_by text items true (Ok _) eb e =
      let short : length text ≤ 1048576 = grind (arith, nat_tests) in
      let part : judged_part text ≡ text = rw eb refl in
      read_spelled text items short (subst (λ x. judged_lines width height (lines_of x) ≡ judgement items (Ok tt)) part e)
  says_by text items false (Ok _) eb e = inl (record { long = grind (arith, nat_tests); performed = read_items (lines_of (judged_part text)) items e })
  says_by text items true (Err fault) eb e = says_left text items fault (judged_le text) (halts (lines_of (judged_part text)) 1 [] items fault e)
  says_by text items false (Err fault) eb e = says_left text items fault (judged_le text) (halts (lines_of (judged_part text)) 1 [] items fault e)

  -- a text is judged as the language of scripts says
  pub says : (text : List ℕ) → SaysOf width height text (judged_as width height text).items (judged_as width height text).answer
  says text = let j = judged_lines width height (lines_of (judged_part text)) in says_by text j.items (is_short text) j.answer refl refl

  pub judged_spelled : (text : List ℕ) (items : List Item) → judged_as width height text ≡ judgement items (Ok tt) → SpellsAScript width height text items
  judged_spelled text items e = subst (λ j. SaysOf width height text j.items j.answer) e (says text)

  -- ---- the function and the relation

  -- why a judgement of a whole text refuses it
  refused_if : (text : List ℕ) (fault : ScriptFault) (b : Bool) (j : Judgement) → is_short text ≡ b → j ≡ judged_lines width height (lines_of text) → (cond b j (judgement [] (Err TooLong))).answer ≡ Err fault → RefusesScript width height text fault
  refused_if text fault true j eb ej e = refused text j.items fault (grind (arith, nat_tests)) (halts (lines_of text) 1 [] j.items fault (sym ej ∙ ap (λ x. judgement j.items x) e))
  refused_if text fault false j eb ej e =
      let same : TooLong ≡ fault = cc in
      let long : 1048576 < length text = grind (arith, nat_tests) in
      subst (RefusesScript width height text) same (inl long)

  -- what is refused is faulty
  pub read_refused : (text : List ℕ) (fault : ScriptFault) → (judged_whole width height text).answer ≡ Err fault → RefusesScript width height text fault
  read_refused text fault e = refused_if text fault (is_short text) (judged_lines width height (lines_of text)) refl refl e

  spelled_if : (text : List ℕ) (items : List Item) (b : Bool) → is_short text ≡ b → cond b (judged_lines width height (lines_of text)) (judgement [] (Err TooLong)) ≡ judgement items (Ok tt) → SpellsAScript width height text items
  spelled_if text items true eb e = read_spelled text items (grind (arith, nat_tests)) e
  spelled_if text items false eb e = let clash = ap (λ j. j.answer) e in absurd cc

  -- what is read is spelled
  pub whole_spelled : (text : List ℕ) (items : List Item) → judged_whole width height text ≡ judgement items (Ok tt) → SpellsAScript width height text items
  whole_spelled text items e = spelled_if text items (is_short text) refl e

  unspelled : (text : List ℕ) (script : List Item) → SpellsAScript width height text script → (line : ℕ) → IsFirstFaulty width height text line → ⊥
  unspelled text script spelled line faulty = faulty_unspelled (IsFitting width height) (lines_of text) line faulty spelled.lines spelled.spelled

  same_script : (text : List ℕ) (found script : List Item) → SpellsAScript width height text found → SpellsAScript width height text script → found ≡ script
  same_script text found script a b =
      let ea = spelled_lines (fits width height) (IsFitting width height) (into_fitting width height) (from_fitting width height) (lines_of text) a.lines a.spelled in
      let eb = spelled_lines (fits width height) (IsFitting width height) (into_fitting width height) (from_fitting width height) (lines_of text) b.lines b.spelled in
      let both : Some a.lines ≡ Some b.lines = sym ea ∙ eb in
      let same : a.lines ≡ b.lines = cc in
      a.are ∙ ap items_of same ∙ sym b.are

  with_memory : (text : List ℕ) (b : Bool) (j : Judgement) → j ≡ judged_lines width height (lines_of text) → (cond b j (judgement [] (Err TooLong))).answer ≡ Err NoMemory → ⊥
  with_memory text true j ej e = (halts (lines_of text) 1 [] j.items NoMemory (sym ej ∙ ap (λ x. judgement j.items x) e)).tells
  with_memory text false j ej e = absurd cc

  -- a text that spells a script is refused for no reason
  not_refused : (text : List ℕ) (script : List Item) (fault : ScriptFault) → SpellsAScript width height text script → (judged_whole width height text).answer ≡ Err fault → ⊥
  not_refused text script NoMemory spelled e = with_memory text (is_short text) (judged_lines width height (lines_of text)) refl e
  not_refused text script (Syntax line) spelled e = unspelled text script spelled line (read_refused text (Syntax line) e).1
  not_refused text script (OffScreen line) spelled e = unspelled text script spelled line (read_refused text (OffScreen line) e).1
  not_refused text script TooLong spelled e =
      elim (read_refused text TooLong e) [ inl long ↦ absurd (omega (arith, long, spelled.short)) | inr faulty ↦ unspelled text script spelled faulty.0 faulty.1 ]

  -- ---- the answers of `parse_items`

  answered : (text : List ℕ) (fault : ScriptFault) → IsAnswered fault (judged_whole width height text).answer → RefusesScript width height text fault
  answered text NoMemory h = tt
  answered text (Syntax line) h = read_refused text (Syntax line) h
  answered text (OffScreen line) h = read_refused text (OffScreen line) h
  answered text TooLong h = read_refused text TooLong h

  pub all_refused : (r : ScriptOutcome) (text : List ℕ) → IfErr r (λ fault. IsAnswered fault (judged_whole width height text).answer) → IfErr r (λ fault. RefusesScript width height text fault)
  all_refused (Ok script) text h = tt
  all_refused (Err fault) text h = answered text fault h

  pub gives : (r : ScriptOutcome) (text : List ℕ) (script : List Item) → IfOk r (λ found. judged_whole width height text ≡ judgement found (Ok tt)) → IfErr r (λ fault. IsAnswered fault (judged_whole width height text).answer) → SpellsAScript width height text script → GivesScript r script
  gives (Ok found) text script value fault spelled = same_script text found script (whole_spelled text found value) spelled
  gives (Err NoMemory) text script value fault spelled = tt
  gives (Err (Syntax line)) text script value fault spelled = not_refused text script (Syntax line) spelled fault
  gives (Err (OffScreen line)) text script value fault spelled = not_refused text script (OffScreen line) spelled fault
  gives (Err TooLong) text script value fault spelled = not_refused text script TooLong spelled fault

  judged_by : (text : List ℕ) (items : List Item) (answer : Result (Unit {0}) ScriptFault) → (judged_whole width height text).answer ≡ answer → SpellsAScript width height text items → judged_as width height text ≡ judgement items (Ok tt)
  judged_by text items (Err fault) e spelled = absurd (not_refused text items fault spelled e)
  judged_by text items (Ok done) e spelled =
      let short : is_short text ≡ true = grind (arith, nat_tests, spelled.short) in
      let j = judged_lines width height (lines_of text) in
      let whole : judged_whole width height text ≡ j = rw short refl in
      let read : j.answer ≡ Ok tt = ap (λ x. x.answer) (sym whole) ∙ e in
      let found : judged_whole width height text ≡ judgement j.items (Ok tt) = whole ∙ ap (judgement j.items) read in
      let same : j.items ≡ items = same_script text j.items items (whole_spelled text j.items found) spelled in
      let part : judged_part text ≡ text = rw short refl in
      rw (short, read, same) refl

  -- a text that spells a script is judged as that
  pub spelled_judged : (text : List ℕ) (items : List Item) → SpellsAScript width height text items → judged_as width height text ≡ judgement items (Ok tt)
  spelled_judged text items spelled = judged_by text items (judged_whole width height text).answer refl spelled
