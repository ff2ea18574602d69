-- A script in pieces: what a line, a byte and the end say of the whole.
use Rattle.std.proofs.Common.{◌≡◌, ℕ, ℤ, ◌<◌, ◌≤◌, nat_le, Bool, true, false, List, [], ◌∷◌, ◌++◌, length, Ok, Err, refl, sym, ap, ◌∙◌, append_assoc, subst, arith, length-append}
use Rattle.std.specs.List.{AllByRecursion}
use Rattle.std.proofs.lemmas.Bool.Decides.{nat_tests}
use Rattle.std.proofs.lemmas.List.{append-nil}
use Rattle.tv_io.specs.Writer.{Seen}
use Rattle.tv_machine.specs.Run.{Session}
use Rattle.tv_machine.specs.declared.script.Item.{Item}
use Rattle.tv_script.proofs.EndedLemmas.{all_push, begins_judged, ended_push, judged_full, judged_whole, last_line, lines_of_ended, lines_up, up_le}
use Rattle.tv_script.proofs.JudgingLemmas.{judged_first, judged_refused}
use Rattle.tv_script.specs.declared.feed.Feed.{Feed}
use Rattle.tv_script.specs.declared.script_text.ScriptFault.{ScriptFault}
use Rattle.tv_script.specs.declared.script_text.ScriptFault.TheVariants as scripts
use Rattle.tv_script.specs.declared.stream_fault.StreamFault.{StreamFault}
use Rattle.tv_script.specs.declared.stream_fault.StreamFault.TheVariants as streams
use Rattle.tv_script.specs.Judging.{answer_by_length, is_short, judged_as, judged_lines, judged_part, judgement, up_to_last_end}
use Rattle.tv_script.specs.Reading.Streams.{Breaks, Ends, HasPlayed, IsCutLine, IsCutOff, IsFed, IsRefusedLine, IsUnended, IsUnplayed, Leaves, OfEach, with_line_ends}
use Rattle.tv_script.specs.Streams.{AreFirstOf, CutsDecideNothing}
use Rattle.tv_words.specs.Lines.{lines_of}

-- ---- a text by its lines

module _ (width height : ℤ) where
  -- a fault of the lines is one of the text
  as_faulty : (text : List ℕ) (lines : List (List ℕ)) (items : List Item) (fault : ScriptFault) → lines_of (judged_part text) ≡ lines → judged_lines width height lines ≡ judgement items (Err fault) → judged_as width height text ≡ judgement items (Err fault)
  as_faulty text lines items fault are e =
      let j = judged_lines width height (lines_of (judged_part text)) in
      let same : j ≡ judgement items (Err fault) = ap (judged_lines width height) are ∙ e in
      ap (λ x. judgement x.items (answer_by_length (is_short text) x.answer)) same

  -- of a text that is short enough, the judgement is that of its lines
  as_short : (text : List ℕ) (lines : List (List ℕ)) (items : List Item) → length text ≤ 1048576 → lines_of text ≡ lines → judged_lines width height lines ≡ judgement items (Ok tt) → judged_as width height text ≡ judgement items (Ok tt)
  as_short text lines items few are e =
      let small : is_short text ≡ true = grind (arith, nat_tests) in
      let part : judged_part text ≡ text = rw small refl in
      let same : judged_lines width height (lines_of (judged_part text)) ≡ judgement items (Ok tt) = ap (λ x. judged_lines width height (lines_of x)) part ∙ ap (judged_lines width height) are ∙ e in
      ap (λ x. judgement x.items (answer_by_length (is_short text) x.answer)) same ∙ ap (λ b. judgement items (answer_by_length b (Ok tt))) small

  as_long : (text : List ℕ) (lines : List (List ℕ)) (items : List Item) → 1048576 < length text → lines_of (judged_part text) ≡ lines → judged_lines width height lines ≡ judgement items (Ok tt) → judged_as width height text ≡ judgement items (Err scripts.TooLong)
  as_long text lines items long are e =
      let large : is_short text ≡ false = grind (arith, nat_tests) in
      let same : judged_lines width height (lines_of (judged_part text)) ≡ judgement items (Ok tt) = ap (judged_lines width height) are ∙ e in
      ap (λ x. judgement x.items (answer_by_length (is_short text) x.answer)) same ∙ ap (λ b. judgement items (answer_by_length b (Ok tt))) large

-- ---- what a fault at a line says of the stream

module _ (s : Session) (from now : Seen) (Left : Session → Type 0) where
  abbrev w : ℤ
  w = s.desc.width

  abbrev h : ℤ
  h = s.desc.height

  -- of each stream that begins with lines that ended these are judged first
  record BeginsLines (lines : List (List ℕ)) (stream : List ℕ) : Type 0 where
    more : List (List ℕ)
    are : lines_of (judged_part stream) ≡ lines ++ more

  begins_with : (lines : List (List ℕ)) (given : List ℕ) → given ≡ with_line_ends lines → length given ≤ 1048576 → AllByRecursion IsUnended lines → (rest : List ℕ) → BeginsLines lines (given ++ rest)
  begins_with lines given is few whole rest =
      let begins = begins_judged lines rest (nat_le (length (with_line_ends lines ++ rest)) 1048576) refl whole (subst (λ x. length x ≤ 1048576) is few) in
      record { more = begins.more; are = ap (λ x. lines_of (judged_part (x ++ rest))) is ∙ begins.lines_are }

  -- the bytes are the lines up to the refused one, each with its end
  refused_mid : (lines : List (List ℕ)) (line given : List ℕ) (begun : ℕ) (fault : ScriptFault) → given ≡ with_line_ends (lines ++ line ∷ []) → length given ≤ 1048576 → AllByRecursion IsUnended lines → IsUnended line → IsRefusedLine s lines line begun from now Left fault → Leaves s given false begun from now Left fault
  refused_mid lines line given begun fault all few whole is refused = record {
    items = refused.played.items;
    decided = λ rest alone.
        let begins = begins_with (lines ++ line ∷ []) given all few (all_push lines line whole is) rest in
        as_faulty w h (given ++ rest) (lines ++ line ∷ begins.more) refused.played.items fault (begins.are ∙ append_assoc lines (line ∷ []) begins.more)
        (judged_refused w h lines begins.more line refused.played.items fault refused.played.read refused.refused);
    count = refused.played.count;
    performs = refused.played.performs;
  }

  -- the last line has no end
  refused_last : (lines : List (List ℕ)) (line given : List ℕ) (begun : ℕ) (fault : ScriptFault) → lines_of given ≡ lines ++ line ∷ [] → length given ≤ 1048576 → IsRefusedLine s lines line begun from now Left fault → Leaves s given true begun from now Left fault
  refused_last lines line given begun fault split few refused = record {
    items = refused.played.items;
    decided = λ rest alone.
        subst (λ x. judged_as w h (given ++ x) ≡ judgement refused.played.items (Err fault)) (sym (alone refl))
        (as_faulty w h (given ++ []) (lines ++ line ∷ []) refused.played.items fault (ap lines_of (judged_whole given few) ∙ split)
        (judged_refused w h lines [] line refused.played.items fault refused.played.read refused.refused));
    count = refused.played.count;
    performs = refused.played.performs;
  }

  first_as : (text : List ℕ) (lines more : List (List ℕ)) (items : List Item) → lines_of (judged_part text) ≡ lines ++ more → judged_lines w h lines ≡ judgement items (Ok tt) → AreFirstOf items (judged_as w h text)
  first_as text lines more items are e =
      let first = judged_first w h lines more items e in
      (first.0, ap (λ x. (judged_lines w h x).items) are ∙ first.1)

  -- the writer failed in a line that ended
  cut_mid : (lines : List (List ℕ)) (line given : List ℕ) (begun at : ℕ) → given ≡ with_line_ends (lines ++ line ∷ []) → length given ≤ 1048576 → AllByRecursion IsUnended lines → IsUnended line → IsCutLine s (lines ++ line ∷ []) begun at from now Left → IsCutOff s given false begun at from now Left
  cut_mid lines line given begun at all few whole is cut = record {
    items = cut.items;
    first = λ rest alone.
        let begins = begins_with (lines ++ line ∷ []) given all few (all_push lines line whole is) rest in
        first_as (given ++ rest) (lines ++ line ∷ []) begins.more cut.items begins.are cut.read;
    later = cut.later;
    stops = cut.stops;
  }

  -- or in the last one
  cut_last : (lines : List (List ℕ)) (line given : List ℕ) (begun at : ℕ) → lines_of given ≡ lines ++ line ∷ [] → length given ≤ 1048576 → IsCutLine s (lines ++ line ∷ []) begun at from now Left → IsCutOff s given true begun at from now Left
  cut_last lines line given begun at split few cut = record {
    items = cut.items;
    first = λ rest alone.
        subst (λ x. AreFirstOf cut.items (judged_as w h (given ++ x))) (sym (alone refl))
        (first_as (given ++ []) (lines ++ line ∷ []) [] cut.items (ap lines_of (judged_whole given few) ∙ split ∙ sym (append-nil (lines ++ line ∷ []))) cut.read);
    later = cut.later;
    stops = cut.stops;
  }

  -- ---- what a line that wasn't performed to its end says

  pub breaks_mid : (fault : StreamFault) (lines : List (List ℕ)) (line given : List ℕ) (begun : ℕ) → given ≡ (with_line_ends lines ++ line) ++ 10 ∷ [] → length given ≤ 1048576 → AllByRecursion IsUnended lines → IsUnended line → IsUnplayed s lines line begun from now Left fault → Breaks s given false begun from now Left fault
  breaks_mid streams.NoMemory lines line given begun are few whole is un = absurd un
  breaks_mid streams.Read lines line given begun are few whole is un = absurd un
  breaks_mid (streams.Syntax n) lines line given begun are few whole is un = refused_mid lines line given begun (scripts.Syntax n) (are ∙ sym (ended_push lines line)) few whole is un
  breaks_mid (streams.OffScreen n) lines line given begun are few whole is un = refused_mid lines line given begun (scripts.OffScreen n) (are ∙ sym (ended_push lines line)) few whole is un
  breaks_mid streams.TooLong lines line given begun are few whole is un = refused_mid lines line given begun scripts.TooLong (are ∙ sym (ended_push lines line)) few whole is un
  breaks_mid (streams.Write at) lines line given begun are few whole is un = cut_mid lines line given begun at (are ∙ sym (ended_push lines line)) few whole is un

  -- the lines of bytes of which the last has no end
  split_last : (lines : List (List ℕ)) (line given : List ℕ) → 0 < length line → given ≡ with_line_ends lines ++ line → AllByRecursion IsUnended lines → IsUnended line → lines_of given ≡ lines ++ line ∷ []
  split_last lines [] given some are whole is = absurd (omega (arith, some))
  split_last lines (c ∷ cs) given some are whole is = ap lines_of are ∙ lines_of_ended lines (c ∷ cs) whole ∙ ap (λ x. lines ++ x) (last_line c cs is)

  breaks_last : (fault : StreamFault) (lines : List (List ℕ)) (line given : List ℕ) (begun : ℕ) → lines_of given ≡ lines ++ line ∷ [] → length given ≤ 1048576 → IsUnplayed s lines line begun from now Left fault → Breaks s given true begun from now Left fault
  breaks_last streams.NoMemory lines line given begun split few un = absurd un
  breaks_last streams.Read lines line given begun split few un = absurd un
  breaks_last (streams.Syntax n) lines line given begun split few un = refused_last lines line given begun (scripts.Syntax n) split few un
  breaks_last (streams.OffScreen n) lines line given begun split few un = refused_last lines line given begun (scripts.OffScreen n) split few un
  breaks_last streams.TooLong lines line given begun split few un = refused_last lines line given begun scripts.TooLong split few un
  breaks_last (streams.Write at) lines line given begun split few un = cut_last lines line given begun at split few un

  -- a last line that has some bytes
  pub breaks_end : (fault : StreamFault) (lines : List (List ℕ)) (line given : List ℕ) (begun : ℕ) → 0 < length line → given ≡ with_line_ends lines ++ line → length given ≤ 1048576 → AllByRecursion IsUnended lines → IsUnended line → IsUnplayed s lines line begun from now Left fault → Breaks s given true begun from now Left fault
  breaks_end fault lines line given begun some are few whole is un = breaks_last fault lines line given begun (split_last lines line given some are whole is) few un

  -- ---- the end of a stream

  ends_read : (lines : List (List ℕ)) (begun : ℕ) (given : List ℕ) → lines_of given ≡ lines → length given ≤ 1048576 → HasPlayed s lines begun from now Left → Ends s given begun from now Left
  ends_read lines begun given are few played = record { items = played.items; read = as_short w h given lines played.items few are played.read; count = played.count; performs = played.performs }

  -- nothing stands after the last line end
  pub ends_ended : (lines : List (List ℕ)) (line : List ℕ) (begun : ℕ) (given : List ℕ) → line ≡ [] → given ≡ with_line_ends lines ++ line → length given ≤ 1048576 → AllByRecursion IsUnended lines → HasPlayed s lines begun from now Left → Ends s given begun from now Left
  ends_ended lines line begun given none are few whole played =
      ends_read lines begun given (ap lines_of (are ∙ ap (λ x. with_line_ends lines ++ x) none) ∙ lines_of_ended lines [] whole ∙ append-nil lines) few played

  -- the last line was performed too
  pub ends_last : (lines : List (List ℕ)) (line : List ℕ) (begun : ℕ) (given : List ℕ) → 0 < length line → given ≡ with_line_ends lines ++ line → length given ≤ 1048576 → AllByRecursion IsUnended lines → IsUnended line → HasPlayed s (lines ++ line ∷ []) begun from now Left → Ends s given begun from now Left
  ends_last lines line begun given some are few whole is played = ends_read (lines ++ line ∷ []) begun given (split_last lines line given some are whole is) few played

  -- ---- bytes

  fed_lines : (feed : Feed) (given : List ℕ) → (fed : IsFed s feed given from now Left) → lines_of (up_to_last_end given) ≡ fed.lines
  fed_lines feed given fed = ap (λ x. lines_of (up_to_last_end x)) fed.parts ∙ lines_up fed.lines feed.line.items fed.whole fed.open_line

  -- the judgement of the lines that ended among the bytes that came
  pub fed_judged : (feed : Feed) (given : List ℕ) → length given ≤ 1048576 → (fed : IsFed s feed given from now Left) → judged_as w h (up_to_last_end given) ≡ judgement fed.played.items (Ok tt)
  fed_judged feed given few fed = as_short w h (up_to_last_end given) fed.lines fed.played.items (omega (arith, few, up_le given)) (fed_lines feed given fed) fed.played.read

  -- whatever follows, their items come first
  pub fed_first : (feed : Feed) (given : List ℕ) → length given ≤ 1048576 → (fed : IsFed s feed given from now Left) → OfEach given false (λ stream. AreFirstOf fed.played.items (judged_as w h stream))
  fed_first feed given few fed = λ rest alone.
      let whole : given ++ rest ≡ with_line_ends fed.lines ++ (feed.line.items ++ rest) = ap (λ x. x ++ rest) fed.parts ∙ append_assoc (with_line_ends fed.lines) feed.line.items rest in
      let ended : length (with_line_ends fed.lines) ≤ 1048576 = omega (arith, few, ap length fed.parts, length-append (with_line_ends fed.lines) feed.line.items) in
      let begins = begins_with fed.lines (with_line_ends fed.lines) refl ended fed.whole (feed.line.items ++ rest) in
      first_as (given ++ rest) fed.lines begins.more fed.played.items (ap (λ x. lines_of (judged_part x)) whole ∙ begins.are) fed.played.read

  -- a byte more than a script may have
  pub too_many : (feed : Feed) (given : List ℕ) (byte : ℕ) → length given ≡ 1048576 → IsFed s feed given from now Left → Breaks s (given ++ byte ∷ []) false feed.items from now Left streams.TooLong
  too_many feed given byte full fed = record {
    items = fed.played.items;
    decided = λ rest alone.
        let part : (given ++ byte ∷ []) ++ rest ≡ given ++ byte ∷ rest = append_assoc given (byte ∷ []) rest in
        let long : 1048576 < length (given ++ byte ∷ rest) = omega (arith, length-append given (byte ∷ rest), full) in
        subst (λ x. judged_as w h x ≡ judgement fed.played.items (Err scripts.TooLong)) (sym part)
        (as_long w h (given ++ byte ∷ rest) fed.lines fed.played.items long (ap lines_of (judged_full given (byte ∷ rest) full (omega arith)) ∙ fed_lines feed given fed) fed.played.read);
    count = fed.played.count;
    performs = fed.played.performs;
  }

  -- ---- more bytes came with the one at which it broke

  widened : (given more : List ℕ) (e : Bool) (Holds : List ℕ → Type 0) → OfEach given false Holds → OfEach (given ++ more) e Holds
  widened given more e Holds holds = λ rest alone. subst Holds (sym (append_assoc given more rest)) (holds (more ++ rest) (λ clash. absurd cc))

  wider : (given more : List ℕ) (e : Bool) (begun : ℕ) (fault : ScriptFault) → Leaves s given false begun from now Left fault → Leaves s (given ++ more) e begun from now Left fault
  wider given more e begun fault d = record { items = d.items; decided = widened given more e (λ stream. judged_as w h stream ≡ judgement d.items (Err fault)) d.decided; count = d.count; performs = d.performs }

  pub breaks_wider : (fault : StreamFault) (given more : List ℕ) (e : Bool) (begun : ℕ) → Breaks s given false begun from now Left fault → Breaks s (given ++ more) e begun from now Left fault
  breaks_wider streams.NoMemory given more e begun b = absurd b
  breaks_wider streams.Read given more e begun b = absurd b
  breaks_wider (streams.Syntax n) given more e begun b = wider given more e begun (scripts.Syntax n) b
  breaks_wider (streams.OffScreen n) given more e begun b = wider given more e begun (scripts.OffScreen n) b
  breaks_wider streams.TooLong given more e begun b = wider given more e begun scripts.TooLong b
  breaks_wider (streams.Write at) given more e begun b = record { items = b.items; first = widened given more e (λ stream. AreFirstOf b.items (judged_as w h stream)) b.first; later = b.later; stops = b.stops }

-- ---- pieces

-- two runs on one stream are judged alike
pub cuts_decide_nothing : CutsDecideNothing
cuts_decide_nothing s stream given given' left left' judged judged' begun begun' decided decided' =
    sym (decided begun.rest begun.alone) ∙ ap (judged_as s.desc.width s.desc.height) (sym begun.parts ∙ begun'.parts) ∙ decided' begun'.rest begun'.alone
