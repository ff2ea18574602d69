-- Lines with their ends, and the bytes after the last end.
use Rattle.std.proofs.Common.{◌≡◌, ℕ, ◌+◌, ◌-◌, ◌<◌, ◌≤◌, ◌==◌, nat_le, Bool, true, false, ◌||◌, List, [], ◌∷◌, ◌++◌, length, take, refl, sym, ap, subst, ◌∙◌, append_assoc, min, arith, length-append}
use Rattle.std.specs.List.{AllByRecursion, list_any}
use Rattle.std.proofs.lemmas.List.{append-nil, length-take, take-append-le, take_all}
use Rattle.std.proofs.lemmas.Bool.Decides.{nat_tests}
use Rattle.std.proofs.Math.Seq.{take-append-add}
use Rattle.tv_script.specs.Lines.{ends_line}
use Rattle.tv_script.specs.Reading.Streams.{IsUnended, with_line_ends}
use Rattle.tv_script.specs.Judging.{before_end, is_short, judged_part, up_to_last_end}
use Rattle.tv_words.specs.Lines.{lines_of}

-- ---- lines without line ends

open_parts : (b : Bool) (line : List ℕ) → (b || list_any ends_line line) ≡ false → (b ≡ false) × IsUnended line
open_parts true line e = absurd cc
open_parts false line e = (refl, e)

onto : (b : Bool) (c : ℕ) (l rest : List ℕ) → c == 10 ≡ b → (b || list_any ends_line l) ≡ false → (IsUnended l → lines_of (l ++ 10 ∷ rest) ≡ l ∷ lines_of rest) → lines_of (c ∷ l ++ 10 ∷ rest) ≡ (c ∷ l) ∷ lines_of rest
onto true c l rest e none later = absurd cc
onto false c l rest e none later = rw (e, later none) refl

first_line : (l rest : List ℕ) → IsUnended l → lines_of (l ++ 10 ∷ rest) ≡ l ∷ lines_of rest
first_line [] rest none = refl
first_line (c ∷ l) rest none = onto (c == 10) c l rest refl none (first_line l rest)

pub lines_of_ended : (lines : List (List ℕ)) (rest : List ℕ) → AllByRecursion IsUnended lines → lines_of (with_line_ends lines ++ rest) ≡ lines ++ lines_of rest
lines_of_ended [] rest are = refl
lines_of_ended (l ∷ lines) rest are =
    ap lines_of (append_assoc (l ++ 10 ∷ []) (with_line_ends lines) rest ∙ append_assoc l (10 ∷ []) (with_line_ends lines ++ rest))
    ∙ first_line l (with_line_ends lines ++ rest) are.0 ∙ ap (λ x. l ∷ x) (lines_of_ended lines rest are.1)

last_if : (b : Bool) (c d : ℕ) (ds : List ℕ) → c == 10 ≡ b → (b || list_any ends_line (d ∷ ds)) ≡ false → (IsUnended (d ∷ ds) → lines_of (d ∷ ds) ≡ (d ∷ ds) ∷ []) → lines_of (c ∷ d ∷ ds) ≡ (c ∷ d ∷ ds) ∷ []
last_if true c d ds e none later = absurd cc
last_if false c d ds e none later = rw (e, later none) refl

alone_if : (b : Bool) (c : ℕ) → c == 10 ≡ b → (b || false) ≡ false → lines_of (c ∷ []) ≡ (c ∷ []) ∷ []
alone_if true c e none = absurd cc
alone_if false c e none = rw e refl

-- bytes without a line end are a line, if there are any
pub last_line : (c : ℕ) (cs : List ℕ) → IsUnended (c ∷ cs) → lines_of (c ∷ cs) ≡ (c ∷ cs) ∷ []
last_line c [] none = alone_if (c == 10) c refl none
last_line c (d ∷ ds) none = last_if (c == 10) c d ds refl none (last_line d ds)

push_if : (b : Bool) (c : ℕ) (l : List ℕ) (byte : ℕ) → (b || list_any ends_line l) ≡ false → (IsUnended l → IsUnended (l ++ byte ∷ [])) → (b || list_any ends_line (l ++ byte ∷ [])) ≡ false
push_if true c l byte none later = absurd cc
push_if false c l byte none later = later none

pub open_push : (l : List ℕ) (byte : ℕ) → IsUnended l → ends_line byte ≡ false → IsUnended (l ++ byte ∷ [])
open_push [] byte none is = rw is refl
open_push (c ∷ l) byte none is = push_if (c == 10) c l byte none (λ open_rest. open_push l byte open_rest is)

pub ended_push : (lines : List (List ℕ)) (l : List ℕ) → with_line_ends (lines ++ l ∷ []) ≡ (with_line_ends lines ++ l) ++ 10 ∷ []
ended_push [] l = append-nil (l ++ 10 ∷ [])
ended_push (x ∷ lines) l =
    ap (λ y. (x ++ 10 ∷ []) ++ y) (ended_push lines l) ∙ sym (append_assoc (x ++ 10 ∷ []) (with_line_ends lines ++ l) (10 ∷ []))
    ∙ ap (λ y. y ++ 10 ∷ []) (sym (append_assoc (x ++ 10 ∷ []) (with_line_ends lines) l))

pub all_push : (lines : List (List ℕ)) (l : List ℕ) → AllByRecursion IsUnended lines → IsUnended l → AllByRecursion IsUnended (lines ++ l ∷ [])
all_push [] l are is = (is, tt)
all_push (x ∷ lines) l are is = (are.0, all_push lines l are.1 is)

-- ---- up to the last line end

up_if : (b : Bool) (c : ℕ) (cs : List ℕ) → c == 10 ≡ b → (b || list_any ends_line cs) ≡ false → (IsUnended cs → up_to_last_end cs ≡ []) → before_end c (up_to_last_end cs) ≡ []
up_if true c cs e none later = absurd cc
up_if false c cs e none later = rw (later none, e) refl

pub up_open : (l : List ℕ) → IsUnended l → up_to_last_end l ≡ []
up_open [] none = refl
up_open (c ∷ l) none = up_if (c == 10) c l refl none (up_open l)

before_ten : (x : List ℕ) → before_end 10 x ≡ 10 ∷ x
before_ten [] = refl
before_ten (d ∷ ds) = refl

before_some : (c : ℕ) (l : List ℕ) (x : List ℕ) → before_end c (l ++ 10 ∷ x) ≡ c ∷ l ++ 10 ∷ x
before_some c [] x = refl
before_some c (d ∷ l) x = refl

up_line : (l rest : List ℕ) → up_to_last_end (l ++ 10 ∷ rest) ≡ l ++ 10 ∷ up_to_last_end rest
up_line [] rest = before_ten (up_to_last_end rest)
up_line (c ∷ l) rest = ap (before_end c) (up_line l rest) ∙ before_some c l (up_to_last_end rest)

pub up_ended : (lines : List (List ℕ)) (rest : List ℕ) → up_to_last_end (with_line_ends lines ++ rest) ≡ with_line_ends lines ++ up_to_last_end rest
up_ended [] rest = refl
up_ended (l ∷ lines) rest =
    ap up_to_last_end (append_assoc (l ++ 10 ∷ []) (with_line_ends lines) rest ∙ append_assoc l (10 ∷ []) (with_line_ends lines ++ rest))
    ∙ up_line l (with_line_ends lines ++ rest) ∙ ap (λ x. l ++ 10 ∷ x) (up_ended lines rest)
    ∙ sym (append_assoc (l ++ 10 ∷ []) (with_line_ends lines) (up_to_last_end rest) ∙ append_assoc l (10 ∷ []) (with_line_ends lines ++ up_to_last_end rest))

before_le : (b : Bool) (c n : ℕ) (x : List ℕ) → c == 10 ≡ b → length x ≤ n → length (before_end c x) ≤ n + 1
before_le true c n [] e h = rw e (omega arith)
before_le false c n [] e h = rw e (omega arith)
before_le b c n (d ∷ ds) e h = omega (arith, h)

pub up_le : (l : List ℕ) → length (up_to_last_end l) ≤ length l
up_le [] = omega arith
up_le (c ∷ l) = let r = before_le (c == 10) c (length l) (up_to_last_end l) refl (up_le l) in omega (arith, r)

-- ---- what is judged

-- the lines that ended are those up to the last line end
pub lines_up : (lines : List (List ℕ)) (line : List ℕ) → AllByRecursion IsUnended lines → IsUnended line → lines_of (up_to_last_end (with_line_ends lines ++ line)) ≡ lines
lines_up lines line are is =
    ap lines_of (up_ended lines line ∙ ap (λ x. with_line_ends lines ++ x) (up_open line is)) ∙ lines_of_ended lines [] are ∙ append-nil lines

judged_short : (stream : List ℕ) → length stream ≤ 1048576 → judged_part stream ≡ stream
judged_short stream h = let yes : nat_le (length stream) 1048576 ≡ true = grind (arith, nat_tests) in rw yes refl

judged_long : (stream : List ℕ) → 1048576 < length stream → judged_part stream ≡ up_to_last_end (take 1048576 stream)
judged_long stream h = let no : nat_le (length stream) 1048576 ≡ false = grind (arith, nat_tests) in rw no refl

take_past : (n : ℕ) (xs ys : List ℕ) → length xs ≤ n → take n (xs ++ ys) ≡ xs ++ take (n - length xs) ys
take_past n xs ys h = let same : length xs + (n - length xs) ≡ n = omega (arith, h) in rw same at (take-append-add xs ys (n - length xs))

-- of a stream that begins with whole lines these are judged first, and no more than a script may have
pub record BeginsJudged (lines : List (List ℕ)) (stream : List ℕ) : Type 0 where
  pub more : List (List ℕ)
  pub lines_are : lines_of (judged_part stream) ≡ lines ++ more
  pub short : length (judged_part stream) ≤ 1048576

take_le : (n : ℕ) (xs : List ℕ) → length (take n xs) ≤ n
take_le n xs = let is = length-take n xs in let low : min n (length xs) ≤ n = omega arith in subst (λ m. m ≤ n) (sym is) low

-- what is judged is no more than a script may have
judged_le_by : (text : List ℕ) (b : Bool) → is_short text ≡ b → length (judged_part text) ≤ 1048576
judged_le_by text true e = let small : length text ≤ 1048576 = grind (arith, nat_tests) in rw (judged_short text small) small
judged_le_by text false e =
    let long : 1048576 < length text = grind (arith, nat_tests) in
    rw (judged_long text long) (omega (arith, up_le (take 1048576 text), take_le 1048576 text))

pub judged_le : (text : List ℕ) → length (judged_part text) ≤ 1048576
judged_le text = judged_le_by text (is_short text) refl

pub begins_judged : (lines : List (List ℕ)) (rest : List ℕ) (b : Bool) → nat_le (length (with_line_ends lines ++ rest)) 1048576 ≡ b → AllByRecursion IsUnended lines → length (with_line_ends lines) ≤ 1048576 → BeginsJudged lines (with_line_ends lines ++ rest)
begins_judged lines rest true e are few =
    let small : length (with_line_ends lines ++ rest) ≤ 1048576 = grind (arith, nat_tests) in
    let same = judged_short (with_line_ends lines ++ rest) small in
    record { more = lines_of rest; lines_are = ap lines_of same ∙ lines_of_ended lines rest are; short = rw same small }
begins_judged lines rest false e are few =
    let long : 1048576 < length (with_line_ends lines ++ rest) = grind (arith, nat_tests) in
    let part = take (1048576 - length (with_line_ends lines)) rest in
    let front = take_past 1048576 (with_line_ends lines) rest few in
    let same : judged_part (with_line_ends lines ++ rest) ≡ with_line_ends lines ++ up_to_last_end part = judged_long (with_line_ends lines ++ rest) long ∙ ap up_to_last_end front ∙ up_ended lines part in
    let size : length (with_line_ends lines ++ up_to_last_end part) ≤ 1048576 = omega (arith, length-append (with_line_ends lines) (up_to_last_end part), up_le part, take_le (1048576 - length (with_line_ends lines)) rest, few) in
    record { more = lines_of (up_to_last_end part); lines_are = ap lines_of same ∙ lines_of_ended lines (up_to_last_end part) are; short = rw same size }

-- of a stream with more bytes than a script may have, the lines that end among these are judged
pub judged_full : (given rest : List ℕ) → length given ≡ 1048576 → 0 < length rest → judged_part (given ++ rest) ≡ up_to_last_end given
judged_full given rest full more =
    let long : 1048576 < length (given ++ rest) = omega (arith, length-append given rest, full, more) in
    let front : take 1048576 (given ++ rest) ≡ given = take-append-le 1048576 given rest (omega (arith, full)) ∙ take_all 1048576 given (omega (arith, full)) in
    judged_long (given ++ rest) long ∙ ap up_to_last_end front

pub judged_whole : (given : List ℕ) → length given ≤ 1048576 → judged_part (given ++ []) ≡ given
judged_whole given few = ap judged_part (append-nil given) ∙ judged_short given few
