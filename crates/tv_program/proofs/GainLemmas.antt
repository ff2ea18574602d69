-- One picture after another.
use Rattle.std.proofs.Common.{◌≡◌, ℕ, ◌+◌, ◌<◌, List, [], ◌∷◌, ◌++◌, Option, Some, None, Result, Ok, Err, IsErrAnd, length, get_or, take, drop, refl, sym, ap, subst, ◌∙◌, append_assoc, arith}
use Rattle.std.proofs.lemmas.List.{append-nil, length-append, take-append-drop, take_more}
use Rattle.tv_machine.specs.declared.script.Item.{Item}
use Rattle.tv_machine.specs.Output.{after, session_after, states}
use Rattle.tv_machine.specs.Run.{Session, quiet}
use Rattle.tv_program.specs.Albums.{FailsFor, Gains, GainsAll, GainsBefore, Hung, NamedPicture, drawn_as}
use Rattle.tv_program.specs.declared.picture_fault.ShotFault.{ShotFault}
use Rattle.tv_program.specs.Naming.{named_from, shot_name}
use Rattle.tv_program.specs.Pictures.{item_svgs, named_shots, session_svg, shot_svgs, svgs_from}

-- ---- what an album gains

pub gains-then : (a b c : Option Hung) (x y : List NamedPicture) → Gains a b x → Gains b c y → Gains a c (x ++ y)
gains-then None b c x y p q = tt
gains-then (Some a) None c x y p q = absurd p
gains-then (Some a) (Some b) None x y p q = absurd q
gains-then (Some a) (Some b) (Some c) x y p q =
    (q.0 ∙ ap (λ (t : List NamedPicture). t ++ y) p.0 ∙ append_assoc a.pictures x y, q.1 ∙ p.1)

-- ---- names

named-append : (name : List ℕ) (n : ℕ) (xs ys : List (List ℕ)) → named_from name n (xs ++ ys) ≡ named_from name n xs ++ named_from name (n + length xs) ys
named-append name n [] ys =
    let same : n ≡ n + length {A = List ℕ} [] = omega arith in
    ap (λ (k : ℕ). named_from name k ys) same
named-append name n (x ∷ xs) ys =
    let same : n + 1 + length xs ≡ n + length (x ∷ xs) = omega arith in
    ap (λ (t : List NamedPicture). drawn_as (shot_name name n) x ∷ t)
    (named-append name (n + 1) xs ys ∙ ap (λ (k : ℕ). named_from name (n + 1) xs ++ named_from name k ys) same)

length-named : (name : List ℕ) (n : ℕ) (xs : List (List ℕ)) → length (named_from name n xs) ≡ length xs
length-named name n [] = refl
length-named name n (x ∷ xs) =
    let rest = length-named name (n + 1) xs in
    omega (arith, rest)

-- ---- the pictures of items

svgs-append : (s : Session) (items more : List Item) → svgs_from s (items ++ more) ≡ svgs_from s items ++ svgs_from (states session_after s items) more
svgs-append s [] more = refl
svgs-append s (i ∷ items) more =
    ap (λ (t : List (List ℕ)). item_svgs s i ++ t) (svgs-append (session_after s i) items more)
    ∙ sym (append_assoc (item_svgs s i) (svgs_from (session_after s i) items) (svgs_from (states session_after (session_after s i) items) more))

-- some of them, and then the next one
module _ (name : List ℕ) (s : Session) (items : List Item) (i number : ℕ) (d : Item) (lt : i < length items) (counted : number ≡ 1 + length (shot_svgs s (take i items))) where
  abbrev front : List (List ℕ)
  front = shot_svgs s (take i items)

  abbrev next : List (List ℕ)
  next = item_svgs (after s (take i items)) (get_or items i d)

  shots-more : front ++ next ≡ shot_svgs s (take (i + 1) items)
  shots-more =
      sym (
      ap (svgs_from (quiet s)) (take_more items i d lt)
      ∙ svgs-append (quiet s) (take i items) (get_or items i d ∷ [])
      ∙ ap (λ (t : List (List ℕ)). front ++ t) (append-nil next)
      )

  named-next : named_from name 1 (front ++ next) ≡ named_shots name s (take i items) ++ named_from name number next
  named-next = subst (λ (k : ℕ). named_from name 1 (front ++ next) ≡ named_from name 1 front ++ named_from name k next) (sym counted) (named-append name 1 front next)

  pub named-more : named_shots name s (take i items) ++ named_from name number next ≡ named_shots name s (take (i + 1) items)
  named-more = sym named-next ∙ ap (named_from name 1) shots-more

  pub counted-more : number + length next ≡ 1 + length (shot_svgs s (take (i + 1) items))
  counted-more =
      let all : length (shot_svgs s (take (i + 1) items)) ≡ length front + length next = ap length (sym shots-more) ∙ length-append front next in
      omega (arith, counted, all)

  -- it failed, and it is a `shot`
  pub shot-failed : (a b c : Option Hung) (failed : ShotFault) → failed.number ≡ number → next ≡ session_svg (after s (take i items)) ∷ [] → Gains a b (named_shots name s (take i items)) → FailsFor b c failed.fault → GainsBefore a c (named_shots name s items) failed
  shot-failed a b c failed told shot before fails =
      let svg = session_svg (after s (take i items)) in
      let later = svgs_from (after s (take (i + 1) items)) (drop (i + 1) items) in
      let parts : shot_svgs s items ≡ front ++ svg ∷ later =
      sym (ap (svgs_from (quiet s)) (take-append-drop (i + 1) items))
      ∙ svgs-append (quiet s) (take (i + 1) items) (drop (i + 1) items)
      ∙ ap (λ (t : List (List ℕ)). t ++ later) (sym shots-more ∙ ap (λ (t : List (List ℕ)). front ++ t) shot)
      ∙ append_assoc front (svg ∷ []) later in
      record {
        front = named_from name 1 front;
        next = drawn_as (shot_name name (1 + length front)) svg;
        rest = named_from name (1 + length front + 1) later;
        parts = ap (named_from name 1) parts ∙ named-append name 1 front (svg ∷ later);
        place =
            let same = length-named name 1 front in
            omega (arith, told, counted, same);
        mid = b;
        gains = before;
        fails = fails;
      }

-- what is told of one that failed
pub gains-failed : {old new : Option Hung} {all : List NamedPicture} (failed : ShotFault) (r : Result (Unit {0}) ShotFault) → IsErrAnd r (λ told. told ≡ failed) → GainsBefore old new all failed → GainsAll old new all r
gains-failed failed (Ok x) told before = absurd told
gains-failed failed (Err other) told before = rw told before
