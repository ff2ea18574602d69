-- One text after another, at a writer.
use Rattle.std.proofs.Common.{◌≡◌, ℕ, ◌≤◌, ◌+◌, ◌-◌, List, [], ◌++◌, length, take, drop, length-drop, Option, Some, None, refl, sym, ap, ◌∙◌, append_assoc, arith, length-append}
use Rattle.std.proofs.lemmas.List.{append-nil, take_all}
use Rattle.std.proofs.Math.Seq.{take-add}
use Rattle.std.specs.Io.KnownBytes.{Appends, Keeps}
use Rattle.tv_io.specs.Writer.{Seen, Takes, Cuts, HasRisen, IsHeldBack, IsPassedOn}

pub Appends-none : (a : Option (List ℕ)) → Appends a a []
Appends-none None = tt
Appends-none (Some xs) = sym (append-nil xs)

pub Appends-then : (a b c : Option (List ℕ)) (x y : List ℕ) → Appends a b x → Appends b c y → Appends a c (x ++ y)
Appends-then None b c x y p q = tt
Appends-then (Some a) None c x y p q = absurd p
Appends-then (Some a) (Some b) None x y p q = absurd q
Appends-then (Some a) (Some b) (Some c) x y p q = q ∙ ap (λ (t : List ℕ). t ++ y) p ∙ append_assoc a x y

pub Takes-none : (a : Seen) → Takes a a []
Takes-none a = record { bytes = Appends-none a.taken; count = refl }

pub Takes-then : {a b c : Seen} (x y : List ℕ) → Takes a b x → Takes b c y → Takes a c (x ++ y)
Takes-then {a} {b} {c} x y p q = record { bytes = Appends-then a.taken b.taken c.taken x y p.bytes q.bytes; count = q.count ∙ p.count }

-- a cut of a text is a cut of a longer one
abbrev pub Cuts-longer : {a b : Seen} (x y : List ℕ) → Cuts a b x → Cuts a b (x ++ y)
Cuts-longer x y p = record {
  front = p.front;
  rest = p.rest ++ y;
  parts = ap (λ (t : List ℕ). t ++ y) p.parts ∙ append_assoc p.front p.rest y;
  proper = omega (arith, p.proper, length-append p.rest y);
  bytes = p.bytes;
  count = p.count;
}

pub risen : {m n k : ℕ} → n ≡ m → HasRisen n k → HasRisen m k
risen e h = rw e at h

-- a whole text, and then a cut of the next
abbrev pub Cuts-after : {a b c : Seen} (x y : List ℕ) → Takes a b x → Cuts b c y → Cuts a c (x ++ y)
Cuts-after {a} {b} {c} x y p q = record {
  front = x ++ q.front;
  rest = q.rest;
  parts = ap (λ (t : List ℕ). x ++ t) q.parts ∙ sym (append_assoc x q.front q.rest);
  proper = q.proper;
  bytes = Appends-then a.taken b.taken c.taken x q.front p.bytes q.bytes;
  count = risen p.count q.count;
}

-- the same text by another name
abbrev pub Cuts-along : {a b : Seen} {x y : List ℕ} → x ≡ y → Cuts a b x → Cuts a b y
Cuts-along e p = record { front = p.front; rest = p.rest; parts = sym e ∙ p.parts; proper = p.proper; bytes = p.bytes; count = p.count }

rest_is : (text : List ℕ) (at : ℕ) → take (length text - at) (drop at text) ≡ drop at text
rest_is text at = take_all (length text - at) (drop at text) (omega (arith, length-drop at text))

-- what was taken so far, and then some of the rest
pub Takes-more : {a b c : Seen} (text : List ℕ) (at n : ℕ) → at ≤ length text → n ≤ length (take (length text - at) (drop at text)) → Takes a b (take at text) → Takes b c (take n (take (length text - at) (drop at text))) → (at + n ≤ length text) × Takes a c (take (at + n) text)
Takes-more {a} {b} {c} text at n inside few p q =
    let few' : n ≤ length (drop at text) = rw rest_is at few in
    let q' : Takes b c (take n (drop at text)) = rw rest_is at q in
    (omega (arith, length-drop at text), rw (take-add at n text) (Takes-then (take at text) (take n (drop at text)) p q'))

-- ---- what is passed on

Appends-kept : (a b : Option (List ℕ)) → Keeps a b → Appends a b []
Appends-kept None b k = tt
Appends-kept (Some x) None k = absurd k
Appends-kept (Some x) (Some y) k = k ∙ sym (append-nil x)

-- no byte more was taken
pub Takes-passed : {a b : Seen} → IsPassedOn a b → Takes a b []
Takes-passed {a} {b} p = record { bytes = Appends-kept a.taken b.taken p.bytes; count = p.count }

-- what is held back hasn't come out
pub Cuts-held : {a b : Seen} → IsHeldBack a b → Cuts a b []
Cuts-held {a} {b} p = record { front = []; rest = []; parts = refl; proper = omega (arith, p.some); bytes = Appends-kept a.taken b.taken p.bytes; count = p.count }
