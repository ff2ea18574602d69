-- Pieces that are joined are decoded as one.
use Rattle.std.proofs.Common.{ℕ, ◌≡◌, false, refl, ap, ◌∙◌, List, [], ◌∷◌, ◌++◌, Option, Some, None}
use Rattle.tv_terminal.specs.declared.action.Action.{Action}
use Rattle.tv_terminal.specs.Decoding.{Listening, Symbol, Byte, Pause, before, between, decode, decode_after, heard, heard_at_pause, left, left_after, left_by}

pub before-append : (action : Option Action) (front rest : List Action) → before action (front ++ rest) ≡ before action front ++ rest
before-append None front rest = refl
before-append (Some action) front rest = refl

pub decode_after-append : (l : Listening) (front rest : List Symbol)
    → decode_after l (front ++ rest) ≡ decode_after l front ++ decode_after (left_after l front) rest
decode_after-append l [] rest = refl
decode_after-append l (Byte b ∷ front) rest =
    ap (before (heard l b)) (decode_after-append (left_by l b) front rest)
    ∙ before-append (heard l b) (decode_after (left_by l b) front) (decode_after (left_after (left_by l b) front) rest)
decode_after-append l (Pause ∷ front) rest =
    ap (before (heard_at_pause l)) (decode_after-append (between l.is_pasting) front rest)
    ∙ before-append (heard_at_pause l) (decode_after (between l.is_pasting) front) (decode_after (left_after (between l.is_pasting) front) rest)

pub left_after-append : (l : Listening) (front rest : List Symbol)
    → left_after l (front ++ rest) ≡ left_after (left_after l front) rest
left_after-append l [] rest = refl
left_after-append l (Byte b ∷ front) rest = left_after-append (left_by l b) front rest
left_after-append l (Pause ∷ front) rest = left_after-append (between l.is_pasting) front rest

-- one symbol more
pub decode-byte : (front : List Symbol) (b : ℕ) → decode (front ++ Byte b ∷ []) ≡ decode front ++ before (heard (left front) b) []
decode-byte front b = decode_after-append (between false) front (Byte b ∷ [])

pub decode-pause : (front : List Symbol) → decode (front ++ Pause ∷ []) ≡ decode front ++ before (heard_at_pause (left front)) []
decode-pause front = decode_after-append (between false) front (Pause ∷ [])

pub left-byte : (front : List Symbol) (b : ℕ) → left (front ++ Byte b ∷ []) ≡ left_by (left front) b
left-byte front b = left_after-append (between false) front (Byte b ∷ [])

pub left-pause : (front : List Symbol) → left (front ++ Pause ∷ []) ≡ between (left front).is_pasting
left-pause front = left_after-append (between false) front (Pause ∷ [])
