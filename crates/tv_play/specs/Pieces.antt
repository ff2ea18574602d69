-- What comes from a terminal, in pieces.
use Rattle.std.specs.Prelude.{◌≡◌, ◌≢◌, ◌<◌, ◌≤◌, ℕ, Bool, true, false, List, [], ◌∷◌, ◌++◌, map, take}
use Rattle.std.specs.Prelude.{length, Option}
use Rattle.std.specs.Prelude.{Some, None, IfSome}
use Rattle.tv_io.specs.Writer.{HasRisen}
use Rattle.tv_play.specs.declared.pieces.Piece.{Piece}
use Rattle.tv_play.specs.declared.pieces.Piece.TheVariants as pieces
use Rattle.tv_terminal.specs.Decoding.{Symbol, Byte, Pause}

-- the bytes and pauses that are still to come, where they are known; the count of calls that failed; and
-- whether the last call was the end
pub record Heard : Type 0 where
  pub left : Option (List Symbol)
  pub failures : ℕ
  pub is_ended : Bool

-- what a piece is, whose bytes stand in a room. At the end there is a pause, too
abbrev pub symbols_in : Piece → List ℕ → List Symbol
symbols_in (pieces.Bytes count) room = map Byte (take count room)
symbols_in pieces.Pause room = Pause ∷ []
symbols_in pieces.End room = Pause ∷ []

-- there are some bytes, and they lie in the room
abbrev pub FitsRoom : Piece → List ℕ → Type 0
FitsRoom (pieces.Bytes count) room = (0 < count) × (count ≤ length room)
FitsRoom pieces.Pause room = Unit {0}
FitsRoom pieces.End room = Unit {0}

-- these symbols were the next ones, where it is known what was left
abbrev pub Loses : (old new : Option (List Symbol)) → List Symbol → Type 0
Loses None new symbols = Unit {0}
Loses (Some old) None symbols = ⊥
Loses (Some old) (Some new) symbols = old ≡ symbols ++ new

-- these symbols came, and no call failed
pub record HasCome (old new : Heard) (symbols : List Symbol) : Type 0 where
  pub took : Loses old.left new.left symbols
  pub count : new.failures ≡ old.failures

-- the last call was the end, and nothing is left
pub record HasEnded (h : Heard) : Type 0 where
  pub ended : h.is_ended ≡ true
  pub none : IfSome h.left (λ left. left ≡ [])

-- one call gave a piece, which is the end or isn't
pub record Comes (old new : Heard) (piece : Piece) (room : List ℕ) : Type 0 where
  pub has : HasCome old new (symbols_in piece room)
  pub ended : piece ≡ pieces.End → HasEnded new
  pub going : piece ≢ pieces.End → new.is_ended ≡ false

-- a call gave nothing, and failed, which isn't the end
pub record ComesNot (old new : Heard) : Type 0 where
  pub took : Loses old.left new.left []
  pub count : HasRisen old.failures new.failures
  pub going : new.is_ended ≡ false
