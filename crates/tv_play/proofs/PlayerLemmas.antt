-- What a player has played, by another name.
use Rattle.std.proofs.Common.{◌≡◌, List, subst}
use Rattle.tv_io.specs.Writer.{Seen}
use Rattle.tv_machine.specs.Run.{Session}
use Rattle.tv_play.specs.Player.{HasPlayed}
use Rattle.tv_play.specs.Steps.{Outside}
use Rattle.tv_play.specs.declared.player.Player.{Player}
use Rattle.tv_terminal.specs.Decoding.{Symbol}

-- the same symbols by another name
pub played-along : {L T W R : Type 0} {stands : L → Session → Type 0} {screen : T → Seen} {log : W → Seen} {tape : R → Seen} {p : Player L T W R} (s : Session) (a b : List Symbol) (from : Outside) → a ≡ b → HasPlayed stands screen log tape s a from p → HasPlayed stands screen log tape s b from p
played-along {stands = stands} {screen = screen} {log = log} {tape = tape} {p = p} s a b from same played = subst (λ (x : List Symbol). HasPlayed stands screen log tape s x from p) same played
