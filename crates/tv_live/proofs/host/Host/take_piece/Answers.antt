use Rattle.std.proofs.Common.{ap, map, sym, ◌∙◌}
use Rattle.tv_live.specs.Course.{Does}
use Rattle.tv_live.proofs.HostLemmas.{pause-symbols, sees-as}
use Rattle.tv_live.proofs.host.Host.take_piece.Goals as goal
use Rattle.tv_play.specs.Pieces.{symbols_in}
use Rattle.tv_terminal.specs.Decoding.{decode_after, left_after}

pub returns-in-Bytes-clause-sees : goal.returns-in-Bytes-clause-sees
returns-in-Bytes-clause-sees g c = sees-as _ _ _ _ c.take_bytes.result (ap (λ p. map Does (decode_after c.args.self.now.decoder (symbols_in p c.args.room.now))) (sym c.in-Bytes.is)) c.take_bytes.ensures.sees

pub returns-in-Pause : goal.returns-in-Pause
returns-in-Pause g c =
    let same = sym (pause-symbols c.args.piece c.args.room.now c.in-Pause.is) in
    record {
      kept = c.take_pause.ensures.kept;
      read = λ none. c.take_pause.ensures.read none ∙ ap (left_after c.args.self.now.decoder) same;
      sees = sees-as _ _ _ _ c.take_pause.result (ap (λ x. map Does (decode_after c.args.self.now.decoder x)) same) c.take_pause.ensures.sees;
    }
