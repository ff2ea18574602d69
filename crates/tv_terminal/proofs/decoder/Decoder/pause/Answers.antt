use Rattle.tv_terminal.proofs.SentLemmas.{pause_is_sent}
use Rattle.tv_terminal.proofs.decoder.Decoder.pause.Goals as goal

pub returns-clause-sent : goal.returns-clause-sent
returns-clause-sent c =
    pause_is_sent c.self.inside.is_pasting c.as_slice.result.now c.at_pause-meant.result c.heard_while-heard.result c.at_pause-meant.ensures c.heard_while-heard.ensures
