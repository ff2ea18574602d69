use Rattle.tv_laws.proofs.KeyLaws.CycleLemmas.{tab-goes-round}
use Rattle.tv_laws.proofs.LeavingLemmas.{tab-next}
use Rattle.tv_laws.proofs.KeyLaws.OrderLemmas.{free-are-controls, refusal-stays, shift-tab-previous, stops-are-tabs}
use Rattle.tv_laws.proofs.KeyLaws.ValueLemmas.{tab-keeps-values}
use Rattle.tv_laws.proofs.order.tab_goes_round.Goals as goal

pub returns : goal.returns
returns c =
    let d = c.args._dialog.now in
    let sound = c.requires.sound in
    record {
      stops = stops-are-tabs d sound;
      controls = free-are-controls d sound;
      asks_next = tab-next d;
      asks_previous = shift-tab-previous d;
      stays = refusal-stays d sound;
      keeps = tab-keeps-values d sound;
      round = tab-goes-round d sound;
    }
