use Rattle.std.proofs.Common.{refl}
use Rattle.tv_live.proofs.HostLemmas.{sees-refresh}
use Rattle.tv_live.proofs.host.Host.refresh.Goals as goal

pub returns-clause-sees : goal.returns-clause-sees
returns-clause-sees g c =
    let host = c.args.self.now in
    let now = record host { painter = record host.painter { now = c.show_all.new.painter }; size = c.size_with-self.result; pen = c.show_all.new.pen } in
    sees-refresh g.P.Program.makes g.T.Writer.seen host now c.args.action c.outcome_of.result refl refl c.requires.taken c.show_all.ensures c.size_with-self.ensures c.outcome_of.ensures
