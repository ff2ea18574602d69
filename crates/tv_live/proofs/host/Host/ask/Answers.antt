use Rattle.std.proofs.Common.{refl, sym, ◌∙◌}
use Rattle.tv_live.proofs.HostLemmas.{asks, going-on, painted-size}
use Rattle.tv_live.proofs.ShownLemmas.{size-of}
use Rattle.tv_live.proofs.host.Host.ask.Goals as goal

pub show-requires : goal.show-requires
show-requires g c =
    let set = c.requires.ready.set in
    let to = c.act-next.ensures.goes set.session set.here in
    record { there = (to.session, to.runs, size-of set.session.desc to.session c.args.self.now.painter.now to.desc set.size.width set.size.height) }

pub returns-clause-kept : goal.returns-clause-kept
returns-clause-kept g c =
    let set = c.requires.ready.set in
    let to = c.act-next.ensures.goes set.session set.here in
    let p = c.show.ensures to.session to.runs in
    record {
      same = record { app = refl; program = refl; screen = p.paints.puts.same };
      set = record { session = to.session; here = to.runs; size = painted-size set.session.desc to.session _ _ _ to.desc set.size p };
      going = λ none. going-on _ c.act-next.result c.is_over.result (sym c.outcome_of.ensures ∙ none);
    }

pub returns-clause-asks : goal.returns-clause-asks
returns-clause-asks g c =
    let host = c.args.self.now in
    let now = record host { app = record host.app { now = c.act-next.new.app }; program = record host.program { now = c.act-next.new.self }; painter = record host.painter { now = c.show.new.painter }; pen = c.show.new.pen } in
    asks g.P.Program.makes g.T.Writer.seen host now c.args.news.now c.act-next.result c.is_over.result c.outcome_of.result c.act-next.ensures.goes c.show.ensures c.is_over.ensures refl c.outcome_of.ensures
