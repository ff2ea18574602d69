use Rattle.std.proofs.Common.{refl, sym, ◌∙◌}
use Rattle.tv_live.proofs.HostLemmas.{begins-so, begun-size, going-on}
use Rattle.tv_live.proofs.ShownLemmas.{size-of}
use Rattle.tv_live.proofs.host.Host.begin.Goals as goal

pub show_all-requires : goal.show_all-requires
show_all-requires g c =
    let set = c.requires.ready.set in
    let to = c.act-next.ensures.goes set.session set.here in
    record { there = (to.session, to.runs, size-of set.session.desc to.session c.args.self.now.painter.now to.desc set.size.width set.size.height) }

pub returns-clause-kept : goal.returns-clause-kept
returns-clause-kept g c =
    let set = c.requires.ready.set in
    let to = c.act-next.ensures.goes set.session set.here in
    let p = c.show_all.ensures to.session to.runs in
    record {
      same = record { app = refl; program = refl; screen = p.begins.puts.same };
      set = record { session = to.session; here = to.runs; size = begun-size set.session.desc to.session _ _ _ _ to.desc set.size p };
      going = λ none. going-on _ c.act-next.result c.is_over.result (sym c.outcome_of.ensures ∙ none);
    }

pub returns-clause-begins : goal.returns-clause-begins
returns-clause-begins g c =
    let host = c.args.self.now in
    let now = record host { app = record host.app { now = c.act-next.new.app }; program = record host.program { now = c.act-next.new.self }; painter = record host.painter { now = c.show_all.new.painter }; pen = c.show_all.new.pen } in
    begins-so g.P.Program.makes g.T.Writer.seen host now c.act-next.result c.is_over.result c.outcome_of.result c.requires.ready.going c.requires.untold refl c.requires.painter c.act-next.ensures.goes c.show_all.ensures c.is_over.ensures c.outcome_of.ensures
