use Rattle.std.proofs.Common.{refl, arith}
use Rattle.std.proofs.lemmas.Iterator.{YieldsList-from_chars}
use Rattle.std.proofs.lemmas.Iterator.Consumers.{YieldsList-turn, YieldsList-end}
use Rattle.std.proofs.lemmas.List.{take_all, length_push}
use Rattle.std.proofs.lemmas.List.Elements.{All-more}
use Rattle.tv_cells.proofs.TildeLemmas.{read_at}
use Rattle.std.specs.Str.{chars}
use Rattle.tv_cells.specs.Glyph.{IsNarrow}
use Rattle.tv_cells.proofs.hot_text.first_wide.Goals as goal

pub returns-then-not-is_narrow-clause-some : goal.returns-then-not-is_narrow-clause-some
returns-then-not-is_narrow-clause-some c =
    let t = YieldsList-turn (YieldsList-from_chars c.args.text.now c.utf8.text cc) c.loop-ch.yielded _ c.loop-ch.yielded_by _ _ c.in-Some.ch c.in-Some.is c.next.ensures.steps in
    (omega (arith, t.0, c.loop-ch.invariant.0), c.loop-ch.invariant.1, λ narrow. let is = read_at (chars c.args.text.now) _ _ _ c.loop-ch.invariant.0 t in let no = c.if-not-is_narrow.ensures.fact.1 (rw is at narrow) in absurd cc)

pub loop-ch-preserved : goal.loop-ch-preserved
loop-ch-preserved c =
    let t = YieldsList-turn (YieldsList-from_chars c.args.text.now c.utf8.text cc) c.loop-ch.yielded _ c.loop-ch.yielded_by _ _ c.in-Some.ch c.in-Some.is c.next.ensures.steps in
    let at = read_at (chars c.args.text.now) _ _ _ c.loop-ch.invariant.0 t in (
      omega (arith, c.loop-ch.invariant.0, length_push c.loop-ch.yielded c.in-Some.ch),
      All-more IsNarrow (chars c.args.text.now) c.loop-ch.place 0 (omega (arith, t.0, c.loop-ch.invariant.0)) c.loop-ch.invariant.1 (rw at (c.if-not-is_narrow.ensures.fact.0 refl)),
    )

pub returns-clause-none : goal.returns-clause-none
returns-clause-none c =
    let t = YieldsList-end (YieldsList-from_chars c.args.text.now c.utf8.text cc) c.loop-ch.yielded _ c.loop-ch.yielded_by _ _ c.in-None.is c.next.ensures.steps in
    rw (take_all c.loop-ch.place (chars c.args.text.now) (omega (arith, t.1, c.loop-ch.invariant.0))) at c.loop-ch.invariant.1
