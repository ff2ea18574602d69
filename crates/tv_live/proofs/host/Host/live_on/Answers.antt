use Rattle.std.proofs.Common.{[], ◌∷◌, ◌++◌, Err, inl, inr, refl, arith, ◌∙◌}
use Rattle.tv_live.specs.Course.{causes_of}
use Rattle.tv_live.specs.Host.{scene_of}
use Rattle.tv_live.proofs.CourseLemmas.{left-more-of}
use Rattle.tv_live.proofs.LivingLemmas.{came-more, lived-unpassed, living-passed, living-turned, many-more, passed, run-by, run-ended, run-turned, run-unread}
use Rattle.tv_live.proofs.host.Host.live_on.Goals as goal
use Rattle.tv_play.specs.Pieces.{symbols_in}
use Rattle.tv_play.specs.declared.parting.PlayFault.TheVariants as faults
use Rattle.tv_play.proofs.PlayLemmas.{come-none}

pub loop-turn-init : goal.loop-turn-init
loop-turn-init g c = record {
  same = record { app = refl; program = refl; screen = refl };
  ready = c.requires.ready;
  pieces = [];
  many = omega arith;
  came = come-none (g.I.Pieces.heard c.args.pieces.now);
  read = c.requires.fresh;
  lives = λ colours program s from living. living;
}

pub returns-then-self-clause-runs : goal.returns-then-self-clause-runs
returns-then-self-clause-runs g c = λ colours program s from living.
    let before = c.loop-turn.invariant in
    let here = scene_of g.T.Writer.seen c.loop-turn.self in
    let pen = c.pass_on.new.self in
    run-by before.pieces _ _ (passed here (g.T.Writer.seen pen.out.now) pen.stopped) (Err faults.Screen) before.came
    (lived-unpassed (causes_of before.pieces) here (g.T.Writer.seen pen.out.now) pen.stopped c.pass_on.ensures.puts.how c.if-self.true (before.lives colours program s from living))

pub returns-in_default-clause-runs : goal.returns-in_default-clause-runs
returns-in_default-clause-runs g c = λ colours program s from living.
    let before = c.loop-turn.invariant in
    let here = scene_of g.T.Writer.seen c.loop-turn.self in
    let pen = c.pass_on.new.self in
    run-unread before.pieces _ _ (passed here (g.T.Writer.seen pen.out.now) pen.stopped) (g.I.Pieces.heard c.loop-turn.pieces) before.came (c.next.ensures.failed c.in_default.is) (c.pass_on.ensures.none c.if-self.false)
    (living-passed (causes_of before.pieces) here (g.T.Writer.seen pen.out.now) pen.stopped c.pass_on.ensures.puts.how c.if-self.false (before.lives colours program s from living))

pub returns-in-Some-take_turn-clause-runs : goal.returns-in-Some-take_turn-clause-runs
returns-in-Some-take_turn-clause-runs g c = λ colours program s from living.
    let before = c.loop-turn.invariant in
    let here = scene_of g.T.Writer.seen c.loop-turn.self in
    let pen = c.pass_on.new.self in
    let piece = symbols_in c.in-Some.piece c.next.new.room in
    run-turned before.pieces piece c.loop-turn.self.decoder before.read _ _ _ before.came c.in-Some.ensures.came.has (passed here (g.T.Writer.seen pen.out.now) pen.stopped) (scene_of g.T.Writer.seen c.take_turn.new.self)
    colours program s from c.in-Some-take_turn.outcome c.in-Some-take_turn.ensures.sees
    (living-passed (causes_of before.pieces) here (g.T.Writer.seen pen.out.now) pen.stopped c.pass_on.ensures.puts.how c.if-self.false (before.lives colours program s from living))

pub returns-in-End-clause-runs : goal.returns-in-End-clause-runs
returns-in-End-clause-runs g c = λ colours program s from living.
    let before = c.loop-turn.invariant in
    let here = scene_of g.T.Writer.seen c.loop-turn.self in
    let pen = c.pass_on.new.self in
    let piece = symbols_in c.in-Some.piece c.next.new.room in
    let after = scene_of g.T.Writer.seen c.take_turn.new.self in
    run-ended (before.pieces ++ piece ∷ []) _ _ after
    (came-more before.pieces piece _ _ _ before.came c.in-Some.ensures.came.has)
    (inl (c.in-Some.ensures.came.ended c.in-End.is))
    (living-turned before.pieces piece c.loop-turn.self.decoder before.read _ _ _ before.came c.in-Some.ensures.came.has (passed here (g.T.Writer.seen pen.out.now) pen.stopped) after
    colours program s from c.in_default-take_turn.ensures.sees
    (living-passed (causes_of before.pieces) here (g.T.Writer.seen pen.out.now) pen.stopped c.pass_on.ensures.puts.how c.if-self.false (before.lives colours program s from living)))

pub loop-turn-preserved : goal.loop-turn-preserved
loop-turn-preserved g c =
    let before = c.loop-turn.invariant in
    let here = scene_of g.T.Writer.seen c.loop-turn.self in
    let pen = c.pass_on.new.self in
    let piece = symbols_in c.in-Some.piece c.next.new.room in
    let after = scene_of g.T.Writer.seen c.take_turn.new.self in
    let same = c.take_turn.ensures.kept.same in
    record {
      same = record { app = same.app ∙ before.same.app; program = same.program ∙ before.same.program; screen = same.screen ∙ c.pass_on.ensures.puts.same ∙ before.same.screen };
      ready = record { set = c.take_turn.ensures.kept.set; going = c.in_default-take_turn.ensures.kept.going refl };
      pieces = before.pieces ++ piece ∷ [];
      many = many-more before.pieces c.in-Some.piece c.next.new.room c.loop-turn.turn c.in-Some.ensures.within before.many;
      came = came-more before.pieces piece _ _ _ before.came c.in-Some.ensures.came.has;
      read = left-more-of before.pieces piece c.loop-turn.self.decoder _ before.read (c.in_default-take_turn.ensures.read refl);
      lives = λ colours program s from living.
          living-turned before.pieces piece c.loop-turn.self.decoder before.read _ _ _ before.came c.in-Some.ensures.came.has (passed here (g.T.Writer.seen pen.out.now) pen.stopped) after
          colours program s from c.in_default-take_turn.ensures.sees
          (living-passed (causes_of before.pieces) here (g.T.Writer.seen pen.out.now) pen.stopped c.pass_on.ensures.puts.how c.if-self.false (before.lives colours program s from living));
    }

pub returns-clause-runs : goal.returns-clause-runs
returns-clause-runs g c = λ colours program s from living.
    let before = c.loop-turn.invariant in
    run-ended before.pieces _ _ (scene_of g.T.Writer.seen c.loop-turn.self) before.came (inr (omega (arith, before.many, c.loop-turn-test.false))) (before.lives colours program s from living)
