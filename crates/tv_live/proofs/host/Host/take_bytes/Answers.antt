use Rattle.std.proofs.Common.{◌+◌, ◌++◌, [], None, Some, ap, drop, get_or, map, refl, sym, take, ◌∙◌}
use Rattle.std.proofs.lemmas.List.{take_all}
use Rattle.tv_live.specs.Course.{Does}
use Rattle.tv_live.specs.Host.{scene_of}
use Rattle.tv_live.proofs.HostLemmas.{byte-more, bytes-rest, left-more, sees-as, sees-none, sees-out, sees-then}
use Rattle.tv_live.proofs.host.Host.take_bytes.Goals as goal
use Rattle.tv_terminal.specs.Decoding.{Byte, decode_after, heard, left_after}
use Rattle.tv_terminal.specs.Decoding as meaning

pub loop-byte-init : goal.loop-byte-init
loop-byte-init g c = record { same = record { app = refl; program = refl; screen = refl }; ready = c.requires.ready; read = refl; sees = sees-none _ }

pub take_meant-requires-clause-sent : goal.take_meant-requires-clause-sent
take_meant-requires-clause-sent g c = c.take-action.ensures.sent

pub take_meant-requires-clause-ready : goal.take_meant-requires-clause-ready
take_meant-requires-clause-ready g c = c.loop-byte.invariant.ready

pub returns-in-Some-clause-kept : goal.returns-in-Some-clause-kept
returns-in-Some-clause-kept g c =
    let same = c.take_meant.ensures.kept.same in
    let before = c.loop-byte.invariant.same in
    record { same = record { app = same.app ∙ before.app; program = same.program ∙ before.program; screen = same.screen ∙ before.screen }; set = c.take_meant.ensures.kept.set; going = λ none. absurd cc }

pub returns-in-Some-clause-sees : goal.returns-in-Some-clause-sees
returns-in-Some-clause-sees g c =
    let i = c.loop-byte.byte-index in
    let bytes = c.args.bytes.now in
    let l = c.args.self.now.decoder in
    let before = c.loop-byte.invariant in
    let meant = c.take-action.ensures.heard ∙ ap (λ x. heard x (get_or bytes i 0)) before.read in
    let rest = map Does (decode_after (left_after l (map Byte (take (i + 1) bytes))) (map Byte (drop (i + 1) bytes))) in
    let first = map Does (decode_after l (map Byte (take i bytes))) in
    let more = map Does (meaning.before c.take-action.result []) in
    let from = scene_of g.T.Writer.seen c.args.self.now in
    let mid = scene_of g.T.Writer.seen c.loop-byte.self in
    let to = scene_of g.T.Writer.seen c.take_meant.new.self in
    sees-as from to ((first ++ more) ++ rest) (map Does (decode_after l (map Byte bytes))) (Some c.in-Some.outcome) (ap (λ x. x ++ rest) (byte-more l bytes i c.loop-byte-test.true c.take-action.result meant) ∙ sym (bytes-rest l bytes (i + 1)))
    (sees-out from to (first ++ more) rest c.in-Some.outcome (sees-then from mid to first more (Some c.in-Some.outcome) before.sees c.in-Some.ensures.sees))

pub loop-byte-preserved : goal.loop-byte-preserved
loop-byte-preserved g c =
    let i = c.loop-byte.byte-index in
    let bytes = c.args.bytes.now in
    let l = c.args.self.now.decoder in
    let before = c.loop-byte.invariant in
    let same = c.take_meant.ensures.kept.same in
    let meant = c.take-action.ensures.heard ∙ ap (λ x. heard x (get_or bytes i 0)) before.read in
    record {
      same = record { app = same.app ∙ before.same.app; program = same.program ∙ before.same.program; screen = same.screen ∙ before.same.screen };
      ready = record { set = c.take_meant.ensures.kept.set; going = c.in_default.ensures.kept.going refl };
      read = left-more l _ _ bytes i c.loop-byte-test.true before.read (c.take_meant.ensures.same ∙ c.take-action.ensures.kept);
      sees = sees-as _ _ _ _ None (byte-more l bytes i c.loop-byte-test.true c.take-action.result meant) (sees-then _ _ _ _ _ None before.sees c.in_default.ensures.sees);
    }

pub returns-clause-kept : goal.returns-clause-kept
returns-clause-kept g c = record { same = c.loop-byte.invariant.same; set = c.loop-byte.invariant.ready.set; going = λ none. c.loop-byte.invariant.ready.going }

pub returns-clause-read : goal.returns-clause-read
returns-clause-read g c = λ none. c.loop-byte.invariant.read ∙ ap (λ x. left_after c.args.self.now.decoder (map Byte x)) (take_all c.loop-byte.byte-index c.args.bytes.now c.loop-byte-test.false)

pub returns-clause-sees : goal.returns-clause-sees
returns-clause-sees g c =
    sees-as _ _ _ _ None (ap (λ x. map Does (decode_after c.args.self.now.decoder (map Byte x))) (take_all c.loop-byte.byte-index c.args.bytes.now c.loop-byte-test.false)) c.loop-byte.invariant.sees
