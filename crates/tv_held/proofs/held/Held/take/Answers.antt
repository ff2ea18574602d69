use Rattle.std.proofs.Common.{◌≡◌, ◌∙◌, ◌+◌, ap, drop, get_or, length, refl, subst, sym, take}
use Rattle.std.proofs.lemmas.List.{take_all}
use Rattle.tv_app.specs.Running.{Runs}
use Rattle.tv_app.specs.declared.app.App.{App}
use Rattle.tv_held.proofs.ActingLemmas.{left-more, none-if, silent-more, taken-count, taken-parts, taking-by}
use Rattle.tv_held.proofs.HeldLemmas.{leads-on}
use Rattle.tv_held.specs.Acting.{IsSilent, TakingActs, left_behind}
use Rattle.tv_held.specs.Holding.{Running}
use Rattle.tv_held.specs.declared.answer.Answer.TheVariants as answers
use Rattle.tv_terminal.specs.Decoding.{Listening, heard, left_by}
use Rattle.tv_held.proofs.held.Held.take.Goals as goal

pub returns-in-Some : goal.returns-in-Some
returns-in-Some c = λ h held.
    let bytes = c.args.bytes.now in
    let i = c.loop-place.place in
    let byte = get_or bytes i 0 in
    let l = c.args.self.now.decoder in
    let own = c.loop-place.invariant in
    let m : Listening = left_by (left_behind l (take i bytes)) byte in
    let less = c.loop-place-test.true in
    leads-on (TakingActs bytes) c.args.self.now h (record { answer = c.do_action.result; used = i + 1 }) held c.in-Ok.app c.in-Ok.is
    c.do_action.new.app c.take.new.self
    (λ s runs.
    let d = c.do_action.ensures s (subst (λ (a : App). Runs a s) (sym own.same) runs) m in (
      d.0,
      m,
      d.1,
      c.take.ensures.kept ∙ ap (λ (k : Listening). left_by k byte) own.left,
      taking-by c.do_action.result bytes s l (Running d.0 m) (i + 1) (record {
        front = take i bytes;
        byte = byte;
        rest = drop (i + 1) bytes;
        parts = taken-parts l bytes i less;
        count = taken-count l bytes i less;
        silent = own.silent;
        action = c.in-Some.action;
        meant = ap (λ (k : Listening). heard k byte) (sym own.left) ∙ sym c.take.ensures.heard ∙ c.in-Some.is;
        acts = d.2;
      }),
    ))

pub loop-place-preserved : goal.loop-place-preserved
loop-place-preserved c =
    let bytes = c.args.bytes.now in
    let i = c.loop-place.place in
    let byte = get_or bytes i 0 in
    let l = c.args.self.now.decoder in
    let own = c.loop-place.invariant in
    let less = c.loop-place-test.true in
    record {
      same = own.same;
      silent = silent-more l bytes i less own.silent
          (ap (λ (k : Listening). heard k byte) (sym own.left) ∙ sym c.take.ensures.heard ∙ none-if c.take.result c.in_default.not-Some);
      left = c.take.ensures.kept ∙ ap (λ (k : Listening). left_by k byte) own.left ∙ sym (left-more l bytes i less);
    }

pub returns : goal.returns
returns c = λ h held.
    let bytes = c.args.bytes.now in
    let i = c.loop-place.place in
    let l = c.args.self.now.decoder in
    let own = c.loop-place.invariant in
    let all : take i bytes ≡ bytes = take_all i bytes c.loop-place-test.false in
    leads-on (TakingActs bytes) c.args.self.now h (record { answer = answers.Done; used = length bytes }) held c.in-Ok.app c.in-Ok.is
    c.loop-place.app c.loop-place.decoder
    (λ s runs. (
      s,
      left_behind l bytes,
      subst (λ (a : App). Runs a s) (sym own.same) runs,
      own.left ∙ ap (left_behind l) all,
      record { count = refl; silent = subst (IsSilent l) all own.silent; goes_on = refl },
    ))
