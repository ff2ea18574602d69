use Rattle.std.proofs.Common.{◌≡◌, false, MatchBool, string_bytes, subst}
use Rattle.std.proofs.lemmas.Result.{IfOk-weaker}
use Rattle.tv_boxes.specs.Boxes.{IsOfText, IsSoundAs}
use Rattle.tv_boxes.proofs.SoundLemmas.{Judges, judged, unread_judged}
use Rattle.tv_boxes.proofs.making.is_sound.Goals as goal

pub returns-in-Ok : goal.returns-in-Ok
returns-in-Ok c =
    let text = c.as_bytes.result.now in
    let d = c.args.desc.now in
    let read = c.in-Ok.read in
    IfOk-weaker c.is_sound_as.result (λ sound. MatchBool sound (IsSoundAs d read) (¬ IsSoundAs d read)) (Judges (string_bytes c.args.text.now) d)
    (λ sound said. subst (λ t. Judges t d sound) c.as_bytes.ensures.value (judged text read d c.in-Ok.ensures.spelled c.in-Ok.ensures.only sound said))
    c.is_sound_as.ensures

pub returns-in-Err : goal.returns-in-Err
returns-in-Err c =
    let text = c.as_bytes.result.now in
    let d = c.args.desc.now in
    IfOk-weaker c.unread.result (λ sound. (sound ≡ false) × IsOfText c.in-Err.fault) (Judges (string_bytes c.args.text.now) d)
    (λ sound said. subst (λ t. Judges t d sound) c.as_bytes.ensures.value (unread_judged text d c.in-Err.fault c.in-Err.ensures.only sound said))
    c.unread.ensures
