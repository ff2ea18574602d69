-- The tape of a run in a terminal, run as a script.
use Rattle.std.proofs.Common.{◌≡◌, ℕ, List, [], ◌++◌, Option, Some, None, Result, Ok, Err, sym, ap, subst, ◌∙◌, arith}
use Rattle.std.proofs.lemmas.Int.{ints}
use Rattle.std.proofs.lemmas.List.{append-nil}
use Rattle.std.specs.Io.KnownBytes.{Consumes, IsAtEnd}
use Rattle.tv_faults.proofs.UsableLemmas.{sound_usable}
use Rattle.tv_io.specs.Reader.{Given}
use Rattle.tv_io.specs.Writer.{Seen, Takes}
use Rattle.tv_machine.specs.Output.{output}
use Rattle.tv_machine.specs.Run.{Session, started}
use Rattle.tv_machine.specs.declared.script.Item.{Item}
use Rattle.tv_model.specs.declared.desc.Desc.{Desc}
use Rattle.tv_play.proofs.TapedLemmas.{heard-sayable}
use Rattle.tv_play.specs.Ends.{events_in, script_of}
use Rattle.tv_program.specs.Taped.{TapesRunAgain, WritesAgain}
use Rattle.tv_script.proofs.ScriptLemmas.{spelled_judged}
use Rattle.tv_script.proofs.TapeLemmas.{tapes}
use Rattle.tv_script.specs.Judging.{judged_as, judgement}
use Rattle.tv_script.specs.Streams.{ComesFrom}
use Rattle.tv_script.specs.Streams.ComesFrom.{broken, cut, done, faulty, unbegun, unwritten}
use Rattle.tv_script.specs.Tapes.{script_text}
use Rattle.tv_script.specs.declared.script_text.ScriptFault.{ScriptFault}
use Rattle.tv_script.specs.declared.stream_fault.StreamFault.{StreamFault}
use Rattle.tv_script.specs.declared.stream_fault.StreamFault.TheVariants as streams

-- what was given of a known text, and what is left of it
record Parts (tape given : List ℕ) (left : Option (List ℕ)) : Type 0 where
  rest : List ℕ
  parts : tape ≡ given ++ rest
  whole : IsAtEnd left → rest ≡ []

parted : (was left : Option (List ℕ)) (tape given : List ℕ) → was ≡ Some tape → Consumes was left given → Parts tape given left
parted None left tape given e took = absurd cc
parted (Some was) None tape given e took = absurd took
parted (Some was) (Some rest) tape given e took =
    let same : was ≡ tape = cc in
    record { rest = rest; parts = sym same ∙ took; whole = λ none. none }

module _ (s : Session) (tape : List ℕ) (items : List Item) (judged : judged_as s.desc.width s.desc.height tape ≡ judgement items (Ok tt)) where
  same-items : (given : List ℕ) (found : List Item) → tape ≡ given → judged_as s.desc.width s.desc.height given ≡ judgement found (Ok tt) → found ≡ items
  same-items given found same e = ap (λ j. j.items) (sym e ∙ ap (judged_as s.desc.width s.desc.height) (sym same) ∙ judged)

  no-fault : (given rest : List ℕ) (found : List Item) (fault : ScriptFault) → tape ≡ given ++ rest → judged_as s.desc.width s.desc.height (given ++ rest) ≡ judgement found (Err fault) → ⊥
  no-fault given rest found fault same e =
      let both = ap (λ j. j.answer) (sym judged ∙ ap (judged_as s.desc.width s.desc.height) same ∙ e) in
      absurd cc

  writes : (reader left : Given) (old new : Seen) (result : Result (Unit {0}) StreamFault) → reader.left ≡ Some tape → ComesFrom s reader left old new (λ gone. Unit {0}) result → WritesAgain (output s items) old new result
  writes reader left old new result has (done given found read short ended same performs is) =
      let parts = parted reader.left left.left tape given has read.gave.took in
      let all : tape ≡ given = parts.parts ∙ ap (λ x. given ++ x) (parts.whole (read.whole ended)) ∙ append-nil given in
      subst (WritesAgain (output s items) old new) (sym is) (subst (λ x. Takes old new (output s x)) (same-items given found all same) performs.performs.written)
  writes reader left old new result has (faulty given found fault read short follows performs is) =
      let parts = parted reader.left left.left tape given has read.gave.took in
      absurd (no-fault given parts.rest found fault parts.parts (follows parts.rest (λ ended. parts.whole (read.whole ended))))
  writes reader left old new result has (broken given found mid gave fails short same performs is) = subst (WritesAgain (output s items) old new) (sym is) tt
  writes reader left old new result has (cut given found begun read short first earlier stops is) = subst (WritesAgain (output s items) old new) (sym is) tt
  writes reader left old new result has (unwritten unread stops is) = subst (WritesAgain (output s items) old new) (sym is) tt
  writes reader left old new result has (unbegun unread performs is) = subst (WritesAgain (output s items) old new) (sym is) tt

pub tapes-again : (text : List ℕ) → TapesRunAgain text
tapes-again text d symbols actions rest read heard few short =
    let size = sound_usable d read.sound in
    let say = heard-sayable (started d) symbols actions rest (omega (arith, ints, size.width.0)) (omega (arith, ints, size.height.0)) heard in
    let spelled = tapes d.width d.height (events_in d actions) say few short in
    writes (started d) (script_text (events_in d actions)) (script_of d actions) (spelled_judged d.width d.height (script_text (events_in d actions)) (script_of d actions) spelled)
