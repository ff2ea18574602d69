-- What a description is filled to, and why none is.
use Rattle.std.proofs.Common.{◌≡◌, ℕ, ◌<◌, List, length, drop, Result, Ok, Err, IsErrAnd, refl, sym, ap, ◌∙◌, subst, arith}
use Rattle.std.proofs.lemmas.List.{take-append-drop}
use Rattle.tv_answers.specs.declared.answers.Answers.{Answers}
use Rattle.tv_answers.specs.declared.misfit.Misfit.{Misfit}
use Rattle.tv_answers.specs.Filling.{filled}
use Rattle.tv_answers.specs.ReadLogs.{IsAnswered}
use Rattle.tv_check.specs.Refusals.{HasFaults}
use Rattle.tv_declarations.specs.CanonicalDescription.{description_text}
use Rattle.tv_declarations.specs.Spelling.{IsDescription, word_lines}
use Rattle.tv_io.specs.Writer.{Cuts, Takes}
use Rattle.tv_lang.specs.declared.description.LangFault.{LangFault}
use Rattle.tv_lang.specs.declared.description.LangFault.TheVariants as lang
use Rattle.tv_lang.specs.CanonicalDescription.{SpellsOnly}
use Rattle.tv_lang.specs.Faults.{Spells, SpellsLines}
use Rattle.tv_lang.specs.Reading.Descriptions.{Other, Value}
use Rattle.tv_lang.proofs.ReadingLemmas.{other_reads, spelled_read}
use Rattle.tv_model.specs.declared.desc.Desc.{Desc}
use Rattle.tv_program.specs.declared.fill_fault.FillFault.{FillFault}
use Rattle.tv_program.specs.declared.fill_fault.FillFault.TheVariants as fills
use Rattle.tv_program.specs.Filling.{FillsTo, IsTooLong, RefusesSound, Written, filled_text, misfit_messages}
use Rattle.tv_program.specs.Reading.{IsNoDescription, IsSoundText}
use Rattle.tv_program.specs.Report.{IsOffered}
use Rattle.tv_words.specs.Lines.{lines_of}
use Rattle.tv_words.specs.Texts.{IsFirstFaultyLine}

-- ---- a text that spells a description is refused only if it is too long

no_faulty_line : (lines : List (List ℕ)) (d : Desc) (line : ℕ) → SpellsLines lines d → IsFirstFaultyLine word_lines IsDescription lines line → ⊥
no_faulty_line lines d line spelled faulty =
    let longer : (faulty.before < length lines → ⊥) =
    λ more. faulty.stops more (drop line lines, d, subst (λ ls. SpellsLines ls d) (sym (take-append-drop line lines)) spelled) in
    faulty.missing (omega (arith, faulty.within, longer)) d spelled

too_long : (text : List ℕ) (d : Desc) (fault : LangFault) → SpellsLines (lines_of text) d → IsNoDescription text fault → IsTooLong text fault
too_long text d lang.NoMemory spelled refuses = absurd (refuses.1 refl)
too_long text d (lang.Syntax line) spelled refuses = absurd (no_faulty_line (lines_of text) d line spelled refuses.0.1)
too_long text d lang.TooLong spelled refuses = (refl, refuses.0)
too_long text d lang.Version spelled refuses =
    let clash : Other ≡ Value d = sym (other_reads (lines_of text) refuses.0.1) ∙ spelled_read text d spelled in
    absurd cc

-- ---- how the filling ends

module _ (name : List ℕ) (d : Desc) (written : List ℕ) (a : Answers) (answered : IsAnswered d written a) (full : Desc) (is_full : full ≡ filled d a) (bytes : List ℕ) (printed : bytes ≡ description_text full) (only : SpellsOnly bytes full) (text : List ℕ) (same : text ≡ bytes) where
  whole : text ≡ filled_text d a
  whole = same ∙ printed ∙ ap description_text is_full

  spelled : SpellsLines (lines_of text) (filled d a)
  spelled = subst (λ t. SpellsLines (lines_of t) (filled d a)) (sym same) (subst (λ f. SpellsLines (lines_of bytes) f) is_full only.spelled)

  -- what the text was read as is the filled description
  as_filled : (P : Desc → Type 0) (e : Desc) → SpellsLines (lines_of text) e → P e → P (filled d a)
  as_filled P e read holds = subst P (only.only e (subst (λ t. SpellsLines (lines_of t) e) same read) ∙ is_full) holds

  sound : (e : Desc) → IsSoundText text e → IsSoundText (filled_text d a) (filled d a)
  sound e is = subst (λ t. IsSoundText t (filled d a)) whole (as_filled (λ f. IsSoundText text f) e is.spelled.lines is)

  unsound : (T : Type 0) (seen : Written) (fault : FillFault) → RefusesSound text fault → FillsTo {T = T} name d written seen seen (Err fault)
  unsound T seen fills.NoMemory refuses = refl
  unsound T seen (fills.Lang fault) refuses = (a, answered, subst (λ t. IsTooLong t fault) whole (too_long text (filled d a) fault spelled refuses), refl)
  unsound T seen (fills.Faults list) (e, read, faulty) =
      (a, answered, subst (λ t. Spells t (filled d a)) whole (as_filled (λ f. Spells text f) e read.lines read), as_filled (λ f. HasFaults f list) e read.lines faulty, refl)
  unsound T seen (fills.Answers fault) refuses = absurd refuses
  unsound T seen fills.Write refuses = absurd refuses

  -- the filled description isn't sound
  pub unsound-FillsTo : {T : Type 0} (seen : Written) (fault : FillFault) → RefusesSound text fault → (r : Result T FillFault) → IsErrAnd r (λ told. told ≡ fault) → FillsTo name d written seen seen r
  unsound-FillsTo {T} seen fault refuses (Ok x) told = absurd told
  unsound-FillsTo {T} seen fault refuses (Err other) told = rw told (unsound T seen fault refuses)

  module _ (old new : Written) (e : Desc) (is : IsSoundText text e) (misfits : List Misfit) (all : misfits ≡ a.misfits) (offered : IsOffered old.told new.told (misfit_messages name misfits)) where
    told_so : IsOffered old.told new.told (misfit_messages name a.misfits)
    told_so = subst (λ ms. IsOffered old.told new.told (misfit_messages name ms)) all offered

    -- the text was written
    pub taken-FillsTo : Takes old.out new.out text → FillsTo {T = Unit {0}} name d written old new (Ok tt)
    taken-FillsTo taken = (a, answered, sound e is, subst (λ t. Takes old.out new.out t) whole taken, told_so)

    -- the writer failed
    pub cut-FillsTo : {T : Type 0} → Cuts old.out new.out text → (r : Result T FillFault) → IsErrAnd r (λ told. told ≡ fills.Write) → FillsTo name d written old new r
    cut-FillsTo {T} cut (Ok x) failed = absurd failed
    cut-FillsTo {T} cut (Err other) failed = rw failed (a, answered, sound e is, subst (λ t. Cuts old.out new.out t) whole cut, told_so)
