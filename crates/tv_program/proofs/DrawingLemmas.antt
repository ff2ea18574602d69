-- What a run that is drawn came to.
use Rattle.std.proofs.Common.{◌≡◌, ◌≢◌, ℕ, List, Result, Ok, Err, IsErrAnd, inl, inr, refl, ap, subst, arith}
use Rattle.tv_cells.specs.Picture.{Picture}
use Rattle.tv_io.specs.Reader.{Given}
use Rattle.tv_io.specs.Writer.{Cuts, Seen, Takes}
use Rattle.tv_machine.specs.Output.{after}
use Rattle.tv_machine.specs.Run.{Session, started}
use Rattle.tv_model.specs.declared.desc.Desc.{Desc}
use Rattle.tv_machine.specs.declared.script.Item.{Item}
use Rattle.tv_program.specs.declared.run_fault.RunFault.{RunFault}
use Rattle.tv_program.specs.declared.run_fault.RunFault.TheVariants.{Write}
use Rattle.tv_program.specs.Conversions.{stream_run}
use Rattle.tv_program.specs.Playing.{IsNoStart, RefusesDesc, RunsTo}
use Rattle.tv_program.specs.Playing.RunsTo.{refused, unbegun, stopped, done}
use Rattle.tv_program.specs.Reading.{IsSoundText}
use Rattle.tv_program.specs.Drawing.{GivesScriptOf, PicturesTo}
use Rattle.tv_program.specs.Drawing.PicturesTo.{unrun, drawn, cut}
use Rattle.tv_program.specs.Pictures.{session_svg}
use Rattle.tv_program.proofs.PictureLemmas.{svg_of-session}
use Rattle.tv_script.specs.Performed.{IsScreenOf}
use Rattle.tv_script.proofs.ScriptLemmas.{judged_spelled}
use Rattle.tv_script.specs.declared.script_text.ScriptFault.{ScriptFault}
use Rattle.tv_script.specs.declared.script_text.ScriptFault.TheVariants as scripts
use Rattle.tv_script.specs.declared.stream_fault.StreamFault.{StreamFault}
use Rattle.tv_script.specs.declared.stream_fault.StreamFault.TheVariants as streams
use Rattle.tv_script.specs.Streams.{ComesFrom, stream_fault}
use Rattle.tv_script.specs.Streams.ComesFrom.{broken as comes_broken, cut as comes_cut, done as comes_done, faulty as comes_faulty, unbegun as comes_unbegun, unwritten as comes_unwritten}
use Rattle.tv_terminal.specs.Svg.{svg_of}

-- ---- a writer of which no call fails

no_cut : (old new : Seen) (text : List ℕ) → new.failures ≡ 0 → Cuts old new text → ⊥
no_cut old new text never cuts = elim cuts.count [ inl less ↦ absurd (omega (arith, less, never)) | inr full ↦ absurd (omega (arith, full, never)) ]

no_fault : (fault : ScriptFault) → stream_run (stream_fault fault) ≡ Write → ⊥
no_fault scripts.NoMemory is = absurd cc
no_fault (scripts.Syntax line) is = absurd cc
no_fault (scripts.OffScreen line) is = absurd cc
no_fault scripts.TooLong is = absurd cc

-- it is no reason to stop
not_cut : (s : Session) (reader left : Given) (old new : Seen) (fault : StreamFault) → new.failures ≡ 0 → ComesFrom s reader left old new (λ t. Unit {0}) (Err fault) → stream_run fault ≡ Write → ⊥
not_cut s reader left old new fault never (comes_done given items gave few ended read performs told) is = absurd cc
not_cut s reader left old new fault never (comes_faulty given items found gave few decided performs told) is = let same : fault ≡ stream_fault found = cc in no_fault found (subst (λ x. stream_run x ≡ Write) same is)
not_cut s reader left old new fault never (comes_broken given items mid gave broke few read performs told) is = let same : fault ≡ streams.Read = cc in let clash : stream_run streams.Read ≡ Write = subst (λ x. stream_run x ≡ Write) same is in absurd cc
not_cut s reader left old new fault never (comes_cut given items begun gave few first before stops told) is = no_cut old new _ never stops.cut
not_cut s reader left old new fault never (comes_unwritten unread stops told) is = no_cut old new _ never stops.cut
not_cut s reader left old new fault never (comes_unbegun unread performs told) is = let same : fault ≡ streams.NoMemory = cc in let clash : stream_run streams.NoMemory ≡ Write = subst (λ x. stream_run x ≡ Write) same is in absurd cc

-- ---- a run

module _ {T : Type 0} (Mismade : Desc → Type 0) (Stands : T → Session → Type 0) (text : List ℕ) (reader left : Given) (log later : Seen) where
  -- an answer without its value
  abbrev gone : Result T RunFault → Result (Unit {0}) RunFault
  gone (Ok x) = Ok tt
  gone (Err fault) = Err fault

  -- what stands for a run that failed is of no matter
  failed-gone : (fault : RunFault) → RunsTo Mismade Stands text reader left log later (Err fault) → RunsTo Mismade (λ (run : Unit {0}) s. Unit {0}) text reader left log later (Err fault)
  failed-gone fault (refused other is untouched told) = refused other is untouched (ap gone told)
  failed-gone fault (unbegun d other read why untouched told) = unbegun d other read why untouched (ap gone told)
  failed-gone fault (stopped d other read comes told) = stopped d other read comes (ap gone told)
  failed-gone fault (done d run read comes told) = absurd cc

  not_written : (fault : RunFault) → later.failures ≡ 0 → RunsTo Mismade Stands text reader left log later (Err fault) → fault ≢ Write
  not_written fault never (refused other refuses untouched told) = λ is. let same : other ≡ Write = cc in subst (RefusesDesc text) same refuses
  not_written fault never (unbegun d other read why untouched told) = λ is. let same : other ≡ Write = cc in subst (IsNoStart Mismade d) same why
  not_written fault never (stopped d other read comes told) = λ is. let same : stream_run other ≡ Write = cc in not_cut (started d) reader left log later other never comes same
  not_written fault never (done d run read comes told) = absurd cc

  pub failed-PicturesTo : (seen : Seen) (fault : RunFault) → later.failures ≡ 0 → RunsTo Mismade Stands text reader left log later (Err fault) → (r : Result (Unit {0}) RunFault) → IsErrAnd r (λ told. told ≡ fault) → PicturesTo Mismade text reader left seen seen r
  failed-PicturesTo seen fault never runs (Ok x) told = absurd told
  failed-PicturesTo seen fault never runs (Err other) told = unrun fault log later (not_written fault never runs) (failed-gone fault runs) refl (ap Err told)

  -- a run that was done, and the session that it left
  record Done (run : T) : Type 0 where
    desc : Desc
    script : List Item
    read : IsSoundText text desc
    gives : GivesScriptOf desc reader left script
    stands : Stands run (after (started desc) script)

  -- what a script that was performed gives
  performed-Done : (d : Desc) (other run : T) → IsSoundText text d → other ≡ run → ComesFrom (started d) reader left log later (Stands other) (Ok tt) → Done run
  performed-Done d other run read same (comes_done given items gave few ended judged performs told) = record {
    desc = d;
    script = items;
    read = read;
    gives = record { given = given; gave = gave; ended = ended; spelled = judged_spelled d.width d.height given items judged };
    stands = subst (λ (it : T). Stands it (after (started d) items)) same performs.performs.left;
  }
  performed-Done d other run read same (comes_faulty given items found gave few decided performs told) = absurd cc
  performed-Done d other run read same (comes_broken given items mid gave broke few judged performs told) = absurd cc
  performed-Done d other run read same (comes_cut given items begun gave few first before stops told) = absurd cc
  performed-Done d other run read same (comes_unwritten unread stops told) = absurd cc
  performed-Done d other run read same (comes_unbegun unread performs told) = absurd cc

  done-Done : (run : T) → RunsTo Mismade Stands text reader left log later (Ok run) → Done run
  done-Done run (refused other is untouched told) = absurd cc
  done-Done run (unbegun d other read why untouched told) = absurd cc
  done-Done run (stopped d other read comes told) = absurd cc
  done-Done run (done d other read comes told) = let same : other ≡ run = cc in performed-Done d other run read same comes

  module _ (run : T) (runs : RunsTo Mismade Stands text reader left log later (Ok run)) (screen : Picture) (shows : (s : Session) → Stands run s → IsScreenOf s screen) (old new : Seen) where
    abbrev end : Done run
    end = done-Done run runs

    svg-is : svg_of screen ≡ session_svg (after (started end.desc) end.script)
    svg-is = svg_of-session (after (started end.desc) end.script) screen (shows (after (started end.desc) end.script) end.stands)

    pub drawn-PicturesTo : Takes old new (svg_of screen) → PicturesTo Mismade text reader left old new (Ok tt)
    drawn-PicturesTo takes = drawn end.desc end.script end.read end.gives (subst (λ (text : List ℕ). Takes old new text) svg-is takes) refl

    pub cut-PicturesTo : Cuts old new (svg_of screen) → PicturesTo Mismade text reader left old new (Err Write)
    cut-PicturesTo cuts = cut end.desc end.script end.read end.gives (subst (λ (text : List ℕ). Cuts old new text) svg-is cuts) refl
