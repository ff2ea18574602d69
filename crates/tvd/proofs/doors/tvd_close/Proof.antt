-- `tvd_close` reads what lies at the pointer, and hands it to `ended`; the room is left.
use Rattle.std.proofs.Common.{ℕ, List, [], ◌∷◌, ◌++◌, refl, ap}
use seplogic.Ra.Ura.{Ura}
use base.Fraction.{full_share}
use mir.Syntax.{Ty}
use mir.Val.{Val, vunit, vptr, has_ty, WT}
use lib.Dec.{T}
use base.Logic.{SProp, ent, sep, never, never_e, id⊢}
use base.Fml.{ftrue, fat, froom}
use prog.Memory.{Memory}
use prog.Routine.{Routine}
use prog.Wp.{Calls, Loops, WpFn, Tables}
use types.Logic.{Logic, sem}
use contract.Monad.{Fun}
use contract.Running.{tables, tables_of}
use types.Kit.{Item, ⋆, ‵, raw, ◌⊛◌, some, later, ◌$◌, ◌∵◌, !, qed, by, move, keep, drop, use1, split, join, pick, fsplit, fpick, fjoin, feq_i, feq_l, suffices, frame, await, done}
use types.Run.{look, load, stop, unit_lit, of_opd, and_then, no_more, returns, enter}
use types.ByLocal.{alloc_all, pass_all, free_all, look_at, get, through, sets, lands_as}
use sound.WpLaws.{FmC, fm_of, WpFn-mono}
use borrow.Table.OneValue.{part_out}
use denote.Exit.{yes}
use denote.RattleType.{RattleType, owns}
use denote.Laws.{Is, shows}
use denote.Memory.{lone, part_at}
use denote.Plain.{Nothing}
use denote.Signature.{plain}
use denote.RawPtr.{Ptr, block_ptr, null_ptr, RawPtr, rawptr_vals, rawptr_Tells}
use denote.Steps.{only, peeks, nothing}
use denote.Triple.Statement.{Contract, Triple}
use denote.Triple.Call.{calls_at}
use denote.Triple.Clauses.{ensured}
use denote.Triple.Entry.{on_entry}
use denote.Triple.Spec.{Meets, triple_of}
use denote.Triple.Table.{entered}
use denote.Triple.Walked.{Stays, stay_dropped, walk_of, Goes-dropped, ends_at, walked, walk_Meets}
use Rattle.tv_held.specs.Holding.{Holding}
use Rattle.tv_held.specs.contracts.held.Held.{the_row}
use Rattle.tv_held.proofs.held.Held.TheLaws.{the_row_laws}
use Rattle.tvd.specs.Doors.{HeldAt}
use Rattle.tvd.specs.contracts.doors.ended as of
use Rattle.tvd.proofs.doors.ended.Symbol.{name as #ended}
use Rattle.tvd.proofs.doors.ended.Met as of_thm
use Rattle.tvd.specs.contracts.doors.tvd_close.Key.{name as key}
use Rattle.tvd.specs.contracts.doors.tvd_close as f
use Rattle.tvd.proofs.doors.tvd_close.Statement as stated
use Rattle.tvd.proofs.doors.tvd_close.Code as code

abbrev R : RattleType
R = the_row

abbrev τ : Ty
τ = lone R.mir

abbrev stayed : Stays (f.ended).signature.params (f.ended).kept
stayed = (stay_dropped (plain (λ _. RawPtr)) yes, tt)

module _ {M : Type 1} {𝓤 : Ura M} (𝓛 : Logic 𝓤) (at_mem : Memory → SProp 𝓤) (run : Routine → Fun 𝓤) where
  abbrev Of : Contract 𝓤
  Of = triple_of 𝓛 of.signature (of.spec 𝓛 at_mem run)

module _ {M : Type 1} {𝓤 : Ura M} (𝓛 : Logic 𝓤) (at_mem : Memory → SProp 𝓤) (run : Routine → Fun 𝓤) (C : Calls 𝓤 𝓛.H) (Λ : Loops 𝓤 𝓛.H) (fm : FmC 𝓤 𝓛.H 𝓛.laws C)
    (known : Triple 𝓤 (C #ended) (Of 𝓛 at_mem run)) (h : Holding) where
  open 𝓛 use {H}

  abbrev Entry : Ptr → SProp 𝓤
  Entry p = on_entry 𝓛 f.signature tt tt (p, tt) (rawptr_vals p, tt)

  abbrev bound : Ptr → (walk_of 𝓛 f.ended stayed (f.clauses 𝓛 at_mem run)).Ghost
  bound p = ((tt, tt, tt, (p, tt), (rawptr_vals p, tt)), h)

  abbrev Runs : Ptr → SProp 𝓤
  Runs p = WpFn 𝓤 H C Λ code.function (rawptr_vals p ++ []) ((walk_of 𝓛 f.ended stayed (f.clauses 𝓛 at_mem run)).post (bound p))

  module _ (b o : ℕ) (x : R.Denot) where
    exits : ent 𝓤 (⋆ 𝓛 (‵ (froom τ b o) ∷ [])) ((walk_of 𝓛 f.ended stayed (f.clauses 𝓛 at_mem run)).post (bound (block_ptr b o)) vunit)
    exits =
        qed 𝓛 (‵ (froom τ b o) ∷ []) ∵
        suffices ! _ (ends_at 𝓛 f.ended stayed (f.clauses 𝓛 at_mem run) (bound (block_ptr b o)) vunit tt (tt, tt) (tt, tt)) $
        feq_i ! (List Val) (vunit ∷ []) (vunit ∷ []) refl $
        nothing ! $ nothing ! $ fjoin ! $ join ! $ nothing ! $ join ! $ frame ! $ done !

    abbrev Had : List (Item 𝓤)
    Had = ‵ (part_at R full_share x b o) ∷ ‵ ftrue ∷ ‵ (owns (RawPtr ∷ []) (block_ptr b o, tt) (rawptr_vals (block_ptr b o), tt)) ∷ []

    walk : ent 𝓤 (⋆ 𝓛 Had) (Runs (block_ptr b o))
    walk =
        qed 𝓛 Had ∵ enter ! C Λ code.function (vptr b o ∷ []) _ $
        alloc_all ! (λ l. pass_all ! refl ((tt, tt), tt) $
        use1 𝓛 (some (λ (v : Val). ‵ (fat full_share τ b o v) ⊛ ‵ (R.own_val x (v ∷ [])))) (part_out 𝓛 R refl full_share x b o) $ pick ! (λ v. split ! $ move ! (1 ∷ []) $
        peeks ! R (Is R) (shows 𝓛 R) x (v ∷ []) (λ is. let good : T (has_ty τ v) × WT v = (((the_row_laws).lawful 𝓛).typed x (v ∷ []) is).0 in
        -- *at
        sets ! (of_opd ! (load ! (through ! refl (stop !)) (look ! 1 refl))) refl good $
        let y : (Of 𝓛 at_mem run).Ghost = ((tt, tt, tt, (x, tt), (v ∷ [], tt)), tt) in
        move ! (3 ∷ []) $ drop ! $ nothing ! $ move ! (1 ∷ 0 ∷ []) $ fjoin ! $ move ! (2 ∷ 0 ∷ []) $ join ! $
        nothing ! $ move ! (1 ∷ 0 ∷ []) $ join ! $ use1 𝓛 (raw ((Of 𝓛 at_mem run).pre y)) (id⊢ 𝓤 ((Of 𝓛 at_mem run).pre y)) $
        -- ended(..)
        calls_at ! fm (Of 𝓛 at_mem run) known y (and_then ! (get ! refl) (no_more !)) (λ u.
        use1 𝓛 (later (some (λ (r : Unit {0}). (‵ ftrue ⊛ ‵ (Nothing.own_val r (u ∷ []))) ⊛ raw (ensured 𝓛 of.ended (of.clauses 𝓛 at_mem run) tt (x, tt) tt r)))) (id⊢ 𝓤 _) $ await ! tt $ pick ! (λ r.
        split ! $ move ! (1 ∷ []) $ drop ! $ split ! $ drop ! $ feq_l ! (λ e. lands_as ! (ap only e) refl (tt, tt) $
        sets ! (of_opd ! (unit_lit !)) refl (tt, tt) $
        returns ! (look_at ! 0 refl) $ free_all ! refl $
        use1 𝓛 (‵ (froom τ b o)) (𝓛.laws.at_room τ b o v) $ by ! exits))))))

  -- nothing lies at null
  at_each : (p : Ptr) → ent 𝓤 (sep 𝓤 (Entry p) (sem 𝓛 (HeldAt p h))) (Runs p)
  at_each (block_ptr b o) = qed 𝓛 ((‵ ftrue ⊛ ‵ (owns (RawPtr ∷ []) (block_ptr b o, tt) (rawptr_vals (block_ptr b o), tt))) ∷ ‵ (HeldAt (block_ptr b o) h) ∷ []) ∵
      split ! $ move ! (2 ∷ []) $ fpick ! (λ x. fsplit ! $ fpick ! (λ there. drop ! $ by ! (walk b o x)))
  at_each null_ptr = qed 𝓛 (raw (Entry null_ptr) ∷ ‵ (HeldAt null_ptr h) ∷ []) ∵
      move ! (1 ∷ []) $ fpick ! (λ x. fsplit ! $ move ! (1 ∷ []) $ use1 𝓛 (raw (never 𝓤)) (id⊢ 𝓤 (never 𝓤)) $ keep ! (0 ∷ []) $ by ! (never_e 𝓤 _))

meets : {M : Type 1} {𝓤 : Ura M} (𝓛 : Logic 𝓤) (at_mem : Memory → SProp 𝓤) (run : Routine → Fun 𝓤) (𝓣 : Tables 𝓤 𝓛.H)
    → Triple 𝓤 (𝓣.C #ended) (Of 𝓛 at_mem run) → Meets 𝓛 f.signature (WpFn 𝓤 𝓛.H 𝓣.C 𝓣.Λ code.function) (f.spec 𝓛 at_mem run)
meets {𝓤 = 𝓤} 𝓛 at_mem run 𝓣 known =
    walk_Meets 𝓛 f.ended stayed (Goes-dropped 𝓛 0 (plain (λ _. RawPtr)) yes (λ κs a g. refl), tt)
    (f.clauses 𝓛 at_mem run) (WpFn 𝓤 𝓛.H 𝓣.C 𝓣.Λ code.function) (WpFn-mono 𝓤 𝓛.H 𝓛.laws 𝓣 code.function)
    (walked 𝓛 f.ended stayed (f.clauses 𝓛 at_mem run) (WpFn 𝓤 𝓛.H 𝓣.C 𝓣.Λ code.function) (λ κs. (rawptr_vals, tt)) (λ κs. (rawptr_Tells, tt))
    (λ κs qs bounds a g are. at_each 𝓛 at_mem run 𝓣.C 𝓣.Λ (fm_of 𝓤 𝓛.H 𝓛.laws 𝓣) known g a.0))

pub tvd_close_spec : {M : Type 1} → stated.statement M
unfolding tables_of
tvd_close_spec 𝓤 𝓛 𝓜 𝓡 wired =
    entered 𝓤 𝓛.H (triple_of 𝓛 f.signature (f.spec 𝓛 𝓜.mem 𝓡.returns))
    (tables 𝓤 𝓛.H 𝓜 𝓡 𝓡.env).C (tables 𝓤 𝓛.H 𝓜 𝓡 𝓡.env).Λ key code.function (code.unfolded 𝓤 𝓛.H 𝓜 𝓡 wired)
    (meets 𝓛 𝓜.mem 𝓡.returns (tables_of 𝓤 𝓛.H 𝓜 (tables 𝓤 𝓛.H 𝓜 𝓡 𝓡.env))
    (of_thm.met 𝓤 𝓛 𝓜 𝓡 (code.calls-tvd::doors::ended 𝓡.env wired)))
