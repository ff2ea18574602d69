-- `tvd_open` writes what `begun` makes into the caller's room.
use Rattle.std.proofs.Common.{ℕ, List, [], ◌∷◌, ◌++◌, length, refl, Bor}
use seplogic.Ra.Ura.{Ura}
use base.Fraction.{full_share}
use mir.Syntax.{Ty, named}
use mir.Val.{Val, vunit, vptr, has_ty, WT}
use lib.Dec.{T}
use base.Logic.{SProp, ent, sep, via, snd∗, never, never_e, id⊢, ex_e}
use base.Fml.{Lft, Share, ftrue, fsep, fex, flft, froom}
use prog.Memory.{Memory}
use prog.Routine.{Routine}
use prog.Wp.{Calls, Loops, WpFn, Tables}
use types.Logic.{Logic, sem}
use contract.Monad.{Fun, fact}
use contract.Running.{tables, tables_of}
use types.Kit.{Item, ⋆, ‵, raw, ◌⊛◌, some, later, ◌$◌, ◌∵◌, !, qed, by, move, drop, use1, use2, split, join, pick, fsplit, fjoin, fpack, feq_i, suffices, frame, await, done}
use types.Run.{init, stop, unit_lit, of_opd, assigns, and_then, no_more, returns, enter}
use types.ByLocal.{alloc_all, pass_all, free_all, look_at, get, through, sets, lands_as}
use sound.WpLaws.{FmC, fm_of, WpFn-mono}
use borrow.Table.OneValue.{part_in}
use denote.Exit.{yes}
use denote.RattleType.{RattleType, owns}
use denote.Laws.{Is, shows}
use denote.Memory.{lone, part_at}
use denote.Builtin.{u8, SliceRefOf}
use denote.Slice.{ShrSlice, Room, slice_val, shr_slice_vals, shr_slice_Tells}
use denote.Signature.{plain}
use denote.RawPtr.{Ptr, block_ptr, null_ptr, RawPtr, rawptr_vals, rawptr_Tells, lies_at, room_at}
use denote.Steps.{peeks, heard, nothing}
use denote.Triple.Statement.{Contract, Triple}
use denote.Triple.Call.{calls_at}
use denote.Triple.Clauses.{ensured, lasts}
use denote.Triple.Entry.{on_entry}
use denote.Triple.Spec.{Meets, triple_of}
use denote.Triple.Table.{entered}
use denote.Triple.Walked.{Stays, stay_dropped, walk_of, Goes-dropped, ends_at, walked, walk_Meets}
use Rattle.std_heap.specs.contracts.Global as heap
use Rattle.std_heap.proofs.Handle.{heap_val, heap_Tells}
use Rattle.tv_held.specs.contracts.held.Held.{the_row}
use Rattle.tv_held.specs.Holding.{Begins, Holding, IsHeld}
use Rattle.tv_held.specs.declared.held.Held.{Held}
use Rattle.tv_held.proofs.held.Held.TheLaws.{the_row_laws}
use Rattle.tvd.specs.Doors.{HeldAt}
use Rattle.tvd.specs.contracts.doors.begun as of
use Rattle.tvd.proofs.doors.begun.Symbol.{name as #begun}
use Rattle.tvd.proofs.doors.begun.Met as of_thm
use Rattle.tvd.specs.contracts.doors.tvd_open.Key.{name as key}
use Rattle.tvd.specs.contracts.doors.tvd_open as f
use Rattle.tvd.proofs.doors.tvd_open.Statement as stated
use Rattle.tvd.proofs.doors.tvd_open.Code as code

abbrev R : RattleType
R = the_row

abbrev τ : Ty
τ = lone R.mir

abbrev stayed : Stays (f.ended).signature.params (f.ended).kept
stayed = (stay_dropped (plain (λ _. RawPtr)) yes, (stay_dropped (plain (λ _. heap.the_row)) yes, (stay_dropped (SliceRefOf (0 ∷ []) tt (plain (λ _. u8)) (λ κs. tt)) yes, tt)))

module _ {M : Type 1} {𝓤 : Ura M} (𝓛 : Logic 𝓤) (at_mem : Memory → SProp 𝓤) (run : Routine → Fun 𝓤) where
  abbrev Of : Contract 𝓤
  Of = triple_of 𝓛 of.signature (of.spec 𝓛 at_mem run)

module _ {M : Type 1} {𝓤 : Ura M} (𝓛 : Logic 𝓤) (at_mem : Memory → SProp 𝓤) (run : Routine → Fun 𝓤) (C : Calls 𝓤 𝓛.H) (Λ : Loops 𝓤 𝓛.H) (fm : FmC 𝓤 𝓛.H 𝓛.laws C)
    (known : Triple 𝓤 (C #begun) (Of 𝓛 at_mem run)) (a : (heap.the_row).Denot) (κ₀ : Lft) (q₀ : Share) (text : Bor (List ℕ)) (text-fits : Room u8 (length text.now)) where
  open 𝓛 use {H}

  abbrev words : Ptr → List Val × (List Val × (List Val × Unit {0}))
  words p = (rawptr_vals p, (heap_val ∷ [], (shr_slice_vals text, tt)))

  abbrev Entry : Ptr → SProp 𝓤
  Entry p = on_entry 𝓛 f.signature (κ₀, tt) (q₀, tt) (p, (a, (text, tt))) (words p)

  abbrev bound : Ptr → (walk_of 𝓛 f.ended stayed (f.clauses 𝓛 at_mem run)).Ghost
  bound p = (((κ₀, tt), (q₀, tt), tt, (p, (a, (text, tt))), words p), tt)

  abbrev Tokens : Item 𝓤
  Tokens = ‵ (flft κ₀ q₀) ⊛ ‵ ftrue

  abbrev Made : R.Denot → Type 0
  Made w = (h : Holding) × IsHeld w h × Begins text.now h

  abbrev Runs : Ptr → SProp 𝓤
  Runs p = WpFn 𝓤 H C Λ code.function (rawptr_vals p ++ (heap_val ∷ slice_val text.ref_ptr (length text.now) ∷ [])) ((walk_of 𝓛 f.ended stayed (f.clauses 𝓛 at_mem run)).post (bound p))

  module _ (b o : ℕ) where
    exits : (w : R.Denot) → Made w → ent 𝓤 (⋆ 𝓛 (‵ (part_at R full_share w b o) ∷ Tokens ∷ [])) ((walk_of 𝓛 f.ended stayed (f.clauses 𝓛 at_mem run)).post (bound (block_ptr b o)) vunit)
    exits w told =
        qed 𝓛 (‵ (part_at R full_share w b o) ∷ Tokens ∷ []) ∵
        suffices ! _ (ends_at 𝓛 f.ended stayed (f.clauses 𝓛 at_mem run) (bound (block_ptr b o)) vunit tt (tt, (tt, (tt, tt))) (tt, (tt, (tt, tt)))) $
        feq_i ! (List Val) (vunit ∷ []) (vunit ∷ []) refl $
        nothing ! $ nothing ! $ fjoin ! $ nothing ! $ fjoin ! $ nothing ! $ fjoin ! $ join ! $ move ! (2 ∷ 0 ∷ []) $ join ! $ frame ! $
        nothing ! $ fpack ! (IsHeld w told.0) (λ _. ftrue) told.1 $ fjoin ! $
        fpack ! Held (λ held. fsep (fex (IsHeld held told.0) (λ _. ftrue)) (lies_at R full_share (block_ptr b o) held)) w $
        nothing ! $ fpack ! (Begins text.now told.0) (λ _. ftrue) told.2 $ fjoin ! $
        fpack ! Holding (λ h. fsep (fex (Begins text.now h) (λ _. ftrue)) (HeldAt (block_ptr b o) h)) told.0 $ done !

    abbrev Had : List (Item 𝓤)
    Had = ‵ (froom τ b o) ∷ Tokens ∷ ‵ (owns (RawPtr ∷ heap.the_row ∷ ShrSlice (named 0) κ₀ u8 ∷ []) (block_ptr b o, (a, (text, tt))) (words (block_ptr b o))) ∷ []

    walk : ent 𝓤 (⋆ 𝓛 Had) (Runs (block_ptr b o))
    walk =
        qed 𝓛 Had ∵ enter ! C Λ code.function (vptr b o ∷ heap_val ∷ slice_val text.ref_ptr (length text.now) ∷ []) _ $
        alloc_all ! (λ l. pass_all ! refl ((tt, tt), ((tt, ((tt, tt), tt)), ((tt, (tt, (record { fits = text-fits.0 }, tt))), tt))) $
        let y : (Of 𝓛 at_mem run).Ghost = (((κ₀, tt), (q₀, tt), tt, (a, (text, tt)), (words (block_ptr b o)).1), tt) in
        move ! (2 ∷ []) $ fsplit ! $ drop ! $ move ! (2 ∷ 0 ∷ []) $ join ! $ nothing ! $ move ! (1 ∷ 0 ∷ []) $ join ! $ use1 𝓛 (raw ((Of 𝓛 at_mem run).pre y)) (id⊢ 𝓤 ((Of 𝓛 at_mem run).pre y)) $
        -- begun(..)
        calls_at ! fm (Of 𝓛 at_mem run) known y (and_then ! (get ! refl) (and_then ! (get ! refl) (no_more !))) (λ v.
        use1 𝓛 (later (some (λ (r : R.Denot). (Tokens ⊛ ‵ (R.own_val r (v ∷ []))) ⊛ raw (ensured 𝓛 of.ended (of.clauses 𝓛 at_mem run) (κ₀, tt) (a, (text, tt)) tt r)))) (id⊢ 𝓤 _) $ await ! tt $ pick ! (λ r.
        split ! $ move ! (1 ∷ []) $ use1 𝓛 (raw (fact 𝓤 (Made r))) (ex_e 𝓤 _ (λ ws. snd∗ 𝓤 (sem 𝓛 (lasts of.ended (κ₀, tt) (a, (text, tt)) ws)) (fact 𝓤 (Made r)))) $
        heard ! (Made r) (λ told. split ! $ move ! (1 ∷ 2 ∷ []) $
        peeks ! R (Is R) (shows 𝓛 R) r (v ∷ []) (λ is. let good : T (has_ty τ v) × WT v = (((the_row_laws).lawful 𝓛).typed r (v ∷ []) is).0 in
        lands_as ! refl refl good $
        -- *at = ..
        assigns ! (of_opd ! (get ! refl)) (through ! refl (stop !)) (init ! 1 refl good) $
        sets ! (of_opd ! (unit_lit !)) refl (tt, tt) $
        returns ! (look_at ! 0 refl) $ free_all ! refl $
        move ! (1 ∷ 0 ∷ []) $ use2 𝓛 (‵ (part_at R full_share r b o)) (part_in 𝓛 R refl full_share r b o v) $ by ! (exits r told))))))

  -- there is no room at null
  at_each : (p : Ptr) → ent 𝓤 (sep 𝓤 (Entry p) (sem 𝓛 (room_at R p))) (Runs p)
  at_each (block_ptr b o) = qed 𝓛 ((Tokens ⊛ ‵ (owns (RawPtr ∷ heap.the_row ∷ ShrSlice (named 0) κ₀ u8 ∷ []) (block_ptr b o, (a, (text, tt))) (words (block_ptr b o)))) ∷ ‵ (froom τ b o) ∷ []) ∵
      split ! $ move ! (2 ∷ []) $ by ! (walk b o)
  at_each null_ptr = via 𝓤 (never 𝓤) (snd∗ 𝓤 (Entry null_ptr) (never 𝓤)) (never_e 𝓤 _)

meets : {M : Type 1} {𝓤 : Ura M} (𝓛 : Logic 𝓤) (at_mem : Memory → SProp 𝓤) (run : Routine → Fun 𝓤) (𝓣 : Tables 𝓤 𝓛.H)
    → Triple 𝓤 (𝓣.C #begun) (Of 𝓛 at_mem run) → Meets 𝓛 f.signature (WpFn 𝓤 𝓛.H 𝓣.C 𝓣.Λ code.function) (f.spec 𝓛 at_mem run)
meets {𝓤 = 𝓤} 𝓛 at_mem run 𝓣 known =
    walk_Meets 𝓛 f.ended stayed (Goes-dropped 𝓛 1 (plain (λ _. RawPtr)) yes (λ κs a g. refl), (Goes-dropped 𝓛 1 (plain (λ _. heap.the_row)) yes (λ κs a g. refl), (Goes-dropped 𝓛 1 (SliceRefOf (0 ∷ []) tt (plain (λ _. u8)) (λ κs. tt)) yes (λ κs a g. refl), tt)))
    (f.clauses 𝓛 at_mem run) (WpFn 𝓤 𝓛.H 𝓣.C 𝓣.Λ code.function) (WpFn-mono 𝓤 𝓛.H 𝓛.laws 𝓣 code.function)
    (walked 𝓛 f.ended stayed (f.clauses 𝓛 at_mem run) (WpFn 𝓤 𝓛.H 𝓣.C 𝓣.Λ code.function) (λ κs. (rawptr_vals, ((λ _. heap_val ∷ []), (shr_slice_vals, tt))))
    (λ κs. (rawptr_Tells, (heap_Tells, (shr_slice_Tells (named 0) κs.0 u8, tt))))
    (λ κs qs bounds a g are. at_each 𝓛 at_mem run 𝓣.C 𝓣.Λ (fm_of 𝓤 𝓛.H 𝓛.laws 𝓣) known a.1.0 κs.0 qs.0 a.1.1.0 are.1.1.0.0.1 a.0))

pub tvd_open_spec : {M : Type 1} → stated.statement M
unfolding tables_of
tvd_open_spec 𝓤 𝓛 𝓜 𝓡 wired =
    entered 𝓤 𝓛.H (triple_of 𝓛 f.signature (f.spec 𝓛 𝓜.mem 𝓡.returns))
    (tables 𝓤 𝓛.H 𝓜 𝓡 𝓡.env).C (tables 𝓤 𝓛.H 𝓜 𝓡 𝓡.env).Λ key code.function (code.unfolded 𝓤 𝓛.H 𝓜 𝓡 wired)
    (meets 𝓛 𝓜.mem 𝓡.returns (tables_of 𝓤 𝓛.H 𝓜 (tables 𝓤 𝓛.H 𝓜 𝓡 𝓡.env))
    (of_thm.met 𝓤 𝓛 𝓜 𝓡 (code.calls-tvd::doors::begun 𝓡.env wired)))
