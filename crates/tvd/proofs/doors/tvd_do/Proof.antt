-- `tvd_do` lends what lies at the handle to `act`, for a lifetime that is made for the call, passes the slices on, and has the state back.
use Rattle.std.proofs.Common.{◌≡◌, ℕ, ◌^◌, ◌<◌, List, [], ◌∷◌, ◌++◌, length, refl, w8, w32, Bor}
use seplogic.Ra.Ura.{Ura}
use base.Fraction.{full_share}
use mir.Syntax.{named}
use mir.Val.{Val, vint, vptr}
use base.Logic.{SProp, ent, sep, emp, never, never_e, id⊢}
use base.Fml.{Lft, GName, Share, Fml, ftrue, fsep, fex, feq, fres, fbor, flft, flent}
use prog.Memory.{Memory}
use prog.Routine.{Routine}
use prog.Wp.{Calls, Loops, WpFn, Tables}
use types.Logic.{Logic, sem}
use contract.Monad.{Fun, fact, fact_i}
use contract.Running.{tables, tables_of}
use types.Kit.{Item, ⋆, ‵, raw, ◌⊛◌, some, later, ◌$◌, ◌∵◌, !, qed, by, move, keep, drop, use0, use1, use3, split, join, pick, fsplit, fjoin, fpick, fpack, feq_l, suffices, frame, await, done}
use types.Tokens.{lft_new, lft_end}
use types.Run.{stop, fld, hop, from, addr, and_then, no_more, returns, enter}
use types.Part.{whole, sub, agg}
use types.ByLocal.{alloc_all, pass_all, free_all, look_at, look_in_at, get, get_in, through, sets, lands_as}
use types.SemTy.{Arr, Body}
use types.Hole.{Holey}
use sound.WpLaws.{FmC, fm_of, WpFn-mono}
use denote.Exit.{yes}
use denote.RattleType.{RattleType, owns}
use denote.Laws.{Is, shows}
use denote.Memory.{mem, part_at}
use denote.Plain.{uint_vals, uint_Tells, uint_Lawful}
use denote.Builtin.{u8, u32, usize, SliceRefOf}
use denote.Ref.{MutBor, MutRef, mut_vals, mut_Tells}
use denote.Slice.{MutSlice, ShrSlice, Room, finally, slice_val, shr_slice_vals, mut_slice_vals, shr_slice_Tells, mut_slice_Tells}
use denote.Lend.{lends_ref, ref_back}
use denote.Signature.{plain}
use denote.RawPtr.{Ptr, block_ptr, null_ptr, RawPtr, rawptr_vals, rawptr_Tells, lies_at}
use denote.Steps.{peeks, heard, nothing}
use denote.Triple.Statement.{Contract, Triple}
use denote.Triple.Call.{calls_at}
use denote.Triple.Clauses.{ensured}
use denote.Triple.Entry.{on_entry}
use denote.Triple.Spec.{Meets, triple_of}
use denote.Triple.Table.{entered}
use denote.Triple.Walked.{Stays, stay_dropped, gave_slice, gave_ref, walk_of, Goes-dropped, Goes-gave_slice, Goes-gave_ref, ends_at, walked, walk_Meets}
use Rattle.std_heap.specs.contracts.Global as heap
use Rattle.std_heap.proofs.Handle.{heap_val, heap_Tells}
use Rattle.tv_held.specs.Holding.{Holding, IsHeld}
use Rattle.tv_held.specs.contracts.held.Held.{the_row}
use Rattle.tv_held.specs.declared.held.Held.{Held}
use Rattle.tvd.specs.Doors.{Does, HeldAt}
use Rattle.tvd.specs.contracts.doors.act as of
use Rattle.tvd.proofs.doors.act.Symbol.{name as #act}
use Rattle.tvd.proofs.doors.act.Met as of_thm
use Rattle.tvd.specs.contracts.doors.tvd_do.Key.{name as key}
use Rattle.tvd.specs.contracts.doors.tvd_do as f
use Rattle.tvd.proofs.doors.tvd_do.Statement as stated
use Rattle.tvd.proofs.doors.tvd_do.Code as code

abbrev R : RattleType
R = the_row

abbrev stayed : Stays (f.ended).signature.params (f.ended).kept
stayed = (
  stay_dropped (plain (λ _. RawPtr)) yes,
  (
    stay_dropped (plain (λ _. heap.the_row)) yes,
    (
      stay_dropped (plain (λ _. u32)) yes,
      (
        stay_dropped (SliceRefOf (0 ∷ []) tt (plain (λ _. u8)) (λ κs. tt)) yes,
        (gave_slice (1 ∷ []) tt (plain (λ _. u8)), (gave_ref (2 ∷ []) tt (plain (λ _. usize)), tt)),
      ),
    ),
  ),
)

module _ {M : Type 1} {𝓤 : Ura M} (𝓛 : Logic 𝓤) (at_mem : Memory → SProp 𝓤) (run : Routine → Fun 𝓤) where
  abbrev Of : Contract 𝓤
  Of = triple_of 𝓛 of.signature (of.spec 𝓛 at_mem run)

module _ {M : Type 1} {𝓤 : Ura M} (𝓛 : Logic 𝓤) (at_mem : Memory → SProp 𝓤) (run : Routine → Fun 𝓤) (C : Calls 𝓤 𝓛.H) (Λ : Loops 𝓤 𝓛.H) (fm : FmC 𝓤 𝓛.H 𝓛.laws C)
    (known : Triple 𝓤 (C #act) (Of 𝓛 at_mem run)) (h : Holding) (a : (heap.the_row).Denot) (κ₀ κ₁ κ₂ : Lft) (q₀ q₁ q₂ : Share) (n : ℕ) (input : Bor (List ℕ)) (room : MutBor (List ℕ)) (used : MutBor ℕ)
    (n-fits : n < 2 ^ 32) (input-fits : Room u8 (length input.now)) (room-fits : Room u8 (length room.now)) where
  open 𝓛 use {H}

  abbrev words : Ptr → List Val × (List Val × (List Val × (List Val × (List Val × (List Val × Unit {0})))))
  words p = (rawptr_vals p, (heap_val ∷ [], (vint w32 n ∷ [], (shr_slice_vals input, (mut_slice_vals room, (mut_vals used, tt))))))

  abbrev Entry : Ptr → SProp 𝓤
  Entry p = on_entry 𝓛 f.signature (κ₀, (κ₁, (κ₂, tt))) (q₀, (q₁, (q₂, tt))) (p, (a, (n, (input, (room, (used, tt)))))) (words p)

  abbrev bound : Ptr → (walk_of 𝓛 f.ended stayed (f.clauses 𝓛 at_mem run)).Ghost
  bound p = (((κ₀, (κ₁, (κ₂, tt))), (q₀, (q₁, (q₂, tt))), tt, (p, (a, (n, (input, (room, (used, tt)))))), words p), h)

  abbrev Runs : Ptr → SProp 𝓤
  Runs p = WpFn 𝓤 H C Λ code.function (rawptr_vals p ++ (heap_val ∷ vint w32 n ∷ slice_val input.ref_ptr (length input.now) ∷ slice_val room.ref_ptr (length room.now) ∷ vptr used.ref_ptr.0 used.ref_ptr.1 ∷ []))
      ((walk_of 𝓛 f.ended stayed (f.clauses 𝓛 at_mem run)).post (bound p))

  abbrev Tokens : Item 𝓤
  Tokens = ‵ (flft κ₀ q₀) ⊛ (‵ (flft κ₁ q₁) ⊛ (‵ (flft κ₂ q₂) ⊛ ‵ ftrue))

  abbrev room_left : List ℕ → Fml
  room_left zs = fsep (finally u8 room.ghost_name zs) (fbor κ₁ (Body (Arr (Holey (mem u8)) (length room.now)) room.ref_ptr.0 room.ref_ptr.1 room.ghost_name))

  abbrev used_left : ℕ → Fml
  used_left k = fsep (fres used.ghost_name (usize.coded.code k)) (fbor κ₂ (Body (mem usize) used.ref_ptr.0 used.ref_ptr.1 used.ghost_name))

  abbrev Left : R.Denot → List ℕ → (k r : ℕ) → Holding → Type 0
  Left w zs k r t = (later : Holding) × IsHeld w later × Does n input.now t later room.now zs k r

  module _ (b o : ℕ) where
    exits : (w : R.Denot) (zs : List ℕ) (k r : ℕ) (v : Val) → length zs ≡ length room.now → Left w zs k r h
        → ent 𝓤 (⋆ 𝓛 (‵ (u8.own_val r (v ∷ [])) ∷ ‵ (part_at R full_share w b o) ∷ Tokens ∷ ‵ (room_left zs) ∷ ‵ (used_left k) ∷ []))
        ((walk_of 𝓛 f.ended stayed (f.clauses 𝓛 at_mem run)).post (bound (block_ptr b o)) v)
    exits w zs k r v same told =
        qed 𝓛 (‵ (u8.own_val r (v ∷ [])) ∷ ‵ (part_at R full_share w b o) ∷ Tokens ∷ ‵ (room_left zs) ∷ ‵ (used_left k) ∷ []) ∵
        suffices ! _ (ends_at 𝓛 f.ended stayed (f.clauses 𝓛 at_mem run) (bound (block_ptr b o)) v r (tt, (tt, (tt, (tt, (zs, (k, tt)))))) (tt, (tt, (tt, (tt, (same, (tt, tt))))))) $
        -- what is had of the parameters, from the last to the first
        nothing ! $ move ! (5 ∷ 0 ∷ []) $ fjoin ! $ move ! (4 ∷ 0 ∷ []) $ fjoin ! $ nothing ! $ fjoin ! $ nothing ! $ fjoin ! $ nothing ! $ fjoin ! $ nothing ! $ fjoin ! $
        -- [the parameters; the answer; the state; the tokens]
        join ! $ move ! (2 ∷ 0 ∷ []) $ join ! $ frame ! $
        nothing ! $ fpack ! (IsHeld w told.0) (λ _. ftrue) told.1 $ fjoin ! $
        fpack ! Held (λ held. fsep (fex (IsHeld held told.0) (λ _. ftrue)) (lies_at R full_share (block_ptr b o) held)) w $
        nothing ! $ fpack ! (Does n input.now h told.0 room.now zs k r) (λ _. ftrue) told.2 $ fjoin ! $
        fpack ! Holding (λ later. fsep (fex (Does n input.now h later room.now zs k r) (λ _. ftrue)) (HeldAt (block_ptr b o) later)) told.0 $ done !

    abbrev Had : R.Denot → List (Item 𝓤)
    Had x = ‵ (part_at R full_share x b o) ∷ Tokens
        ∷ ‵ (owns (RawPtr ∷ heap.the_row ∷ u32 ∷ ShrSlice (named 0) κ₀ u8 ∷ MutSlice (named 1) κ₁ u8 ∷ MutRef (named 2) κ₂ usize ∷ []) (block_ptr b o, (a, (n, (input, (room, (used, tt)))))) (words (block_ptr b o))) ∷ []

    walk : (x : R.Denot) → IsHeld x h → ent 𝓤 (⋆ 𝓛 (Had x)) (Runs (block_ptr b o))
    walk x there =
        qed 𝓛 (Had x) ∵ enter ! C Λ code.function (vptr b o ∷ heap_val ∷ vint w32 n ∷ slice_val input.ref_ptr (length input.now) ∷ slice_val room.ref_ptr (length room.now) ∷ vptr used.ref_ptr.0 used.ref_ptr.1 ∷ []) _ $
        alloc_all ! (λ l. pass_all ! refl ((tt, tt), ((tt, ((tt, tt), tt)), ((tt, record { fits = n-fits }), ((tt, (tt, (record { fits = input-fits.0 }, tt))), ((tt, (tt, (record { fits = room-fits.0 }, tt))), ((tt, tt), tt)))))) $
        -- &mut *at, &mut *room, &mut *used
        sets ! (addr ! (through ! refl (stop !))) refl (tt, tt) $
        sets ! (addr ! (from ! (fld ! refl (hop ! (look_in_at ! 5 (sub ! 0 refl (whole !))) (stop !))))) refl (tt, tt) $
        sets ! (agg ! (and_then ! (get ! refl) (and_then ! (get_in ! (fld ! refl (stop !)) (sub ! 1 refl (whole !))) (no_more !)))) refl (tt, (tt, (record { fits = room-fits.0 }, tt))) $
        sets ! (addr ! (through ! refl (stop !))) refl (tt, tt) $
        lft_new ! tt (λ α. let κ : Lft = α ∷ [] in move ! (1 ∷ []) $
        use1 𝓛 (later (some (λ (μ : GName). ‵ ((MutRef (named 0) κ R).own_val (record { ref_ptr = (b, o); ghost_name = μ; now = x }) (vptr b o ∷ [])) ⊛ ‵ (flent κ (Body (mem R) b o μ))))) (lends_ref 𝓛 R (named 0) κ x b o) $
        await ! tt $ pick ! (λ μ. split ! $
        -- [the reference; the right to what it lends; its token; the tokens; the parameters; the locals]
        let s : MutBor R.Denot = record { ref_ptr = (b, o); ghost_name = μ; now = x } in
        let y : (Of 𝓛 at_mem run).Ghost = (((κ, (κ₀, (κ₁, (κ₂, tt)))), (full_share, (q₀, (q₁, (q₂, tt)))), tt, (s, (a, (n, (input, (room, (used, tt)))))), (vptr b o ∷ [], (words (block_ptr b o)).1)), tt) in
        move ! (4 ∷ []) $ fsplit ! $ drop ! $ move ! (1 ∷ 0 ∷ []) $ fjoin ! $ move ! (2 ∷ 3 ∷ []) $ join ! $ join ! $
        use0 𝓛 (raw (fact 𝓤 ((t : Holding) × IsHeld x t))) (fact_i 𝓤 ((t : Holding) × IsHeld x t) (emp 𝓤) (h, there)) $ move ! (1 ∷ 0 ∷ []) $ join ! $ use1 𝓛 (raw ((Of 𝓛 at_mem run).pre y)) (id⊢ 𝓤 ((Of 𝓛 at_mem run).pre y)) $
        -- act(..)
        calls_at ! fm (Of 𝓛 at_mem run) known y (and_then ! (get ! refl) (and_then ! (get ! refl) (and_then ! (get ! refl) (and_then ! (get ! refl) (and_then ! (get ! refl) (and_then ! (get ! refl) (no_more !))))))) (λ v.
        use1 𝓛 (later (some (λ (r : ℕ). ((‵ (flft κ full_share) ⊛ Tokens) ⊛ ‵ (u8.own_val r (v ∷ []))) ⊛ raw (ensured 𝓛 of.ended (of.clauses 𝓛 at_mem run) (κ, (κ₀, (κ₁, (κ₂, tt)))) (s, (a, (n, (input, (room, (used, tt)))))) tt r)))) (id⊢ 𝓤 _) $ await ! tt $ pick ! (λ r.
        split ! $ move ! (1 ∷ []) $
        use1 𝓛 (some (λ (ws : R.Denot × (Unit {0} × (Unit {0} × (Unit {0} × (List ℕ × (ℕ × Unit {0})))))).
        ‵ (fsep (fsep (fres μ (R.coded.code ws.0)) (fbor κ (Body (mem R) b o μ))) (fsep ftrue (fsep ftrue (fsep ftrue (fsep (fsep (fsep (finally u8 room.ghost_name ws.1.1.1.1.0) (feq ℕ (length ws.1.1.1.1.0) (length room.now))) (fbor κ₁ (Body (Arr (Holey (mem u8)) (length room.now)) room.ref_ptr.0 room.ref_ptr.1 room.ghost_name))) (fsep (used_left ws.1.1.1.1.1.0) ftrue))))))
        ⊛ raw (fact 𝓤 ((t : Holding) → IsHeld x t → Left ws.0 ws.1.1.1.1.0 ws.1.1.1.1.1.0 r t)))) (id⊢ 𝓤 _) $
        pick ! (λ ws. split ! $ move ! (1 ∷ []) $ heard ! ((t : Holding) → IsHeld x t → Left ws.0 ws.1.1.1.1.0 ws.1.1.1.1.1.0 r t) (λ told.
        -- the last values, one by one
        fsplit ! $ move ! (1 ∷ []) $ fsplit ! $ drop ! $ fsplit ! $ drop ! $ fsplit ! $ drop ! $ fsplit ! $ move ! (1 ∷ []) $ fsplit ! $ move ! (1 ∷ []) $ drop ! $ move ! (1 ∷ []) $
        fsplit ! $ fsplit ! $ move ! (1 ∷ []) $ feq_l ! (λ same. fjoin ! $ move ! (2 ∷ []) $ fsplit ! $ move ! (1 ∷ []) $ drop ! $
        -- [the state's last value; the room's; the count's; the tokens and the answer; the right]
        move ! (3 ∷ []) $ split ! $ split ! $ lft_end ! tt $
        -- [the lifetime is over; the tokens; the answer; the state's; the room's; the count's; the right]
        move ! (0 ∷ 6 ∷ 3 ∷ []) $ use3 𝓛 (later (‵ (part_at R full_share ws.0 b o))) (ref_back 𝓛 R κ μ ws.0 b o) $ await ! tt $
        move ! (2 ∷ []) $ peeks ! u8 (Is u8) (shows 𝓛 u8) r (v ∷ []) (λ is. lands_as ! refl refl ((uint_Lawful 𝓛 w8).typed r _ is).0 $
        returns ! (look_at ! 0 refl) $ free_all ! refl $ by ! (exits ws.0 ws.1.1.1.1.0 ws.1.1.1.1.1.0 r v same (told h there)))))))))))

  -- nothing lies at null
  at_each : (p : Ptr) → ent 𝓤 (sep 𝓤 (Entry p) (sem 𝓛 (HeldAt p h))) (Runs p)
  at_each (block_ptr b o) = qed 𝓛 ((Tokens ⊛ ‵ (owns (RawPtr ∷ heap.the_row ∷ u32 ∷ ShrSlice (named 0) κ₀ u8 ∷ MutSlice (named 1) κ₁ u8 ∷ MutRef (named 2) κ₂ usize ∷ []) (block_ptr b o, (a, (n, (input, (room, (used, tt)))))) (words (block_ptr b o)))) ∷ ‵ (HeldAt (block_ptr b o) h) ∷ []) ∵
      split ! $ move ! (2 ∷ []) $ fpick ! (λ x. fsplit ! $ fpick ! (λ there. drop ! $ by ! (walk b o x there)))
  at_each null_ptr = qed 𝓛 (raw (Entry null_ptr) ∷ ‵ (HeldAt null_ptr h) ∷ []) ∵
      move ! (1 ∷ []) $ fpick ! (λ x. fsplit ! $ move ! (1 ∷ []) $ use1 𝓛 (raw (never 𝓤)) (id⊢ 𝓤 (never 𝓤)) $ keep ! (0 ∷ []) $ by ! (never_e 𝓤 _))

meets : {M : Type 1} {𝓤 : Ura M} (𝓛 : Logic 𝓤) (at_mem : Memory → SProp 𝓤) (run : Routine → Fun 𝓤) (𝓣 : Tables 𝓤 𝓛.H)
    → Triple 𝓤 (𝓣.C #act) (Of 𝓛 at_mem run) → Meets 𝓛 f.signature (WpFn 𝓤 𝓛.H 𝓣.C 𝓣.Λ code.function) (f.spec 𝓛 at_mem run)
meets {𝓤 = 𝓤} 𝓛 at_mem run 𝓣 known =
    walk_Meets 𝓛 f.ended stayed (
      Goes-dropped 𝓛 3 (plain (λ _. RawPtr)) yes (λ κs a g. refl),
      (
        Goes-dropped 𝓛 3 (plain (λ _. heap.the_row)) yes (λ κs a g. refl),
        (
          Goes-dropped 𝓛 3 (plain (λ _. u32)) yes (λ κs a g. refl),
          (
            Goes-dropped 𝓛 3 (SliceRefOf (0 ∷ []) tt (plain (λ _. u8)) (λ κs. tt)) yes (λ κs a g. refl),
            (Goes-gave_slice 𝓛 3 1 tt (plain (λ _. u8)), (Goes-gave_ref 𝓛 3 2 tt (plain (λ _. usize)), tt)),
          ),
        ),
      ),
    )
    (f.clauses 𝓛 at_mem run) (WpFn 𝓤 𝓛.H 𝓣.C 𝓣.Λ code.function) (WpFn-mono 𝓤 𝓛.H 𝓛.laws 𝓣 code.function)
    (walked 𝓛 f.ended stayed (f.clauses 𝓛 at_mem run) (WpFn 𝓤 𝓛.H 𝓣.C 𝓣.Λ code.function) (λ κs. (rawptr_vals, ((λ _. heap_val ∷ []), (uint_vals w32, (shr_slice_vals, (mut_slice_vals, (mut_vals, tt)))))))
    (λ κs. (rawptr_Tells, (heap_Tells, (uint_Tells w32, (shr_slice_Tells (named 0) κs.0 u8, (mut_slice_Tells (named 1) κs.1.0 u8, (mut_Tells (named 2) κs.1.1.0 usize, tt)))))))
    (λ κs qs bounds a g are. at_each 𝓛 at_mem run 𝓣.C 𝓣.Λ (fm_of 𝓤 𝓛.H 𝓛.laws 𝓣) known g a.1.0 κs.0 κs.1.0 κs.1.1.0 qs.0 qs.1.0 qs.1.1.0 a.1.1.0 a.1.1.1.0 a.1.1.1.1.0 a.1.1.1.1.1.0
    are.1.1.0.1 are.1.1.1.0.0.1 are.1.1.1.1.0.0.1 a.0))

pub tvd_do_spec : {M : Type 1} → stated.statement M
unfolding tables_of
tvd_do_spec 𝓤 𝓛 𝓜 𝓡 wired =
    entered 𝓤 𝓛.H (triple_of 𝓛 f.signature (f.spec 𝓛 𝓜.mem 𝓡.returns))
    (tables 𝓤 𝓛.H 𝓜 𝓡 𝓡.env).C (tables 𝓤 𝓛.H 𝓜 𝓡 𝓡.env).Λ key code.function (code.unfolded 𝓤 𝓛.H 𝓜 𝓡 wired)
    (meets 𝓛 𝓜.mem 𝓡.returns (tables_of 𝓤 𝓛.H 𝓜 (tables 𝓤 𝓛.H 𝓜 𝓡 𝓡.env))
    (of_thm.met 𝓤 𝓛 𝓜 𝓡 (code.calls-tvd::doors::act 𝓡.env wired)))
