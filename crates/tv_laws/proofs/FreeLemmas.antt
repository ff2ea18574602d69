-- A dialog whose event hasn't ended it, and in which no leaf holds the mouse: what is logged, where the focus goes, and what
-- its focus holds.
use Rattle.std.proofs.Common.{◌≡◌, true, false, not, ◌==◌, if◌then◌else◌, [], ◌∷◌, ◌++◌, Option, Some, None, refl, sym, ◌∙◌, All, IsTrue}
use Rattle.std.proofs.lemmas.List.Elements.{All-push}
use Rattle.tv_model.specs.declared.node.Id.{Id}
use Rattle.tv_model.specs.declared.desc.Dialog.{Dialog}
use Rattle.tv_model.specs.declared.log.LogLine.{LogLine}
use Rattle.tv_model.specs.declared.log.LogLine.TheVariants as lines
use Rattle.tv_model.specs.Kinds.InputLine.{Edit, entered, left}
use Rattle.tv_machine.specs.Leaves.{PlacedNode}
use Rattle.tv_model.specs.Controls.Contents.{Content}
use Rattle.tv_machine.specs.Dialog.Focus.{Moved, NotFree, Refused, Request, Same, after_request, focus_moved, is_free_at, is_granted, keeps_focus, refocused, request, request_then, requested}
use Rattle.tv_machine.specs.Dialog.Modal.{Modal, leaf_at, content_put, with_line}
use Rattle.tv_laws.specs.Ends.{IsDone, NamesEndOf, IsOpen}
use Rattle.tv_laws.specs.Fit.{IsFitContent, IsFitModal}
use Rattle.tv_laws.specs.Sound.{IsSoundDialog}
use Rattle.tv_machine.proofs.RefocusLemmas.{held-moved, hold-moved, refocused-keeps}
use Rattle.tv_machine.proofs.ListLemmas.{bool_cases, same-id}
use Rattle.tv_machine.specs.Dialog.Alike.{HoldSame}
use Rattle.tv_machine.proofs.MarkLemmas.{hold-itself}
use Rattle.tv_laws.proofs.StandLemmas.{fit-focus, fit-logged, fit-moved}

-- an open dialog in which no leaf holds the mouse
pub record IsFree (d : Dialog) (m : Modal) : Type 0 where
  pub fit : IsFitModal d m
  pub log : All (NamesEndOf d) m.log
  pub going : m.ended ≡ None
  pub idle : m.held ≡ None

none_some : {A : Type 0} (x : A) → None ≡ Some x → ⊥
none_some x e = cc

-- what goes on hasn't ended
pub open-done : (d : Dialog) (m : Modal) → IsOpen d m → IsDone d m
open-done d m o = record { fit = o.fit; log = o.log; ends = λ n e. absurd (none_some n (sym o.going ∙ e)) }

pub free-open : (d : Dialog) (m : Modal) → IsFree d m → IsOpen d m
free-open d m f = record { fit = f.fit; log = f.log; going = f.going }

pub free-done : (d : Dialog) (m : Modal) → IsFree d m → IsDone d m
free-done d m f = open-done d m (free-open d m f)

module _ (d : Dialog) (sound : IsSoundDialog d) where
  pub free-line : (line : LogLine) (m : Modal) → NamesEndOf d line → IsFree d m → IsFree d (with_line line m)
  free-line line m is f = record {
    fit = fit-logged d sound m (m.log ++ line ∷ []) m.ended f.fit;
    log = All-push (NamesEndOf d) m.log line f.log is;
    going = f.going;
    idle = f.idle;
  }

  -- ---- the focus moves

  abbrev IsQuiet : Modal → Type 0
  IsQuiet m = All (NamesEndOf d) m.log × (m.ended ≡ None)

  quiet_refocused : (edit : Edit → Edit) (o : Option PlacedNode) (m : Modal) → IsQuiet m → IsQuiet (refocused d edit o m)
  quiet_refocused edit o m q = refocused-keeps IsQuiet d (λ i c n p. p) edit o m q

  pub quiet-moved : (m : Modal) (i : Id) → IsQuiet m → IsQuiet (focus_moved d i m)
  quiet-moved m i q =
      let n = refocused d entered (leaf_at d i) (refocused d left (leaf_at d m.focus) m) in
      let r = quiet_refocused entered (leaf_at d i) (refocused d left (leaf_at d m.focus) m) (quiet_refocused left (leaf_at d m.focus) m q) in
      (All-push (NamesEndOf d) n.log (lines.Focus i) r.0 tt, r.1)

  pub free-moved : (m : Modal) (i : Id) → is_free_at d m.leaves i ≡ true → IsFree d m → IsFree d (focus_moved d i m)
  free-moved m i is f =
      let q = quiet-moved m i (f.log, f.going) in
      record { fit = fit-moved d sound m i f.fit.standing is f.idle; log = q.0; going = q.1; idle = held-moved d sound.lawful m i ∙ f.idle }

  -- ---- requests

  -- what is so of the request's outcome: it is granted, and the focus is there with every mark as it was, or it isn't
  abbrev pub IsOutcome : Modal → Id → Request → Type 0
  IsOutcome m to r = IsFree d (after_request d to r m) × (IsTrue (is_granted r) → ((after_request d to r m).focus ≡ to) × HoldSame d m.leaves (after_request d to r m).leaves)

  pub request-outcome : (m : Modal) (to : Id) → IsFree d m → IsOutcome m to (requested d m to)
  request-outcome m to f =
      bool_cases (to.0 == m.focus.0)
      (λ b. IsOutcome m to (if b then Same else if not (is_free_at d m.leaves to) then NotFree else if keeps_focus m (leaf_at d m.focus) then Refused else Moved))
      (λ here. (f, λ g. (sym (same-id to m.focus here), hold-itself d m.leaves)))
      (λ there. bool_cases (is_free_at d m.leaves to)
      (λ b. IsOutcome m to (if not b then NotFree else if keeps_focus m (leaf_at d m.focus) then Refused else Moved))
      (λ is. bool_cases (keeps_focus m (leaf_at d m.focus)) (λ b. IsOutcome m to (if b then Refused else Moved))
      (λ stays. (free-line (lines.Invalid m.focus) m tt f, λ g. absurd (not_granted g)))
      (λ goes. (free-moved m to is f, λ g. (refl, hold-moved d sound.lawful m to f.fit.standing.leaves))))
      (λ is. (f, λ g. absurd (not_granted g))))
    where
      not_granted : false ≡ true → ⊥
      not_granted e = cc

  pub free-request : (m : Modal) (to : Id) → IsFree d m → IsFree d (request d to m)
  free-request m to f = (request-outcome m to f).0

  -- what follows where it is granted
  pub request-then : (P : Modal → Type 0) (m : Modal) (to : Id) (follow : Modal → Modal) → IsFree d m → ((n : Modal) → IsFree d n → P n)
      → ((n : Modal) → IsFree d n → n.focus ≡ to → HoldSame d m.leaves n.leaves → P (follow n)) → P (request_then d to follow m)
  request-then P m to follow f as_is granted =
      let out = request-outcome m to f in
      bool_cases (is_granted (requested d m to)) (λ b. P (if b then follow (request d to m) else request d to m))
      (λ is. let there = out.1 is in granted (request d to m) out.0 there.0 there.1) (λ is. as_is (request d to m) out.0)

  -- ---- the focus holds something else

  pub free-focus : (m : Modal) (c : Content) (leaf : PlacedNode) → IsFree d m → leaf_at d m.focus ≡ Some leaf
      → IsFitContent true leaf.node.kind c → IsFree d (content_put d m.focus c m)
  free-focus m c leaf f there fits = record { fit = fit-focus d sound m c leaf f.fit there fits f.idle; log = f.log; going = f.going; idle = f.idle }
