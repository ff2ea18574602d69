-- What the coming and going of the focus and the opening of its dialog make of a leaf by its kind: what it holds is fit.
use Rattle.std.proofs.Common.{Bool, true, false, length, Option, refl, arith}
use Rattle.tv_model.specs.declared.kind.Kind.{Kind}
use Rattle.tv_model.specs.declared.kind.Kind.TheVariants as kinds
use Rattle.tv_model.specs.declared.record.Value.{Value}
use Rattle.tv_model.specs.Kinds.InputLine.{entered, left, edit_of}
use Rattle.tv_model.specs.Description.LawfulNodes.{HasLawfulCount, HasLawfulStart}
use Rattle.tv_machine.specs.Controls.Declared.{declared_value, opened_private}
use Rattle.tv_model.specs.Controls.Contents.{Content}
use Rattle.tv_machine.specs.Safe.{HasValueOf}
use Rattle.tv_laws.specs.Fit.{IsAtRest, IsFitContent}
use Rattle.tv_machine.proofs.RefocusLemmas.{moved_content, refocused_content}
use Rattle.tv_laws.proofs.InputLemmas.{entered-good}
use Rattle.tv_laws.proofs.ItemLemmas.{declared-item, declared-marks, item-from}
use Rattle.tv_laws.proofs.KindLemmas.{boxes-fit, focused-input, input-edit, input-fit}

-- ---- the coming and going of the focus

-- what is no input rests
again : (to from : Bool) (kind : Kind) (c : Content) → IsAtRest kind c.private → IsFitContent from kind c → IsFitContent to kind c
again to from kind c rests fit = record { safe = fit.safe; private = fit.private; rests = λ e. rests }

left-fit : (from : Bool) (kind : Kind) (c : Content) → IsFitContent from kind c → IsFitContent false kind (refocused_content left kind c)
left-fit from (kinds.Input input) c fit =
    let edit = input-edit from input c fit in
    input-fit false input (left (edit_of c)) (record { domain = edit.domain; is = edit.is; good = (edit.good.0, omega arith) }) (λ e. refl)
left-fit from kind c fit = again false from kind c tt fit

entered-fit : (from : Bool) (kind : Kind) (c : Content) → IsFitContent from kind c
    → IsFitContent true kind (refocused_content entered kind c)
entered-fit from (kinds.Input input) c fit =
    let edit = input-edit from input c fit in
    focused-input input (entered (edit_of c)) (record { domain = edit.domain; is = edit.is; good = entered-good edit.domain (edit_of c) edit.good })
entered-fit from kind c fit = again true from kind c tt fit

-- after the focus has moved
pub moved-fit : (to from : Bool) (kind : Kind) (c : Content) → IsFitContent from kind c
    → IsFitContent to kind (moved_content to from kind c)
moved-fit true true kind c fit = entered-fit false kind (refocused_content left kind c) (left-fit true kind c fit)
moved-fit true false kind c fit = entered-fit false kind c fit
moved-fit false true kind c fit = left-fit true kind c fit
moved-fit false false kind c fit = fit

-- ---- opening

-- a leaf with a value that it may have, as its dialog opens
pub opened-fit : (has_focus : Bool) (kind : Kind) (value : Option Value) (overwrites : Bool) → HasLawfulCount kind → HasValueOf kind value
    → IsFitContent has_focus kind (record { value = value; private = opened_private kind value; overwrites = overwrites })
opened-fit has_focus (kinds.Input input) value overwrites count fits = record { safe = record { value = fits; cursor = omega arith }; private = tt; rests = λ e. refl }
opened-fit has_focus (kinds.CheckBoxes boxes) value overwrites count fits = boxes-fit has_focus boxes value 1 overwrites fits (item-from (length boxes.items) 1 (omega arith) count.0)
opened-fit has_focus (kinds.List list) value overwrites count fits = record { safe = record { value = fits; cursor = omega arith }; private = tt; rests = λ e. tt }
opened-fit has_focus _ value overwrites count fits = record { safe = record { value = fits; cursor = omega arith }; private = refl; rests = λ e. tt }

-- the declared value is one that the leaf may have
pub declared-fit : (kind : Kind) → HasLawfulStart kind → HasValueOf kind (declared_value kind)
declared-fit (kinds.Input input) start = start
declared-fit (kinds.CheckBoxes boxes) start = declared-marks (length boxes.items) boxes.start start
declared-fit (kinds.RadioButtons radios) start = declared-item (length radios.items) radios.start start
declared-fit (kinds.List list) start = declared-item (length list.items) list.start start
declared-fit _ start = refl
