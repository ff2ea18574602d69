-- Faults that are handed on, and ends that aren't reached.
use Rattle.std.proofs.Common.{◌≡◌, ◌∙◌, ◌<◌, ℕ, Bool, false, List, Result, Ok, Err, IsErrAnd, Some, Vec, ap, get_or, length, refl, slice_get, subst, sym}
use Rattle.std.proofs.lemmas.List.Quantifiers.{position-Some}
use Rattle.std.proofs.lemmas.Option.{slice_get-get_or}
use Rattle.std.specs.Prelude.{IfOk, position}
use Rattle.std.specs.declared.alloc.AllocError.{AllocError}
use Rattle.tv_event.specs.declared.event.Command.{Command}
use Rattle.tv_files.specs.Ends.{End}
use Rattle.tv_files.specs.Ends.End.{wayless}
use Rattle.tv_files.specs.Way.{EndsAt, EndsWay, end_without, is_way, no_end}
use Rattle.tv_files.specs.Way.EndsAt.{unreached, memory as no_memory}
use Rattle.tv_files.specs.Way.EndsWay.{undeclared, memory as no_memory_there}
use Rattle.tv_files.specs.declared.done.Done.TheVariants.{Whole}
use Rattle.tv_io.specs.Writer.{Seen}
use Rattle.tv_model.specs.declared.desc.Desc.{Desc}
use Rattle.tv_model.specs.declared.desc.Dialog.{Dialog}
use Rattle.tv_model.specs.Description.Commands.{is_end}
use Rattle.tv_model.specs.Description.Heads.{dialog_head, is_named}
use Rattle.tv_program.specs.declared.trouble.Trouble.{Trouble}
use Rattle.tv_reach.specs.declared.answer.Answer.{Answer}
use Rattle.tv_reach.specs.declared.goal.Goal.TheVariants.{Ends}
use Rattle.tv_reach.specs.Answers.{IsAnswer}
use Rattle.tv_ways.specs.Listing.{way_text}

pub err-is : {T : Type 0} (fault : Trouble) (r : Result T Trouble) → IsErrAnd r (λ told. told ≡ fault) → r ≡ Err fault
err-is fault (Ok x) told = absurd told
err-is fault (Err other) told = ap Err told

-- why the end isn't reached is told, if there is memory to
pub unreached-by : {A : Type 0} (file : List ℕ) (d : Desc) (place : ℕ) (c : Command) (seen : Seen) (answer : Answer) (message : Result (Vec ℕ A) AllocError) (end : End)
    → IsAnswer d place (Ends c) answer → is_way answer ≡ false
    → IfOk message (λ m. m.items ≡ way_text d (record { goal = Ends c; answer = answer })) → end ≡ end_without file message
    → EndsAt file d place c seen seen Whole end
unreached-by file d place c seen answer (Ok m) end right none is told = unreached answer right none refl refl (told ∙ ap (λ bytes. wayless file bytes) is)
unreached-by file d place c seen answer (Err fault) end right none is told = no_memory refl refl told

-- the dialog at the place that the first of the name has
pub named-there : (dialogs items : List Dialog) (name : List ℕ) (place : ℕ) (dialog : Dialog) → items ≡ dialogs
    → position (is_named name) dialogs ≡ Some place → dialog ≡ get_or items place dialog → slice_get dialogs place ≡ Some dialog
named-there dialogs items name place dialog same named is =
    let less = subst (λ (ds : List Dialog). place < length ds) (sym same) (position-Some (is_named name) dialogs place dialog named).0 in
    subst (λ (ds : List Dialog). slice_get ds place ≡ Some dialog) same
    (slice_get-get_or items place dialog less ∙ ap (λ (d : Dialog). Some d) (sym is))

-- that the dialog doesn't end so is told, if there is memory to
pub undeclared-by : {A : Type 0} (file : List ℕ) (d : Desc) (dialog : List ℕ) (c : Command) (seen : Seen) (place : ℕ) (there : Dialog) (message : Result (Vec ℕ A) AllocError) (end : End)
    → position (is_named dialog) d.dialogs ≡ Some place → slice_get d.dialogs place ≡ Some there → is_end (dialog_head there).ends c.0 ≡ false
    → IfOk message (λ m. m.items ≡ no_end dialog c) → end ≡ end_without file message
    → EndsWay file d dialog c seen seen Whole end
undeclared-by file d dialog c seen place there (Ok m) end named found none is told =
    undeclared place there named found none refl refl (told ∙ ap (λ bytes. wayless file bytes) is)
undeclared-by file d dialog c seen place there (Err fault) end named found none is told = no_memory_there refl refl told
