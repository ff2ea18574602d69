-- Reports grow by a block.
use Rattle.std.proofs.Common.{◌≡◌, ℕ, ◌+◌, ◌<◌, List, [], ◌∷◌, ◌++◌, refl, ap, ◌∙◌, sym, subst, arith, suc, length, take, get_or}
use Rattle.std.proofs.Math.Seq.{take-suc}
use Rattle.std.proofs.lemmas.List.{append-nil, append_assoc}
use Rattle.tv_explain.specs.declared.explaining.Explained.{Explained}
use Rattle.tv_advice.specs.Advised.{IsAdviceOn}
use Rattle.tv_advice.specs.declared.advice.Advice.{Advice}
use Rattle.tv_advice.specs.Blocks.{IsBlockAt, IsBlockOn, IsReportOn, numbered_fault}
use Rattle.tv_advice.specs.declared.manner.Manner.{Manner}

-- one block more, for the fault that follows
pub IsReportOn-further : (manner : Manner) (name : List ℕ) (faults : List Explained) (fault : Explained) (report block : List ℕ) → IsReportOn manner name faults report → IsBlockOn manner name fault block → IsReportOn manner name (faults ++ fault ∷ []) (report ++ block)
IsReportOn-further manner name [] fault report block is own =
    (block, [], ap (λ bytes. bytes ++ block) is ∙ sym (append-nil block), own, refl)
IsReportOn-further manner name (first ∷ faults) fault report block (of_first, others, parts, first_is, rest) own =
    (of_first, others ++ block, ap (λ bytes. bytes ++ block) parts ∙ append_assoc of_first others block, first_is, IsReportOn-further manner name faults fault others block rest own)

-- the block of the advice on a fault is one on the fault
IsBlockOn-advised : (manner : Manner) (name : List ℕ) (fault : Explained) (advice : Advice) (block : List ℕ) → IsAdviceOn fault advice → IsBlockAt manner name advice.own.line (numbered_fault advice.number) block → IsBlockOn manner name fault block
IsBlockOn-advised manner name fault advice block is own = rw (sym is.own, sym is.number) own

-- a turn of the loop that adds a block for each fault
pub IsReportOn-turn : (manner : Manner) (name : List ℕ) (faults : List Explained) (at : ℕ) (default : Explained) (advice : Advice) (report block further : List ℕ) → at < length faults → IsReportOn manner name (take at faults) report → IsAdviceOn (get_or faults at default) advice → IsBlockAt manner name advice.own.line (numbered_fault advice.number) block → further ≡ report ++ block → IsReportOn manner name (take (at + 1) faults) further
IsReportOn-turn manner name faults at default advice report block further inside so_far is own added =
    let fault = get_or faults at default in
    let grown = IsReportOn-further manner name (take at faults) fault report block so_far (IsBlockOn-advised manner name fault advice block is own) in
    let next : suc at ≡ at + 1 = omega arith in
    subst (λ taken. IsReportOn manner name taken further) (sym (take-suc faults at default inside) ∙ ap (λ count. take count faults) next) (subst (λ bytes. IsReportOn manner name (take at faults ++ fault ∷ []) bytes) (sym added) grown)
