use Rattle.std.proofs.Common.{◌≡◌, ◌↔◌, ◌∙◌, true, Bool, Ok, Err, Global, IsTrue, IfOk, sym}
use Rattle.std.proofs.lemmas.Bool.{true≢false}
use Rattle.std.specs.declared.result.Result.{Result}
use Rattle.std.specs.declared.alloc.AllocError.{AllocError}
use Rattle.tv_machine.specs.Leaves.{PlacedNode}
use Rattle.tv_reach.specs.declared.case.Case.{Case}
use Rattle.tv_reach.specs.declared.shown.ShownLeaf.{ShownLeaf}
use Rattle.tv_reach.specs.Found.{IsInNone, IsLeafOf}
use Rattle.tv_reach.specs.Never.{Blocks, starts_invalid}
use Rattle.tv_reach.proofs.FoundLemmas.{blocks_not, blocks_so}
use Rattle.tv_reach.proofs.case.is_blocking.Goals as goal

so : (case : Case) (shown : ShownLeaf) → IsInNone case.masks.now shown.shown_by → (invalid : Result Bool AllocError)
    → IfOk invalid (λ invalid. invalid ≡ starts_invalid shown.node.now.kind)
    → IfOk invalid (λ invalid. (leaf : PlacedNode) → IsLeafOf case leaf shown → IsTrue invalid ↔ Blocks case.dialog.now case.masks.now leaf.node.id leaf)
so case shown none (Ok invalid) same = λ leaf is. blocks_so case leaf shown is none invalid same
so case shown none (Err fault) same = tt

pub returns-then-is_in_none : goal.returns-then-is_in_none
returns-then-is_in_none c =
    so c.args.case.now c.args.leaf.now (c.is_in_none.ensures.0 c.if-is_in_none.true) c.starts_invalid.result c.starts_invalid.ensures

pub returns-else-is_in_none : goal.returns-else-is_in_none
returns-else-is_in_none c = λ leaf is. (
  (λ e. absurd (true≢false (sym e))),
  (λ blocks.
      absurd
      (blocks_not c.args.case.now leaf c.args.leaf.now is
      (λ none. let yes : c.is_in_none.result ≡ true = c.is_in_none.ensures.1 none in true≢false (sym yes ∙ c.if-is_in_none.false)) blocks)),
)
