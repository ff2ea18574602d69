use Rattle.std.proofs.Common.{◌≡◌, sym, ap, ◌∙◌, length, ◌==◌, true, false, arith}
use Rattle.tv_model.specs.Log.LogText.{has_bit}
use Rattle.tv_io.proofs.PenLemmas.{Puts-then, Puts-along, Puts-none}
use Rattle.tv_script.proofs.MarkLemmas.{joined, separator, words_below, joined-first, separator-first, joined-marked, separator-marked, joined-unmarked, separator-unmarked, marks_text-none, marks_text-some}
use Rattle.tv_script.proofs.lines.put_marks.Goals.{then-is_marked, else-is_marked}
use Rattle.tv_script.proofs.lines.put_marks.Goals as goal

pub loop-item-init : goal.loop-item-init
loop-item-init g c = (Puts-along (sym (joined-first c.args.marks)) Puts-none, sym (separator-first c.args.marks))

pub loop-item-preserved : goal.loop-item-preserved
loop-item-preserved g c =
    let marks = c.args.marks in
    let item = c.loop-item.item in
    let some = c.loop-item.auto.item in
    elim c.if-is_marked.branch [
      | then-is_marked w ↦
          let marked : has_bit marks item ≡ true = sym c.is_marked.ensures ∙ w.if-is_marked.true in
          let text = Puts-then (Puts-then c.loop-item.invariant.0 (Puts-along c.loop-item.invariant.1 w.put.ensures)) w.put_number.ensures in (
            rw w.pen-is (Puts-along (sym (joined-marked marks item some marked)) text),
            ap (λ s. s.now) w.separator-is ∙ sym (separator-marked marks item some marked),
          )
      | else-is_marked w ↦
          let unmarked : has_bit marks item ≡ false = sym c.is_marked.ensures ∙ w.if-is_marked.false in (
            rw w.pen-is (Puts-along (sym (joined-unmarked marks item some unmarked)) c.loop-item.invariant.0),
            ap (λ s. s.now) w.separator-is ∙ c.loop-item.invariant.1 ∙ sym (separator-unmarked marks item some unmarked),
          )
    ]

pub returns-then-is_empty : goal.returns-then-is_empty
returns-then-is_empty g c =
    let marks = c.args.marks in
    let last : c.loop-item.item ≡ 17 = omega arith in
    let text = Puts-along (ap (λ n. joined (words_below marks n)) last) c.loop-item.invariant.0 in
    let before = c.loop-item.invariant.1 ∙ ap (λ n. separator (words_below marks n)) last in
    let empty : (length (separator (words_below marks 17)) == 0) ≡ true = sym (ap (λ xs. length xs == 0) before) ∙ sym c.is_empty.ensures ∙ c.if-is_empty.true in
    Puts-along (marks_text-none marks empty) (Puts-then text c.put-then-is_empty.ensures)

pub returns-else-is_empty : goal.returns-else-is_empty
returns-else-is_empty g c =
    let marks = c.args.marks in
    let last : c.loop-item.item ≡ 17 = omega arith in
    let text = Puts-along (ap (λ n. joined (words_below marks n)) last) c.loop-item.invariant.0 in
    let before = c.loop-item.invariant.1 ∙ ap (λ n. separator (words_below marks n)) last in
    let some : (length (separator (words_below marks 17)) == 0) ≡ false = sym (ap (λ xs. length xs == 0) before) ∙ sym c.is_empty.ensures ∙ c.if-is_empty.false in
    Puts-along (marks_text-some marks some) text
