use Rattle.std.proofs.Common.{◌≡◌, ◌↔◌, true, false, ◌+◌, ℕ, length, arith, refl, sym, ◌∙◌, subst}
use Rattle.std.proofs.lemmas.List.{length-set}
use Rattle.std.proofs.Math.ListN.{set}
use Rattle.tv_picture.specs.declared.places.Places.{Places}
use Rattle.tv_picture.proofs.table.Table.set_one.Goals.{then-allows, else-allows}
use Rattle.tv_picture.specs.declared.row.Next.TheVariants.{Nothing}
use Rattle.tv_picture.specs.declared.row.Row.{Row}
use Rattle.tv_picture.specs.Pattern.{one, Allows}
use Rattle.tv_picture.specs.Table.{HasPlace}
use Rattle.tv_picture.proofs.Rows.{IsRows, rows_more, covers_rows, row_one_at, row_one_last, allowed_ends, barred_ends, no_place}
use Rattle.tv_picture.proofs.table.Table.set_one.Goals as goal

pub loop-place-preserved : goal.loop-place-preserved
loop-place-preserved c =
    let row : Row = record { ends = c.if-allows.self; next = Nothing } in
    let ends : (k : ℕ) → HasPlace c.if-allows.self k ↔ (Allows c.args.mark c.index-text-place.result × (k ≡ c.loop-place.place + 1)) = elim c.if-allows.branch [
      | then-allows w ↦ subst (λ (e : Places). (k : ℕ) → HasPlace e k ↔ (Allows c.args.mark c.index-text-place.result × (k ≡ c.loop-place.place + 1))) (sym w.self-is)
          (allowed_ends c.args.mark c.index-text-place.result c.loop-place.place w.only.result (c.allows.ensures.0 w.if-allows.true) w.only.ensures)
      | else-allows w ↦ subst (λ (e : Places). (k : ℕ) → HasPlace e k ↔ (Allows c.args.mark c.index-text-place.result × (k ≡ c.loop-place.place + 1))) (sym w.self-is)
          (barred_ends c.args.mark c.index-text-place.result c.loop-place.place (λ h. let yes : c.allows.result ≡ true = c.allows.ensures.1 h in let no : c.allows.result ≡ false = w.if-allows.false in cc))
    ] in (
      length-set c.loop-place.self.rows c.loop-place.place row ∙ c.loop-place.invariant.0,
      rows_more (one c.args.mark) c.args.text.now c.loop-place.self 0 c.loop-place.place row (omega arith) c.loop-place.invariant.1
          (λ within. row_one_at c.args.mark c.args.text.now c.loop-place.place c.index-text-place.result row (omega arith) c.index-text-place.is ends refl),
    )

pub returns : goal.returns
returns c =
    let row : Row = record { ends = record { bits = 0 }; next = c.next.result } in
    let all : IsRows (one c.args.mark) c.args.text.now c.loop-place.self 0 (length c.args.text.now) = subst (IsRows (one c.args.mark) c.args.text.now c.loop-place.self 0) (omega arith) c.loop-place.invariant.1 in
    covers_rows (one c.args.mark) c.args.text.now (record { rows = set c.loop-place.self.rows (length c.args.text.now) row }) (length c.args.text.now + 1) (omega arith)
    (rows_more (one c.args.mark) c.args.text.now c.loop-place.self 0 (length c.args.text.now) row (omega arith) all
    (λ within. row_one_last c.args.mark c.args.text.now row (λ k. no_place k) c.next.ensures))
