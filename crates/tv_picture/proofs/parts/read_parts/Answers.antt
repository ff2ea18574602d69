use Rattle.std.proofs.Common.{refl}
use Rattle.std.proofs.lemmas.Option.{IfSome_then}
use Rattle.tv_picture.specs.declared.row.Next.TheVariants.{Nothing}
use Rattle.tv_picture.specs.declared.row.Row.{Row}
use Rattle.tv_picture.specs.Code.{pattern_of}
use Rattle.tv_picture.specs.Pattern.{empty}
use Rattle.tv_picture.proofs.Rows.{row_empty}
use Rattle.tv_picture.proofs.Appended.{row_alone}
use Rattle.tv_picture.proofs.parts.read_parts.Goals as goal

pub returns : goal.returns
returns c =
    let start : Row = record { ends = c.only.result; next = Nothing } in
    IfSome_then c.code_after.result c.code_after.ensures
    (λ row r. row_alone (pattern_of c.args.code.now) c.args.text.now row (r.after empty (row_empty c.args.text.now 0 start c.only.ensures refl)))
