use Rattle.std.proofs.Common.{arith}
use Rattle.tv_machine.specs.Screen.Bars.{status_text}
use Rattle.tv_menu.specs.Spots.{seen_spot}
use Rattle.tv_menu.proofs.LawfulLemmas.{items_behind, length_behind}
use Rattle.tv_menu.proofs.SpotLemmas.{spot_behind}
use Rattle.tv_menu.proofs.spot.+spot_in.Goals as goal

pub spot_in-requires : goal.spot_in-requires
spot_in-requires t c =
    let behind = length_behind c.args.items.now c.in_ok-entry.behind.now c.in_ok-entry.entry.now c.in_ok-entry.ensures.cases.0 in (
      omega (arith, c.decreases, c.columns_of-columns.ensures, c.if-column-columns.false),
      (
        omega (arith, behind, c.requires.places),
        items_behind c.args.items.now c.in_ok-entry.behind.now c.in_ok-entry.entry.now c.in_ok-entry.ensures.cases.0 c.requires.lawful,
      ),
    )

-- the column stands behind the first text
pub returns-else-column-columns : goal.returns-else-column-columns
returns-else-column-columns t c = record {
  is = λ first. spot_behind (λ spot. spot) status_text c.args.place first c.args.column c.in_ok-entry.behind.now (seen_spot c.spot_in.result)
      c.columns_of-columns.result c.args.items.now c.in_ok-entry.entry.now c.as_slice.result.now
      c.in_ok-entry.ensures.cases.0 c.as_slice.ensures c.columns_of-columns.ensures c.if-column-columns.false (λ from. c.spot_in.ensures.is from);
  lawful = c.spot_in.ensures.lawful;
}
