use Rattle.std.proofs.Common.{◌≡◌, ◌∙◌, ℕ, List, Result, Ok, Err, ap, subst, sym, slice_index, string_bytes}
use Rattle.std.specs.Prelude.{IfOk}
use Rattle.tv_advice.specs.Blocks.{IsBlockAt}
use Rattle.tv_explain.specs.Places.{place}
use Rattle.tv_warnings.proofs.BlockLemmas.{is_warning_by}
use Rattle.tv_warnings.proofs.warning.block_on.Goals as goal

pub returns : goal.returns
returns c =
    is_warning_by c.args.source.now.manner c.args.source.now.name.now c.args.source.now.text.now c.args.page.now.desc.now c.args.finding.now c.in_ok-standing.standing.own
    c.args.page.now.places c.in_ok-warning.warning.own.line c.code.result.now c.warning_block.result
    c.in_ok-standing.ensures c.requires c.in_ok-warning.ensures c.code.ensures c.warning_block.ensures
