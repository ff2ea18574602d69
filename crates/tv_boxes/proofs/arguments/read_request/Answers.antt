use Rattle.std.proofs.Common.{◌≡◌, Some, None, codes, true, false, ap, ◌∙◌, subst, sym}
use Rattle.std.specs.Str.{bytes_eq}
use Rattle.tv_boxes.specs.Arguments.{Reads, behind_option, read_from, setting_named}
use Rattle.tv_boxes.proofs.OptionLemmas.{behind_first, read_no, read_option, set_option}
use Rattle.tv_boxes.proofs.arguments.read_request.Goals as goal

pub loop-left-preserved-then-is_same : goal.loop-left-preserved-then-is_same
loop-left-preserved-then-is_same c =
    let same : bytes_eq c.option-item.result (codes "--defaultno") ≡ true = ap (λ o. bytes_eq o (codes "--defaultno")) (sym c.as_slice.ensures) ∙ sym c.if-is_same.ensures in
    sym (read_no c.loop-left.settings c.loop-left.left.now c.option-item.result c.in-len1-up.len_at_least c.option-item.is same) ∙ c.loop-left.invariant

pub loop-left-preserved : goal.loop-left-preserved
loop-left-preserved c =
    let s = c.loop-left.settings in
    let left = c.loop-left.left.now in
    let option = c.option-item.result in
    let other : bytes_eq option (codes "--defaultno") ≡ false = ap (λ o. bytes_eq o (codes "--defaultno")) (sym c.as_slice.ensures) ∙ sym c.if-is_same.ensures in
    let found : setting_named option ≡ Some c.in-Some.setting = ap setting_named (sym c.as_slice-else-is_same.ensures) ∙ sym c.in-Some.ensures in
    let read : read_from s left ≡ behind_option s option (Some c.in-Some.setting) (behind_first left) =
    read_option s left option c.in-len1-up.len_at_least c.option-item.is other ∙ ap (λ f. behind_option s option f (behind_first left)) found in
    let set = set_option s (behind_first left) option c.word-item.result c.in-Some.setting c.in-len1-up-rest.len_at_least c.word-item.is in
    rw (c.set.ensures, c.in_ok-copy.ensures) (sym set ∙ sym read ∙ c.loop-left.invariant)

pub returns-in_default-named : goal.returns-in_default-named
returns-in_default-named c =
    let s = c.loop-left.settings in
    let left = c.loop-left.left.now in
    let option = c.option-item.result in
    let other : bytes_eq option (codes "--defaultno") ≡ false = ap (λ o. bytes_eq o (codes "--defaultno")) (sym c.as_slice.ensures) ∙ sym c.if-is_same.ensures in
    let found : setting_named option ≡ None = ap setting_named (sym c.as_slice-else-is_same.ensures) ∙ sym c.in_default-named.ensures in
    let read : read_from s left ≡ behind_option s option None (behind_first left) =
    read_option s left option c.in-len1-up.len_at_least c.option-item.is other ∙ ap (λ f. behind_option s option f (behind_first left)) found in
    subst (λ asked. Reads asked c.read_box.result) (sym read ∙ c.loop-left.invariant) c.read_box.ensures
