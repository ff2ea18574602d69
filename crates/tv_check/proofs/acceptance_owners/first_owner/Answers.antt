use Rattle.std.proofs.Common.{◌≡◌, All, map, rules, arith, subst}
use Rattle.tv_model.specs.Description.Certificates.{dialog_name, letters}
use Rattle.tv_check.specs.Certificates.{NamesOwner, NamesOwners, key_lines}
use Rattle.tv_check.specs.Owners.{VersionedDialog}
use Rattle.tv_check.specs.Refusals.{IsFirstWithout}
use Rattle.tv_check.proofs.FirstLemmas.{goes_on, gone, never_first, stops_here}
use Rattle.tv_check.proofs.acceptance_owners.first_owner.Goals as goal

pub returns-in-Some : goal.returns-in-Some
returns-in-Some c =
    let version = c.args.desc.now.version in
    let blocks = c.args.blocks.now in
    let dialog = c.dialog-item.result in
    let lines : map (λ line. line.now) c.deref.result.now ≡ key_lines blocks (dialog_name dialog) = search rules in
    let found = rw c.in-Some.is at c.in_ok-letter.ensures in
    let first : IsFirstWithout (NamesOwner version (key_lines blocks (dialog_name dialog)) dialog) letters c.in-Some.letter =
    subst (λ ls. IsFirstWithout (NamesOwner version ls dialog) letters c.in-Some.letter) lines
    (subst (λ (owned : VersionedDialog). IsFirstWithout (NamesOwner owned.version (map (λ line. line.now) c.deref.result.now) owned.dialog) letters c.in-Some.letter) c.in_ok-owners.ensures found) in (
      dialog,
      stops_here (NamesOwners version blocks) c.as_slice-dialog-items.result.now c.args.desc.now.dialogs c.loop-dialog.dialog-index dialog
          c.as_slice-dialog-items.ensures c.loop-dialog-test.true c.dialog-item.is c.loop-dialog.invariant
          (λ all. never_first (NamesOwner version (key_lines blocks (dialog_name dialog)) dialog) letters c.in-Some.letter all first),
      first,
    )

pub loop-dialog-preserved : goal.loop-dialog-preserved
loop-dialog-preserved c =
    let version = c.args.desc.now.version in
    let blocks = c.args.blocks.now in
    let dialog = c.dialog-item.result in
    let lines : map (λ line. line.now) c.deref.result.now ≡ key_lines blocks (dialog_name dialog) = search rules in
    let all = rw c.in_default.is at c.in_ok-letter.ensures in
    goes_on (NamesOwners version blocks) c.as_slice-dialog-items.result.now c.loop-dialog.dialog-index dialog c.loop-dialog-test.true c.dialog-item.is c.loop-dialog.invariant
    (subst (λ ls. All (NamesOwner version ls dialog) letters) lines
    (subst (λ (owned : VersionedDialog). All (NamesOwner owned.version (map (λ line. line.now) c.deref.result.now) owned.dialog) letters) c.in_ok-owners.ensures all))

pub returns : goal.returns
returns c =
    gone (NamesOwners c.args.desc.now.version c.args.blocks.now) c.as_slice-dialog-items.result.now c.args.desc.now.dialogs c.loop-dialog.dialog-index
    c.as_slice-dialog-items.ensures (omega (arith, c.loop-dialog-test.false)) c.loop-dialog.invariant
