use Rattle.std.proofs.Common.{◌≡◌, ℕ, ◌≤◌, List, ◌++◌, drop, length, map, sym, ap, ◌∙◌, append-nil, subst, arith}
use Rattle.std.specs.Prelude.{All}
use Rattle.std.proofs.lemmas.List.{drop_all}
use Rattle.tv_certificate.specs.CertificateTexts.{IsSpelledCertificate}
use Rattle.tv_faults.specs.Usable.{HasLawfulCounts}
use Rattle.tv_faults.proofs.UsableLemmas.{lawful_counts}
use Rattle.tv_check.specs.Certificates.{IsSoundCertificate, block_of, certificate_of}
use Rattle.tv_check.proofs.MadeLemmas.{sound_made, spelled_made}
use Rattle.tv_check.proofs.certification.certificate_of.Goals as goal

pub block_of-requires : goal.block_of-requires
block_of-requires c =
    let all : All HasLawfulCounts c.as_slice-dialog-items.result.now = subst (All HasLawfulCounts) (sym c.as_slice-dialog-items.ensures) (lawful_counts c.args.desc.now c.requires.sound) in
    subst HasLawfulCounts (sym c.dialog-item.is) (all c.loop-dialog.dialog-index c.dialog-item.result c.loop-dialog-test.true)

-- a loop that has gone past all items has made something of each
all_made : {A B : Type 0} (f : A → B) (items : List A) (i : ℕ) (made whole : List B) → length items ≤ i → made ++ map f (drop i items) ≡ whole → made ≡ whole
all_made f items i made whole past so_far = sym (append-nil made) ∙ ap (λ rest. made ++ map f rest) (sym (drop_all i items past)) ∙ so_far

pub returns-clause-sound : goal.returns-clause-sound
returns-clause-sound c =
    let all : c.loop-dialog.blocks ≡ (certificate_of c.args.desc.now).blocks =
    all_made (block_of c.args.desc.now.version) c.as_slice-dialog-items.result.now c.loop-dialog.dialog-index c.loop-dialog.blocks _ (omega (arith, c.loop-dialog-test.false)) c.loop-dialog.invariant in
    subst (λ blocks. IsSoundCertificate c.args.desc.now (record { version = c.args.desc.now.version; blocks = blocks })) (sym all) (sound_made c.args.desc.now c.requires.sound)

pub returns-clause-spelled : goal.returns-clause-spelled
returns-clause-spelled c =
    let all : c.loop-dialog.blocks ≡ (certificate_of c.args.desc.now).blocks =
    all_made (block_of c.args.desc.now.version) c.as_slice-dialog-items.result.now c.loop-dialog.dialog-index c.loop-dialog.blocks _ (omega (arith, c.loop-dialog-test.false)) c.loop-dialog.invariant in
    subst (λ blocks. IsSpelledCertificate (record { version = c.args.desc.now.version; blocks = blocks })) (sym all) (spelled_made c.args.desc.now c.requires.sound c.requires.spelled)
