-- What the certificate of a description is that has no fault and that some text spells.
use Rattle.std.proofs.Common.{List, [], ◌∷◌, get_or}
use Rattle.std.specs.List.{AllByRecursion, list_any}
use Rattle.std.proofs.lemmas.Bool.{or_parts}
use Rattle.std.proofs.lemmas.List.Elements.{recursion_from_All}
use Rattle.tv_model.specs.declared.desc.Desc.{Desc}
use Rattle.tv_model.specs.declared.desc.Dialog.{Dialog}
use Rattle.tv_model.specs.Description.Names.{shares_name}
use Rattle.tv_model.specs.Faults.{IsSound}
use Rattle.tv_model.specs.Faults.Lines.{after_seen}
use Rattle.tv_lang.specs.CanonicalDescription.{CanBeSpelled}
use Rattle.tv_words.specs.Canonical.{canonical_text}
use Rattle.tv_check.specs.Certificates.{IsSoundCertificate, certificate_of}
use Rattle.tv_certificate.specs.CertificateTexts.{IsSpelledCertificate, certificate_lines}
use Rattle.tv_faults.specs.Usable.{HasLawfulCounts, IsUsableDialog}
use Rattle.tv_certificate.proofs.SpelledLemmas.{canonical_spelled}
use Rattle.tv_check.proofs.SoundLemmas.{made_sound}
use Rattle.tv_check.proofs.SpelledLemmas.{IsReady, certificate_spelled}
use Rattle.tv_faults.proofs.UsableLemmas.{lawful_counts, new_names, sound_usable}
use Rattle.tv_check.proofs.DialogLemmas.{IsSpelledDialog, dialogs_spelled}

pub sound_made : (d : Desc) → IsSound d → IsSoundCertificate d (certificate_of d)
sound_made d sound =
    made_sound d (λ i pair less. (or_parts (list_any (λ window. shares_name (get_or (after_seen [] d.dialogs) i pair).1.node window.node) d.windows) _ (new_names d sound i pair less)).1)

all_ready : (d : Desc) (dialogs : List Dialog) → AllByRecursion IsSpelledDialog dialogs → AllByRecursion HasLawfulCounts dialogs → AllByRecursion (IsUsableDialog d) dialogs → AllByRecursion IsReady dialogs
all_ready d [] are lawful usable = tt
all_ready d (dialog ∷ dialogs) are lawful usable = (
  record { spelled = are.0; lawful = lawful.0; control = usable.0.control },
  all_ready d dialogs are.1 lawful.1 usable.1,
)

pub spelled_made : (d : Desc) → IsSound d → CanBeSpelled d → IsSpelledCertificate (certificate_of d)
spelled_made d sound can =
    let ready = all_ready d d.dialogs (dialogs_spelled d can) (recursion_from_All HasLawfulCounts d.dialogs (lawful_counts d sound)) (recursion_from_All (IsUsableDialog d) d.dialogs (sound_usable d sound).dialogs) in
    (canonical_text (certificate_lines (certificate_of d)), canonical_spelled (certificate_of d) (certificate_spelled d.version d.dialogs ready))
