-- What is told of a text beside a description.
use Rattle.std.specs.Prelude.{ℕ, ℤ, ◌⊎◌, ◌<◌, List, length, Bool, true, false, string_bytes}
use Rattle.tv_certificate.specs.CertificateTexts.{RefusesText, SpellsACertificate}
use Rattle.tv_certificate.specs.declared.certificate.Certificate.{Certificate}
use Rattle.tv_certificate.specs.declared.reading.CertificateFault.TheVariants as certificates
use Rattle.tv_check.specs.Certificates.{IsSoundCertificate}
use Rattle.tv_check.specs.Refusals.{RefusesToAccept}
use Rattle.tv_check.specs.declared.acceptance.Refusal.TheVariants as refusals
use Rattle.tv_model.specs.declared.desc.Desc.{Desc}
use Rattle.tv_machine.specs.declared.script.Item.{Item}
use Rattle.tv_script.specs.Scripts.{RefusesScript, SpellsAScript}
use Rattle.tv_script.specs.declared.script_text.ScriptFault.TheVariants as scripts
use Rattle.tv_advice.specs.Beginnings.{is_certificate}
use Rattle.tv_advice.specs.Blocks.{IsBlockAt, IsUnreadReport, off_screen}
use Rattle.tv_advice.specs.declared.beside.Beside.{Beside}
use Rattle.tv_advice.specs.declared.beside.Beside.TheVariants as besides
use Rattle.tv_advice.specs.declared.manner.Manner.{Manner}

-- whether the certificate is that of the description
abbrev pub IsCompared : Desc → Certificate → Beside → Type 0
IsCompared desc certificate besides.Fine = IsSoundCertificate desc certificate
IsCompared desc certificate (besides.Refused refusals.NoMemory) = ⊥
IsCompared desc certificate (besides.Refused refusal) = RefusesToAccept desc certificate refusal
IsCompared desc certificate _ = ⊥

-- the text spells a certificate, of which is told by `told`
abbrev pub SpellsAndIs : (told : Certificate → Type 0) → (text : List ℕ) → Type 0
SpellsAndIs told text = (certificate : Certificate) × SpellsACertificate text certificate × told certificate

-- a line of the certificate can't be read: the report begins with a block on the first such line
abbrev pub HasUnreadCertificateLine : Manner → (name text report : List ℕ) → Type 0
HasUnreadCertificateLine manner name text report =
    (line : ℕ) × RefusesText text (certificates.Syntax line) × IsUnreadReport manner name line report

-- a line of the script can't be read, and the report begins with a block on the first such line; or its point is
-- off the screen, and the report is a block on that line
abbrev pub HasFaultyScriptLine : Manner → (name : List ℕ) → (width height : ℤ) → (text report : List ℕ)
    → Type 0
HasFaultyScriptLine manner name width height text report =
    ((line : ℕ) × RefusesScript width height text (scripts.Syntax line)
    × IsUnreadReport manner name line report)
    ⊎ ((line : ℕ) × RefusesScript width height text (scripts.OffScreen line)
    × IsBlockAt manner name line off_screen report)

-- what is told of a certificate
abbrev pub IsToldOfCertificate : Manner → (name : List ℕ) → Desc → (text : List ℕ) → Beside → Type 0
IsToldOfCertificate manner name desc text besides.Fine = SpellsAndIs (IsSoundCertificate desc) text
IsToldOfCertificate manner name desc text (besides.Refused refusals.NoMemory) = ⊥
IsToldOfCertificate manner name desc text (besides.Refused refusal) =
    SpellsAndIs (λ certificate. RefusesToAccept desc certificate refusal) text
IsToldOfCertificate manner name desc text (besides.Faulty report) =
    HasUnreadCertificateLine manner name text (string_bytes report)
IsToldOfCertificate manner name desc text besides.LongCertificate = 262144 < length text
IsToldOfCertificate manner name desc text besides.LongScript = ⊥

-- what is told of a script
abbrev pub IsToldOfScript : Manner → (name : List ℕ) → (width height : ℤ) → (text : List ℕ) → Beside
    → Type 0
IsToldOfScript manner name width height text besides.Fine =
    (items : List Item) × SpellsAScript width height text items
IsToldOfScript manner name width height text (besides.Faulty report) =
    HasFaultyScriptLine manner name width height text (string_bytes report)
IsToldOfScript manner name width height text besides.LongScript =
    RefusesScript width height text scripts.TooLong
IsToldOfScript manner name width height text _ = ⊥

-- the report tells of a line of the text, by whether it is taken for a certificate
abbrev pub IsReportByKind : Bool → Manner → (name : List ℕ) → Desc → (text report : List ℕ) → Type 0
IsReportByKind true manner name desc text report = HasUnreadCertificateLine manner name text report
IsReportByKind false manner name desc text report =
    HasFaultyScriptLine manner name desc.width desc.height text report

-- what is told, by the same
abbrev pub IsToldByKind : Bool → Manner → (name : List ℕ) → Desc → (text : List ℕ) → Beside → Type 0
IsToldByKind true manner name desc text told = IsToldOfCertificate manner name desc text told
IsToldByKind false manner name desc text told = IsToldOfScript manner name desc.width desc.height text told

-- what is told holds of the text beside the description
abbrev pub IsToldBeside : Manner → (name : List ℕ) → Desc → (text : List ℕ) → Beside → Type 0
IsToldBeside manner name desc text told = IsToldByKind (is_certificate text) manner name desc text told

-- the report tells of a line of the text beside the description
abbrev pub IsReportBeside : Manner → (name : List ℕ) → Desc → (text report : List ℕ) → Type 0
IsReportBeside manner name desc text report =
    IsReportByKind (is_certificate text) manner name desc text report
