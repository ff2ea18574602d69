-- The texts that spell certificates, and why a text is refused.
use Rattle.std.specs.Prelude.{◌≡◌, ◌≢◌, ℕ, ◌≤◌, ◌<◌, ◌==◌, nat_le, nat_lt, ℤ, Bool, List, [], ◌∷◌, ◌++◌, map}
use Rattle.std.specs.Prelude.{flat_map}
use Rattle.std.specs.Prelude.{length, Option, Some, None, IfSome, IsTrue, Result, Ok, Err, codes}
use Rattle.std.specs.List.{AllByRecursion, list_all, list_any}
use Rattle.tv_words.specs.declared.word.Word.{Word}
use Rattle.tv_words.specs.declared.word.Word.TheVariants.{Bare}
use Rattle.tv_words.specs.Lines.{lines_of}
use Rattle.tv_words.specs.Fields.{IsName, IsNumber, number_word}
use Rattle.tv_words.specs.Texts.{SpellsBy, IsFirstFaultyLine}
use Rattle.tv_model.specs.Description.Certificates.{letters}
use Rattle.tv_model.specs.declared.desc.Version.{Version}
use Rattle.tv_model.specs.declared.desc.Version.TheVariants as versions
use Rattle.tv_model.specs.declared.desc.When.{When}
use Rattle.tv_certificate.specs.declared.certificate.Certificate.{Certificate}
use Rattle.tv_certificate.specs.declared.certificate.Block.{Block}
use Rattle.tv_certificate.specs.declared.certificate.KeyLine.{KeyLine}
use Rattle.tv_certificate.specs.declared.reading.CertificateFault.{CertificateFault}
use Rattle.tv_certificate.specs.declared.reading.CertificateFault.TheVariants.{NoMemory, Syntax, TooLong}

-- ---- the words of each line

-- a control in the order of Tab
abbrev pub tab_words : List ℕ → List Word
tab_words name = Bare (codes "tab") ∷ Bare name ∷ []

-- the number of an item, where there is one
abbrev pub item_words : Option ℤ → List Word
item_words None = []
item_words (Some item) = number_word item ∷ []

-- while which item of radio buttons is marked, where that matters
abbrev pub when_words : Option When → List Word
when_words None = []
when_words (Some shown) = Bare (codes "when") ∷ Bare shown.radios ∷ number_word shown.item ∷ []

-- a letter with its owner
abbrev pub key_words : KeyLine → List Word
key_words line =
    Bare (codes "key") ∷ Bare (line.letter ∷ []) ∷ Bare line.owner
    ∷ (item_words line.item ++ when_words line.when)

-- the end of a block
abbrev pub end_words : List Word
end_words = Bare (codes "end") ∷ []

-- the dialog of which a block tells
abbrev pub dialog_words : List ℕ → List Word
dialog_words name = Bare (codes "dialog") ∷ Bare name ∷ []

-- a block: its dialog, its tab lines, its key lines and its end
abbrev pub block_lines : Block → List (List Word)
block_lines block =
    dialog_words block.dialog ∷ (map tab_words block.tabs ++ (map key_words block.keys ++ end_words ∷ []))

-- the word that stands for a version
abbrev pub version_number : Version → List ℕ
version_number versions.One = codes "1"
version_number versions.Two = codes "2"

-- the number that it stands for
abbrev pub number_of_version : Version → ℕ
number_of_version versions.One = 1
number_of_version versions.Two = 2

-- the first line
abbrev pub version_words : Version → List Word
version_words version = Bare (codes "tvcert") ∷ Bare (version_number version) ∷ []

-- all lines of a certificate
abbrev pub certificate_lines : Certificate → List (List Word)
certificate_lines certificate = version_words certificate.version ∷ flat_map block_lines certificate.blocks

-- ---- what can be spelled

-- a letter that a text can mark
abbrev pub is_letter : ℕ → Bool
is_letter ch = list_any (λ letter. letter == ch) letters

-- an item of radio buttons by their name, which version 1 knows nothing of
pub record IsWhen (version : Version) (shown : When) : Type 0 where
  pub allowed : version ≡ versions.Two
  pub radios : IsName shown.radios
  pub item : IsNumber shown.item

-- a letter that can be marked, with a name and perhaps a number and an item of radio buttons
pub record IsKeyLine (version : Version) (line : KeyLine) : Type 0 where
  pub letter : IsTrue (is_letter line.letter)
  pub owner : IsName line.owner
  pub item : IfSome line.item IsNumber
  pub when : IfSome line.when (IsWhen version)

-- a line of the second letter may come after one of the first: in version 1 letters rise, in version 2 they
-- don't fall
abbrev pub may_follow : Version → ℕ → ℕ → Bool
may_follow versions.One earlier later = nat_lt earlier later
may_follow versions.Two earlier later = nat_le earlier later

-- the line may come after the lines before it
abbrev pub is_above : Version → List KeyLine → KeyLine → Bool
is_above version before line = list_all (λ earlier. may_follow version earlier.letter line.letter) before

-- each line may come after those before it, of which some were seen already
abbrev pub LettersRise : Version → List KeyLine → List KeyLine → Type 0
LettersRise version before [] = Unit {0}
LettersRise version before (line ∷ lines) =
    IsTrue (is_above version before line) × LettersRise version (before ++ line ∷ []) lines

-- a block has at least one tab line, and its letters rise or don't fall, digits first
pub record IsBlock (version : Version) (block : Block) : Type 0 where
  pub dialog : IsName block.dialog
  pub some : block.tabs ≢ []
  pub tabs : AllByRecursion IsName block.tabs
  pub keys : AllByRecursion (IsKeyLine version) block.keys
  pub rising : LettersRise version [] block.keys

-- blocks that can be spelled
abbrev pub AreBlocks : Version → List Block → Type 0
AreBlocks version blocks = AllByRecursion (IsBlock version) blocks

-- a certificate that can be spelled
abbrev pub IsCertificate : Certificate → Type 0
IsCertificate certificate = AreBlocks certificate.version certificate.blocks

-- ---- texts

-- the lines spell the certificate
abbrev pub SpellsCertificateLines : List (List ℕ) → Certificate → Type 0
SpellsCertificateLines lines certificate = SpellsBy certificate_lines IsCertificate lines certificate

-- the text, one of no more bytes than a certificate may have, spells the certificate
pub record SpellsACertificate (text : List ℕ) (certificate : Certificate) : Type 0 where
  pub short : length text ≤ 262144
  pub lines : SpellsCertificateLines (lines_of text) certificate

-- the lines of some text, of however many bytes, spell the certificate
abbrev pub IsSpelledCertificate : Certificate → Type 0
IsSpelledCertificate certificate = (text : List ℕ) × SpellsCertificateLines (lines_of text) certificate

-- the text's lines spell the certificate, and no other
pub record SpellsCertificateOnly (text : List ℕ) (certificate : Certificate) : Type 0 where
  pub spelled : SpellsCertificateLines (lines_of text) certificate
  pub only : (other : Certificate) → SpellsCertificateLines (lines_of text) other → other ≡ certificate

-- what each refusal says of the text: it has too many bytes, or it hasn't, and its lines are refused
abbrev pub RefusesText : List ℕ → CertificateFault → Type 0
RefusesText text NoMemory = Unit {0}
RefusesText text (Syntax line) =
    (length text ≤ 262144) × IsFirstFaultyLine certificate_lines IsCertificate (lines_of text) line
RefusesText text TooLong = 262144 < length text

-- the certificate was read, unless memory ran out
abbrev pub GivesCertificate : Result Certificate CertificateFault → Certificate → Type 0
GivesCertificate (Ok found) certificate = found ≡ certificate
GivesCertificate (Err NoMemory) certificate = Unit {0}
GivesCertificate (Err (Syntax line)) certificate = ⊥
GivesCertificate (Err TooLong) certificate = ⊥
