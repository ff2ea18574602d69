-- How certificates are read, line by line. Private functions are held to these definitions.
use Rattle.std.specs.Prelude.{◌≡◌, ℕ, ◌+◌, ℤ, List, [], ◌∷◌, ◌++◌, Bool, false, Option, Some, None}
use Rattle.std.specs.Prelude.{option_map, codes, if◌then◌else◌}
use Rattle.tv_words.specs.declared.word.Word.{Word}
use Rattle.tv_words.specs.declared.word.Word.TheVariants.{Bare, Quoted}
use Rattle.tv_words.specs.Fields.{is_bare_word, name_in}
use Rattle.tv_words.specs.Lines.{lines_of}
use Rattle.tv_words.specs.Reading.LineWords.{line_taken}
use Rattle.tv_words.specs.Reading.Numbers.{number_in}
use Rattle.tv_model.specs.declared.desc.Version.{Version}
use Rattle.tv_model.specs.declared.desc.Version.TheVariants as versions
use Rattle.tv_model.specs.declared.desc.When.{When}
use Rattle.tv_model.specs.Description.Owners.{when_from}
use Rattle.tv_certificate.specs.declared.certificate.Certificate.{Certificate}
use Rattle.tv_certificate.specs.declared.certificate.Block.{Block}
use Rattle.tv_certificate.specs.declared.certificate.KeyLine.{KeyLine}
use Rattle.tv_certificate.specs.declared.reading.CertificateFault.{CertificateFault}
use Rattle.tv_certificate.specs.declared.reading.CertificateFault.TheVariants.{NoMemory, Syntax, TooLong}
use Rattle.tv_certificate.specs.declared.progress.Progress.{Progress}
use Rattle.tv_certificate.specs.declared.progress.Progress.TheVariants.{Fresh, Begun}
use Rattle.tv_certificate.specs.declared.progress.Stage.{Stage}
use Rattle.tv_certificate.specs.declared.progress.Stage.TheVariants as stages
use Rattle.tv_certificate.specs.CertificateTexts.{is_above, is_letter, version_number}

-- ---- words

-- the letter that a text is, if it is one that can be marked
abbrev pub one_letter : List ℕ → Option ℕ
one_letter (ch ∷ []) = if is_letter ch then Some ch else None
one_letter _ = None

-- the letter that a word is
abbrev pub letter_in : Word → Option ℕ
letter_in (Bare text) = one_letter text
letter_in (Quoted text) = None

-- the number after a key line's owner, or its absence: before three words it is the first
abbrev pub key_item_in : List Word → Option (Option ℤ)
key_item_in [] = Some None
key_item_in (word ∷ []) = option_map (λ item. Some item) (number_in word)
key_item_in (keyword ∷ radios ∷ number ∷ []) = Some None
key_item_in (word ∷ keyword ∷ radios ∷ number ∷ []) = option_map (λ item. Some item) (number_in word)
key_item_in _ = None

-- the item of radio buttons that three words name: in version 1 none do
abbrev pub when_in : Version → Word → Word → Word → Option When
when_in versions.One keyword radios number = None
when_in versions.Two keyword radios number =
    if is_bare_word keyword (codes "when") then when_from (name_in radios) (number_in number) else None

-- the item of radio buttons at the end of a key line, or its absence
abbrev pub key_when_in : Version → List Word → Option (Option When)
key_when_in version [] = Some None
key_when_in version (word ∷ []) = Some None
key_when_in version (keyword ∷ radios ∷ number ∷ []) =
    option_map (λ shown. Some shown) (when_in version keyword radios number)
key_when_in version (word ∷ keyword ∷ radios ∷ number ∷ []) =
    option_map (λ shown. Some shown) (when_in version keyword radios number)
key_when_in version _ = None

-- the key line of these parts
abbrev pub key_line_from : Option ℕ → Option (List ℕ) → Option (Option ℤ) → Option (Option When)
    → Option KeyLine
key_line_from (Some letter) (Some owner) (Some item) (Some shown) =
    Some (record { letter = letter; owner = owner; item = item; when = shown })
key_line_from _ _ _ _ = None

-- the key line that words are
abbrev pub key_line_read : Version → List Word → Option KeyLine
key_line_read version (keyword ∷ letter ∷ owner ∷ rest) =
    if is_bare_word keyword (codes "key")
    then key_line_from (letter_in letter) (name_in owner) (key_item_in rest) (key_when_in version rest)
    else None
key_line_read version _ = None

-- the name in a line of a keyword and a name
abbrev pub named_in : List ℕ → List Word → Option (List ℕ)
named_in kind (keyword ∷ name ∷ []) = if is_bare_word keyword kind then name_in name else None
named_in kind _ = None

-- the line that ends a block
abbrev pub is_block_end : List Word → Bool
is_block_end (keyword ∷ []) = is_bare_word keyword (codes "end")
is_block_end _ = false

-- the version that a word stands for
abbrev pub version_of : Word → Option Version
version_of word =
    if is_bare_word word (version_number versions.One) then Some versions.One
    else if is_bare_word word (version_number versions.Two) then Some versions.Two
    else None

-- the version that a first line names
abbrev pub certificate_version_in : List Word → Option Version
certificate_version_in (keyword ∷ version ∷ []) =
    if is_bare_word keyword (codes "tvcert") then version_of version else None
certificate_version_in _ = None

-- ---- declarations

-- a certificate of which the first line is read
abbrev pub begun : Version → Progress
begun version = Begun (record { version = version; blocks = [] }) stages.Between

-- a block of the dialog begins
abbrev pub block_begun : Certificate → List ℕ → Progress
block_begun read name = Begun read (stages.Tabs name [])

-- between blocks comes a dialog line
abbrev pub dialog_taken : Certificate → List Word → Option Progress
dialog_taken read ws = option_map (block_begun read) (named_in (codes "dialog") ws)

-- one block more
abbrev pub with_block : Certificate → Block → Certificate
with_block read block = record read { blocks = read.blocks ++ block ∷ [] }

-- one key line more
abbrev pub with_key : Block → KeyLine → Block
with_key block line = record block { keys = block.keys ++ line ∷ [] }

-- a key line may have to be above those before it
abbrev pub key_line_taken : Certificate → Block → Option KeyLine → Option Progress
key_line_taken read block None = None
key_line_taken read block (Some line) =
    if is_above read.version block.keys line then Some (Begun read (stages.Keys (with_key block line)))
    else None

-- in a block with its tab lines comes a key line or the end
abbrev pub key_taken : Certificate → Block → List Word → Option Progress
key_taken read block ws =
    if is_block_end ws then Some (Begun (with_block read block) stages.Between)
    else key_line_taken read block (key_line_read read.version ws)

-- a line that is no tab line can come only after one
abbrev pub after_tab : Certificate → List ℕ → List (List ℕ) → Option (List ℕ) → List Word → Option Progress
after_tab read name tabs (Some tab) ws = Some (Begun read (stages.Tabs name (tabs ++ tab ∷ [])))
after_tab read name [] None ws = None
after_tab read name (tab ∷ tabs) None ws =
    key_taken read (record { dialog = name; tabs = tab ∷ tabs; keys = [] }) ws

-- in a block without key lines comes a tab line, or what comes after these
abbrev pub tab_taken : Certificate → List ℕ → List (List ℕ) → List Word → Option Progress
tab_taken read name tabs ws = after_tab read name tabs (named_in (codes "tab") ws) ws

-- one declaration more, after the first
abbrev pub block_line_taken : Certificate → Stage → List Word → Option Progress
block_line_taken read stages.Between ws = dialog_taken read ws
block_line_taken read (stages.Tabs name tabs) ws = tab_taken read name tabs ws
block_line_taken read (stages.Keys block) ws = key_taken read block ws

-- one declaration more
abbrev pub certificate_line_taken : Progress → List Word → Option Progress
certificate_line_taken Fresh ws = option_map begun (certificate_version_in ws)
certificate_line_taken (Begun read stage) ws = block_line_taken read stage ws

-- a certificate ends between blocks
abbrev pub finished_at : Certificate → Stage → Option Certificate
finished_at read stages.Between = Some read
finished_at read _ = None

-- the certificate, where it is read to its end
abbrev pub finished_certificate : Progress → Option Certificate
finished_certificate Fresh = None
finished_certificate (Begun read stage) = finished_at read stage

-- ---- lines

-- what reading gives: the certificate, or the number of the first faulty line
pub data CertificateOutcome : Type 0 where
  Value : (certificate : Certificate) → CertificateOutcome
  Fault : (line : ℕ) → CertificateOutcome

-- what the end gives: a line that is missing counts as one
abbrev pub certificate_at_end : ℕ → Option Certificate → CertificateOutcome
certificate_at_end n None = Fault n
certificate_at_end n (Some certificate) = Value certificate

-- reading on, from the line n
abbrev pub certificate_from : ℕ → Progress → List (List ℕ) → CertificateOutcome
certificate_from n p [] = certificate_at_end n (finished_certificate p)
certificate_from n p (l ∷ ls) =
    elim (line_taken certificate_line_taken p l) as (λ _. CertificateOutcome) [
      | None ↦ Fault n
      | Some further ↦ certificate_from (n + 1) further ls
    ]

-- what reading a text gives
abbrev pub certificate_outcome : List ℕ → CertificateOutcome
certificate_outcome text = certificate_from 1 Fresh (lines_of text)

-- what a refusal says of a line and what it is taken to
abbrev pub RefusesCertificateLine : CertificateFault → ℕ → Option Progress → Type 0
RefusesCertificateLine NoMemory n further = Unit {0}
RefusesCertificateLine (Syntax line) n further = (line ≡ n) × (further ≡ None)
RefusesCertificateLine TooLong n further = ⊥

-- what a refusal says of what reading gives
abbrev pub CertificateStopsAt : CertificateFault → CertificateOutcome → Type 0
CertificateStopsAt NoMemory r = Unit {0}
CertificateStopsAt (Syntax line) r = r ≡ Fault line
CertificateStopsAt TooLong r = ⊥
