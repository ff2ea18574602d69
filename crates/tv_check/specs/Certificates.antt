-- Certificates, and which of them are sound for a description.
use Rattle.std.specs.Prelude.{◌≡◌, ℕ, ◌==◌, List, IfSome, map, filter, flat_map, All, bytes_eq}
use Rattle.tv_model.specs.declared.desc.Desc.{Desc}
use Rattle.tv_model.specs.declared.desc.Dialog.{Dialog}
use Rattle.tv_model.specs.declared.desc.Version.{Version}
use Rattle.tv_model.specs.Controls.Owner.{LetterOwner}
use Rattle.tv_model.specs.Description.Owners.{KeyOwner, owners_of}
use Rattle.tv_model.specs.Description.Certificates.{dialog_name, letters, tab_order, tabs_of}
use Rattle.tv_words.specs.Fields.{IsNumber}
use Rattle.tv_certificate.specs.declared.certificate.Certificate.{Certificate}
use Rattle.tv_certificate.specs.declared.certificate.Block.{Block}
use Rattle.tv_certificate.specs.declared.certificate.KeyLine.{KeyLine}

-- ---- what a certificate tells

-- the owner that a key line names
abbrev pub owner_named : KeyLine → KeyOwner
owner_named line = record { owner = record { name = line.owner; item = line.item }; when = line.when }

-- its tab lines, each beside the name of its dialog, all blocks as one list
abbrev pub tab_lines : List Block → List (List ℕ × List ℕ)
tab_lines blocks = flat_map (λ block. map (λ name. (block.dialog, name)) block.tabs) blocks

-- the key lines of a dialog, in all blocks of its name
abbrev pub key_lines : List Block → List ℕ → List KeyLine
key_lines blocks dialog =
    flat_map (λ block. block.keys) (filter (λ block. bytes_eq block.dialog dialog) blocks)

-- the owners that some key lines give to a letter
abbrev pub owners_in : List KeyLine → ℕ → List KeyOwner
owners_in lines letter = map owner_named (filter (λ line. line.letter == letter) lines)

-- ---- sound certificates

-- among the key lines of a dialog, those of the letter name its owners, in their order: none where it has no
-- owner, and more than one where views share it, which version 2 allows
abbrev pub NamesOwner : Version → List KeyLine → Dialog → ℕ → Type 0
NamesOwner version lines dialog letter = owners_in lines letter ≡ owners_of version dialog letter

-- so does each letter among the key lines of the dialog
abbrev pub NamesOwners : Version → List Block → Dialog → Type 0
NamesOwners version blocks dialog =
    All (NamesOwner version (key_lines blocks (dialog_name dialog)) dialog) letters

-- the version is the description's, the tab lines are the order of Tab, and each letter of each dialog has
-- its owners. A dialog's lines may stand in several blocks
pub record IsSoundCertificate (d : Desc) (certificate : Certificate) : Type 0 where
  pub version : certificate.version ≡ d.version
  pub tabs : tab_lines certificate.blocks ≡ tab_order d
  pub owners : All (NamesOwners d.version certificate.blocks) d.dialogs

-- ---- the certificate that is made of a description

-- the number of its item, if any, is one that a text can have
abbrev pub FitsKeyLine : LetterOwner → Type 0
FitsKeyLine owner = IfSome owner.item IsNumber

-- so is that of the owner of a letter, which may be one for a time
abbrev pub FitsOwner : KeyOwner → Type 0
FitsOwner owner = FitsKeyLine owner.owner

-- the key line that names an owner of the letter
abbrev pub key_line : ℕ → KeyOwner → KeyLine
key_line letter owner =
    record { letter = letter; owner = owner.owner.name; item = owner.owner.item; when = owner.when }

-- a key line for each owner of a letter, in the order of the letters
abbrev pub keys_of : Version → Dialog → List KeyLine
keys_of version dialog = flat_map (λ letter. map (key_line letter) (owners_of version dialog letter)) letters

-- the block of a dialog: its tab lines and its key lines
abbrev pub block_of : Version → Dialog → Block
block_of version dialog =
    record { dialog = dialog_name dialog; tabs = tabs_of dialog; keys = keys_of version dialog }

-- the version of the description, and one block for each dialog, in description order
abbrev pub certificate_of : Desc → Certificate
certificate_of d = record { version = d.version; blocks = map (block_of d.version) d.dialogs }
