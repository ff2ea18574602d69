-- The blocks of a report, one for each fault.
use Rattle.std.specs.Prelude.{◌≡◌, ℕ, ◌<◌, List, [], ◌∷◌, ◌++◌, codes, decimal}
use Rattle.tv_explain.specs.declared.explaining.Explained.{Explained}
use Rattle.tv_model.specs.Faults.{fault_number}
use Rattle.tv_advice.specs.Heads.{block_head}
use Rattle.tv_advice.specs.declared.manner.Manner.{Manner}

-- the block begins with the file, the line, some column and the fault
pub record IsBlockAt (manner : Manner) (name : List ℕ) (line : ℕ) (fault block : List ℕ) : Type 0 where
  pub column : ℕ
  pub rest : List ℕ
  pub begins : block ≡ block_head manner name line column fault ++ rest

-- a fault by its number
abbrev pub numbered_fault : ℕ → List ℕ
numbered_fault number = 70 ∷ decimal number

-- the block of an explained fault
abbrev pub IsBlockOn : Manner → (name : List ℕ) → Explained → (block : List ℕ) → Type 0
IsBlockOn manner name fault block =
    IsBlockAt manner name fault.line (numbered_fault (fault_number fault.fault.kind)) block

-- a block for each of the faults, in order, and nothing else
abbrev pub IsReportOn : Manner → (name : List ℕ) → List Explained → (report : List ℕ) → Type 0
IsReportOn manner name [] report = report ≡ []
IsReportOn manner name (fault ∷ faults) report =
    (block : List ℕ) × (others : List ℕ) × (report ≡ block ++ others)
    × IsBlockOn manner name fault block × IsReportOn manner name faults others

-- the block of a line that can't be read
abbrev pub IsUnreadBlock : Manner → (name : List ℕ) → (line : ℕ) → (report : List ℕ) → Type 0
IsUnreadBlock manner name line report = IsBlockAt manner name line (codes "syntax") report

-- a block on the first line that can't be read, and blocks on lines behind it, each behind the one before, and
-- nothing else; the last of them is on the line `last`
pub data AreUnreadBlocks (manner : Manner) (name : List ℕ) (first : ℕ) : (last : ℕ) → (report : List ℕ)
    → Type 0 where
  one : (block : List ℕ) → IsUnreadBlock manner name first block
      → AreUnreadBlocks manner name first first block
  further : (last line : ℕ) (report block : List ℕ) → AreUnreadBlocks manner name first last report
      → last < line → IsUnreadBlock manner name line block
      → AreUnreadBlocks manner name first line (report ++ block)

-- a block on this line, the first that can't be read, and maybe further ones, on lines behind it
abbrev pub IsUnreadReport : Manner → (name : List ℕ) → (line : ℕ) → (report : List ℕ) → Type 0
IsUnreadReport manner name line report = (last : ℕ) × AreUnreadBlocks manner name line last report

-- the block of a line that says another version
abbrev pub IsVersionBlock : Manner → (name : List ℕ) → (line : ℕ) → (report : List ℕ) → Type 0
IsVersionBlock manner name line report = IsBlockAt manner name line (codes "version") report

-- what a point off the screen is called
abbrev pub off_screen : List ℕ
off_screen = codes "off screen"
