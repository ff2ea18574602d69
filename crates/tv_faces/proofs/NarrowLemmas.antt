-- Characters that take one column are shown as they are.
use Rattle.std.proofs.Common.{◌≡◌, ℕ, ◌<◌, ◌≤◌, refl}
use Rattle.tv_cells.specs.Glyph.{IsNarrow, shown_char}
use Rattle.tv_cells.proofs.NarrowLemmas.{ascii_narrow}

pub shown_narrow : (ch : ℕ) → IsNarrow ch → shown_char ch ≡ ch
shown_narrow ch narrow = rw narrow refl

pub shown_ascii : (ch : ℕ) → 32 ≤ ch → ch < 127 → shown_char ch ≡ ch
shown_ascii ch low high = shown_narrow ch (ascii_narrow ch low high)
