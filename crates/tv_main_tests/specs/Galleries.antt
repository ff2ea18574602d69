-- What hangs in a gallery.
use Rattle.std.specs.Prelude.{◌≡◌, List, [], ◌∷◌, ◌++◌, Result, Ok, Err}
use Rattle.tv_program.specs.declared.album.AlbumFault.{AlbumFault}
use Rattle.tv_program.specs.declared.album.AlbumFault.TheVariants.{NoMemory}

-- one hangs behind those that did, or there was no memory to hang it
abbrev pub GainsExhibit : {H T : Type 0} → (old new : List H) → H → Result T AlbumFault → Type 0
GainsExhibit old new picture (Ok _) = new ≡ old ++ picture ∷ []
GainsExhibit old new picture (Err fault) = (new ≡ old) × (fault ≡ NoMemory)
