-- What drawing the screens of a script comes to.
use Rattle.std.specs.Prelude.{◌≡◌, ℕ, List, Option, Result}
use Rattle.tv_model.specs.declared.desc.Desc.{Desc}
use Rattle.tv_io.specs.Reader.{Given}
use Rattle.tv_io.specs.Writer.{Seen}
use Rattle.tv_program.specs.Albums.{Hung}
use Rattle.tv_program.specs.Drawing.{PicturesTo}
use Rattle.tv_program.specs.Shots.{ShotsTo}
use Rattle.tv_program.specs.declared.picture_fault.DrawingFault.{DrawingFault}
use Rattle.tv_program.specs.declared.run_fault.RunFault.{RunFault}
use Rattle.tv_files.specs.Ends.{End, end_of_run, end_of_shots}
use Rattle.tv_files.specs.Files.{Known}
use Rattle.tv_files.specs.Tasks.{OnStream}

-- ---- the screen that it leaves

-- what `picture` answers, told as an end
abbrev pub PicturesAs : (Mismade : Desc → Type 0) → (file script : List ℕ) → (old new : Seen) → End
    → (text : List ℕ) (reader left : Given) → Type 0
PicturesAs Mismade file script old new end text reader left =
    (r : Result (Unit {0}) RunFault) × PicturesTo Mismade text reader left old new r
    × (end ≡ end_of_run file script r)

-- the description is read once the script is opened, and the script once the description's views are made
abbrev pub PicturesFiles : (Mismade : Desc → Type 0) → (files after : Known) → (file script : List ℕ)
    → (old new : Seen) → End → Type 0
PicturesFiles Mismade files after file script old new end =
    OnStream (PicturesAs Mismade file script old new end) files after file script old new end

-- ---- the screen at each `shot`

-- what `picture_shots` answers, told as an end; the pictures have the script's path and a number as their
-- names
abbrev pub ShotsAs : (Mismade : Desc → Type 0) → (file script : List ℕ)
    → (old new : Option Hung) → End → (text : List ℕ) (reader left : Given) → Type 0
ShotsAs Mismade file script old new end text reader left =
    (r : Result (Unit {0}) DrawingFault) × ShotsTo Mismade text script reader left old new r
    × (end ≡ end_of_shots file script r)

-- the files are opened and read as they are for one picture
abbrev pub PicturesAll : (Mismade : Desc → Type 0) → (files after : Known) → (file script : List ℕ)
    → (old new : Option Hung) → End → Type 0
PicturesAll Mismade files after file script old new end =
    OnStream (ShotsAs Mismade file script old new end) files after file script old new end
