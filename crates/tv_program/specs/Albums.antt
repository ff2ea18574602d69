-- What an album has.
use Rattle.std.specs.Prelude.{◌≡◌, ℕ, ◌+◌, List, [], ◌∷◌, ◌++◌, length, Option, Some, None, Result, Ok, Err}
use Rattle.tv_io.specs.Writer.{HasRisen}
use Rattle.tv_program.specs.declared.album.AlbumFault.{AlbumFault}
use Rattle.tv_program.specs.declared.album.AlbumFault.TheVariants.{NoMemory, Write}
use Rattle.tv_program.specs.declared.picture_fault.ShotFault.{ShotFault}

-- a picture, and the name under which it was put
pub record NamedPicture : Type 0 where
  pub name : List ℕ
  pub text : List ℕ

abbrev pub drawn_as : (name text : List ℕ) → NamedPicture
drawn_as name text = record { name = name; text = text }

-- the pictures that an album has, in order, and the count of those that it could not write
pub record Hung : Type 0 where
  pub pictures : List NamedPicture
  pub failures : ℕ

-- where it is known what an album has, it has these pictures more, and wrote all that it was given
abbrev pub Gains : Option Hung → Option Hung → List NamedPicture → Type 0
Gains None new more = Unit {0}
Gains (Some old) None more = ⊥
Gains (Some old) (Some new) more = (new.pictures ≡ old.pictures ++ more) × (new.failures ≡ old.failures)

-- where it is known, it has no picture more, and could not write one
abbrev pub Misses : Option Hung → Option Hung → Type 0
Misses None new = Unit {0}
Misses (Some old) None = ⊥
Misses (Some old) (Some new) = (new.pictures ≡ old.pictures) × HasRisen old.failures new.failures

-- a picture failed: only where the album could not write it, it is said that it did not
abbrev pub FailsFor : (old new : Option Hung) → AlbumFault → Type 0
FailsFor old new NoMemory = Gains old new []
FailsFor old new Write = Misses old new

-- the picture with a number, counted from 1, failed: the album has those before it more
pub record GainsBefore (old new : Option Hung) (all : List NamedPicture) (failed : ShotFault) : Type 0 where
  pub front : List NamedPicture
  pub next : NamedPicture
  pub rest : List NamedPicture
  pub parts : all ≡ front ++ next ∷ rest
  pub place : failed.number ≡ length front + 1
  pub mid : Option Hung
  pub gains : Gains old mid front
  pub fails : FailsFor mid new failed.fault

-- it has all of them more, or those before one that failed
abbrev pub GainsAll : (old new : Option Hung) → List NamedPicture → Result (Unit {0}) ShotFault → Type 0
GainsAll old new all (Ok _) = Gains old new all
GainsAll old new all (Err failed) = GainsBefore old new all failed
