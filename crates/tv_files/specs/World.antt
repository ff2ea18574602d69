-- What is known of the system outside the program.
use Rattle.std.specs.Prelude.{Option}
use Rattle.tv_io.specs.Writer.{Seen}
use Rattle.tv_program.specs.Albums.{Hung}
use Rattle.tv_program.specs.Filling.{Written}
use Rattle.tv_play.specs.Pieces.{Heard}
use Rattle.tv_play.specs.Playing.{Ports, untaped}
use Rattle.tv_files.specs.Files.{Known}
use Rattle.tv_files.specs.declared.world.World.{World}

-- what is known of the program's files, album and streams at a moment
pub record KnownWorld : Type 0 where
  pub files : Known
  pub album : Option Hung
  pub heard : Heard
  pub out : Seen
  pub err : Seen

-- what a world stands for, by what each of its parts does
abbrev pub known_world : {F A P O E : Type 0} → (F → Known) → (A → Option Hung) → (P → Heard) → (O → Seen)
    → (E → Seen) → World F A P O E → KnownWorld
known_world known hung heard out_seen err_seen world = record {
  files = known world.files;
  album = hung world.album;
  heard = heard world.pieces;
  out = out_seen world.out;
  err = err_seen world.err;
}

-- what a task hears and writes, without a tape
abbrev pub ports_of : KnownWorld → Ports
ports_of world = record { input = world.heard; log = world.out; screen = world.err; tape = untaped }

-- what both streams have been written
abbrev pub written_of : KnownWorld → Written
written_of world = record { out = world.out; told = world.err }
