-- What the kind of the system's error says of a picture's file that isn't made.
use Rattle.std.specs.declared.io.ErrorKind.{ErrorKind}
use Rattle.std.specs.declared.io.ErrorKind.TheVariants.{OutOfMemory}
use Rattle.tv_program.specs.declared.album.AlbumFault.{AlbumFault}
use Rattle.tv_program.specs.declared.album.AlbumFault.TheVariants.{NoMemory, Write}

-- why there is no file: memory ran out, or there is no place for it
abbrev pub unmade_for : ErrorKind → AlbumFault
unmade_for OutOfMemory = NoMemory
unmade_for _ = Write
