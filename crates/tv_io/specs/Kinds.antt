-- What the kind of the system's error says of a file.
use Rattle.std.specs.declared.io.ErrorKind.{ErrorKind}
use Rattle.std.specs.declared.io.ErrorKind.TheVariants.{OutOfMemory}
use Rattle.tv_io.specs.declared.read_fault.ReadFault.{ReadFault}
use Rattle.tv_io.specs.declared.read_fault.ReadFault.TheVariants.{NoMemory, Read}

-- why the bytes of a file aren't there: memory ran out, or the file can't be opened or read
abbrev pub fault_of_kind : ErrorKind → ReadFault
fault_of_kind OutOfMemory = NoMemory
fault_of_kind _ = Read
