-- What is left of a session whose script was stopped.
use Rattle.std.specs.Prelude.{Err}
use Rattle.tv_io.specs.Reader.{Given}
use Rattle.tv_io.specs.Writer.{Seen}
use Rattle.tv_machine.specs.Run.{Session}
use Rattle.tv_script.specs.declared.stream_fault.StreamFault.{StreamFault}
use Rattle.tv_script.specs.Streams.{ComesFrom}
use Rattle.tv_script.specs.Streams.ComesFrom.{broken, cut, done, faulty, unbegun, unwritten}

module _ (s : Session) (reader left : Given) (old new : Seen) (Left : Session → Type 0) where
  -- whatever stopped it, it stands for some run
  pub goes_on : (fault : StreamFault) → ComesFrom s reader left old new Left (Err fault) → (t : Session) × Left t
  goes_on fault (done given items gave few ended read performs told) = (_, performs.performs.left)
  goes_on fault (faulty given items found gave few decided performs told) = (_, performs.performs.left)
  goes_on fault (broken given items mid gave broke few read performs told) = (_, performs.performs.left)
  goes_on fault (cut given items begun gave few first before stops told) = (_, stops.state)
  goes_on fault (unwritten unread stops told) = (_, stops.state)
  goes_on fault (unbegun unread performs told) = (_, performs.performs.left)
