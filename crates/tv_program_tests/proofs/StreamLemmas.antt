-- What is left of a session that performed a script as it came.
use Rattle.std.specs.Prelude.{Result}
use Rattle.tv_io.specs.Reader.{Given}
use Rattle.tv_io.specs.Writer.{Seen}
use Rattle.tv_machine.specs.Run.{Session}
use Rattle.tv_script.specs.declared.stream_fault.StreamFault.{StreamFault}
use Rattle.tv_script.specs.Streams.{ComesFrom}
use Rattle.tv_script.specs.Streams.ComesFrom.{broken, cut, done, faulty, unbegun, unwritten}

module _ (s : Session) (reader left : Given) (old new : Seen) (Left : Session → Type 0) where
  -- whatever came of it, it stands for some run
  pub goes_on : (r : Result (Unit {0}) StreamFault) → ComesFrom s reader left old new Left r → (t : Session) × Left t
  goes_on r (done given items gave few ended read performs told) = (_, performs.performs.left)
  goes_on r (faulty given items found gave few decided performs told) = (_, performs.performs.left)
  goes_on r (broken given items mid gave broke few read performs told) = (_, performs.performs.left)
  goes_on r (cut given items begun gave few first before stops told) = (_, stops.state)
  goes_on r (unwritten unread stops told) = (_, stops.state)
  goes_on r (unbegun unread performs told) = (_, performs.performs.left)
