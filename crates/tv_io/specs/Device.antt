-- What a device took, and what it keeps back.
use Rattle.std.specs.Prelude.{ℕ, List, Option}
use Rattle.std.specs.Io.Buffered.{writer_buffer, writer_contents}
use Rattle.tv_io.specs.declared.device.Device.{Device}
use Rattle.tv_io.specs.Writer.{Seen}

-- the device as a writer: what it keeps back counts as taken
abbrev pub device_seen : {W : Type 0} → (W → Option (List ℕ)) → Device W → Seen
device_seen contents d = record {
  taken = writer_contents contents d.writer;
  kept = writer_buffer d.writer;
  failures = d.failures;
}
