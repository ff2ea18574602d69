use Rattle.std.proofs.Common.{◌≡◌, ◌+◌, ◌≤◌, length}
use Rattle.tv_words.specs.LinesLeft.{lines_left}
use Rattle.tv_certificate.specs.CertificateReading.{certificate_from, certificate_outcome}
use Rattle.tv_certificate.proofs.reading.read_lines.Given as goal

abbrev pub invariant-loop-line : goal.invariant-loop-line
invariant-loop-line l = (certificate_from l.number l.progress (lines_left l.line-iterator) ≡ certificate_outcome l.text) × (l.number + length (lines_left l.line-iterator) ≤ 262145)
